pub mod Pairs
mod Courses
mod Laws
mod Answered
mod Extended
