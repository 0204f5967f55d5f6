pub mod Every
mod Codes
mod RoundTrip
