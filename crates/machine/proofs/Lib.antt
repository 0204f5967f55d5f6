mod Placed
mod Uses
