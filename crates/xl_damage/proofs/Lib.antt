mod Settled
mod Made
