mod Spread
mod Nodes
mod Small
