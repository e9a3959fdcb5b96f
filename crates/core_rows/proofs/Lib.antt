mod Outs
mod Sent
mod ShownTwice
