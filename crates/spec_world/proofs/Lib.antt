pub mod Shown
pub mod Rows
pub mod Interleaved
pub mod Lasting
pub mod SlotLaws
pub mod Entered
pub mod Standing
pub mod Filled
pub mod Stacks
pub mod Changed
pub mod Taken
pub mod Submitted
pub mod AllRight
mod Beside
pub mod Marked
pub mod Exact
pub mod StaysExact
