-- the bytes of parts
pub mod Parts
-- slices of a list
pub mod Slices
