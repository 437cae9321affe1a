-- Writes into a buffer.
pub mod Bytes
pub mod Decimal
