pub mod Cut
pub mod Hex
pub mod Decimal
pub mod Magnitudes
pub mod Signed
pub mod NameTable
pub mod Bytes
