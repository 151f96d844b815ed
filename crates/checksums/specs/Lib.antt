pub mod Crc
pub mod Adler
pub mod Worked
