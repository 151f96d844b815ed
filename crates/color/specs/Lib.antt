pub mod Stop
pub mod Byte
pub mod Accuracy
pub mod Average
pub mod Paint
pub mod Lent
pub mod Numbers
pub mod Worked
