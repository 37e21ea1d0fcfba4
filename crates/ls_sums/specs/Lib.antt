pub mod Crc64
pub mod WalSum
pub mod PageSum
pub mod Word
pub mod AnyCut
pub mod Window
