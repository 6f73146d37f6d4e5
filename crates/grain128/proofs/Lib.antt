pub mod Filled
pub mod OneCipher
