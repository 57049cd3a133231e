pub mod Lrc
