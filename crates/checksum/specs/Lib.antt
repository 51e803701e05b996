pub mod Checksum
