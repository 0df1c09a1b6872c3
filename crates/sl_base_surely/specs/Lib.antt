pub mod Surely
