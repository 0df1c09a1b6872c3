pub mod Images
pub mod Numbers
pub mod Parts
pub mod Requests
pub mod Views
pub mod Words
