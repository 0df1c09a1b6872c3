pub mod Bytes
pub mod Comparing
pub mod Lists
pub mod Meets
pub mod Nodes
pub mod Shapes
pub mod Walks
