pub mod Macros
pub mod MacroViews
pub mod Seen
pub mod Steps
pub mod Work
