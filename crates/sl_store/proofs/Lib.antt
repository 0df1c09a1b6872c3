pub mod StoreLaws
pub mod KindLaws
