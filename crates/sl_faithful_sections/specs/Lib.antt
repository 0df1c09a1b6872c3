pub mod UseLaws
pub mod SizeLaws
pub mod SoundLaws
pub mod NameLaws
pub mod BuildLaws
