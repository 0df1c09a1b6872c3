pub mod DecodeLaws
pub mod Sight
pub mod InstructionLaws
