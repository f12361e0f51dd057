pub mod BothLaws
pub mod RightTexts
