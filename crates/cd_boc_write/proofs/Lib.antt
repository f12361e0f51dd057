pub mod TextLaws
pub mod HeaderLaws
pub mod WidthLaws
pub mod KeyLaws
pub mod LayingLaws
pub mod ExportBags
