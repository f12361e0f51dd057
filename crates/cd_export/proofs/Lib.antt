pub mod OnOpened
pub mod PinTrees
pub mod ServeRuns
pub mod ExportLaws
