pub mod CheckLaws
pub mod MigrateLaws
