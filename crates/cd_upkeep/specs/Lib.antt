pub mod Texts
pub mod CheckCall
pub mod MigrateCall
