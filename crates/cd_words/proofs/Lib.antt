pub mod ListLaws
pub mod LineLaws
pub mod ValueLaws
pub mod PlainLaws
pub mod CommandLaws
