pub mod ChangeLaws
pub mod KeyLaws
pub mod TableLaws
pub mod TrailLaws
pub mod UndoLaws
