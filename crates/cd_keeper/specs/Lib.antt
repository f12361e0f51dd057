pub mod Contents
pub mod Keeping
pub mod Memories
pub mod NoKeyTwice
pub mod Shown
pub mod Undo
