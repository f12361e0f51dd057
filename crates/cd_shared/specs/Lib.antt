pub mod SharedTurns
pub mod Going
