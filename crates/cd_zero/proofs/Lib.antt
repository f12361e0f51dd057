pub mod FirstStores
pub mod StoringLaws
pub mod StateLaws
pub mod ZeroLaws
