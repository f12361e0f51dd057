pub mod BothStates
pub mod MergedTexts
pub mod MergedVerdicts
