pub mod KidTexts
pub mod DataFaults
pub mod StoredLevels
pub mod Fields
pub mod KidReading
pub mod RecordLaws
