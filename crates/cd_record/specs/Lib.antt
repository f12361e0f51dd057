pub mod RecordText
pub mod RecordReading
pub mod Records
