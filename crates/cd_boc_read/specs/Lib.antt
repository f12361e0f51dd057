pub mod Views
pub mod Grammar
pub mod Places
pub mod FaultRows
pub mod CellFaults
pub mod Reading
pub mod BagFaults
