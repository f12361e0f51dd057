pub mod StoreVerdicts
