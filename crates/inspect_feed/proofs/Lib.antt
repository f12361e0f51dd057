pub mod NumberedParts
