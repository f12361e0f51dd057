pub mod TurnLaws
pub mod SentLaws
