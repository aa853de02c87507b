pub mod Lines
pub mod PartyLists
