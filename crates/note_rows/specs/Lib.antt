pub mod NoteRows
pub mod Steps
pub mod Promises
pub mod Laws
