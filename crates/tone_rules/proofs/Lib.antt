pub mod NoneGiven
