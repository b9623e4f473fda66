mod Named
mod Plain
mod Spelling
mod Taken
