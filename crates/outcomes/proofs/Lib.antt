mod Blocks
mod Entries
mod LawRows
