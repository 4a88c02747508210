pub mod SymbolLemmas
pub mod NumberLemmas
