pub mod SymbolLemmas
