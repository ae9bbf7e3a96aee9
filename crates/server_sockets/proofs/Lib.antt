pub mod WorkLemmas
pub mod ShowsLemmas
