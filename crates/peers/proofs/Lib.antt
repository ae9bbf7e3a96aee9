pub mod CallLemmas
pub mod LocalLemmas
