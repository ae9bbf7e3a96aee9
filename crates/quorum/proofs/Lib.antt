pub mod JudgedLemmas
pub mod MergeLemmas
pub mod PutLemmas
pub mod ReadLemmas
pub mod ResolveLemmas
pub mod RisenLemmas
pub mod ShowLemmas
pub mod StoredLemmas
