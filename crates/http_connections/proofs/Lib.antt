pub mod TalkLemmas
pub mod SpokenLemmas
pub mod MoveLemmas
pub mod LogLemmas
pub mod HallLemmas
pub mod ClientLemmas
pub mod UnsentLemmas
