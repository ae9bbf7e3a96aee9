pub mod DeviceLemmas
pub mod PendingLemmas
pub mod RequestLemmas
pub mod TalkLemmas
pub mod TurnLemmas
mod QueueLemmas
