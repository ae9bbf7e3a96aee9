pub mod ExchangeLemmas
pub mod RepairLemmas
