-- Entries of several journals in the order of their stamps.
use Rattle.std.specs.Prelude.{ℕ, suc, ◌+◌, ◌≤◌, List, [], ◌∷◌, ◌++◌}
use Rattle.std.specs.List.Sorted.{IsPermutation}
use Rattle.journal.specs.Entry.{Entry}
use Rattle.journal.specs.Logs.{Log}
use Rattle.journal.specs.Stamps.{stamp_of}

-- an entry at a place of the journal with this index
pub record Step : Type 0 where
  pub vnode : ℕ
  pub place : ℕ
  pub entry : Entry

-- the entries of one journal, from this place on
abbrev pub steps_from : ℕ → ℕ → List Entry → List Step
steps_from vnode place [] = []
steps_from vnode place (e ∷ es) = record { vnode = vnode; place = place; entry = e } ∷ steps_from vnode (place + 1) es

-- all entries, journal by journal, from this index on
abbrev pub steps_of : ℕ → List Log → List Step
steps_of vnode [] = []
steps_of vnode (log ∷ logs) = steps_from vnode 0 log.entries ++ steps_of (vnode + 1) logs

-- each stamp is above the one before it
abbrev pub Rise : ℕ → List Step → Type 0
Rise low [] = Unit {0}
Rise low (s ∷ ss) = (low ≤ stamp_of s.entry) × Rise (suc (stamp_of s.entry)) ss

-- all entries in the order of their stamps, of which none stands twice
pub record IsInStampOrder (logs : List Log) (order : List Step) : Type 0 where
  pub same : IsPermutation (steps_of 0 logs) order
  pub rising : Rise 0 order
