-- Pairs that wait for the slots to which jumps lead.
use Rattle.std.specs.Prelude.{◌≡◌, ℕ, ◌<◌, List, Option, None, Some, slice_get, vec_len}
use Rattle.bpf_verifier.specs.Registers.{Row}
use Rattle.bpf_verifier.specs.Program.{Program}
use Rattle.bpf_verifier.specs.Pairs.{no_pairs}
use Rattle.bpf_verifier.specs.PairSteps.{pairs_arriving}
use Rattle.bpf_verifier.specs.declared.pair.Pairs.{Pairs}
use Rattle.bpf_verifier.specs.declared.meetings.Brought.{Brought}
use Rattle.bpf_verifier.specs.declared.meetings.Brought.TheVariants as brought
use Rattle.bpf_verifier.specs.declared.meetings.Meetings.{Meetings}

-- what jumps brought to a slot, if they brought anything
abbrev pub pairs_of : Brought → Option Pairs
pairs_of brought.Nothing = None
pairs_of brought.NoPair = Some no_pairs
pairs_of (brought.Known pairs) = Some pairs.value

abbrev pub pairs_in : Option Brought → Option Pairs
pairs_in None = None
pairs_in (Some b) = pairs_of b

abbrev pub brought_at : List Brought → ℕ → Option Pairs
brought_at waiting k = pairs_in (slice_get waiting k)

-- before slot i of so many: what lower slots bring to each slot behind it
pub record Meets (p : Program) (rows : List (Option Row)) (slots i : ℕ) (meetings : Meetings) : Type 0 where
  pub long : vec_len meetings.waiting ≡ slots
  pub waiting : (k : ℕ) → i < k → k < slots → brought_at meetings.waiting.items k ≡ pairs_arriving p rows i k
