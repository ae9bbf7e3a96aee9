-- Names on the way through a program's slots.
use Rattle.std.specs.Prelude.{◌≡◌, ℕ, ◌<◌, List, Option, None, Some, slice_get, vec_len}
use Rattle.std.specs.Global.{Box}
use Rattle.bpf_insn.specs.declared.Insn.{Insn}
use Rattle.bpf_copies.specs.Names.{Names, arriving, names_at}
use Rattle.bpf_copies.specs.declared.bounds.Bounds.{Bounds}
use Rattle.bpf_copies.specs.declared.course.Course.{Course}

-- names that wait for a slot, if some do
abbrev pub unboxed : Option (Box Names) → Option Names
unboxed None = None
unboxed (Some names) = Some names.value

abbrev pub held_in : Option (Option (Box Names)) → Option Names
held_in None = None
held_in (Some names) = unboxed names

abbrev pub held_at : List (Option (Box Names)) → ℕ → Option Names
held_at waiting k = held_in (slice_get waiting k)

-- before slot i of so many: the names there, and what lower slots bring to each slot behind it
pub record Follows (code : List Insn) (known : ℕ → Bounds) (slots i : ℕ) (course : Course) : Type 0 where
  pub here : course.here ≡ names_at code known i
  pub long : vec_len course.waiting ≡ slots
  pub waiting : (k : ℕ) → i < k → k < slots → held_at course.waiting.items k ≡ arriving code known i k
