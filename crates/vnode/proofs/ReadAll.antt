-- What a vnode's reads of all its keys leave, by their outcome.
use Rattle.std.proofs.Common.{◌≡◌, ℕ, ◌+◌, ◌≤◌, List, length, sym, subst, ◌∙◌}
use Rattle.std.specs.Prelude.{Result, Ok, Err, IfOk, OnOk, OnErr}
use Rattle.std.proofs.lemmas.List.{length-map}
use Rattle.journal.specs.Logs.{Log, with_entries, max_entries}
use Rattle.vnode.specs.declared.steps.Copied.{Copied}
use Rattle.vnode.specs.Keys.{reads_of}
use Rattle.vnode.specs.declared.states.States.{States}
use Rattle.vnode.specs.States.{Replays, all_known, AreCopied, keys_of}
use Rattle.vnode.proofs.ReadLemmas.{copies_count, reads_kept}

-- the states are still what the journal leaves
pub all_kept : {X E : Type 0} (r : Result X E) (copies : X → List Copied) (states : States) (log after : Log) (stamp : ℕ) → Replays states log → OnOk r (length log.entries + length (all_known states) ≤ max_entries)
    → IfOk r (λ x. AreCopied states (copies x)) → IfOk r (λ x. after ≡ with_entries log (reads_of stamp (keys_of (copies x)))) → OnErr r (after ≡ log) → Replays states after
all_kept (Ok x) copies states log after stamp h places is entries err =
    reads_kept states log after stamp (keys_of (copies x)) (subst (λ (n : ℕ). length log.entries + n ≤ max_entries) (sym (copies_count states (copies x) is)) places) h entries
all_kept (Err e) copies states log after stamp h places is entries err = subst (Replays states) (sym err) h

-- and there were places for them
pub places_told : {X E : Type 0} (r : Result X E) (copies : X → List Copied) (states : States) (inside log : Log) → inside ≡ log → OnOk r (length inside.entries + length (all_known states) ≤ max_entries)
    → IfOk r (λ x. AreCopied states (copies x)) → IfOk r (λ x. length log.entries + length (keys_of (copies x)) ≤ max_entries)
places_told (Ok x) copies states inside log same places is =
    subst (λ (l : Log). length l.entries + length (keys_of (copies x)) ≤ max_entries) same (subst (λ (n : ℕ). length inside.entries + n ≤ max_entries) (sym (copies_count states (copies x) is)) places)
places_told (Err e) copies states inside log same places is = tt

-- as many states are copied as keys are known
pub known_count : (states : States) (copies : List Copied) → AreCopied states copies → length copies ≡ length (all_known states)
known_count states copies copied = sym (length-map copies (λ (c : Copied). c.key)) ∙ copies_count states copies copied
