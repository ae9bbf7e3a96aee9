-- All that a vnode knows, read at once.
use Rattle.std.proofs.Common.{◌≡◌, ℕ, ◌+◌, ◌<◌, ◌≤◌, List, [], ◌∷◌, ◌++◌, length, get_or, take, refl, sym, ap, subst, ◌∙◌, arith, append_assoc, length-append}
use Rattle.std.specs.List.{All}
use Rattle.std.specs.List.Sorted.{IsPermutation, IsSorted, IsStrictlySortedBy}
use Rattle.std.proofs.lemmas.List.{append-nil, take_more, length-map, length-take-le, map-append}
use Rattle.std.proofs.lemmas.List.Elements.{All-weaker}
use Rattle.std.proofs.lemmas.List.Sorted.{IsPermutation-sym, Contains-permutation, length_permutation}
use Rattle.std.proofs.lemmas.Map.Keys.{IsDistinct-IsPermutation}
use Rattle.key_state.specs.declared.content.Key.{Key}
use Rattle.journal.specs.Entry.{Entry, Read}
use Rattle.journal.specs.Keys.{key_cmp}
use Rattle.journal.specs.Logs.{Log, with_entry, with_entries, max_entries}
use Rattle.journal.specs.Replay.{IsReplay}
use Rattle.vnode.specs.declared.steps.Copied.{Copied}
use Rattle.vnode.specs.Keys.{AreKeys, AreUnsorted, reads_of}
use Rattle.vnode.specs.declared.states.States.{States}
use Rattle.vnode.specs.Shards.{key_eq}
use Rattle.vnode.specs.States.{state_at, Replays, all_known, AreKnown, AreCopied, keys_of}
use Rattle.vnode.proofs.Listed.{known_is_key, key_is_known, known_distinct}
use Rattle.vnode.proofs.Keyed.{key_laws}
use Rattle.vnode.proofs.Sorted.{sorted_rises, known_rises}
use Rattle.vnode.proofs.Stepped.{read_kept}

-- the known keys are the keys of the vnode
pub are_keys : (states : States) (log : Log) (keys : List Key) → Replays states log → IsPermutation (all_known states) keys → IsStrictlySortedBy key_cmp keys → AreKeys log keys
are_keys states log keys h moves rising = record {
  each = λ k. (
    λ listed. known_is_key states log k h (Contains-permutation keys (all_known states) k (IsPermutation-sym (all_known states) keys moves) listed),
    λ key. Contains-permutation (all_known states) keys k moves (key_is_known states log k h key),
  );
  rising = rising;
}

-- once a sort put them in the order of bytes
pub known_are_keys : (states : States) (log : Log) (keys : List Key) → Replays states log → AreKnown states keys → AreKeys log keys
known_are_keys states log keys h known = are_keys states log keys h known.each (known_rises states keys h.placed known)

-- as they are listed they are so, too, in some order
pub are_unsorted : (states : States) (log : Log) (keys : List Key) → Replays states log → keys ≡ all_known states → AreUnsorted log keys
are_unsorted states log keys h is = subst (AreUnsorted log) (sym is) (record {
  each = λ k. (known_is_key states log k h, key_is_known states log k h);
  once = known_distinct states h.placed;
})

-- and once they are sorted they stand in the order of bytes
pub sorted_unsorted : (log : Log) (keys sorted : List Key) → AreUnsorted log keys → IsPermutation keys sorted → IsSorted key_cmp sorted → AreKeys log sorted
sorted_unsorted log keys sorted are moves sorts = record {
  each = λ k. (
    λ listed. (are.each k).0 (Contains-permutation sorted keys k (IsPermutation-sym keys sorted moves) listed),
    λ key. Contains-permutation keys sorted k moves ((are.each k).1 key),
  );
  rising = sorted_rises sorted (IsDistinct-IsPermutation key_eq key_laws.symm keys sorted moves are.once) sorts;
}

-- and each copy has the state that the journal leaves
pub copied_states : (states : States) (log : Log) (copies : List Copied) → Replays states log → AreCopied states copies → All (λ c. IsReplay log.entries c.key c.state) copies
copied_states states log copies h copied = All-weaker (λ (c : Copied). c.state ≡ state_at states c.key) (λ (c : Copied). IsReplay log.entries c.key c.state) (λ c is. subst (IsReplay log.entries c.key) (sym is) (h.leaves c.key)) copies copied.each

-- as many states are copied as keys are known
pub copies_count : (states : States) (copies : List Copied) → AreCopied states copies → length (keys_of copies) ≡ length (all_known states)
copies_count states copies copied = length_permutation (all_known states) (keys_of copies) copied.keys.each

-- one key more
pub reads-push : (stamp : ℕ) (keys : List Key) (key : Key) → reads_of stamp (keys ++ key ∷ []) ≡ reads_of stamp keys ++ Read (stamp + length keys) key ∷ []
reads-push stamp [] key = ap (λ n. Read n key ∷ []) (omega arith)
reads-push stamp (first ∷ keys) key = ap (λ es. Read stamp first ∷ es) (reads-push (stamp + 1) keys key ∙ ap (λ n. reads_of (stamp + 1) keys ++ Read n key ∷ []) (omega arith))

pub one_more_read : (stamp : ℕ) (copies : List Copied) (i : ℕ) (one : Copied) (reads new : List Entry) (read : Entry) → i < length copies → one ≡ get_or copies i one
    → reads ≡ reads_of stamp (keys_of (take i copies)) → read ≡ Read (stamp + i) one.key → new ≡ reads ++ read ∷ [] → new ≡ reads_of stamp (keys_of (take (i + 1) copies))
one_more_read stamp copies i one reads new read lt is so_far read_is new_is =
    new_is ∙ ap (λ es. es ++ read ∷ []) so_far ∙ ap (λ e. reads_of stamp (keys_of (take i copies)) ++ e ∷ []) (read_is ∙ ap (λ n. Read n one.key) (sym (ap (λ n. stamp + n) count)))
    ∙ sym (reads-push stamp (keys_of (take i copies)) one.key) ∙ ap (reads_of stamp) (sym more)
  where
    count : length (keys_of (take i copies)) ≡ i
    count = length-map (take i copies) (λ (c : Copied). c.key) ∙ length-take-le i copies (omega (arith, lt))

    more : keys_of (take (i + 1) copies) ≡ keys_of (take i copies) ++ one.key ∷ []
    more = ap keys_of (take_more copies i one lt ∙ ap (λ e. take i copies ++ e ∷ []) (sym is)) ∙ map-append (λ (c : Copied). c.key) (take i copies) (one ∷ [])

pub length-reads : (stamp : ℕ) (keys : List Key) → length (reads_of stamp keys) ≡ length keys
length-reads stamp [] = refl
length-reads stamp (key ∷ keys) = let rest = length-reads (stamp + 1) keys in omega (arith, rest)

-- reads change nothing
pub reads_kept : (states : States) (log after : Log) (stamp : ℕ) (keys : List Key) → length log.entries + length keys ≤ max_entries → Replays states log
    → after ≡ with_entries log (reads_of stamp keys) → Replays states after
reads_kept states log after stamp [] fits h is = subst (Replays states) (sym (is ∙ ap (λ es. record { vnode = log.vnode; entries = es }) (append-nil log.entries))) h
reads_kept states log after stamp (key ∷ keys) fits h is =
    reads_kept states (with_entry log (Read stamp key)) after (stamp + 1) keys (let more = length-append log.entries (Read stamp key ∷ []) in omega (arith, more, fits))
    (read_kept states log (with_entry log (Read stamp key)) stamp key (omega (arith, fits)) h refl)
    (is ∙ ap (λ es. record { vnode = log.vnode; entries = es }) (sym (append_assoc log.entries (Read stamp key ∷ []) (reads_of (stamp + 1) keys))))
