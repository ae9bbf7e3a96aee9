-- Merges of copies, each of a key of which nothing was known: only memory can lack.
use Rattle.std.proofs.Common.{◌≡◌, ℕ, zero, suc, ◌+◌, ◌<◌, false, List, [], ◌∷◌, ◌++◌, length, get_or, take, refl, sym, ap, subst, ◌∙◌, inl, inr, arith, append_assoc}
use Rattle.std.specs.Prelude.{Contains, ◌==◌}
use Rattle.std.specs.List.{AllByRecursion}
use Rattle.std.specs.List.Sorted.{IsStrictlySortedBy}
use Rattle.std.specs.declared.cmp.Ordering.TheVariants.{Less}
use Rattle.std.specs.Ordering.{is_eq}
use Rattle.std.proofs.lemmas.List.{append-nil, take_more, length-take-le}
use Rattle.std.proofs.lemmas.List.Sums.{count_by-le-length}
use Rattle.dvv.specs.declared.Dot.{Dot}
use Rattle.dvv.specs.Clock.{counter}
use Rattle.key_state.specs.declared.content.Key.{Key}
use Rattle.key_state.specs.State.{State, empty, IsState}
use Rattle.journal.specs.Entry.{Entry, Merge}
use Rattle.journal.specs.Keys.{key_cmp, same_key}
use Rattle.journal.specs.Limits.{TakesEntry}
use Rattle.journal.specs.Logs.{Log}
use Rattle.journal.specs.Replay.{IsReplay}
use Rattle.journal.proofs.BroughtLemmas.{empty_replayed}
use Rattle.journal.proofs.Replayed.{silent_replayed, merge_silent}
use Rattle.journal.proofs.Unique.{one_replay}
use Rattle.vnode.specs.declared.fault.VnodeFault.{VnodeFault}
use Rattle.vnode.specs.declared.fault.VnodeFault.TheVariants.{ContextAhead, TooManySiblings, ClockFull, MergedClockFull, JournalFull, NoMemory}
use Rattle.vnode.specs.declared.steps.Copied.{Copied as Held}
use Rattle.vnode.specs.Refusals.{RefusesMerge, RefusesMergeAt}
use Rattle.vnode.specs.States.{keys_of}
use Rattle.world.specs.Appending.{merges_of_copies}
use Rattle.world.proofs.Lists.{Contains-nil, Contains-cases, Contains-first, Contains-later}

-- a merge into nothing passes no limit
pub only_memory : (log : Log) (key : Key) (state : State) (r : VnodeFault) → IsReplay log.entries key empty → TakesEntry log.entries → IsState state → RefusesMerge log key state r → r ≡ NoMemory
only_memory log key state r unknown place is (mine, replay, why) = by_cause r (subst (λ (s : State). RefusesMergeAt log state.clock s r) (one_replay log.entries key mine empty replay unknown) why)
  where
    by_cause : (r : VnodeFault) → RefusesMergeAt log state.clock empty r → r ≡ NoMemory
    by_cause MergedClockFull why = absurd (why (record { clock = let c = count_by-le-length (λ (entry : Dot). counter [] entry.vnode == 0) state.clock in let f = is.clock.few in omega (arith, c, f) }))
    by_cause JournalFull why = absurd (let full = why.1 in omega (arith, full, place))
    by_cause NoMemory why = refl
    by_cause ContextAhead why = absurd why
    by_cause TooManySiblings why = absurd why
    by_cause ClockFull why = absurd why

-- merges of other keys tell nothing of a key
untold : (es : List Entry) (stamp from at : ℕ) (held : List Held) (k : Key) → ((c : Held) → Contains held c → same_key c.key k ≡ false) → IsReplay es k empty → IsReplay (es ++ merges_of_copies stamp from at held) k empty
untold es stamp from at [] k other r = subst (λ (xs : List Entry). IsReplay xs k empty) (sym (append-nil es)) r
untold es stamp from at (one ∷ held) k other r =
    subst (λ (xs : List Entry). IsReplay xs k empty) (append_assoc es (Merge stamp one.key from at one.state ∷ []) (merges_of_copies (stamp + 1) from (at + 1) held))
    (untold (es ++ Merge stamp one.key from at one.state ∷ []) (stamp + 1) from (at + 1) held k (λ c h. other c (Contains-later one held c h))
    (silent_replayed es (Merge stamp one.key from at one.state) k empty (merge_silent stamp one.key from at one.state k (other one (Contains-first one held))) r))

-- what holds of all keys holds of one
at_index : (P : Key → Type 0) (held : List Held) (i : ℕ) (one : Held) → AllByRecursion P (keys_of held) → i < length held → one ≡ get_or held i one → P one.key
at_index P [] i one all lt is = absurd (omega (arith, lt))
at_index P (h ∷ held) zero one all lt is = subst (λ (x : Held). P x.key) (sym is) all.0
at_index P (h ∷ held) (suc i) one all lt is = at_index P held i one all.1 (omega (arith, lt)) is

-- rising keys before one are others
others : (held : List Held) (i : ℕ) (one : Held) → IsStrictlySortedBy key_cmp (keys_of held) → i < length held → one ≡ get_or held i one → (c : Held) → Contains (take i held) c → same_key c.key one.key ≡ false
unfolding IsStrictlySortedBy
others [] i one rising lt is c here = absurd (omega (arith, lt))
others (h ∷ held) zero one rising lt is c here = absurd (Contains-nil c here)
others (h ∷ held) (suc i) one rising lt is c here = elim (Contains-cases h (take i held) c here) [
  | inl first ↦ subst (λ (x : Held). same_key x.key one.key ≡ false) first (ap is_eq (at_index (λ y. key_cmp h.key y ≡ Less) held i one rising.0 (omega (arith, lt)) is))
  | inr rest ↦ others held i one rising.1 (omega (arith, lt)) is c rest
]

-- a key is untold before its copy is merged
pub unknown_yet : (stamp from at : ℕ) (held : List Held) (i : ℕ) (one : Held) → IsStrictlySortedBy key_cmp (keys_of held) → i < length held → one ≡ get_or held i one → IsReplay (merges_of_copies stamp from at (take i held)) one.key empty
unknown_yet stamp from at held i one rising lt is = untold [] stamp from at (take i held) one.key (others held i one rising lt is) (empty_replayed one.key)

-- one merge more
merges-push : (stamp from at : ℕ) (held : List Held) (one : Held) → merges_of_copies stamp from at (held ++ one ∷ []) ≡ merges_of_copies stamp from at held ++ Merge (stamp + length held) one.key from (at + length held) one.state ∷ []
merges-push stamp from at [] one = ap (λ n. Merge n one.key from at one.state ∷ []) (omega arith) ∙ ap (λ n. Merge (stamp + 0) one.key from n one.state ∷ []) (omega arith)
merges-push stamp from at (first ∷ held) one =
    ap (λ es. Merge stamp first.key from at first.state ∷ es) (merges-push (stamp + 1) from (at + 1) held one
    ∙ ap (λ n. merges_of_copies (stamp + 1) from (at + 1) held ++ Merge n one.key from (at + 1 + length held) one.state ∷ []) (omega arith)
    ∙ ap (λ n. merges_of_copies (stamp + 1) from (at + 1) held ++ Merge (stamp + length (first ∷ held)) one.key from n one.state ∷ []) (omega arith))

pub one_more_merge : (stamp from at : ℕ) (held : List Held) (i : ℕ) (one : Held) → i < length held → one ≡ get_or held i one → merges_of_copies stamp from at (take (i + 1) held) ≡ merges_of_copies stamp from at (take i held) ++ Merge (stamp + i) one.key from (at + i) one.state ∷ []
one_more_merge stamp from at held i one lt is =
    ap (merges_of_copies stamp from at) (take_more held i one lt ∙ ap (λ e. take i held ++ e ∷ []) (sym is)) ∙ merges-push stamp from at (take i held) one
    ∙ ap (λ n. merges_of_copies stamp from at (take i held) ++ Merge (stamp + n) one.key from (at + n) one.state ∷ []) (length-take-le i held (omega (arith, lt)))
