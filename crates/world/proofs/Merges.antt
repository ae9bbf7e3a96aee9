-- What merges of records leave.
use Rattle.std.proofs.Common.{◌≡◌, ℕ, ◌+◌, ◌≤◌, ◌⊎◌, Bool, true, false, cond, List, [], ◌∷◌, ◌++◌, length, refl, sym, ap, subst, ◌∙◌, inl, inr, arith, append_assoc, length-append, ◌&&◌, ◌||◌, Option, Some, None, is_none}
use Rattle.std.specs.Prelude.{Contains, ◌==◌}
use Rattle.std.specs.List.{AllByRecursion, list_any}
use Rattle.std.specs.Option.{option_or}
use Rattle.std.proofs.Math.Bool.{or-false}
use Rattle.std.specs.List.Sorted.{IsStrictlySortedBy}
use Rattle.std.specs.declared.cmp.Ordering.TheVariants.{Less}
use Rattle.std.specs.Ordering.{is_eq}
use Rattle.std.proofs.lemmas.Bool.{cases_Bool}
use Rattle.std.proofs.lemmas.List.{append-nil}
use Rattle.std.proofs.lemmas.List.Sums.{count_by-le-length}
use Rattle.dvv.specs.declared.Dot.{Dot}
use Rattle.dvv.specs.Clock.{covers, counter}
use Rattle.key_state.specs.declared.content.Content.{Content}
use Rattle.key_state.specs.declared.content.Key.{Key}
use Rattle.key_state.specs.State.{State, empty, IsState, content_at}
use Rattle.journal.specs.Entry.{Entry, Merge}
use Rattle.journal.specs.Keys.{key_cmp, same_key}
use Rattle.journal.specs.Logs.{Log, max_entries}
use Rattle.journal.specs.Journals.{IsJournal, MayFollow}
use Rattle.journal.specs.Replay.{IsReplay, IsKeyOf, LeaveAlike, sibling_in, known_in, first_held}
use Rattle.journal.specs.Entries.{drops}
use Rattle.journal.proofs.BroughtLemmas.{empty_replayed}
use Rattle.journal.proofs.Keyed.{one_key, same_itself, same_is}
use Rattle.journal.proofs.Replayed.{silent_replayed, merge_silent, held_known, dropped_known, journal_end, no_entry}
use Rattle.record_codec.specs.declared.record.Record.{Record}
use Rattle.world.specs.Beginning.{merges_of}
use Rattle.world.proofs.Lists.{Contains-later, Contains-first, Contains-cases, Contains-nil}
use Rattle.world.specs.Records.{AreMergesOf, AreOfAll, AreRising, keys_in, nothing, one_more}

-- the key of a record stands among the keys
pub key_among : (records : List Record) (r : Record) → Contains records r → Contains (keys_in records) r.key
key_among [] r c = absurd (Contains-nil r c)
key_among (h ∷ records) r c = elim (Contains-cases h records r c) [
  | inl is ↦ subst (λ (k : Key). Contains (h.key ∷ keys_in records) k) (ap (λ (x : Record). x.key) is) (Contains-first h.key (keys_in records))
  | inr rest ↦ Contains-later h.key (keys_in records) r.key (key_among records r rest)
]

-- a key that stands among them is that of a record
pub record_among : (records : List Record) (k : Key) → Contains (keys_in records) k → (r : Record) × Contains records r × (r.key ≡ k)
record_among [] k c = absurd (Contains-nil k c)
record_among (h ∷ records) k c = elim (Contains-cases h.key (keys_in records) k c) [
  | inl is ↦ (h, Contains-first h records, is)
  | inr rest ↦ let t = record_among records k rest in (t.0, Contains-later h records t.0 t.1, t.2)
]

-- the head of rising keys is another than those behind it
pub head_other : (k : Key) (records : List Record) (r : Record) → AllByRecursion (λ y. key_cmp k y ≡ Less) (keys_in records) → Contains records r → same_key k r.key ≡ false
head_other k [] r all c = absurd (Contains-nil r c)
head_other k (h ∷ records) r all c = elim (Contains-cases h records r c) [
  | inl is ↦ subst (λ (x : Record). same_key k x.key ≡ false) is (ap is_eq all.0)
  | inr rest ↦ head_other k records r all.1 rest
]

clash : {b : Bool} → b ≡ false → b ≡ true → ⊥
clash f t = cc

pub turned : (a b : Key) → same_key a b ≡ false → same_key b a ≡ false
turned a b other = elim (cases_Bool (same_key b a)) [
  | inl t ↦ absurd (clash other (same_is a b (sym (one_key b a t))))
  | inr f ↦ f
]

-- merges of other keys say nothing of a key
record SayNothing (es : List Entry) (k : Key) (d : Dot) : Type 0 where
  pub dropped : list_any (λ e. drops e k d) es ≡ false
  pub held : first_held es k d ≡ None
  pub known : known_in es k d ≡ false

absent : {es : List Entry} {records : List Record} (k : Key) → AreMergesOf es records → ((r : Record) → Contains records r → same_key r.key k ≡ false) → (d : Dot) → SayNothing es k d
absent k nothing other d = record { dropped = refl; held = refl; known = refl }
absent k (one_more stamp h es records rest) other d =
    let o = other h (Contains-first h records) in
    let t = absent k rest (λ x c. other x (Contains-later h records x c)) d in
    record {
      dropped = ap (λ (b : Bool). (b && (covers h.state.clock d && is_none (content_at h.state.siblings d))) || list_any (λ e. drops e k d) es) o ∙ t.dropped;
      held = ap (λ (b : Bool). option_or (cond b (content_at h.state.siblings d) None) (first_held es k d)) o ∙ t.held;
      known = ap (λ (b : Bool). (b && covers h.state.clock d) || known_in es k d) o ∙ t.known;
    }

-- merges among which one is of a key say of it what the state says
record SayState (es : List Entry) (k : Key) (state : State) (d : Dot) : Type 0 where
  pub dropped : list_any (λ e. drops e k d) es ≡ (covers state.clock d && is_none (content_at state.siblings d))
  pub held : first_held es k d ≡ content_at state.siblings d
  pub known : known_in es k d ≡ covers state.clock d

or_nothing : (o : Option Content) → option_or o None ≡ o
or_nothing None = refl
or_nothing (Some x) = refl

only : {es : List Entry} {records : List Record} (r : Record) → AreMergesOf es records → IsStrictlySortedBy key_cmp (keys_in records) → Contains records r → (d : Dot) → SayState es r.key r.state d
unfolding IsStrictlySortedBy
only r nothing rising c d = absurd (Contains-nil r c)
only r (one_more stamp h es records rest) rising c d = elim (Contains-cases h records r c) [
  | inl is ↦ subst (λ (x : Record). SayState (Merge stamp h.key h.from h.at h.state ∷ es) x.key x.state d) is (first (absent h.key rest (λ x c. turned h.key x.key (head_other h.key records x rising.0 c)) d))
  | inr there ↦ later (head_other h.key records r rising.0 there) (only r rest rising.1 there d)
]
  where
    first : SayNothing es h.key d → SayState (Merge stamp h.key h.from h.at h.state ∷ es) h.key h.state d
    first t = record {
      dropped = ap (λ (b : Bool). (b && (covers h.state.clock d && is_none (content_at h.state.siblings d))) || list_any (λ e. drops e h.key d) es) (same_itself h.key)
          ∙ ap (λ (b : Bool). (covers h.state.clock d && is_none (content_at h.state.siblings d)) || b) t.dropped ∙ or-false (covers h.state.clock d && is_none (content_at h.state.siblings d));
      held = ap (λ (b : Bool). option_or (cond b (content_at h.state.siblings d) None) (first_held es h.key d)) (same_itself h.key)
          ∙ ap (option_or (content_at h.state.siblings d)) t.held ∙ or_nothing (content_at h.state.siblings d);
      known = ap (λ (b : Bool). (b && covers h.state.clock d) || known_in es h.key d) (same_itself h.key) ∙ ap (λ (b : Bool). covers h.state.clock d || b) t.known ∙ or-false (covers h.state.clock d);
    }

    later : same_key h.key r.key ≡ false → SayState es r.key r.state d → SayState (Merge stamp h.key h.from h.at h.state ∷ es) r.key r.state d
    later o t = record {
      dropped = ap (λ (b : Bool). (b && (covers h.state.clock d && is_none (content_at h.state.siblings d))) || list_any (λ e. drops e r.key d) es) o ∙ t.dropped;
      held = ap (λ (b : Bool). option_or (cond b (content_at h.state.siblings d) None) (first_held es r.key d)) o ∙ t.held;
      known = ap (λ (b : Bool). (b && covers h.state.clock d) || known_in es r.key d) o ∙ t.known;
    }

shown_alone : (covered : Bool) (held : Option Content) → held ≡ cond (covered && is_none held) None held
shown_alone true None = refl
shown_alone false None = refl
shown_alone true (Some x) = refl
shown_alone false (Some x) = refl

pub record_left : (es : List Entry) (records : List Record) (r : Record) → AreMergesOf es records → AreRising records → Contains records r → IsReplay es r.key r.state
record_left es records r merges are c = record {
  is_state = are.states r c;
  siblings = λ d.
      let t = only r merges are.rising c d in
      shown_alone (covers r.state.clock d) (content_at r.state.siblings d)
      ∙ sym (ap (λ (b : Bool). cond b None (first_held es r.key d)) t.dropped ∙ ap (cond (covers r.state.clock d && is_none (content_at r.state.siblings d)) None) t.held);
  clock = λ d. sym ((only r merges are.rising c d).known);
}

pub others_of : (records : List Record) (k : Key) → (Contains (keys_in records) k → ⊥) → (r : Record) → Contains records r → same_key r.key k ≡ false
others_of records k none r c = elim (cases_Bool (same_key r.key k)) [
  | inl t ↦ absurd (none (subst (λ (x : Key). Contains (keys_in records) x) (one_key r.key k t) (key_among records r c)))
  | inr f ↦ f
]

pub nothing_left : (es : List Entry) (records : List Record) (k : Key) → AreMergesOf es records → (Contains (keys_in records) k → ⊥) → IsReplay es k empty
nothing_left es records k merges none =
    let empty_at = empty_replayed k in
    let t : (d : Dot) → SayNothing es k d = λ d. absent k merges (others_of records k none) d in
    record {
      is_state = empty_at.is_state;
      siblings = λ d. sym (ap (λ (b : Bool). cond b None (first_held es k d)) ((t d).dropped) ∙ (t d).held);
      clock = λ d. empty_at.clock d ∙ sym ((t d).known);
    }

-- two journals that leave one state leave alike
alike_by : (a b : List Entry) (k : Key) (state : State) → IsReplay a k state → IsReplay b k state → LeaveAlike a b k
alike_by a b k state ra rb d = (sym (ra.siblings d) ∙ rb.siblings d, sym (ra.clock d) ∙ rb.clock d)

-- what isn't a key of a journal has the empty state there
unknown : (vnode : ℕ) (es : List Entry) (k : Key) → IsJournal vnode es → (IsKeyOf es k → ⊥) → IsReplay es k empty
unknown vnode es k legal none =
    let empty_at = empty_replayed k in
    record {
      is_state = empty_at.is_state;
      siblings = λ d. sym (by_dropped d (cases_Bool (list_any (λ e. drops e k d) es)));
      clock = λ d. empty_at.clock d ∙ sym (not_known d);
    }
  where
    not_known : (d : Dot) → known_in es k d ≡ false
    not_known d = elim (cases_Bool (known_in es k d)) [
      | inl t ↦ absurd (none (d, t))
      | inr f ↦ f
    ]

    by_held : (d : Dot) (o : Option Content) → first_held es k d ≡ o → o ≡ None
    by_held d None e = refl
    by_held d (Some x) e = absurd (none (d, held_known vnode k d x [] es legal e))

    by_dropped : (d : Dot) → (list_any (λ e. drops e k d) es ≡ true) ⊎ (list_any (λ e. drops e k d) es ≡ false) → sibling_in es k d ≡ None
    by_dropped d (inl t) = absurd (none (d, dropped_known vnode k d [] es legal t))
    by_dropped d (inr f) = ap (λ (b : Bool). cond b None (first_held es k d)) f ∙ by_held d (first_held es k d) refl

pub all_rising : (old : Log) (records : List Record) → AreOfAll old records → AreRising records
all_rising old records all = record { rising = all.keys.rising; states = λ r c. (all.states r c).is_state }

pub cases_among : (records : List Record) (k : Key) → Contains (keys_in records) k ⊎ (Contains (keys_in records) k → ⊥)
cases_among [] k = inr (Contains-nil k)
cases_among (h ∷ records) k = elim (cases_Bool (same_key h.key k)) [
  | inl t ↦ inl (subst (λ (x : Key). Contains (h.key ∷ keys_in records) x) (one_key h.key k t) (Contains-first h.key (keys_in records)))
  | inr f ↦ elim (cases_among records k) [
    | inl c ↦ inl (Contains-later h.key (keys_in records) k c)
    | inr none ↦ inr (λ c. elim (Contains-cases h.key (keys_in records) k c) [
      | inl is ↦ clash f (same_is h.key k is)
      | inr rest ↦ none rest
    ])
  ]
]

pub carried : (old : Log) (records : List Record) (es : List Entry) (k : Key) → IsJournal old.vnode old.entries → AreOfAll old records → AreMergesOf es records → LeaveAlike old.entries es k
carried old records es k legal all merges = elim (cases_among records k) [
  | inl c ↦ let t = record_among records k c in
      subst (λ (x : Key). LeaveAlike old.entries es x) t.2 (alike_by old.entries es t.0.key t.0.state (all.states t.0 t.1) (record_left es records t.0 merges (all_rising old records all) t.1))
  | inr none ↦ alike_by old.entries es k empty (unknown old.vnode old.entries k legal (λ is. none ((all.keys.each k).1 is))) (nothing_left es records k merges none)
]

-- merges after others, each of a key that is new there
journal_more : (vnode : ℕ) (es : List Entry) {more : List Entry} {records : List Record} → AreMergesOf more records → IsStrictlySortedBy key_cmp (keys_in records) → ((r : Record) → Contains records r → IsState r.state)
    → IsJournal vnode es → ((r : Record) → Contains records r → IsReplay es r.key empty) → length es + length records ≤ max_entries → IsJournal vnode (es ++ more)
unfolding IsStrictlySortedBy
journal_more vnode es nothing rising states legal fresh few = subst (λ (xs : List Entry). IsJournal vnode xs) (sym (append-nil es)) legal
journal_more vnode es (one_more stamp h more records rest) rising states legal fresh few =
    subst (λ (xs : List Entry). IsJournal vnode xs) (append_assoc es (Merge stamp h.key h.from h.at h.state ∷ []) more)
    (journal_more vnode (es ++ Merge stamp h.key h.from h.at h.state ∷ []) rest rising.1 (λ r c. states r (Contains-later h records r c)) (journal_end vnode es (Merge stamp h.key h.from h.at h.state) legal follows)
    (λ r c. silent_replayed es (Merge stamp h.key h.from h.at h.state) r.key empty (merge_silent stamp h.key h.from h.at h.state r.key (head_other h.key records r rising.0 c)) (fresh r (Contains-later h records r c)))
    (let l = length-append es (Merge stamp h.key h.from h.at h.state ∷ []) in omega (arith, l, few)))
  where
    follows : MayFollow vnode es (Merge stamp h.key h.from h.at h.state)
    follows = record {
      is_state = states h (Contains-first h records);
      state = (empty, fresh h (Contains-first h records), let c = count_by-le-length (λ (entry : Dot). counter [] entry.vnode == 0) h.state.clock in let f = (states h (Contains-first h records)).clock.few in omega (arith, c, f));
      place = omega (arith, few);
    }

pub merged_journal : (vnode : ℕ) (es : List Entry) (records : List Record) → AreMergesOf es records → AreRising records → length records ≤ max_entries → IsJournal vnode es
merged_journal vnode es records merges are few = journal_more vnode [] merges are.rising are.states (no_entry vnode) (λ r c. empty_replayed r.key) (omega (arith, few))

pub begun_so : (stamp : ℕ) (records : List Record) → AreMergesOf (merges_of stamp records) records
begun_so stamp [] = nothing
begun_so stamp (r ∷ records) = one_more stamp r (merges_of (stamp + 1) records) records (begun_so (stamp + 1) records)
