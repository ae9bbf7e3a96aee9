-- One entry more was followed: what was followed stays one run of the world.
use Rattle.std.proofs.Common.{◌≡◌, ℕ, ◌+◌, ◌<◌, ◌≤◌, ◌⊎◌, List, [], ◌∷◌, ◌++◌, length, get_or, set, take, drop, refl, sym, ap, subst, ◌∙◌, inl, inr, arith, Option, Some, None, length-set}
use Rattle.std.specs.Prelude.{slice_get, Contains, leb, Bool, true, false, cond, MatchBool}
use Rattle.std.proofs.lemmas.Bool.{cases_eq, leb-false}
use Rattle.std.proofs.lemmas.List.{get_or-set_same, get_or-set_other, length_push, take_all}
use Rattle.std.proofs.lemmas.List.Elements.{Contains-push_cases}
use Rattle.std.proofs.lemmas.List.Sorted.{IsPermutation-trans, IsPermutation-append_left, Contains-permutation}
use Rattle.std.proofs.lemmas.Option.{same_Some, slice_get_within}
use Rattle.key_state.specs.declared.content.Key.{Key}
use Rattle.key_state.specs.State.{State}
use Rattle.journal.specs.Answers.{Answer, Answers, numbered, changed, copied, done}
use Rattle.journal.specs.Entry.{Entry, Put, Merge, Read, Restart}
use Rattle.journal.specs.Journals.{MayFollow}
use Rattle.journal.specs.Logs.{Log}
use Rattle.journal.specs.Replay.{IsReplay}
use Rattle.journal.specs.Stamps.{stamp_of}
use Rattle.world.specs.declared.event.Message.{Message}
use Rattle.world.specs.Knowledge.{Knowledge, opened}
use Rattle.world.specs.Represents.{AreDistinct, log_at, empty_logs, with_entry_at}
use Rattle.world.specs.Running.{Begins}
use Rattle.world.proofs.Causal.{lawful_causal}
use Rattle.world.proofs.Lists.{Contains-cases}
use Rattle.world.proofs.Steps.{shown}
use Rattle.world.proofs.Whole.{more_cases, still_at}
use Rattle.audit_replay.specs.Beginnings.{AreFronts, AreWhole, ComeFirst, IsBehind, IsInFront, steps_behind}
use Rattle.audit_replay.specs.Order.{Step, steps_of}
use Rattle.audit_replay.specs.Interleaved.{IsSource, IsInterleavingFrom, ids_of}
use Rattle.audit_replay.specs.Rerun.{IsSoFar}
use Rattle.audit_replay.specs.Runs.{IsRunFrom}
use Rattle.audit_replay.specs.Turns.{EntryIn, count_at}
use Rattle.audit_replay.specs.Wrong.{IsAfterAll, HasReadOf, IsFounded, IsGivenUpAt, IsHeld, NamesHeld}
use Rattle.audit_replay.proofs.Grown.{step_in, entry_stays, front_stays, grown_at, others_at, same_size, behind_more, front_joins_none, whole_still, fronts_before, fronts_are, no_fronts, opened_begins, rising_more, single_more, sources_more}
use Rattle.audit_replay.proofs.Moments.{all_before, new_there}
use Rattle.audit_replay.proofs.Next.{step_at, at_end, rise_more, all_more}
use Rattle.audit_replay.proofs.Ran.{run_of}
use Rattle.audit_replay.proofs.Steps.{begins, put_goes_on, read_goes_on, restart_goes_on, merge_goes_on}
use Rattle.audit_replay.specs.declared.kept.Kept.{Kept}
use Rattle.audit_replay.specs.declared.kept.Kept.TheVariants as kept
use Rattle.audit_replay.specs.declared.kept.Recent.{Recent}
use Rattle.audit_replay.specs.Kept.{IsLeft}
use Rattle.audit_replay.proofs.Keeping.{over_or_not, left_more}
use Rattle.audit_replay.specs.Followed.{kept_at, AreFrontsAlone, IsReadKept, IsWas, IsKept, IsAnswer, IsToKeep, IsNextKept, AreAnswers, AreKept, AreBelow, HasFollowed, IsAbove, IsExpected, IsSourceKept, HasSource}
use Rattle.audit_replay.proofs.Answered.{one_answer}
use Rattle.audit_replay.proofs.Names.{same_ids, so_far_renamed}

-- the message that a read sends by its answer
abbrev told_of : ℕ → ℕ → Entry → Answer → Option Message
told_of from at (Read stamp key) (copied state) = Some (record { key = key; from = from; at = at; state = state })
told_of from at (Read stamp key) (numbered dot) = None
told_of from at (Read stamp key) (changed changes) = None
told_of from at (Read stamp key) done = None
told_of from at (Put stamp key seen content dot) answer = None
told_of from at (Merge stamp key source place state) answer = None
told_of from at (Restart stamp) answer = None

-- the read that a merge names is an earlier step, and sent its state
source_of : (fronts : List ℕ) (logs : List Log) (last : Option ℕ) (recent : Recent) (answers : List (List Kept)) (run : HasFollowed fronts logs last recent answers) (key : Key) (from at : ℕ) (state : State) → IsSourceKept logs answers key from at state
    → (number : ℕ) × IsSource logs (steps_behind fronts run.order) number key from at × (slice_get run.messages number ≡ Some (Some (let m : Message = record { key = key; from = from; at = at; state = state } in m)))
source_of fronts logs last recent answers run key from at state (index, inside, id, there, is) =
    let a : IsReadKept fronts logs (steps_behind fronts run.order) run.messages index at key = run.kept.each index at (kept.Read key) inside there in
    let same : a.state ≡ state = one_answer fronts logs last recent answers run index at key state inside there a is in (
      a.number,
      (step_at index at (Read a.stamp key), a.step, id, refl, (a.stamp, refl)),
      a.sent ∙ ap (λ (v : ℕ). Some (Some (let m : Message = record { key = key; from = v; at = at; state = a.state } in m))) id ∙ ap (λ (t : State). Some (Some (let m : Message = record { key = key; from = from; at = at; state = t } in m))) same,
    )

-- one step more of the world
so_far_more : (fronts : List ℕ) (begin : Knowledge) (logs : List Log) (last : Option ℕ) (recent : Recent) (answers : List (List Kept)) (run : HasFollowed fronts logs last recent answers) (i : ℕ) (e : Entry) (a : Answer) → IsSoFar begin logs (steps_behind fronts run.order) logs run.messages → i < length logs
    → MayFollow (log_at logs i).vnode (log_at logs i).entries e → Answers (log_at logs i).vnode (log_at logs i).entries e a → HasSource logs answers e
    → IsSoFar begin logs (steps_behind fronts run.order ++ step_at i (length (log_at logs i).entries) e ∷ []) (with_entry_at logs i e) (run.messages ++ told_of (log_at logs i).vnode (length (log_at logs i).entries) e a ∷ [])
so_far_more fronts begin logs last recent answers run i (Put stamp key seen content dot) a so_far inside follows answer source =
    put_goes_on begin logs logs (with_entry_at logs i (Put stamp key seen content dot)) (steps_behind fronts run.order) run.messages i stamp key seen content dot so_far inside (record { entries = refl; follows = follows })
so_far_more fronts begin logs last recent answers run i (Restart stamp) a so_far inside follows answer source =
    restart_goes_on begin logs logs (with_entry_at logs i (Restart stamp)) (steps_behind fronts run.order) run.messages i stamp so_far inside (record { entries = refl; follows = follows })
so_far_more fronts begin logs last recent answers run i (Read stamp key) (copied state) so_far inside follows answer source =
    let m : Message = record { key = key; from = (log_at logs i).vnode; at = length (log_at logs i).entries; state = state } in
    read_goes_on begin logs logs (with_entry_at logs i (Read stamp key)) (steps_behind fronts run.order) run.messages i stamp m so_far inside (record { entries = refl; follows = follows }) answer refl refl
so_far_more fronts begin logs last recent answers run i (Read stamp key) (numbered dot) so_far inside follows answer source = absurd answer
so_far_more fronts begin logs last recent answers run i (Read stamp key) (changed changes) so_far inside follows answer source = absurd answer
so_far_more fronts begin logs last recent answers run i (Read stamp key) done so_far inside follows answer source = absurd answer
so_far_more fronts begin logs last recent answers run i (Merge stamp key from at state) (changed changes) so_far inside follows answer source =
    let m : Message = record { key = key; from = from; at = at; state = state } in
    let s = source_of fronts logs last recent answers run key from at state source in
    merge_goes_on begin logs logs (with_entry_at logs i (Merge stamp key from at state)) (steps_behind fronts run.order) run.messages i stamp s.0 m changes so_far inside s.1 s.2 (record { entries = refl; follows = follows }) answer
so_far_more fronts begin logs last recent answers run i (Merge stamp key from at state) (numbered dot) so_far inside follows answer source = absurd answer
so_far_more fronts begin logs last recent answers run i (Merge stamp key from at state) (copied other) so_far inside follows answer source = absurd answer
so_far_more fronts begin logs last recent answers run i (Merge stamp key from at state) done so_far inside follows answer source = absurd answer

-- a state that was there before a change stays so
still_was : (fronts : List ℕ) (logs : List Log) (i : ℕ) (x : Entry) (index place : ℕ) (key : Key) (state : State) → i < length logs → IsWas fronts logs index place key state → IsWas fronts (with_entry_at logs i x) index place key state
still_was fronts logs i x index place key state inside ((e, there, changes), before, behind) = (
  (e, entry_stays logs i x index place e inside there, changes),
  subst (λ (es : List Entry). IsReplay es key state) (sym (front_stays logs i x index place inside (let lt = slice_get_within (log_at logs index).entries place e there.1 in omega (arith, lt)))) before,
  behind,
)

-- what is kept stays so
still_kept : (fronts : List ℕ) (logs : List Log) (steps more : List Step) (messages told : List (Option Message)) (i : ℕ) (x : Entry) (index place : ℕ) (what : Kept) → ((n : ℕ) (s : Step) → slice_get steps n ≡ Some s → slice_get more n ≡ Some s)
    → ((n : ℕ) (m : Option Message) → slice_get messages n ≡ Some m → slice_get told n ≡ Some m) → i < length logs → IsKept fronts logs steps messages index place what → IsKept fronts (with_entry_at logs i x) more told index place what
still_kept fronts logs steps more messages told i x index place kept.GivenUp still also inside h = tt
still_kept fronts logs steps more messages told i x index place kept.Other still also inside h = (h.0, entry_stays logs i x index place h.0 inside h.1, h.2)
still_kept fronts logs steps more messages told i x index place (kept.Was key state) still also inside h = still_was fronts logs i x index place key state inside h
still_kept fronts logs steps more messages told i x index place (kept.Read key) still also inside h = record {
  stamp = h.stamp;
  there = entry_stays logs i x index place (Read h.stamp key) inside h.there;
  state = h.state;
  answer = subst (λ (es : List Entry). IsReplay es key h.state) (sym (front_stays logs i x index place inside (let lt = slice_get_within (log_at logs index).entries place (Read h.stamp key) h.there.1 in omega (arith, lt)))) h.answer;
  number = h.number;
  behind = h.behind;
  step = still h.number (step_at index place (Read h.stamp key)) h.step;
  sent = also h.number _ h.sent ∙ ap (λ (v : ℕ). Some (Some (let m : Message = record { key = key; from = v; at = place; state = h.state } in m))) ((same_ids logs i x).1 index);
}

-- what is kept of a read
read_kept : (fronts : List ℕ) (logs : List Log) (steps : List Step) (messages : List (Option Message)) (i stamp : ℕ) (key : Key) (a : Answer) → length messages ≡ length steps → i < length logs → IsBehind fronts i (length (log_at logs i).entries)
    → Answers (log_at logs i).vnode (log_at logs i).entries (Read stamp key) a
    → IsReadKept fronts (with_entry_at logs i (Read stamp key)) (steps ++ step_at i (length (log_at logs i).entries) (Read stamp key) ∷ []) (messages ++ told_of (log_at logs i).vnode (length (log_at logs i).entries) (Read stamp key) a ∷ []) i (length (log_at logs i).entries) key
read_kept fronts logs steps messages i stamp key (numbered dot) long inside behind answer = absurd answer
read_kept fronts logs steps messages i stamp key (changed changes) long inside behind answer = absurd answer
read_kept fronts logs steps messages i stamp key done long inside behind answer = absurd answer
read_kept fronts logs steps messages i stamp key (copied state) long inside behind answer = record {
  stamp = stamp;
  there = new_there logs i (Read stamp key) inside;
  state = state;
  answer = subst (λ (es : List Entry). IsReplay es key state) (sym (all_before logs i (Read stamp key) inside)) answer;
  number = length steps;
  behind = behind;
  step = at_end steps (step_at i (length (log_at logs i).entries) (Read stamp key)) (length steps) refl;
  sent = at_end messages _ (length steps) long ∙ ap (λ (v : ℕ). Some (Some (let m : Message = record { key = key; from = v; at = length (log_at logs i).entries; state = state } in m))) ((same_ids logs i (Read stamp key)).1 i);
}

-- what is kept of a step
step_kept : (fronts : List ℕ) (logs : List Log) (steps : List Step) (messages : List (Option Message)) (i : ℕ) (e : Entry) (a : Answer) (new : Kept) → length messages ≡ length steps → i < length logs → IsBehind fronts i (length (log_at logs i).entries)
    → Answers (log_at logs i).vnode (log_at logs i).entries e a → IsToKeep (log_at logs i).entries e new
    → IsKept fronts (with_entry_at logs i e) (steps ++ step_at i (length (log_at logs i).entries) e ∷ []) (messages ++ told_of (log_at logs i).vnode (length (log_at logs i).entries) e a ∷ []) i (length (log_at logs i).entries) new
step_kept fronts logs steps messages i e a kept.GivenUp long inside behind answer h = absurd h
step_kept fronts logs steps messages i e a kept.Other long inside behind answer h = (e, new_there logs i e inside, inl h)
step_kept fronts logs steps messages i e a (kept.Was key state) long inside behind answer (changes, before) = (
  (e, new_there logs i e inside, changes),
  subst (λ (es : List Entry). IsReplay es key state) (sym (all_before logs i e inside)) before,
  behind,
)
step_kept fronts logs steps messages i e a (kept.Read key) long inside behind answer (stamp, is) =
    subst (λ (x : Entry). IsReadKept fronts (with_entry_at logs i x) (steps ++ step_at i (length (log_at logs i).entries) x ∷ []) (messages ++ told_of (log_at logs i).vnode (length (log_at logs i).entries) x a ∷ []) i (length (log_at logs i).entries) key) (sym is)
    (read_kept fronts logs steps messages i stamp key a long inside behind (subst (λ (x : Entry). Answers (log_at logs i).vnode (log_at logs i).entries x a) is answer))

-- what stands in a list of which something was given up
left_cases : (recent : Recent) (all list : List Kept) (place : ℕ) (what : Kept) → IsLeft recent all list → slice_get list place ≡ Some what → (slice_get all place ≡ Some what) ⊎ (what ≡ kept.GivenUp)
left_cases recent all list place what left at = elim (over_or_not recent (drop place all)) [
  | inl over ↦ inr (same_Some what kept.GivenUp (sym at ∙ left.gone place over))
  | inr not ↦ inl (sym (left.stays place not) ∙ at)
]

-- what there is of an entry stays so
still_answer : (fronts : List ℕ) (logs : List Log) (i : ℕ) (x : Entry) (index place : ℕ) (what : Kept) → i < length logs → IsAnswer fronts logs index place what → IsAnswer fronts (with_entry_at logs i x) index place what
still_answer fronts logs i x index place kept.GivenUp inside h = h
still_answer fronts logs i x index place kept.Other inside h = (h.0, entry_stays logs i x index place h.0 inside h.1, h.2)
still_answer fronts logs i x index place (kept.Was key state) inside h = still_was fronts logs i x index place key state inside h
still_answer fronts logs i x index place (kept.Read key) inside ((stamp, there), behind) = ((stamp, entry_stays logs i x index place (Read stamp key) inside there), behind)

-- what is kept is what there is
answer_kept : (fronts : List ℕ) (logs : List Log) (steps : List Step) (messages : List (Option Message)) (index place : ℕ) (what : Kept) → (what ≡ kept.GivenUp → ⊥) → IsKept fronts logs steps messages index place what → IsAnswer fronts logs index place what
answer_kept fronts logs steps messages index place kept.GivenUp some h = absurd (some refl)
answer_kept fronts logs steps messages index place kept.Other some h = h
answer_kept fronts logs steps messages index place (kept.Was key state) some h = h
answer_kept fronts logs steps messages index place (kept.Read key) some h = ((h.stamp, h.there), h.behind)

-- what there is of the entries of another vnode
answers_still : (fronts : List ℕ) (logs : List Log) (i : ℕ) (e : Entry) (index : ℕ) (all : List Kept) → i < length logs → (index ≡ i → ⊥) → AreAnswers fronts logs index all → AreAnswers fronts (with_entry_at logs i e) index all
answers_still fronts logs i e index all inside other are = record {
  size = are.size ∙ ap (λ (l : Log). length l.entries) (sym (others_at logs i e index other));
  each = λ place what at. still_answer fronts logs i e index place what inside (are.each place what at);
}

-- and of those of this one
answers_more : (fronts : List ℕ) (logs : List Log) (i : ℕ) (e : Entry) (all : List Kept) (new : Kept) → i < length logs → AreAnswers fronts logs i all → IsAnswer fronts (with_entry_at logs i e) i (length (log_at logs i).entries) new
    → AreAnswers fronts (with_entry_at logs i e) i (all ++ new ∷ [])
answers_more fronts logs i e all new inside are answer = record {
  size = length_push all new ∙ ap (λ (n : ℕ). n + 1) are.size ∙ sym (ap (λ (l : Log). length l.entries) (grown_at logs i e inside) ∙ length_push (log_at logs i).entries e);
  each = λ place what at. elim (more_cases all new what place at) [
    | inl before ↦ still_answer fronts logs i e i place what inside (are.each place what before.1)
    | inr last ↦
        (let place_is : place ≡ length (log_at logs i).entries = last.0 ∙ are.size in
        subst (λ (p : ℕ). IsAnswer fronts (with_entry_at logs i e) i p what) (sym place_is) (subst (λ (w : Kept). IsAnswer fronts (with_entry_at logs i e) i (length (log_at logs i).entries) w) last.1 answer))
  ];
}

are_kept : (fronts : List ℕ) (logs : List Log) (last : Option ℕ) (recent : Recent) (answers : List (List Kept)) (run : HasFollowed fronts logs last recent answers) (steps : List Step) (messages : List (Option Message)) (i : ℕ) (e : Entry) (new : Kept) (list : List Kept)
    → ((n : ℕ) (s : Step) → slice_get (steps_behind fronts run.order) n ≡ Some s → slice_get steps n ≡ Some s) → ((n : ℕ) (m : Option Message) → slice_get run.messages n ≡ Some m → slice_get messages n ≡ Some m) → i < length logs
    → IsKept fronts (with_entry_at logs i e) steps messages i (length (log_at logs i).entries) new → (new ≡ kept.GivenUp → ⊥) → IsLeft recent (get_or answers i [] ++ new ∷ []) list
    → AreKept fronts (with_entry_at logs i e) steps messages recent (set answers i list)
are_kept fronts logs newest_stamp recent answers run steps messages i e new list steps_still messages_still inside is_kept newest lack = record {
  size = length-set answers i list ∙ run.kept.size ∙ sym size;
  lengths = λ index within. lengths index (omega (arith, within, size));
  each = λ index place what within at. each index place what (omega (arith, within, size)) at;
  left = λ index within. left_at index (omega (arith, within, size));
}
  where
    size : length (with_entry_at logs i e) ≡ length logs
    size = same_size logs i e

    here : i < length answers
    here = omega (arith, run.kept.size, inside)

    own : get_or (set answers i list) i [] ≡ list
    own = get_or-set_same answers i list [] here

    long : length (log_at (with_entry_at logs i e) i).entries ≡ length (log_at logs i).entries + 1
    long = ap (λ (l : Log). length l.entries) (grown_at logs i e inside) ∙ length_push (log_at logs i).entries e

    all_long : length (get_or answers i [] ++ new ∷ []) ≡ length (log_at logs i).entries + 1
    all_long = length_push (get_or answers i []) new ∙ ap (λ (n : ℕ). n + 1) (run.kept.lengths i inside)

    lengths : (index : ℕ) → index < length logs → length (get_or (set answers i list) index []) ≡ length (log_at (with_entry_at logs i e) index).entries
    lengths index within = elim (cases_eq index i) [
      | inl same ↦ ap (λ (j : ℕ). length (get_or (set answers i list) j [])) same ∙ ap length own ∙ lack.size ∙ all_long ∙ sym long ∙ ap (λ (j : ℕ). length (log_at (with_entry_at logs i e) j).entries) (sym same)
      | inr other ↦ ap length (get_or-set_other answers i index list [] other) ∙ run.kept.lengths index within ∙ ap (λ (l : Log). length l.entries) (sym (others_at logs i e index other))
    ]

    still : (index place : ℕ) (what : Kept) → index < length logs → kept_at answers index place ≡ Some what → IsKept fronts (with_entry_at logs i e) steps messages index place what
    still index place what within at = still_kept fronts logs (steps_behind fronts run.order) steps run.messages messages i e index place what steps_still messages_still inside (run.kept.each index place what within at)

    mine : (place : ℕ) (what : Kept) → slice_get list place ≡ Some what → IsKept fronts (with_entry_at logs i e) steps messages i place what
    mine place what at = elim (left_cases recent _ list place what lack at) [
      | inl was ↦ elim (more_cases (get_or answers i []) new what place was) [
        | inl before ↦ still i place what inside before.1
        | inr last ↦
            (let place_is : place ≡ length (log_at logs i).entries = last.0 ∙ run.kept.lengths i inside in
            subst (λ (p : ℕ). IsKept fronts (with_entry_at logs i e) steps messages i p what) (sym place_is)
            (subst (λ (w : Kept). IsKept fronts (with_entry_at logs i e) steps messages i (length (log_at logs i).entries) w) last.1 is_kept))
      ]
      | inr gone ↦ subst (λ (w : Kept). IsKept fronts (with_entry_at logs i e) steps messages i place w) (sym gone) tt
    ]

    each : (index place : ℕ) (what : Kept) → index < length logs → kept_at (set answers i list) index place ≡ Some what → IsKept fronts (with_entry_at logs i e) steps messages index place what
    each index place what within at = elim (cases_eq index i) [
      | inl same ↦ subst (λ (j : ℕ). IsKept fronts (with_entry_at logs i e) steps messages j place what) (sym same)
          (mine place what (ap (λ (xs : List Kept). slice_get xs place) (sym own) ∙ ap (λ (j : ℕ). slice_get (get_or (set answers i list) j []) place) (sym same) ∙ at))
      | inr other ↦ still index place what within (ap (λ (xs : List Kept). slice_get xs place) (sym (get_or-set_other answers i index list [] other)) ∙ at)
    ]

    left_at : (index : ℕ) → index < length logs → (all : List Kept) × AreAnswers fronts (with_entry_at logs i e) index all × IsLeft recent all (get_or (set answers i list) index [])
    left_at index within = elim (cases_eq index i) [
      | inl same ↦
          (let was = run.kept.left i inside in
          let more = left_more recent was.0 (get_or answers i []) list new was.2 lack in
          subst (λ (j : ℕ). (all : List Kept) × AreAnswers fronts (with_entry_at logs i e) j all × IsLeft recent all (get_or (set answers i list) j [])) (sym same)
          (was.0 ++ new ∷ [], answers_more fronts logs i e was.0 new inside was.1 (answer_kept fronts (with_entry_at logs i e) steps messages i (length (log_at logs i).entries) new newest is_kept), subst (λ (l : List Kept). IsLeft recent (was.0 ++ new ∷ []) l) (sym own) more))
      | inr other ↦
          (let was = run.kept.left index within in
          (was.0, answers_still fronts logs i e index was.0 inside other was.1, subst (λ (l : List Kept). IsLeft recent was.0 l) (sym (get_or-set_other answers i index list [] other)) was.2))
    ]

-- what is to be kept of an entry isn't given up
not_given_up : (before : List Entry) (e : Entry) (new : Kept) → IsToKeep before e new → new ≡ kept.GivenUp → ⊥
not_given_up before e new h is = subst (λ (k : Kept). IsToKeep before e k) is h

-- stamps of what happened are below that of an entry that is above the last one
pub below_next : (last : Option ℕ) (order : List Step) (stamp : ℕ) → AreBelow last order → IsAbove last stamp → (t : Step) → Contains order t → stamp_of t.entry < stamp
below_next None order stamp none above t c = absurd (let h = subst (λ (o : List Step). Contains o t) none c in omega (arith, h.1))
below_next (Some s) order stamp le above t c = let h = le t c in omega (arith, h, above)

-- so are those of the entries
pub after_all : (fronts : List ℕ) (logs : List Log) (last : Option ℕ) (recent : Recent) (answers : List (List Kept)) → HasFollowed fronts logs last recent answers → (e : Entry) → IsAbove last (stamp_of e) → IsAfterAll logs e
after_all fronts logs last recent answers run e above index place a there =
    below_next last run.order (stamp_of e) run.below above (step_at index place a) (Contains-permutation (steps_of 0 logs) run.order (step_at index place a) run.all (step_in 0 index logs index place a (omega arith) there))

-- an entry that has its source names a read that answered its state
pub has_read : (fronts : List ℕ) (logs : List Log) (last : Option ℕ) (recent : Recent) (answers : List (List Kept)) → HasFollowed fronts logs last recent answers → (e : Entry) → HasSource logs answers e → HasReadOf fronts logs e
has_read fronts logs last recent answers run (Merge stamp key from at state) (index, inside, id, there, is) =
    let h : IsReadKept fronts logs (steps_behind fronts run.order) run.messages index at key = run.kept.each index at (kept.Read key) inside there in
    let same : h.state ≡ state = one_answer fronts logs last recent answers run index at key state inside there h is in
    ((index, id, (h.stamp, h.there), h.behind), (index, inside, id, subst (λ (t : State). IsReplay (take at (log_at logs index).entries) key t) same h.answer))
has_read fronts logs last recent answers run (Put stamp key seen content dot) h = tt
has_read fronts logs last recent answers run (Read stamp key) h = tt
has_read fronts logs last recent answers run (Restart stamp) h = tt

-- what was given up, and what is held
pub given_up : (fronts : List ℕ) (logs : List Log) (last : Option ℕ) (recent : Recent) (answers : List (List Kept)) → HasFollowed fronts logs last recent answers → (index at : ℕ) → index < length logs → kept_at answers index at ≡ Some kept.GivenUp → IsGivenUpAt fronts logs recent index at
given_up fronts logs last recent answers run index at inside gone =
    let all = run.kept.left index inside in
    elim (over_or_not recent (drop at all.0)) [
      | inl over ↦ (all.0, all.1, over)
      | inr not ↦ absurd (all.1.each at kept.GivenUp (sym (all.2.stays at not) ∙ gone))
    ]

pub held : (fronts : List ℕ) (logs : List Log) (last : Option ℕ) (recent : Recent) (answers : List (List Kept)) (i : ℕ) (e : Entry) → HasFollowed fronts logs last recent answers → IsExpected fronts logs answers i e → IsHeld fronts logs recent i e
held fronts logs last recent answers i e run (inl front) = inl front
held fronts logs last recent answers i e run (inr (whole, source)) = inr (go e source)
  where
    go : (x : Entry) → HasSource logs answers x → NamesHeld fronts logs recent x
    go (Merge stamp key from at state) (index, inside, id, there, is) =
        let all = run.kept.left index inside in
        (index, inside, id, (all.0, all.1, λ over. (let both : Some kept.GivenUp ≡ Some (kept.Read key) = sym (all.2.gone at over) ∙ there in cc)))
    go (Put stamp key seen content dot) h = tt
    go (Read stamp key) h = tt
    go (Restart stamp) h = tt

pub founded : (fronts : List ℕ) (logs : List Log) (last : Option ℕ) (recent : Recent) (answers : List (List Kept)) (i : ℕ) (e : Entry) → HasFollowed fronts logs last recent answers → IsExpected fronts logs answers i e → IsFounded fronts logs i e
founded fronts logs last recent answers i e run (inl front) = inl front
founded fronts logs last recent answers i e run (inr (whole, source)) = inr (whole, has_read fronts logs last recent answers run e source)

-- the new one comes after all
first_more : (fronts : List ℕ) (order : List Step) (s : Step) → ComeFirst fronts order → ((t : Step) → Contains order t → stamp_of t.entry < stamp_of s.entry) → (s.place < count_at fronts s.vnode → (t : Step) → Contains order t → IsBehind fronts t.vnode t.place → ⊥) → ComeFirst fronts (order ++ s ∷ [])
first_more fronts order s first under none u t has_u has_t before behind = elim (Contains-push_cases order s u has_u) [
  | inl old_u ↦ elim (Contains-push_cases order s t has_t) [
    | inl old_t ↦ first u t old_u old_t before behind
    | inr new_t ↦ (let less = under u old_u in let same = ap (λ (x : Step). stamp_of x.entry) new_t in omega (arith, less, same))
  ]
  | inr new_u ↦ elim (Contains-push_cases order s t has_t) [
    | inl old_t ↦ absurd (none (subst (λ (x : Step). x.place < count_at fronts x.vnode) (sym new_u) before) t old_t behind)
    | inr new_t ↦ absurd (let in_front = subst (λ (x : Step). x.place < count_at fronts x.vnode) (sym new_u) before in let behind_it = subst (λ (x : Step). IsBehind fronts x.vnode x.place) (sym new_t) behind in omega (arith, in_front, behind_it))
  ]
]

-- what is alike of an entry of a front and of a step
followed_with : (fronts : List ℕ) (logs : List Log) (last : Option ℕ) (recent : Recent) (answers : List (List Kept)) (i : ℕ) (e : Entry) (new : Kept) (list : List Kept) (run : HasFollowed fronts logs last recent answers) (messages : List (Option Message)) → i < length logs → IsAbove last (stamp_of e)
    → IsFounded fronts logs i e → IsLeft recent (get_or answers i [] ++ new ∷ []) list → (new ≡ kept.GivenUp → ⊥)
    → ((n : ℕ) (s : Step) → slice_get (steps_behind fronts run.order) n ≡ Some s → slice_get (steps_behind fronts (run.order ++ step_at i (length (log_at logs i).entries) e ∷ [])) n ≡ Some s)
    → ((n : ℕ) (m : Option Message) → slice_get run.messages n ≡ Some m → slice_get messages n ≡ Some m)
    → IsKept fronts (with_entry_at logs i e) (steps_behind fronts (run.order ++ step_at i (length (log_at logs i).entries) e ∷ [])) messages i (length (log_at logs i).entries) new
    → length messages ≡ length (steps_behind fronts (run.order ++ step_at i (length (log_at logs i).entries) e ∷ []))
    → AreFrontsAlone fronts (with_entry_at logs i e) (steps_behind fronts (run.order ++ step_at i (length (log_at logs i).entries) e ∷ [])) messages ⊎ AreWhole fronts (with_entry_at logs i e)
    → (length (log_at logs i).entries < count_at fronts i → (t : Step) → Contains run.order t → IsBehind fronts t.vnode t.place → ⊥)
    → ((begin : Knowledge) (begun : List Log) → AreFronts (with_entry_at logs i e) fronts begun → Begins begun [] begin → IsSoFar begin (with_entry_at logs i e) (steps_behind fronts (run.order ++ step_at i (length (log_at logs i).entries) e ∷ [])) (with_entry_at logs i e) messages)
    → HasFollowed fronts (with_entry_at logs i e) (Some (stamp_of e)) recent (set answers i list)
followed_with fronts logs last recent answers i e new list run messages inside above is_founded lack newest steps_still messages_still is_kept long begun none so_far =
    let s = step_at i (length (log_at logs i).entries) e in
    let under : (t : Step) → Contains run.order t → stamp_of t.entry < stamp_of e = below_next last run.order (stamp_of e) run.below above in
    let after : IsAfterAll logs e = after_all fronts logs last recent answers run e above in
    record {
      order = run.order ++ s ∷ [];
      messages = messages;
      so_far = so_far;
      begun = begun;
      long = long;
      distinct = subst (λ (ids : List ℕ). AreDistinct ids) ((same_ids logs i e).0) run.distinct;
      first = first_more fronts run.order s run.first under none;
      all = IsPermutation-trans _ _ _ (all_more 0 i (length (log_at logs i).entries) logs i e inside (omega arith) refl) (IsPermutation-append_left (s ∷ []) (steps_of 0 logs) run.order run.all);
      rising = rise_more 0 run.order s run.rising (omega arith) under;
      below = λ t c. elim (Contains-push_cases run.order s t c) [
        | inl was ↦ (let h = under t was in omega (arith, h))
        | inr is ↦ (let h : stamp_of t.entry ≡ stamp_of e = ap (λ (x : Step). stamp_of x.entry) (sym is) in omega (arith, h))
      ];
      kept = are_kept fronts logs last recent answers run (steps_behind fronts (run.order ++ s ∷ [])) messages i e new list steps_still messages_still inside is_kept newest lack;
      rises = rising_more logs i e inside after run.rises;
      single = single_more logs i e inside after run.single;
      sources = sources_more fronts logs i e inside run.distinct after is_founded run.sources;
    }

-- no step stands among fronts alone
none_behind : (fronts : List ℕ) (order : List Step) → steps_behind fronts order ≡ [] → (t : Step) → Contains order t → IsBehind fronts t.vnode t.place → ⊥
none_behind fronts [] empty t c behind = omega (arith, c.1)
none_behind fronts (x ∷ ss) empty t c behind = split (leb (count_at fronts x.vnode) x.place) refl empty (Contains-cases x ss t c) (λ rest has. none_behind fronts ss rest t has behind)
  where
    split : (b : Bool) → leb (count_at fronts x.vnode) x.place ≡ b → cond b (x ∷ steps_behind fronts ss) (steps_behind fronts ss) ≡ [] → (x ≡ t) ⊎ Contains ss t → (steps_behind fronts ss ≡ [] → Contains ss t → ⊥) → ⊥
    split true is none has later = (let clash : x ∷ steps_behind fronts ss ≡ [] = none in cc)
    split false is none (inl here) later = (let yes = subst (λ (s : Step). IsBehind fronts s.vnode s.place) (sym here) behind in let before = leb-false (count_at fronts x.vnode) x.place is in omega (arith, yes, before))
    split false is none (inr rest) later = later none rest

-- an entry of a front more
front_more : (fronts : List ℕ) (logs : List Log) (last : Option ℕ) (recent : Recent) (answers : List (List Kept)) (i : ℕ) (e : Entry) (list : List Kept) → HasFollowed fronts logs last recent answers → i < length logs → IsAbove last (stamp_of e) → IsInFront fronts logs i
    → IsLeft recent (get_or answers i [] ++ kept.Other ∷ []) list → HasFollowed fronts (with_entry_at logs i e) (Some (stamp_of e)) recent (set answers i list)
front_more fronts logs last recent answers i e list run inside above front lack = elim run.begun [
  | inr whole ↦ absurd (let all = whole i inside in omega (arith, all, front))
  | inl alone ↦
      (let s = step_at i (length (log_at logs i).entries) e in
      let joins : steps_behind fronts (run.order ++ s ∷ []) ≡ steps_behind fronts run.order = front_joins_none fronts run.order s front in
      let none : steps_behind fronts (run.order ++ s ∷ []) ≡ [] = joins ∙ alone.none in
      let short : (index : ℕ) → index < length (with_entry_at logs i e) → length (log_at (with_entry_at logs i e) index).entries ≤ count_at fronts index = λ index within. elim (cases_eq index i) [
        | inl same ↦
            (let grown = ap (λ (j : ℕ). length (log_at (with_entry_at logs i e) j).entries) same ∙ ap (λ (l : Log). length l.entries) (grown_at logs i e inside) ∙ length_push (log_at logs i).entries e in
            let count = ap (count_at fronts) same in
            omega (arith, grown, count, front))
        | inr other ↦ (let is = ap (λ (l : Log). length l.entries) (others_at logs i e index other) in let was = alone.short index (omega (arith, same_size logs i e, within)) in omega (arith, is, was))
      ] in
      followed_with fronts logs last recent answers i e kept.Other list run run.messages inside above (inl front) lack (λ is. cc) (λ n t at. ap (λ (ss : List Step). slice_get ss n) joins ∙ at) (λ n m at. at) (e, new_there logs i e inside, inr front)
      (run.long ∙ ap length (sym joins)) (inl (record { short = short; none = none; unsent = alone.unsent })) (λ before. none_behind fronts run.order alone.none)
      (λ begin begun are begins_so.
      let same : begun ≡ with_entry_at logs i e = fronts_are fronts (with_entry_at logs i e) begun are short in
      subst (λ (ss : List Step). IsSoFar begin (with_entry_at logs i e) ss (with_entry_at logs i e) run.messages) (sym none)
      (subst (λ (ms : List (Option Message)). IsSoFar begin (with_entry_at logs i e) [] (with_entry_at logs i e) ms) (sym alone.unsent)
      (begins begin (with_entry_at logs i e) (with_entry_at logs i e) (subst (λ (ls : List Log). Begins ls [] begin) same begins_so)))))
]

-- a step more
step_more : (fronts : List ℕ) (logs : List Log) (last : Option ℕ) (recent : Recent) (answers : List (List Kept)) (i : ℕ) (e : Entry) (a : Answer) (new : Kept) (list : List Kept) → HasFollowed fronts logs last recent answers → i < length logs → MayFollow (log_at logs i).vnode (log_at logs i).entries e
    → Answers (log_at logs i).vnode (log_at logs i).entries e a → IsToKeep (log_at logs i).entries e new → IsAbove last (stamp_of e) → AreWhole fronts logs → HasSource logs answers e → IsLeft recent (get_or answers i [] ++ new ∷ []) list
    → HasFollowed fronts (with_entry_at logs i e) (Some (stamp_of e)) recent (set answers i list)
step_more fronts logs last recent answers i e a new list run inside follows answer keeps above whole source lack =
    let s = step_at i (length (log_at logs i).entries) e in
    let m = told_of (log_at logs i).vnode (length (log_at logs i).entries) e a in
    let behind : IsBehind fronts i (length (log_at logs i).entries) = whole i inside in
    let joins : steps_behind fronts (run.order ++ s ∷ []) ≡ steps_behind fronts run.order ++ s ∷ [] = behind_more fronts run.order s behind in
    followed_with fronts logs last recent answers i e new list run (run.messages ++ m ∷ []) inside above (inr (whole, has_read fronts logs last recent answers run e source)) lack (not_given_up (log_at logs i).entries e new keeps)
    (λ n t at. ap (λ (ss : List Step). slice_get ss n) joins ∙ still_at (steps_behind fronts run.order) s t n at) (λ n t at. still_at run.messages m t n at)
    (subst (λ (ss : List Step). IsKept fronts (with_entry_at logs i e) ss (run.messages ++ m ∷ []) i (length (log_at logs i).entries) new) (sym joins) (step_kept fronts logs (steps_behind fronts run.order) run.messages i e a new run.long inside behind answer keeps))
    (length_push run.messages m ∙ ap (λ (n : ℕ). n + 1) run.long ∙ sym (length_push (steps_behind fronts run.order) s) ∙ ap length (sym joins)) (inr (whole_still fronts logs i e inside whole)) (λ before. absurd (omega (arith, before, behind)))
    (λ begin begun are begins_so.
    subst (λ (ss : List Step). IsSoFar begin (with_entry_at logs i e) ss (with_entry_at logs i e) (run.messages ++ m ∷ [])) (sym joins)
    (so_far_renamed begin logs (with_entry_at logs i e) (same_ids logs i e) (steps_behind fronts run.order ++ s ∷ []) (with_entry_at logs i e) (run.messages ++ m ∷ [])
    (so_far_more fronts begin logs last recent answers run i e a (run.so_far begin begun (fronts_before fronts logs begun i e inside whole are) begins_so) inside follows answer source)))

-- what is kept of an entry that has happened next: of one of a front nothing
pub next_kept : (fronts : List ℕ) (logs : List Log) (i : ℕ) (e : Entry) (front : Bool) (k new : Kept) → MatchBool front (IsInFront fronts logs i) (IsBehind fronts i (length (log_at logs i).entries))
    → MatchBool front (new ≡ kept.Other) (new ≡ k) → IsToKeep (log_at logs i).entries e k → IsNextKept fronts logs i e new
next_kept fronts logs i e true k new inside is to = inl (inside, is)
next_kept fronts logs i e false k new behind is to = inr (behind, subst (IsToKeep (log_at logs i).entries e) (sym is) to)

-- one entry more
pub followed_more : (fronts : List ℕ) (logs : List Log) (last : Option ℕ) (recent : Recent) (answers : List (List Kept)) (i : ℕ) (e : Entry) (a : Answer) (new : Kept) (list : List Kept) → HasFollowed fronts logs last recent answers → i < length logs
    → MayFollow (log_at logs i).vnode (log_at logs i).entries e → Answers (log_at logs i).vnode (log_at logs i).entries e a → IsAbove last (stamp_of e) → IsExpected fronts logs answers i e → IsNextKept fronts logs i e new → IsLeft recent (get_or answers i [] ++ new ∷ []) list
    → HasFollowed fronts (with_entry_at logs i e) (Some (stamp_of e)) recent (set answers i list)
followed_more fronts logs last recent answers i e a new list run inside follows answer above (inr (whole, source)) (inr (behind, keeps)) lack = step_more fronts logs last recent answers i e a new list run inside follows answer keeps above whole source lack
followed_more fronts logs last recent answers i e a new list run inside follows answer above (inl front) (inl (also, is)) lack =
    front_more fronts logs last recent answers i e list run inside above front (subst (λ (k : Kept). IsLeft recent (get_or answers i [] ++ k ∷ []) list) is lack)
followed_more fronts logs last recent answers i e a new list run inside follows answer above (inl front) (inr (behind, keeps)) lack = absurd (omega (arith, front, behind))
followed_more fronts logs last recent answers i e a new list run inside follows answer above (inr (whole, source)) (inl (front, is)) lack = absurd (let all = whole i inside in omega (arith, all, front))

-- what was followed is a run from each beginning
run_from : (fronts : List ℕ) (logs : List Log) (last : Option ℕ) (recent : Recent) (answers : List (List Kept)) → HasFollowed fronts logs last recent answers → (begin : Knowledge) (begun : List Log) → AreFronts logs fronts begun → Begins begun [] begin → IsInterleavingFrom begin fronts logs
run_from fronts logs last recent answers run begin begun are begins_so =
    let so_far = run.so_far begin begun are begins_so in
    let ran = run_of begin logs (steps_behind fronts run.order) so_far.replies so_far.known so_far.happened in
    record {
      order = run.order;
      in_order = record { same = run.all; rising = run.rising };
      first = run.first;
      replies = so_far.replies;
      known = so_far.known;
      happened = so_far.happened;
      moments = so_far.moments;
      events = ran.0;
      run = ran.1;
      causal = lawful_causal so_far.known so_far.represents.lawful;
      siblings = λ vnode key lt. shown logs so_far.known vnode key so_far.represents lt;
    }

pub interleaved : (fronts : List ℕ) (logs : List Log) (last : Option ℕ) (recent : Recent) (answers : List (List Kept)) → HasFollowed fronts logs last recent answers → IsRunFrom fronts logs
interleaved fronts logs last recent answers run = record {
  from = run_from fronts logs last recent answers run;
  whole = λ none. subst (λ (ns : List ℕ). IsInterleavingFrom (opened (ids_of logs)) ns logs) none
      (run_from fronts logs last recent answers run (opened (ids_of logs)) (empty_logs (ids_of logs)) (subst (λ (ns : List ℕ). AreFronts logs ns (empty_logs (ids_of logs))) (sym none) (no_fronts logs)) (opened_begins (ids_of logs) run.distinct));
  rising = run.rises;
  single = run.single;
  sources = run.sources;
}
