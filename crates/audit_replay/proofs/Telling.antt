-- What is told of an entry is so.
use Rattle.std.proofs.Common.{◌≡◌, ℕ, ◌+◌, ◌<◌, List, [], length, get_or, take, ◌≤◌, refl, sym, ap, subst, ◌∙◌, inl, inr, arith, Option, Some, None, length-set}
use Rattle.std.specs.Prelude.{slice_get, Result, Err, IfErr}
use Rattle.std.proofs.lemmas.List.{get_or-set_same, length_push}
use Rattle.std.proofs.lemmas.Option.{slice_get_within, slice_get-get_or}
use Rattle.key_state.specs.declared.content.Key.{Key}
use Rattle.key_state.specs.State.{State}
use Rattle.journal.specs.Entry.{Entry, Put, Merge, Read, Restart}
use Rattle.journal.specs.Logs.{Log, with_entry}
use Rattle.journal.specs.Replay.{IsReplay}
use Rattle.journal.specs.Stamps.{stamp_of}
use Rattle.world.specs.Represents.{log_at, with_entry_at}
use Rattle.audit_replay.specs.Turns.{EntryIn}
use Rattle.audit_replay.proofs.Grown.{step_in}
use Rattle.audit_replay.proofs.Next.{at_end, step_at}
use Rattle.audit_replay.specs.Order.{Step, steps_of}
use Rattle.journal.specs.Journals.{MayFollow}
use Rattle.std.proofs.lemmas.List.Sorted.{Contains-permutation}
use Rattle.audit_replay.proofs.Rising.{one_entry}
use Rattle.audit_faults.specs.declared.fault.EntryFault.{EntryFault}
use Rattle.audit_faults.specs.declared.fault.EntryFault.TheVariants.{Twice, Falls, NoSource, OtherState, GivenUp, Late, Illegal}
use Rattle.audit_faults.specs.declared.fault.AuditFault.{AuditFault}
use Rattle.audit_faults.specs.declared.fault.AuditFault.TheVariants.{Found, NoMemory}
use Rattle.audit_replay.specs.declared.kept.Kept.{Kept}
use Rattle.audit_replay.specs.declared.kept.Kept.TheVariants as kept
use Rattle.audit_replay.specs.declared.kept.Recent.{Recent}
use Rattle.audit_replay.specs.Wrong.{IsWrong, IsAfterAll, IsFirst, IsHeldAt, IsHighest, IsToldOf, IsNewest, IsStampFault, IsNotKept, IsMergeFault, IsSourceFault, IsPlaceFault, IsFoundWrong}
use Rattle.audit_replay.specs.Followed.{kept_at, key_changed, HasFollowed, IsAbove, IsExpected, IsReadKept, IsRestart, IsWas}
use Rattle.audit_replay.specs.Beginnings.{AreWhole, IsBehind, steps_behind}
use Rattle.audit_replay.proofs.Sorting.{one_index}
use Rattle.audit_replay.proofs.Answered.{answered}
use Rattle.audit_replay.proofs.Going.{after_all, founded, given_up, held}

-- ---- merges

-- one identifier stands for one vnode
same_index : (fronts : List ℕ) (logs : List Log) (last : Option ℕ) (recent : Recent) (answers : List (List Kept)) → HasFollowed fronts logs last recent answers → (u v from : ℕ) → u < length logs → v < length logs → (log_at logs u).vnode ≡ from → (log_at logs v).vnode ≡ from → u ≡ v
same_index fronts logs last recent answers run u v from lu lv is also =
    one_index logs u v run.distinct lu lv (is ∙ sym also)

-- no read of the key stands where none is kept
not_read : (fronts : List ℕ) (logs : List Log) (last : Option ℕ) (recent : Recent) (answers : List (List Kept)) → HasFollowed fronts logs last recent answers → (index at stamp : ℕ) (key : Key) → IsNotKept answers index at key → IsBehind fronts index at → EntryIn logs index at (Read stamp key) → ⊥
not_read fronts logs last recent answers run index at stamp key (inl none) behind there =
    let within : at < length (log_at logs index).entries = slice_get_within (log_at logs index).entries at (Read stamp key) there.1 in
    let some : kept_at answers index at ≡ Some (get_or (get_or answers index []) at kept.Other) = slice_get-get_or (get_or answers index []) at kept.Other (omega (arith, run.kept.lengths index there.0, within)) in
    let both : None ≡ Some (get_or (get_or answers index []) at kept.Other) = sym none ∙ some in
    cc
not_read fronts logs last recent answers run index at stamp key (inr (inl other)) behind there =
    let h = run.kept.each index at kept.Other there.0 other in
    elim h.2 [
      | inl plain ↦ subst (λ (e : Entry). IsRestart e) (one_entry logs index at h.0 (Read stamp key) h.1 there) plain
      | inr before ↦ omega (arith, before, behind)
    ]
not_read fronts logs last recent answers run index at stamp key (inr (inr (inl (own, state, is)))) behind there =
    let h : IsWas fronts logs index at own state = run.kept.each index at (kept.Was own state) there.0 is in
    let none : None ≡ Some own = subst (λ (e : Entry). key_changed e ≡ Some own) (one_entry logs index at h.0.0 (Read stamp key) h.0.1 there) h.0.2 in
    cc
not_read fronts logs last recent answers run index at stamp key (inr (inr (inr (other, is, differs)))) behind there =
    let h : IsReadKept fronts logs (steps_behind fronts run.order) run.messages index at other = run.kept.each index at (kept.Read other) there.0 is in
    let e : Read h.stamp other ≡ Read stamp key = one_entry logs index at (Read h.stamp other) (Read stamp key) h.there there in
    differs (let k : other ≡ key = cc in k)

merge_wrong : (fronts : List ℕ) (logs : List Log) (last : Option ℕ) (recent : Recent) (answers : List (List Kept)) → HasFollowed fronts logs last recent answers → (i stamp : ℕ) (key : Key) (from at : ℕ) (state : State) (code : EntryFault) → IsBehind fronts i (length (log_at logs i).entries) → IsMergeFault logs answers key from at state code
    → IsWrong fronts logs recent i (Merge stamp key from at state) code
merge_wrong fronts logs last recent answers run i stamp key from at state NoSource behind (inl none) = (stamp, key, from, at, state, (refl, behind), λ read. none read.0 read.2.1.0 read.1)
merge_wrong fronts logs last recent answers run i stamp key from at state NoSource behind (inr (index, is, not)) = (
  stamp,
  key,
  from,
  at,
  state,
  (refl, behind),
  λ read. (
      let same : read.0 ≡ index = same_index fronts logs last recent answers run read.0 index from read.2.1.0 is.0 read.1 is.1 in
      not_read fronts logs last recent answers run index at read.2.0 key not (subst (λ (j : ℕ). IsBehind fronts j at) same read.3) (subst (λ (j : ℕ). EntryIn logs j at (Read read.2.0 key)) same read.2.1)),
)
merge_wrong fronts logs last recent answers run i stamp key from at state OtherState behind (index, is, there, differs) =
    let h : IsReadKept fronts logs (steps_behind fronts run.order) run.messages index at key = run.kept.each index at (kept.Read key) is.0 there in (
      stamp,
      key,
      from,
      at,
      state,
      (refl, behind),
      (index, is.1, (h.stamp, h.there), h.behind),
      λ answer. differs (answered fronts logs last recent answers run index at key state is.0 there
          (subst (λ (j : ℕ). IsReplay (take at (log_at logs j).entries) key state) (same_index fronts logs last recent answers run answer.0 index from answer.1 is.0 answer.2 is.1) answer.3)),
    )
merge_wrong fronts logs last recent answers run i stamp key from at state GivenUp behind (index, is, gone) = (stamp, key, from, at, state, (refl, behind), (index, is.0, is.1, given_up fronts logs last recent answers run index at is.0 gone))
merge_wrong fronts logs last recent answers run i stamp key from at state Twice behind h = absurd h
merge_wrong fronts logs last recent answers run i stamp key from at state Falls behind h = absurd h
merge_wrong fronts logs last recent answers run i stamp key from at state Late behind h = absurd h
merge_wrong fronts logs last recent answers run i stamp key from at state Illegal behind h = absurd h

source_wrong : (fronts : List ℕ) (logs : List Log) (last : Option ℕ) (recent : Recent) (answers : List (List Kept)) → HasFollowed fronts logs last recent answers → (i : ℕ) (e : Entry) (code : EntryFault) → IsBehind fronts i (length (log_at logs i).entries) → IsSourceFault logs answers e code → IsWrong fronts logs recent i e code
source_wrong fronts logs last recent answers run i (Merge stamp key from at state) code behind h = merge_wrong fronts logs last recent answers run i stamp key from at state code behind h
source_wrong fronts logs last recent answers run i (Put stamp key seen content dot) code behind h = absurd h
source_wrong fronts logs last recent answers run i (Read stamp key) code behind h = absurd h
source_wrong fronts logs last recent answers run i (Restart stamp) code behind h = absurd h

-- ---- stamps

stamp_wrong : (fronts : List ℕ) (logs : List Log) (recent : Recent) (last : Option ℕ) (newest i : ℕ) (e : Entry) (code : EntryFault) → IsNewest logs last newest → IsStampFault last newest i (stamp_of e) code → IsWrong fronts logs recent i e code
stamp_wrong fronts logs recent None newest i e code is h = absurd h
stamp_wrong fronts logs recent (Some s) newest i e Twice (place, a, there, end, same) h = (newest, place, a, there, h.0, same ∙ h.1)
stamp_wrong fronts logs recent (Some s) newest i e Falls (place, a, there, end, same) h =
    subst (λ (j : ℕ). (p : ℕ) × (x : Entry) × EntryIn logs j p x × (p + 1 ≡ length (log_at logs j).entries) × (stamp_of e ≤ stamp_of x)) h.0 (place, a, there, end, omega (arith, same, h.1))
stamp_wrong fronts logs recent (Some s) newest i e Late (place, a, there, end, same) h = inl (newest, place, a, there, omega (arith, same, h.1))
stamp_wrong fronts logs recent (Some s) newest i e NoSource is h = absurd h
stamp_wrong fronts logs recent (Some s) newest i e OtherState is h = absurd h
stamp_wrong fronts logs recent (Some s) newest i e GivenUp is h = absurd h
stamp_wrong fronts logs recent (Some s) newest i e Illegal is h = absurd h

-- the last one of those with one entry more
pub newest_more : (logs : List Log) (i : ℕ) (e : Entry) → i < length logs → IsNewest (with_entry_at logs i e) (Some (stamp_of e)) i
newest_more logs i e inside =
    let grown : log_at (with_entry_at logs i e) i ≡ with_entry (log_at logs i) e = get_or-set_same logs i (with_entry (log_at logs i) e) (record { vnode = 0; entries = [] }) inside in (
      length (log_at logs i).entries,
      e,
      (omega (arith, length-set logs i (with_entry (log_at logs i) e), inside), ap (λ (l : Log). slice_get l.entries (length (log_at logs i).entries)) grown ∙ at_end (log_at logs i).entries e (length (log_at logs i).entries) refl),
      sym (ap (λ (l : Log). length l.entries) grown ∙ length_push (log_at logs i).entries e),
      refl,
    )

-- ---- what is told

placed_wrong : (fronts : List ℕ) (logs : List Log) (last : Option ℕ) (recent : Recent) (answers : List (List Kept)) → HasFollowed fronts logs last recent answers → (i : ℕ) (e : Entry) (code : EntryFault) → IsPlaceFault fronts logs answers i e code → IsWrong fronts logs recent i e code
placed_wrong fronts logs last recent answers run i e code (behind, inl (is, lacks)) = subst (λ (c : EntryFault). IsWrong fronts logs recent i e c) (sym is) (inr (behind, lacks))
placed_wrong fronts logs last recent answers run i e code (behind, inr (whole, source)) = source_wrong fronts logs last recent answers run i e code behind source

-- ---- which of the faults is told

-- no stamp is above the last one
none_above : (fronts : List ℕ) (logs : List Log) (stamp : ℕ) (recent : Recent) (answers : List (List Kept)) → HasFollowed fronts logs (Some stamp) recent answers → (index place : ℕ) (a : Entry) → EntryIn logs index place a → stamp_of a ≤ stamp
none_above fronts logs stamp recent answers run index place a there =
    run.below (step_at index place a) (Contains-permutation (steps_of 0 logs) run.order (step_at index place a) run.all (step_in 0 index logs index place a (omega arith) there))

stamp_first : (fronts : List ℕ) (logs : List Log) (last : Option ℕ) (recent : Recent) (answers : List (List Kept)) (newest i : ℕ) (e : Entry) (code : EntryFault) → HasFollowed fronts logs last recent answers → IsNewest logs last newest → IsStampFault last newest i (stamp_of e) code
    → IsFirst fronts logs recent i e code
stamp_first fronts logs None recent answers newest i e code run is h = absurd h
stamp_first fronts logs (Some s) recent answers newest i e Twice run (place, a, there, end, same) h =
    (newest, h.0, ((place, a, there, same ∙ h.1), λ other at b has. (let low = none_above fronts logs s recent answers run other at b has in omega (arith, low, h.1))))
stamp_first fronts logs (Some s) recent answers newest i e Falls run (place, a, there, end, same) h =
    (s, subst (λ (j : ℕ). IsHighest logs j s) h.0 ((place, a, there, same), none_above fronts logs s recent answers run), h.1)
stamp_first fronts logs (Some s) recent answers newest i e Late run (place, a, there, end, same) h = inl (newest, s, h.0, ((place, a, there, same), none_above fronts logs s recent answers run), h.1)
stamp_first fronts logs (Some s) recent answers newest i e NoSource run is h = absurd h
stamp_first fronts logs (Some s) recent answers newest i e OtherState run is h = absurd h
stamp_first fronts logs (Some s) recent answers newest i e GivenUp run is h = absurd h
stamp_first fronts logs (Some s) recent answers newest i e Illegal run is h = absurd h

-- where no read is kept nothing was given up
not_gone : (answers : List (List Kept)) (index at : ℕ) (key : Key) → IsNotKept answers index at key → kept_at answers index at ≡ Some kept.GivenUp → ⊥
not_gone answers index at key (inl none) gone = let both : None ≡ Some kept.GivenUp = sym none ∙ gone in cc
not_gone answers index at key (inr (inl other)) gone = let both : Some kept.Other ≡ Some kept.GivenUp = sym other ∙ gone in cc
not_gone answers index at key (inr (inr (inl (own, state, is)))) gone = let both : Some (kept.Was own state) ≡ Some kept.GivenUp = sym is ∙ gone in cc
not_gone answers index at key (inr (inr (inr (other, is, differs)))) gone = let both : Some (kept.Read other) ≡ Some kept.GivenUp = sym is ∙ gone in cc

-- what wasn't given up is held
held_at : (fronts : List ℕ) (logs : List Log) (last : Option ℕ) (recent : Recent) (answers : List (List Kept)) → HasFollowed fronts logs last recent answers → (index at : ℕ) → index < length logs → (kept_at answers index at ≡ Some kept.GivenUp → ⊥) → IsHeldAt fronts logs recent index at
held_at fronts logs last recent answers run index at inside not = let all = run.kept.left index inside in (all.0, all.1, λ over. not (all.2.gone at over))

merge_first : (fronts : List ℕ) (logs : List Log) (last : Option ℕ) (recent : Recent) (answers : List (List Kept)) → HasFollowed fronts logs last recent answers → (i stamp : ℕ) (key : Key) (from at : ℕ) (state : State) (code : EntryFault) → IsAfterAll logs (Merge stamp key from at state) → AreWhole fronts logs
    → IsMergeFault logs answers key from at state code → IsFirst fronts logs recent i (Merge stamp key from at state) code
merge_first fronts logs last recent answers run i stamp key from at state NoSource after whole (inl none) = (after, whole, inl none)
merge_first fronts logs last recent answers run i stamp key from at state NoSource after whole (inr (index, is, not)) =
    (after, whole, inr (index, is.0, is.1, held_at fronts logs last recent answers run index at is.0 (not_gone answers index at key not)))
merge_first fronts logs last recent answers run i stamp key from at state OtherState after whole (index, is, there, differs) =
    (after, whole, inr (index, is.0, is.1, held_at fronts logs last recent answers run index at is.0 (λ gone. (let both : Some (kept.Read key) ≡ Some kept.GivenUp = sym there ∙ gone in cc))))
merge_first fronts logs last recent answers run i stamp key from at state GivenUp after whole h = (after, whole)
merge_first fronts logs last recent answers run i stamp key from at state Twice after whole h = absurd h
merge_first fronts logs last recent answers run i stamp key from at state Falls after whole h = absurd h
merge_first fronts logs last recent answers run i stamp key from at state Late after whole h = absurd h
merge_first fronts logs last recent answers run i stamp key from at state Illegal after whole h = absurd h

source_first : (fronts : List ℕ) (logs : List Log) (last : Option ℕ) (recent : Recent) (answers : List (List Kept)) → HasFollowed fronts logs last recent answers → (i : ℕ) (e : Entry) (code : EntryFault) → IsAfterAll logs e → AreWhole fronts logs → IsSourceFault logs answers e code → IsFirst fronts logs recent i e code
source_first fronts logs last recent answers run i (Merge stamp key from at state) code after whole h = merge_first fronts logs last recent answers run i stamp key from at state code after whole h
source_first fronts logs last recent answers run i (Put stamp key seen content dot) code after whole h = absurd h
source_first fronts logs last recent answers run i (Read stamp key) code after whole h = absurd h
source_first fronts logs last recent answers run i (Restart stamp) code after whole h = absurd h

placed_first : (fronts : List ℕ) (logs : List Log) (last : Option ℕ) (recent : Recent) (answers : List (List Kept)) → HasFollowed fronts logs last recent answers → (i : ℕ) (e : Entry) (code : EntryFault) → IsAfterAll logs e → IsPlaceFault fronts logs answers i e code → IsFirst fronts logs recent i e code
placed_first fronts logs last recent answers run i e code after (behind, inl (is, lacks)) = subst (λ (c : EntryFault). IsFirst fronts logs recent i e c) (sym is) (inr after)
placed_first fronts logs last recent answers run i e code after (behind, inr (whole, source)) = source_first fronts logs last recent answers run i e code after whole source

pub checked : (fronts : List ℕ) (logs : List Log) (last : Option ℕ) (recent : Recent) (answers : List (List Kept)) (newest i : ℕ) (e : Entry) (code : EntryFault) → HasFollowed fronts logs last recent answers → IsNewest logs last newest → IsFoundWrong fronts logs answers last newest i e code
    → IsWrong fronts logs recent i e code × IsFirst fronts logs recent i e code
checked fronts logs last recent answers newest i e code run is (inl stamp) = (stamp_wrong fronts logs recent last newest i e code is stamp, stamp_first fronts logs last recent answers newest i e code run is stamp)
checked fronts logs last recent answers newest i e code run is (inr (above, place)) =
    (placed_wrong fronts logs last recent answers run i e code place, placed_first fronts logs last recent answers run i e code (after_all fronts logs last recent answers run e above) place)

-- where it stops at this code
pub stopped : (r : Result (Unit {0}) AuditFault) (fronts : List ℕ) (logs : List Log) (recent : Recent) (i vnode place : ℕ) (e : Entry) (code : EntryFault) → r ≡ Err (Found code vnode place) → (log_at logs i).vnode ≡ vnode → length (log_at logs i).entries ≡ place → IsWrong fronts logs recent i e code × IsFirst fronts logs recent i e code
    → IfErr r (λ fault. IsToldOf fronts logs recent i e fault)
stopped r fronts logs recent i vnode place e code is id end wrong = subst (λ (s : Result (Unit {0}) AuditFault). IfErr s (λ fault. IsToldOf fronts logs recent i e fault)) (sym is) (id, end, wrong.0, wrong.1)

pub lacked : (fronts : List ℕ) (logs : List Log) (last : Option ℕ) (recent : Recent) (answers : List (List Kept)) (i : ℕ) (e : Entry) → HasFollowed fronts logs last recent answers → IsAbove last (stamp_of e) → IsExpected fronts logs answers i e → IsToldOf fronts logs recent i e NoMemory
lacked fronts logs last recent answers i e run above place = (after_all fronts logs last recent answers run e above, founded fronts logs last recent answers i e run place, held fronts logs last recent answers i e run place)

-- an entry that may not follow those at its vnode, and has no other fault
pub illegal_told : (fronts : List ℕ) (logs : List Log) (recent : Recent) (i vnode place : ℕ) (e : Entry) (fault : AuditFault) → fault ≡ Found Illegal vnode place → (log_at logs i).vnode ≡ vnode → length (log_at logs i).entries ≡ place → (MayFollow (log_at logs i).vnode (log_at logs i).entries e → ⊥)
    → IsToldOf fronts logs recent i e NoMemory → IsToldOf fronts logs recent i e fault
illegal_told fronts logs recent i vnode place e fault is id end not first = subst (λ (f : AuditFault). IsToldOf fronts logs recent i e f) (sym is) (id, end, not, first)
