-- Nothing was followed yet.
use Rattle.std.proofs.Common.{◌≡◌, ℕ, zero, suc, ◌+◌, ◌<◌, ◌≤◌, inl, List, [], ◌∷◌, ◌++◌, length, get_or, take, replicate, refl, sym, ap, subst, ◌∙◌, arith, Some, None}
use Rattle.std.specs.Prelude.{slice_get, Result, Ok, Err, OnOk, OnErr, IfErr}
use Rattle.std.specs.Result.{IsErrAnd}
use Rattle.std.specs.List.Sorted.{IsPermutation}
use Rattle.std.proofs.lemmas.List.{length-map, length-replicate, replicate_more, take_more, take_all}
use Rattle.std.proofs.lemmas.List.Sorted.{IsPermutation-refl}
use Rattle.journal.specs.Entry.{Entry, Merge}
use Rattle.journal.specs.Logs.{Log}
use Rattle.world.specs.Represents.{AreDistinct, log_at, empty_logs}
use Rattle.world.specs.Running.{Begins}
use Rattle.world.proofs.Lists.{Contains-nil}
use Rattle.audit_replay.specs.Interleaved.{ids_of}
use Rattle.audit_replay.specs.Order.{Step, steps_of}
use Rattle.audit_replay.specs.Turns.{EntryIn, count_at}
use Rattle.audit_replay.proofs.Grown.{fronts_are}
use Rattle.audit_replay.proofs.Steps.{begins}
use Rattle.audit_faults.specs.declared.fault.AuditFault.{AuditFault}
use Rattle.audit_replay.specs.declared.kept.Kept.{Kept}
use Rattle.audit_replay.specs.declared.kept.Recent.{Recent}
use Rattle.audit_replay.specs.Kept.{IsLeft}
use Rattle.audit_replay.specs.Followed.{HasFollowed}
use Rattle.audit_replay.proofs.Keeping.{none_left}

pub empties : {X : Type 0} (n index : ℕ) → get_or (replicate n (let l : List X = [] in l)) index [] ≡ []
empties zero index = refl
empties (suc n) zero = refl
empties {X = X} (suc n) (suc index) = empties {X = X} n index

-- one empty list more
pub empties_more : {X : Type 0} (index : ℕ) (lists new : List (List X)) (none : List X) → lists ≡ replicate index [] → none ≡ [] → new ≡ lists ++ none ∷ [] → new ≡ replicate (index + 1) []
empties_more {X = X} index lists new none so_far empty pushed =
    pushed ∙ ap (λ (l : List (List X)). l ++ none ∷ []) so_far ∙ ap (λ (a : List X). replicate index (let n : List X = [] in n) ++ a ∷ []) empty ∙ replicate_more index []

abbrev fresh : ℕ → Log
fresh id = record { vnode = id; entries = [] }

ids_are : (ids : List ℕ) → ids_of (empty_logs ids) ≡ ids
ids_are [] = refl
ids_are (id ∷ ids) = ap (λ (is : List ℕ). id ∷ is) (ids_are ids)

fresh_at : (ids : List ℕ) (index d : ℕ) → index < length ids → log_at (empty_logs ids) index ≡ fresh (get_or ids index d)
fresh_at [] index d inside = absurd (omega (arith, inside))
fresh_at (id ∷ ids) zero d inside = refl
fresh_at (id ∷ ids) (suc index) d inside = fresh_at ids index d (omega (arith, inside))

as_many : (ids : List ℕ) → length (empty_logs ids) ≡ length ids
as_many ids = length-map ids (λ (id : ℕ). fresh id)

no_entries : (ids : List ℕ) (index : ℕ) → (log_at (empty_logs ids) index).entries ≡ []
no_entries [] index = refl
no_entries (id ∷ ids) zero = refl
no_entries (id ∷ ids) (suc index) = no_entries ids index

no_steps : (v : ℕ) (ids : List ℕ) → steps_of v (empty_logs ids) ≡ []
no_steps v [] = refl
no_steps v (id ∷ ids) = no_steps (v + 1) ids

-- one fresh vnode more
pub vnodes_more : (ids : List ℕ) (vnodes new : List Log) (vnode : Log) (index d : ℕ) → index < length ids → vnodes ≡ take index (empty_logs ids) → vnode ≡ (let l : Log = record { vnode = get_or ids index d; entries = [] } in l) → new ≡ vnodes ++ vnode ∷ []
    → new ≡ take (index + 1) (empty_logs ids)
vnodes_more ids vnodes new vnode index d inside so_far is pushed =
    let one : vnode ≡ log_at (empty_logs ids) index = is ∙ sym (fresh_at ids index d inside) in
    pushed ∙ ap (λ (vs : List Log). vs ++ vnode ∷ []) so_far ∙ ap (λ (l : Log). take index (empty_logs ids) ++ l ∷ []) one
    ∙ sym (take_more (empty_logs ids) index (record { vnode = 0; entries = [] }) (omega (arith, as_many ids, inside)))

pub vnodes_all : (ids : List ℕ) (index : ℕ) → index ≡ length ids → take index (empty_logs ids) ≡ empty_logs ids
vnodes_all ids index is = take_all index (empty_logs ids) (omega (arith, is, as_many ids))

-- no fronts are whole, or all are, where nothing was followed
pub opened : (fronts : List ℕ) (ids : List ℕ) (recent : Recent) → AreDistinct ids → HasFollowed fronts (empty_logs ids) None recent (replicate (length ids) [])
opened fronts ids recent distinct = record {
  order = [];
  messages = [];
  so_far = λ begin begun are begins_so. begins begin (empty_logs ids) (empty_logs ids) (subst (λ (ls : List Log). Begins ls [] begin) (fronts_are fronts (empty_logs ids) begun are short) begins_so);
  begun = inl (record { short = short; none = refl; unsent = refl });
  long = refl;
  distinct = subst (λ (is : List ℕ). AreDistinct is) (sym (ids_are ids)) distinct;
  first = λ s t has also before behind. absurd (Contains-nil s has);
  all = subst (λ (l : List Step). IsPermutation l []) (sym (no_steps 0 ids)) (IsPermutation-refl []);
  rising = tt;
  below = refl;
  kept = record {
    size = length-replicate (length ids) [] ∙ sym (as_many ids);
    lengths = λ index inside. ap length (empties (length ids) index) ∙ sym (ap length (no_entries ids index));
    each = λ index place what inside at. absurd (let none : None ≡ Some what = sym (ap (λ (l : List Kept). slice_get l place) (empties (length ids) index)) ∙ at in cc);
    left = λ index inside. (
      [],
      record { size = sym (ap length (no_entries ids index)); each = λ place what at. absurd (let none : None ≡ Some what = at in cc) },
      subst (λ (l : List Kept). IsLeft recent [] l) (sym (empties (length ids) index)) (none_left recent),
    );
  };
  rises = λ vnode place falls. none_there falls.0 falls.2.0 falls.2.1 falls.2.4;
  single = λ vnode place stamp twice. none_there twice.4.0 twice.1 twice.2 twice.4.2;
  sources = λ index place stamp key from at state there behind. absurd (none_there index place (Merge stamp key from at state) there);
}
  where
    short : (index : ℕ) → index < length (empty_logs ids) → length (log_at (empty_logs ids) index).entries ≤ count_at fronts index
    short index inside = (let none = ap length (no_entries ids index) in omega (arith, none))

    none_there : (index place : ℕ) (e : Entry) → EntryIn (empty_logs ids) index place e → ⊥
    none_there index place e there = (let none : None ≡ Some e = sym (ap (λ (es : List Entry). slice_get es place) (no_entries ids index)) ∙ there.1 in cc)

pub on_ok : {T E : Type 0} (r : Result T E) (P Q : Type 0) → OnOk r P → (P → Q) → OnOk r Q
on_ok (Ok x) P Q h f = f h
on_ok (Err e) P Q h f = tt

pub on_any : {T E : Type 0} (r : Result T E) (P : Type 0) → P → OnOk r P
on_any (Ok x) P h = h
on_any (Err e) P h = tt

pub on_any_err : {T E : Type 0} (r : Result T E) (P : Type 0) → P → OnErr r P
on_any_err (Ok x) P h = tt
on_any_err (Err e) P h = h

-- a fault that is passed on is the one that was told
pub passed : {T : Type 0} (r : Result T AuditFault) (fault : AuditFault) (P : AuditFault → Type 0) → IsErrAnd r (λ e. e ≡ fault) → P fault → IfErr r P
passed (Ok x) fault P was h = tt
passed (Err e) fault P was h = subst P (sym was) h
