-- Keys that are folded, by what the merges of their records come to.
use Rattle.std.proofs.Common.{◌≡◌, ℕ, Bool, true, false, List, [], ◌∷◌, length, map, refl, sym, ap, subst, ◌∙◌, if◌then◌else◌}
use Rattle.std.specs.Prelude.{Option, None, Some}
use Rattle.std.specs.BTreeMap.{BTreeMap, get}
use Rattle.std.specs.List.{AllZip}
use Rattle.key_state.specs.declared.content.Key.{Key}
use Rattle.key_state.specs.State.{State, empty}
use Rattle.journal.specs.Keys.{key_cmp}
use Rattle.kept_file.specs.declared.file.KeptFile.{KeptFile}
use Rattle.record_codec.specs.declared.record.Record.{Record}
use Rattle.kept_fold.specs.declared.candidates.Merging.{Merging}
use Rattle.kept_fold.specs.declared.candidates.Merging.TheVariants.{Merged, PastLimit}
use Rattle.kept_fold.specs.Merging.{AreMerged, GoesOn, HasCome, all_records, is_long, states_of}
use Rattle.kept_fold.specs.Folds.{IsFold, IsRewritten, IsRewrittenBy, is_foldable, rewritten, share, to_fold}
use Rattle.kept_fold.proofs.Steps.{one_merge}

-- ---- what a key's merge comes to, and whether it is folded

to_fold_merged : (s state : State) → to_fold (Some (Merged s)) ≡ Some state → (is_foldable s ≡ true) × (s ≡ state)
to_fold_merged s state = by_test (is_foldable s)
  where
    by_test : (b : Bool) → (if b then Some s else None) ≡ Some state → (b ≡ true) × (s ≡ state)
    by_test true e = (refl, cc)
    by_test false e = absurd cc

merged_to_fold : (s : State) → is_foldable s ≡ true → to_fold (Some (Merged s)) ≡ Some s
merged_to_fold s is = ap (λ (b : Bool). if b then Some s else None) is

module _ (files : List KeptFile) (key : Key) (start last : Option Merging) where
  -- what a key began with, and what its merge has come to
  pub record IsJudged : Type 0 where
    pub began : start ≡ (if is_long (share (length files)) (all_records files) key then Some (Merged empty) else None)
    pub went : GoesOn (states_of (all_records files) key) start last

  abbrev states : List State
  states = states_of (all_records files) key

  abbrev long : Bool
  long = is_long (share (length files)) (all_records files) key

  come : (m : Merging) → GoesOn states (Some (Merged empty)) (Some m) → HasCome states m
  come m goes = goes [] refl

  folded_so : (m : Merging) (state : State) → HasCome states m → to_fold (Some m) ≡ Some state → long ≡ true → IsFold files key state
  folded_so (Merged s) state so is l =
      let t = to_fold_merged s state is in
      record { merges = subst (λ (x : State). AreMerged states x) t.1 so; foldable = subst (λ (x : State). is_foldable x ≡ true) t.1 t.0; long = l }
  folded_so PastLimit state so is l = absurd cc

  pub fold_there : IsJudged → (m : Merging) (state : State) → last ≡ Some m → to_fold (Some m) ≡ Some state → IsFold files key state
  fold_there judged m state found is = by_long long refl judged.began
    where
      by_long : (b : Bool) → long ≡ b → start ≡ (if b then Some (Merged empty) else None) → IsFold files key state
      by_long true l e = folded_so m state (come m (subst (λ (o : Option Merging). GoesOn states o (Some m)) e (subst (λ (o : Option Merging). GoesOn states start o) found judged.went))) is l
      by_long false l e = absurd (let none : Some m ≡ None = subst (λ (o : Option Merging). GoesOn states o (Some m)) e (subst (λ (o : Option Merging). GoesOn states start o) found judged.went) in cc)

  pub there_folds : IsJudged → (state : State) → IsFold files key state → (m : Merging) × (last ≡ Some m) × (to_fold (Some m) ≡ Some state)
  there_folds judged state fold = by_last last refl (subst (λ (o : Option Merging). GoesOn states o last) (judged.began ∙ ap (λ (b : Bool). if b then Some (Merged empty) else None) fold.long) judged.went)
    where
      by_come : (m : Merging) → last ≡ Some m → HasCome states m → (m : Merging) × (last ≡ Some m) × (to_fold (Some m) ≡ Some state)
      by_come (Merged s) is so =
          let same : s ≡ state = one_merge states empty s state so fold.merges in
          (Merged s, is, merged_to_fold s (subst (λ (x : State). is_foldable x ≡ true) (sym same) fold.foldable) ∙ ap (λ (x : State). Some x) same)
      by_come PastLimit is so = absurd (so state fold.merges)

      by_last : (o : Option Merging) → last ≡ o → GoesOn states (Some (Merged empty)) o → (m : Merging) × (last ≡ Some m) × (to_fold (Some m) ≡ Some state)
      by_last None is goes = absurd goes
      by_last (Some m) is goes = by_come m is (come m goes)

  -- ---- a record of the key

  pub rewritten_so : IsJudged → (id : ℕ) (r : Record) → r.key ≡ key → IsRewritten id files r (rewritten id (to_fold last) r)
  rewritten_so judged id r same = record {
    folded = λ merged fold.
        let t = there_folds judged merged (subst (λ (k : Key). IsFold files k merged) same fold) in
        ap (λ (o : Option State). rewritten id o r) (ap to_fold t.1 ∙ t.2);
    others = λ none. by_last last refl none;
  }
    where
      by_fold : (m : Merging) → last ≡ Some m → (o : Option State) → to_fold (Some m) ≡ o → ((merged : State) → IsFold files r.key merged → ⊥) → rewritten id o r ≡ r
      by_fold m found None is none = refl
      by_fold m found (Some state) is none = absurd (none state (subst (λ (k : Key). IsFold files k state) (sym same) (fold_there judged m state found is)))

      by_last : (o : Option Merging) → last ≡ o → ((merged : State) → IsFold files r.key merged → ⊥) → rewritten id (to_fold o) r ≡ r
      by_last None found none = refl
      by_last (Some m) found none = by_fold m found (to_fold (Some m)) refl none

-- ---- all of them

module _ (files : List KeptFile) (begun merges : BTreeMap Key Merging) (judged : (key : Key) → IsJudged files key (get key_cmp begun key) (get key_cmp merges key)) (id : ℕ) where
  records_so : (records : List Record) → AllZip (IsRewritten id files) records (map (λ (r : Record). rewritten id (to_fold (get key_cmp merges r.key)) r) records)
  records_so [] = tt
  records_so (r ∷ records) = (rewritten_so files r.key (get key_cmp begun r.key) (get key_cmp merges r.key) (judged r.key) id r refl, records_so records)

  pub are_rewritten : (some folded : List KeptFile) → AllZip (IsRewrittenBy merges id) some folded
      → AllZip (λ (old : KeptFile) (new : KeptFile). (new.from ≡ old.from) × AllZip (IsRewritten id files) old.records.items new.records.items) some folded
  are_rewritten [] [] all = tt
  are_rewritten [] (g ∷ folded) all = absurd all
  are_rewritten (f ∷ some) [] all = absurd all
  are_rewritten (f ∷ some) (g ∷ folded) all =
      ((all.0.0, subst (λ (l : List Record). AllZip (IsRewritten id files) f.records.items l) (sym all.0.1) (records_so f.records.items)), are_rewritten some folded all.1)

-- ---- what a key began with

pub began_of : (n m : ℕ) (fs files : List KeptFile) (key : Key) (start : Option Merging) → n ≡ m → fs ≡ files → start ≡ (if is_long n (all_records fs) key then Some (Merged empty) else None)
    → start ≡ (if is_long m (all_records files) key then Some (Merged empty) else None)
began_of n m fs files key start one same is =
    is ∙ ap (λ (k : ℕ). if is_long k (all_records fs) key then Some (Merged empty) else None) one ∙ ap (λ (l : List KeptFile). if is_long m (all_records l) key then Some (Merged empty) else None) same
