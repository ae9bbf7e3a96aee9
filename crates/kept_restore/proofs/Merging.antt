-- Records that are merged, one more each time.
use Rattle.std.proofs.Common.{◌≡◌, ℕ, ◌+◌, ◌<◌, List, [], ◌∷◌, ◌++◌, length, length-append, get_or, refl, sym, ap, subst, ◌∙◌, arith, append_assoc}
use Rattle.std.proofs.lemmas.List.{append-nil}
use Rattle.cluster_stamps.specs.declared.view.Told.{Told}
use Rattle.cluster_stamps.specs.declared.view.View.{View}
use Rattle.record_codec.specs.declared.record.Record.{Record}
use Rattle.kept_restore.specs.Loads.{HasLoaded, IsMerged, Mark, merge_told, merges_told}

-- so many records were merged
pub record AreLoading (old new : View) (id : ℕ) (records : List Record) (count : ℕ) : Type 0 where
  pub marks : List Mark
  pub each : length marks ≡ count
  pub told : new.told ≡ old.told ++ merges_told id 0 records marks

nothing_told : (id place : ℕ) (records : List Record) → merges_told id place records [] ≡ []
nothing_told id place [] = refl
nothing_told id place (r ∷ records) = refl

pub loading_none : (view : View) (id : ℕ) (records : List Record) → AreLoading view view id records 0
loading_none view id records = record { marks = []; each = refl; told = sym (ap (λ (ts : List Told). view.told ++ ts) (nothing_told id 0 records) ∙ append-nil view.told) }

merges_end : (id place : ℕ) (records : List Record) (marks : List Mark) (m : Mark) (r : Record) → length marks < length records → r ≡ get_or records (length marks) r
    → merges_told id place records (marks ++ m ∷ []) ≡ merges_told id place records marks ++ merge_told id (place + length marks) r m ∷ []
merges_end id place [] marks m r lt is = absurd (omega (arith, lt))
merges_end id place (x ∷ records) [] m r lt is =
    ap (λ (ts : List Told). merge_told id place x m ∷ ts) (nothing_told id (place + 1) records)
    ∙ ap (λ (y : Record). merge_told id place y m ∷ []) (sym is)
    ∙ ap (λ (n : ℕ). merge_told id n r m ∷ []) (omega (arith))
merges_end id place (x ∷ records) (o ∷ marks) m r lt is =
    ap (λ (ts : List Told). merge_told id place x o ∷ ts)
    (merges_end id (place + 1) records marks m r (omega (arith, lt)) is ∙ ap (λ (n : ℕ). merges_told id (place + 1) records marks ++ merge_told id n r m ∷ []) (omega (arith)))

pub loading_more : (old now new : View) (id : ℕ) (records : List Record) (count at : ℕ) (r : Record) → count < length records → r ≡ get_or records count r → at ≡ count
    → AreLoading old now id records count → IsMerged now new id at r → AreLoading old new id records (count + 1)
loading_more old now new id records count at r lt is at_is so (changed, stamp, (news, known)) =
    let m : Mark = record { stamp = stamp; changed = changed } in
    let ends = merges_end id 0 records so.marks m r (let e = so.each in omega (arith, lt, e)) (subst (λ (n : ℕ). r ≡ get_or records n r) (sym so.each) is) in
    record {
      marks = so.marks ++ m ∷ [];
      each = simp length-append (let e = so.each in omega (arith, e));
      told = news ∙ ap (λ (ts : List Told). ts ++ merge_told id at r m ∷ []) so.told ∙ append_assoc old.told (merges_told id 0 records so.marks) (merge_told id at r m ∷ [])
          ∙ ap (λ (ts : List Told). old.told ++ ts) (ap (λ (n : ℕ). merges_told id 0 records so.marks ++ merge_told id n r m ∷ []) (let e = so.each in omega (arith, e, at_is)) ∙ sym ends);
    }

pub loaded_all : (old new : View) (id : ℕ) (records : List Record) (count : ℕ) → count ≡ length records → AreLoading old new id records count → HasLoaded old new id records
loaded_all old new id records count all so = (so.marks, so.each ∙ all, so.told)
