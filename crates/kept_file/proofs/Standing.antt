-- What vnodes begin with, one record and one file more each time.
use Rattle.std.proofs.Common.{◌≡◌, ◌≢◌, ◌⊎◌, inl, inr, ℕ, ◌+◌, ◌%◌, ◌<◌, ◌≤◌, ◌==◌, Bool, true, false, cond, List, [], ◌∷◌, ◌++◌, length, get_or, take, refl, sym, ap, subst, ◌∙◌, arith, append_assoc}
use Rattle.std.specs.Prelude.{Contains}
use Rattle.std.proofs.Math.Nat.{mod-eq_of_lt}
use Rattle.std.proofs.lemmas.Bool.{cases_eq}
use Rattle.std.proofs.lemmas.Bool.Decides.{nat_tests}
use Rattle.std.proofs.lemmas.List.{take_all, take_more}
use Rattle.std.proofs.lemmas.List.Elements.{Contains-append_left, Contains-push, Contains-push_cases}
use Rattle.key_state.specs.declared.content.Key.{Key}
use Rattle.key_state.specs.Limits.{IsKey}
use Rattle.record_codec.specs.declared.record.Record.{Record}
use Rattle.ring.specs.Places.{PlacementView}
use Rattle.kept_file.specs.declared.file.KeptFile.{KeptFile}
use Rattle.kept_file.specs.declared.file.Source.{Source}
use Rattle.kept_file.specs.declared.file.Source.TheVariants.{Vnode}
use Rattle.kept_file.specs.Files.{is_of, records_at}
use Rattle.kept_file.specs.Placed.{AreTheirs, CameOf, HasAll, HasThose, IsAddedOrSeen, IsAmong, IsFilled, IsPlacedAt, IsVacant, stands}

none_in : {X : Type 0} (x : X) → Contains [] x → ⊥
none_in x (k, lt, is) = omega (arith, lt)

-- ---- one record more

module _ (placement : PlacementView) (vnode : ℕ) where
  those_more : (records old new : List Record) → ((s : Record) → Contains old s → Contains new s) → HasThose placement vnode records old → HasThose placement vnode records new
  those_more records old new keeps has r there key at = by (has r there key at)
    where
      by : IsAmong old r → IsAmong new r
      by (same, found, is_key, is_state) = (same, keeps same found, is_key, is_state)

  pub all_more : (files : List KeptFile) (old new : List Record) → ((s : Record) → Contains old s → Contains new s) → HasAll placement vnode files old → HasAll placement vnode files new
  all_more files old new keeps has file there = those_more file.records.items old new keeps (has file there)

  added_keeps : (files : List KeptFile) (r : Record) (old new : List Record) → IsAddedOrSeen placement vnode files r old new → (s : Record) → Contains old s → Contains new s
  added_keeps files r old new (inl (is, at)) s there = subst (λ (l : List Record). Contains l s) (sym is) (Contains-append_left old (r ∷ []) s there)
  added_keeps files r old new (inr (is, seen)) s there = subst (λ (l : List Record). Contains l s) (sym is) there

  -- a record that a file has, and all of those files' are there
  seen_there : (files : List KeptFile) (old : List Record) (r : Record) → HasAll placement vnode files old → IsKey r.key → stands placement r.key vnode ≡ true
      → ((file : KeptFile) × Contains files file × IsAmong file.records.items r) → IsAmong old r
  seen_there files old r has key at (file, in_files, (same, there, is_key, is_state)) =
      by (has file in_files same there (subst (λ (k : Key). IsKey k) (sym is_key) key) (subst (λ (k : Key). stands placement k vnode ≡ true) (sym is_key) at))
    where
      by : IsAmong old same → IsAmong old r
      by (found, in_old, its_key, its_state) = (found, in_old, its_key ∙ is_key, its_state ∙ is_state)

  added_there : (files : List KeptFile) (r : Record) (old new : List Record) → HasAll placement vnode files old → IsAddedOrSeen placement vnode files r old new
      → IsKey r.key → stands placement r.key vnode ≡ true → IsAmong new r
  added_there files r old new has (inl (is, at)) key stand = (r, subst (λ (l : List Record). Contains l r) (sym is) (Contains-push old r), refl, refl)
  added_there files r old new has (inr (is, seen)) key stand = subst (λ (l : List Record). IsAmong l r) (sym is) (seen_there files old r has key stand (seen key stand))

  -- so many records of a file were looked at, behind those of earlier files
  pub record Progress (earlier : List KeptFile) (before records now : List Record) (count : ℕ) : Type 0 where
    pub all : HasAll placement vnode earlier now
    pub those : HasThose placement vnode (take count records) now
    pub theirs : CameOf placement vnode before records now

  pub none_looked : (earlier : List KeptFile) (before records : List Record) → HasAll placement vnode earlier before → Progress earlier before records before 0
  none_looked earlier before records has = record {
    all = has;
    those = λ r there key at. absurd (none_in r there);
    theirs = λ r there. inl there;
  }

  came_more : (files : List KeptFile) (before records old new : List Record) (r : Record) → CameOf placement vnode before records old → Contains records r → IsAddedOrSeen placement vnode files r old new → CameOf placement vnode before records new
  came_more files before records old new r came in_file (inl (is, at)) s there = by (Contains-push_cases old r s (subst (λ (l : List Record). Contains l s) is there))
    where
      by : Contains old s ⊎ (r ≡ s) → Contains before s ⊎ ((stands placement s.key vnode ≡ true) × Contains records s)
      by (inl past) = came s past
      by (inr same) = subst (λ (x : Record). Contains before x ⊎ ((stands placement x.key vnode ≡ true) × Contains records x)) same (inr (at, in_file))
  came_more files before records old new r came in_file (inr (is, seen)) s there = came s (subst (λ (l : List Record). Contains l s) is there)

  pub one_looked : (earlier seen : List KeptFile) (before records old new : List Record) (count : ℕ) (r : Record) → count < length records → r ≡ get_or records count r → seen ≡ earlier
      → Progress earlier before records old count → IsAddedOrSeen placement vnode seen r old new → Progress earlier before records new (count + 1)
  one_looked earlier seen before records old new count r lt is same so outcome =
      let added = subst (λ (files : List KeptFile). IsAddedOrSeen placement vnode files r old new) same outcome in
      record {
        all = all_more earlier old new (added_keeps earlier r old new added) so.all;
        those = λ s there. those_now added s (Contains-push_cases (take count records) (get_or records count r) s (subst (λ (l : List Record). Contains l s) (take_more records count r lt) there));
        theirs = came_more earlier before records old new r so.theirs (count, lt, sym is) added;
      }
    where
      those_now : IsAddedOrSeen placement vnode earlier r old new → (s : Record) → Contains (take count records) s ⊎ (get_or records count r ≡ s) → IsKey s.key → stands placement s.key vnode ≡ true → IsAmong new s
      those_now added s (inl past) = those_more (take count records) old new (added_keeps earlier r old new added) so.those s past
      those_now added s (inr here) = subst (λ (x : Record). IsKey x.key → stands placement x.key vnode ≡ true → IsAmong new x) (is ∙ here) (added_there earlier r old new so.all added)

  -- all were looked at
  pub all_looked : (earlier : List KeptFile) (before records now : List Record) (count : ℕ) → length records ≤ count → Progress earlier before records now count → HasThose placement vnode records now
  all_looked earlier before records now count all so = subst (λ (l : List Record). HasThose placement vnode l now) (take_all count records all) so.those

  pub all_files : (files : List KeptFile) (now : List Record) (count : ℕ) → length files ≤ count → HasAll placement vnode (take count files) now → HasAll placement vnode files now
  all_files files now count all has = subst (λ (l : List KeptFile). HasAll placement vnode l now) (take_all count files all) has

  -- ---- one file more

  pub all_in : (files : List KeptFile) (count : ℕ) (file : KeptFile) (old new : List Record) → count < length files → file ≡ get_or files count file
      → HasAll placement vnode (take count files) new → HasThose placement vnode file.records.items new → HasAll placement vnode (take (count + 1) files) new
  all_in files count file old new lt is has those f there =
      by (Contains-push_cases (take count files) (get_or files count file) f (subst (λ (l : List KeptFile). Contains l f) (take_more files count file lt) there))
    where
      by : Contains (take count files) f ⊎ (get_or files count file ≡ f) → HasThose placement vnode f.records.items new
      by (inl past) = has f past
      by (inr here) = subst (λ (x : KeptFile). HasThose placement vnode x.records.items new) (is ∙ here) those

  pub theirs_in : (files : List KeptFile) (count : ℕ) (file : KeptFile) (old new : List Record) → count < length files → file ≡ get_or files count file
      → AreTheirs placement vnode files old → CameOf placement vnode old file.records.items new → AreTheirs placement vnode files new
  theirs_in files count file old new lt is are came r there = by (came r there)
    where
      by : Contains old r ⊎ ((stands placement r.key vnode ≡ true) × Contains file.records.items r)
          → (stands placement r.key vnode ≡ true) × (file : KeptFile) × Contains files file × Contains file.records.items r
      by (inl past) = are r past
      by (inr (at, in_file)) = (at, file, (count, lt, sym is), in_file)

  pub no_files : (files : List KeptFile) → HasAll placement vnode (take 0 files) [] × AreTheirs placement vnode files []
  no_files files = (λ file there. absurd (none_in file there), λ r there. absurd (none_in r there))

-- ---- one vnode more

-- files of the first vnodes were made, each as it has to be, and of none past these
pub record AreMade (placement : PlacementView) (files made : List KeptFile) (count : ℕ) : Type 0 where
  pub each : (index : ℕ) → index < count → IsPlacedAt placement files index (records_at made index)
  pub filled : (index : ℕ) → index < count → IsFilled made index
  pub vacant : (index : ℕ) → count ≤ index → index < 256 → IsVacant made index

pub none_made : (placement : PlacementView) (files : List KeptFile) → AreMade placement files [] 0
none_made placement files = record {
  each = λ index lt. absurd (omega (arith, lt));
  filled = λ index lt. absurd (omega (arith, lt));
  vacant = λ index le lt more. refl;
}

-- the first of files is that of an index
at_first : (file : KeptFile) (more : List KeptFile) (index : ℕ) → file.from ≡ Vnode index → index < 256 → records_at (file ∷ more) index ≡ file.records.items
at_first file more index is few = chosen (is_of file.from index) (ap (λ (s : Source). is_of s index) is ∙ own_is)
  where
    own_is : ((index % 256) == index) ≡ true
    own_is = let own : index % 256 ≡ index = mod-eq_of_lt few in grind (arith, nat_tests)

    chosen : (b : Bool) → b ≡ true → cond b file.records.items (records_at more index) ≡ file.records.items
    chosen true e = refl
    chosen false e = absurd cc

-- it is another's
past_first : (file : KeptFile) (more : List KeptFile) (own index : ℕ) → file.from ≡ Vnode own → own < index → index < 256 → records_at (file ∷ more) index ≡ records_at more index
past_first file more own index is lt few = chosen (is_of file.from index) (ap (λ (s : Source). is_of s index) is ∙ no_other)
  where
    no_other : ((own % 256) == index) ≡ false
    no_other = let below : own < 256 = omega (arith, lt, few) in let same : own % 256 ≡ own = mod-eq_of_lt below in grind (arith, nat_tests)

    chosen : (b : Bool) → b ≡ false → cond b file.records.items (records_at more index) ≡ records_at more index
    chosen true e = absurd cc
    chosen false e = refl

pub one_made : (placement : PlacementView) (files made : List KeptFile) (count : ℕ) (file : KeptFile) → count < 256 → file.from ≡ Vnode count → AreMade placement files made count
    → IsPlacedAt placement files count file.records.items → AreMade placement files (made ++ file ∷ []) (count + 1)
one_made placement files made count file few is so placed = record {
  each = λ index lt. each_now index (below index lt);
  filled = λ index lt. filled_now index (below index lt);
  vacant = λ index le lt more.
      ap (λ (l : List KeptFile). records_at l index) (append_assoc made (file ∷ []) more)
      ∙ so.vacant index (omega (arith, le)) lt (file ∷ more)
      ∙ past_first file more count index is (omega (arith, le)) lt;
}
  where
    below : (index : ℕ) → index < count + 1 → (index < count) ⊎ (index ≡ count)
    below index lt = by (cases_eq index count)
      where
        by : (index ≡ count) ⊎ (index ≢ count) → (index < count) ⊎ (index ≡ count)
        by (inl same) = inr same
        by (inr apart) = inl (omega (arith, lt, apart))

    here : (more : List KeptFile) → records_at (made ++ file ∷ more) count ≡ file.records.items
    here more = so.vacant count (omega arith) few (file ∷ more) ∙ at_first file more count is few

    each_now : (index : ℕ) → (index < count) ⊎ (index ≡ count) → IsPlacedAt placement files index (records_at (made ++ file ∷ []) index)
    each_now index (inl past) = subst (λ (l : List Record). IsPlacedAt placement files index l) (sym (so.filled index past (file ∷ []))) (so.each index past)
    each_now index (inr same) = subst (λ (n : ℕ). IsPlacedAt placement files n (records_at (made ++ file ∷ []) n)) (sym same) (subst (λ (l : List Record). IsPlacedAt placement files count l) (sym (here [])) placed)

    filled_now : (index : ℕ) → (index < count) ⊎ (index ≡ count) → IsFilled (made ++ file ∷ []) index
    filled_now index (inl past) more =
        ap (λ (l : List KeptFile). records_at l index) (append_assoc made (file ∷ []) more) ∙ so.filled index past (file ∷ more) ∙ sym (so.filled index past (file ∷ []))
    filled_now index (inr same) more =
        ap (λ (l : List KeptFile). records_at l index) (append_assoc made (file ∷ []) more)
        ∙ subst (λ (n : ℕ). records_at (made ++ file ∷ more) n ≡ records_at (made ++ file ∷ []) n) (sym same) (here more ∙ sym (here []))
