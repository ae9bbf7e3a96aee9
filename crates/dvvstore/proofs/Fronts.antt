-- Whose calls made the entries of fronts.
use Rattle.std.proofs.Common.{◌≡◌, inl, inr, ◌∙◌, ◌+◌, ◌<◌, ◌≤◌, ◌++◌, ℕ, zero, suc, List, [], ◌∷◌, Option, None, Some, Result, Ok, Err, IfOk, ap, arith, get_or, length, refl, subst, sym}
use Rattle.std.specs.Prelude.{flat_map}
use Rattle.std.specs.List.{Contains}
use Rattle.std.proofs.lemmas.Bool.{cases_order}
use Rattle.std.proofs.lemmas.List.{get_or_append_left, length-append}
use Rattle.std.proofs.lemmas.List.Elements.{Contains-append_cases, Contains-append_left, Contains-append_right}
use Rattle.audit_cluster.specs.Following.{AreNumbered}
use Rattle.audit_cluster.specs.Moments.{AreMadeBy}
use Rattle.audit_faults.specs.declared.fault.WatchFault.{WatchFault}
use Rattle.audit_replay.specs.Turns.{count_at}
use Rattle.cluster_stamps.specs.declared.view.Told.{Told}
use Rattle.cluster_stamps.specs.declared.view.View.{View}
use Rattle.cluster_vnode.specs.Answers.{entry_of_call}
use Rattle.journal.specs.Entry.{Entry}
use Rattle.journal.specs.Logs.{Log}
use Rattle.kept_file.specs.Files.{records_at}
use Rattle.kept_file.specs.declared.file.KeptFile.{KeptFile}
use Rattle.kept_restore.specs.Beginnings.{HaveLoaded, fronts_to}
use Rattle.kept_restore.specs.Loads.{Mark, merge_told, merges_told}
use Rattle.record_codec.specs.declared.record.Record.{Record}
use Rattle.dvvstore.specs.Asides.{AreBrought, AreSpared}
use Rattle.dvvstore.specs.Keeping.{GoesFrom, fronts_for}

-- nobody has to have made the entries of no fronts
pub none_made : (told : List Told) (logs : List Log) (fronts : List ℕ) → fronts ≡ [] → AreMadeBy told fronts logs
none_made told logs fronts is = subst (λ (ns : List ℕ). AreMadeBy told ns logs) (sym is) (λ index place inside lt. (let none : place < 0 = lt in absurd (omega (arith, none))))

-- ---- among what was told in the end

-- what spare passes had been told stands there
spared_has : (first : ℕ) (spares : List View) (told : List Told) → AreSpared first spares told → (t : Told) → Contains (flat_map (λ p. p.told) spares) t → Contains told t
spared_has first [] told is t (k, lt, at) = absurd (omega (arith, lt))
spared_has first (spare ∷ spares) told (more, rest, reads, parted, others) t has =
    subst (λ (ts : List Told). Contains ts t) (sym parted) (elim (Contains-append_cases spare.told (flat_map (λ p. p.told) spares) t has) [
      | inl here ↦ Contains-append_left (spare.told ++ more) rest t (Contains-append_left spare.told more t here)
      | inr there ↦ Contains-append_right (spare.told ++ more) rest t (spared_has (first + 1) spares rest others t there)
    ])

-- so do the calls by which they had brought fronts
pub brought_among : (first : ℕ) (spares : List View) (told watched : List Told) (logs : List Log) → AreSpared first spares told → (fronts : List ℕ) → AreBrought spares logs fronts → AreMadeBy (told ++ watched) fronts logs
brought_among first spares told watched logs are fronts brought = λ index place inside lt.
    let (t, has, vnode, at, made) = brought index place inside lt in (t, Contains-append_left told watched t (spared_has first spares told are t has), vnode, at, made)

-- ---- by what they had taken over

-- this call made the entry at a place of a vnode's journal
abbrev IsMaker : ℕ → ℕ → Told → Type 0
IsMaker vnode place t = (t.vnode ≡ vnode) × (t.at ≡ place) × ((entry : Entry) × (entry_of_call t ≡ entry ∷ []))

merge_there : (id place : ℕ) (records : List Record) (marks : List Mark) → length marks ≡ length records → (k : ℕ) → k < length records → (t : Told) × Contains (merges_told id place records marks) t × IsMaker id (place + k) t
merge_there id place [] marks len k lt = absurd (omega (arith, lt))
merge_there id place (r ∷ records) [] len k lt = absurd (omega (arith, len))
merge_there id place (r ∷ records) (m ∷ marks) len zero lt = (merge_told id place r m, (0, omega arith, refl), (refl, omega arith, (_, refl)))
merge_there id place (r ∷ records) (m ∷ marks) len (suc k) lt =
    let (t, has, is) = merge_there id (place + 1) records marks (omega (arith, len)) k (omega (arith, lt)) in
    (t, (suc has.0, (let l = has.1 in omega (arith, l)), has.2), (is.0, (let at = is.1 in omega (arith, at)), is.2))

at_as : (files : List KeptFile) (place m n : ℕ) → m ≡ n → place < length (records_at files m) → place < length (records_at files n)
at_as files place m n is lt = subst (λ (k : ℕ). place < length (records_at files k)) is lt

-- passes that have taken over what files hold were told of a merge for each record
loaded_there : (first index : ℕ) (files : List KeptFile) (olds news : List View) → HaveLoaded first index files olds news → (k : ℕ) → k < length news → (place : ℕ) → place < length (records_at files (index + k))
    → (t : Told) × Contains (flat_map (λ p. p.told) news) t × IsMaker (first + (index + k)) place t
loaded_there first index files olds [] loaded k lt place inside = absurd (omega (arith, lt))
loaded_there first index files [] (new ∷ news) loaded k lt place inside = absurd loaded
loaded_there first index files (old ∷ olds) (new ∷ news) ((marks, len, told), loaded) zero lt place inside =
    let here = at_as files place (index + 0) index (omega arith) inside in
    let (t, has, is) = merge_there (first + index) 0 (records_at files index) marks len place here in
    let among : Contains new.told t = subst (λ (ts : List Told). Contains ts t) (sym told) (Contains-append_right old.told (merges_told (first + index) 0 (records_at files index) marks) t has) in
    (t, Contains-append_left new.told (flat_map (λ p. p.told) news) t among, ((let vnode = is.0 in omega (arith, vnode)), (let at = is.1 in omega (arith, at)), is.2))
loaded_there first index files (old ∷ olds) (new ∷ news) (one, loaded) (suc k) lt place inside =
    let there = at_as files place (index + suc k) ((index + 1) + k) (omega arith) inside in
    let (t, has, is) = loaded_there first (index + 1) files olds news loaded k (omega (arith, lt)) place there in
    (t, Contains-append_right new.told (flat_map (λ p. p.told) news) t has, ((let vnode = is.0 in omega (arith, vnode)), is.1, is.2))

long_as : (files : List KeptFile) (n : ℕ) → length (fronts_to files n) ≡ n
long_as files zero = refl
long_as files (suc n) = length-append (fronts_to files n) (length (records_at files n) ∷ []) ∙ (let long = long_as files n in omega (arith, long))

at_end : (xs : List ℕ) (x d : ℕ) → get_or (xs ++ x ∷ []) (length xs) d ≡ x
at_end [] x d = refl
at_end (y ∷ xs) x d = at_end xs x d

none_beyond : (xs : List ℕ) (k : ℕ) → length xs ≤ k → get_or xs k 0 ≡ 0
none_beyond [] k le = refl
none_beyond (x ∷ xs) zero le = absurd (omega (arith, le))
none_beyond (x ∷ xs) (suc k) le = none_beyond xs k (omega (arith, le))

-- the front of a vnode with an index is as long as its records are many
in_front : (files : List KeptFile) (n index place : ℕ) → place < count_at (fronts_to files n) index → (index < n) × (place < length (records_at files index))
in_front files zero index place lt = (let none : place < 0 = lt in absurd (omega (arith, none)))
in_front files (suc n) index place lt = elim (cases_order index n) [
  | inl same ↦
      (let is : get_or (fronts_to files (suc n)) index 0 ≡ length (records_at files index) =
      ap (λ (k : ℕ). get_or (fronts_to files (suc n)) k 0) (same ∙ sym (long_as files n)) ∙ at_end (fronts_to files n) (length (records_at files n)) 0 ∙ ap (λ (k : ℕ). length (records_at files k)) (sym same) in
      (omega (arith, same), subst (λ (m : ℕ). place < m) is lt))
  | inr (inl less) ↦
      (let long = long_as files n in
      let is : get_or (fronts_to files (suc n)) index 0 ≡ get_or (fronts_to files n) index 0 = get_or_append_left (fronts_to files n) (length (records_at files n) ∷ []) 0 index (omega (arith, less, long)) in
      let rest = in_front files n index place (subst (λ (m : ℕ). place < m) is lt) in
      (omega (arith, less), rest.1))
  | inr (inr more) ↦
      (let long = long_as files (suc n) in
      let none : place < 0 = subst (λ (m : ℕ). place < m) (none_beyond (fronts_to files (suc n)) index (omega (arith, more, long))) lt in
      absurd (omega (arith, none)))
]

loaded_made : (first vnodes : ℕ) (files : List KeptFile) (fresh spares : List View) (logs : List Log) → HaveLoaded first 0 files fresh spares → length spares ≡ vnodes → AreNumbered first logs → AreBrought spares logs (fronts_to files vnodes)
loaded_made first vnodes files fresh spares logs loaded many numbered = λ index place inside lt.
    let (under, there) = in_front files vnodes index place lt in
    let (t, has, is) = loaded_there first 0 files fresh spares loaded index (omega (arith, under, many)) place (at_as files place index (0 + index) (omega arith) there) in
    (t, has, (let vnode = is.0 in let number = numbered index inside in omega (arith, vnode, number)), is.1, is.2)

made_for : {F : Type 0} (folder : Option F) (first vnodes : ℕ) (files : List KeptFile) (fresh spares : List View) (logs : List Log) → HaveLoaded first 0 files fresh spares → length spares ≡ vnodes → AreNumbered first logs
    → AreBrought spares logs (fronts_for folder vnodes files)
made_for None first vnodes files fresh spares logs loaded many numbered = none_made (flat_map (λ p. p.told) spares) logs [] refl
made_for (Some folder) first vnodes files fresh spares logs loaded many numbered = loaded_made first vnodes files fresh spares logs loaded many numbered

-- a run that goes on from what passes have taken over goes on from what they have brought
pub fronts_made : {F : Type 0} (folder : Option F) (first vnodes : ℕ) (files : List KeptFile) (fresh spares : List View) (logs : List Log) → HaveLoaded first 0 files fresh spares → length spares ≡ vnodes → (said : Result (Unit {0}) WatchFault)
    → IfOk said (λ all. AreNumbered first logs) → (fronts : List ℕ) → GoesFrom (fronts_for folder vnodes files) said fronts → AreBrought spares logs fronts
fronts_made folder first vnodes files fresh spares logs loaded many (Ok all) numbered fronts (inl none) = none_made (flat_map (λ p. p.told) spares) logs fronts none
fronts_made folder first vnodes files fresh spares logs loaded many (Ok all) numbered fronts (inr is) =
    subst (AreBrought spares logs) (sym is) (made_for folder first vnodes files fresh spares logs loaded many numbered)
fronts_made folder first vnodes files fresh spares logs loaded many (Err why) numbered fronts none = none_made (flat_map (λ p. p.told) spares) logs fronts none
