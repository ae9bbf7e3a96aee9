-- How a log is ended that a crash may have torn.
use Rattle.std.proofs.Common.{◌≡◌, ◌∙◌, ℕ, List, [], ◌∷◌, ◌++◌, ap, length, subst, sym, take}
use Rattle.key_state.specs.declared.content.Key.{Key}
use Rattle.key_state.specs.State.{State, empty}
use Rattle.record_codec.specs.declared.record.Record.{Record}
use Rattle.record_codec.specs.Lists.{AreSpelledBy, record_of}
use Rattle.record_codec.proofs.Spelled.{both_spelled}
use Rattle.log_tail.specs.Fronts.{AreInFront, HasAllInFront}
use Rattle.kept_file.specs.Files.{end_key, end_of}
use Rattle.kept_folder.specs.Ends.{IsEndedBehind}

pub ended_behind : (bytes held seen front end shown forced : List ℕ) (records : List Record) (count many : ℕ) → seen ≡ bytes → held ≡ bytes → AreInFront held records count → HasAllInFront held records
    → front ≡ take count seen → forced ≡ front ++ shown → shown ≡ end → many ≡ length records → AreSpelledBy (end_of 0 many ∷ []) end → IsEndedBehind bytes forced
ended_behind bytes held seen front end shown forced records count many is same are all so appended shows as_many ended =
    let here = subst (λ (h : List ℕ). AreInFront h records count) same are in
    let spelled = subst (λ (n : ℕ). AreSpelledBy (end_of 0 n ∷ []) end) as_many ended in (
      records,
      count,
      here,
      subst (λ (h : List ℕ). HasAllInFront h records) same all,
      subst (λ (xs : List ℕ). AreSpelledBy (records ++ end_of 0 (length records) ∷ []) xs)
          (sym (appended ∙ ap (λ (f : List ℕ). f ++ shown) (so ∙ ap (λ (s : List ℕ). take count s) is) ∙ ap (λ (e : List ℕ). take count bytes ++ e) shows))
          (both_spelled records (end_of 0 (length records) ∷ []) (take count bytes) end here.spelled spelled),
    )

-- the record of the key, the place and the state that end a file
pub end_spelled : (key : Key) (count : ℕ) (state : State) (bytes : List ℕ) → key ≡ end_key → state ≡ empty → AreSpelledBy (record_of key 0 count state ∷ []) bytes → AreSpelledBy (end_of 0 count ∷ []) bytes
end_spelled key count state bytes k s h =
    subst (λ (x : Record). AreSpelledBy (x ∷ []) bytes) (ap (λ (y : Key). record_of y 0 count state) k ∙ ap (λ (y : State). record_of end_key 0 count y) s) h
