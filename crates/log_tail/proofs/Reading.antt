-- Whatever records stand in front of bytes, they were read, once what is left begins with none.
use Rattle.std.proofs.Common.{◌≡◌, ℕ, ◌+◌, ◌-◌, List, [], ◌∷◌, ◌++◌, length, take, drop, arith, sym, ap, subst, ◌∙◌, append_assoc, refl}
use mathlib.Core.List.{IsPrefix}
use Rattle.std.specs.List.{AllByRecursion, flat_map}
use Rattle.std.proofs.lemmas.List.{take-append-drop, take_at, length-append}
use Rattle.record_codec.specs.declared.record.Record.{Record}
use Rattle.record_codec.specs.Records.{Begins, IsRecord, spelling}
use Rattle.record_codec.specs.Lists.{AreSpelledBy}
use Rattle.record_codec.proofs.Spelled.{IsReadSoFar}
use Rattle.log_file.specs.Devices.{BeginsWith}
use Rattle.log_tail.specs.Fronts.{AreInFront, HasAllInFront}

module _ (apart : (a b : Record) (x y : List ℕ) → IsRecord a → IsRecord b → spelling a ++ x ≡ spelling b ++ y → (a ≡ b) × (x ≡ y))
    (begins : (r : Record) (rest : List ℕ) → IsRecord r → Begins (spelling r ++ rest) r (length (spelling r))) where
  read_first : (found records : List Record) (left rest : List ℕ) → AllByRecursion IsRecord found → AllByRecursion IsRecord records
      → ((r : Record) (len : ℕ) → Begins left r len → ⊥) → flat_map spelling found ++ left ≡ flat_map spelling records ++ rest → IsPrefix records found
  read_first found [] left rest a b none same = (found, refl)
  read_first [] (r ∷ records) left rest a b none same =
      absurd (none r (length (spelling r)) (subst (λ (bs : List ℕ). Begins bs r (length (spelling r))) (sym (append_assoc (spelling r) (flat_map spelling records) rest) ∙ sym same) (begins r (flat_map spelling records ++ rest) b.0)))
  read_first (f ∷ found) (r ∷ records) left rest a b none same =
      let both = apart f r (flat_map spelling found ++ left) (flat_map spelling records ++ rest) a.0 b.0
      (sym (append_assoc (spelling f) (flat_map spelling found) left) ∙ same ∙ append_assoc (spelling r) (flat_map spelling records) rest) in
      let more = read_first found records left rest a.1 b.1 none both.1 in
      (more.0, subst (λ (it : Record). it ∷ (records ++ more.0) ≡ f ∷ found) both.0 (ap (λ (rs : List Record). f ∷ rs) more.1))

  pub all_read : (bytes left : List ℕ) (found : List Record) → IsReadSoFar bytes left found → ((r : Record) (len : ℕ) → Begins left r len → ⊥) → HasAllInFront bytes found
  all_read bytes left found so_far none = λ records front spelled front_is.
      let rest = drop (length front) bytes in
      read_first found records left rest so_far.each spelled.each none
      (sym so_far.bytes_are ∙ sym (take-append-drop (length front) bytes) ∙ ap (λ (bs : List ℕ). bs ++ rest) (front_is ∙ spelled.bytes_are))

-- what was read stands in front
pub in_front : (bytes left : List ℕ) (found : List Record) (taken : ℕ) → IsReadSoFar bytes left found → taken ≡ length bytes - length left → AreInFront bytes found taken
in_front bytes left found taken so_far is =
    let long : length bytes ≡ length (flat_map spelling found) + length left = ap (λ (bs : List ℕ). length bs) so_far.bytes_are ∙ length-append (flat_map spelling found) left in
    record {
      within = omega (arith, is);
      spelled = record {
        each = so_far.each;
        bytes_are = ap (λ (bs : List ℕ). take taken bs) so_far.bytes_are ∙ take_at (flat_map spelling found) left taken (omega (arith, is, long));
      };
    }
