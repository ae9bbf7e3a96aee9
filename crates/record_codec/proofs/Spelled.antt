-- Records, one after another.
use Rattle.std.proofs.Common.{◌≡◌, ℕ, ◌-◌, List, [], ◌∷◌, ◌++◌, length, take, drop, arith, sym, ap, subst, ◌∙◌, append_assoc, refl}
use Rattle.std.specs.List.{AllByRecursion, flat_map}
use Rattle.std.proofs.lemmas.List.{append-nil, length-drop, take-append-drop, take_all}
use Rattle.std.proofs.lemmas.Grind.{flat_map-append}
use Rattle.record_codec.specs.declared.record.Record.{Record}
use Rattle.record_codec.specs.Records.{Begins, IsRecord, spelling}
use Rattle.record_codec.specs.Lists.{AreSpelledBy}

pub all_append : (xs ys : List Record) → AllByRecursion IsRecord xs → AllByRecursion IsRecord ys → AllByRecursion IsRecord (xs ++ ys)
all_append [] ys a b = b
all_append (x ∷ xs) ys a b = (a.0, all_append xs ys a.1 b)

pub spelled_append : (records : List Record) (r : Record) → flat_map spelling (records ++ r ∷ []) ≡ flat_map spelling records ++ spelling r
spelled_append records r = flat_map-append spelling records (r ∷ []) ∙ ap (λ (bs : List ℕ). flat_map spelling records ++ bs) (append-nil (spelling r))

-- records behind others
pub both_spelled : (xs ys : List Record) (a b : List ℕ) → AreSpelledBy xs a → AreSpelledBy ys b → AreSpelledBy (xs ++ ys) (a ++ b)
both_spelled xs ys a b h k = record {
  each = all_append xs ys h.each k.each;
  bytes_are = ap (λ (bs : List ℕ). bs ++ b) h.bytes_are ∙ ap (λ (bs : List ℕ). flat_map spelling xs ++ bs) k.bytes_are ∙ sym (flat_map-append spelling xs ys);
}

pub none_spelled : AreSpelledBy [] []
none_spelled = record { each = tt; bytes_are = refl }

pub one_spelled : (r : Record) (bytes : List ℕ) → IsRecord r → bytes ≡ spelling r → AreSpelledBy (r ∷ []) bytes
one_spelled r bytes is so = record { each = (is, tt); bytes_are = so ∙ sym (append-nil (spelling r)) }

-- ---- read

-- the bytes before those that are left are records
pub record IsReadSoFar (bytes left : List ℕ) (records : List Record) : Type 0 where
  pub each : AllByRecursion IsRecord records
  pub bytes_are : bytes ≡ flat_map spelling records ++ left

cut : (left : List ℕ) (r : Record) (len : ℕ) → Begins left r len → left ≡ spelling r ++ drop len left
cut left r len first = sym (take-append-drop len left) ∙ ap (λ (bs : List ℕ). bs ++ drop len left) first.front

pub goes_on : (bytes left rest : List ℕ) (records new : List Record) (r : Record) (len : ℕ) → IsReadSoFar bytes left records → Begins left r len → rest ≡ drop len left → new ≡ records ++ r ∷ [] → IsReadSoFar bytes rest new
goes_on bytes left rest records new r len so_far first rest_is more = subst (λ (rs : List Record). IsReadSoFar bytes rest rs) (sym more) (subst (λ (bs : List ℕ). IsReadSoFar bytes bs (records ++ r ∷ [])) (sym rest_is) (record {
  each = all_append records (r ∷ []) so_far.each (first.is_record, tt);
  bytes_are = so_far.bytes_are ∙ ap (λ (bs : List ℕ). flat_map spelling records ++ bs) (cut left r len first) ∙ sym (append_assoc (flat_map spelling records) (spelling r) (drop len left))
      ∙ ap (λ (bs : List ℕ). bs ++ drop len left) (sym (spelled_append records r));
}))

-- the same of a slice from a place on
pub goes_on_sliced : (bytes left : List ℕ) (records new : List Record) (r : Record) (len : ℕ) → IsReadSoFar bytes left records → Begins left r len → new ≡ records ++ r ∷ [] → IsReadSoFar bytes (take (length left - len) (drop len left)) new
goes_on_sliced bytes left records new r len so_far first more =
    goes_on bytes left (take (length left - len) (drop len left)) records new r len so_far first (take_all (length left - len) (drop len left) (omega (arith, length-drop len left))) more
