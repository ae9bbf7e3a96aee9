-- On the fields of a head.
use Rattle.std.proofs.lemmas.Bool.Decides.{nat_tests}
use Rattle.std.specs.Option.{option_copied}
use Rattle.std.proofs.Common.{Bor, arith, ◌≤◌, ◌<◌, ◌≡◌, ℕ, Bool, true, false, List, [], ◌∷◌, Option, Some, None, refl, ap, ◌∙◌, rules, sym}
use Rattle.std.specs.Prelude.{◌&&◌, if◌then◌else◌, bytes_eq, codes, is_some}
use Rattle.std.specs.List.{list_all}
use Rattle.std.specs.Str.Parse.{digits_value}
use Rattle.http_request.specs.declared.ask.Refusal.TheVariants.{Large}
use Rattle.http_request.specs.Fields.{Pair, is_named, value_of, values_of, is_number, without_zeros, absent, bad, is, length_said, length_fault}

some_is : (x y : List ℕ) → Some x ≡ Some y → x ≡ y
some_is x y e = search (e, rules)

skipped : (b : Bool) (v : List ℕ) (rest : Option (List ℕ)) (vs : List (List ℕ)) → (if b then Some v else rest) ≡ None → (rest ≡ None → vs ≡ [])
    → (if b then v ∷ vs else vs) ≡ []
skipped true v rest vs e h = absurd (search (e, rules))
skipped false v rest vs e h = h e

-- no first value, no values
pub no_values : (name : List ℕ) (pairs : List Pair) → value_of name pairs ≡ None → values_of name pairs ≡ []
no_values name [] e = refl
no_values name (p ∷ pairs) e = skipped (is_named name p) p.1 (value_of name pairs) (values_of name pairs) e (no_values name pairs)

taken : (b : Bool) (u v : List ℕ) (rest : Option (List ℕ)) (us : List (List ℕ)) → (if b then Some u else rest) ≡ Some v
    → (rest ≡ Some v → (vs : List (List ℕ)) × (us ≡ v ∷ vs)) → (vs : List (List ℕ)) × ((if b then u ∷ us else us) ≡ v ∷ vs)
taken true u v rest us e h = (us, ap (λ x. x ∷ us) (some_is u v e))
taken false u v rest us e h = h e

-- the first value is the first of the values
pub first_value : (name v : List ℕ) (pairs : List Pair) → value_of name pairs ≡ Some v → (vs : List (List ℕ)) × (values_of name pairs ≡ v ∷ vs)
first_value name v [] e = absurd (search (e, rules))
first_value name v (p ∷ pairs) e = taken (is_named name p) p.1 v (value_of name pairs) (values_of name pairs) e (first_value name v pairs)

abbrev pub equal_to : List ℕ → List ℕ → Bool
equal_to v u = is_number u && bytes_eq (without_zeros u) (without_zeros v)

module _ (pairs : List Pair) where
  abbrev lengths : List (List ℕ)
  lengths = values_of (codes "content-length") pairs

  pub said_none : value_of (codes "content-length") pairs ≡ None → length_said lengths ≡ absent
  said_none e = ap length_said (no_values (codes "content-length") pairs e)

  pub said_some : (v : List ℕ) → value_of (codes "content-length") pairs ≡ Some v
      → length_said lengths ≡ (if is_number v && list_all (equal_to v) lengths then is (digits_value 10 v) else bad)
  said_some v e =
      let f = first_value (codes "content-length") v pairs e in
      ap length_said f.1 ∙ sym (ap (λ us. if is_number v && list_all (equal_to v) us then is (digits_value 10 v) else bad) f.1)

-- what is no value copies to none
pub none_copied : (o : Option (Bor (List ℕ))) (v : Option (List ℕ)) → option_copied o ≡ v → is_some o ≡ false → v ≡ None
none_copied None v e n = sym e
none_copied (Some b) v e n = absurd (search (n, rules))

pub small_length : (method : List ℕ) (n : ℕ) → n ≤ 65536 → length_fault method (is n) ≡ None
small_length method n small = grind (arith, nat_tests)

pub large_length : (method : List ℕ) (n : ℕ) → 65536 < n → length_fault method (is n) ≡ Some Large
large_length method n large = grind (arith, nat_tests)

-- one length, said well
pub said_well : (pairs : List Pair) (v : List ℕ) → value_of (codes "content-length") pairs ≡ Some v → is_number v ≡ true
    → list_all (equal_to v) (values_of (codes "content-length") pairs) ≡ true
    → length_said (values_of (codes "content-length") pairs) ≡ is (digits_value 10 v)
said_well pairs v e n all = said_some pairs v e ∙ rw (n, all) refl

-- a length that is no number
pub said_badly : (pairs : List Pair) (v : List ℕ) → value_of (codes "content-length") pairs ≡ Some v → is_number v ≡ false
    → length_said (values_of (codes "content-length") pairs) ≡ bad
said_badly pairs v e n = said_some pairs v e ∙ rw n refl

-- lengths that differ
pub said_twice : (pairs : List Pair) (v : List ℕ) → value_of (codes "content-length") pairs ≡ Some v → is_number v ≡ true
    → list_all (equal_to v) (values_of (codes "content-length") pairs) ≡ false
    → length_said (values_of (codes "content-length") pairs) ≡ bad
said_twice pairs v e n all = said_some pairs v e ∙ rw (n, all) refl
