-- What stands under names after a write.
use Rattle.std.proofs.Common.{◌≡◌, ℕ, Bool, true, false, cond, List, [], ◌∷◌, Option, Some, refl, sym, ap, ◌∙◌, nat_eq}
use Rattle.std.specs.Map.{lookup, IsKeyTest, AreApart, KeepsOthers}
use Rattle.std.specs.declared.vec.Vec.{Vec}
use Rattle.std.specs.Global.{Global}
use Rattle.std.specs.declared.cmp.Ordering.{Ordering}
use Rattle.std.specs.declared.cmp.Ordering.TheVariants.{Less, Equal, Greater}
use Rattle.std.specs.Cmp.{both_ways}
use Rattle.std.specs.Cmp.Lexicographic.{pointwise, slice_cmp}
use Rattle.std.specs.Ordering.{is_eq, nat_cmp}
use Rattle.std.proofs.lemmas.Cmp.{eq_by_cmp_equiv, nat_list_cmp_total, nat_list_eq_equiv}
use Rattle.std.proofs.lemmas.Map.Lookups.{exact_bytes}
use Rattle.std.proofs.lemmas.Slice.Eq.{bytes_eq-Decides}
use Rattle.hook_registry.specs.Changes.{is_name}
use Rattle.hook_registry.specs.Names.{by_bytes}

is_equal : (o : Ordering) → is_eq o ≡ true → o ≡ Equal
is_equal Equal h = refl
is_equal Less h = cc
is_equal Greater h = cc

-- names that are one byte by byte are equal
pub one_name : (a b : List ℕ) → is_name a b ≡ true → a ≡ b
one_name a b h = exact_bytes a b (is_equal (slice_cmp nat_cmp a b) h)

-- whether two names are equal, as a look-up by hash compares them
abbrev pub name_eq : List ℕ → List ℕ → Bool
name_eq = pointwise nat_eq

abbrev pub key_eq : Vec ℕ Global → Vec ℕ Global → Bool
key_eq j k = name_eq j.items k.items

-- the map and the order of bytes tell the same names apart
eq_is_name : (a b : List ℕ) → name_eq a b ≡ is_name a b
eq_is_name a b =
    both_ways (name_eq a b) (is_name a b) (λ h. ap (is_name a) (sym ((bytes_eq-Decides a b).0 h)) ∙ (eq_by_cmp_equiv nat_list_cmp_total).refl a) (λ h. ap (name_eq a) (sym (one_name a b h)) ∙ nat_list_eq_equiv.refl a)

-- what stands under a name is found by its bytes
pub found_in : {V : Type 0} (entries : List (Vec ℕ Global × V)) (name : List ℕ) → lookup (λ k. name_eq name k.items) entries ≡ lookup (is_name name) (by_bytes entries)
found_in [] name = refl
found_in (e ∷ entries) name = ap (λ is. cond is (Some e.1) (lookup (λ k. name_eq name k.items) entries)) (eq_is_name name e.0.items) ∙ ap (cond (is_name name e.0.items) (Some e.1)) (found_in entries name)

module _ {V : Type 0} (old new : List (Vec ℕ Global × V)) (name : List ℕ) (left : Option V) (at : lookup (λ k. name_eq name k.items) new ≡ left) (others : KeepsOthers key_eq (λ k. name_eq name k.items) old new) (other : List ℕ) where
  found_by_vector : (same : Bool) → is_name name other ≡ same → lookup (λ k. name_eq other k.items) new ≡ cond same left (lookup (λ k. name_eq other k.items) old)
  unfolding KeepsOthers
  found_by_vector true is = ap (λ b. lookup (λ k. name_eq b k.items) new) (sym (one_name name other is)) ∙ at
  found_by_vector false is = others (λ k. name_eq other k.items) keyed apart
    where
      keyed : IsKeyTest key_eq (λ k. name_eq other k.items)
      keyed j k at = nat_list_eq_equiv.congr other j.items k.items at

      apart : AreApart {K = Vec ℕ Global} (λ k. name_eq name k.items) (λ k. name_eq other k.items)
      apart k at = nat_list_eq_equiv.symm other k.items ∙ sym (nat_list_eq_equiv.congr name k.items other at) ∙ eq_is_name name other ∙ is

  -- the name that was written has what was left there, each other one what it had
  pub found_of_written : lookup (is_name other) (by_bytes new) ≡ cond (is_name name other) left (lookup (is_name other) (by_bytes old))
  found_of_written = sym (found_in new other) ∙ found_by_vector (is_name name other) refl ∙ ap (cond (is_name name other) left) (found_in old other)
