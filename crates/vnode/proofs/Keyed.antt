-- Keys that compare equal are one.
use Rattle.std.proofs.Common.{◌≡◌, true, [], ap, sym, ◌∙◌, nat_eq}
use Rattle.std.specs.Cmp.{IsEquivalence, both_ways, first_so, second_so}
use Rattle.std.specs.Cmp.Lexicographic.{pointwise}
use Rattle.std.specs.List.{IsDistinct}
use Rattle.std.proofs.lemmas.Cmp.{on_equiv, and_equiv, nat_list_eq_equiv}
use Rattle.std.proofs.lemmas.Slice.Eq.{bytes_eq-Decides}
use Rattle.key_state.specs.declared.content.Key.{Key}
use Rattle.journal.specs.Keys.{same_key}
use Rattle.journal.proofs.Keyed.{one_key, same_is}
use Rattle.vnode.specs.Shards.{key_eq}

pub key_laws : IsEquivalence key_eq
key_laws = and_equiv (on_equiv (λ (k : Key). k.bucket) nat_list_eq_equiv) (on_equiv (λ (k : Key). k.key) nat_list_eq_equiv)

-- keys that compare equal are one
pub key_one : (a b : Key) → key_eq a b ≡ true → a ≡ b
key_one a b h =
    let bucket : a.bucket ≡ b.bucket = (bytes_eq-Decides a.bucket b.bucket).0 (first_so (pointwise nat_eq a.bucket b.bucket) (pointwise nat_eq a.key b.key) h) in
    let key : a.key ≡ b.key = (bytes_eq-Decides a.key b.key).0 (second_so (pointwise nat_eq a.bucket b.bucket) (pointwise nat_eq a.key b.key) h) in
    λ i. record { bucket = bucket i; key = key i }

-- a shard and the order tell the same keys apart
pub eq_is_same : (a b : Key) → key_eq a b ≡ same_key a b
eq_is_same a b = both_ways (key_eq a b) (same_key a b) (λ h. same_is a b (key_one a b h)) (λ h. ap (key_eq a) (sym (one_key a b h)) ∙ key_laws.refl a)

pub none_distinct : IsDistinct key_eq []
unfolding IsDistinct
none_distinct = tt
