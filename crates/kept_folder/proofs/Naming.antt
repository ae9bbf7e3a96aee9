-- What files are called.
use Rattle.std.proofs.Common.{◌≡◌, ℕ, ◌++◌, Option, None, Some, Result, Ok, Err, ap, subst, sym}
use Rattle.std.specs.Prelude.{codes, decimal, min, IfSome, MatchResult}
use Rattle.std.specs.Result.{result_ok}
use Rattle.std.specs.Fmt.{digits}
use Rattle.kept_folder.specs.Reads.{name_of}

-- ---- files of vnodes

pub name_0 : (index : ℕ) → index ≡ 0 → codes "vnode-0.records" ≡ name_of index
unfolding digits
name_0 index is = sym (ap name_of is)

pub name_1 : (index : ℕ) → index ≡ 1 → codes "vnode-1.records" ≡ name_of index
unfolding digits
name_1 index is = sym (ap name_of is)

pub name_2 : (index : ℕ) → index ≡ 2 → codes "vnode-2.records" ≡ name_of index
unfolding digits
name_2 index is = sym (ap name_of is)

pub name_3 : (index : ℕ) → index ≡ 3 → codes "vnode-3.records" ≡ name_of index
unfolding digits
name_3 index is = sym (ap name_of is)

pub name_4 : (index : ℕ) → index ≡ 4 → codes "vnode-4.records" ≡ name_of index
unfolding digits
name_4 index is = sym (ap name_of is)

pub name_5 : (index : ℕ) → index ≡ 5 → codes "vnode-5.records" ≡ name_of index
unfolding digits
name_5 index is = sym (ap name_of is)

pub name_6 : (index : ℕ) → index ≡ 6 → codes "vnode-6.records" ≡ name_of index
unfolding digits
name_6 index is = sym (ap name_of is)

pub name_7 : (index : ℕ) → index ≡ 7 → codes "vnode-7.records" ≡ name_of index
unfolding digits
name_7 index is = sym (ap name_of is)

pub name_8 : (index : ℕ) → index ≡ 8 → codes "vnode-8.records" ≡ name_of index
unfolding digits
name_8 index is = sym (ap name_of is)

pub name_9 : (index : ℕ) → index ≡ 9 → codes "vnode-9.records" ≡ name_of index
unfolding digits
name_9 index is = sym (ap name_of is)

pub name_10 : (index : ℕ) → index ≡ 10 → codes "vnode-10.records" ≡ name_of index
unfolding digits
name_10 index is = sym (ap name_of is)

pub name_11 : (index : ℕ) → index ≡ 11 → codes "vnode-11.records" ≡ name_of index
unfolding digits
name_11 index is = sym (ap name_of is)

pub name_12 : (index : ℕ) → index ≡ 12 → codes "vnode-12.records" ≡ name_of index
unfolding digits
name_12 index is = sym (ap name_of is)

pub name_13 : (index : ℕ) → index ≡ 13 → codes "vnode-13.records" ≡ name_of index
unfolding digits
name_13 index is = sym (ap name_of is)

pub name_14 : (index : ℕ) → index ≡ 14 → codes "vnode-14.records" ≡ name_of index
unfolding digits
name_14 index is = sym (ap name_of is)

pub name_last : (index : ℕ) → min index 15 ≡ 15 → codes "vnode-15.records" ≡ name_of index
unfolding digits
name_last index is = sym (ap (λ (k : ℕ). codes "vnode-" ++ decimal k ++ codes ".records") is)

-- ---- what came of a call

pub came_of_none : {A E : Type 0} (r : Result A E) (P : A → Type 0) (Q : E → Type 0) → MatchResult r P Q → result_ok r ≡ None → (e : E) × Q e
came_of_none (Ok x) P Q m is = absurd cc
came_of_none (Err e) P Q m is = (e, m)

pub came_of_some : {A E : Type 0} (r : Result A E) (x : A) (P : A → Type 0) (Q : E → Type 0) → MatchResult r P Q → result_ok r ≡ Some x → P x
came_of_some (Ok y) x P Q m is = subst (λ (o : Option _). IfSome o P) is m
came_of_some (Err e) x P Q m is = absurd cc
