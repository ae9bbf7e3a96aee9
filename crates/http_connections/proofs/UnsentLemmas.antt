-- On how many bytes of answers wait at a worker.
use Rattle.std.proofs.Common.{◌≡◌, ℕ, ◌+◌, ◌<◌, ◌≤◌, max, arith, Bool, true, false, cond, List, [], ◌∷◌, refl, ap, ◌∙◌, Option, Some, None}
use Rattle.std.specs.Prelude.{option_map, unwrap_or}
use Rattle.std.specs.List.{sum_by}
use Rattle.std.specs.BTreeMap.{BTreeMap, IsOrdered, get, insert_entry, is_at}
use Rattle.std.specs.Map.{lookup, remove_entry, set_value, values_of}
use Rattle.std.specs.Ordering.{is_eq, match_ordering, nat_cmp}
use Rattle.std.specs.declared.cmp.Ordering.{Ordering}
use Rattle.std.specs.declared.cmp.Ordering.TheVariants.{Less, Equal, Greater}
use Rattle.std.proofs.lemmas.Cmp.{nat_cmp_total}
use Rattle.std.proofs.lemmas.List.Sums.{sum_by-cons}
use Rattle.std.proofs.lemmas.Map.Entries.{sum_by-insert_entry, sum_by-remove_entry, sum_by-set_value}
use Rattle.http_connections.specs.Unsent.{IsBounded, full, held, held_at, most_held, unsent_of}
use Rattle.http_connections.specs.declared.seat.Seat.{Seat}

abbrev pub held_by : Option Seat → ℕ
held_by o = unwrap_or (option_map held o) 0

abbrev all_held : List (ℕ × Seat) → ℕ
all_held es = sum_by held (values_of es)

abbrev pub most_of : List (ℕ × Seat) → ℕ
most_of es = most_held (values_of es)

one_seat : (a b : Seat) → Some a ≡ Some b → a ≡ b
one_seat a b e = cc

-- one that is looked up holds no more than the one that holds most
found_first : (e : ℕ × Seat) (o : Option Seat) (m : ℕ) (b : Bool) → held_by o ≤ m → held_by (cond b (Some e.1) o) ≤ max (held e.1) m
found_first e o m true h = omega arith
found_first e o m false h = omega (arith, h)

most_found : (test : ℕ → Bool) (es : List (ℕ × Seat)) → held_by (lookup test es) ≤ most_of es
most_found test [] = omega arith
most_found test (e ∷ es) = found_first e (lookup test es) (most_of es) (test e.0) (most_found test es)

-- where one comes to hold less, the most that one holds falls by no more
module _ (v w : Seat) (fewer : held w ≤ held v) where
  written_first : (e : ℕ × Seat) (o : Option Seat) (es es' : List (ℕ × Seat)) (b : Bool) → (o ≡ Some v → most_of es + held w ≤ most_of es' + held v)
      → cond b (Some e.1) o ≡ Some v → max (held e.1) (most_of es) + held w ≤ most_of (cond b ((e.0, w) ∷ es) (e ∷ es')) + held v
  written_first e o es es' true h is = omega (arith, fewer, ap held (one_seat e.1 v is))
  written_first e o es es' false h is = omega (arith, h is)

  most_written : (test : ℕ → Bool) (es : List (ℕ × Seat)) → lookup test es ≡ Some v → most_of es + held w ≤ most_of (set_value test es w) + held v
  most_written test [] is = let both : None ≡ Some v = is in cc
  most_written test (e ∷ es) is = written_first e (lookup test es) es (set_value test es w) (test e.0) (most_written test es) is

removed_first : (e : ℕ × Seat) (o : Option Seat) (es es' : List (ℕ × Seat)) (b : Bool) → most_of es ≤ most_of es' + held_by o
    → max (held e.1) (most_of es) ≤ most_of (cond b es (e ∷ es')) + held_by (cond b (Some e.1) o)
removed_first e o es es' true h = omega arith
removed_first e o es es' false h = omega (arith, h)

most_removed : (test : ℕ → Bool) (es : List (ℕ × Seat)) → most_of es ≤ most_of (remove_entry test es) + held_by (lookup test es)
most_removed test [] = omega arith
most_removed test (e ∷ es) = removed_first e (lookup test es) es (remove_entry test es) (test e.0) (most_removed test es)

inserted_first : (e x : ℕ × Seat) (w : Seat) (seat : Option Seat) (es es' : List (ℕ × Seat)) (o : Ordering) → most_of es ≤ most_of es' + held_by seat
    → max (held e.1) (most_of es) ≤ most_of (match_ordering o (x ∷ e ∷ es) ((e.0, w) ∷ es) (e ∷ es')) + held_by (cond (is_eq o) (Some e.1) seat)
inserted_first e x w seat es es' Less h = omega arith
inserted_first e x w seat es es' Equal h = omega arith
inserted_first e x w seat es es' Greater h = omega (arith, h)

most_inserted : (es : List (ℕ × Seat)) (n : ℕ) (w : Seat) → most_of es ≤ most_of (insert_entry nat_cmp es n w) + held_by (lookup (is_at (nat_cmp n)) es)
most_inserted [] n w = omega arith
most_inserted (e ∷ es) n w = inserted_first e (n, w) w (lookup (is_at (nat_cmp n)) es) es (insert_entry nat_cmp es n w) (nat_cmp n e.0) (most_inserted es n w)

module _ (a b : BTreeMap ℕ Seat) (n : ℕ) where
  -- the seat of n came to be w
  module _ (v w : Seat) (before : get nat_cmp a n ≡ Some v) (after : get nat_cmp b n ≡ Some w) (es : b.entries ≡ set_value (is_at (nat_cmp n)) a.entries w) where
    pub written : unsent_of b + held v ≡ unsent_of a + held w
    written = ap (λ k. k + held v) (ap all_held es) ∙ sum_by-set_value held (is_at (nat_cmp n)) a.entries v w before

    -- there was room before
    pub bounded_served : unsent_of a < full → IsBounded b
    bounded_served room = omega (arith, written, room, ap held_by after, most_found (is_at (nat_cmp n)) b.entries)

    -- it holds no more than before
    pub bounded_written : held w ≤ held v → IsBounded a → IsBounded b
    bounded_written fewer bounded = omega (arith, written, bounded, ap most_of es, most_written v w fewer (is_at (nat_cmp n)) a.entries before)

  -- the seat of n was taken away
  module _ (es : b.entries ≡ remove_entry (is_at (nat_cmp n)) a.entries) where
    pub removed : unsent_of b + held_at a n ≡ unsent_of a
    removed = ap (λ k. k + held_at a n) (ap all_held es) ∙ sum_by-remove_entry held (is_at (nat_cmp n)) a.entries

    pub bounded_removed : IsBounded a → IsBounded b
    bounded_removed bounded = omega (arith, removed, bounded, ap most_of es, most_removed (is_at (nat_cmp n)) a.entries)

  -- n has a seat that holds nothing
  module _ (w : Seat) (ordered : IsOrdered nat_cmp a) (empty : held w ≡ 0) (es : b.entries ≡ insert_entry nat_cmp a.entries n w) where
    pub inserted : unsent_of b + held_at a n ≡ unsent_of a
    inserted = omega (arith, empty, ap all_held es, sum_by-insert_entry held nat_cmp_total a.entries n w ordered)

    pub bounded_inserted : IsBounded a → IsBounded b
    bounded_inserted bounded = omega (arith, inserted, bounded, ap most_of es, most_inserted a.entries n w)

-- no seat changed
pub unsent_same : (a b : BTreeMap ℕ Seat) → b.entries ≡ a.entries → unsent_of b ≡ unsent_of a
unsent_same a b es = ap all_held es

pub bounded_same : (a b : BTreeMap ℕ Seat) → b.entries ≡ a.entries → IsBounded a → IsBounded b
bounded_same a b es bounded = omega (arith, bounded, ap all_held es, ap most_of es)

-- what a connection holds is among what all do
pub held_at-le : (a : BTreeMap ℕ Seat) (n : ℕ) → held_at a n ≤ unsent_of a
held_at-le a n = omega (arith, sum_by-remove_entry held (is_at (nat_cmp n)) a.entries)

-- where no connection holds anything, nothing waits
pub none_held : (seats : List Seat) → most_held seats ≡ 0 → sum_by held seats ≡ 0
none_held [] none = refl
none_held (seat ∷ seats) none = sum_by-cons held seat seats ∙ (let rest = none_held seats (omega (arith, none)) in omega (arith, none, rest))
