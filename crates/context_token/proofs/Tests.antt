-- The tests of entries that are read, and what they tell.
use Rattle.std.proofs.Common.{◌≡◌, ℕ, zero, suc, ◌+◌, ◌^◌, ◌<◌, ◌≤◌, Bool, true, false, List, [], ◌∷◌, length, get_or, refl, sym, subst, arith}
use Rattle.std.specs.Prelude.{◌&&◌, nat_lt, nat_le}
use Rattle.std.specs.List.{AllByRecursion, AllAdjacentBelow, IsAllAdjacentAnswer, list_all}
use Rattle.std.proofs.lemmas.Bool.{and_parts, and_from, and_left, and_right, ltb-true, lt-ltb, leb-true, le-leb}
use Rattle.dvv.specs.declared.Dot.{Dot}
use Rattle.dvv.specs.Clock.{AreRising}
use Rattle.context_token.specs.declared.version.Version.{Version}
use Rattle.context_token.specs.declared.version.Version.TheVariants.{First, Second, Third}
use Rattle.context_token.specs.Layouts.{first, layout, by_vnode, in_order}
use Rattle.context_token.specs.Token.{tells_all, rises, counts}
use Rattle.context_token.proofs.Orders.{Rises, Tells, order_all, index_tells, start_index_tells, vnode_tells}
use Rattle.context_token.proofs.Entries.{CanSpell}

all_true : (p : Dot → Bool) (es : List Dot) → list_all p es ≡ true → AllByRecursion (λ e. p e ≡ true) es
all_true p [] h = tt
all_true p (e ∷ es) h = let both = and_parts (p e) (list_all p es) h in (both.0, all_true p es both.1)

true_all : (p : Dot → Bool) (es : List Dot) → AllByRecursion (λ e. p e ≡ true) es → list_all p es ≡ true
true_all p [] all = refl
true_all p (e ∷ es) all = and_from (p e) (list_all p es) all.0 (true_all p es all.1)

-- a test of all is one of all in order
pub test_kept : (p : Dot → Bool) (order : ℕ → ℕ) (es : List Dot) → list_all p es ≡ true → list_all p (in_order order es) ≡ true
test_kept p order es h = true_all p (in_order order es) (order_all (λ e. p e ≡ true) order es (all_true p es h))

pub first_tells : (es : List Dot) → tells_all first es ≡ true
first_tells [] = refl
first_tells (e ∷ es) = first_tells es

pub rises_from : (order : ℕ → ℕ) (bound : ℕ) (es : List Dot) → ((d : Dot) → 0 < length es → bound ≤ order (get_or es 0 d).vnode) → rises order es ≡ true → Rises order bound es
rises_from order bound [] first up = tt
rises_from order bound (a ∷ []) first up = (first a (omega arith), tt)
rises_from order bound (a ∷ b ∷ es) first up =
    let next = and_parts (nat_lt (order a.vnode) (order b.vnode)) (rises order (b ∷ es)) up in
    (first a (omega arith), rises_from order (order a.vnode + 1) (b ∷ es) (λ d lt. omega (arith, ltb-true _ _ next.0)) next.1)

pub rises_of : (order : ℕ → ℕ) (bound : ℕ) (es : List Dot) → Rises order bound es → rises order es ≡ true
rises_of order bound [] r = refl
rises_of order bound (a ∷ []) r = refl
rises_of order bound (a ∷ b ∷ es) r = and_from _ _ (lt-ltb (order a.vnode) (order b.vnode) (omega (arith, r.1.0))) (rises_of order (order a.vnode + 1) (b ∷ es) r.1)

pub counts_of : (bound : ℕ) (es : List Dot) → AreRising bound es → counts es ≡ true
counts_of bound [] r = refl
counts_of bound (a ∷ es) r = and_from _ _ (and_from _ _ (le-leb 1 a.n r.1) (le-leb a.n (2 ^ 62) r.2)) (counts_of (a.vnode + 1) es r.3)

pub clock_of : (bound : ℕ) (es : List Dot) → Rises by_vnode bound es → counts es ≡ true → AreRising bound es
clock_of bound [] r within = tt
clock_of bound (a ∷ es) r within =
    let here = and_parts (nat_le 1 a.n && nat_le a.n (2 ^ 62)) (counts es) within in
    let both = and_parts (nat_le 1 a.n) (nat_le a.n (2 ^ 62)) here.0 in
    (r.0, leb-true _ _ both.0, leb-true _ _ both.1, clock_of (a.vnode + 1) es r.1 here.1)

pub can_spell : (v : Version) (bound : ℕ) (es : List Dot) → AreRising bound es → AllByRecursion (λ entry. entry.vnode < 2 ^ 32) es → tells_all (layout v) es ≡ true → AllByRecursion (CanSpell v) es
can_spell v bound [] r fits tells = tt
can_spell v bound (e ∷ es) r fits tells =
    let both = and_parts ((layout v).tells e.vnode) (tells_all (layout v) es) tells in
    ((fits.0, omega (arith, r.2), both.0), can_spell v (e.vnode + 1) es r.3 fits.1 both.1)

-- a version's number of a vnode tells the vnode
pub order_tells : (v : Version) (es : List Dot) → AllByRecursion (λ entry. entry.vnode < 2 ^ 32) es → Tells (layout v).order by_vnode es
order_tells First es fits = vnode_tells by_vnode es
order_tells Second es fits = index_tells es fits
order_tells Third es fits = start_index_tells es fits

-- neighbours that all rise, or two that don't
adjacent_rises : (order : ℕ → ℕ) (es : List Dot) → AllAdjacentBelow (λ x y. true ≡ nat_lt (order x.vnode) (order y.vnode)) es (length es) → rises order es ≡ true
adjacent_rises order [] up = refl
adjacent_rises order (a ∷ []) up = refl
adjacent_rises order (a ∷ b ∷ es) up = and_from _ _ (sym (up 0 a (omega arith))) (adjacent_rises order (b ∷ es) (λ k d lt. let step : suc k + 1 ≡ suc (k + 1) = omega arith in subst (λ (j : ℕ). true ≡ nat_lt (order (get_or (b ∷ es) k d).vnode) (order (get_or (a ∷ b ∷ es) j d).vnode)) step (up (suc k) d (omega arith))))

adjacent_falls : (order : ℕ → ℕ) (es : List Dot) (k : ℕ) → k + 1 < length es → ((d : Dot) → false ≡ nat_lt (order (get_or es k d).vnode) (order (get_or es (k + 1) d).vnode)) → rises order es ≡ false
adjacent_falls order [] k lt falls = absurd (omega arith)
adjacent_falls order (a ∷ []) k lt falls = absurd (omega arith)
adjacent_falls order (a ∷ b ∷ es) zero lt falls = and_left _ _ (sym (falls a))
adjacent_falls order (a ∷ b ∷ es) (suc k) lt falls = and_right _ _ (adjacent_falls order (b ∷ es) k (omega arith) (λ d. let step : suc k + 1 ≡ suc (k + 1) = omega arith in subst (λ (j : ℕ). false ≡ nat_lt (order (get_or (b ∷ es) k d).vnode) (order (get_or (a ∷ b ∷ es) j d).vnode)) step (falls d)))

pub adjacent_answer : (order : ℕ → ℕ) (es : List Dot) (r : Bool) → IsAllAdjacentAnswer (λ x y b. b ≡ nat_lt (order x.vnode) (order y.vnode)) es r → r ≡ rises order es
adjacent_answer order es true up = sym (adjacent_rises order es up)
adjacent_answer order es false down = sym (adjacent_falls order es down.0 down.1 down.2)
