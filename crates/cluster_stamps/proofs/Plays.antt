-- What each step of the word asks.
use Rattle.std.proofs.Common.{IsPermutation, Bool, true, false, ◌==◌, ◌≡◌, ℕ, zero, suc, ◌+◌, ◌*◌, ◌%◌, ◌<◌, ◌≤◌, List, [], ◌∷◌, ◌++◌, length, set, refl, sym, ap, ◌∙◌, subst, arith}
use Rattle.std.specs.Prelude.{slice_set, slice_index}
use Rattle.std.proofs.lemmas.Bool.Decides.{nat_tests}
use Rattle.std.proofs.lemmas.List.Sorted.{IsPermutation-refl}
use Rattle.std.specs.List.{flat_map}
use mathlib.Core.Option.{some, some-injective, some-ne-none}
use lib.ListN.{get_elem?}
use Rattle.atomic_table.specs.Table.{Me, keeps, Allows, Splits, Joins, Enters}
use Rattle.cluster_stamps.specs.declared.view.Told.{Told}
use Rattle.cluster_stamps.specs.declared.view.History.{History}
use Rattle.cluster_stamps.specs.declared.view.View.{View}
use Rattle.cluster_stamps.specs.declared.view.Size.{Size}
use Rattle.atomic_table.proofs.Lists.{set_again}
use Rattle.cluster_stamps.specs.Rule.{appended, settled, AppendsOf, Settles, stamps, Looks, times, entries, AreInOrder, all_told, stamps_each, IsSound, IsKept, Rules, drew, dropped, learned, IsWithin, Draws, Drops, TellsOf, together, nothing, IsCut, newcomer, fresh, without_pass, pass_of, less_one, one_part, less_history, first_history, rest_of, first_of}
use Rattle.cluster_stamps.proofs.Sums.{append_none, total-append, flat_snoc}
use Rattle.cluster_stamps.proofs.Orders.{none_pending}
use Rattle.cluster_stamps.proofs.Moves.{cuts, joins, numbers, sound_snoc}
use Rattle.cluster_stamps.proofs.Steps.{appends, settles, word_within, draws, drops, learns}
use Rattle.cluster_stamps.proofs.Known.{above_all, within}

rules_set : (size : Size) (ws : List ℕ) (homes : List (mathlib.Core.Option.Option (Unit {0}))) (m : ℕ) (views : List View) → ws ≡ slice_index ws 0 ∷ [] → IsKept size m views → Rules size record { words = slice_set ws 0 m; homes = homes; views = views }
rules_set size ws homes m views one k =
    let P : List ℕ → Type 0 = λ us. (slice_set us 0 m ≡ slice_index (slice_set us 0 m) 0 ∷ []) × IsKept size (slice_index (slice_set us 0 m) 0) views in
    subst P (sym one) (refl, k)

pub draw_allowed : (size : Size) (slots id : ℕ) (me : Me (Unit {0}) View) → me.0.drawn < stamps_each * me.0.parts → me.0.pending ≡ []
    → Allows (Rules size) slots id me 0 (λ n. (n + 1) % 18446744073709551616) (λ n after. Draws me.0 n after.0 × (after.1 ≡ me.1))
draw_allowed size slots id me room none s rules len at word =
    let n = slice_index s.words 0 in
    let small : (n + 1) % 18446744073709551616 ≡ n + 1 = omega (arith, word_within size n s.views rules.1) in
    let next = draws size n s.views id me.0 rules.1 at room none in
    (drew me.0 n, keeps, tt, rules_set size s.words s.homes _ _ rules.0 (subst (λ m. IsKept size m (set s.views id (drew me.0 n))) (sym small) next), ((refl, above_all size n s.views id me.0 rules.1 at), refl))

pub forget_allowed : (size : Size) (slots id : ℕ) (me : Me (Unit {0}) View) → Allows (Rules size) slots id me 0 (λ n. n) (λ n after. Drops me.0 n after.0 × (after.1 ≡ me.1))
forget_allowed size slots id me s rules len at word =
    (dropped me.0, keeps, tt, rules_set size s.words s.homes _ _ rules.0 (drops size (slice_index s.words 0) s.views id me.0 rules.1 at), (refl, refl))

pub tell_allowed : (size : Size) (slots id : ℕ) (me : Me (Unit {0}) View) (h : History) (t : Told) → 0 < me.0.parts → me.0.pending ≡ t.stamp ∷ [] → me.0.histories ≡ h ∷ [] → me.0.owed ≡ [] → t.vnode ≡ h.vnode → t.at ≡ entries h.told
    → Allows (Rules size) slots id me 0 (λ n. n) (λ n after. TellsOf t me.0 after.0 × (after.1 ≡ me.1))
tell_allowed size slots id me h t part pending own ov vnode place s rules len at word =
    let n = slice_index s.words 0 in
    let same : (g : History) → me.0.histories ≡ g ∷ [] → h ≡ g = λ g e. head_is (sym own ∙ e) in (
      learned me.0 h t,
      keeps,
      tt,
      rules_set size s.words s.homes _ _ rules.0 (learns size n s.views id me.0 h t rules.1 at part pending own ov vnode place),
      ((λ g e. (ap (λ y. learned me.0 y t) (same g e), subst (λ y. IsWithin y.vnode (entries y.told) me.0.told) (same g e) (within size n s.views id me.0 h rules.1 at own))), refl),
    )
  where
    head_is : {g : History} → h ∷ [] ≡ g ∷ [] → h ≡ g
    head_is {g} e = cc

pub append_allowed : (size : Size) (slots id : ℕ) (me : Me (Unit {0}) View) (h : History) (t : Told) → 0 < me.0.parts → me.0.pending ≡ t.stamp ∷ [] → me.0.histories ≡ h ∷ [] → me.0.owed ≡ [] → t.vnode ≡ h.vnode → t.at ≡ entries h.told
    → Allows (Rules size) slots id me 0 (λ n. n) (λ n after. AppendsOf t me.0 after.0 × (after.1 ≡ me.1))
append_allowed size slots id me h t part pending own ov vnode place s rules len at word =
    let n = slice_index s.words 0 in
    let same : (g : History) → me.0.histories ≡ g ∷ [] → h ≡ g = λ g e. head_is (sym own ∙ e) in (
      appended me.0 h t,
      keeps,
      tt,
      rules_set size s.words s.homes _ _ rules.0 (appends size n s.views id me.0 h t rules.1 at part pending own ov vnode place),
      ((λ g e. (ap (λ y. appended me.0 y t) (same g e), subst (λ y. IsWithin y.vnode (entries y.told) me.0.told) (same g e) (within size n s.views id me.0 h rules.1 at own))), refl),
    )
  where
    head_is : {g : History} → h ∷ [] ≡ g ∷ [] → h ≡ g
    head_is {g} e = cc

pub settle_allowed : (size : Size) (slots id : ℕ) (me : Me (Unit {0}) View) → Allows (Rules size) slots id me 0 (λ n. n) (λ n after. Settles me.0 after.0 × (after.1 ≡ me.1))
settle_allowed size slots id me s rules len at word =
    (settled me.0, keeps, tt, rules_set size s.words s.homes _ _ rules.0 (settles size (slice_index s.words 0) s.views id me.0 rules.1 at), (refl, refl))

pub cut_allowed : (size : Size) (id : ℕ) (v l r : View) → IsCut v l r → (IsSound v → IsSound l × IsSound r) → Splits {S = Unit {0}} (Rules size) id v l r
cut_allowed size id v l r c sound s rules at =
    let both = sound (rules.1.sound id v at) in
    (rules.0, cuts size (slice_index s.words 0) s.views id v l r rules.1 at c both.0 both.1)

pub join_allowed : (size : Size) (id : ℕ) (v : View) (other : ℕ) (w : View) → v.pending ≡ [] → w.pending ≡ [] → v.owed ≡ [] → w.owed ≡ [] → Joins {S = Unit {0}} (Rules size) id v other w (together v w) nothing
join_allowed size id v other w pv pw ov ow s rules at apart there =
    (rules.0, joins size (slice_index s.words 0) s.views id other v w rules.1 at apart there pv pw ov ow)

empty : IsSound nothing
empty = record { bounded = omega arith; idle = λ e. (refl, refl); ordered = tt }

pub all_cut : (size : Size) (id : ℕ) (v : View) → v.owed ≡ [] → Splits {S = Unit {0}} (Rules size) id v nothing v
all_cut size id v ov = cut_allowed size id v nothing v (record { parts = omega arith; drawn = omega arith; pending = refl; told = refl; owed = (ov, refl, ov); histories = refl }) (λ s. (empty, s))

pub pass_cut : (size : Size) (id : ℕ) (v : View) → v.owed ≡ [] → Splits {S = Unit {0}} (Rules size) id v (without_pass v) (pass_of v)
pass_cut size id v ov =
    cut_allowed size id v (without_pass v) (pass_of v) (record { parts = omega arith; drawn = omega arith; pending = sym (append_none v.pending); told = refl; owed = (ov, refl, refl); histories = sym (append_none v.histories) })
    (λ s. (record { bounded = omega arith; idle = λ e. (refl, refl); ordered = s.ordered }, record { bounded = s.bounded; idle = λ e. ((s.idle e).0, refl); ordered = tt }))

pub part_cut : (size : Size) (id : ℕ) (v : View) → 0 < v.parts → v.told ≡ [] → v.drawn ≡ 0 → v.owed ≡ [] → Splits {S = Unit {0}} (Rules size) id v (less_one v) one_part
part_cut size id v has none zero_drawn ov =
    cut_allowed size id v (less_one v) one_part (record { parts = omega arith; drawn = omega arith; pending = sym (append_none v.pending); told = sym (append_none v.told); owed = (ov, refl, refl); histories = sym (append_none v.histories) })
    (λ s. (record { bounded = omega arith; idle = λ e. (none, refl); ordered = s.ordered }, record { bounded = omega arith; idle = λ e. (refl, refl); ordered = tt }))

pub rest_cut : (size : Size) (id : ℕ) (v : View) → v.pending ≡ [] → v.owed ≡ [] → Splits {S = Unit {0}} (Rules size) id v (first_history v) (less_history v)
rest_cut size id v none ov =
    cut_allowed size id v (first_history v) (less_history v) (record { parts = omega arith; drawn = omega arith; pending = refl; told = refl; owed = (ov, refl, refl); histories = split v.histories })
    (λ s. (
      record { bounded = omega arith; idle = λ e. (refl, refl); ordered = front v.histories (none_pending v.pending v.histories s.ordered) },
      record { bounded = s.bounded; idle = λ e. ((s.idle e).0, refl); ordered = subst (λ p. AreInOrder p (rest_of v.histories)) (sym none) (back v.histories (none_pending v.pending v.histories s.ordered)) },
    ))
  where
    split : (hs : List History) → hs ≡ first_of hs ++ rest_of hs
    split [] = refl
    split (h ∷ hs) = refl

    front : (hs : List History) → AreInOrder [] hs → AreInOrder [] (first_of hs)
    front [] o = tt
    front (h ∷ hs) o = (o.0, tt, tt)

    back : (hs : List History) → AreInOrder [] hs → AreInOrder [] (rest_of hs)
    back [] o = tt
    back (h ∷ hs) o = o.2

fresh_told : (low n : ℕ) → all_told (fresh low n) ≡ []
fresh_told low zero = refl
fresh_told low (suc n) = fresh_told (suc low) n

fresh_ordered : (low n : ℕ) → AreInOrder [] (fresh low n)
fresh_ordered low zero = tt
fresh_ordered low (suc n) = (tt, tt, fresh_ordered (suc low) n)

fresh_length : (low n : ℕ) → length (fresh low n) ≡ n
fresh_length low zero = refl
fresh_length low (suc n) = ap suc (fresh_length (suc low) n)

-- no vnode stands twice, and none below low
fresh_numbers : (x low n : ℕ) → (times x (numbers (fresh low n)) ≤ 1) × (x ≤ low → times x (numbers (fresh (suc low) n)) ≡ 0)
fresh_numbers x low zero = (omega arith, λ h. refl)
fresh_numbers x low (suc n) = (one (low == x) refl (fresh_numbers x low n).1 (fresh_numbers x (suc low) n).0, λ h. below h ((fresh_numbers x (suc low) n).1 (omega arith)))
  where
    one : (b : Bool) → (low == x) ≡ b → (x ≤ low → times x (numbers (fresh (suc low) n)) ≡ 0) → times x (numbers (fresh (suc low) n)) ≤ 1 → times x (numbers (fresh low (suc n))) ≤ 1
    one true is none few = let same : low ≡ x = grind (arith, nat_tests) in let z = none (omega arith) in grind arith
    one false is none few = grind arith

    below : x ≤ low → times x (numbers (fresh (suc (suc low)) n)) ≡ 0 → times x (numbers (fresh (suc low) (suc n))) ≡ 0
    below h z = grind (arith, nat_tests)

pub opens : (size : Size) → size.passes ≤ 64 → IsKept size 0 (newcomer size ∷ [])
opens size few = record {
  few = few;
  parts = omega arith;
  vnodes = omega (arith, fresh_length size.first size.vnodes);
  drawn = refl;
  once = λ x. rw (fresh_told size.first size.vnodes) (omega arith);
  alone = λ x. omega (arith, (fresh_numbers x size.first size.vnodes).0);
  told = rw (fresh_told size.first size.vnodes) (IsPermutation-refl []);
  sound = only;
}
  where
    only : (i : ℕ) (v : View) → get_elem? (newcomer size ∷ []) i ≡ some v → IsSound v
    only zero v e = subst IsSound (some-injective _ v e) (record { bounded = omega arith; idle = λ z. (refl, refl); ordered = fresh_ordered size.first size.vnodes })
    only (suc i) v e = absurd (some-ne-none v (sym e))

-- a seat that knows nothing
pub blank_enters : (size : Size) (slots : ℕ) → Enters {S = Unit {0}} (Rules size) slots 0 (λ n w. let m : Me (Unit {0}) View = (w, []) in m ≡ (nothing, []))
blank_enters size slots s rules len word =
    let k = rules.1 in
    let views = s.views in (
      nothing,
      (
        rules.0,
        record {
          few = k.few;
          parts = omega (arith, total-append (λ (u : View). u.parts) views (nothing ∷ []), k.parts);
          vnodes = omega (arith, total-append (λ (u : View). length u.histories) views (nothing ∷ []), k.vnodes);
          drawn = omega (arith, total-append (λ (u : View). u.drawn) views (nothing ∷ []), k.drawn);
          once = λ x. omega (arith, total-append (λ (u : View). times x (stamps u)) views (nothing ∷ []), k.once x);
          alone = λ x. omega (arith, total-append (λ (u : View). times x (numbers u.histories)) views (nothing ∷ []), k.alone x);
          told = subst (λ ts. IsPermutation ts (flat_map (λ u. all_told u.histories) (views ++ nothing ∷ []))) (sym (flat_snoc (λ (u : View). u.told ++ u.owed) views nothing ∙ append_none _))
              (subst (λ ts. IsPermutation (flat_map (λ u. u.told ++ u.owed) views) ts) (sym (flat_snoc (λ (u : View). all_told u.histories) views nothing ∙ append_none _)) k.told);
          sound = sound_snoc views nothing k.sound empty;
        },
      ),
      refl,
    )

-- where nothing changes, the rule stays
pub look_allowed : (size : Size) (slots id : ℕ) (me : Me (Unit {0}) View) → Allows (Rules size) slots id me 0 (λ n. n) (λ n after. Looks me.0 after.0 × (after.1 ≡ me.1))
look_allowed size slots id me s rules len at word = (
  me.0,
  keeps,
  tt,
  rules_set size s.words s.homes _ _ rules.0 (subst (λ vs. IsKept size (slice_index s.words 0) vs) (sym (set_again s.views id me.0 at)) rules.1),
  ((refl, λ h own. within size (slice_index s.words 0) s.views id me.0 h rules.1 at own), refl),
)
