-- Two lists of siblings in order, gone over together: what a step takes from them.
use Rattle.std.proofs.Common.{◌≡◌, ℕ, zero, suc, ◌+◌, ◌<◌, ◌≤◌, Bool, true, false, cond, List, [], ◌∷◌, ◌++◌, length, get_or, drop, Option, Some, None, refl, sym, ap, subst, ◌∙◌, inl, inr, arith, add-one}
use Rattle.std.specs.Prelude.{not, ◌&&◌, ◌||◌}
use Rattle.std.specs.List.{AllByRecursion}
use Rattle.std.specs.Option.{option_or}
use Rattle.std.proofs.lemmas.List.{append-nil, append_assoc, drop_all}
use Rattle.dvv.specs.declared.Dot.{Dot}
use Rattle.dvv.specs.Clock.{covers, Covers}
use Rattle.key_state.specs.declared.content.Content.{Content}
use Rattle.key_state.specs.declared.content.Sibling.{Sibling}
use Rattle.key_state.specs.State.{content_at, is_dot, kept, merged, IsBefore, AreInOrder}
use Rattle.key_state.specs.Merging.{BeginsBefore, BeginAlike, merged_at, MergesSiblings, drops_some}
use Rattle.key_state.proofs.Siblings.{is_dot-true, is_dot-same, is_dot-other, before_other, before_trans, not_before, cases_dot, true_covers}

-- what two lists have, one after the other
pub content_at-append : (xs ys : List Sibling) (d : Dot) → content_at (xs ++ ys) d ≡ option_or (content_at xs d) (content_at ys d)
content_at-append [] ys d = refl
content_at-append (x ∷ xs) ys d = go (content_at-append xs ys d) (is_dot x.dot d)
  where
    go : content_at (xs ++ ys) d ≡ option_or (content_at xs d) (content_at ys d) → (b : Bool) → cond b (Some x.content) (content_at (xs ++ ys) d) ≡ option_or (cond b (Some x.content) (content_at xs d)) (content_at ys d)
    go rest true = refl
    go rest false = rest

option_or-none : (o : Option Content) → option_or o None ≡ o
option_or-none None = refl
option_or-none (Some x) = refl

pub option_or-assoc : (a b c : Option Content) → option_or (option_or a b) c ≡ option_or a (option_or b c)
option_or-assoc None b c = refl
option_or-assoc (Some x) b c = refl

-- what comes after a dot doesn't have it
pub absent_after : (xs : List Sibling) (d : Dot) → AllByRecursion (λ s. IsBefore d s.dot) xs → content_at xs d ≡ None
absent_after [] d each = refl
absent_after (x ∷ xs) d each = rw (is_dot-other x.dot d (λ e. before_other d x.dot each.0 (sym e))) (absent_after xs d each.1)

pub order_drop : (xs : List Sibling) (i : ℕ) → AreInOrder xs → AreInOrder (drop i xs)
order_drop [] zero order = tt
order_drop [] (suc i) order = tt
order_drop (x ∷ xs) zero order = order
order_drop (x ∷ xs) (suc i) order = order_drop xs i order.1

-- the front of what is left
pub drop_is : (xs : List Sibling) (i : ℕ) (x : Sibling) → i < length xs → x ≡ get_or xs i x → drop i xs ≡ x ∷ drop (i + 1) xs
drop_is [] i x lt is = absurd (omega arith)
drop_is (y ∷ ys) zero x lt is = ap (λ (s : Sibling). s ∷ ys) (sym is)
drop_is (y ∷ ys) (suc i) x lt is = rw add-one (drop_is ys i x (omega arith) is ∙ (rw add-one refl))

pub front_of : (xs : List Sibling) (i : ℕ) → i < length xs → (x : Sibling) × (drop i xs ≡ x ∷ drop (i + 1) xs)
front_of [] i lt = absurd (omega arith)
front_of (y ∷ ys) zero lt = (y, refl)
front_of (y ∷ ys) (suc i) lt = let r = front_of ys i (omega arith) in (r.0, rw add-one (r.1 ∙ (rw add-one refl)))

pub all_after : (d e : Dot) (xs : List Sibling) → IsBefore d e → AllByRecursion (λ s. IsBefore e s.dot) xs → AllByRecursion (λ s. IsBefore d s.dot) xs
all_after d e [] b each = tt
all_after d e (x ∷ xs) b each = (before_trans d e x.dot b each.0, all_after d e xs b each.1)

-- one side has nothing left
pub begins_last : (xs ys : List Sibling) (i j : ℕ) → i < length xs → length ys ≤ j → BeginsBefore (drop i xs) (drop j ys)
begins_last [] ys i j lt past = absurd (omega arith)
begins_last (x ∷ xs) ys zero j lt past = rw (drop_all j ys past) tt
begins_last (x ∷ xs) ys (suc i) j lt past = begins_last xs ys i j (omega arith) past

-- one side's next is lower
pub begins_before : (xs ys : List Sibling) (i j : ℕ) (x y : Sibling) → i < length xs → j < length ys → AreInOrder ys → x ≡ get_or xs i x → y ≡ get_or ys j y → IsBefore (get_or xs i x).dot (get_or ys j y).dot → BeginsBefore (drop i xs) (drop j ys)
begins_before xs ys i j x y li lj order ix iy h = let before : IsBefore x.dot y.dot = subst (λ (s : Sibling). IsBefore x.dot s.dot) (sym iy) (subst (λ (s : Sibling). IsBefore s.dot (get_or ys j y).dot) (sym ix) h) in rw (drop_is xs i x li ix, drop_is ys j y lj iy) (before, all_after x.dot y.dot (drop (j + 1) ys) before (subst AreInOrder (drop_is ys j y lj iy) (order_drop ys j order)).0)

-- neither is
pub begin_alike : (xs ys : List Sibling) (i j : ℕ) (x y : Sibling) → i < length xs → j < length ys → x ≡ get_or xs i x → y ≡ get_or ys j y → (IsBefore x.dot y.dot → ⊥) → (IsBefore y.dot x.dot → ⊥) → BeginAlike (drop i xs) (drop j ys)
begin_alike xs ys i j x y li lj ix iy no_less no_more = rw (drop_is xs i x li ix, drop_is ys j y lj iy) (elim (cases_dot x.dot y.dot) [ inl same ↦ same | inr other ↦ absurd (no_more (not_before x.dot y.dot no_less other)) ])

-- a list that begins has something left
pub begins_inside : (xs ys : List Sibling) (i : ℕ) → BeginsBefore (drop i xs) ys → i < length xs
begins_inside [] ys zero b = absurd b
begins_inside [] ys (suc i) b = absurd b
begins_inside (x ∷ xs) ys zero b = omega arith
begins_inside (x ∷ xs) ys (suc i) b = omega (arith, begins_inside xs ys i b)

pub alike_inside : (xs ys : List Sibling) (i j : ℕ) → BeginAlike (drop i xs) (drop j ys) → (i < length xs) × (j < length ys)
alike_inside [] ys zero j b = absurd (nothing ys j b)
  where
    nothing : (zs : List Sibling) (k : ℕ) → BeginAlike [] (drop k zs) → ⊥
    nothing zs k h = h
alike_inside [] ys (suc i) j b = absurd b
alike_inside (x ∷ xs) [] zero zero b = absurd b
alike_inside (x ∷ xs) [] zero (suc j) b = absurd b
alike_inside (x ∷ xs) (y ∷ ys) zero zero b = (omega arith, omega arith)
alike_inside (x ∷ xs) (y ∷ ys) zero (suc j) b = let r = alike_inside (x ∷ xs) ys zero j b in (omega arith, omega (arith, r.1))
alike_inside (x ∷ xs) ys (suc i) j b = let r = alike_inside xs ys i j b in (omega (arith, r.0), r.1)

-- the siblings so far, and what is left on either side
pub record IsMerging (own : List Sibling) (own_clock : List Dot) (others : List Sibling) (other_clock : List Dot) (siblings own_left others_left : List Sibling) : Type 0 where
  pub own_order : AreInOrder (siblings ++ own_left)
  pub others_order : AreInOrder (siblings ++ others_left)
  pub content : (d : Dot) → option_or (content_at siblings d) (merged_at own_left own_clock others_left other_clock d) ≡ merged_at own own_clock others other_clock d

each_without : (P : Sibling → Type 0) (m : List Sibling) (a : Sibling) (ys : List Sibling) → AllByRecursion P (m ++ a ∷ ys) → AllByRecursion P (m ++ ys)
each_without P [] a ys each = each.1
each_without P (x ∷ m) a ys each = (each.0, each_without P m a ys each.1)

order_without : (m : List Sibling) (a : Sibling) (ys : List Sibling) → AreInOrder (m ++ a ∷ ys) → AreInOrder (m ++ ys)
order_without [] a ys order = order.1
order_without (x ∷ m) a ys order = (each_without (λ s. IsBefore x.dot s.dot) m a ys order.0, order_without m a ys order.1)

each_between : (P : Sibling → Type 0) (m : List Sibling) (a : Sibling) (ys zs : List Sibling) → AllByRecursion P (m ++ a ∷ ys) → AllByRecursion P (m ++ zs) → AllByRecursion P (m ++ a ∷ zs)
each_between P [] a ys zs with_a without = (with_a.0, without)
each_between P (x ∷ m) a ys zs with_a without = (with_a.0, each_between P m a ys zs with_a.1 without.1)

order_between : (m : List Sibling) (a : Sibling) (ys zs : List Sibling) → AreInOrder (m ++ a ∷ ys) → AreInOrder (m ++ zs) → AllByRecursion (λ s. IsBefore a.dot s.dot) zs → AreInOrder (m ++ a ∷ zs)
order_between [] a ys zs with_a without after = (after, without)
order_between (x ∷ m) a ys zs with_a without after = (each_between (λ s. IsBefore x.dot s.dot) m a ys zs with_a.0 without.0, order_between m a ys zs with_a.1 without.1 after)

order_after : (m : List Sibling) (a : Sibling) (ys : List Sibling) → AreInOrder (m ++ a ∷ ys) → AllByRecursion (λ s. IsBefore a.dot s.dot) ys
order_after [] a ys order = order.0
order_after (x ∷ m) a ys order = order_after m a ys order.1

order_push : (m : List Sibling) (a : Sibling) (ys : List Sibling) → AreInOrder (m ++ a ∷ ys) → AreInOrder ((m ++ a ∷ []) ++ ys)
order_push m a ys order = subst AreInOrder (sym (append_assoc m (a ∷ []) ys)) order

pub merging_start : (own : List Sibling) (own_clock : List Dot) (others : List Sibling) (other_clock : List Dot) → AreInOrder own → AreInOrder others → IsMerging own own_clock others other_clock [] own others
merging_start own own_clock others other_clock a b = record { own_order = a; others_order = b; content = λ d. refl }

pub merging_end : (own : List Sibling) (own_clock : List Dot) (others : List Sibling) (other_clock : List Dot) (siblings own_left others_left : List Sibling) → IsMerging own own_clock others other_clock siblings own_left others_left → own_left ≡ [] → others_left ≡ [] → MergesSiblings own own_clock others other_clock siblings
merging_end own own_clock others other_clock siblings own_left others_left m none nothing = record {
  in_order = subst AreInOrder (append-nil siblings) (subst (λ (xs : List Sibling). AreInOrder (siblings ++ xs)) none m.own_order);
  content = λ d. sym (option_or-none (content_at siblings d)) ∙ (ap (λ (xs : List Sibling). option_or (content_at siblings d) (merged_at xs own_clock [] other_clock d)) (sym none) ∙ ap (λ (xs : List Sibling). option_or (content_at siblings d) (merged_at own_left own_clock xs other_clock d)) (sym nothing) ∙ m.content d);
}

-- one step: what it adds is what the merge has of what it takes
step : (own : List Sibling) (own_clock : List Dot) (others : List Sibling) (other_clock : List Dot) (m lo lx ps lo' lx' : List Sibling) → IsMerging own own_clock others other_clock m lo lx → AreInOrder ((m ++ ps) ++ lo') → AreInOrder ((m ++ ps) ++ lx') → ((d : Dot) → option_or (content_at ps d) (merged_at lo' own_clock lx' other_clock d) ≡ merged_at lo own_clock lx other_clock d) → IsMerging own own_clock others other_clock (m ++ ps) lo' lx'
step own own_clock others other_clock m lo lx ps lo' lx' g a b taken = record {
  own_order = a;
  others_order = b;
  content = λ d. ap (λ (o : Option Content). option_or o (merged_at lo' own_clock lx' other_clock d)) (content_at-append m ps d) ∙ option_or-assoc (content_at m d) (content_at ps d) (merged_at lo' own_clock lx' other_clock d) ∙ ap (option_or (content_at m d)) (taken d) ∙ g.content d;
}

-- the lower one is the own
pub takes_own : (own : List Sibling) (own_clock : List Dot) (others : List Sibling) (other_clock : List Dot) (m lo lx lo' : List Sibling) (a : Sibling) → IsMerging own own_clock others other_clock m lo lx → lo ≡ a ∷ lo' → BeginsBefore lo lx → IsMerging own own_clock others other_clock (m ++ kept other_clock (a ∷ [])) lo' lx
takes_own own own_clock others other_clock m lo lx lo' a g is begins = go (covers other_clock a.dot) refl
  where
    after : AllByRecursion (λ s. IsBefore a.dot s.dot) lx
    after = subst (λ (xs : List Sibling). BeginsBefore xs lx) is begins

    with_a : AreInOrder (m ++ a ∷ lo')
    with_a = subst (λ (xs : List Sibling). AreInOrder (m ++ xs)) is g.own_order

    none : content_at lx a.dot ≡ None
    none = absent_after lx a.dot after

    none_left : content_at lo' a.dot ≡ None
    none_left = absent_after lo' a.dot (order_after m a lo' with_a)

    kept_one : (d : Dot) (b q : Bool) → covers other_clock d ≡ b → is_dot a.dot d ≡ q → covers other_clock a.dot ≡ false → option_or (cond q (Some a.content) None) (merged (content_at lo' d) (content_at lx d) (covers own_clock d) b) ≡ merged (cond q (Some a.content) (content_at lo' d)) (content_at lx d) (covers own_clock d) b
    kept_one d b false e f free = refl
    kept_one d b true e f free = let same : a.dot ≡ d = is_dot-true a.dot d f in
        let nothing : content_at lx d ≡ None = ap (content_at lx) (sym same) ∙ none in
        let off : b ≡ false = sym e ∙ (ap (covers other_clock) (sym same) ∙ free) in
        rw (nothing, off) refl

    dropped_one : (d : Dot) (b q : Bool) → covers other_clock d ≡ b → is_dot a.dot d ≡ q → covers other_clock a.dot ≡ true → merged (content_at lo' d) (content_at lx d) (covers own_clock d) b ≡ merged (cond q (Some a.content) (content_at lo' d)) (content_at lx d) (covers own_clock d) b
    dropped_one d b false e f on = refl
    dropped_one d b true e f on = let same : a.dot ≡ d = is_dot-true a.dot d f in
        let nothing : content_at lx d ≡ None = ap (content_at lx) (sym same) ∙ none in
        let left : content_at lo' d ≡ None = ap (content_at lo') (sym same) ∙ none_left in
        let yes_on : b ≡ true = sym e ∙ (ap (covers other_clock) (sym same) ∙ on) in
        rw (nothing, left, yes_on) refl

    go : (b : Bool) → covers other_clock a.dot ≡ b → IsMerging own own_clock others other_clock (m ++ cond (not b) (a ∷ []) []) lo' lx
    go true on = step own own_clock others other_clock m lo lx [] lo' lx g
        (subst (λ (xs : List Sibling). AreInOrder (xs ++ lo')) (sym (append-nil m)) (order_without m a lo' with_a))
        (subst (λ (xs : List Sibling). AreInOrder (xs ++ lx)) (sym (append-nil m)) g.others_order)
        (λ d. dropped_one d (covers other_clock d) (is_dot a.dot d) refl refl on ∙ ap (λ (xs : List Sibling). merged_at xs own_clock lx other_clock d) (sym is))
    go false free = step own own_clock others other_clock m lo lx (a ∷ []) lo' lx g
        (order_push m a lo' with_a)
        (order_push m a lx (order_between m a lo' lx with_a g.others_order after))
        (λ d. kept_one d (covers other_clock d) (is_dot a.dot d) refl refl free ∙ ap (λ (xs : List Sibling). merged_at xs own_clock lx other_clock d) (sym is))

-- the lower one is the other
pub takes_other : (own : List Sibling) (own_clock : List Dot) (others : List Sibling) (other_clock : List Dot) (m lo lx lx' : List Sibling) (a : Sibling) → IsMerging own own_clock others other_clock m lo lx → lx ≡ a ∷ lx' → BeginsBefore lx lo → IsMerging own own_clock others other_clock (m ++ kept own_clock (a ∷ [])) lo lx'
takes_other own own_clock others other_clock m lo lx lx' a g is begins = go (covers own_clock a.dot) refl
  where
    after : AllByRecursion (λ s. IsBefore a.dot s.dot) lo
    after = subst (λ (xs : List Sibling). BeginsBefore xs lo) is begins

    with_a : AreInOrder (m ++ a ∷ lx')
    with_a = subst (λ (xs : List Sibling). AreInOrder (m ++ xs)) is g.others_order

    none : content_at lo a.dot ≡ None
    none = absent_after lo a.dot after

    none_left : content_at lx' a.dot ≡ None
    none_left = absent_after lx' a.dot (order_after m a lx' with_a)

    kept_one : (d : Dot) (b q : Bool) → covers own_clock d ≡ b → is_dot a.dot d ≡ q → covers own_clock a.dot ≡ false → option_or (cond q (Some a.content) None) (merged (content_at lo d) (content_at lx' d) b (covers other_clock d)) ≡ merged (content_at lo d) (cond q (Some a.content) (content_at lx' d)) b (covers other_clock d)
    kept_one d b false e f free = refl
    kept_one d b true e f free = let same : a.dot ≡ d = is_dot-true a.dot d f in
        let nothing : content_at lo d ≡ None = ap (content_at lo) (sym same) ∙ none in
        let off : b ≡ false = sym e ∙ (ap (covers own_clock) (sym same) ∙ free) in
        rw (nothing, off) refl

    dropped_one : (d : Dot) (b q : Bool) → covers own_clock d ≡ b → is_dot a.dot d ≡ q → covers own_clock a.dot ≡ true → merged (content_at lo d) (content_at lx' d) b (covers other_clock d) ≡ merged (content_at lo d) (cond q (Some a.content) (content_at lx' d)) b (covers other_clock d)
    dropped_one d b false e f on = refl
    dropped_one d b true e f on = let same : a.dot ≡ d = is_dot-true a.dot d f in
        let nothing : content_at lo d ≡ None = ap (content_at lo) (sym same) ∙ none in
        let left : content_at lx' d ≡ None = ap (content_at lx') (sym same) ∙ none_left in
        let yes_on : b ≡ true = sym e ∙ (ap (covers own_clock) (sym same) ∙ on) in
        rw (nothing, left, yes_on) refl

    go : (b : Bool) → covers own_clock a.dot ≡ b → IsMerging own own_clock others other_clock (m ++ cond (not b) (a ∷ []) []) lo lx'
    go true on = step own own_clock others other_clock m lo lx [] lo lx' g
        (subst (λ (xs : List Sibling). AreInOrder (xs ++ lo)) (sym (append-nil m)) g.own_order)
        (subst (λ (xs : List Sibling). AreInOrder (xs ++ lx')) (sym (append-nil m)) (order_without m a lx' with_a))
        (λ d. dropped_one d (covers own_clock d) (is_dot a.dot d) refl refl on ∙ ap (λ (xs : List Sibling). merged_at lo own_clock xs other_clock d) (sym is))
    go false free = step own own_clock others other_clock m lo lx (a ∷ []) lo lx' g
        (order_push m a lo (order_between m a lx' lo with_a g.own_order after))
        (order_push m a lx' with_a)
        (λ d. kept_one d (covers own_clock d) (is_dot a.dot d) refl refl free ∙ ap (λ (xs : List Sibling). merged_at lo own_clock xs other_clock d) (sym is))

-- both are one
pub takes_both : (own : List Sibling) (own_clock : List Dot) (others : List Sibling) (other_clock : List Dot) (m lo lx lo' lx' : List Sibling) (a b : Sibling) → IsMerging own own_clock others other_clock m lo lx → lo ≡ a ∷ lo' → lx ≡ b ∷ lx' → BeginAlike lo lx → IsMerging own own_clock others other_clock (m ++ a ∷ []) lo' lx'
takes_both own own_clock others other_clock m lo lx lo' lx' a b g is is' alike = step own own_clock others other_clock m lo lx (a ∷ []) lo' lx' g
    (order_push m a lo' with_a)
    (order_push m a lx' (order_between m a lo' lx' with_a (order_without m b lx' with_b) (subst (λ (d : Dot). AllByRecursion (λ s. IsBefore d s.dot) lx') (sym same) (order_after m b lx' with_b))))
    (λ d. taken d (is_dot a.dot d) (is_dot b.dot d) refl refl ∙ ap (λ (xs : List Sibling). merged_at xs own_clock (b ∷ lx') other_clock d) (sym is) ∙ ap (λ (xs : List Sibling). merged_at lo own_clock xs other_clock d) (sym is'))
  where
    same : a.dot ≡ b.dot
    same = subst (λ (xs : List Sibling). BeginAlike xs (b ∷ lx')) is (subst (λ (xs : List Sibling). BeginAlike lo xs) is' alike)

    with_a : AreInOrder (m ++ a ∷ lo')
    with_a = subst (λ (xs : List Sibling). AreInOrder (m ++ xs)) is g.own_order

    with_b : AreInOrder (m ++ b ∷ lx')
    with_b = subst (λ (xs : List Sibling). AreInOrder (m ++ xs)) is' g.others_order

    taken : (d : Dot) (p q : Bool) → is_dot a.dot d ≡ p → is_dot b.dot d ≡ q → option_or (cond p (Some a.content) None) (merged_at lo' own_clock lx' other_clock d) ≡ merged (cond p (Some a.content) (content_at lo' d)) (cond q (Some b.content) (content_at lx' d)) (covers own_clock d) (covers other_clock d)
    taken d true true e f = refl
    taken d false false e f = refl
    taken d true false e f = absurd (let k = is_dot-same b.dot d (sym same ∙ is_dot-true a.dot d e) in cc)
    taken d false true e f = absurd (let k = is_dot-same a.dot d (same ∙ is_dot-true b.dot d f) in cc)

-- what is dropped among what is left

-- one of the others that is before all of the own is none of theirs
drops_past : (b : Sibling) (lx lo : List Sibling) (clock : List Dot) → AllByRecursion (λ s. IsBefore b.dot s.dot) lo → drops_some (b ∷ lx) clock lo ≡ drops_some lx clock lo
drops_past b lx [] clock after = refl
drops_past b lx (x ∷ lo) clock after = rw (is_dot-other b.dot x.dot (before_other b.dot x.dot after.0), drops_past b lx lo clock after.1) refl

pub drops_own : (lo lx lo' : List Sibling) (a : Sibling) (clock : List Dot) → lo ≡ a ∷ lo' → covers clock a.dot ≡ false → drops_some lx clock lo ≡ drops_some lx clock lo'
drops_own lo lx lo' a clock is free = ap (drops_some lx clock) is ∙ (rw free refl)

pub drops_here : (lo lx lo' : List Sibling) (a : Sibling) (clock : List Dot) → lo ≡ a ∷ lo' → BeginsBefore lo lx → Covers clock a.dot → drops_some lx clock lo ≡ true
drops_here lo lx lo' a clock is begins h = let on : covers clock a.dot ≡ true = true_covers clock a.dot h in ap (drops_some lx clock) is ∙ (rw (on, absent_after lx a.dot (subst (λ (xs : List Sibling). BeginsBefore xs lx) is begins)) refl)

pub drops_other : (lo lx lx' : List Sibling) (b : Sibling) (clock : List Dot) → lx ≡ b ∷ lx' → BeginsBefore lx lo → drops_some lx clock lo ≡ drops_some lx' clock lo
drops_other lo lx lx' b clock is begins = ap (λ (xs : List Sibling). drops_some xs clock lo) is ∙ drops_past b lx' lo clock (subst (λ (xs : List Sibling). BeginsBefore xs lo) is begins)

pub drops_both : (lo lx lo' lx' : List Sibling) (a b : Sibling) (clock : List Dot) → lo ≡ a ∷ lo' → lx ≡ b ∷ lx' → BeginAlike lo lx → AreInOrder lo → drops_some lx clock lo ≡ drops_some lx' clock lo'
drops_both lo lx lo' lx' a b clock is is' alike order = ap (λ (xs : List Sibling). drops_some xs clock lo) is' ∙ ap (drops_some (b ∷ lx') clock) is ∙ (rw (is_dot-same b.dot a.dot (sym same)) (go (covers clock a.dot)))
  where
    same : a.dot ≡ b.dot
    same = subst (λ (xs : List Sibling). BeginAlike xs (b ∷ lx')) is (subst (λ (xs : List Sibling). BeginAlike lo xs) is' alike)

    past : drops_some (b ∷ lx') clock lo' ≡ drops_some lx' clock lo'
    past = drops_past b lx' lo' clock (subst (λ (d : Dot). AllByRecursion (λ s. IsBefore d s.dot) lo') same (subst AreInOrder is order).0)

    go : (p : Bool) → ((p && false) || drops_some (b ∷ lx') clock lo') ≡ drops_some lx' clock lo'
    go true = past
    go false = past
