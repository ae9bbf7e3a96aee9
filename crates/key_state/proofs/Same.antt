-- States of one meaning are one, and what a merge changes.
use Rattle.std.proofs.Common.{◌≡◌, ◌≢◌, ℕ, ◌+◌, ◌<◌, ◌≤◌, ◌⊎◌, ◌↔◌, Bool, true, false, cond, List, [], ◌∷◌, Option, Some, None, refl, sym, ap, subst, ◌∙◌, inl, inr, arith}
use Rattle.std.specs.Prelude.{IsTrue, not, ◌==◌, is_some, count_by}
use Rattle.std.specs.List.{AllByRecursion, list_any}
use Rattle.std.proofs.lemmas.Bool.{cases_Bool, cases_eq, cases_lt, cases_order, and_parts, or_parts, not-false, eq-eqb, ne_eqb, both_ways}
use Rattle.dvv.specs.declared.Dot.{Dot}
use Rattle.dvv.specs.Clock.{Covers, covers, counter, Within, IsUnion, AreRising, IsClock, vnodes_together}
use Rattle.key_state.specs.declared.content.Content.{Content}
use Rattle.key_state.specs.declared.content.Sibling.{Sibling}
use Rattle.key_state.specs.State.{State, content_at, is_dot, merged, Merges, IsBefore, AreInOrder, IsState, is_within, has_dropped, is_changed_by, HaveSameDots}
use Rattle.key_state.specs.Merging.{MergesSiblings, merged_at}
use Rattle.key_state.proofs.Siblings.{found_covers, same_dot, is_dot-true, is_dot-same, is_dot-other, before_other, not_before, cases_dot, covers_true, true_covers, covers_false, found_covered}
use Rattle.key_state.proofs.Merges.{absent_after, all_after}

-- two siblings of one dot and one content are one
same_sibling : (a b : Sibling) → a.dot ≡ b.dot → a.content ≡ b.content → a ≡ b
same_sibling a b d c = ap (λ (x : Dot). let s : Sibling = record { dot = x; content = a.content } in s) d ∙ ap (λ (x : Content). let s : Sibling = record { dot = b.dot; content = x } in s) c

-- siblings in order are told by their contents dot by dot
pub same_siblings : (a b : List Sibling) → AreInOrder a → AreInOrder b → ((d : Dot) → content_at a d ≡ content_at b d) → a ≡ b
same_siblings [] [] oa ob same = refl
same_siblings [] (y ∷ ys) oa ob same = absurd (let h : None ≡ Some y.content = same y.dot ∙ (rw (is_dot-same y.dot y.dot refl) refl) in cc)
same_siblings (x ∷ xs) [] oa ob same = absurd (let h : None ≡ Some x.content = sym (same x.dot) ∙ (rw (is_dot-same x.dot x.dot refl) refl) in cc)
same_siblings (x ∷ xs) (y ∷ ys) oa ob same = elim (cases_dot x.dot y.dot) [
  | inl dot ↦ ap (λ (s : Sibling). s ∷ xs) (same_sibling x y dot (contents dot)) ∙ ap (λ (l : List Sibling). y ∷ l) (same_siblings xs ys oa.1 ob.1 (λ d. rest dot d (is_dot x.dot d) refl))
  | inr other ↦ absurd (apart other)
]
  where
    here : (z : Sibling) (zs : List Sibling) → content_at (z ∷ zs) z.dot ≡ Some z.content
    here z zs = rw (is_dot-same z.dot z.dot refl) refl

    contents : x.dot ≡ y.dot → x.content ≡ y.content
    contents dot = let h : Some x.content ≡ Some y.content = sym (here x xs) ∙ same x.dot ∙ ap (content_at (y ∷ ys)) dot ∙ here y ys in cc

    rest : x.dot ≡ y.dot → (d : Dot) (b : Bool) → is_dot x.dot d ≡ b → content_at xs d ≡ content_at ys d
    rest dot d true e = let is : x.dot ≡ d = is_dot-true x.dot d e in
        ap (content_at xs) (sym is) ∙ absent_after xs x.dot oa.0 ∙ sym (absent_after ys y.dot ob.0) ∙ ap (content_at ys) (sym dot ∙ is)
    rest dot d false e = let f : is_dot y.dot d ≡ false = ap (λ (z : Dot). is_dot z d) (sym dot) ∙ e in
        let p : content_at (x ∷ xs) d ≡ content_at xs d = rw e refl in
        let q : content_at (y ∷ ys) d ≡ content_at ys d = rw f refl in
        sym p ∙ same d ∙ q

    lower : (u v : Sibling) (us vs : List Sibling) → AllByRecursion (λ s. IsBefore v.dot s.dot) vs → IsBefore u.dot v.dot → content_at (u ∷ us) u.dot ≡ content_at (v ∷ vs) u.dot → ⊥
    lower u v us vs each b e = let h : Some u.content ≡ None = sym (here u us) ∙ e ∙ (rw (is_dot-other v.dot u.dot (λ is. before_other u.dot v.dot b (sym is))) (absent_after vs u.dot (all_after u.dot v.dot vs b each))) in cc

    apart : x.dot ≢ y.dot → ⊥
    apart other = elim (cases_before x.dot y.dot) [
      | inl b ↦ lower x y xs ys ob.0 b (same x.dot)
      | inr no' ↦ lower y x ys xs oa.0 (not_before x.dot y.dot no' other) (sym (same y.dot))
    ]
      where
        cases_before : (a b : Dot) → IsBefore a b ⊎ (IsBefore a b → ⊥)
        cases_before a b = elim (cases_order a.vnode b.vnode) [
          | inl v ↦ elim (cases_lt a.n b.n) [
            | inl n ↦ inl (inr (v, n))
            | inr n ↦ inr (λ h. elim h [ inl l ↦ omega (arith, l, v) | inr l ↦ omega (arith, l.1, n) ])
          ]
          | inr (inl v) ↦ inl (inl v)
          | inr (inr v) ↦ inr (λ h. elim h [ inl l ↦ omega (arith, l, v) | inr l ↦ omega (arith, l.0, v) ])
        ]

-- a vnode below all entries counts 0
counter_below : (bound : ℕ) (es : List Dot) (v : ℕ) → AreRising bound es → v < bound → counter es v ≡ 0
counter_below bound [] v r lt = refl
counter_below bound (e ∷ es) v r lt = rw (ne_eqb e.vnode v (omega (arith, r.0))) (counter_below (e.vnode + 1) es v r.3 (omega (arith, r.0)))

counter_first : (e : Dot) (es : List Dot) → counter (e ∷ es) e.vnode ≡ e.n
counter_first e es = rw (eq-eqb e.vnode e.vnode refl) refl

-- clocks of one count are one
same_entries : (p q : ℕ) (a b : List Dot) → AreRising p a → AreRising q b → ((v : ℕ) → counter a v ≡ counter b v) → a ≡ b
same_entries p q [] [] ra rb same = refl
same_entries p q [] (f ∷ b) ra rb same = absurd (omega (arith, same f.vnode, counter_first f b, rb.1))
same_entries p q (e ∷ a) [] ra rb same = absurd (omega (arith, same e.vnode, counter_first e a, ra.1))
same_entries p q (e ∷ a) (f ∷ b) ra rb same = elim (cases_order e.vnode f.vnode) [
  | inl v ↦ ap (λ (d : Dot). d ∷ a) (same_dot e f v (sym (counter_first e a) ∙ same e.vnode ∙ ap (counter (f ∷ b)) v ∙ counter_first f b)) ∙ ap (λ (l : List Dot). f ∷ l) (same_entries (e.vnode + 1) (f.vnode + 1) a b ra.3 rb.3 (λ w. rest v w))
  | inr (inl lt) ↦ absurd (omega (arith, same e.vnode, counter_first e a, ra.1, counter_below f.vnode (f ∷ b) e.vnode (at_least, rb.1, rb.2, rb.3) lt))
  | inr (inr gt) ↦ absurd (omega (arith, same f.vnode, counter_first f b, rb.1, counter_below e.vnode (e ∷ a) f.vnode (at_least, ra.1, ra.2, ra.3) gt))
]
  where
    at_least : {n : ℕ} → n ≤ n
    at_least = omega arith

    rest : e.vnode ≡ f.vnode → (w : ℕ) → counter a w ≡ counter b w
    rest v w = elim (cases_eq e.vnode w) [
      | inl is ↦ counter_below (e.vnode + 1) a w ra.3 (omega arith) ∙ sym (counter_below (f.vnode + 1) b w rb.3 (omega arith))
      | inr other ↦ let x : counter (e ∷ a) w ≡ counter a w = rw (ne_eqb e.vnode w other) refl in
          let y : counter (f ∷ b) w ≡ counter b w = rw (ne_eqb f.vnode w (λ i. other (v ∙ i))) refl in
          sym x ∙ same w ∙ y
    ]

-- clocks of one set are one
pub same_clock : (a b : List Dot) → IsClock a → IsClock b → ((d : Dot) → Covers a d ↔ Covers b d) → a ≡ b
same_clock a b ca cb same = same_entries 0 0 a b ca.rising cb.rising (λ v. counts v)
  where
    up_to : (x y : List Dot) (v : ℕ) → ((d : Dot) → Covers x d → Covers y d) → counter x v ≤ counter y v
    up_to x y v within = elim (cases_eq (counter x v) 0) [
      | inl none ↦ omega arith
      | inr some ↦ (within (record { vnode = v; n = counter x v }) (omega arith, omega arith)).1
    ]

    counts : (v : ℕ) → counter a v ≡ counter b v
    counts v = omega (arith, up_to a b v (λ d h. (same d).0 h), up_to b a v (λ d h. (same d).1 h))

pub same_state : (a b : State) → IsState a → IsState b → ((d : Dot) → content_at a.siblings d ≡ content_at b.siblings d) → ((d : Dot) → Covers a.clock d ↔ Covers b.clock d) → a ≡ b
same_state a b sa sb contents events = ap (λ (l : List Sibling). let s : State = record { siblings = l; clock = a.clock } in s) (same_siblings a.siblings b.siblings sa.in_order sb.in_order contents) ∙ ap (λ (l : List Dot). let s : State = record { siblings = b.siblings; clock = l } in s) (same_clock a.clock b.clock sa.clock sb.clock events)

-- the state after a merge
pub merges_state : (own other : State) (siblings : List Sibling) (clock : List Dot) → IsState own → IsState other → MergesSiblings own.siblings own.clock other.siblings other.clock siblings → IsUnion own.clock other.clock clock → IsClock clock → IsState (record { siblings = siblings; clock = clock })
merges_state own other siblings clock a b m union good = record {
  in_order = m.in_order;
  covered = found_covers clock siblings (λ d c e. either d c (sym (m.content d) ∙ e));
  clock = good;
}
  where
    either : (d : Dot) (c : Content) → merged_at own.siblings own.clock other.siblings other.clock d ≡ Some c → Covers clock d
    either d c e = go (content_at own.siblings d) (content_at other.siblings d) refl refl e
      where
        go : (o t : Option Content) → content_at own.siblings d ≡ o → content_at other.siblings d ≡ t → merged o t (covers own.clock d) (covers other.clock d) ≡ Some c → Covers clock d
        go (Some u) t eo et k = (union d).1 (inl (covers_true own.clock d (found_covered own.clock own.siblings d u a.covered eo)))
        go None (Some v) eo et k = (union d).1 (inr (covers_true other.clock d (found_covered other.clock other.siblings d v b.covered et)))
        go None None eo et k = absurd (cc)

-- entries that are covered are a set within
counter_within : (small large : List Dot) → is_within small large ≡ true → (v : ℕ) → counter small v ≤ counter large v
counter_within [] large t v = omega arith
counter_within (e ∷ es) large t v = let p : (covers large e ≡ true) × (is_within es large ≡ true) = and_parts _ _ t in elim (cases_eq e.vnode v) [
  | inl is ↦ omega (arith, ap (counter (e ∷ es)) (sym is), counter_first e es, ap (counter large) (sym is), (covers_true large e p.0).1)
  | inr other ↦ rw (ne_eqb e.vnode v other) (counter_within es large p.1 v)
]

pub within_from : (small large : List Dot) → is_within small large ≡ true → Within small large
within_from small large t d h = (h.0, omega (arith, h.1, counter_within small large t d.vnode))

-- each entry of a clock is in its set
entries_covered : (bound : ℕ) (es : List Dot) → AreRising bound es → AllByRecursion (λ e. Covers es e) es
entries_covered bound [] r = tt
entries_covered bound (e ∷ es) r = ((r.1, omega (arith, counter_first e es)), later es (from es (e.vnode + 1) r.3) (entries_covered (e.vnode + 1) es r.3))
  where
    from : (xs : List Dot) (b : ℕ) → AreRising b xs → AllByRecursion (λ x. b ≤ x.vnode) xs
    from [] b rr = tt
    from (x ∷ xs) b rr = (rr.0, more xs (from xs (x.vnode + 1) rr.3))
      where
        more : (ys : List Dot) → AllByRecursion (λ y. x.vnode + 1 ≤ y.vnode) ys → AllByRecursion (λ y. b ≤ y.vnode) ys
        more [] each = tt
        more (y ∷ ys) each = (omega (arith, each.0, rr.0), more ys each.1)

    later : (xs : List Dot) → AllByRecursion (λ x. e.vnode + 1 ≤ x.vnode) xs → AllByRecursion (λ x. Covers es x) xs → AllByRecursion (λ x. Covers (e ∷ es) x) xs
    later [] above each = tt
    later (x ∷ xs) above each = ((each.0.0, rw (ne_eqb e.vnode x.vnode (omega (arith, above.0))) each.0.1), later xs above.1 each.1)

-- a set within is one whose entries are covered
pub within_to : (small large : List Dot) → IsClock small → Within small large → is_within small large ≡ true
within_to small large good within = all small (entries_covered 0 small good.rising)
  where
    all : (xs : List Dot) → AllByRecursion (λ x. Covers small x) xs → is_within xs large ≡ true
    all [] each = refl
    all (x ∷ xs) each = rw (true_covers large x (within x each.0), all xs each.1) refl

-- a sibling is found
found_each : (xs : List Sibling) → AllByRecursion (λ s. is_some (content_at xs s.dot) ≡ true) xs
found_each [] = tt
found_each (x ∷ xs) = (rw (is_dot-same x.dot x.dot refl) refl, later xs (found_each xs))
  where
    later : (ys : List Sibling) → AllByRecursion (λ s. is_some (content_at xs s.dot) ≡ true) ys → AllByRecursion (λ s. is_some (content_at (x ∷ xs) s.dot) ≡ true) ys
    later [] each = tt
    later (y ∷ ys) each = (go (is_dot x.dot y.dot), later ys each.1)
      where
        go : (b : Bool) → is_some (cond b (Some x.content) (content_at xs y.dot)) ≡ true
        go true = refl
        go false = each.0

-- where none is dropped, a sibling's dot isn't
none_dropped : (other : State) (xs : List Sibling) (d : Dot) (c : Content) → list_any (λ s. has_dropped other s.dot) xs ≡ false → content_at xs d ≡ Some c → has_dropped other d ≡ false
none_dropped other [] d c f e = absurd (cc)
none_dropped other (x ∷ xs) d c f e = let p = or_parts _ _ f in go p.0 (λ k. none_dropped other xs d c p.1 k) (is_dot x.dot d) refl e
  where
    go : has_dropped other x.dot ≡ false → (content_at xs d ≡ Some c → has_dropped other d ≡ false) → (b : Bool) → is_dot x.dot d ≡ b → cond b (Some x.content) (content_at xs d) ≡ Some c → has_dropped other d ≡ false
    go here later true q k = ap (has_dropped other) (sym (is_dot-true x.dot d q)) ∙ here
    go here later false q k = later k

-- a merge that changes nothing
pub unchanged_merges : (own other : State) → IsState other → is_changed_by own other ≡ false → Merges own other own
unchanged_merges own other b unchanged = record { siblings = λ d. go d (content_at own.siblings d) (content_at other.siblings d) refl refl; clock = λ d. (λ h. inl h, λ h. elim h [ inl o ↦ o | inr t ↦ within d t ]) }
  where
    parts : (not (is_within other.clock own.clock) ≡ false) × (list_any (λ s. has_dropped other s.dot) own.siblings ≡ false)
    parts = or_parts _ _ unchanged

    within : Within other.clock own.clock
    within = within_from other.clock own.clock (not-false _ parts.0)

    kept_there : (d : Dot) (u : Content) (q : Bool) → content_at own.siblings d ≡ Some u → content_at other.siblings d ≡ None → covers other.clock d ≡ q → Some u ≡ cond q None (Some u)
    kept_there d u false eo et eq = refl
    kept_there d u true eo et eq = absurd (let h : true ≡ false = sym (rw (eq, et) refl) ∙ none_dropped other own.siblings d u parts.1 eo in cc)

    known_here : (d : Dot) (v : Content) (p : Bool) → content_at other.siblings d ≡ Some v → covers own.clock d ≡ p → None ≡ cond p None (Some v)
    known_here d v true et ep = refl
    known_here d v false et ep = absurd (covers_false own.clock d ep (within d (covers_true other.clock d (found_covered other.clock other.siblings d v b.covered et))))

    go : (d : Dot) (o t : Option Content) → content_at own.siblings d ≡ o → content_at other.siblings d ≡ t → o ≡ merged o t (covers own.clock d) (covers other.clock d)
    go d (Some u) (Some v) eo et = refl
    go d (Some u) None eo et = kept_there d u (covers other.clock d) eo et refl
    go d None (Some v) eo et = known_here d v (covers own.clock d) et refl
    go d None None eo et = refl

-- a merge that leaves dots and events as they were
pub same_is_unchanged : (own other new : State) → IsState other → Merges own other new → HaveSameDots own new → is_changed_by own other ≡ false
same_is_unchanged own other new b m same = rw (within_to other.clock own.clock b.clock (λ d h. (same.known d).1 ((m.clock d).1 (inr h)))) (none own.siblings (found_each own.siblings))
  where
    held_on : (d : Dot) → is_some (content_at own.siblings d) ≡ true → has_dropped other d ≡ false
    held_on d h = go (content_at own.siblings d) (content_at other.siblings d) (covers other.clock d) refl refl refl h
      where
        go : (o t : Option Content) (q : Bool) → content_at own.siblings d ≡ o → content_at other.siblings d ≡ t → covers other.clock d ≡ q → is_some o ≡ true → has_dropped other d ≡ false
        go None t q eo et eq k = absurd (cc)
        go (Some u) (Some v) false eo et eq k = rw eq refl
        go (Some u) (Some v) true eo et eq k = rw (eq, et) refl
        go (Some u) None false eo et eq k = rw eq refl
        go (Some u) None true eo et eq k =
            let gone : content_at new.siblings d ≡ None = m.siblings d ∙ (rw (eo, et, eq) refl) in
            let kept : is_some (content_at new.siblings d) ≡ true = sym (same.held d) ∙ h in
            absurd (let z : false ≡ true = sym (ap is_some gone) ∙ kept in cc)

    none : (xs : List Sibling) → AllByRecursion (λ s. is_some (content_at own.siblings s.dot) ≡ true) xs → list_any (λ s. has_dropped other s.dot) xs ≡ false
    none [] each = refl
    none (x ∷ xs) each = rw (held_on x.dot each.0, none xs each.1) refl

pub same_dots : (s : State) → HaveSameDots s s
same_dots s = record { held = λ d. refl; known = λ d. (λ h. h, λ h. h) }

pub equal_dots : (a b : State) → a ≡ b → HaveSameDots a b
equal_dots a b e = subst (HaveSameDots a) e (same_dots a)

-- the count of vnodes where nothing is further
none_further : (own xs : List Dot) → is_within xs own ≡ true → count_by (λ e. counter own e.vnode == 0) xs ≡ 0
none_further own [] t = refl
none_further own (x ∷ xs) t = let p = and_parts _ _ t in let c = covers_true own x p.0 in rw (ne_eqb (counter own x.vnode) 0 (omega (arith, c.0, c.1)), none_further own xs p.1) refl

pub unchanged_fits : (own other : State) → IsState own → is_changed_by own other ≡ false → vnodes_together own.clock other.clock ≤ 1024
unchanged_fits own other a unchanged = let p : (not (is_within other.clock own.clock) ≡ false) × (list_any (λ s. has_dropped other s.dot) own.siblings ≡ false) = or_parts _ _ unchanged in omega (arith, none_further own.clock other.clock (not-false _ p.0), a.clock.few)

-- the lists that were merged are those of the two states
pub same_merges : {own own' others others' : List Sibling} {own_clock own_clock' other_clock other_clock' : List Dot} {new : List Sibling} → own ≡ own' → own_clock ≡ own_clock' → others ≡ others' → other_clock ≡ other_clock' → MergesSiblings own own_clock others other_clock new → MergesSiblings own' own_clock' others' other_clock' new
same_merges {own' = own'} {others = others} {others' = others'} {own_clock = own_clock} {own_clock' = own_clock'} {other_clock = other_clock} {new = new} p o q r m = subst (λ (c : List Dot). MergesSiblings own' own_clock' others' c new) r (subst (λ (xs : List Sibling). MergesSiblings own' own_clock' xs other_clock new) q (subst (λ (c : List Dot). MergesSiblings own' c others other_clock new) o (subst (λ (xs : List Sibling). MergesSiblings xs own_clock others other_clock new) p m)))

-- the count of equal clocks is one
pub counted : {a a' b b' : List Dot} → a ≡ a' → b ≡ b' → vnodes_together a b ≡ vnodes_together a' b'
counted {a' = a'} {b = b} p q = ap (λ (l : List Dot). vnodes_together l b) p ∙ ap (vnodes_together a') q

-- a merge that was told of has other dots or events
pub merged_state_differs : (own other new : State) → IsState other → is_changed_by own other ≡ true → Merges own other new → HaveSameDots own new → ⊥
merged_state_differs own other new b changed m same = both_ways (is_changed_by own other) (same_is_unchanged own other new b m same) changed

-- a test that tells a set within another is the one by its entries
pub within_told : (small large : List Dot) (b : Bool) → IsClock small → IsTrue b ↔ Within small large → b ≡ is_within small large
within_told small large true good told = sym (within_to small large good (told.0 refl))
within_told small large false good told = elim (cases_Bool (is_within small large)) [
  | inl t ↦ told.1 (within_from small large t) ∙ sym t
  | inr f ↦ sym f
]

-- the test of equal clocks is one
pub within_clocks : {a a' b b' : List Dot} → a ≡ a' → b ≡ b' → is_within a b ≡ is_within a' b'
within_clocks {a' = a'} {b = b} p q = ap (λ (l : List Dot). is_within l b) p ∙ ap (is_within a') q

-- a merge of another state that counts all that is known and holds nothing of it leaves that one
pub gives_way : (own other : State) → IsState own → Within own.clock other.clock → list_any (λ s. covers own.clock s.dot) other.siblings ≡ false → Merges own other other
gives_way own other a within none = record { siblings = λ d. go d (content_at own.siblings d) (content_at other.siblings d) refl refl; clock = λ d. (λ h. inr h, λ h. elim h [ inl o ↦ within d o | inr t ↦ t ]) }
  where
    unknown : (xs : List Sibling) (d : Dot) (c : Content) → list_any (λ s. covers own.clock s.dot) xs ≡ false → content_at xs d ≡ Some c → covers own.clock d ≡ false
    unknown [] d c f e = absurd (cc)
    unknown (x ∷ xs) d c f e = let p = or_parts _ _ f in test p.0 (λ k. unknown xs d c p.1 k) (is_dot x.dot d) refl e
      where
        test : covers own.clock x.dot ≡ false → (content_at xs d ≡ Some c → covers own.clock d ≡ false) → (b : Bool) → is_dot x.dot d ≡ b → cond b (Some x.content) (content_at xs d) ≡ Some c → covers own.clock d ≡ false
        test here later true q k = ap (covers own.clock) (sym (is_dot-true x.dot d q)) ∙ here
        test here later false q k = later k

    go : (d : Dot) (o t : Option Content) → content_at own.siblings d ≡ o → content_at other.siblings d ≡ t → t ≡ merged o t (covers own.clock d) (covers other.clock d)
    go d (Some u) (Some v) eo et = absurd (let h : true ≡ false = sym (found_covered own.clock own.siblings d u a.covered eo) ∙ unknown other.siblings d v none et in cc)
    go d (Some u) None eo et = rw (true_covers other.clock d (within d (covers_true own.clock d (found_covered own.clock own.siblings d u a.covered eo)))) refl
    go d None (Some v) eo et = rw (unknown other.siblings d v none et) refl
    go d None None eo et = refl
