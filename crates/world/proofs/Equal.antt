-- Two states of one key in one world with equal dots and clocks are equal.
use Rattle.std.proofs.Common.{◌≡◌, ◌≢◌, false, List, [], ◌∷◌, refl, sym, ap, subst, ◌∙◌, inl, inr, arith, Some}
use Rattle.std.specs.Prelude.{Contains, map}
use Rattle.std.specs.List.{AllByRecursion}
use Rattle.std.proofs.lemmas.Bool.{cases_Bool}
use Rattle.dvv.specs.declared.Dot.{Dot}
use Rattle.key_state.specs.declared.content.Content.{Content}
use Rattle.key_state.specs.declared.content.Key.{Key}
use Rattle.key_state.specs.declared.content.Sibling.{Sibling}
use Rattle.key_state.specs.State.{State, IsState, AreInOrder, IsBefore, content_at, is_dot}
use Rattle.key_state.specs.Known.{Write}
use Rattle.key_state.proofs.Same.{same_state}
use Rattle.key_state.proofs.Siblings.{found_covers}
use Rattle.world.specs.Knowledge.{Knowledge, IsStateOf}
use Rattle.world.specs.Numbering.{IsLawful, WerePut}
use Rattle.world.proofs.Lists.{Contains-nil, Contains-first, Contains-later, Contains-cases}
use Rattle.world.proofs.Numbers.{one_write}
use Rattle.world.proofs.Shown.{is_dot-same, is_dot-true, same_options}

is_dot-other : (a b : Dot) → a ≢ b → is_dot a b ≡ false
is_dot-other a b ne = elim (cases_Bool (is_dot a b)) [ inl t ↦ absurd (ne (is_dot-true a b t)) | inr f ↦ f ]

before_other : (a b : Dot) → IsBefore a b → a ≢ b
before_other a b (inl lt) e = let h : a.vnode ≡ b.vnode = ap (λ (d : Dot). d.vnode) e in omega arith
before_other a b (inr lt) e = let h : a.n ≡ b.n = ap (λ (d : Dot). d.n) e in let k = lt.1 in omega arith

-- a sibling in order is found by its dot
found_at : (xs : List Sibling) (x : Sibling) → AreInOrder xs → Contains xs x → content_at xs x.dot ≡ Some x.content
found_at [] x o c = absurd (Contains-nil x c)
found_at (y ∷ ys) x o c = elim (Contains-cases y ys x c) [
  | inl is ↦ rw (is_dot-same y.dot x.dot (ap (λ (s : Sibling). s.dot) is)) (ap (λ (s : Sibling). Some s.content) is)
  | inr rest ↦ rw (is_dot-other y.dot x.dot (before_other y.dot x.dot (above ys rest o.0))) (found_at ys x o.1 rest)
]
  where
    above : (zs : List Sibling) → Contains zs x → AllByRecursion (λ s. IsBefore y.dot s.dot) zs → IsBefore y.dot x.dot
    above [] h each = absurd (Contains-nil x h)
    above (z ∷ zs) h each = elim (Contains-cases z zs x h) [ inl is ↦ subst (λ (s : Sibling). IsBefore y.dot s.dot) is each.0 | inr further ↦ above zs further each.1 ]

-- siblings of the same dots and contents are the same
same_siblings : (xs ys : List Sibling) → map (λ (s : Sibling). s.dot) xs ≡ map (λ (s : Sibling). s.dot) ys → ((x y : Sibling) → Contains xs x → Contains ys y → x.dot ≡ y.dot → x.content ≡ y.content) → xs ≡ ys
same_siblings [] [] e f = refl
same_siblings [] (y ∷ ys) e f = absurd (cc)
same_siblings (x ∷ xs) [] e f = absurd (cc)
same_siblings (x ∷ xs) (y ∷ ys) e f =
    let d : x.dot ≡ y.dot = cc in
    let rest : map (λ (s : Sibling). s.dot) xs ≡ map (λ (s : Sibling). s.dot) ys = cc in
    let head : x ≡ y = ap (λ (z : Dot). let s : Sibling = record { dot = z; content = x.content } in s) d ∙ ap (λ (z : Content). let s : Sibling = record { dot = y.dot; content = z } in s) (f x y (Contains-first x xs) (Contains-first y ys) d) in
    ap (λ (s : Sibling). s ∷ xs) head ∙ ap (λ (zs : List Sibling). y ∷ zs) (same_siblings xs ys rest (λ a b ca cb. f a b (Contains-later x xs a ca) (Contains-later y ys b cb)))

-- Two states of one key with equal dots and clocks are equal.
pub equal_states : (w : Knowledge) (key : Key) (mine theirs : List Write) (a b : State) → IsLawful w → WerePut w key mine → WerePut w key theirs → IsStateOf mine a → IsStateOf theirs b → map (λ (s : Sibling). s.dot) a.siblings ≡ map (λ (s : Sibling). s.dot) b.siblings → a.clock ≡ b.clock → a ≡ b
equal_states w key mine theirs a b lawful put_mine put_theirs is_a is_b dots clocks =
    ap (λ (xs : List Sibling). let s : State = record { siblings = xs; clock = a.clock } in s) (same_siblings a.siblings b.siblings dots contents) ∙ ap (λ (c : List Dot). let s : State = record { siblings = b.siblings; clock = c } in s) clocks
  where
    contents : (x y : Sibling) → Contains a.siblings x → Contains b.siblings y → x.dot ≡ y.dot → x.content ≡ y.content
    contents x y cx cy d =
        let p = (is_a.shows.siblings x.dot x.content).0 (found_at a.siblings x is_a.in_order cx) in
        let q = (is_b.shows.siblings y.dot y.content).0 (found_at b.siblings y is_b.in_order cy) in
        sym p.3 ∙ ap (λ (z : Write). z.content) (one_write w key p.0 q.0 lawful (put_mine p.0 p.1.is_known) (put_theirs q.0 q.1.is_known) (p.2 ∙ d ∙ sym q.2)) ∙ q.3

-- the state of some writes is a state
pub whole_state : (known : List Write) (state : State) → IsStateOf known state → IsState state
whole_state known state is = record {
  in_order = is.in_order;
  covered = found_covers state.clock state.siblings (λ d c e. let r = (is.shows.siblings d c).0 e in (is.shows.clock d).1 (r.0, r.1.is_known, inl r.2));
  clock = is.clock;
}

-- Some writes have one state.
pub one_state : (known : List Write) (a b : State) → IsStateOf known a → IsStateOf known b → a ≡ b
one_state known a b is_a is_b = same_state a b (whole_state known a is_a) (whole_state known b is_b)
    (λ d. same_options (content_at a.siblings d) (content_at b.siblings d) (λ c h. (is_b.shows.siblings d c).1 ((is_a.shows.siblings d c).0 h)) (λ c h. (is_a.shows.siblings d c).1 ((is_b.shows.siblings d c).0 h)))
    (λ d. (λ h. (is_b.shows.clock d).1 ((is_a.shows.clock d).0 h), λ h. (is_a.shows.clock d).1 ((is_b.shows.clock d).0 h)))
