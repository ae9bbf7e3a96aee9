-- Siblings of parts as siblings: their order, their clock, and the part that comes of them.
use Rattle.std.proofs.Common.{◌≡◌, Bool, true, false, cond, eqb, List, [], ◌∷◌, ◌++◌, map, Option, Some, None, is_some, refl, ap, ◌∙◌, arith, inl, inr}
use Rattle.std.specs.List.{AllByRecursion, list_any}
use Rattle.std.proofs.lemmas.Bool.{eqb-true, eq-eqb, and_from, and_parts}
use Rattle.dvv.specs.declared.Dot.{Dot}
use Rattle.dvv.specs.Dots.{IsBefore}
use Rattle.dvv.specs.Clock.{Covers}
use Rattle.key_state.specs.declared.content.Content.{Content}
use Rattle.key_state.specs.declared.part.PartSibling.{PartSibling}
use Rattle.key_state.specs.Parts.{AreDotsInOrder, part_of, part_sibling}
use Rattle.key_state.specs.State.{AreCovered, AreInOrder, is_dot}
use Rattle.key_state.specs.Limits.{IsContent}
use Rattle.record_codec.specs.Records.{AreContents}
use Rattle.peer_messages.specs.Limits.{AreSentContents, IsSentContent}
use Rattle.peer_messages.specs.Filling.{bare, bare_siblings, content_or_none, filled, left_out}

abbrev pub dots : List PartSibling → List Dot
dots ss = map (λ s. s.dot) ss

-- ---- order and clock, of dots and of siblings

later_dots : (d : Dot) (ss : List PartSibling) → AllByRecursion (λ later. IsBefore d later.dot) (map filled ss) → AllByRecursion (λ later. IsBefore d later) (dots ss)
later_dots d [] h = tt
later_dots d (s ∷ ss) h = (h.0, later_dots d ss h.1)

pub dots_in_order : (ss : List PartSibling) → AreInOrder (map filled ss) → AreDotsInOrder (dots ss)
dots_in_order [] h = tt
dots_in_order (s ∷ ss) h = (later_dots s.dot ss h.0, dots_in_order ss h.1)

later_filled : (d : Dot) (ss : List PartSibling) → AllByRecursion (λ later. IsBefore d later) (dots ss) → AllByRecursion (λ later. IsBefore d later.dot) (map filled ss)
later_filled d [] h = tt
later_filled d (s ∷ ss) h = (h.0, later_filled d ss h.1)

pub filled_in_order : (ss : List PartSibling) → AreDotsInOrder (dots ss) → AreInOrder (map filled ss)
filled_in_order [] h = tt
filled_in_order (s ∷ ss) h = (later_filled s.dot ss h.0, filled_in_order ss h.1)

pub parts_covered : (clock : List Dot) (ss : List PartSibling) → AreCovered clock (map filled ss) → AllByRecursion (λ s. Covers clock s.dot) ss
parts_covered clock [] h = tt
parts_covered clock (s ∷ ss) h = (h.0, parts_covered clock ss h.1)

pub filled_covered : (clock : List Dot) (ss : List PartSibling) → AllByRecursion (λ s. Covers clock s.dot) ss → AreCovered clock (map filled ss)
filled_covered clock [] h = tt
filled_covered clock (s ∷ ss) h = (h.0, filled_covered clock ss h.1)

-- ---- those that were left out

later_bare : (d : Dot) (ss : List PartSibling) → AllByRecursion (λ later. IsBefore d later) (dots ss) → AllByRecursion (λ later. IsBefore d later.dot) (bare_siblings ss)
later_bare d [] h = tt
later_bare d (s ∷ ss) h =
    elim (is_some s.content) as (λ b. AllByRecursion (λ later. IsBefore d later.dot) (cond b [] (bare s.dot ∷ []) ++ bare_siblings ss)) [ true ↦ later_bare d ss h.1 | false ↦ (h.0, later_bare d ss h.1) ]

pub bare_in_order : (ss : List PartSibling) → AreDotsInOrder (dots ss) → AreInOrder (bare_siblings ss)
bare_in_order [] h = tt
bare_in_order (s ∷ ss) h =
    elim (is_some s.content) as (λ b. AreInOrder (cond b [] (bare s.dot ∷ []) ++ bare_siblings ss)) [ true ↦ bare_in_order ss h.1 | false ↦ (later_bare s.dot ss h.0, bare_in_order ss h.1) ]

pub bare_covered : (clock : List Dot) (ss : List PartSibling) → AllByRecursion (λ s. Covers clock s.dot) ss → AreCovered clock (bare_siblings ss)
bare_covered clock [] h = tt
bare_covered clock (s ∷ ss) h =
    elim (is_some s.content) as (λ b. AreCovered clock (cond b [] (bare s.dot ∷ []) ++ bare_siblings ss)) [ true ↦ bare_covered clock ss h.1 | false ↦ (h.0, bare_covered clock ss h.1) ]

pub dots_of_filled : (ss : List PartSibling) → map (λ s. s.dot) (map filled ss) ≡ dots ss
dots_of_filled [] = refl
dots_of_filled (s ∷ ss) = ap (λ xs. s.dot ∷ xs) (dots_of_filled ss)

-- ---- the part of the filled siblings for those that were left out

not_before_itself : (d e : Dot) → IsBefore d e → is_dot e d ≡ false
not_before_itself d e h =
    elim (is_dot e d) as (λ b. is_dot e d ≡ b → b ≡ false) [
      | false ↦ λ is. refl
      | true ↦ λ is.
          let p = and_parts (eqb e.vnode d.vnode) (eqb e.n d.n) is in
          let v : e.vnode ≡ d.vnode = eqb-true _ _ p.0 in
          let n : e.n ≡ d.n = eqb-true _ _ p.1 in
          absurd (elim h [ inl lt ↦ omega arith | inr both ↦ (let m = both.1 in omega arith) ])
    ] refl

not_before_itself' : (d e : Dot) → IsBefore d e → is_dot d e ≡ false
not_before_itself' d e h =
    elim (is_dot d e) as (λ b. is_dot d e ≡ b → b ≡ false) [
      | false ↦ λ is. refl
      | true ↦ λ is.
          let p = and_parts (eqb d.vnode e.vnode) (eqb d.n e.n) is in
          let v : d.vnode ≡ e.vnode = eqb-true _ _ p.0 in
          let n : d.n ≡ e.n = eqb-true _ _ p.1 in
          absurd (elim h [ inl lt ↦ omega arith | inr both ↦ (let m = both.1 in omega arith) ])
    ] refl

-- dots, of which all are after one, don't hold it
abbrev held_in : List Dot → Dot → Bool
held_in ds dot = list_any (λ d. is_dot d dot) ds

after_lacks : (d : Dot) (ss : List PartSibling) → AllByRecursion (λ later. IsBefore d later) (dots ss) → held_in (left_out ss) d ≡ false
after_lacks d [] h = refl
after_lacks d (s ∷ ss) h =
    elim (is_some s.content) as (λ b. held_in (map (λ s. s.dot) (cond b [] (bare s.dot ∷ []) ++ bare_siblings ss)) d ≡ false) [
      | true ↦ after_lacks d ss h.1
      | false ↦ rw (not_before_itself d s.dot h.0) (after_lacks d ss h.1)
    ]

-- the siblings of the part, if each dot was left out where one has no content
abbrev made : List Dot → List PartSibling → List PartSibling
made held ss = map (part_sibling (record { dots = held; clock = [] })) (map filled ss)

-- a dot before all of these changes nothing of them
made_behind : (d : Dot) (held : List Dot) (ss : List PartSibling) → AllByRecursion (λ later. IsBefore d later) (dots ss) → made (d ∷ held) ss ≡ made held ss
made_behind d held [] h = refl
made_behind d held (s ∷ ss) h = rw (not_before_itself' d s.dot h.0) (ap (λ xs. part_sibling (record { dots = held; clock = [] }) (filled s) ∷ xs) (made_behind d held ss h.1))

same_dot : (d : Dot) → is_dot d d ≡ true
same_dot d = and_from (eqb d.vnode d.vnode) (eqb d.n d.n) (eq-eqb d.vnode d.vnode refl) (eq-eqb d.n d.n refl)

one_again : (d : Dot) (c : Option Content) (ss : List PartSibling) → AllByRecursion (λ later. IsBefore d later) (dots ss) → made (left_out ss) ss ≡ ss → made (left_out (record { dot = d; content = c } ∷ ss)) (record { dot = d; content = c } ∷ ss) ≡ record { dot = d; content = c } ∷ ss
one_again d None ss h is = rw (same_dot d) (ap (λ xs. record { dot = d; content = None } ∷ xs) (made_behind d (left_out ss) ss h ∙ is))
one_again d (Some c) ss h is = rw (after_lacks d ss h) (ap (λ xs. record { dot = d; content = Some c } ∷ xs) is)

made_again : (ss : List PartSibling) → AreDotsInOrder (dots ss) → made (left_out ss) ss ≡ ss
made_again [] h = refl
made_again (s ∷ ss) h = one_again s.dot s.content ss h.0 (made_again ss h.1)

pub part_again : (clock : List Dot) (ss : List PartSibling) → AreDotsInOrder (dots ss) → part_of (record { siblings = map filled ss; clock = clock }) (record { dots = left_out ss; clock = clock }) ≡ record { siblings = ss; clock = clock }
part_again clock ss h = ap (λ xs. record { siblings = xs; clock = clock }) (made_again ss h)

-- ---- contents

content_within : (c : Option Content) → IsSentContent c → IsContent (content_or_none c)
content_within None h = tt
content_within (Some c) h = h

pub filled_contents : (ss : List PartSibling) → AreSentContents ss → AreContents (map filled ss)
filled_contents [] h = tt
filled_contents (s ∷ ss) h = (content_within s.content h.0, filled_contents ss h.1)
