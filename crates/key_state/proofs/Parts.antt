-- Parts of states, and the whole states that they stand for.
use Rattle.std.proofs.Common.{◌≡◌, ℕ, ◌+◌, ◌<◌, ◌||◌, Bool, true, false, List, [], ◌∷◌, ◌++◌, cond, length, get_or, take, map, Option, Some, None, refl, sym, ap, subst, ◌∙◌}
use Rattle.std.specs.List.{AllByRecursion, list_any}
use Rattle.std.specs.Prelude.{is_some, not, ◌&&◌}
use Rattle.std.proofs.lemmas.Bool.{or_parts, not-false}
use Rattle.std.proofs.lemmas.List.{take_more}
use Rattle.dvv.specs.declared.Dot.{Dot}
use Rattle.dvv.specs.Clock.{Covers, covers}
use Rattle.key_state.specs.declared.content.Content.{Content}
use Rattle.key_state.specs.declared.content.Sibling.{Sibling}
use Rattle.key_state.specs.declared.part.PartSibling.{PartSibling}
use Rattle.key_state.specs.State.{State, content_at, is_dot, is_within, has_dropped, is_changed_by, IsBefore, AreInOrder, AreCovered, IsState}
use Rattle.key_state.specs.Parts.{Summarized, part_sibling, part_of, Partial, names, content_of, lacks_content, lacks_some, with_content, whole_siblings, whole_of, AreDotsInOrder, IsPart}
use Rattle.key_state.proofs.Searches.{dots_in_order}

-- the siblings of two lists of a part, one after the other
whole-append : (own : List Sibling) (xs ys : List PartSibling) → whole_siblings own (xs ++ ys) ≡ whole_siblings own xs ++ whole_siblings own ys
whole-append own [] ys = refl
whole-append own (x ∷ xs) ys = go (content_of own x) (whole-append own xs ys)
  where
    go : (o : Option Content) → whole_siblings own (xs ++ ys) ≡ whole_siblings own xs ++ whole_siblings own ys → with_content x.dot o (whole_siblings own (xs ++ ys)) ≡ with_content x.dot o (whole_siblings own xs) ++ whole_siblings own ys
    go None rest = rest
    go (Some content) rest = ap (λ (l : List Sibling). (let s : Sibling = record { dot = x.dot; content = content } in s) ∷ l) rest

-- one more
pub whole_more : (own : List Sibling) (xs : List PartSibling) (i : ℕ) (x : PartSibling) (content : Content) → i < length xs → x ≡ get_or xs i x → content_of own x ≡ Some content → whole_siblings own (take (i + 1) xs) ≡ whole_siblings own (take i xs) ++ record { dot = x.dot; content = content } ∷ []
whole_more own xs i x content lt is has = ap (whole_siblings own) (take_more xs i x lt ∙ ap (λ (p : PartSibling). take i xs ++ p ∷ []) (sym is)) ∙ whole-append own (take i xs) (x ∷ []) ∙ (rw has refl)

-- the whole state is in form
pub whole_in_order : (own : List Sibling) (xs : List PartSibling) → AreDotsInOrder (map (λ (s : PartSibling). s.dot) xs) → AreInOrder (whole_siblings own xs)
whole_in_order own [] order = tt
whole_in_order own (x ∷ xs) order = go (content_of own x) (each xs order.0) (whole_in_order own xs order.1)
  where
    go : (o : Option Content) → AllByRecursion (λ (s : Sibling). IsBefore x.dot s.dot) (whole_siblings own xs) → AreInOrder (whole_siblings own xs) → AreInOrder (with_content x.dot o (whole_siblings own xs))
    go None later rest = rest
    go (Some content) later rest = (later, rest)

    each : (ys : List PartSibling) → AllByRecursion (λ d. IsBefore x.dot d) (map (λ (s : PartSibling). s.dot) ys) → AllByRecursion (λ (s : Sibling). IsBefore x.dot s.dot) (whole_siblings own ys)
    each [] h = tt
    each (y ∷ ys) h = more (content_of own y) (each ys h.1)
      where
        more : (o : Option Content) → AllByRecursion (λ (s : Sibling). IsBefore x.dot s.dot) (whole_siblings own ys) → AllByRecursion (λ (s : Sibling). IsBefore x.dot s.dot) (with_content y.dot o (whole_siblings own ys))
        more None rest = rest
        more (Some content) rest = (h.0, rest)

pub whole_covered : (clock : List Dot) (own : List Sibling) (xs : List PartSibling) → AllByRecursion (λ (s : PartSibling). Covers clock s.dot) xs → AreCovered clock (whole_siblings own xs)
whole_covered clock own [] each = tt
whole_covered clock own (x ∷ xs) each = go (content_of own x) (whole_covered clock own xs each.1)
  where
    go : (o : Option Content) → AreCovered clock (whole_siblings own xs) → AreCovered clock (with_content x.dot o (whole_siblings own xs))
    go None rest = rest
    go (Some content) rest = (each.0, rest)

pub whole_state : (part : Partial) (own : State) → IsPart part → IsState (whole_of part own)
whole_state part own is = record { in_order = whole_in_order own.siblings part.siblings is.in_order; covered = whole_covered part.clock own.siblings part.siblings is.covered; clock = is.clock }

-- a part of a state is in form
pub part_in_form : (state : State) (summary : Summarized) → IsState state → IsPart (part_of state summary)
part_in_form state summary is = record {
  in_order = subst AreDotsInOrder (sym (same_dots state.siblings)) (dots_in_order state.siblings is.in_order);
  covered = each state.siblings is.covered;
  clock = is.clock;
}
  where
    same_dots : (xs : List Sibling) → map (λ (s : PartSibling). s.dot) (map (part_sibling summary) xs) ≡ map (λ (s : Sibling). s.dot) xs
    same_dots [] = refl
    same_dots (x ∷ xs) = ap (λ (l : List Dot). x.dot ∷ l) (same_dots xs)

    each : (xs : List Sibling) → AreCovered state.clock xs → AllByRecursion (λ (s : PartSibling). Covers state.clock s.dot) (map (part_sibling summary) xs)
    each [] h = tt
    each (x ∷ xs) h = (h.0, each xs h.1)

pub part_made : (state : State) (summary : Summarized) (siblings : List PartSibling) (clock : List Dot) → IsState state → siblings ≡ map (part_sibling summary) state.siblings → clock ≡ state.clock → IsPart (record { siblings = siblings; clock = clock })
part_made state summary siblings clock is p q = subst (λ (c : List Dot). IsPart (record { siblings = siblings; clock = c })) (sym q) (subst (λ (l : List PartSibling). IsPart (record { siblings = l; clock = state.clock })) (sym p) (part_in_form state summary is))

-- a sibling more, as it is pushed
pub whole_pushed : (own here : List Sibling) (xs : List PartSibling) (i : ℕ) (x : PartSibling) (content copy : Content) (old new : List Sibling) → i < length xs → x ≡ get_or xs i x → here ≡ own → Some content ≡ content_of here x → copy ≡ content → old ≡ whole_siblings own (take i xs) → new ≡ old ++ record { dot = x.dot; content = copy } ∷ [] → new ≡ whole_siblings own (take (i + 1) xs)
whole_pushed own here xs i x content copy old new lt is same has copied so_far pushed =
    pushed ∙ ap (λ (l : List Sibling). l ++ record { dot = x.dot; content = copy } ∷ []) so_far ∙ ap (λ (z : Content). whole_siblings own (take i xs) ++ record { dot = x.dot; content = z } ∷ []) copied
    ∙ sym (whole_more own xs i x content lt is (sym (has ∙ ap (λ (l : List Sibling). content_of l x) same)))

-- none is lacking still, where the next has its content
pub held_pushed : (own here : List Sibling) (xs : List PartSibling) (i : ℕ) (x : PartSibling) (content : Content) → i < length xs → x ≡ get_or xs i x → here ≡ own → Some content ≡ content_of here x → lacks_content own (take i xs) ≡ false → lacks_content own (take (i + 1) xs) ≡ false
held_pushed own here xs i x content lt is same has none =
    ap (lacks_content own) (take_more xs i x lt ∙ ap (λ (p : PartSibling). take i xs ++ p ∷ []) (sym is)) ∙ pushed (take i xs) (sym (has ∙ ap (λ (l : List Sibling). content_of l x) same)) none
  where
    pushed : (ys : List PartSibling) → content_of own x ≡ Some content → lacks_content own ys ≡ false → lacks_content own (ys ++ x ∷ []) ≡ false
    pushed [] here none = rw here refl
    pushed (y ∷ ys) here none = let p = or_parts (not (is_some (content_of own y))) (lacks_content own ys) none in rw p.0 (pushed ys here p.1)

-- a whole state holds the dots of its part, where no content is lacking
pub held_by_whole : (own : List Sibling) (xs : List PartSibling) (d : Dot) → lacks_content own xs ≡ false → is_some (content_at (whole_siblings own xs) d) ≡ list_any (λ s. is_dot s.dot d) xs
held_by_whole own [] d none = refl
held_by_whole own (x ∷ xs) d none = let p = or_parts _ _ none in go (content_of own x) (not-false _ p.0) (held_by_whole own xs d p.1)
  where
    go : (o : Option Content) → is_some o ≡ true → is_some (content_at (whole_siblings own xs) d) ≡ list_any (λ s. is_dot s.dot d) xs → is_some (content_at (with_content x.dot o (whole_siblings own xs)) d) ≡ (is_dot x.dot d || list_any (λ s. is_dot s.dot d) xs)
    go None some rest = absurd (cc)
    go (Some content) some rest = either (is_dot x.dot d) rest
      where
        either : (q : Bool) → is_some (content_at (whole_siblings own xs) d) ≡ list_any (λ s. is_dot s.dot d) xs → is_some (cond q (Some content) (content_at (whole_siblings own xs) d)) ≡ (q || list_any (λ s. is_dot s.dot d) xs)
        either true rest = refl
        either false rest = rest

-- what a part's clock and dots drop is what the whole state drops
pub drops_alike : (own : State) (part : Partial) (xs : List Sibling) → lacks_some own part ≡ false → list_any (λ s. covers part.clock s.dot && not (names part s.dot)) xs ≡ list_any (λ s. has_dropped (whole_of part own) s.dot) xs
drops_alike own part [] none = refl
drops_alike own part (x ∷ xs) none = rw (held_by_whole own.siblings part.siblings x.dot none, drops_alike own part xs none) refl

-- the merge of a part that knows more changes something
pub further_changes : (own : State) (part : Partial) (b : Bool) → b ≡ is_within part.clock own.clock → b ≡ false → true ≡ is_changed_by own (whole_of part own)
further_changes own part b told off = rw (sym told ∙ off) refl

-- of one that knows nothing more what is dropped tells
pub drops_change : (own : State) (part : Partial) (b c : Bool) → lacks_some own part ≡ false → b ≡ is_within part.clock own.clock → b ≡ true → c ≡ list_any (λ s. covers part.clock s.dot && not (names part s.dot)) own.siblings → c ≡ is_changed_by own (whole_of part own)
drops_change own part b c none told on drops = rw (sym told ∙ on) (drops ∙ drops_alike own part own.siblings none)
