-- Parts that were made of states stand for these.
use Rattle.std.proofs.Common.{◌≡◌, ◌++◌, ◌||◌, Bool, true, false, cond, List, [], ◌∷◌, map, length, Option, Some, None, refl, sym, ap, ◌∙◌, inl, inr}
use Rattle.std.specs.Prelude.{IsTrue, is_some, not, filter}
use Rattle.std.specs.List.{AllByRecursion, list_any}
use Rattle.std.proofs.lemmas.Bool.{cases_Bool, or_parts, not-false}
use Rattle.std.proofs.lemmas.List.Elements.{Contains-append_left, Contains-append_right}
use Rattle.dvv.specs.declared.Dot.{Dot}
use Rattle.key_state.specs.declared.content.Content.{Content}
use Rattle.key_state.specs.declared.content.Sibling.{Sibling}
use Rattle.key_state.specs.declared.part.PartSibling.{PartSibling}
use Rattle.key_state.specs.State.{State, content_at, is_dot, IsBefore, AreInOrder, IsState}
use Rattle.key_state.specs.Known.{Write, Shows, AreUnique}
use Rattle.key_state.specs.Parts.{Summarized, summary_of, part_sibling, part_of, contents_in, holds, content_of, lacks_content, lacks_some, whole_siblings, whole_of, HoldsLeftOut}
use Rattle.key_state.proofs.Siblings.{is_dot-true, is_dot-same, is_dot-other, before_other}

-- each sibling has its content back
abbrev HasContent : List Sibling → Summarized → Sibling → Type 0
HasContent own summary s = content_of own (part_sibling summary s) ≡ Some s.content

-- then none is lacking, and they are as they were
none_lacking : (own : List Sibling) (summary : Summarized) (xs : List Sibling) → AllByRecursion (HasContent own summary) xs → lacks_content own (map (part_sibling summary) xs) ≡ false
none_lacking own summary [] each = refl
none_lacking own summary (x ∷ xs) each = let back : content_of own (part_sibling summary x) ≡ Some x.content = each.0 in rw (back, none_lacking own summary xs each.1) refl

as_they_were : (own : List Sibling) (summary : Summarized) (xs : List Sibling) → AllByRecursion (HasContent own summary) xs → whole_siblings own (map (part_sibling summary) xs) ≡ xs
as_they_were own summary [] each = refl
as_they_were own summary (x ∷ xs) each = let back : content_of own (part_sibling summary x) ≡ Some x.content = each.0 in rw back (ap (λ (l : List Sibling). x ∷ l) (as_they_were own summary xs each.1))

-- the siblings of a list in order are found in it
found_all : (xs : List Sibling) → AreInOrder xs → AllByRecursion (λ s. content_at xs s.dot ≡ Some s.content) xs
found_all [] order = tt
found_all (x ∷ xs) order = (rw (is_dot-same x.dot x.dot refl) refl, later xs order.0 (found_all xs order.1))
  where
    later : (ys : List Sibling) → AllByRecursion (λ s. IsBefore x.dot s.dot) ys → AllByRecursion (λ s. content_at xs s.dot ≡ Some s.content) ys → AllByRecursion (λ s. content_at (x ∷ xs) s.dot ≡ Some s.content) ys
    later [] after each = tt
    later (y ∷ ys) after each = (rw (is_dot-other x.dot y.dot (before_other x.dot y.dot after.0)) each.0, later ys after.1 each.1)

-- one who holds what was left out has each content
each_back : (own state : State) (summary : Summarized) → HoldsLeftOut own state summary → (xs : List Sibling) → AllByRecursion (λ s. content_at state.siblings s.dot ≡ Some s.content) xs → AllByRecursion (HasContent own.siblings summary) xs
each_back own state summary hold [] each = tt
each_back own state summary hold (x ∷ xs) each = (go (holds summary x.dot) refl, each_back own state summary hold xs each.1)
  where
    go : (b : Bool) → holds summary x.dot ≡ b → content_of own.siblings (record { dot = x.dot; content = cond b None (Some x.content) }) ≡ Some x.content
    go true e = hold x.dot x.content e each.0
    go false e = refl

pub lacks_none : (own state : State) (summary : Summarized) → IsState state → HoldsLeftOut own state summary → lacks_some own (part_of state summary) ≡ false
lacks_none own state summary is hold = none_lacking own.siblings summary state.siblings (each_back own state summary hold state.siblings (found_all state.siblings is.in_order))

pub whole_is_state : (own state : State) (summary : Summarized) → IsState state → HoldsLeftOut own state summary → whole_of (part_of state summary) own ≡ state
whole_is_state own state summary is hold = ap (λ (l : List Sibling). let s : State = record { siblings = l; clock = state.clock } in s) (as_they_were own.siblings summary state.siblings (each_back own state summary hold state.siblings (found_all state.siblings is.in_order)))

-- where none is lacking, a dot that was left out is held
held_there : (own : List Sibling) (summary : Summarized) (xs : List Sibling) (d : Dot) (content : Content) → lacks_content own (map (part_sibling summary) xs) ≡ false → holds summary d ≡ true → content_at xs d ≡ Some content → is_some (content_at own d) ≡ true
held_there own summary [] d content none held at = absurd (cc)
held_there own summary (x ∷ xs) d content none held at = let p = or_parts _ _ none in go (is_dot x.dot d) refl p.0 (λ k. held_there own summary xs d content p.1 held k) at
  where
    go : (b : Bool) → is_dot x.dot d ≡ b → not (is_some (content_of own (part_sibling summary x))) ≡ false → (content_at xs d ≡ Some content → is_some (content_at own d) ≡ true) → cond b (Some x.content) (content_at xs d) ≡ Some content → is_some (content_at own d) ≡ true
    go false e here later k = later k
    go true e here later k =
        let same : x.dot ≡ d = is_dot-true x.dot d e in
        let out : holds summary x.dot ≡ true = ap (holds summary) same ∙ held in
        let back : is_some (content_at own x.dot) ≡ true = not-false _ (rw out at here) in
        ap (λ (z : Dot). is_some (content_at own z)) (sym same) ∙ back

-- what one of the same world holds under a dot is the same content
pub whole_in_world : (mine theirs : List Write) (own state : State) (summary : Summarized) → IsState state → Shows mine own → Shows theirs state → AreUnique (mine ++ theirs) → lacks_some own (part_of state summary) ≡ false → whole_of (part_of state summary) own ≡ state
whole_in_world mine theirs own state summary is shows_own shows_state unique none = whole_is_state own state summary is hold
  where
    one : (d : Dot) (a b : Content) → content_at own.siblings d ≡ Some a → content_at state.siblings d ≡ Some b → a ≡ b
    one d a b ea eb =
        let m = (shows_own.siblings d a).0 ea in
        let t = (shows_state.siblings d b).0 eb in
        let same : m.0 ≡ t.0 = unique m.0 t.0 (Contains-append_left mine theirs m.0 m.1.is_known) (Contains-append_right mine theirs t.0 t.1.is_known) (m.2 ∙ sym t.2) in
        sym m.3 ∙ ap (λ (w : Write). w.content) same ∙ t.3

    hold : HoldsLeftOut own state summary
    hold d content held at = go (content_at own.siblings d) refl (held_there own.siblings summary state.siblings d content none held at)
      where
        go : (o : Option Content) → content_at own.siblings d ≡ o → is_some (content_at own.siblings d) ≡ true → content_at own.siblings d ≡ Some content
        go None e some = absurd (let z : false ≡ true = sym (ap is_some e) ∙ some in cc)
        go (Some c) e some = e ∙ ap Some (one d c content e at)

-- what is lacking
pub lacking_to : (own : List Sibling) (summary : Summarized) (xs : List Sibling) → lacks_content own (map (part_sibling summary) xs) ≡ true → (d : Dot) × IsTrue (holds summary d) × IsTrue (is_some (content_at xs d)) × (content_at own d ≡ None)
lacking_to own summary [] t = absurd (cc)
lacking_to own summary (x ∷ xs) t = go (holds summary x.dot) (content_at own x.dot) refl refl t (λ k. lacking_to own summary xs k)
  where
    found : is_some (content_at (x ∷ xs) x.dot) ≡ true
    found = rw (is_dot-same x.dot x.dot refl) refl

    further : (d : Dot) (b : Bool) → IsTrue (is_some (content_at xs d)) → is_dot x.dot d ≡ b → is_some (cond b (Some x.content) (content_at xs d)) ≡ true
    further d true h e = refl
    further d false h e = h

    rest : ((d : Dot) × IsTrue (holds summary d) × IsTrue (is_some (content_at xs d)) × (content_at own d ≡ None)) → (d : Dot) × IsTrue (holds summary d) × IsTrue (is_some (content_at (x ∷ xs) d)) × (content_at own d ≡ None)
    rest r = (r.0, r.1, further r.0 (is_dot x.dot r.0) r.2 refl, r.3)

    go : (b : Bool) (o : Option Content) → holds summary x.dot ≡ b → content_at own x.dot ≡ o
        → (not (is_some (content_of own (record { dot = x.dot; content = cond b None (Some x.content) }))) || lacks_content own (map (part_sibling summary) xs)) ≡ true
        → (lacks_content own (map (part_sibling summary) xs) ≡ true → (d : Dot) × IsTrue (holds summary d) × IsTrue (is_some (content_at xs d)) × (content_at own d ≡ None))
        → (d : Dot) × IsTrue (holds summary d) × IsTrue (is_some (content_at (x ∷ xs) d)) × (content_at own d ≡ None)
    go true None e f h later = (x.dot, e, found, f)
    go true (Some c) e f h later = rest (later (rw f at h))
    go false o e f h later = rest (later h)

pub lacking_from : (own : List Sibling) (summary : Summarized) (xs : List Sibling) (d : Dot) → holds summary d ≡ true → is_some (content_at xs d) ≡ true → content_at own d ≡ None → lacks_content own (map (part_sibling summary) xs) ≡ true
lacking_from own summary xs d held some gone = elim (cases_Bool (lacks_content own (map (part_sibling summary) xs))) [
  | inl t ↦ t
  | inr none ↦ go (content_at xs d) refl some none
]
  where
    go : (o : Option Content) → content_at xs d ≡ o → is_some o ≡ true → lacks_content own (map (part_sibling summary) xs) ≡ false → lacks_content own (map (part_sibling summary) xs) ≡ true
    go None e s none = absurd (cc)
    go (Some c) e s none = absurd (let z : false ≡ true = sym (ap is_some gone) ∙ held_there own summary xs d c none held e in cc)

-- all that is held is left out
pub none_sent : (state : State) → contents_in (part_of state (summary_of state)) ≡ 0
none_sent state = all state.siblings (λ d h. h)
  where
    all : (xs : List Sibling) → ((d : Dot) → list_any (λ z. is_dot z d) (map (λ (s : Sibling). s.dot) xs) ≡ true → holds (summary_of state) d ≡ true) → length (filter (λ (s : PartSibling). is_some s.content) (map (part_sibling (summary_of state)) xs)) ≡ 0
    all [] within = refl
    all (x ∷ xs) within = rw (within x.dot (rw (is_dot-same x.dot x.dot refl) refl)) (all xs (λ d h. within d (more d h (is_dot x.dot d))))
      where
        more : (d : Dot) → list_any (λ z. is_dot z d) (map (λ (s : Sibling). s.dot) xs) ≡ true → (b : Bool) → (b || list_any (λ z. is_dot z d) (map (λ (s : Sibling). s.dot) xs)) ≡ true
        more d h true = refl
        more d h false = h
