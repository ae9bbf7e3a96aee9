-- Two states of one key in one world are told by their dots and clocks.
use Rattle.std.proofs.Common.{◌≡◌, ◌++◌, Bool, true, false, cond, List, [], ◌∷◌, Option, Some, None, refl, sym, ap, subst, ◌∙◌}
use Rattle.std.specs.Prelude.{is_some, map}
use Rattle.std.proofs.lemmas.List.Elements.{Contains-append_left, Contains-append_right}
use Rattle.dvv.specs.declared.Dot.{Dot}
use Rattle.dvv.specs.Clock.{Covers}
use Rattle.key_state.specs.declared.content.Content.{Content}
use Rattle.key_state.specs.declared.content.Sibling.{Sibling}
use Rattle.key_state.specs.State.{State, content_at, is_dot, IsState, HaveSameDots}
use Rattle.key_state.specs.Known.{Write, Shows, AreUnique}
use Rattle.key_state.proofs.Same.{same_state}

pub same_in_world : (mine theirs : List Write) (a b : State) → IsState a → IsState b → Shows mine a → Shows theirs b → AreUnique (mine ++ theirs) → HaveSameDots a b → a ≡ b
same_in_world mine theirs a b sa sb shows_a shows_b unique same = same_state a b sa sb (λ d. go d (content_at a.siblings d) (content_at b.siblings d) refl refl (same.held d)) same.known
  where
    go : (d : Dot) (x y : Option Content) → content_at a.siblings d ≡ x → content_at b.siblings d ≡ y → is_some (content_at a.siblings d) ≡ is_some (content_at b.siblings d) → content_at a.siblings d ≡ content_at b.siblings d
    go d (Some u) (Some v) ex ey e =
        let m = (shows_a.siblings d u).0 ex in
        let t = (shows_b.siblings d v).0 ey in
        let one : m.0 ≡ t.0 = unique m.0 t.0 (Contains-append_left mine theirs m.0 m.1.is_known) (Contains-append_right mine theirs t.0 t.1.is_known) (m.2 ∙ sym t.2) in
        ex ∙ ap Some (sym m.3 ∙ ap (λ (w : Write). w.content) one ∙ t.3) ∙ sym ey
    go d None None ex ey e = ex ∙ sym ey
    go d (Some u) None ex ey e = absurd (let z : is_some (Some u) ≡ is_some (let o : Option Content = None in o) = sym (ap is_some ex) ∙ e ∙ ap is_some ey in cc)
    go d None (Some v) ex ey e = absurd (let z : is_some (let o : Option Content = None in o) ≡ is_some (Some v) = sym (ap is_some ex) ∙ e ∙ ap is_some ey in cc)

-- lists of siblings with equal dots hold the same dots
held_alike : (xs ys : List Sibling) → map (λ (s : Sibling). s.dot) xs ≡ map (λ (s : Sibling). s.dot) ys → (d : Dot) → is_some (content_at xs d) ≡ is_some (content_at ys d)
held_alike [] [] e d = refl
held_alike [] (y ∷ ys) e d = absurd (cc)
held_alike (x ∷ xs) [] e d = absurd (cc)
held_alike (x ∷ xs) (y ∷ ys) e d =
    let dot : x.dot ≡ y.dot = cc in
    let rest : map (λ (s : Sibling). s.dot) xs ≡ map (λ (s : Sibling). s.dot) ys = cc in
    go (is_dot x.dot d) (is_dot y.dot d) (ap (λ (z : Dot). is_dot z d) dot) (held_alike xs ys rest d)
  where
    go : (p q : Bool) → p ≡ q → is_some (content_at xs d) ≡ is_some (content_at ys d) → is_some (cond p (Some x.content) (content_at xs d)) ≡ is_some (cond q (Some y.content) (content_at ys d))
    go true true same more = refl
    go false false same more = more
    go true false same more = absurd (cc)
    go false true same more = absurd (cc)

pub same_in_lists : (mine theirs : List Write) (a b : State) → IsState a → IsState b → Shows mine a → Shows theirs b → AreUnique (mine ++ theirs) → map (λ (s : Sibling). s.dot) a.siblings ≡ map (λ (s : Sibling). s.dot) b.siblings → a.clock ≡ b.clock → a ≡ b
same_in_lists mine theirs a b sa sb shows_a shows_b unique dots clocks = same_in_world mine theirs a b sa sb shows_a shows_b unique (record {
  held = held_alike a.siblings b.siblings dots;
  known = λ d. (λ h. subst (λ (c : List Dot). Covers c d) clocks h, λ h. subst (λ (c : List Dot). Covers c d) (sym clocks) h);
})
