-- Current writes and contexts: told by sets of writes, and computed dot by dot.
use Rattle.std.proofs.Common.{◌≡◌, ◌⊎◌, ◌↔◌, Bool, true, false, cond, List, [], ◌∷◌, Option, Some, None, refl, sym, ap, subst, ◌∙◌, inl, inr, arith}
use Rattle.std.specs.Prelude.{Contains}
use Rattle.std.specs.List.{list_any}
use Rattle.std.specs.Option.{option_or}
use Rattle.std.proofs.lemmas.Bool.{both_ways, or_cases, or_left, or_right, false_from_ne_true}
use Rattle.std.proofs.lemmas.List.Elements.{Contains-append_left, Contains-append_right, Contains-append_cases, Contains-push, Contains-push_cases}
use Rattle.dvv.specs.declared.Dot.{Dot}
use Rattle.dvv.specs.Clock.{covers}
use Rattle.key_state.specs.declared.content.Content.{Content}
use Rattle.key_state.specs.State.{State, content_at, is_dot}
use Rattle.key_state.specs.Known.{Write, Saw, IsCurrent, InContext, Shows, AreUnique, NoneSawItself, seen_among, written_among, current_among, context_of, ShowsKnown}
use Rattle.key_state.proofs.Siblings.{covers_true, true_covers, cases_dot, is_dot-true, is_dot-same}

contains_cases : (x : Write) (xs : List Write) (y : Write) → Contains (x ∷ xs) y → (x ≡ y) ⊎ Contains xs y
contains_cases x xs y h = elim (Contains-append_cases (x ∷ []) xs y h) [
  | inl a ↦ elim (Contains-push_cases [] x y a) [ inl none ↦ absurd (omega (arith, none.1)) | inr is ↦ inl is ]
  | inr b ↦ inr b
]

contains_first : (x : Write) (xs : List Write) → Contains (x ∷ xs) x
contains_first x xs = Contains-append_left (x ∷ []) xs x (Contains-push [] x)

contains_later : (x : Write) (xs : List Write) (y : Write) → Contains xs y → Contains (x ∷ xs) y
contains_later x xs y h = Contains-append_right (x ∷ []) xs y h

-- a test that some known write passes
any_to : (p : Write → Bool) (known : List Write) → list_any p known ≡ true → (w : Write) × Contains known w × (p w ≡ true)
any_to p [] t = absurd (cc)
any_to p (x ∷ xs) t = elim (or_cases (p x) (list_any p xs) t) [
  | inl here ↦ (x, contains_first x xs, here)
  | inr later ↦ let r = any_to p xs later in (r.0, contains_later x xs r.0 r.1, r.2)
]

any_from : (p : Write → Bool) (known : List Write) (w : Write) → Contains known w → p w ≡ true → list_any p known ≡ true
any_from p [] w h t = absurd (omega (arith, h.1))
any_from p (x ∷ xs) w h t = elim (contains_cases x xs w h) [
  | inl is ↦ or_left (p x) (list_any p xs) (ap p is ∙ t)
  | inr later ↦ or_right (p x) (list_any p xs) (any_from p xs w later t)
]

-- the context
pub context_to : (known : List Write) (d : Dot) → context_of known d ≡ true → InContext known d
context_to known d t = elim (or_cases (list_any (λ w. is_dot w.dot d) known) (seen_among known d) t) [
  | inl is ↦ let r = any_to (λ w. is_dot w.dot d) known is in (r.0, r.1, inl (is_dot-true r.0.dot d r.2))
  | inr saw ↦ let r = any_to (λ w. w.seen d) known saw in (r.0, r.1, inr r.2)
]

pub context_from : (known : List Write) (d : Dot) → InContext known d → context_of known d ≡ true
context_from known d (w, h, inl is) = or_left (list_any (λ x. is_dot x.dot d) known) (seen_among known d) (any_from (λ x. is_dot x.dot d) known w h (is_dot-same w.dot d is))
context_from known d (w, h, inr saw) = or_right (list_any (λ x. is_dot x.dot d) known) (seen_among known d) (any_from (λ x. x.seen d) known w h saw)

-- the first write with an identifier
written_to : (known : List Write) (d : Dot) (c : Content) → written_among known d ≡ Some c → (w : Write) × Contains known w × (w.dot ≡ d) × (w.content ≡ c)
written_to [] d c e = absurd (cc)
written_to (x ∷ xs) d c e = go (λ k. written_to xs d c k) (is_dot x.dot d) refl e
  where
    go : (written_among xs d ≡ Some c → (w : Write) × Contains xs w × (w.dot ≡ d) × (w.content ≡ c)) → (b : Bool) → is_dot x.dot d ≡ b → option_or (cond b (Some x.content) None) (written_among xs d) ≡ Some c → (w : Write) × Contains (x ∷ xs) w × (w.dot ≡ d) × (w.content ≡ c)
    go later true f k = (x, contains_first x xs, is_dot-true x.dot d f, cc)
    go later false f k = let r = later k in (r.0, contains_later x xs r.0 r.1, r.2, r.3)

written_from : (known : List Write) (w : Write) → Contains known w → (c : Content) × (written_among known w.dot ≡ Some c)
written_from [] w h = absurd (omega (arith, h.1))
written_from (x ∷ xs) w h = go (λ k. written_from xs w k) (is_dot x.dot w.dot) refl (contains_cases x xs w h)
  where
    go : (Contains xs w → (c : Content) × (written_among xs w.dot ≡ Some c)) → (b : Bool) → is_dot x.dot w.dot ≡ b → (x ≡ w) ⊎ Contains xs w → (c : Content) × (option_or (cond b (Some x.content) None) (written_among xs w.dot) ≡ Some c)
    go rest true f k = (x.content, refl)
    go rest false f (inl is) = absurd (both_ways (is_dot x.dot w.dot) f (is_dot-same x.dot w.dot (ap (λ (y : Write). y.dot) is)))
    go rest false f (inr later) = rest later

-- the current write with an identifier
pub current_to : (known : List Write) (d : Dot) (c : Content) → current_among known d ≡ Some c → (w : Write) × IsCurrent known w × (w.dot ≡ d) × (w.content ≡ c)
current_to known d c e = go (seen_among known d) refl e
  where
    go : (b : Bool) → seen_among known d ≡ b → cond b None (written_among known d) ≡ Some c → (w : Write) × IsCurrent known w × (w.dot ≡ d) × (w.content ≡ c)
    go true f k = absurd (cc)
    go false f k = let r = written_to known d c k in (
      r.0,
      record {
        is_known = r.1;
        unseen = λ other h ne s. both_ways (seen_among known d) f (any_from (λ x. x.seen d) known other h (subst (λ (z : Dot). Saw other z) r.2 s));
      },
      r.2,
      r.3,
    )

pub current_from : (known : List Write) (d : Dot) (c : Content) → AreUnique known → NoneSawItself known → (w : Write) × IsCurrent known w × (w.dot ≡ d) × (w.content ≡ c) → current_among known d ≡ Some c
current_from known d c unique none (w, cur, is, content) =
    let f : seen_among known d ≡ false = false_from_ne_true (seen_among known d) (λ t. seen_by (any_to (λ x. x.seen d) known t)) in
    let r = written_from known w cur.is_known in
    let found : written_among known d ≡ Some r.0 = ap (written_among known) (sym is) ∙ r.1 in
    let x = written_to known d r.0 found in
    let one : x.0 ≡ w = unique x.0 w x.1 cur.is_known (x.2 ∙ sym is) in
    rw f (found ∙ ap Some (sym x.3 ∙ ap (λ (y : Write). y.content) one ∙ content))
  where
    seen_by : (x : Write) × Contains known x × (x.seen d ≡ true) → ⊥
    seen_by (x, h, saw) = let s : Saw x w.dot = subst (λ (z : Dot). Saw x z) (sym is) saw in elim (cases_dot x.dot w.dot) [
      | inl same ↦ none x h (subst (λ (z : Dot). Saw x z) (sym same) s)
      | inr ne ↦ cur.unseen x h (λ e. ne (ap (λ (y : Write). y.dot) e)) s
    ]

-- two options of one content are one
same_option : (a b : Option Content) → ((c : Content) → (a ≡ Some c) ↔ (b ≡ Some c)) → a ≡ b
same_option None None same = refl
same_option None (Some y) same = (same y).1 refl
same_option (Some x) b same = sym ((same x).0 refl)

same_test : (a b : Bool) → ((a ≡ true) ↔ (b ≡ true)) → a ≡ b
same_test true b same = sym (same.0 refl)
same_test false true same = same.1 refl
same_test false false same = refl

pub shows_to : (known : List Write) (state : State) → AreUnique known → NoneSawItself known → Shows known state → ShowsKnown state known
shows_to known state unique none shows = record {
  siblings = λ d. same_option (content_at state.siblings d) (current_among known d) (λ c. (λ h. current_from known d c unique none ((shows.siblings d c).0 h), λ h. (shows.siblings d c).1 (current_to known d c h)));
  clock = λ d. same_test (covers state.clock d) (context_of known d) (λ t. context_from known d ((shows.clock d).0 (covers_true state.clock d t)), λ t. true_covers state.clock d ((shows.clock d).1 (context_to known d t)));
}

pub shows_from : (known : List Write) (state : State) → AreUnique known → NoneSawItself known → ShowsKnown state known → Shows known state
shows_from known state unique none shows = record {
  siblings = λ d c. (λ h. current_to known d c (sym (shows.siblings d) ∙ h), λ h. shows.siblings d ∙ current_from known d c unique none h);
  clock = λ d. (λ h. context_to known d (sym (shows.clock d) ∙ true_covers state.clock d h), λ h. covers_true state.clock d (shows.clock d ∙ context_from known d h));
}
