-- What a journal leaves at a key, and the writes that its entries brought.
use Rattle.std.proofs.Common.{◌≡◌, ℕ, ◌⊎◌, ◌||◌, Bool, true, false, cond, List, [], ◌∷◌, refl, sym, ap, subst, ◌∙◌, inl, inr, Option, Some, None}
use Rattle.std.specs.Prelude.{Contains}
use Rattle.std.specs.List.{list_any}
use Rattle.std.specs.Option.{option_or}
use Rattle.std.proofs.lemmas.Bool.{cases_Bool, and_parts, and_from, eq-eqb, eqb-true, both_ways}
use Rattle.dvv.specs.declared.Dot.{Dot}
use Rattle.dvv.specs.Clock.{covers}
use Rattle.key_state.specs.declared.content.Content.{Content}
use Rattle.key_state.specs.declared.content.Key.{Key}
use Rattle.key_state.specs.State.{State, is_dot, content_at}
use Rattle.key_state.specs.Known.{Write, IsCurrent, InContext, AreUnique}
use Rattle.journal.specs.Entry.{Entry}
use Rattle.journal.specs.Replay.{IsReplay}
use Rattle.journal.specs.Journals.{IsJournal}
use Rattle.key_state.specs.Known.{NoneSawItself, ShowsKnown, seen_among, written_among, current_among, context_of}
use Rattle.journal.specs.Brought.{BringsAll}
use Rattle.journal.proofs.BroughtLemmas.{siblings_current, context_known}
use Rattle.world.specs.Knowledge.{IsStateOf}
use Rattle.world.specs.Represents.{ShowsAt}
use Rattle.world.proofs.Lists.{covers-true, covers-same, Contains-nil, Contains-first, Contains-later, Contains-cases}

same_dots : (a b : Dot) → a.vnode ≡ b.vnode → a.n ≡ b.n → a ≡ b
same_dots a b v n = ap (λ (x : ℕ). let d : Dot = record { vnode = x; n = a.n } in d) v ∙ ap (λ (x : ℕ). let d : Dot = record { vnode = b.vnode; n = x } in d) n

pub is_dot-true : (a b : Dot) → is_dot a b ≡ true → a ≡ b
is_dot-true a b t = let p = and_parts _ _ t in same_dots a b (eqb-true _ _ p.0) (eqb-true _ _ p.1)

pub is_dot-same : (a b : Dot) → a ≡ b → is_dot a b ≡ true
is_dot-same a b e = and_from _ _ (eq-eqb _ _ (ap (λ (d : Dot). d.vnode) e)) (eq-eqb _ _ (ap (λ (d : Dot). d.n) e))

-- some element passes a test
any_holds : {X : Type 0} (test : X → Bool) (xs : List X) → list_any test xs ≡ true → (x : X) × Contains xs x × (test x ≡ true)
any_holds {X = X} test [] t = absurd (cc)
any_holds {X = X} test (x ∷ xs) t = go (any_holds test xs) (test x) refl t
  where
    go : (list_any test xs ≡ true → (y : X) × Contains xs y × (test y ≡ true)) → (b : Bool) → test x ≡ b → (b || list_any test xs) ≡ true → (y : X) × Contains (x ∷ xs) y × (test y ≡ true)
    go further true e h = (x, Contains-first x xs, e)
    go further false e h = let r = further h in (r.0, Contains-later x xs r.0 r.1, r.2)

any_from : {X : Type 0} (test : X → Bool) (xs : List X) (x : X) → Contains xs x → test x ≡ true → list_any test xs ≡ true
any_from test [] x c t = absurd (Contains-nil x c)
any_from test (y ∷ ys) x c t = elim (Contains-cases y ys x c) [
  | inl is ↦ rw (ap test is ∙ t) refl
  | inr rest ↦ rw (any_from test ys x rest t) (or-true (test y))
]
  where
    or-true : (b : Bool) → (b || true) ≡ true
    or-true true = refl
    or-true false = refl

-- what has an identifier among the writes
written_from : (known : List Write) (d : Dot) (content : Content) → written_among known d ≡ Some content → (w : Write) × Contains known w × (w.dot ≡ d) × (w.content ≡ content)
written_from [] d content e = absurd (cc)
written_from (w ∷ known) d content e = go (written_from known d content) (is_dot w.dot d) refl e
  where
    go : (written_among known d ≡ Some content → (x : Write) × Contains known x × (x.dot ≡ d) × (x.content ≡ content)) → (b : Bool) → is_dot w.dot d ≡ b → option_or (cond b (Some w.content) None) (written_among known d) ≡ Some content → (x : Write) × Contains (w ∷ known) x × (x.dot ≡ d) × (x.content ≡ content)
    go further true t h = (w, Contains-first w known, is_dot-true w.dot d t, cc)
    go further false t h = let r = further h in (r.0, Contains-later w known r.0 r.1, r.2, r.3)

written_has : (known : List Write) (w : Write) → Contains known w → (content : Content) × (written_among known w.dot ≡ Some content)
written_has [] w c = absurd (Contains-nil w c)
written_has (x ∷ known) w c = go (is_dot x.dot w.dot) refl (Contains-cases x known w c) (λ h. written_has known w h)
  where
    go : (b : Bool) → is_dot x.dot w.dot ≡ b → (x ≡ w) ⊎ Contains known w → (Contains known w → (content : Content) × (written_among known w.dot ≡ Some content)) → (content : Content) × (option_or (cond b (Some x.content) None) (written_among known w.dot) ≡ Some content)
    go true t at further = (x.content, refl)
    go false t (inl is) further = absurd (both_ways _ t (is_dot-same x.dot w.dot (ap (λ (y : Write). y.dot) is)))
    go false t (inr rest) further = further rest

-- the current write of an identifier
current_from : (known : List Write) (d : Dot) (content : Content) → current_among known d ≡ Some content → (w : Write) × IsCurrent known w × (w.dot ≡ d) × (w.content ≡ content)
current_from known d content e = go (seen_among known d) refl e
  where
    go : (b : Bool) → seen_among known d ≡ b → cond b None (written_among known d) ≡ Some content → (w : Write) × IsCurrent known w × (w.dot ≡ d) × (w.content ≡ content)
    go true s h = absurd (cc)
    go false s h =
        let r = written_from known d content h in
        (r.0, record { is_known = r.1; unseen = λ other c apart saw. both_ways _ s (any_from (λ (x : Write). x.seen d) known other c (subst (λ (x : Dot). other.seen x ≡ true) r.2 saw)) }, r.2, r.3)

current_is : (known : List Write) → AreUnique known → NoneSawItself known → (w : Write) → IsCurrent known w → current_among known w.dot ≡ Some w.content
current_is known unique none w current = go (seen_among known w.dot) refl
  where
    seen_by : (other : Write) → Contains known other → other.seen w.dot ≡ true → ⊥
    seen_by other c saw = elim (cases_Bool (is_dot other.dot w.dot)) [
      | inl same ↦ let is = unique other w c current.is_known (is_dot-true other.dot w.dot same) in none w current.is_known (subst (λ (x : Write). x.seen w.dot ≡ true) is saw)
      | inr apart ↦ current.unseen other c (λ is. both_ways _ apart (is_dot-same other.dot w.dot (ap (λ (x : Write). x.dot) is))) saw
    ]

    go : (b : Bool) → seen_among known w.dot ≡ b → cond b None (written_among known w.dot) ≡ Some w.content
    go true s = let r = any_holds (λ (x : Write). x.seen w.dot) known s in absurd (seen_by r.0 r.1 r.2)
    go false s =
        let r = written_has known w current.is_known in
        let f = written_from known w.dot r.0 r.1 in
        r.1 ∙ ap (λ (x : Content). Some x) (sym f.3) ∙ ap (λ (x : Write). Some x.content) (unique f.0 w f.1 current.is_known f.2)

-- the context, as a test
context_from : (known : List Write) (d : Dot) → context_of known d ≡ true → InContext known d
context_from known d t = go (list_any (λ (w : Write). is_dot w.dot d) known) refl t
  where
    go : (b : Bool) → list_any (λ (w : Write). is_dot w.dot d) known ≡ b → (b || seen_among known d) ≡ true → InContext known d
    go true e h = let r = any_holds (λ (w : Write). is_dot w.dot d) known e in (r.0, r.1, inl (is_dot-true r.0.dot d r.2))
    go false e h = let r = any_holds (λ (w : Write). w.seen d) known h in (r.0, r.1, inr r.2)

context_is : (known : List Write) (d : Dot) → InContext known d → context_of known d ≡ true
context_is known d (w, c, inl is) = rw (any_from (λ (x : Write). is_dot x.dot d) known w c (is_dot-same w.dot d is)) refl
context_is known d (w, c, inr saw) = rw (any_from (λ (x : Write). x.seen d) known w c saw) (or-true (list_any (λ (x : Write). is_dot x.dot d) known))
  where
    or-true : (b : Bool) → (b || true) ≡ true
    or-true true = refl
    or-true false = refl

-- what a journal leaves at a key is what is current among the writes that it brought, and their context
pub shows_at : (id : ℕ) (journal : List Entry) (key : Key) (known : List Write) → IsJournal id journal → BringsAll key journal known → AreUnique known → NoneSawItself known → ShowsAt journal key known
shows_at id journal key known legal brings unique none = record {
  siblings = λ d content. (
    λ h. current_from known d content (sym (siblings_current key journal known brings d) ∙ h),
    λ h. siblings_current key journal known brings d ∙ subst (λ (x : Dot). current_among known x ≡ Some content) h.2 (current_is known unique none h.0 h.1 ∙ ap (λ (c : Content). Some c) h.3),
  );
  clock = λ d. (
    λ h. context_from known d (sym (context_known id key journal known legal brings d) ∙ h),
    λ h. context_known id key journal known legal brings d ∙ context_is known d h,
  );
}

-- so the state that it leaves is theirs
pub replay_is : (journal : List Entry) (key : Key) (known : List Write) (state : State) → ShowsAt journal key known → IsReplay journal key state → IsStateOf known state
replay_is journal key known state at replay = record {
  in_order = replay.is_state.in_order;
  clock = replay.is_state.clock;
  shows = record {
    siblings = λ d content. (
      λ h. (at.siblings d content).0 (sym (replay.siblings d) ∙ h),
      λ h. replay.siblings d ∙ (at.siblings d content).1 h,
    );
    clock = λ d. (
      λ h. (at.clock d).0 (sym (replay.clock d) ∙ covers-same state.clock d h),
      λ h. covers-true state.clock d (replay.clock d ∙ (at.clock d).1 h),
    );
  };
}

-- options and tests that tell the same are the same
pub same_options : {X : Type 0} (o p : Option X) → ((x : X) → o ≡ Some x → p ≡ Some x) → ((x : X) → p ≡ Some x → o ≡ Some x) → o ≡ p
same_options None None f g = refl
same_options None (Some y) f g = g y refl
same_options (Some x) p f g = sym (f x refl)

pub same_tests : (a b : Bool) → (a ≡ true → b ≡ true) → (b ≡ true → a ≡ true) → a ≡ b
same_tests true b f g = sym (f refl)
same_tests false true f g = g refl
same_tests false false f g = refl

-- a state of some writes shows them
pub shows_known : (known : List Write) (state : State) → AreUnique known → NoneSawItself known → IsStateOf known state → ShowsKnown state known
shows_known known state unique none is = record {
  siblings = λ d. same_options (content_at state.siblings d) (current_among known d)
      (λ c h. let r = (is.shows.siblings d c).0 h in subst (λ (x : Dot). current_among known x ≡ Some c) r.2 (current_is known unique none r.0 r.1 ∙ ap (λ (x : Content). Some x) r.3))
      (λ c h. (is.shows.siblings d c).1 (current_from known d c h));
  clock = λ d. same_tests (covers state.clock d) (context_of known d)
      (λ h. context_is known d ((is.shows.clock d).0 (covers-true state.clock d h)))
      (λ h. covers-same state.clock d ((is.shows.clock d).1 (context_from known d h)));
}
