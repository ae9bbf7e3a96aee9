-- A put and a merge keep what a state shows: the current writes and the context.
use Rattle.std.proofs.Common.{◌≡◌, ◌≢◌, Bool, true, false, cond, List, [], ◌∷◌, ◌++◌, Option, Some, None, refl, sym, ap, subst, ◌∙◌, inl, inr}
use Rattle.std.specs.Prelude.{Contains}
use Rattle.std.proofs.lemmas.Bool.{both_ways}
use Rattle.std.proofs.lemmas.List.Elements.{Contains-append_left, Contains-append_right, Contains-append_cases, Contains-push, Contains-push_cases}
use Rattle.dvv.specs.declared.Dot.{Dot}
use Rattle.dvv.specs.Clock.{Covers, covers, Within}
use Rattle.key_state.specs.declared.content.Content.{Content}
use Rattle.key_state.specs.State.{State, content_at, Puts, Merges, merged}
use Rattle.key_state.specs.Known.{Write, write_of, Saw, IsCurrent, InContext, Shows, AreUnique}
use Rattle.key_state.proofs.Siblings.{covers_true, covers_false, cases_dot}

-- a put that the clock covers, under a new identifier
pub shows_put : (known : List Write) (old new : State) (dot : Dot) (seen : List Dot) (content : Content) → Shows known old → (Covers old.clock dot → ⊥) → Within seen old.clock → Puts old new dot seen content → Shows (known ++ write_of dot content seen ∷ []) new
shows_put known old new dot seen content shows fresh within puts = record { siblings = λ d c. (to d c, from d c); clock = λ d. (clock_to d, clock_from d) }
  where
    unknown : (x : Write) → Contains known x → x.dot ≢ dot
    unknown x h e = fresh ((shows.clock dot).1 (x, h, inl e))

    unseen : (x : Write) → Contains known x → Saw x dot → ⊥
    unseen x h s = fresh ((shows.clock dot).1 (x, h, inr s))

    itself : IsCurrent (known ++ write_of dot content seen ∷ []) (write_of dot content seen)
    itself = record {
      is_known = Contains-push known (write_of dot content seen);
      unseen = λ x h ne s. elim (Contains-push_cases known (write_of dot content seen) x h) [
        | inl old_one ↦ unseen x old_one s
        | inr is ↦ ne (sym is)
      ];
    }

    to : (d : Dot) (c : Content) → content_at new.siblings d ≡ Some c → (x : Write) × IsCurrent (known ++ write_of dot content seen ∷ []) x × (x.dot ≡ d) × (x.content ≡ c)
    to d c h = elim (cases_dot d dot) [
      | inl same ↦ (write_of dot content seen, itself, sym same, cc (puts.added, h, ap (content_at new.siblings) same))
      | inr other ↦ go (covers seen d) refl (sym (puts.others d other) ∙ h)
    ]
      where
        go : (b : Bool) → covers seen d ≡ b → cond b None (content_at old.siblings d) ≡ Some c → (x : Write) × IsCurrent (known ++ write_of dot content seen ∷ []) x × (x.dot ≡ d) × (x.content ≡ c)
        go true e k = absurd (cc)
        go false e k = let x = (shows.siblings d c).0 k in (
          x.0,
          record {
            is_known = Contains-append_left known (write_of dot content seen ∷ []) x.0 x.1.is_known;
            unseen = λ y hy ne s. elim (Contains-push_cases known (write_of dot content seen) y hy) [
              | inl old_one ↦ x.1.unseen y old_one ne s
              | inr is ↦ both_ways (covers seen d) e (subst (λ (z : Dot). covers seen z ≡ true) x.2 (subst (λ (z : Write). Saw z x.0.dot) (sym is) s))
            ];
          },
          x.2,
          x.3,
        )

    from : (d : Dot) (c : Content) → (x : Write) × IsCurrent (known ++ write_of dot content seen ∷ []) x × (x.dot ≡ d) × (x.content ≡ c) → content_at new.siblings d ≡ Some c
    from d c (x, current, is_dot, is_content) = elim (Contains-push_cases known (write_of dot content seen) x current.is_known) [
      | inl old_one ↦ let other : d ≢ dot = λ e. unknown x old_one (is_dot ∙ e) in
          puts.others d other ∙ go other (covers seen d) refl ((shows.siblings d c).1 (x, record { is_known = old_one; unseen = λ y hy ne s. current.unseen y (Contains-append_left known (write_of dot content seen ∷ []) y hy) ne s }, is_dot, is_content))
      | inr is ↦ ap (content_at new.siblings) (sym is_dot ∙ ap (λ (y : Write). y.dot) (sym is)) ∙ puts.added ∙ ap Some (ap (λ (y : Write). y.content) is ∙ is_content)
    ]
      where
        go : d ≢ dot → (b : Bool) → covers seen d ≡ b → content_at old.siblings d ≡ Some c → cond b None (content_at old.siblings d) ≡ Some c
        go other true e k = absurd (current.unseen (write_of dot content seen) (Contains-push known (write_of dot content seen)) (λ is. other (sym is_dot ∙ ap (λ (y : Write). y.dot) (sym is))) (ap (covers seen) is_dot ∙ e))
        go other false e k = k

    clock_to : (d : Dot) → Covers new.clock d → InContext (known ++ write_of dot content seen ∷ []) d
    clock_to d h = elim ((puts.clock d).0 h) [
      | inl old_one ↦ let x = (shows.clock d).0 old_one in (x.0, Contains-append_left known (write_of dot content seen ∷ []) x.0 x.1, x.2)
      | inr is ↦ (write_of dot content seen, Contains-push known (write_of dot content seen), inl (sym is))
    ]

    clock_from : (d : Dot) → InContext (known ++ write_of dot content seen ∷ []) d → Covers new.clock d
    clock_from d (x, h, why) = (puts.clock d).1 (elim (Contains-push_cases known (write_of dot content seen) x h) [
      | inl old_one ↦ inl ((shows.clock d).1 (x, old_one, why))
      | inr is ↦ elim why [
        | inl is_dot ↦ inr (sym is_dot ∙ ap (λ (y : Write). y.dot) (sym is))
        | inr saw ↦ inl (within d (covers_true seen d (subst (λ (y : Write). Saw y d) (sym is) saw)))
      ]
    ])

-- what is merged at a dot, by cases on both sides
both_hold : (own other : Content) (a b : Bool) (c : Content) → merged (Some own) (Some other) a b ≡ Some c → own ≡ c
both_hold own other a b c h = cc

own_holds : (own : Content) (a b : Bool) (c : Content) → merged (Some own) None a b ≡ Some c → (b ≡ false) × (own ≡ c)
own_holds own a true c h = absurd (cc)
own_holds own a false c h = (refl, cc)

other_holds : (other : Content) (a b : Bool) (c : Content) → merged None (Some other) a b ≡ Some c → (a ≡ false) × (other ≡ c)
other_holds other true b c h = absurd (cc)
other_holds other false b c h = (refl, cc)

-- a merge of what two states show, where no identifier stands for two writes
pub shows_merge : (mine theirs : List Write) (own other new : State) → Shows mine own → Shows theirs other → AreUnique (mine ++ theirs) → Merges own other new → Shows (mine ++ theirs) new
shows_merge mine theirs own other new shows_own shows_other unique merges = record { siblings = λ d c. (to d c, from d c); clock = λ d. (clock_to d, clock_from d) }
  where
    left : (x : Write) → Contains mine x → Contains (mine ++ theirs) x
    left x h = Contains-append_left mine theirs x h

    right : (x : Write) → Contains theirs x → Contains (mine ++ theirs) x
    right x h = Contains-append_right mine theirs x h

    Shown : Dot → Content → Type 0
    Shown d c = (x : Write) × IsCurrent (mine ++ theirs) x × (x.dot ≡ d) × (x.content ≡ c)

    -- a write that is current on both sides, or on one and not covered on the other, is current
    current : (x : Write) → Contains (mine ++ theirs) x → ((y : Write) → Contains mine y → y ≢ x → Saw y x.dot → ⊥) → ((y : Write) → Contains theirs y → y ≢ x → Saw y x.dot → ⊥) → IsCurrent (mine ++ theirs) x
    current x h no_mine no_theirs = record { is_known = h; unseen = λ y hy ne s. elim (Contains-append_cases mine theirs y hy) [ inl m ↦ no_mine y m ne s | inr t ↦ no_theirs y t ne s ] }

    unseen_mine : (x : Write) (d : Dot) → (Covers own.clock d → ⊥) → (y : Write) → Contains mine y → y ≢ x → Saw y d → ⊥
    unseen_mine x d free y h ne s = free ((shows_own.clock d).1 (y, h, inr s))

    unseen_theirs : (x : Write) (d : Dot) → (Covers other.clock d → ⊥) → (y : Write) → Contains theirs y → y ≢ x → Saw y d → ⊥
    unseen_theirs x d free y h ne s = free ((shows_other.clock d).1 (y, h, inr s))

    to : (d : Dot) (c : Content) → content_at new.siblings d ≡ Some c → Shown d c
    to d c h = go (content_at own.siblings d) (content_at other.siblings d) refl refl (sym (merges.siblings d) ∙ h)
      where
        go : (a b : Option Content) → content_at own.siblings d ≡ a → content_at other.siblings d ≡ b → merged a b (covers own.clock d) (covers other.clock d) ≡ Some c → Shown d c
        go (Some p) (Some q) ea eb k =
            let x = (shows_own.siblings d p).0 ea in
            let y = (shows_other.siblings d q).0 eb in
            let same : x.0.dot ≡ y.0.dot = x.2 ∙ sym y.2 in
            let one : x.0 ≡ y.0 = unique x.0 y.0 (left x.0 x.1.is_known) (right y.0 y.1.is_known) same in
            (x.0, current x.0 (left x.0 x.1.is_known) x.1.unseen (λ z hz ne s. y.1.unseen z hz (λ is. ne (is ∙ sym one)) (subst (λ (e : Dot). Saw z e) same s)), x.2, x.3 ∙ both_hold p q (covers own.clock d) (covers other.clock d) c k)
        go (Some p) None ea eb k =
            let x = (shows_own.siblings d p).0 ea in
            let r = own_holds p (covers own.clock d) (covers other.clock d) c k in
            (x.0, current x.0 (left x.0 x.1.is_known) x.1.unseen (unseen_theirs x.0 x.0.dot (λ h. covers_false other.clock d r.0 (subst (Covers other.clock) x.2 h))), x.2, x.3 ∙ r.1)
        go None (Some q) ea eb k =
            let y = (shows_other.siblings d q).0 eb in
            let r = other_holds q (covers own.clock d) (covers other.clock d) c k in
            (y.0, current y.0 (right y.0 y.1.is_known) (unseen_mine y.0 y.0.dot (λ h. covers_false own.clock d r.0 (subst (Covers own.clock) y.2 h))) y.1.unseen, y.2, y.3 ∙ r.1)
        go None None ea eb k = absurd (cc)

    -- the write of a dot, where a side holds it
    own_is : (x : Write) → Contains (mine ++ theirs) x → (p : Content) → content_at own.siblings x.dot ≡ Some p → x.content ≡ p
    own_is x h p e = let y = (shows_own.siblings x.dot p).0 e in ap (λ (z : Write). z.content) (unique x y.0 h (left y.0 y.1.is_known) (sym y.2)) ∙ y.3

    other_is : (x : Write) → Contains (mine ++ theirs) x → (q : Content) → content_at other.siblings x.dot ≡ Some q → x.content ≡ q
    other_is x h q e = let y = (shows_other.siblings x.dot q).0 e in ap (λ (z : Write). z.content) (unique x y.0 h (right y.0 y.1.is_known) (sym y.2)) ∙ y.3

    -- a current write that a side knows is held by that side
    own_knows : (x : Write) → IsCurrent (mine ++ theirs) x → (y : Write) → Contains mine y → y.dot ≡ x.dot → content_at own.siblings x.dot ≡ Some x.content
    own_knows x cur y h is = let e : y ≡ x = unique y x (left y h) cur.is_known is in
        (shows_own.siblings x.dot x.content).1 (x, record { is_known = subst (Contains mine) e h; unseen = λ z hz ne s. cur.unseen z (left z hz) ne s }, refl, refl)

    other_knows : (x : Write) → IsCurrent (mine ++ theirs) x → (y : Write) → Contains theirs y → y.dot ≡ x.dot → content_at other.siblings x.dot ≡ Some x.content
    other_knows x cur y h is = let e : y ≡ x = unique y x (right y h) cur.is_known is in
        (shows_other.siblings x.dot x.content).1 (x, record { is_known = subst (Contains theirs) e h; unseen = λ z hz ne s. cur.unseen z (right z hz) ne s }, refl, refl)

    -- so is one that a side covers
    own_held : (x : Write) → IsCurrent (mine ++ theirs) x → Covers own.clock x.dot → content_at own.siblings x.dot ≡ Some x.content
    own_held x cur h = let y = (shows_own.clock x.dot).0 h in elim y.2 [
      | inl is ↦ own_knows x cur y.0 y.1 is
      | inr saw ↦ elim (cases_dot y.0.dot x.dot) [
        | inl is ↦ own_knows x cur y.0 y.1 is
        | inr ne ↦ absurd (cur.unseen y.0 (left y.0 y.1) (λ e. ne (ap (λ (z : Write). z.dot) e)) saw)
      ]
    ]

    other_held : (x : Write) → IsCurrent (mine ++ theirs) x → Covers other.clock x.dot → content_at other.siblings x.dot ≡ Some x.content
    other_held x cur h = let y = (shows_other.clock x.dot).0 h in elim y.2 [
      | inl is ↦ other_knows x cur y.0 y.1 is
      | inr saw ↦ elim (cases_dot y.0.dot x.dot) [
        | inl is ↦ other_knows x cur y.0 y.1 is
        | inr ne ↦ absurd (cur.unseen y.0 (right y.0 y.1) (λ e. ne (ap (λ (z : Write). z.dot) e)) saw)
      ]
    ]

    from : (d : Dot) (c : Content) → Shown d c → content_at new.siblings d ≡ Some c
    from d c (x, cur, dot, content) = ap (content_at new.siblings) (sym dot) ∙ (merges.siblings x.dot ∙ go (content_at own.siblings x.dot) (content_at other.siblings x.dot) (covers own.clock x.dot) (covers other.clock x.dot) refl refl refl refl) ∙ ap Some content
      where
        go : (a b : Option Content) (p q : Bool) → content_at own.siblings x.dot ≡ a → content_at other.siblings x.dot ≡ b → covers own.clock x.dot ≡ p → covers other.clock x.dot ≡ q → merged a b p q ≡ Some x.content
        go (Some u) (Some v) p q ea eb ep eq = ap Some (sym (own_is x cur.is_known u ea))
        go (Some u) None p true ea eb ep eq = absurd (let h = other_held x cur (covers_true other.clock x.dot eq) in cc)
        go (Some u) None p false ea eb ep eq = ap Some (sym (own_is x cur.is_known u ea))
        go None (Some v) true q ea eb ep eq = absurd (let h = own_held x cur (covers_true own.clock x.dot ep) in cc)
        go None (Some v) false q ea eb ep eq = ap Some (sym (other_is x cur.is_known v eb))
        go None None p q ea eb ep eq = absurd (elim (Contains-append_cases mine theirs x cur.is_known) [
          | inl m ↦ let h = own_held x cur ((shows_own.clock x.dot).1 (x, m, inl refl)) in cc
          | inr t ↦ let h = other_held x cur ((shows_other.clock x.dot).1 (x, t, inl refl)) in cc
        ])

    clock_to : (d : Dot) → Covers new.clock d → InContext (mine ++ theirs) d
    clock_to d h = elim ((merges.clock d).0 h) [
      | inl m ↦ let x = (shows_own.clock d).0 m in (x.0, left x.0 x.1, x.2)
      | inr t ↦ let x = (shows_other.clock d).0 t in (x.0, right x.0 x.1, x.2)
    ]

    clock_from : (d : Dot) → InContext (mine ++ theirs) d → Covers new.clock d
    clock_from d (x, h, why) = (merges.clock d).1 (elim (Contains-append_cases mine theirs x h) [
      | inl m ↦ inl ((shows_own.clock d).1 (x, m, why))
      | inr t ↦ inr ((shows_other.clock d).1 (x, t, why))
    ])
