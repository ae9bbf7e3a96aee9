-- One entry more with the next stamp.
use Rattle.std.proofs.Common.{◌≡◌, ℕ, zero, suc, ◌+◌, ◌<◌, ◌⊎◌, List, [], ◌∷◌, length, get_or, refl, sym, ap, subst, ◌∙◌, inl, inr, arith, length-append}
use Rattle.std.specs.Prelude.{Contains, slice_set}
use Rattle.std.proofs.lemmas.List.{get_or_default}
use Rattle.std.proofs.lemmas.List.Elements.{Contains-push_cases}
use Rattle.std.proofs.lemmas.List.Sums.{sum_by-set}
use Rattle.journal.specs.Entry.{Entry}
use Rattle.journal.specs.Logs.{Log, with_entry}
use Rattle.journal.specs.Stamps.{stamp_of}
use Rattle.world.specs.Causality.{EachAfter}
use Rattle.world.specs.Represents.{log_at, with_entry_at, empty_logs}
use Rattle.world.specs.Stamped.{AreStamped, IsLater, entries_of}
use Rattle.world.proofs.Lists.{Contains-nil, EachAfter-push, set_cases}

pub stamped_more : (logs new : List Log) (made at : ℕ) (e : Entry) → at < length logs → new ≡ with_entry_at logs at e → stamp_of e ≡ made → AreStamped logs made → AreStamped new (made + 1)
stamped_more logs new made at e inside is stamp h = subst (λ (ls : List Log). AreStamped ls (made + 1)) (sym is) (record {
  count = let s = sum_by-set (λ (l : Log). length l.entries) logs at (with_entry (log_at logs at) e) none inside in let n = length-append (log_at logs at).entries (e ∷ []) in let c = h.count in omega (arith, s, n, c);
  below = λ v x c. elim (stands v x c) [ inl old ↦ let b = h.below v x old in omega (arith, b) | inr last ↦ let b = stamp_is x last.1 in omega (arith, b) ];
  rise = λ v. elim (set_cases logs at v (with_entry (log_at logs at) e) none) [
    | inl same ↦ subst (λ (l : Log). EachAfter IsLater [] l.entries) (sym same) (h.rise v)
    | inr here ↦ subst (λ (l : Log). EachAfter IsLater [] l.entries) (sym here.1) (EachAfter-push IsLater [] (log_at logs at).entries e (h.rise at) (λ x c. let b = h.below at x c in omega (arith, b, stamp)))
  ];
  differ = λ u v x y cx cy same. elim (stands u x cx) [
    | inl old ↦ elim (stands v y cy) [
      | inl also ↦ h.differ u v x y old also same
      | inr last ↦ absurd (let b = h.below u x old in let l = stamp_is y last.1 in omega (arith, b, l, same))
    ]
    | inr last ↦ elim (stands v y cy) [
      | inl old ↦ absurd (let b = h.below v y old in let l = stamp_is x last.1 in omega (arith, b, l, same))
      | inr also ↦ last.0 ∙ sym also.0
    ]
  ];
})
  where
    none : Log
    none = record { vnode = 0; entries = [] }

    stands : (v : ℕ) (x : Entry) → Contains (log_at (with_entry_at logs at e) v).entries x → Contains (log_at logs v).entries x ⊎ ((v ≡ at) × (e ≡ x))
    stands v x c = elim (set_cases logs at v (with_entry (log_at logs at) e) none) [
      | inl same ↦ inl (subst (λ (l : Log). Contains l.entries x) same c)
      | inr here ↦ elim (Contains-push_cases (log_at logs at).entries e x (subst (λ (l : Log). Contains l.entries x) here.1 c)) [
        | inl was ↦ inl (subst (λ (k : ℕ). Contains (log_at logs k).entries x) (sym here.0) was)
        | inr last ↦ inr (here.0, last)
      ]
    ]

    stamp_is : (x : Entry) → e ≡ x → stamp_of x ≡ made
    stamp_is x last = ap stamp_of (sym last) ∙ stamp

-- the vnode at an index has one entry more
pub stamped_at : (logs : List Log) (made at : ℕ) (e : Entry) (x new : Log) → at < length logs → x ≡ get_or logs at x → new ≡ with_entry x e → stamp_of e ≡ made → AreStamped logs made → AreStamped (slice_set logs at new) (made + 1)
stamped_at logs made at e x new inside there is stamp h =
    stamped_more logs (slice_set logs at new) made at e inside (ap (λ (l : Log). slice_set logs at l) (is ∙ ap (λ (l : Log). with_entry l e) (there ∙ get_or_default logs at x (record { vnode = 0; entries = [] }) inside))) stamp h

no_entries : (ids : List ℕ) (v : ℕ) → (log_at (empty_logs ids) v).entries ≡ []
no_entries [] v = refl
no_entries (i ∷ ids) zero = refl
no_entries (i ∷ ids) (suc v) = no_entries ids v

none_made : (ids : List ℕ) → entries_of (empty_logs ids) ≡ 0
none_made [] = refl
none_made (i ∷ ids) = none_made ids

-- nothing is stamped yet
pub none_stamped : (ids : List ℕ) → AreStamped (empty_logs ids) 0
none_stamped ids = record {
  count = none_made ids;
  below = λ v e c. absurd (Contains-nil e (subst (λ (es : List Entry). Contains es e) (no_entries ids v) c));
  rise = λ v. subst (λ (es : List Entry). EachAfter IsLater [] es) (sym (no_entries ids v)) tt;
  differ = λ u v e f ce cf same. absurd (Contains-nil e (subst (λ (es : List Entry). Contains es e) (no_entries ids u) ce));
}
