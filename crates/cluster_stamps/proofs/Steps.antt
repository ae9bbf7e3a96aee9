-- Each step on the word keeps the rule.
use Rattle.std.proofs.Common.{◌≡◌, ℕ, suc, ◌+◌, ◌*◌, ◌<◌, ◌≤◌, ◌==◌, List, [], ◌∷◌, ◌++◌, length, map, set, refl, sym, ap, ◌∙◌, subst, arith, if◌then◌else◌, add-one, zero-add}
use Rattle.std.specs.List.{flat_map}
use Rattle.std.specs.List.Sorted.{IsPermutation}
use Rattle.std.proofs.lemmas.List.Sorted.{IsPermutation-sym, IsPermutation-trans, IsPermutation-append_left}
use mathlib.Core.Option.{some}
use lib.ListN.{get_elem?}
use Rattle.cluster_stamps.specs.declared.view.Told.{Told}
use Rattle.cluster_stamps.specs.declared.view.History.{History}
use Rattle.cluster_stamps.specs.declared.view.View.{View}
use Rattle.cluster_stamps.specs.declared.view.Size.{Size}
use Rattle.cluster_stamps.specs.Rule.{appended, settled, total, times, entries, InOrder, AreInOrder, once_below, all_told, stamps, stamps_each, IsKept, drew, dropped, learned}
use Rattle.cluster_stamps.proofs.Sums.{append_none, total_set, total_at, same_elements, moved_set}
use Rattle.cluster_stamps.proofs.Orders.{in_order_push, once_next, below_new, none_pending, map_append, times-append}
use Rattle.cluster_stamps.proofs.Moves.{sound_set, numbers, Sound}

-- where no view's total grows past 2^48 for each part, the word does not
drawn_within : (views : List View) → Sound views → total (λ v. v.drawn) views ≤ stamps_each * total (λ v. v.parts) views
drawn_within [] all = omega arith
drawn_within (v ∷ vs) all = let one = (all 0 v refl).bounded in omega (arith, drawn_within vs (λ i u at. all (suc i) u at))

pub word_within : (size : Size) (n : ℕ) (views : List View) → IsKept size n views → n ≤ 18014398509481984
word_within size n views k = omega (arith, drawn_within views k.sound, k.few, k.parts, k.drawn)

pub draws : (size : Size) (n : ℕ) (views : List View) (id : ℕ) (v : View) → IsKept size n views → get_elem? views id ≡ some v → v.drawn < stamps_each * v.parts → v.pending ≡ [] → IsKept size (n + 1) (set views id (drew v n))
draws size n views id v k at room none = record {
  few = k.few;
  parts = same (λ u. u.parts) refl ∙ k.parts;
  vnodes = same (λ u. length u.histories) refl ∙ k.vnodes;
  drawn = omega (arith, total_set (λ (u : View). u.drawn) views id v (drew v n) at, k.drawn);
  once = λ x. once_more x;
  alone = λ x. omega (arith, same (λ u. times x (numbers u.histories)) refl, k.alone x);
  told = IsPermutation-trans _ _ _ (IsPermutation-sym _ _ (kept (λ u. u.told ++ u.owed) refl)) (IsPermutation-trans _ _ _ k.told (kept (λ u. all_told u.histories) refl));
  sound = sound_set views id (drew v n) k.sound (record { bounded = omega arith; idle = (k.sound id v at).idle; ordered = ordered });
}
  where
    same : (f : View → ℕ) → f (drew v n) ≡ f v → total f (set views id (drew v n)) ≡ total f views
    same f e = omega (arith, total_set f views id v (drew v n) at)

    kept : (f : View → List Told) → f (drew v n) ≡ f v → IsPermutation (flat_map f views) (flat_map f (set views id (drew v n)))
    kept f e = IsPermutation-trans _ _ _ (same_elements _ _ (sym (append_none _))) (IsPermutation-trans _ _ _ (moved_set f views id v (drew v n) [] [] at (same_elements _ _ (ap (λ ys. ys ++ []) (sym e)))) (same_elements _ _ (append_none _)))

    mine : (x : ℕ) → times x (map (λ t. t.stamp) (all_told v.histories)) ≤ once_below x n
    mine x = omega (arith, k.once x, total_at (λ (u : View). times x (stamps u)) views id v at, times-append x v.pending (map (λ t. t.stamp) (all_told v.histories)))

    ordered : AreInOrder (n ∷ []) v.histories
    ordered = below_new n v.histories (none_pending v.pending v.histories (k.sound id v at).ordered) mine

    more : (x : ℕ) → times x (stamps (drew v n)) ≡ (if n == x then 1 else 0) + times x (stamps v)
    more x = ap (λ p. (if n == x then 1 else 0) + times x (p ++ map (λ t. t.stamp) (all_told v.histories))) (sym none)

    once_more : (x : ℕ) → total (λ u. times x (stamps u)) (set views id (drew v n)) ≤ once_below x (n + 1)
    once_more x = rw (add-one n) (once_next x n (total (λ u. times x (stamps u)) views) _ (k.once x) (omega (arith, total_set (λ (u : View). times x (stamps u)) views id v (drew v n) at, more x)))

pub drops : (size : Size) (n : ℕ) (views : List View) (id : ℕ) (v : View) → IsKept size n views → get_elem? views id ≡ some v → IsKept size n (set views id (dropped v))
drops size n views id v k at = record {
  few = k.few;
  parts = same (λ u. u.parts) refl ∙ k.parts;
  vnodes = same (λ u. length u.histories) refl ∙ k.vnodes;
  drawn = same (λ u. u.drawn) refl ∙ k.drawn;
  once = λ x. omega (arith, k.once x, total_set (λ (u : View). times x (stamps u)) views id v (dropped v) at, times-append x v.pending (map (λ t. t.stamp) (all_told v.histories)));
  alone = λ x. omega (arith, same (λ u. times x (numbers u.histories)) refl, k.alone x);
  told = IsPermutation-trans _ _ _ (IsPermutation-sym _ _ (kept (λ u. u.told ++ u.owed) refl)) (IsPermutation-trans _ _ _ k.told (kept (λ u. all_told u.histories) refl));
  sound = sound_set views id (dropped v) k.sound (record { bounded = (k.sound id v at).bounded; idle = (k.sound id v at).idle; ordered = none_pending v.pending v.histories (k.sound id v at).ordered });
}
  where
    same : (f : View → ℕ) → f (dropped v) ≡ f v → total f (set views id (dropped v)) ≡ total f views
    same f e = omega (arith, total_set f views id v (dropped v) at)

    kept : (f : View → List Told) → f (dropped v) ≡ f v → IsPermutation (flat_map f views) (flat_map f (set views id (dropped v)))
    kept f e = IsPermutation-trans _ _ _ (same_elements _ _ (sym (append_none _))) (IsPermutation-trans _ _ _ (moved_set f views id v (dropped v) [] [] at (same_elements _ _ (ap (λ ys. ys ++ []) (sym e)))) (same_elements _ _ (append_none _)))

-- the vnode tells the pass of a call, with the stamp that is pending, at the length of its journal
pub learns : (size : Size) (n : ℕ) (views : List View) (id : ℕ) (v : View) (h : History) (t : Told) → IsKept size n views → get_elem? views id ≡ some v → 0 < v.parts
    → v.pending ≡ t.stamp ∷ [] → v.histories ≡ h ∷ [] → v.owed ≡ [] → t.vnode ≡ h.vnode → t.at ≡ entries h.told → IsKept size n (set views id (learned v h t))
learns size n views id v h t k at part pending own ov vnode place = record {
  few = k.few;
  parts = same (λ u. u.parts) refl ∙ k.parts;
  vnodes = same (λ u. length u.histories) (ap length (sym own)) ∙ k.vnodes;
  drawn = same (λ u. u.drawn) refl ∙ k.drawn;
  once = λ x. omega (arith, same (λ u. times x (stamps u)) (stamps_same x), k.once x);
  alone = λ x. omega (arith, same (λ u. times x (numbers u.histories)) (ap (λ hs. times x (numbers hs)) (sym own)), k.alone x);
  told = IsPermutation-trans _ _ _ (IsPermutation-sym _ _ (more (λ (u : View). u.told ++ u.owed) (same_elements _ _ (ap (λ ts. (v.told ++ ts) ++ t ∷ []) ov ∙ ap (λ ts. ts ++ t ∷ []) (append_none v.told) ∙ sym (append_none (v.told ++ t ∷ [])) ∙ sym (append_none ((v.told ++ t ∷ []) ++ []))))))
      (IsPermutation-trans _ _ _ (IsPermutation-append_left (t ∷ []) _ _ k.told) (more (λ (u : View). all_told u.histories) (same_elements _ _ history_more)));
  sound = sound_set views id w k.sound (record { bounded = (k.sound id v at).bounded; idle = λ e. absurd (omega arith); ordered = (ordered, tt, tt) });
}
  where
    w : View
    w = learned v h t

    same : (f : View → ℕ) → f (learned v h t) ≡ f v → total f (set views id (learned v h t)) ≡ total f views
    same f e = omega (arith, total_set f views id v (learned v h t) at)

    more : (f : View → List Told) → IsPermutation (f v ++ t ∷ []) (f (learned v h t) ++ []) → IsPermutation (flat_map f views ++ t ∷ []) (flat_map f (set views id (learned v h t)))
    more f p = IsPermutation-trans _ _ _ (moved_set f views id v (learned v h t) [] (t ∷ []) at p) (same_elements _ _ (append_none _))

    history_more : all_told v.histories ++ t ∷ [] ≡ ((h.told ++ t ∷ []) ++ []) ++ []
    history_more = ap (λ hs. all_told hs ++ t ∷ []) own ∙ ap (λ ys. ys ++ t ∷ []) (append_none h.told) ∙ sym (append_none _) ∙ sym (append_none _)

    stamps_same : (x : ℕ) → times x (stamps (learned v h t)) ≡ times x (stamps v)
    stamps_same x =
        let s : List Told → List ℕ = map (λ t. t.stamp) in
        let a : times x (stamps (learned v h t)) ≡ times x (s h.told) + times x (t.stamp ∷ []) = ap (λ ys. times x (s ys)) (append_none (h.told ++ t ∷ [])) ∙ ap (times x) (map_append (λ (u : Told). u.stamp) h.told (t ∷ [])) ∙ times-append x (s h.told) (t.stamp ∷ []) in
        let b : times x (stamps v) ≡ times x (t.stamp ∷ []) + times x (s h.told) = times-append x v.pending _ ∙ ap (λ p. times x p + times x (s (all_told v.histories))) pending ∙ ap (λ hs. times x (t.stamp ∷ []) + times x (s (all_told hs))) own ∙ ap (λ ys. times x (t.stamp ∷ []) + times x (s ys)) (append_none h.told) in
        omega arith

    whole : AreInOrder (t.stamp ∷ []) (h ∷ [])
    whole = subst (λ p. AreInOrder p (h ∷ [])) pending (subst (λ hs. AreInOrder v.pending hs) own (k.sound id v at).ordered)

    ordered : InOrder h.vnode 0 0 (h.told ++ t ∷ [])
    ordered = in_order_push h.vnode 0 0 h.told t whole.0 vnode (place ∙ sym (zero-add (entries h.told))) whole.1.0

-- the vnode has a further entry, with the stamp that is pending, at the length of its journal
pub appends : (size : Size) (n : ℕ) (views : List View) (id : ℕ) (v : View) (h : History) (t : Told) → IsKept size n views → get_elem? views id ≡ some v → 0 < v.parts
    → v.pending ≡ t.stamp ∷ [] → v.histories ≡ h ∷ [] → v.owed ≡ [] → t.vnode ≡ h.vnode → t.at ≡ entries h.told → IsKept size n (set views id (appended v h t))
appends size n views id v h t k at part pending own ov vnode place = record {
  few = k.few;
  parts = same (λ u. u.parts) refl ∙ k.parts;
  vnodes = same (λ u. length u.histories) (ap length (sym own)) ∙ k.vnodes;
  drawn = same (λ u. u.drawn) refl ∙ k.drawn;
  once = λ x. omega (arith, same (λ u. times x (stamps u)) (stamps_same x), k.once x);
  alone = λ x. omega (arith, same (λ u. times x (numbers u.histories)) (ap (λ hs. times x (numbers hs)) (sym own)), k.alone x);
  told = IsPermutation-trans _ _ _ (IsPermutation-sym _ _ (more (λ (u : View). u.told ++ u.owed) (same_elements _ _ (ap (λ ts. (v.told ++ ts) ++ t ∷ []) ov ∙ ap (λ ts. ts ++ t ∷ []) (append_none v.told) ∙ sym (append_none (v.told ++ t ∷ []))))))
      (IsPermutation-trans _ _ _ (IsPermutation-append_left (t ∷ []) _ _ k.told) (more (λ (u : View). all_told u.histories) (same_elements _ _ history_more)));
  sound = sound_set views id w k.sound (record { bounded = (k.sound id v at).bounded; idle = λ e. absurd (omega arith); ordered = (ordered, tt, tt) });
}
  where
    w : View
    w = appended v h t

    same : (f : View → ℕ) → f (appended v h t) ≡ f v → total f (set views id (appended v h t)) ≡ total f views
    same f e = omega (arith, total_set f views id v (appended v h t) at)

    more : (f : View → List Told) → IsPermutation (f v ++ t ∷ []) (f (appended v h t) ++ []) → IsPermutation (flat_map f views ++ t ∷ []) (flat_map f (set views id (appended v h t)))
    more f p = IsPermutation-trans _ _ _ (moved_set f views id v (appended v h t) [] (t ∷ []) at p) (same_elements _ _ (append_none _))

    history_more : all_told v.histories ++ t ∷ [] ≡ ((h.told ++ t ∷ []) ++ []) ++ []
    history_more = ap (λ hs. all_told hs ++ t ∷ []) own ∙ ap (λ ys. ys ++ t ∷ []) (append_none h.told) ∙ sym (append_none _) ∙ sym (append_none _)

    stamps_same : (x : ℕ) → times x (stamps (appended v h t)) ≡ times x (stamps v)
    stamps_same x =
        let s : List Told → List ℕ = map (λ t. t.stamp) in
        let a : times x (stamps (appended v h t)) ≡ times x (s h.told) + times x (t.stamp ∷ []) = ap (λ ys. times x (s ys)) (append_none (h.told ++ t ∷ [])) ∙ ap (times x) (map_append (λ (u : Told). u.stamp) h.told (t ∷ [])) ∙ times-append x (s h.told) (t.stamp ∷ []) in
        let b : times x (stamps v) ≡ times x (t.stamp ∷ []) + times x (s h.told) = times-append x v.pending _ ∙ ap (λ p. times x p + times x (s (all_told v.histories))) pending ∙ ap (λ hs. times x (t.stamp ∷ []) + times x (s (all_told hs))) own ∙ ap (λ ys. times x (t.stamp ∷ []) + times x (s ys)) (append_none h.told) in
        omega arith

    whole : AreInOrder (t.stamp ∷ []) (h ∷ [])
    whole = subst (λ p. AreInOrder p (h ∷ [])) pending (subst (λ hs. AreInOrder v.pending hs) own (k.sound id v at).ordered)

    ordered : InOrder h.vnode 0 0 (h.told ++ t ∷ [])
    ordered = in_order_push h.vnode 0 0 h.told t whole.0 vnode (place ∙ sym (zero-add (entries h.told))) whole.1.0

-- the pass is told of what it is owed
pub settles : (size : Size) (n : ℕ) (views : List View) (id : ℕ) (v : View) → IsKept size n views → get_elem? views id ≡ some v → IsKept size n (set views id (settled v))
settles size n views id v k at = record {
  few = k.few;
  parts = same (λ u. u.parts) refl ∙ k.parts;
  vnodes = same (λ u. length u.histories) refl ∙ k.vnodes;
  drawn = same (λ u. u.drawn) refl ∙ k.drawn;
  once = λ x. omega (arith, same (λ u. times x (stamps u)) refl, k.once x);
  alone = λ x. omega (arith, same (λ u. times x (numbers u.histories)) refl, k.alone x);
  told = IsPermutation-trans _ _ _ (IsPermutation-sym _ _ (kept (λ u. u.told ++ u.owed) (append_none (v.told ++ v.owed)))) (IsPermutation-trans _ _ _ k.told (kept (λ u. all_told u.histories) refl));
  sound = sound_set views id (settled v) k.sound (record { bounded = (k.sound id v at).bounded; idle = λ e. (let i = (k.sound id v at).idle e in (ap (λ ts. ts ++ v.owed) i.0 ∙ i.1, refl)); ordered = (k.sound id v at).ordered });
}
  where
    same : (f : View → ℕ) → f (settled v) ≡ f v → total f (set views id (settled v)) ≡ total f views
    same f e = omega (arith, total_set f views id v (settled v) at)

    kept : (f : View → List Told) → f (settled v) ≡ f v → IsPermutation (flat_map f views) (flat_map f (set views id (settled v)))
    kept f e = IsPermutation-trans _ _ _ (same_elements _ _ (sym (append_none _))) (IsPermutation-trans _ _ _ (moved_set f views id v (settled v) [] [] at (same_elements _ _ (ap (λ ys. ys ++ []) (sym e)))) (same_elements _ _ (append_none _)))
