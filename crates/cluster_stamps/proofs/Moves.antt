-- Each move of the views keeps the rule.
use Rattle.std.proofs.Common.{◌≡◌, ◌≢◌, ℕ, ◌+◌, List, [], ◌∷◌, ◌++◌, length, map, set, refl, sym, ap, ◌∙◌, subst, arith, length-append, ⊎_elim}
use Rattle.std.specs.List.{flat_map}
use Rattle.std.specs.List.Sorted.{IsPermutation}
use Rattle.std.proofs.lemmas.List.Sorted.{IsPermutation-sym, IsPermutation-trans}
use Rattle.std.proofs.lemmas.List.Concat.{flat_map-append}
use mathlib.Core.Option.{some}
use lib.ListN.{get_elem?}
use Rattle.atomic_table.proofs.Lists.{at_set, at_snoc, set_else}
use Rattle.cluster_stamps.specs.declared.view.Told.{Told}
use Rattle.cluster_stamps.specs.declared.view.History.{History}
use Rattle.cluster_stamps.specs.declared.view.View.{View}
use Rattle.cluster_stamps.specs.declared.view.Size.{Size}
use Rattle.cluster_stamps.specs.Rule.{total, times, AreInOrder, all_told, stamps, IsSound, IsKept, together, nothing, IsCut}
use Rattle.cluster_stamps.proofs.Sums.{total-append, append_none, total_set, set_swap, same_elements, moved_set, flat_snoc}
use Rattle.cluster_stamps.proofs.Orders.{none_pending, in_order_append, map_append, times-append}

abbrev pub Sound : List View → Type 0
Sound views = (i : ℕ) (v : View) → get_elem? views i ≡ some v → IsSound v

pub sound_set : (views : List View) (i : ℕ) (w : View) → Sound views → IsSound w → Sound (set views i w)
sound_set views i w all one j u at =
    ⊎_elim (λ (x : (j ≡ i) × (w ≡ u)). subst IsSound x.1 one) (λ (x : (j ≢ i) × (get_elem? views j ≡ some u)). all j u x.1) (at_set views i j w u at)

pub sound_snoc : (views : List View) (w : View) → Sound views → IsSound w → Sound (views ++ w ∷ [])
sound_snoc views w all one j u at =
    ⊎_elim (λ (x : get_elem? views j ≡ some u). all j u x) (λ (x : w ≡ u). subst IsSound x one) (at_snoc views w u j at)

abbrev pub numbers : List History → List ℕ
numbers hs = map (λ h. h.vnode) hs

stamps_cut : (x : ℕ) (v l r : View) → IsCut v l r → times x (stamps v) ≡ times x (stamps l) + times x (stamps r)
stamps_cut x v l r c =
    let s : List Told → List ℕ = map (λ t. t.stamp) in
    let a : times x (stamps v) ≡ times x v.pending + times x (s (all_told v.histories)) = times-append x v.pending _ in
    let b : times x v.pending ≡ times x l.pending + times x r.pending = ap (times x) c.pending ∙ times-append x l.pending r.pending in
    let h : s (all_told v.histories) ≡ s (all_told l.histories) ++ s (all_told r.histories) = ap (λ hs. s (all_told hs)) c.histories ∙ ap s (flat_map-append (λ (h : History). h.told) l.histories r.histories) ∙ map_append (λ (t : Told). t.stamp) _ _ in
    let d : times x (s (all_told v.histories)) ≡ times x (s (all_told l.histories)) + times x (s (all_told r.histories)) = ap (times x) h ∙ times-append x _ _ in
    let e : times x (stamps l) ≡ times x l.pending + times x (s (all_told l.histories)) = times-append x l.pending _ in
    let f : times x (stamps r) ≡ times x r.pending + times x (s (all_told r.histories)) = times-append x r.pending _ in
    omega arith

numbers_cut : (x : ℕ) (v l r : View) → IsCut v l r → times x (numbers v.histories) ≡ times x (numbers l.histories) + times x (numbers r.histories)
numbers_cut x v l r c = ap (λ hs. times x (numbers hs)) c.histories ∙ ap (times x) (map_append (λ (h : History). h.vnode) l.histories r.histories) ∙ times-append x _ _

told_cut : (v l r : View) → IsCut v l r → IsPermutation (all_told v.histories ++ []) (all_told l.histories ++ all_told r.histories)
told_cut v l r c = same_elements _ _ (append_none _ ∙ ap all_told c.histories ∙ flat_map-append (λ (h : History). h.told) l.histories r.histories)

known_cut : (v l r : View) → IsCut v l r → v.told ++ v.owed ≡ (l.told ++ l.owed) ++ (r.told ++ r.owed)
known_cut v l r c =
    ap (λ ts. v.told ++ ts) c.owed.0 ∙ append_none v.told ∙ c.told ∙ ap (λ ts. ts ++ r.told) (sym (append_none l.told) ∙ ap (λ ts. l.told ++ ts) (sym c.owed.1)) ∙ ap (λ ts. (l.told ++ l.owed) ++ ts) (sym (append_none r.told) ∙ ap (λ ts. r.told ++ ts) (sym c.owed.2))

-- a total after a view is cut, where f of it is what f of the pieces adds up to
total_cut : (f : View → ℕ) (views : List View) (id : ℕ) (v l r : View) → get_elem? views id ≡ some v → f v ≡ f l + f r → total f (set views id l ++ r ∷ []) ≡ total f views
total_cut f views id v l r at e = omega (arith, total-append f (set views id l) (r ∷ []), total_set f views id v l at)

pub cuts : (size : Size) (n : ℕ) (views : List View) (id : ℕ) (v l r : View) → IsKept size n views → get_elem? views id ≡ some v → IsCut v l r → IsSound l → IsSound r → IsKept size n (set views id l ++ r ∷ [])
cuts size n views id v l r k at c sl sr = record {
  few = k.few;
  parts = total_cut (λ u. u.parts) views id v l r at c.parts ∙ k.parts;
  vnodes = total_cut (λ u. length u.histories) views id v l r at (ap length c.histories ∙ length-append l.histories r.histories) ∙ k.vnodes;
  drawn = total_cut (λ u. u.drawn) views id v l r at c.drawn ∙ k.drawn;
  once = λ x. omega (arith, total_cut (λ u. times x (stamps u)) views id v l r at (stamps_cut x v l r c), k.once x);
  alone = λ x. omega (arith, total_cut (λ u. times x (numbers u.histories)) views id v l r at (numbers_cut x v l r c), k.alone x);
  told = IsPermutation-trans _ _ _ (IsPermutation-sym _ _ (moved (λ (u : View). u.told ++ u.owed) (same_elements _ _ (append_none (v.told ++ v.owed) ∙ known_cut v l r c)))) (IsPermutation-trans _ _ _ k.told (moved (λ (u : View). all_told u.histories) (told_cut v l r c)));
  sound = sound_snoc (set views id l) r (sound_set views id l k.sound sl) sr;
}
  where
    moved : (f : View → List Told) → IsPermutation (f v ++ []) (f l ++ f r) → IsPermutation (flat_map f views) (flat_map f (set views id l ++ r ∷ []))
    moved f p = IsPermutation-trans _ _ _ (same_elements _ _ (sym (append_none (flat_map f views)))) (IsPermutation-trans _ _ _ (moved_set f views id v l (f r) [] at p) (same_elements _ _ (sym (flat_snoc f (set views id l) r))))

-- a total after two views are put together
total_joined : (f : View → ℕ) (views : List View) (id other : ℕ) (v w both : View) → get_elem? views id ≡ some v → get_elem? (set views id both) other ≡ some w → f both ≡ f v + f w → f nothing ≡ 0
    → total f (set (set views id both) other nothing) ≡ total f views
total_joined f views id other v w both at there e z = omega (arith, total_set f (set views id both) other w nothing there, total_set f views id v both at)

pub joins : (size : Size) (n : ℕ) (views : List View) (id other : ℕ) (v w : View) → IsKept size n views → get_elem? views id ≡ some v → other ≢ id → get_elem? (set views id (together v w)) other ≡ some w
    → v.pending ≡ [] → w.pending ≡ [] → v.owed ≡ [] → w.owed ≡ [] → IsKept size n (set (set views id (together v w)) other nothing)
joins size n views id other v w k at apart there pv pw ov ow = record {
  few = k.few;
  parts = total_joined (λ u. u.parts) views id other v w (together v w) at there refl refl ∙ k.parts;
  vnodes = total_joined (λ u. length u.histories) views id other v w (together v w) at there (length-append v.histories w.histories) refl ∙ k.vnodes;
  drawn = total_joined (λ u. u.drawn) views id other v w (together v w) at there refl refl ∙ k.drawn;
  once = λ x. omega (arith, total_joined (λ u. times x (stamps u)) views id other v w (together v w) at there (stamps_cut x (together v w) v w cut) refl, k.once x);
  alone = λ x. omega (arith, total_joined (λ u. times x (numbers u.histories)) views id other v w (together v w) at there (numbers_cut x (together v w) v w cut) refl, k.alone x);
  told = IsPermutation-trans _ _ _ (IsPermutation-sym _ _ (moved (λ (u : View). u.told ++ u.owed) (known_cut (together v w) v w cut) refl)) (IsPermutation-trans _ _ _ k.told (moved (λ (u : View). all_told u.histories) (flat_map-append (λ (h : History). h.told) v.histories w.histories) refl));
  sound = sound_set (set views id (together v w)) other nothing (sound_set views id (together v w) k.sound whole) empty;
}
  where
    cut : IsCut (together v w) v w
    cut = record { parts = refl; drawn = refl; pending = refl; told = refl; owed = (ap (λ ts. ts ++ w.owed) ov ∙ ow, ov, ow); histories = refl }

    empty : IsSound nothing
    empty = record { bounded = omega arith; idle = λ e. (refl, refl); ordered = tt }

    before : get_elem? views other ≡ some w
    before = ⊎_elim (λ (x : (other ≡ id) × ((together v w) ≡ w)). absurd (apart x.0)) (λ (x : (other ≢ id) × (get_elem? views other ≡ some w)). x.1) (at_set views id other (together v w) w there)

    sv : IsSound v
    sv = k.sound id v at

    sw : IsSound w
    sw = k.sound other w before

    whole : IsSound (together v w)
    whole = record {
      bounded = omega (arith, sv.bounded, sw.bounded);
      idle = λ e. (ap (λ ts. ts ++ w.told) (sv.idle (omega arith)).0 ∙ (sw.idle (omega arith)).0, ap (λ ts. ts ++ w.owed) ov ∙ ow);
      ordered = subst (λ p. AreInOrder p (v.histories ++ w.histories)) (sym (ap (λ p. p ++ w.pending) pv ∙ pw)) (in_order_append v.histories w.histories (none_pending v.pending v.histories sv.ordered) (none_pending w.pending w.histories sw.ordered));
    }

    moved : (f : View → List Told) → f (together v w) ≡ f v ++ f w → f nothing ≡ [] → IsPermutation (flat_map f views) (flat_map f (set (set views id (together v w)) other nothing))
    moved f e z =
        let first = moved_set f views other w nothing (f w) [] before (same_elements _ _ (append_none (f w) ∙ sym (ap (λ ys. ys ++ f w) z))) in
        let still : get_elem? (set views other nothing) id ≡ some v = set_else views other id nothing (λ g. apart (sym g)) ∙ at in
        let second = moved_set f (set views other nothing) id v (together v w) [] (f w) still (same_elements _ _ (sym e ∙ sym (append_none (f (together v w))))) in
        IsPermutation-trans _ _ _ (same_elements _ _ (sym (append_none (flat_map f views)))) (IsPermutation-trans _ _ _ first (IsPermutation-trans _ _ _ second (same_elements _ _ (append_none _ ∙ ap (λ xs. flat_map f xs) (set_swap views other id nothing (together v w) (λ g. apart (sym g)))))))
