-- What was told stands in the journals.
use Rattle.std.proofs.Common.{◌≡◌, ℕ, zero, suc, List, [], ◌∷◌, ◌++◌, length, refl, sym, ◌∙◌, subst, arith, append_assoc, length-append, ⊎_elim}
use Rattle.std.specs.List.{Contains}
use Rattle.std.proofs.lemmas.List.Sorted.{Contains-permutation}
use mathlib.Core.Option.{some, some-injective, some-ne-none}
use lib.ListN.{get_elem?}
use Rattle.cluster_stamps.specs.declared.view.Told.{Told}
use Rattle.cluster_stamps.specs.declared.view.History.{History}
use Rattle.cluster_stamps.specs.Rule.{InOrder, seen}
use Rattle.cluster_stamps.proofs.Known.{where_flat, ordered_at, has_cases}
use Rattle.journal.specs.Entry.{Entry}
use Rattle.journal.specs.Logs.{Log}
use Rattle.cluster_vnode.specs.Answers.{entry_of_call, entries_of, AreAnswered}
use Rattle.cluster_vnode.specs.Gathers.{IsHistory, AreVnodes, IsGathered, FitsIn, Stands}
use Rattle.cluster_vnode.proofs.Calls.{length_made}

fits : (front : List Entry) (ts : List Told) (vnode at low : ℕ) (t : Told) → length front ≡ at → AreAnswered front ts → InOrder vnode at low ts → Contains ts t → FitsIn (front ++ entries_of ts) t
fits front [] vnode at low t l a o c = absurd (let h = c.1 in omega arith)
fits front (u ∷ us) vnode at low t l a o c =
    ⊎_elim
    (λ (here : u ≡ t). subst (λ y. FitsIn (front ++ entries_of (u ∷ us)) y) here (front, entries_of us, refl, l ∙ sym o.1, a.0))
    (λ (there : Contains us t). subst (λ es. FitsIn es t) (append_assoc front (entry_of_call u) (entries_of us))
    (fits (front ++ entry_of_call u) us vnode (seen u) (suc u.stamp) t (let p = o.1 in omega (arith, length-append front (entry_of_call u), length_made u.stamp u.news)) a.1 o.3 there))
    (has_cases u us t c)

-- the vnode of a history
vnode_at : (vs : List Log) (hs : List History) (i : ℕ) (h : History) → AreVnodes vs hs → get_elem? hs i ≡ some h → (v : Log) × Contains vs v × IsHistory v h
vnode_at [] [] i h a e = absurd (some-ne-none h (sym e))
vnode_at [] (k ∷ ks) i h a e = absurd a
vnode_at (v ∷ vs) [] i h a e = absurd a
vnode_at (v ∷ vs) (k ∷ ks) zero h a e = (v, (0, omega arith, refl), subst (IsHistory v) (some-injective k h e) a.0)
vnode_at (v ∷ vs) (k ∷ ks) (suc i) h a e =
    let r = vnode_at vs ks i h a.1 e in
    let c = r.1 in
    (r.0, (suc c.0, (let p = c.1 in omega arith), c.2), r.2)

pub stands : (ts : List Told) (vs : List Log) → IsGathered ts vs → (t : Told) → Contains ts t → Stands vs t
stands ts vs g t c =
    let w = where_flat (λ (h : History). h.told) g.0 t (Contains-permutation _ _ t g.2.told c) in
    let v = vnode_at vs g.0 w.0 w.1 g.1 w.2 in
    let o = ordered_at [] g.0 w.0 w.1 g.2.ordered w.2 in
    let f = fits [] w.1.told w.1.vnode 0 0 t refl v.2.answered o w.3 in
    (v.0, v.1, sym v.2.number_is ∙ sym (number w.1.vnode 0 0 w.1.told o w.3), subst (λ es. FitsIn es t) v.2.journal_is f)
  where
    number : (vnode at low : ℕ) (us : List Told) → InOrder vnode at low us → Contains us t → t.vnode ≡ vnode
    number vnode at low [] o c = absurd (let h = c.1 in omega arith)
    number vnode at low (u ∷ us) o c = ⊎_elim (λ (here : u ≡ t). subst (λ y. y.vnode ≡ vnode) here o.0) (λ (there : Contains us t). number vnode (seen u) (suc u.stamp) us o.3 there) (has_cases u us t c)
