-- What was handed out.
use Rattle.std.proofs.Common.{◌≡◌, ℕ, zero, suc, ◌+◌, ◌<◌, ◌≤◌, List, [], ◌∷◌, ◌++◌, length, drop, get_or, refl, sym, ap, ◌∙◌, subst, arith, append_assoc, length-append}
use Rattle.std.proofs.lemmas.List.{length-drop, drop-drop, drop-append-le}
use Rattle.std.proofs.Math.Seq.{drop-append_seam}
use Rattle.std.specs.Global.{Vec}
use Rattle.std.specs.List.{Contains}
use Rattle.journal.specs.Blocks.{all_of, AreHandedOut}
use Rattle.journal.specs.Entry.{Entry}
use Rattle.journal.specs.Logs.{Log}
use Rattle.cluster_stamps.specs.declared.view.News.{News}
use Rattle.cluster_stamps.specs.declared.view.News.TheVariants as news
use Rattle.cluster_stamps.specs.declared.view.Told.{Told}
use Rattle.cluster_stamps.specs.declared.view.View.{View}
use Rattle.cluster_stamps.specs.Rule.{hand_out_of}
use Rattle.cluster_vnode.specs.Answers.{HasFrom}
use Rattle.cluster_vnode.specs.Calls.{IsTold, IsHandedOut}
use Rattle.cluster_vnode.specs.Gathers.{Differ, Stands, FitsIn, handed, BeginsAt, AreInTurn, all_handed, numbers_of}

-- full blocks that were handed out stand in the journal, which has at most a block more
pub blocks_stand : (journal : List Entry) (first : ℕ) (blocks : List (Vec Entry)) → AreHandedOut journal first blocks → HasFrom journal first (all_of blocks)
blocks_stand journal first blocks h = (h.rest, h.within, h.next)

few_left : (journal : List Entry) (first : ℕ) (blocks : List (Vec Entry)) → AreHandedOut journal first blocks → length journal ≤ first + (length (all_of blocks) + 1024)
few_left journal first blocks h = omega (arith, length-drop first journal, ap length h.next, length-append (all_of blocks) h.rest, h.few, h.within)

pub told_of : (old new : View) (journal : List Entry) (vnode stamp first : ℕ) (blocks : List (Vec Entry)) → AreHandedOut journal first blocks → new.told ≡ old.told ++ hand_out_of vnode (length journal) stamp first (all_of blocks) ∷ []
    → IsTold (hand_out_of vnode (length journal) stamp first (all_of blocks)) old.told → IsHandedOut old new vnode first blocks
told_of old new journal vnode stamp first blocks h more told = (length journal, stamp, (more, told), h.full, few_left journal first blocks h)

-- what stands in a front stands in the whole
longer : (front more entries : List Entry) (first : ℕ) → HasFrom front first entries → HasFrom (front ++ more) first entries
longer front more entries first h =
    (h.0 ++ more, (let w = h.1 in omega (arith, length-append front more)), drop-append-le first front more h.1 ∙ ap (λ es. es ++ more) h.2 ∙ append_assoc entries h.0 more)

-- the identifier of a vnode that stands somewhere
number_there : (vs : List Log) (k : ℕ) (v : Log) → k < length vs → get_or vs k v ≡ v → (k < length (numbers_of vs)) × (get_or (numbers_of vs) k 0 ≡ v.vnode)
number_there [] k v lt e = absurd (omega arith)
number_there (u ∷ us) zero v lt e = (omega arith, ap (λ (y : Log). y.vnode) e)
number_there (u ∷ us) (suc k) v lt e = let r = number_there us k v (let l = lt in omega arith) e in ((let l = r.0 in omega arith), r.1)

same_place : (vs : List Log) (k : ℕ) (v w : Log) → k < length vs → get_or vs k v ≡ get_or vs k w
same_place [] k v w lt = absurd (omega arith)
same_place (u ∷ us) zero v w lt = refl
same_place (u ∷ us) (suc k) v w lt = same_place us k v w (let l = lt in omega arith)

-- two vnodes with one identifier are one
one_vnode : (vs : List Log) (v w : Log) → Differ vs → Contains vs v → Contains vs w → v.vnode ≡ w.vnode → v ≡ w
one_vnode vs v w differ a b e =
    let p = number_there vs a.0 v a.1 a.2 in
    let q = number_there vs b.0 w b.1 b.2 in
    let same : a.0 ≡ b.0 = differ a.0 b.0 p.0 q.0 (p.1 ∙ e ∙ sym q.1) in
    sym a.2 ∙ ap (λ k. get_or vs k v) same ∙ same_place vs b.0 v w b.1 ∙ b.2

-- what was handed out of a vnode that fits in its journal stands there
stands_from : (journal : List Entry) (vnode at stamp place : ℕ) (n : News) → BeginsAt place n → FitsIn journal record { vnode = vnode; at = at; stamp = stamp; news = n } → HasFrom journal place (handed n)
stands_from journal vnode at stamp place (news.Call request outcome) begins fits = absurd begins
stands_from journal vnode at stamp place (news.HandOut first entries) begins fits =
    subst (λ k. HasFrom journal k entries) begins (subst (λ es. HasFrom es first entries) (sym fits.2) (longer fits.0 fits.1 entries first fits.4))

-- where a part stands, and another behind it, both stand together
both : (journal part more : List Entry) (place : ℕ) → HasFrom journal place part → HasFrom journal (place + length part) more → HasFrom journal place (part ++ more)
both journal part more place here next =
    let seam : here.0 ≡ drop (length part) (drop place journal) = sym (drop-append_seam part here.0) ∙ ap (drop (length part)) (sym here.2) in
    let tail : here.0 ≡ more ++ next.0 = seam ∙ drop-drop (length part) place journal ∙ next.2 in
    (next.0, here.1, here.2 ∙ ap (λ es. part ++ es) tail ∙ sym (append_assoc part more next.0))

behind : (journal part : List Entry) (place : ℕ) → HasFrom journal place part → place + length part ≤ length journal
behind journal part place here = let within = here.1 in omega (arith, length-drop place journal, ap length here.2, length-append part here.0)

-- parts that were handed out in turn are together what stands there
in_turn : (vs : List Log) (v : Log) → Differ vs → Contains vs v → (place : ℕ) (ts : List Told) → place ≤ length v.entries → ((t : Told) → Contains ts t → Stands vs t) → AreInTurn v.vnode place ts → HasFrom v.entries place (all_handed ts)
in_turn vs v differ there place [] within stand turn = (drop place v.entries, within, refl)
in_turn vs v differ there place (t ∷ ts) within stand turn =
    let s = stand t (0, omega arith, refl) in
    let is : s.0 ≡ v = one_vnode vs s.0 v differ s.1 there (s.2 ∙ turn.0) in
    let here = stands_from v.entries t.vnode t.at t.stamp place t.news turn.1 (subst (λ (y : Log). FitsIn y.entries t) is s.3) in
    both v.entries (handed t.news) (all_handed ts) place here
    (in_turn vs v differ there (place + length (handed t.news)) ts (behind v.entries (handed t.news) place here) (λ u c. stand u (suc c.0, (let l = c.1 in omega arith), c.2)) turn.2)

-- and from the first entry on the front of the journal
pub front : (vs : List Log) (v : Log) (ts : List Told) → Differ vs → Contains vs v → ((t : Told) → Contains ts t → Stands vs t) → AreInTurn v.vnode 0 ts → (rest : List Entry) × (v.entries ≡ all_handed ts ++ rest)
front vs v ts differ there stand turn =
    let h = in_turn vs v differ there 0 ts (omega arith) stand turn in
    (h.0, h.2)
