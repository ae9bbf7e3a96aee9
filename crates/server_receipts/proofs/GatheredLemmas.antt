-- What is gathered.
use Rattle.std.proofs.Common.{◌≡◌, ℕ, zero, suc, ◌<◌, ◌≤◌, get_or, List, [], ◌∷◌, ◌++◌, length, drop, refl, sym, ap, ◌∙◌, arith, append_assoc, length-append}
use Rattle.std.specs.List.{Contains}
use Rattle.journal.specs.Entry.{Entry}
use Rattle.journal.specs.Logs.{Log}
use Rattle.cluster_stamps.specs.Rule.{seen}
use Rattle.cluster_stamps.specs.declared.view.Told.{Told}
use Rattle.cluster_vnode.specs.Answers.{entry_of_call}
use Rattle.cluster_vnode.specs.Gathers.{Differ, Stands, numbers_of}
use Rattle.cluster_vnode.proofs.Calls.{length_made}
use Rattle.server_receipts.specs.Receipts.{front_of, up_to}

number_there : (vs : List Log) (k : ℕ) (v : Log) → k < length vs → get_or vs k v ≡ v → (k < length (numbers_of vs)) × (get_or (numbers_of vs) k 0 ≡ v.vnode)
number_there [] k v lt e = absurd (omega arith)
number_there (u ∷ us) zero v lt e = (omega arith, ap (λ (y : Log). y.vnode) e)
number_there (u ∷ us) (suc k) v lt e = let r = number_there us k v (let l = lt in omega arith) e in ((let l = r.0 in omega arith), r.1)

pub same_place : {X : Type 0} (vs : List X) (k : ℕ) (v w : X) → k < length vs → get_or vs k v ≡ get_or vs k w
same_place [] k v w lt = absurd (omega arith)
same_place (u ∷ us) zero v w lt = refl
same_place (u ∷ us) (suc k) v w lt = same_place us k v w (let l = lt in omega arith)

-- two vnodes with one identifier are one
pub one_vnode : (vs : List Log) (v w : Log) → Differ vs → Contains vs v → Contains vs w → v.vnode ≡ w.vnode → v ≡ w
one_vnode vs v w apart a b e =
    let p = number_there vs a.0 v a.1 a.2 in
    let q = number_there vs b.0 w b.1 b.2 in
    let same : a.0 ≡ b.0 = apart a.0 b.0 p.0 q.0 (p.1 ∙ e ∙ sym q.1) in
    sym a.2 ∙ ap (λ k. get_or vs k v) same ∙ same_place vs b.0 v w b.1 ∙ b.2

longer : (a b c d : List Entry) → a ++ b ≡ c ++ d → length a ≤ length c → (more : List Entry) × (c ≡ a ++ more)
longer [] b c d e le = (c, refl)
longer (x ∷ a) b [] d e le = absurd (omega (arith, le))
longer (x ∷ a) b (y ∷ c) d e le =
    let rest = longer a b c d (ap (drop 1) e) (let l = le in omega arith) in
    (rest.0, ap (λ (z : Entry). z ∷ c) (sym (heads x y (a ++ b) (c ++ d) e)) ∙ ap (λ (l : List Entry). x ∷ l) rest.1)
  where
    heads : (x y : Entry) (l m : List Entry) → x ∷ l ≡ y ∷ m → x ≡ y
    heads x y l m e = ap (λ (k : List Entry). get_or k 0 x) e

pub go_on : (logs : List Log) → Differ logs → (t u : Told) (up : Stands logs t) (later : Stands logs u) → t.vnode ≡ u.vnode → seen t ≤ u.at
    → (more : List Entry) × ((front_of logs u later).entries ≡ up_to logs t up ++ more)
go_on logs apart t u up later same le =
    let one : up.0 ≡ later.0 = one_vnode logs up.0 later.0 apart up.1 later.1 (up.2 ∙ same ∙ sym later.2) in
    let whole : up_to logs t up ++ up.3.1 ≡ later.3.0 ++ (entry_of_call u ++ later.3.1) =
    append_assoc up.3.0 (entry_of_call t) up.3.1 ∙ sym up.3.2 ∙ ap (λ (l : Log). l.entries) one ∙ later.3.2 in
    let long : length (up_to logs t up) ≤ length later.3.0 =
    (let l = le in let a = up.3.3 in let b = later.3.3 in omega (arith, length-append up.3.0 (entry_of_call t), length_made t.stamp t.news, a, b, l)) in
    longer (up_to logs t up) up.3.1 later.3.0 (entry_of_call u ++ later.3.1) whole long
