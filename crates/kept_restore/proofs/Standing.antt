-- Merges that a pass was told of, in the journals of gathered vnodes.
use Rattle.std.proofs.Common.{◌≡◌, ℕ, zero, suc, ◌+◌, ◌<◌, List, [], ◌∷◌, ◌++◌, length, get_or, refl, sym, ap, subst, ◌∙◌, arith}
use Rattle.std.specs.Prelude.{Contains}
use Rattle.std.proofs.lemmas.List.{append-nil}
use Rattle.journal.specs.Logs.{Log}
use Rattle.cluster_stamps.specs.declared.view.Told.{Told}
use Rattle.cluster_stamps.specs.declared.view.View.{View}
use Rattle.cluster_vnode.specs.Gathers.{Differ, FitsIn, IsGathered, numbers_of}
use Rattle.cluster_vnode.proofs.Differ.{differ}
use Rattle.cluster_vnode.proofs.Stand.{stands}
use Rattle.record_codec.specs.declared.record.Record.{Record}
use Rattle.kept_restore.specs.Beginnings.{BeginsWith}
use Rattle.kept_restore.specs.Loads.{HasLoaded, Mark, merge_told, merges_told}
use Rattle.kept_restore.proofs.Fronts.{begins}

-- ---- two vnodes with one identifier are one

number_there : (vs : List Log) (k : ℕ) (v : Log) → k < length vs → get_or vs k v ≡ v → (k < length (numbers_of vs)) × (get_or (numbers_of vs) k 0 ≡ v.vnode)
number_there [] k v lt e = absurd (omega arith)
number_there (u ∷ us) zero v lt e = (omega arith, ap (λ (y : Log). y.vnode) e)
number_there (u ∷ us) (suc k) v lt e = let r = number_there us k v (let l = lt in omega arith) e in ((let l = r.0 in omega arith), r.1)

same_place : (vs : List Log) (k : ℕ) (v w : Log) → k < length vs → get_or vs k v ≡ get_or vs k w
same_place [] k v w lt = absurd (omega arith)
same_place (u ∷ us) zero v w lt = refl
same_place (u ∷ us) (suc k) v w lt = same_place us k v w (let l = lt in omega arith)

one_vnode : (vs : List Log) (v w : Log) → Differ vs → Contains vs v → Contains vs w → v.vnode ≡ w.vnode → v ≡ w
one_vnode vs v w apart a b e =
    let p = number_there vs a.0 v a.1 a.2 in
    let q = number_there vs b.0 w b.1 b.2 in
    let same : a.0 ≡ b.0 = apart a.0 b.0 p.0 q.0 (p.1 ∙ e ∙ sym q.1) in
    sym a.2 ∙ ap (λ k. get_or vs k v) same ∙ same_place vs b.0 v w b.1 ∙ b.2

-- ---- merges

of_one : (id place : ℕ) (records : List Record) (marks : List Mark) (t : Told) → Contains (merges_told id place records marks) t → t.vnode ≡ id
of_one id place [] marks t (k, lt, is) = absurd (omega (arith, lt))
of_one id place (r ∷ records) [] t (k, lt, is) = absurd (omega (arith, lt))
of_one id place (r ∷ records) (m ∷ marks) t (zero, lt, is) = ap (λ (u : Told). u.vnode) (sym is)
of_one id place (r ∷ records) (m ∷ marks) t (suc k, lt, is) = of_one id (place + 1) records marks t (k, (let l = lt in omega (arith, l)), is)

begins_with : (told : List Told) (logs : List Log) (id : ℕ) (records : List Record) (marks : List Mark) → length marks ≡ length records → IsGathered told logs
    → ((t : Told) → Contains (merges_told id 0 records marks) t → Contains told t) → BeginsWith logs id records
begins_with told logs id [] marks len gathered among = λ some. absurd (some refl)
begins_with told logs id (r ∷ records) [] len gathered among = absurd (omega (arith, len))
begins_with told logs id (r ∷ records) (m ∷ marks) len gathered among =
    let first = merge_told id 0 r m in
    let s = stands told logs gathered first (among first (0, omega (arith), refl)) in
    let apart = differ logs gathered.0 gathered.1 gathered.2.alone in
    let each : (t : Told) → Contains (merges_told id 0 (r ∷ records) (m ∷ marks)) t → FitsIn s.0.entries t = λ t at.
    (let o = stands told logs gathered t (among t at) in
    subst (λ (v : Log). FitsIn v.entries t) (one_vnode logs o.0 s.0 apart o.1 s.1 (o.2 ∙ of_one id 0 (r ∷ records) (m ∷ marks) t at ∙ sym s.2)) o.3) in
    let es = begins s.0.entries id 0 (r ∷ records) (m ∷ marks) [] s.0.entries len refl refl each in
    λ some. (s.0, s.1, s.2, es.0, es.1, es.2, es.3)

-- ---- of one vnode that has taken its records over

-- what stands in a part of a list stands in the list
among_parts : (before part after : List Told) (t : Told) → Contains part t → Contains (before ++ part ++ after) t
among_parts [] [] after t (k, lt, is) = absurd (omega (arith, lt))
among_parts [] (u ∷ part) after t (zero, lt, is) = (zero, omega (arith), is)
among_parts [] (u ∷ part) after t (suc k, lt, is) = let there = among_parts [] part after t (k, (let l = lt in omega (arith, l)), is) in (suc there.0, (let l = there.1 in omega (arith, l)), there.2)
among_parts (u ∷ before) part after t at = let there = among_parts before part after t at in (suc there.0, (let l = there.1 in omega (arith, l)), there.2)

-- what stands at the end of a list stands in the list
among_last : (before part : List Told) (t : Told) → Contains part t → Contains (before ++ part) t
among_last before part t at = subst (λ (ts : List Told). Contains ts t) (append-nil (before ++ part)) (among_parts before part [] t at)

-- where what was told stands in the journals of gathered vnodes, that of a vnode that has taken records over begins with their merges
pub begin_with : (before after : List Told) (old new : View) (logs : List Log) (id : ℕ) (records : List Record) → IsGathered (before ++ new.told ++ after) logs → HasLoaded old new id records → BeginsWith logs id records
begin_with before after old new logs id records gathered (marks, len, told) =
    begins_with (before ++ new.told ++ after) logs id records marks len gathered
    (λ t at. among_parts before new.told after t (subst (λ (ts : List Told). Contains ts t) (sym told) (among_last old.told (merges_told id 0 records marks) t at)))
