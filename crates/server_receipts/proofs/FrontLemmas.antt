-- Calls beside those that made the fronts of journals lie behind the fronts.
use Rattle.std.proofs.Common.{◌≡◌, inl, inr, ℕ, zero, suc, ◌+◌, ◌≤◌, ◌==◌, if◌then◌else◌, true, List, [], ◌∷◌, ◌++◌, map, sym, ap, ◌∙◌, subst, arith, eq-eqb}
use Rattle.std.specs.Prelude.{slice_get, Some}
use Rattle.std.specs.List.{Contains}
use Rattle.std.proofs.lemmas.Bool.{cases_lt}
use Rattle.std.proofs.lemmas.List.Elements.{Contains-append_left, Contains-append_right}
use Rattle.std.proofs.lemmas.Option.{same_Some}
use Rattle.journal.specs.Entry.{Entry}
use Rattle.journal.specs.Logs.{Log}
use Rattle.journal.specs.Stamps.{stamp_of}
use Rattle.cluster_stamps.specs.Rule.{times}
use Rattle.cluster_stamps.specs.declared.view.Told.{Told}
use Rattle.cluster_stamps.proofs.Orders.{map_append, times-append}
use Rattle.cluster_vnode.specs.Answers.{entry_of_call}
use Rattle.cluster_vnode.specs.Gathers.{Differ, IsGathered, Stands}
use Rattle.cluster_vnode.proofs.Counts.{told_apart}
use Rattle.audit_replay.specs.Turns.{count_at}
use Rattle.audit_cluster.specs.Moments.{AreMadeBy, IsCallBehind}
use Rattle.audit_cluster.proofs.Happening.{behind_front, stamp_is}
use Rattle.server_receipts.proofs.GatheredLemmas.{one_vnode}

-- two calls of a vnode that made the entry at one place have one stamp
one_stamp : (logs : List Log) (t u : Told) (e f : Entry) → Differ logs → Stands logs t → Stands logs u → t.vnode ≡ u.vnode → t.at ≡ u.at → entry_of_call t ≡ e ∷ [] → entry_of_call u ≡ f ∷ [] → t.stamp ≡ u.stamp
one_stamp logs t u e f apart (v, has, id, (front, rest, parts, long, said)) (w, there, number, (before, behind, split, far, told)) same place made did =
    let one : v ≡ w = one_vnode logs v w apart has there (id ∙ same ∙ sym number) in
    let first : slice_get v.entries t.at ≡ Some e = ap (λ (es : List Entry). slice_get es t.at) (parts ∙ ap (λ (es : List Entry). front ++ (es ++ rest)) made) ∙ behind_front front e rest t.at long in
    let second : slice_get w.entries u.at ≡ Some f = ap (λ (es : List Entry). slice_get es u.at) (split ∙ ap (λ (es : List Entry). before ++ (es ++ behind)) did) ∙ behind_front before f behind u.at far in
    let both : slice_get v.entries t.at ≡ slice_get w.entries u.at = ap (λ (l : Log). slice_get l.entries t.at) one ∙ ap (λ (n : ℕ). slice_get w.entries n) place in
    let is : e ≡ f = same_Some e f (sym first ∙ both ∙ second) in
    sym (stamp_is t.stamp t.news e made) ∙ ap stamp_of is ∙ stamp_is u.stamp u.news f did

-- the stamp of one of these is counted
told_once : (ts : List Told) (t : Told) → Contains ts t → 1 ≤ times t.stamp (map (λ u. u.stamp) ts)
told_once [] t c = absurd (let l = c.1 in omega arith)
told_once (u ∷ us) t (zero, lt, is) =
    let yes : (u.stamp == t.stamp) ≡ true = eq-eqb u.stamp t.stamp (ap (λ (x : Told). x.stamp) is) in
    let one : 1 ≤ (if u.stamp == t.stamp then 1 else 0) + times t.stamp (map (λ x. x.stamp) us) = rw yes (omega arith) in
    one
told_once (u ∷ us) t (suc k, lt, is) =
    let rest : 1 ≤ times t.stamp (map (λ x. x.stamp) us) = told_once us t (k, (let l = lt in omega arith), is) in
    let more : 1 ≤ (if u.stamp == t.stamp then 1 else 0) + times t.stamp (map (λ x. x.stamp) us) = omega (arith, rest) in
    more

-- what some were told and what others were told isn't of one stamp, where no stamp was told twice
apart_from : (told others : List Told) (t u : Told) → times t.stamp (map (λ x. x.stamp) (told ++ others)) ≤ 1 → Contains told t → Contains others u → t.stamp ≡ u.stamp → ⊥
apart_from told others t u once a b same =
    let split : times t.stamp (map (λ x. x.stamp) (told ++ others)) ≡ times t.stamp (map (λ x. x.stamp) told) + times t.stamp (map (λ x. x.stamp) others) =
    ap (times t.stamp) (map_append (λ (x : Told). x.stamp) told others) ∙ times-append t.stamp (map (λ x. x.stamp) told) (map (λ x. x.stamp) others) in
    let second : 1 ≤ times t.stamp (map (λ x. x.stamp) others) = subst (λ (n : ℕ). 1 ≤ times n (map (λ x. x.stamp) others)) (sym same) (told_once others u b) in
    absurd (omega (arith, split, once, told_once told t a, second))

-- where the entries of fronts were made by calls that others were told of, each call lies behind them
pub come_behind : (told others : List Told) (logs : List Log) → IsGathered (told ++ others) logs → Differ logs → ((t : Told) → Contains (told ++ others) t → Stands logs t)
    → (fronts : List ℕ) → AreMadeBy others fronts logs → (t : Told) → Contains told t → IsCallBehind fronts logs t
come_behind told others logs (hs, vnodes, whole) apart stand fronts made t has e is index inside vnode = elim (cases_lt t.at (count_at fronts index)) [
  | inl before ↦
      (let (u, there, number, place, one) = made index t.at inside before in
      absurd (apart_from told others t u (told_apart (told ++ others) hs whole t.stamp) has there
      (one_stamp logs t u e one.0 apart (stand t (Contains-append_left told others t has)) (stand u (Contains-append_right told others u there)) (sym vnode ∙ sym number) (sym place) is one.1)))
  | inr behind ↦ behind
]
