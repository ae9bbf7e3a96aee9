-- Merges that stand in a journal, from a place on.
use Rattle.std.proofs.Common.{◌≡◌, ℕ, suc, ◌+◌, List, [], ◌∷◌, ◌++◌, length, length-append, drop, refl, sym, ap, ◌∙◌, arith, append_assoc}
use Rattle.std.specs.Prelude.{Contains}
use Rattle.std.proofs.lemmas.List.{drop_at}
use Rattle.world.specs.Records.{AreMergesOf, nothing, one_more}
use Rattle.journal.specs.Entry.{Entry, Merge}
use Rattle.cluster_stamps.specs.declared.view.Told.{Told}
use Rattle.cluster_vnode.specs.Gathers.{FitsIn}
use Rattle.record_codec.specs.declared.record.Record.{Record}
use Rattle.kept_restore.specs.Loads.{Mark, merge_told, merges_told}

pub begins : (journal : List Entry) (id place : ℕ) (records : List Record) (marks : List Mark) (front rest : List Entry) → length marks ≡ length records → journal ≡ front ++ rest → length front ≡ place
    → ((t : Told) → Contains (merges_told id place records marks) t → FitsIn journal t)
    → (es : List Entry) × (more : List Entry) × AreMergesOf es records × (rest ≡ es ++ more)
begins journal id place [] marks front rest len parts size fits = ([], rest, nothing, refl)
begins journal id place (r ∷ records) [] front rest len parts size fits = absurd (omega (arith, len))
begins journal id place (r ∷ records) (m ∷ marks) front rest len parts size fits =
    let t = merge_told id place r m in
    let e : Entry = Merge m.stamp r.key r.from r.at r.state in
    let here : FitsIn journal t = fits t (0, omega (arith), refl) in
    let tail : rest ≡ e ∷ here.1 = sym (drop_at front rest place size) ∙ ap (drop place) (sym parts ∙ here.2) ∙ drop_at here.0 (e ∷ here.1) place here.3 in
    let next = begins journal id (place + 1) records marks (front ++ e ∷ []) here.1 (omega (arith, len)) (parts ∙ ap (λ (es : List Entry). front ++ es) tail ∙ sym (append_assoc front (e ∷ []) here.1))
    (simp length-append (omega (arith, size))) (λ u at. fits u (suc at.0, (let lt = at.1 in omega (arith, lt)), at.2)) in
    (e ∷ next.0, next.1, one_more m.stamp r next.0 records next.2, tail ∙ ap (λ (es : List Entry). e ∷ es) next.3)
