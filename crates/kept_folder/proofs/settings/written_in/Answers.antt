use Rattle.std.proofs.Common.{[], ◌∷◌, ◌++◌, ◌≡◌, ◌∙◌, List, Option, ap, drop, refl, subst, sym, ℕ}
use Rattle.std.specs.Prelude.{IfSome}
use Rattle.std.proofs.lemmas.List.{take-append-drop}
use Rattle.kept_folder.specs.declared.settings.Line.{Line}
use Rattle.kept_folder.specs.Settings.{MayStand, text_of}
use Rattle.kept_folder.proofs.Setting.{line_more}
use Rattle.kept_folder.proofs.settings.written_in.Goals as goal

pub loop-left-init : goal.loop-left-init
loop-left-init c = ([], refl, (tt, refl, refl, refl, refl))

pub loop-left-preserved : goal.loop-left-preserved
loop-left-preserved c =
    let (lines, so, says) = c.loop-left.invariant in
    let line = c.in-Some.line in
    let left = c.loop-left.left.now in
    let front = c.split_at.result.0.now in
    let rest = c.split_at.result.1.now in
    let end = c.line_end.result in
    let told = subst (λ (f : Option Line). IfSome f (λ l. front ≡ text_of l)) c.in-Some.is c.in_ok-line.ensures.line in
    let right = subst (λ (f : Option Line). IfSome f (λ l. MayStand l [])) c.in-Some.is c.in_ok-line.ensures.right in
    let parts : left ≡ front ++ rest =
    sym (take-append-drop end left) ∙ (ap (λ (l : List ℕ). l ++ drop end left) (sym c.split_at.ensures.front) ∙ ap (λ (l : List ℕ). front ++ l) (sym c.split_at.ensures.back)) in
    let added = c.add.ensures lines right says c.if-not-add.false in
    (lines ++ line ∷ [], line_more lines line c.args.bytes.now left front rest so parts told, added)
