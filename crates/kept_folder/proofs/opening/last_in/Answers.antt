use Rattle.std.proofs.Common.{◌≡◌, ◌⊎◌, Option, None, Some, codes, refl, subst}
use Rattle.std.specs.Prelude.{IfSome}
use Rattle.kept_folder.specs.Numbers.{EarlierText, start_text}
use Rattle.kept_folder.specs.Reads.{IsUnsealed}
use Rattle.kept_folder.specs.Seals.{sealed}
use Rattle.kept_folder.specs.declared.opening.TakenNumber.{TakenNumber}
use Rattle.kept_folder.proofs.opening.last_in.Goals as goal

pub returns-in-Some-2 : goal.returns-in-Some-2
returns-in-Some-2 g c =
    let text = c.in-Some.text.items in
    let start = c.in-Some-2.start in
    let found = subst (λ f. IsUnsealed (g.F.Folder.finds c.args.folder.now) (codes "incarnation") f) c.in-Some.is c.in_ok-text.ensures in
    let said = subst (λ xs. (xs ≡ start_text start.number start.filed) ⊎ (EarlierText xs start.number × (start.filed ≡ None))) c.deref.ensures.value
    (subst (λ (f : Option TakenNumber). IfSome f (λ s. (c.deref.result.now ≡ start_text s.number s.filed) ⊎ (EarlierText c.deref.result.now s.number × (s.filed ≡ None)))) c.in-Some-2.is c.in_ok-start.ensures) in
    (Some (sealed text), found, (start.number, text, refl, refl, said))
