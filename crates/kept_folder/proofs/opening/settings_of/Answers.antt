use Rattle.std.proofs.Common.{Option, Some, codes, subst}
use Rattle.std.specs.Prelude.{IfSome}
use Rattle.kept_folder.specs.Reads.{bytes_in}
use Rattle.kept_folder.specs.Settings.{IsSetBy}
use Rattle.kept_folder.specs.declared.settings.Settings.{Settings}
use Rattle.kept_folder.proofs.opening.settings_of.Goals as goal

pub returns-in-Some-2 : goal.returns-in-Some-2
returns-in-Some-2 g c = (
  Some c.in-Some.bytes.items,
  subst (λ f. g.F.Folder.finds c.args.folder.now (codes "settings") (bytes_in f)) c.in-Some.is c.in_ok-bytes.ensures,
  subst (λ xs. IsSetBy (Some xs) c.in-Some-2.settings) c.deref.ensures.value
      (subst (λ (f : Option Settings). IfSome f (λ s. IsSetBy (Some c.deref.result.now) s)) c.in-Some-2.is c.in_ok-settings.ensures),
)
