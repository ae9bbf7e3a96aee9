use Rattle.std.proofs.Common.{◌∙◌, ◌∷◌, [], append_assoc, sym}
use Rattle.std.specs.Prelude.{decimal}
use Rattle.kept_folder.proofs.lines.line_of.Goals as goal

pub returns : goal.returns
returns c = c.in_ok-line.ensures.ok ∙ sym (append_assoc c.args.word.now (decimal c.args.number) (10 ∷ []))
