use Rattle.std.proofs.Common.{◌∙◌, sym}
use Rattle.std.proofs.lemmas.Bool.Decides.{Decides-eqb}
use Rattle.std.proofs.lemmas.Slice.Eq.{slice_eq-Decides}
use Rattle.kept_folder.proofs.lines.number_in.Goals as goal

pub returns-then-eq : goal.returns-then-eq
returns-then-eq c = sym ((slice_eq-Decides Decides-eqb c.as_bytes.result.now c.args.bytes.now c.eq.result c.eq.ensures).0 c.if-eq.true) ∙ c.as_bytes.ensures.value ∙ c.in_ok-line_of.ensures
