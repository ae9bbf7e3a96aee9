use Rattle.std.proofs.Common.{◌∙◌, sym}
use Rattle.key_state.proofs.Compared.{same_dots}
use Rattle.key_state.proofs.few.others_of.Goals as goal

pub returns-then-eq : goal.returns-then-eq
returns-then-eq c = sym c.entries_of.ensures ∙ sym c.as_slice-2.ensures ∙ (same_dots _ _ _ c.eq.ensures).0 c.if-eq.true
