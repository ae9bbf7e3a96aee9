use Rattle.world.proofs.Merges.{merged_journal}
use Rattle.world.proofs.record_laws.merges_are_a_journal.Goals as goal

pub returns : goal.returns
returns c = merged_journal
