use Rattle.world.proofs.Merges.{record_left, nothing_left}
use Rattle.world.proofs.record_laws.merges_leave_records.Goals as goal

pub returns-clause-there : goal.returns-clause-there
returns-clause-there c = record_left

pub returns-clause-elsewhere : goal.returns-clause-elsewhere
returns-clause-elsewhere c = nothing_left
