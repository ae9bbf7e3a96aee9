use Rattle.log_system.proofs.Steps.{leaves_no_more}
use Rattle.log_system.proofs.system.SystemLogDevice.force.Goals as goal

pub returns-clause-crash : goal.returns-clause-crash
returns-clause-crash c = leaves_no_more c.args.self.now.history.calls c.synced.new.self.calls _ c.synced.ensures
