use Rattle.log_system.proofs.Steps.{grows}
use Rattle.log_system.proofs.system.SystemLogDevice.append.Goals as goal

pub returns-clause-partly : goal.returns-clause-partly
returns-clause-partly c = grows c.args.bytes.now c.args.self.now.history.calls c.wrote.new.self.calls _ c.wrote.ensures.0 c.wrote.ensures.1
