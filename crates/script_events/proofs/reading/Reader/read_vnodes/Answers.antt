use Rattle.std.proofs.Common.{arith}
use Rattle.script_events.proofs.Growing.{runs_over}
use Rattle.script_events.proofs.reading.Reader.read_vnodes.Goals as goal

pub returns-clause-runnable : goal.returns-clause-runnable
returns-clause-runnable c used listed runnable = record { few = omega arith; events = runs_over used c.args.self.now.script.vnodes c.args.count listed c.args.self.now.script.events.items c.if-self-ne0.false runnable.events; told = runnable.told }
