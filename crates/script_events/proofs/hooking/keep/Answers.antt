use Rattle.script_events.proofs.Asked.{stands_so}
use Rattle.script_events.proofs.hooking.keep.Goals as goal

pub returns-clause-stands : goal.returns-clause-stands
returns-clause-stands c = rw c.as_bytes.ensures.value at (stands_so c.as_bytes.result.now c.args.kept.now c.insert.new.self _ c.in_ok-insert.ensures.updates)
