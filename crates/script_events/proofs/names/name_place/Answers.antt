use Rattle.script_events.proofs.Asked.{stands_so}
use Rattle.script_events.proofs.names.name_place.Goals as goal

pub returns : goal.returns
returns c = stands_so c.args.name.now c.args.places.now c.insert.new.self _ c.in_ok-insert.ensures.updates
