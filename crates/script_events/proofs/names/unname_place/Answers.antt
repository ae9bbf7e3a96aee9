use Rattle.script_events.proofs.Asked.{stands_so}
use Rattle.script_events.proofs.names.unname_place.Goals as goal

pub returns : goal.returns
returns c = stands_so c.args.name.now c.args.places.now c.remove.new.self _ c.remove.ensures.updates
