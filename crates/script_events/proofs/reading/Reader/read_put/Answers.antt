use Rattle.script_events.specs.Asking.{reading_of}
use Rattle.script_events.proofs.Asked.{seen_earlier}
use Rattle.script_events.proofs.reading.Reader.read_put.Goals as goal

pub push_put-requires-clause-earlier : goal.push_put-requires-clause-earlier
push_put-requires-clause-earlier c = seen_earlier c.args.context (reading_of c.args.self.now) c.in-Seen.seen (rw c.in-Seen.is at c.in_ok-seen.ensures)
