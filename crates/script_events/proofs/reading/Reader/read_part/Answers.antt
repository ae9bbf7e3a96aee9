use Rattle.std.proofs.Common.{List, subst}
use Rattle.world.specs.declared.event.Event.{Event}
use Rattle.world.specs.Running.{IsSummaryAt}
use Rattle.script_events.proofs.reading.Reader.read_part.Goals as goal

pub push_part-requires-clause-earlier : goal.push_part-requires-clause-earlier
push_part-requires-clause-earlier c = subst (λ (es : List Event). IsSummaryAt es c.in-Some.summary) c.deref.ensures.value c.in-Some.ensures.of_sort
