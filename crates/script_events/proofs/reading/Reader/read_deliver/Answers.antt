use Rattle.std.proofs.Common.{List, subst, arith, refl}
use Rattle.world.specs.declared.event.Event.{Event}
use Rattle.world.specs.Running.{IsMessageAt}
use Rattle.script_events.proofs.Growing.{one_more}
use Rattle.script_events.proofs.reading.Reader.read_deliver.Goals as goal

pub returns-clause-runnable : goal.returns-clause-runnable
returns-clause-runnable c used listed runnable = one_more _ _ _ _ _ _ runnable (omega arith, subst (λ (es : List Event). IsMessageAt es c.in-Some.message) c.deref.ensures.value c.in-Some.ensures.of_sort) c.in_ok-push.ensures.more refl

pub returns-clause-asks : goal.returns-clause-asks
returns-clause-asks c =
    (c.in-Some.message, c.in-Some.ensures.named, subst (λ (es : List Event). IsMessageAt es c.in-Some.message) c.deref.ensures.value c.in-Some.ensures.of_sort, (c.in_ok-push.ensures.more, λ name. refl, λ name. refl))
