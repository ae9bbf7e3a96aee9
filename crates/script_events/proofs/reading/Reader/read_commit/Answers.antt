use Rattle.std.proofs.Common.{List, subst, arith, refl}
use Rattle.world.specs.declared.event.Event.{Event}
use Rattle.world.specs.Running.{IsRunAt}
use Rattle.script_events.proofs.Growing.{one_more}
use Rattle.script_events.proofs.reading.Reader.read_commit.Goals as goal

pub returns-in-Some-clause-runnable : goal.returns-in-Some-clause-runnable
returns-in-Some-clause-runnable c used listed runnable =
    one_more _ _ _ _ _ _ runnable (omega arith, subst (λ (es : List Event). IsRunAt es c.in-Some.run') c.deref.ensures.value c.in-Some.ensures.of_sort) c.in_ok-push.ensures.more refl
