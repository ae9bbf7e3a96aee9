use Rattle.std.proofs.Common.{List, ap, arith}
use Rattle.dvv.specs.declared.Dot.{Dot}
use Rattle.dvv.specs.Clock.{counter}
use Rattle.dvv.proofs.Clocks.{counter_limit}
use Rattle.dvv.proofs.clock.Clock.counter.Goals as goal

pub returns-clause-limit : goal.returns-clause-limit
returns-clause-limit c = omega (arith, c.counter.ensures, ap (λ (es : List Dot). counter es c.args.vnode) c.deref.ensures, counter_limit 0 c.self.inside.entries.items c.args.vnode c.self.invariant.rising)
