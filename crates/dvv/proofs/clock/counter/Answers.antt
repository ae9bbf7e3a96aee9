use Rattle.std.proofs.Common.{sym}
use Rattle.dvv.proofs.Clocks.{counter_place, counter_gap}
use Rattle.dvv.proofs.clock.counter.Goals as goal

pub returns-in-Ok : goal.returns-in-Ok
returns-in-Ok c = sym (counter_place c.args.entries.now c.in-Ok.at c.args.vnode c.in-Ok.ensures.found)

pub returns-in-Err : goal.returns-in-Err
returns-in-Err c = sym (counter_gap 0 c.args.entries.now _ c.args.vnode c.requires.rising c.in-Err.ensures.gap)
