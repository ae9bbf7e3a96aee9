use Rattle.std.proofs.Common.{subst}
use Rattle.script_run.specs.Printing.{Simulated}
use Rattle.commands.proofs.simulate.simulate.Goals as goal

pub returns-clause-simulated : goal.returns-clause-simulated
returns-clause-simulated g c = record {
  script = c.in_ok-script.script.items;
  from_script = c.in_ok-script.ensures;
  simulated = subst (λ xs. Simulated c.args.table.now.listed xs (g.O.Write.contents c.args.streams.now.out) (g.O.Write.contents c.sim.new.out) c.in_ok-sim.field-0) c.deref.ensures.value c.in_ok-sim.ensures.simulated;
}
