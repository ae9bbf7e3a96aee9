use Rattle.std.proofs.Common.{sym, subst}
use Rattle.std.specs.Prelude.{List, Contains, ◌↔◌}
use Rattle.dvv.specs.declared.Dot.{Dot}
use Rattle.dvv.specs.Clock.{IsGreatest}
use Rattle.dvv.proofs.Clocks.{greatest_entries}
use Rattle.dvv.proofs.clock.Clock.entries.Goals as goal

pub returns-clause-greatest : goal.returns-clause-greatest
returns-clause-greatest c d =
    subst (λ (es : List Dot). Contains es d ↔ IsGreatest c.args.self.now d) (sym c.as_slice.ensures)
    (subst (λ (es : List Dot). Contains c.self.inside.entries.items d ↔ IsGreatest es d) c.self.view_is (greatest_entries _ c.self.invariant.rising d))
