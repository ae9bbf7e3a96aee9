use Rattle.std.proofs.Common.{ℕ, List, refl, subst, string_bytes}
use Rattle.std.specs.Io.KnownBytes.{Appends}
use Rattle.script_run.specs.Printing.{whole, up_to}
use Rattle.script_run.proofs.Clauses.{at_some, at_none}
use Rattle.script_run.proofs.printing.sim.Goals as goal

pub returns-in-None-clause-simulated : goal.returns-in-None-clause-simulated
returns-in-None-clause-simulated g c =
    whole (string_bytes c.in-Ok.text) refl (at_none _ _ _ c.in-None.is c.in-Ok.ensures)
    (subst (λ (bs : List ℕ). Appends (g.O.Write.contents c.args.out.now) (g.O.Write.contents c.write_all-2.new.self) bs) c.as_bytes.ensures.value c.in_ok-write_all-2.ensures.bytes)

pub returns-clause-simulated : goal.returns-clause-simulated
returns-clause-simulated g c =
    up_to (string_bytes c.in-Ok.text) refl (at_some _ _ _ _ c.in-Some.is c.in-Ok.ensures)
    (subst (λ (bs : List ℕ). Appends (g.O.Write.contents c.args.out.now) (g.O.Write.contents c.write_all-2.new.self) bs) c.as_bytes.ensures.value c.in_ok-write_all-2.ensures.bytes)
