use Rattle.std.proofs.Common.{List, ℕ, subst}
use Rattle.log_writer.specs.Sheets.{Logged, StandsIn}
use Rattle.log_writer.proofs.Files.{stands}
use Rattle.log_writer.proofs.writer.LogWriter.outlives.Goals as goal

pub returns-clause-crash : goal.returns-clause-crash
returns-clause-crash g c =
    subst (λ (l : Logged g.row.D.Denot). (left : List ℕ) → g.D.Device.may_leave l.device left → StandsIn l.earlier l.forced left) c.self.view_is
    (λ left may. stands c.self.inside.earlier c.self.inside.forced _ left c.self.invariant.1 (c.outlives.ensures.crash left may))

pub returns-clause-kill : goal.returns-clause-kill
returns-clause-kill g c =
    subst (λ (l : Logged g.row.D.Denot). StandsIn l.earlier l.written (g.D.Device.seen l.device)) c.self.view_is
    (stands c.self.inside.earlier c.self.inside.written _ _ c.self.invariant.0 c.outlives.ensures.kill)
