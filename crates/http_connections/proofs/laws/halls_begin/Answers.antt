use Rattle.std.proofs.Common.{refl, sym, subst, []}
use Rattle.http_connections.specs.Sockets.{Socket}
use Rattle.http_connections.specs.Halls.{Stands}
use Rattle.http_connections.proofs.HallLemmas.{nobody}
use Rattle.http_connections.proofs.laws.halls_begin.Goals as goal

pub returns-clause-stands : goal.returns-clause-stands
returns-clause-stands g c = λ start sockets seats unborn none. record {
  same = refl;
  log = [];
  runs = refl;
  each = λ n. subst (λ (s : Socket). Stands (g.B.Backend.copies start) s.state (seats n) s []) (sym (unborn n)) (refl, none n, refl);
}

pub returns-clause-rest : goal.returns-clause-rest
returns-clause-rest g c = λ sockets seats none n it seated. nobody (seats n) (none n) it seated
