use Rattle.std.proofs.Common.{refl, Ok, Some}
use Rattle.http_connections.proofs.hall.Hall.admit.Goals as goal

pub returns-in-Ok-Some : goal.returns-in-Ok-Some
returns-in-Ok-Some g c = (
  Ok (Some c.in-Ok-Some.number),
  c.accept.new.self,
  rw c.in-Ok-Some.field-0-is at c.in-Ok-Some.ensures.answers,
  refl,
  λ copies log old shown all.
      let came = (rw c.in-Ok-Some.field-0-is at c.in-Ok-Some.ensures.came) old shown in
      c.greet.ensures copies log old came.0 came.1 all came.2.0 came.2.1,
)
