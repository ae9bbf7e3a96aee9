use Rattle.std.proofs.Common.{refl}
use Rattle.http_connections.specs.Halls.{seat_at}
use Rattle.http_connections.proofs.HallLemmas.{rest_more, rest_all}
use Rattle.http_connections.proofs.hall.Hall.turn.Goals as goal

pub loop-number-preserved : goal.loop-number-preserved
loop-number-preserved g c = λ start old shown h.
    let mid = c.loop-number.invariant start old shown h in
    let next = c.attend.ensures.stands start mid.0 mid.1 mid.2 in (
      next.0,
      next.1,
      next.2,
      λ all.
          rest_more c.args.reported.now c.loop-number.number-index _ mid.0 next.0 (seat_at c.loop-number.self) (seat_at c.attend.new.self) refl next.3 c.attend.ensures.others next.4
          (mid.3 all),
    )

pub returns : goal.returns
returns g c = record {
  stands = λ start old shown h.
      let last = c.loop-number.invariant start old shown h in
      (last.0, last.1, last.2, λ all. rest_all c.args.reported.now c.loop-number.number-index last.0 (seat_at c.loop-number.self) c.loop-number-test.false (last.3 all));
}
