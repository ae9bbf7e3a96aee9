use Rattle.std.proofs.Common.{◌≡◌, length}
use Rattle.http_connection.specs.Device.{Sends}
use Rattle.http_connection.proofs.device.send.Given as goal

abbrev pub invariant-loop-rest : goal.invariant-loop-rest
invariant-loop-rest g l =
    Sends (g.W.Sink.contents l.initial.sink) (g.W.Sink.contents l.sink) l.bytes l.rest
    × (g.W.Sink.failures l.sink ≡ g.W.Sink.failures l.initial.sink)

abbrev pub decreases-loop-rest : goal.decreases-loop-rest
decreases-loop-rest g l = length l.rest
