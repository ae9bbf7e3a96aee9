use denote.Param.Send.{sendable}
use Rattle.std.proofs.Crossing.{crosses}
use Rattle.server_accept.proofs.Sent.{lobby_sync}
use Rattle.dvvstore.proofs.tests.two_workers.Goals as goal

pub join-answered-requires-send-F : goal.join-answered-requires-send-F
join-answered-requires-send-F g c κs within = search (lobby_sync, sendable, crosses) depth 40 fits 20000
