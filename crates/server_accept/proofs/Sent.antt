-- Threads may share a lobby. The tree of a worker's routes holds itself, so rattle gives no such fact of the types above it.
-- Each is said as a field of the next, where `search` looks for it.
use denote.Param.Send.{IsSend, IsSync, sendable}
use Rattle.std.proofs.Crossing.{crosses}
use Rattle.std.proofs.MapsCrossing.{BTreeMap-send}
use Rattle.matchit.proofs.tree.Node.TheLaws.TheKnot as tree
use Rattle.matchit.specs.contracts.tree.Node as Node
use Rattle.http_parse.specs.contracts.routes.Routes as Routes
use Rattle.http_parse.proofs.known.KnownHead.TheSendSync as known
use Rattle.http_connection.specs.contracts.desk.Desk as Desk
use Rattle.http_connections.proofs.buffer.Buffer.TheSendSync as buffer
use Rattle.http_connections.proofs.seat.Seat.TheSendSync as seat
use Rattle.http_connections.specs.contracts.seats.Seats as Seats
use Rattle.http_connections.specs.contracts.hall.Hall as Hall
use Rattle.mio.proofs.event.events.Events.TheSendSync as events
use Rattle.mio.proofs.waker.Waker.TheSendSync as waker
use Rattle.server_sockets.proofs.inlet.Inlet.TheSendSync as inlet
use Rattle.server_sockets.proofs.sockets.Sockets.TheSendSync as sockets
use Rattle.server_sockets.specs.contracts.worker.Worker as Worker
use Rattle.server_accept.proofs.acceptor.Acceptor.TheSendSync as acceptor
use Rattle.server_accept.proofs.ending.Ending.TheSendSync as ending
use Rattle.server_accept.proofs.snapshots.Snapshots.TheSendSync as snapshots
use Rattle.server_accept.specs.contracts.roster.Post as Post
use Rattle.server_accept.specs.contracts.roster.Waiting as Waiting
use Rattle.server_accept.specs.contracts.roster.Roster as Roster
use Rattle.server_accept.specs.contracts.lobby.Lobby as Lobby

node_send : IsSend Node.the_row
node_send = search (tree.crosses, sendable, crosses) depth 60 fits 20000

routes_send : IsSend (Routes.the_field).row
routes_send = search (node_send, sendable, crosses) depth 60 fits 20000

desk_send : IsSend (Desk.the_field).row
desk_send = search (routes_send, known.the_send, sendable, crosses) depth 60 fits 20000

seats_send : IsSend (Seats.the_field).row
seats_send = search (seat.the_send, BTreeMap-send, sendable, crosses) depth 60 fits 20000

hall_send : IsSend (Hall.the_field).row
hall_send = search (desk_send, buffer.the_field_send, seats_send, sendable, crosses) depth 60 fits 20000

worker_send : IsSend (Worker.the_field).row
worker_send = search (hall_send, sockets.the_field_send, events.the_field_send, sendable, crosses) depth 60 fits 20000

waiting_send : IsSend (Waiting.the_field).row
waiting_send = search (worker_send, sendable, crosses) depth 60 fits 20000

post_sync : IsSync (Post.the_field).row
post_sync = search (waiting_send, inlet.the_field_sync, sendable, crosses) depth 60 fits 20000

roster_sync : IsSync (Roster.the_field).row
roster_sync = search (post_sync, ending.the_field_sync, snapshots.the_field_sync, sendable, crosses) depth 60 fits 20000

pub lobby_sync : IsSync Lobby.the_row
lobby_sync = search (roster_sync, acceptor.the_send, waker.the_field_sync, sendable, crosses) depth 60 fits 20000
