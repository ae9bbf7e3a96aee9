-- Threads may share what workers share: a watch under a lock may be handed from one to another.
use denote.RattleType.{RattleType}
use denote.Param.Send.{IsSend, IsSync, sendable, shr_send, shr_sync}
use denote.Param.SendFields.{declared_send, declared_sync}
use Rattle.std.proofs.Crossing.{crosses}
use Rattle.std.specs.contracts.sync.Mutex as Mutex
use Rattle.audit_cluster.specs.contracts.watch.Watch as Watch
use Rattle.audit_cluster.specs.declared.watch.Spot as spot
use Rattle.audit_cluster.proofs.Sent.{watch_send}
use Rattle.cluster_vnode.specs.declared.pass.Room as room
use Rattle.dvvstore.specs.contracts.crew.working.Lookout as Lookout
use Rattle.dvvstore.specs.contracts.crew.working.Shared as Shared
use Rattle.std.proofs.option.Option.TheSendSync as option
use Rattle.std.specs.contracts.option.Option as Option
use Rattle.std.specs.contracts.vec.Vec as Vec
use Rattle.std.specs.contracts.alloc.Global as Heap
use Rattle.std.specs.contracts.impls.GlobalAllocator.TheImpl.{ghosts}
use Rattle.std.proofs.alloc.Global.TheSendSync as heap
use Rattle.cluster.proofs.Sent.{cluster_sync}
use Rattle.cluster_peers.specs.contracts.calling.ClusterPeers as ClusterPeers
use Rattle.cluster_peers.specs.contracts.calling.ClusterPeers.TheInside as Inside
use Rattle.cluster_vnode.specs.contracts.pass.Pass as Pass
use Rattle.kept_restore.proofs.Sent.{pass_send}
use Rattle.dvvstore.specs.contracts.saver.Saver as Saver
use Rattle.dvvstore.proofs.crew.reporter.Reporter.TheSendSync as reporter
use Rattle.dvvstore.proofs.crew.scribe.Filing.TheSendSync as filing
use Rattle.dvvstore.specs.contracts.crew.scribe.Filing as Filing
use Rattle.dvvstore.proofs.saver.Saver.TheSendSync as saver
use Rattle.dvvstore.specs.contracts.saver.Side as Side
use Rattle.dvvstore.specs.contracts.saver.Shelf as Shelf
use Rattle.dvvstore.proofs.saver.Shelf.TheSendSync as shelf
use Rattle.dvvstore.specs.contracts.crew.signs.Signs as Signs
use Rattle.dvvstore.specs.contracts.beginning.Load as Load
use Rattle.dvvstore.proofs.beginning.Load.TheSendSync as load
use Rattle.kept_folder.proofs.writing.Unreplaced.TheSendSync as unreplaced
use Rattle.kept_hooks.specs.contracts.list.Requests as Requests
use Rattle.kept_hooks.proofs.list.Requests.TheSendSync as requests
use Rattle.kept_hooks.proofs.writes.Writes.TheSendSync as writes
use Rattle.server_accept.proofs.Sent.{lobby_sync}

lock_sync : (B : RattleType) (g : room.Ghosts B.Denot) (h : spot.Ghosts B.Denot) → IsSend B → IsSync (Mutex.the_row (Watch.the_row B g h))
lock_sync B g h s = search (watch_send, sendable, crosses) depth 40

-- so may requests that make hooks what they are
requests_sync : IsSync (Mutex.the_row Requests.the_row)
requests_sync = search (requests.the_send, sendable, crosses) depth 40

-- so may the right to write these
filing_sync : IsSync (Mutex.the_row Filing.the_row)
filing_sync = search (filing.the_send, sendable, crosses) depth 40

pub shared_sync : (l : _) (B L : RattleType) (g : room.Ghosts B.Denot) (h : spot.Ghosts B.Denot) → IsSend B → IsSync L → IsSync (Shared.the_row l B L g h)
shared_sync l B L g h s y =
    declared_sync (Shared.the_type l B L g h) (
      shr_sync _ _ _ y,
      (
        filing_sync,
        (
          lock_sync B g h s,
          (
            requests_sync,
            (
              search (sendable, crosses) depth 20,
              (
                reporter.the_sync,
                (
                  search (sendable, crosses) depth 20,
                  (
                    search (sendable, crosses) depth 20,
                    (search (sendable, crosses) depth 20, (search (sendable, crosses) depth 20, (search (sendable, crosses) depth 20, (writes.the_sync, tt)))),
                  ),
                ),
              ),
            ),
          ),
        ),
      ),
    )

-- a thread may be handed who follows
pub lookout_send : (B : RattleType) (g : room.Ghosts B.Denot) (h : spot.Ghosts B.Denot) → IsSend B → IsSend (Lookout.the_row B g h)
lookout_send B g h s = search (watch_send, requests.the_send, sendable, crosses) depth 40 fits 20000

saver_alone : (F : RattleType) → IsSend F → IsSend (Saver.the_row F)
saver_alone F s = search (saver.the_send, s, sendable, crosses) depth 40

pub spares_alone : (B : RattleType) (g : room.Ghosts B.Denot) → IsSend B → IsSend (Vec.the_row (Pass.the_row B g) Heap.the_row ghosts)
spares_alone B g s = search (pass_send, sendable, crosses) depth 30

-- the thread beside the workers may be handed who makes snapshots, if somebody does
pub saver_send : (F : RattleType) → IsSend F → IsSend (Option.the_row (Saver.the_row F))
saver_send F s = option.the_send _ (saver_alone F s)

-- a thread may be handed how a vnode is read, and look where files stand and at what is done beside the workers
inside_send : (l : _) (B R : RattleType) (g : room.Ghosts B.Denot) → IsSend B → IsSync B → IsSync R → IsSend (Inside.the_row l B R g)
inside_send l B R g s y r =
    declared_send (Inside.the_type l B R g) (heap.the_send, (shr_send _ _ _ r, (shr_send _ _ _ (cluster_sync B g s y), (pass_send B g s, (search sendable depth 20, tt)))))

peers_send : (l : _) (B R : RattleType) (g : room.Ghosts B.Denot) → IsSend (Inside.the_row l B R g) → IsSend (ClusterPeers.the_row l B R g)
peers_send l B R g s = search (s, sendable) depth 20

pub side_send : (l : _) (B R : RattleType) (g : room.Ghosts B.Denot) → IsSend B → IsSync B → IsSync R → IsSend (Side.the_row l B R g)
side_send l B R g s y r = declared_send (Side.the_type l B R g) (peers_send l B R g (inside_send l B R g s y r), (search (unreplaced.the_send, sendable, crosses) depth 30, tt))

pub shelf_sync : (F : RattleType) → IsSync F → IsSync (Shelf.the_row F)
shelf_sync F s = search (shelf.the_sync, s, sendable, crosses) depth 40

pub signs_sync : (l : _) → IsSync (Signs.the_row l)
signs_sync l = search (lobby_sync, requests_sync, filing_sync, writes.the_sync, sendable, crosses) depth 60 fits 20000

-- those who take records over may share what they and who follows tell each other
pub load_sync : (l : _) (R : RattleType) → IsSync R → IsSync (Load.the_row l R)
load_sync l R s = search (load.the_sync, s, sendable, crosses) depth 60
