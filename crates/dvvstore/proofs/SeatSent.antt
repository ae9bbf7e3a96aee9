-- Threads may be handed a seat, where the helpers' closures may: what a table owns of them stands in boxes, of which `search` reads nothing.
use denote.RattleType.{RattleType}
use denote.Bor.{Bor}
use denote.Param.Members.{Mut}
use denote.Param.Object.{Ghosts, table_of}
use denote.Param.Send.{IsSend, sendable}
use denote.Param.SendFields.{declared_send, as_row_send}
use denote.Param.Sent.{Sends}
use mathlib.Core.List.{List}
use Prim.Native.Nat.{ℕ}
use Rattle.std.proofs.Crossing.{crosses, dyn_box_send}
use Rattle.std.proofs.alloc.Global.TheSendSync as heap
use Rattle.std.specs.contracts.dyn_box.DynBox as Dyn
use Rattle.std.specs.contracts.alloc.Global as Heap
use Rattle.std.specs.contracts.impls.GlobalAllocator.TheImpl.{ghosts}
use Rattle.bpf_helpers.proofs.sig.Sig.TheSendSync as sig
use Rattle.bpf_helpers.proofs.sigs.Sigs.TheSendSync as sigs
use Rattle.bpf_helpers.specs.contracts.helper.Helper as Helper
use Rattle.bpf_helpers.specs.contracts.table.Table as Table
use Rattle.quorum.specs.contracts.hooking.Hooking as Hooking
use Rattle.cluster_vnode.proofs.pass.Pass.TheSendSync as pass
use Rattle.cluster_vnode.specs.declared.pass.Room as room
use Rattle.dvvstore.proofs.crew.aside.Aside.TheSendSync as aside
use Rattle.dvvstore.specs.contracts.crew.working.Seat as Seat

-- D, d, f: the closures of this program, and what they may answer
module _ (D : RattleType) (d : Ghosts D.Denot) (f : Mut ((x : D.Denot) × (d.1.0 x).0.Denot) (List ℕ × (Bor (List ℕ) × (Bor (List ℕ) × Unit {0}))) ℕ) (v : IsSend D) (s : Sends (table_of D.Denot d)) where
  helper_send : IsSend (Helper.the_row D d f)
  helper_send = declared_send (Helper.the_type D d f) (search sendable, (sig.the_send, (as_row_send (Dyn.the_field D Heap.the_row d ghosts) (dyn_box_send D d s v), tt)))

  table_send : IsSend (Table.the_row D d f)
  table_send = declared_send (Table.the_type D d f) (sigs.the_send, (search (helper_send, sendable, crosses) depth 20, (search sendable depth 20, tt)))

  hooking_send : (H : RattleType) → IsSend H → IsSend (Hooking.the_row H D d f)
  hooking_send H h = declared_send (Hooking.the_type H D d f) (search (h, sendable), (table_send, (search (sendable, crosses) depth 40 fits 20000, (heap.the_send, tt))))

  pub seat_send : (B H : RattleType) (g : room.Ghosts B.Denot) → IsSend B → IsSend H → IsSend (Seat.the_row B H D g d f)
  seat_send B H g b h = declared_send (Seat.the_type B H D g d f) (search (pass.the_send, sendable, crosses) depth 30, (search (aside.the_send, pass.the_send, sendable, crosses) depth 30, (hooking_send H h, (search (sendable, crosses) depth 30, (search sendable depth 30, tt)))))
