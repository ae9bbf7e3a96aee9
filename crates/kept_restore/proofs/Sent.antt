-- Threads may be handed passes, and share the files whose records they take over.
use denote.RattleType.{RattleType}
use denote.Param.Send.{IsSend, IsSync, sendable}
use denote.Struct.Tuple.{TupleAt}
use mir.Syntax.{Sym}
use mathlib.Core.List.{[], ◌∷◌}
use Rattle.std.proofs.Crossing.{crosses}
use Rattle.kept_file.proofs.file.KeptFile.TheSendSync as kept_file
use Rattle.kept_file.specs.contracts.file.KeptFile as KeptFile
use Rattle.cluster_vnode.proofs.pass.Pass.TheSendSync as pass
use Rattle.cluster_vnode.specs.contracts.pass.Pass as Pass
use Rattle.cluster_vnode.specs.declared.pass.Room as room

pub pass_send : (B : RattleType) (g : room.Ghosts B.Denot) → IsSend B → IsSend (Pass.the_row B g)
pass_send B g s = search (pass.the_send, sendable, crosses) depth 30

pub file_sync : IsSync KeptFile.the_row
file_sync = kept_file.the_sync

-- six captures
pub six_send : (ν : Sym) (A B C D E F : RattleType) → IsSend A → IsSend B → IsSend C → IsSend D → IsSend E → IsSend F → IsSend (TupleAt ν (A ∷ B ∷ C ∷ D ∷ E ∷ F ∷ []))
six_send ν A B C D E F a b c d e f = search (sendable) depth 30
