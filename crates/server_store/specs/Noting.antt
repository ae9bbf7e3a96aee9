-- Which answers to reads and writes are noted, for who runs the server: want of memory, and hooks that decide nothing. What is everyday isn't noted,
-- as too few copies, a context that is ahead, or a write that a hook rejects (this store's profile).
use Rattle.std.specs.Prelude.{Option, None, Some, Result, Ok, Err}
use Rattle.hook_run.specs.declared.resolving.Unresolved.TheVariants as unresolved
use Rattle.peers.specs.declared.fault.PeerFault.TheVariants as peer
use Rattle.quorum.specs.declared.fault.QuorumFault.{QuorumFault}
use Rattle.quorum.specs.declared.fault.QuorumFault.TheVariants as quorum
use Rattle.quorum.specs.declared.fault.ResolveFault.{ResolveFault}
use Rattle.quorum.specs.declared.fault.ResolveFault.TheVariants as resolve
use Rattle.quorum.specs.declared.fault.Unfit.{Unfit}
use Rattle.quorum.specs.declared.fault.Unfit.TheVariants as unfit
use Rattle.vnode.specs.declared.fault.VnodeFault.{VnodeFault}
use Rattle.vnode.specs.declared.fault.VnodeFault.TheVariants as vnode
use Rattle.server_log.specs.declared.trouble.HookTrouble.TheVariants.{Unseen, Disagrees, TooLarge, BadAnswer}
use Rattle.server_log.specs.declared.trouble.Trouble.{Trouble}
use Rattle.server_log.specs.declared.trouble.Trouble.TheVariants.{NoMemory, PreCommit, Resolver, Unwritten}

-- by whether memory lacked at a vnode
abbrev pub by_memory : {A : Type 0} → A → A → VnodeFault → A
by_memory lacked other vnode.ContextAhead = other
by_memory lacked other vnode.TooManySiblings = other
by_memory lacked other vnode.ClockFull = other
by_memory lacked other vnode.MergedClockFull = other
by_memory lacked other vnode.JournalFull = other
by_memory lacked other vnode.NoMemory = lacked

-- of a read or a write that was refused
abbrev pub of_fault : QuorumFault → Option Trouble
of_fault quorum.TooFew = None
of_fault (quorum.Refused why) = by_memory (Some NoMemory) None why
of_fault quorum.Unseen = Some (PreCommit Unseen)
of_fault quorum.Disagrees = Some (PreCommit Disagrees)
of_fault quorum.TooLarge = Some (PreCommit TooLarge)
of_fault (quorum.BadVerdict bad) = Some (PreCommit BadAnswer)
of_fault (quorum.Rejected code) = None

-- of what a resolver was to write, where it is left out
abbrev pub of_cut : ResolveFault → Trouble
of_cut resolve.Unseen = Resolver Unseen
of_cut (resolve.Undecided unresolved.Disagrees) = Resolver Disagrees
of_cut (resolve.Undecided unresolved.NoMemory) = NoMemory
of_cut (resolve.Cut peer.Lost) = Unwritten
of_cut (resolve.Cut (peer.Refused why)) = by_memory NoMemory Unwritten why

-- of a resolver that chose nothing
abbrev pub of_unfit : Unfit → Trouble
of_unfit unfit.TooLarge = Resolver TooLarge
of_unfit (unfit.Bad bad) = Resolver BadAnswer

-- of a read that was answered
abbrev pub of_resolver : Option ResolveFault → Option Unfit → Option Trouble
of_resolver (Some cut) unfit = Some (of_cut cut)
of_resolver None (Some unfit) = Some (of_unfit unfit)
of_resolver None None = None

-- of a write
abbrev pub of_put : {T : Type 0} → Result T QuorumFault → Option Trouble
of_put (Ok answer) = None
of_put (Err fault) = of_fault fault

-- of a read, by what is told beside its answer
abbrev pub of_read : {T : Type 0} → Result T QuorumFault → Option ResolveFault → Option Unfit → Option Trouble
of_read (Ok answer) cut unfit = of_resolver cut unfit
of_read (Err fault) cut unfit = of_fault fault
