-- Which answer a refusal is.
use Rattle.key_state.specs.declared.fault.MergeFault as merge
use Rattle.vnode.specs.declared.fault.VnodeFault as vnode
use Rattle.hook_run.specs.declared.deciding.RunFault as run
use Rattle.peers.specs.declared.fault.PeerFault as peer
use Rattle.quorum.specs.declared.fault.QuorumFault as quorum

-- what came of a get can't be merged
abbrev pub fault_of_merge : merge.MergeFault → quorum.QuorumFault
fault_of_merge merge.TheVariants.ClockFull = quorum.TheVariants.Refused vnode.TheVariants.MergedClockFull
fault_of_merge merge.TheVariants.NoMemory = quorum.TheVariants.Refused vnode.TheVariants.NoMemory

-- what a coordinator's failure answers: too few where it was lost, else its refusal
abbrev pub fault_of : peer.PeerFault → quorum.QuorumFault
fault_of peer.TheVariants.Lost = quorum.TheVariants.TooFew
fault_of (peer.TheVariants.Refused fault) = quorum.TheVariants.Refused fault

-- why a hook that was found let nothing through
abbrev pub fault_of_run : run.RunFault → quorum.QuorumFault
fault_of_run run.TheVariants.Disagrees = quorum.TheVariants.Disagrees
fault_of_run run.TheVariants.TooLarge = quorum.TheVariants.TooLarge
fault_of_run (run.TheVariants.Bad bad) = quorum.TheVariants.BadVerdict bad
fault_of_run run.TheVariants.NoMemory = quorum.TheVariants.Refused vnode.TheVariants.NoMemory
