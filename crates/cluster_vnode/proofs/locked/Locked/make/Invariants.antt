use Rattle.cluster_stamps.specs.Answered.{asked}
use Rattle.cluster_vnode.proofs.locked.Locked.make.Given as goal

abbrev pub ghosts-ask : goal.ghosts-ask
ghosts-ask g a = record { request = asked a.prepared }
