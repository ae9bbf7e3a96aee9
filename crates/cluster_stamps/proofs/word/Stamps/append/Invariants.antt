use Rattle.cluster_stamps.specs.Rule.{call_of}
use Rattle.cluster_stamps.proofs.word.Stamps.append.Given as goal

abbrev pub ghosts-append_as : goal.ghosts-append_as
ghosts-append_as g a = record { call = call_of a.vnode a.at a.stamp g.Q.Asking.request a.outcome.now }
