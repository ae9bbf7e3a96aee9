use Rattle.cluster_stamps.specs.Rule.{call_of}
use Rattle.cluster_stamps.proofs.word.Stamps.note.Given as goal

abbrev pub ghosts-note_as : goal.ghosts-note_as
ghosts-note_as g a = record { call = call_of a.vnode a.at a.stamp g.Q.Asking.request a.outcome.now }
