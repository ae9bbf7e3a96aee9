use Rattle.hook_sharing.specs.Lists.{list_of}
use Rattle.dvvstore.proofs.session.over_stamps.Given as goal

-- the opening's own list
abbrev pub ghosts-over_cluster : goal.ghosts-over_cluster
ghosts-over_cluster g a = record { book = list_of a.opening }
