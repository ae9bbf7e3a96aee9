use Rattle.hook_sharing.specs.Lists.{list_of}
use Rattle.test_hooks.proofs.tests.sharing.installer_and_workers.Given as goal

-- the list's own name
abbrev pub ghosts-under_a_name : goal.ghosts-under_a_name
ghosts-under_a_name g a = record { book = list_of a.opening }
