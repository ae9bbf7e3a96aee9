use Rattle.test_threads.proofs.tests.idle.idle_vnodes.Given as goal

-- the word's own table
abbrev pub ghosts-busy_beside_idle-B-Room : goal.ghosts-busy_beside_idle-B-Room
ghosts-busy_beside_idle-B-Room g a = record { table = a.stamps.table.shared.table_id }

-- the first identifier
abbrev pub ghosts-busy_beside_idle-B-Spot : goal.ghosts-busy_beside_idle-B-Spot
ghosts-busy_beside_idle-B-Spot g a = record { first = 0 }
