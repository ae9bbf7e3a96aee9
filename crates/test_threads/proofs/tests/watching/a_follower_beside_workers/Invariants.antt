use Rattle.test_threads.proofs.tests.watching.a_follower_beside_workers.Given as goal

-- the word's own table
abbrev pub ghosts-watched_meanwhile-B-Room : goal.ghosts-watched_meanwhile-B-Room
ghosts-watched_meanwhile-B-Room g a = record { table = a.stamps.table.shared.table_id }

-- the first identifier
abbrev pub ghosts-watched_meanwhile-B-Spot : goal.ghosts-watched_meanwhile-B-Spot
ghosts-watched_meanwhile-B-Spot g a = record { first = 0 }
