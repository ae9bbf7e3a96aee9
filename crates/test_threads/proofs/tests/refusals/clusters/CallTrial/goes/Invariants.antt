use Rattle.test_threads.proofs.tests.refusals.clusters.CallTrial.goes.Given as goal

-- the word's own table
abbrev pub ghosts-put_first : goal.ghosts-put_first
ghosts-put_first g a = record { table = a.stamps.table.shared.table_id }
