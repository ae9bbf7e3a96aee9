use Rattle.test_threads.proofs.tests.gates.gate_two_vnodes.Given as goal

-- the word's own table
abbrev pub ghosts-by_one_pass : goal.ghosts-by_one_pass
ghosts-by_one_pass g a = record { table = a.stamps.table.shared.table_id }
