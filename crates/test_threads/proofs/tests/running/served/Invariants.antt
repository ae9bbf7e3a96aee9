use Rattle.test_threads.proofs.tests.running.served.Given as goal

-- the word's own table
abbrev pub ghosts-by_staff : goal.ghosts-by_staff
ghosts-by_staff g a = record { table = a.stamps.table.shared.table_id }
