use Rattle.test_threads.proofs.tests.seeds.a_cluster_deals_its_seed.Given as goal

-- the word's own table
abbrev pub ghosts-deals : goal.ghosts-deals
ghosts-deals g a = record { table = a.stamps.table.shared.table_id }
