use Rattle.dvvstore.proofs.session.over_files.Given as goal

-- the word's own table
abbrev pub ghosts-over_stamps-B-Room : goal.ghosts-over_stamps-B-Room
ghosts-over_stamps-B-Room g a = record { table = a.undrawn.stamps.table.shared.table_id }

-- the first identifier
abbrev pub ghosts-over_stamps-B-Spot : goal.ghosts-over_stamps-B-Spot
ghosts-over_stamps-B-Spot g a = record { first = a.undrawn.making.first }
