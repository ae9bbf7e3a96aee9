use Rattle.shared_prefix.specs.Lists.{book_of}
use Rattle.dvvstore.proofs.network.keep_over.Given as goal

-- the list's own book
abbrev pub ghosts-keep_logged : goal.ghosts-keep_logged
ghosts-keep_logged g a = record { book = book_of a.list }
