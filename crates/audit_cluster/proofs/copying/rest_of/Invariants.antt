use Rattle.std.proofs.Common.{◌≡◌, ◌≤◌, ◌++◌, drop}
use Rattle.audit_cluster.proofs.copying.rest_of.Given as goal

-- the copies so far, and then the entries from there on, are all from the first on
abbrev pub invariant-loop-place : goal.invariant-loop-place
invariant-loop-place l = record { all : l.rest.items ++ drop l.place l.journal.log.entries ≡ drop l.journal.first l.journal.log.entries; from : l.journal.first ≤ l.place }
