use Rattle.context_token.specs.Layouts.{layout}
use Rattle.context_token.proofs.Entries.{IsReading}
use Rattle.context_token.proofs.reading.entries_of.Given as goal

-- the entries so far, and those of the rest
abbrev pub invariant-loop : goal.invariant-loop
invariant-loop l = IsReading (layout l.version) l.count l.counter l.bytes l.rest l.entries.items
