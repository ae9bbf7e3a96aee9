use Rattle.std.proofs.Common.{◌≡◌, List, length, refl, ap, arith}
use Rattle.script_events.specs.declared.script.Answered.{Answered}
use Rattle.script_events.specs.Asking.{none}
use Rattle.script_events.proofs.Asked.{nothing_stands}
use Rattle.script_events.proofs.Growing.{nothing_runs}
use Rattle.script_events.proofs.script.parse_from.Goals as goal

pub read_lines-requires-clause-runnable : goal.read_lines-requires-clause-runnable
read_lines-requires-clause-runnable g c = nothing_runs _ _ _ refl c.new.ensures.items c.new-2.ensures.items

pub read_lines-requires-clause-empty : goal.read_lines-requires-clause-empty
read_lines-requires-clause-empty g c = let none : length c.new-2.result.items ≡ 0 = ap (λ (lines : List Answered). length lines) c.new-2.ensures.items in omega (arith, none)

pub read_lines-requires-clause-start : goal.read_lines-requires-clause-start
read_lines-requires-clause-start g c = none _ refl c.new.ensures.items c.new-2.ensures.items (nothing_stands c.new-3.result c.new-3.ensures.empty) (nothing_stands c.new-4.result c.new-4.ensures.empty)
