use Rattle.std.proofs.Common.{◌≡◌, ◌<◌, ℕ, Some}
use Rattle.std.specs.Prelude.{slice_get}
use Rattle.world.specs.declared.event.Event.TheVariants.{Load}
use Rattle.script_events.proofs.changing.is_used.Given as goal

-- no load so far is of this index and incarnation
abbrev pub invariant-loop-event : goal.invariant-loop-event
invariant-loop-event l = (place dump : ℕ) → place < l.event-index → slice_get l.events place ≡ Some (Load dump l.vnode l.incarnation) → ⊥
