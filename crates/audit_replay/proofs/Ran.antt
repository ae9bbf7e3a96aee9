-- Steps that happened are a run.
use Rattle.std.proofs.Common.{List, [], ◌∷◌, ◌++◌, refl, subst}
use Rattle.journal.specs.Logs.{Log}
use Rattle.world.specs.declared.event.Event.{Event}
use Rattle.world.specs.declared.event.Reply.{Reply}
use Rattle.world.specs.Happening.{Happens, Run}
use Rattle.world.specs.Knowledge.{Knowledge}
use Rattle.audit_replay.specs.Order.{Step}
use Rattle.audit_replay.specs.Interleaved.{Happened, nothing, one_more}

-- one event more of a run
run_more : (old : Knowledge) (events : List Event) (replies : List Reply) (known : Knowledge) (event : Event) (reply : Reply) (new : Knowledge) → Run [] old events replies known → Happens [] known event reply new → Run [] old (events ++ event ∷ []) (replies ++ reply ∷ []) new
run_more old [] [] known event reply new run happens = (new, subst (λ (w : Knowledge). Happens [] w event reply new) run happens, refl)
run_more old (e ∷ es) (r ∷ rs) known event reply new run happens = (run.0, run.1, run_more run.0 es rs known event reply new run.2 happens)
run_more old [] (r ∷ rs) known event reply new run happens = absurd run
run_more old (e ∷ es) [] known event reply new run happens = absurd run

-- steps that happened are a run
pub run_of : (begin : Knowledge) (logs : List Log) (steps : List Step) (replies : List Reply) (known : Knowledge) → Happened begin logs steps replies known → (events : List Event) × Run [] begin events replies known
run_of begin logs _ _ _ nothing = ([], refl)
run_of begin logs _ _ _ (one_more steps replies old step what reply new before is happens) =
    let r = run_of begin logs steps replies old before in
    (r.0 ++ what ∷ [], run_more begin r.0 replies old what reply new r.1 happens)
