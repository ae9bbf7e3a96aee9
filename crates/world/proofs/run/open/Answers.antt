use Rattle.std.proofs.Common.{ℕ, List, [], ◌∷◌, ◌++◌, ap, sym, ◌∙◌}
use Rattle.journal.specs.Logs.{Log}
use Rattle.world.specs.Knowledge.{ids_under}
use Rattle.world.specs.Represents.{empty_logs}
use Rattle.world.proofs.Runs.{opened_more}
use Rattle.world.proofs.run.open.Goals as goal

pub loop-index-preserved : goal.loop-index-preserved
loop-index-preserved c =
    c.in_ok-push.ensures.items ∙ ap (λ (ls : List Log). ls ++ c.new.result ∷ []) c.loop-index.invariant
    ∙ ap (λ (l : Log). empty_logs (ids_under c.args.incarnation c.loop-index.index) ++ l ∷ []) (c.new.ensures ∙ ap (λ (id : ℕ). let l : Log = record { vnode = id; entries = [] } in l) c.identifier.ensures) ∙ sym (opened_more c.args.incarnation c.loop-index.index)
