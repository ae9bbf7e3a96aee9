use Rattle.server_one_thread.proofs.ByPassLemmas.{calls_by}
use Rattle.server_one_thread.proofs.passes.exchanges_are_by_a_pass.Goals as goal

pub returns : goal.returns
returns g c = λ passing passes. calls_by g.H.Hooks.finds g.H.Hooks.names g.H.HookChanges.takes g.P.Peers.happens passing passes
