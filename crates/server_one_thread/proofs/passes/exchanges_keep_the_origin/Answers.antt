use Rattle.server_one_thread.proofs.ByPassLemmas.{runs_stay}
use Rattle.server_one_thread.proofs.passes.exchanges_keep_the_origin.Goals as goal

pub returns : goal.returns
returns g c = runs_stay g.P.Peers.happens g.H.Hooks.finds g.H.Hooks.names g.H.HookChanges.takes g.P.Peers.origin g.met.P.Peers.stays
