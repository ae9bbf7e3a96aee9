use Rattle.server_one_thread.specs.Passes.{told_to}
use Rattle.server_one_thread.proofs.PassLemmas.{calls_are, told_more}
use Rattle.server_one_thread.proofs.passes.exchanges_are_told.Goals as goal

pub returns : goal.returns
returns g c = λ now passing is.
    calls_are g.B.Backend.gives (told_to now passing) (told_more g.B.Backend.gives g.P.Peers.happens g.H.Hooks.finds g.H.Hooks.names g.H.HookChanges.takes now passing is)
