use Rattle.std.proofs.Common.{subst, List, ℕ}
use Rattle.server_store.specs.Changes.{Installs}
use Rattle.server_store.specs.View.{shown}
use Rattle.server_store.specs.Gives.{installs}
use Rattle.server_store.proofs.backend.StoreBackend.install.Goals as goal

pub returns : goal.returns
returns g c =
    let s = c.args.self.now in
    let t = c.install.new.self in
    let old = shown s.peers s.hooking.hooks s.hooking.table.listed s.placement s.noted.kinds in
    let new = shown t.peers t.hooking.hooks t.hooking.table.listed t.placement t.noted.kinds in
    installs _ _ _ (subst (λ (bytes : List ℕ). Installs g.H.HookChanges.takes old c.args.name.now bytes c.install.result new) c.as_slice.ensures c.install.ensures)
