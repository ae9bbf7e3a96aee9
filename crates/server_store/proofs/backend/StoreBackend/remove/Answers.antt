use Rattle.server_store.specs.Gives.{removes}
use Rattle.server_store.proofs.backend.StoreBackend.remove.Goals as goal

pub returns : goal.returns
returns g c = removes _ _ c.remove.ensures
