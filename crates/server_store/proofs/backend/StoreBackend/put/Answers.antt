use Rattle.server_store.specs.Gives.{puts}
use Rattle.server_store.proofs.backend.StoreBackend.put.Goals as goal

pub returns : goal.returns
returns g c = puts _ _ _ _ _ _ c.put.ensures
