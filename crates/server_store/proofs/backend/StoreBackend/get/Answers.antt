use Rattle.server_store.specs.Gives.{gets}
use Rattle.server_store.proofs.backend.StoreBackend.get.Goals as goal

pub returns : goal.returns
returns g c = gets _ _ _ _ c.get.ensures
