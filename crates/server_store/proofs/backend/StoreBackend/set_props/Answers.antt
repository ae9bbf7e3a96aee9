use Rattle.server_store.specs.Gives.{binds}
use Rattle.server_store.proofs.backend.StoreBackend.set_props.Goals as goal

pub returns : goal.returns
returns g c = binds _ _ _ _ c.bind.ensures
