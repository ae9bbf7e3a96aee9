use Rattle.std.proofs.Common.{inl, inr}
use Rattle.server_store.specs.Gives.{tells}
use Rattle.server_store.proofs.backend.StoreBackend.props.Goals as goal

pub returns-in-Err : goal.returns-in-Err
returns-in-Err g c = tells _ _ (inl c.in-Err.ensures)

pub returns-in-Err-bound : goal.returns-in-Err-bound
returns-in-Err-bound g c = tells _ _ (inr (_, _, c.in-Ok.ensures, c.in-Err-bound.ensures))

pub returns : goal.returns
returns g c = tells _ _ (_, c.in-Ok.ensures, c.in-Ok-bound.ensures)
