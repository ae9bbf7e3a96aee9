use Rattle.kept_hooks.proofs.Stands.{installed_stands, removed_stands, bound_stands}
use Rattle.kept_hooks.proofs.laws.lists_stand.Goals as goal

pub returns-clause-installs : goal.returns-clause-installs
returns-clause-installs c = λ program made requests name image tells stands. installed_stands program made requests stands tells name image

pub returns-clause-removes : goal.returns-clause-removes
returns-clause-removes c = λ program made requests name stands there. removed_stands program made requests stands name there

pub returns-clause-binds : goal.returns-clause-binds
returns-clause-binds c = λ program made requests bucket precommit resolver stands fit. bound_stands program made requests stands bucket precommit resolver fit
