-- What is noted of a change of what is bound.
use Rattle.http_request.specs.declared.ask.Change.{Change}
use Rattle.http_request.specs.declared.ask.Change.TheVariants.{Kept, Unbound, Bound}

-- so it is where a hook gets bound
abbrev pub WhereBound : Change → Type 0 → Type 0
WhereBound Kept P = Unit {0}
WhereBound Unbound P = Unit {0}
WhereBound (Bound name) P = P
