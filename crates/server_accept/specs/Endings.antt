-- What workers do, by how far the end of a server has come.
use Rattle.std.specs.Prelude.{Bool, true, false}
use Rattle.server_sockets.specs.declared.orders.Stance.{Stance}
use Rattle.server_sockets.specs.declared.orders.Stance.TheVariants.{Serving, Finishing, Stopping}

-- they stop where the server was told to; else they finish where no more connections come
abbrev pub stance_of : (is_stopped is_full : Bool) → Stance
stance_of true is_full = Stopping
stance_of false true = Finishing
stance_of false false = Serving
