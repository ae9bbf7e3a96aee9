-- What a worker's orders come to.
use Rattle.std.specs.Prelude.{Bool, true, false}
use Rattle.server_sockets.specs.declared.orders.Stance.{Stance}
use Rattle.server_sockets.specs.declared.orders.Stance.TheVariants.{Serving, Finishing, Stopping}
use Rattle.server_sockets.specs.declared.sockets.Reading.{Reading}
use Rattle.server_sockets.specs.declared.sockets.Reading.TheVariants.{Allowed, Held, Over}

abbrev reading_if : Bool → Reading
reading_if true = Allowed
reading_if false = Held

-- one that stops reads no more, and any other reads where it may
abbrev pub reading_of : Stance → Bool → Reading
reading_of Serving may_read = reading_if may_read
reading_of Finishing may_read = reading_if may_read
reading_of Stopping may_read = Over
