use Rattle.std.specs.Prelude.{◌≡◌, ◌<◌, ℕ, Some, slice_get}
use Rattle.http_connections.specs.declared.clients.Client.{Client}
use Rattle.server_one_thread.specs.Together.{IsDone}
use Rattle.server_one_thread.proofs.together.are_done.Given as goal

-- nothing is left to do for so many
abbrev pub invariant-loop-number : goal.invariant-loop-number
invariant-loop-number l = (n : ℕ) (client : Client) → n < l.number → slice_get l.clients n ≡ Some client → IsDone n l.deliveries client
