-- The bytes that wait in a queue.
use Rattle.std.specs.Prelude.{ℕ, List, drop}
use Rattle.http_connection.specs.declared.queue.Queue.{Queue}

-- those from start on
abbrev pub waiting : Queue → List ℕ
waiting queue = drop queue.start queue.bytes.items
