use Rattle.std.specs.Prelude.{◌≡◌, IsTrue, take}
use Rattle.server_one_thread.specs.declared.together.Arrival.TheVariants as arrival
use Rattle.server_one_thread.specs.Together.{Comes, sent_by}
use Rattle.server_one_thread.proofs.together.came_from.Given as goal

-- what came by the deliveries so far
abbrev pub invariant-loop-place : goal.invariant-loop-place
invariant-loop-place l = record {
  bytes : l.came.bytes.items ≡ sent_by l.number (take l.place l.deliveries);
  ends : IsTrue l.came.ends → Comes l.number arrival.End l.deliveries;
  fails : IsTrue l.came.fails → Comes l.number arrival.Failure l.deliveries;
}
