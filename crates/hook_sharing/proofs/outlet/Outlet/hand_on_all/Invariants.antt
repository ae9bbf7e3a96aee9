use Rattle.std.proofs.Common.{◌≡◌, ◌++◌, ◌+◌, deque_len}
use Rattle.left_right.specs.Handles.{published}
use Rattle.hook_sharing.proofs.outlet.Outlet.hand_on_all.Given as goal

abbrev pub invariant-loop-turn : goal.invariant-loop-turn
invariant-loop-turn g l = (l.self.front ++ l.self.waiting.items ≡ l.initial.self.front ++ l.initial.self.waiting.items) × (published l.self.writer ≡ published l.initial.self.writer) × (deque_len l.self.waiting + l.turn ≡ deque_len l.initial.self.waiting)
