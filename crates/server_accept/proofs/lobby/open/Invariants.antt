use Rattle.std.proofs.Common.{◌≡◌, ◌≤◌, vec_len}
use Rattle.server_accept.proofs.lobby.open.Given as goal

-- a post for each round
abbrev pub invariant-loop : goal.invariant-loop
invariant-loop g l = record {
  few : l.counter ≤ l.count;
  posts : vec_len l.posts ≡ l.counter;
}
