use Rattle.std.proofs.Common.{◌≡◌, ◌≤◌, List, vec_len, vec_capacity}
use Rattle.std.specs.List.{All}
use Rattle.hook_registry.specs.Changes.{Change}
use Rattle.hook_sharing.proofs.workers.readers_of.Given as goal

abbrev pub invariant-loop : goal.invariant-loop
invariant-loop g l = record {
  count : vec_len l.readers ≡ l.counter;
  room : l.fn.workers ≤ vec_capacity l.readers;
  published : All (λ (reader : List Change). reader ≡ l.installer.published) l.readers.items;
}
