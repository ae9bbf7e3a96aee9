use Rattle.std.proofs.Common.{◌≡◌, ℕ, None}
use Rattle.std.specs.Prelude.{vec_len}
use Rattle.bpf_verifier.specs.Meetings.{brought_at}
use Rattle.bpf_verifier.proofs.meetings.Meetings.none_yet.Given as goal

abbrev pub invariant-loop : goal.invariant-loop
invariant-loop l = record {
  long : vec_len l.waiting ≡ l.counter;
  none : (k : ℕ) → brought_at l.waiting.items k ≡ None;
}
