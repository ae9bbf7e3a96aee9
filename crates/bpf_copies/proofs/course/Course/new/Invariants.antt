use Rattle.std.proofs.Common.{◌≡◌, ℕ, None}
use Rattle.std.specs.Prelude.{vec_len}
use Rattle.bpf_copies.specs.Courses.{held_at}
use Rattle.bpf_copies.proofs.course.Course.new.Given as goal

abbrev pub invariant-loop : goal.invariant-loop
invariant-loop l = record {
  long : vec_len l.waiting ≡ l.counter;
  none : (k : ℕ) → held_at l.waiting.items k ≡ None;
}
