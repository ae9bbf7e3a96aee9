use Rattle.bpf_verifier.specs.Waiting.{AreOwned}
use Rattle.bpf_verifier.proofs.waiting.Waiting.free_place.Given as goal

abbrev pub invariant-loop-place : goal.invariant-loop-place
invariant-loop-place g l = AreOwned l.self.held.items l.place
