use Rattle.bpf_semantics.proofs.Bytes.{byte-kept}
use Rattle.bpf_semantics.proofs.laws.memory_is_a_map.Goals as goal

pub returns-clause-kept : goal.returns-clause-kept
returns-clause-kept c = λ m r address other new p. byte-kept m r address other new
