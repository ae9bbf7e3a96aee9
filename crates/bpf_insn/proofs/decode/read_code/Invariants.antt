use Rattle.std.proofs.Common.{◌≡◌, ◌≤◌, ◌*◌, ◌%◌, ◌++◌, length}
use Rattle.std.specs.List.{flat_map}
use Rattle.bpf_insn.specs.Encoding.{spelling, IsCode}
use Rattle.bpf_insn.proofs.decode.read_code.Given as goal

abbrev pub invariant-loop-rest : goal.invariant-loop-rest
invariant-loop-rest l = record {
  is_code : IsCode l.code.items;
  parts : l.bytes ≡ flat_map spelling l.code.items ++ l.rest;
  long : length (flat_map spelling l.code.items) ≡ 8 * length l.code.items;
  whole : length l.bytes % 8 ≡ 0;
  few : length l.bytes ≤ 8 * 4096;
  some : 1 ≤ length l.bytes;
}

abbrev pub decreases-loop-rest : goal.decreases-loop-rest
decreases-loop-rest l = length l.rest
