use Rattle.std.proofs.Common.{◌≡◌, take}
use Rattle.std.specs.List.{flat_map}
use Rattle.bpf_insn.specs.Encoding.{spelling}
use Rattle.bpf_insn.proofs.encode.encode.Given as goal

abbrev pub invariant-loop-insn : goal.invariant-loop-insn
invariant-loop-insn l = l.bytes.items ≡ flat_map spelling (take l.insn-index l.code)
