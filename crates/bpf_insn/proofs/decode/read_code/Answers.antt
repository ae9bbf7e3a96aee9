use Rattle.std.proofs.Common.{rules, ◌≡◌, ◌++◌, sym}
use Rattle.bpf_insn.specs.Encoding.{slots}
use Rattle.bpf_insn.proofs.Growing.{broken_at, refused_at, code_more, grown_parts, grown_length, not_failed}
use Rattle.bpf_insn.proofs.decode.read_code.Goals as goal

pub loop-rest-preserved : goal.loop-rest-preserved
loop-rest-preserved c =
    let grown : c.push_slots.new.code.items ≡ c.loop-rest.code.items ++ slots c.in-Ok.insn = not_failed c.push_slots.result (sym c.if-is_err.ensures.value) c.push_slots.ensures.ok in
    rw grown record {
      is_code = code_more c.loop-rest.code.items c.in-Ok.insn c.loop-rest.invariant.is_code c.in-Ok.ensures.ok.0;
      parts = grown_parts c.args.bytes.now c.loop-rest.rest.now c.in-Ok.after.now c.loop-rest.code.items c.in-Ok.insn c.loop-rest.invariant.parts c.in-Ok.ensures.ok.1;
      long = grown_length c.loop-rest.code.items c.in-Ok.insn c.in-Ok.ensures.ok.0 c.loop-rest.invariant.long;
      whole = c.loop-rest.invariant.whole;
      few = c.loop-rest.invariant.few;
      some = c.loop-rest.invariant.some;
    }

pub returns-in-Err-clause-refused : goal.returns-in-Err-clause-refused
returns-in-Err-clause-refused c =
    refused_at c.args.bytes.now c.len-slot.result c.in-Err.why c.loop-rest.invariant.whole c.loop-rest.invariant.few
    (broken_at c.args.bytes.now c.loop-rest.rest.now c.loop-rest.code.items c.len-slot.result c.in-Err.why c.loop-rest.invariant.is_code c.loop-rest.invariant.parts c.loop-rest.invariant.long (search (rules, c.len-slot.ensures)) c.in-Err.ensures.err)
