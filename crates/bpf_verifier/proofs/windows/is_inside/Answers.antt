use Rattle.std.proofs.Common.{arith, to_z, of_z, w16, w64}
use Rattle.std.proofs.lemmas.Int.{ints}
use Rattle.bpf_verifier.specs.Candidates.{program_in}
use Rattle.bpf_verifier.proofs.Places.{inside_is}
use Rattle.bpf_verifier.proofs.windows.is_inside.Goals as goal

pub returns : goal.returns
returns c =
    let first = c.first_offset-first.ensures in
    let end = c.end_offset-end.ensures in
    let size = c.from.ensures in
    inside_is (program_in c.args.program.now) c.in-Ptr.region c.in-Ptr.lo c.in-Ptr.hi c.args.offset c.args.size c.args.kind (to_z w64 (of_z w64 c.first_offset-first.result)) (to_z w64 (of_z w64 c.in-Ptr.lo)) (to_z w16 (of_z w16 c.args.offset)) (to_z w64 (of_z w64 c.in-Ptr.hi)) (to_z w16 (of_z w16 c.args.offset)) (to_z w64 (of_z w64 c.from.result)) (to_z w64 (of_z w64 c.end_offset-end.result)) c.lies_inside.result c.lies_inside.ensures c.in-Ptr.is (omega (arith, ints)) (omega (arith, ints)) (omega (arith, ints)) (omega (arith, ints)) (omega (arith, ints)) (omega (arith, ints)) (omega (arith, ints))
