use Rattle.std.proofs.Common.{ap, ◌∙◌, set}
use Rattle.bpf_insn.specs.Encoding.{number}
use Rattle.bpf_verifier.proofs.Renewed.{renewed_is}
use Rattle.bpf_verifier.proofs.sums.renew.Goals as goal

pub returns : goal.returns
returns c =
    ap (λ n. set c.forget_each.new.sums n c.args.new) c.number.ensures.number
    ∙ ap (λ l. set l (number c.args.dst) c.args.new) c.forget_each.ensures
    ∙ renewed_is c.args.dst c.args.new c.args.sums.now c.told-sums
