use Rattle.std.proofs.Common.{◌≡◌, ◌+◌, arith, ◌∙◌}
use Rattle.bpf_admission.proofs.Alike.{past_alike}
use Rattle.bpf_admission.proofs.enough.Goals as goal

pub returns-in-Some-clause-alike : goal.returns-in-Some-clause-alike
returns-in-Some-clause-alike c bytes e =
    let past : c.args.len ≡ 32785 + c.in-Some.past = omega (arith, c.in-Some.ensures) in
    past_alike bytes c.in-Some.past (e ∙ past)
