use Rattle.std.proofs.Common.{rules, sym, ◌∙◌}
use Rattle.std.proofs.lemmas.Bool.{leb-true, le-leb}
use Rattle.bpf_image.proofs.Rules.{past_from, past_to, no_past}
use Rattle.bpf_image.proofs.form.runs_past.Goals as goal

pub returns-in-Some : goal.returns-in-Some
returns-in-Some c =
    let e = sym c.next_of.ensures ∙ c.in-Some.is in (
      λ t. past_from c.args.code.now c.args.at c.args.insn c.in-Some.next e (search (rules, leb-true)),
      λ b. let h = past_to c.args.code.now c.args.at c.args.insn c.in-Some.next e b in search (rules, le-leb),
    )

pub returns-in-None : goal.returns-in-None
returns-in-None c =
    let e = sym c.next_of.ensures ∙ c.in-None.is in
    (λ t. absurd (search rules), λ b. absurd (no_past c.args.code.now c.args.at c.args.insn e b))
