use Rattle.std.proofs.Common.{◌++◌, sym, ap, ◌∙◌, arith}
use Rattle.std.proofs.lemmas.List.{append-nil}
use Rattle.std.proofs.lemmas.Option.{slice_get_read}
use Rattle.bpf_verifier.specs.Candidates.{program_in}
use Rattle.bpf_verifier.specs.Table.{table}
use Rattle.bpf_verifier.specs.Rows.{row_at}
use Rattle.bpf_explain.specs.Answered.{answers_at}
use Rattle.bpf_explain.proofs.Exits.{no_answers}
use Rattle.bpf_explain.proofs.answers.add_answer.Goals as goal

pub returns-in_default : goal.returns-in_default
returns-in_default c =
    let code = c.args.program.now.image.code in
    let insn = slice_get_read code.items code.len c.args.slot c.index.result.now code.ok.0 (omega (arith, c.requires.within, code.ok.0)) c.index.ensures in
    let row = row_at (table (program_in c.args.program.now)) c.args.slot in
    let none = ap (λ o. answers_at c.args.slot o row) insn ∙ no_answers c.args.slot c.index.result.now row c.in_default.not-Exit in
    record {
      added = sym (ap (λ more. c.args.answers.now.items ++ more) none ∙ append-nil c.args.answers.now.items);
      no_memory = tt;
    }
