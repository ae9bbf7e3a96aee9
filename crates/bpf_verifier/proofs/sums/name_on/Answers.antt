use Rattle.std.proofs.Common.{◌≡◌, ◌+◌, ◌<◌, length, sym, ◌∙◌, subst, arith}
use Rattle.std.proofs.lemmas.Option.{slice_get_read}
use Rattle.bpf_semantics.specs.declared.profile.Profile.TheVariants.{First, Second}
use Rattle.bpf_copies.specs.Courses.{Follows}
use Rattle.bpf_verifier.specs.Candidates.{program_in}
use Rattle.bpf_verifier.specs.Naming.{bounds_at}
use Rattle.bpf_verifier.specs.Table.{table}
use Rattle.bpf_verifier.proofs.Noted.{if_ok}
use Rattle.bpf_verifier.proofs.sums.name_on.Goals as goal

pub returns-in-First-clause-follows : goal.returns-in-First-clause-follows
returns-in-First-clause-follows c = λ is. let clash : First ≡ Second = sym c.in-First.is ∙ is in cc

pub returns-in-Second-clause-follows : goal.returns-in-Second-clause-follows
returns-in-Second-clause-follows c =
    let p = program_in c.args.program.now in
    let code = c.args.program.now.image.code.items in
    let at = c.args.at in
    let known = bounds_at p (table p) in
    let insn = slice_get_read code c.args.program.now.image.code.len at c.index.result.now c.args.program.now.image.code.ok.0 (omega (arith, c.requires.within, c.args.program.now.image.code.ok.0)) c.index.ensures in
    if_ok _ _ c.advance.result
    (λ _ on is.
    let old = c.requires.old is in
    subst (λ n. Follows code known n (at + 1) c.advance.new.self) old.long (on code known insn (c.requires.known is) (subst (λ n. Follows code known n at c.args.names.now) (sym old.long) old)))
    c.advance.ensures.follows
