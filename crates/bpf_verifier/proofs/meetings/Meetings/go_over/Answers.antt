use Rattle.std.proofs.Common.{◌≡◌, ◌+◌, ◌<◌, length, Some, sym, ◌∙◌, arith}
use Rattle.std.specs.Prelude.{slice_get}
use Rattle.std.proofs.lemmas.Option.{slice_get_read}
use Rattle.bpf_semantics.specs.declared.profile.Profile.TheVariants.{First, Second}
use Rattle.bpf_verifier.specs.Candidates.{program_in}
use Rattle.bpf_verifier.specs.Table.{table}
use Rattle.bpf_verifier.proofs.Noted.{if_ok}
use Rattle.bpf_verifier.proofs.NoPairs.{none_known}
use Rattle.bpf_verifier.proofs.meetings.Meetings.go_over.Goals as goal

pub returns-in-First-clause-here : goal.returns-in-First-clause-here
returns-in-First-clause-here c = let p = program_in c.args.program.now in c.no_pairs.ensures ∙ none_known p c.in-First.is (table p) (c.args.at + 1)

pub returns-in-First-clause-follows : goal.returns-in-First-clause-follows
returns-in-First-clause-follows c = λ is. let clash : First ≡ Second = sym c.in-First.is ∙ is in cc

pub meet-requires : goal.meet-requires
meet-requires c =
    let few = c.args.program.now.image.few_slots in
    let long = (c.requires.old c.in-Second.is).long in
    record { few = omega (arith, long, few); within = omega (arith, c.requires.within, long) }

pub returns-in-Second-clause-here : goal.returns-in-Second-clause-here
returns-in-Second-clause-here c =
    let p = program_in c.args.program.now in
    let code = c.args.program.now.image.code in
    let insn = slice_get_read code.items code.len c.args.at c.index.result.now code.ok.0 (omega (arith, c.requires.within, code.ok.0)) c.index.ensures in
    if_ok _ _ c.meet.result (λ _ on. on p (table p) insn c.requires.pairs c.requires.next (length code.items + 1) (c.requires.old c.in-Second.is)) c.meet.ensures.here

pub returns-in-Second-clause-follows : goal.returns-in-Second-clause-follows
returns-in-Second-clause-follows c =
    let p = program_in c.args.program.now in
    let code = c.args.program.now.image.code in
    let insn = slice_get_read code.items code.len c.args.at c.index.result.now code.ok.0 (omega (arith, c.requires.within, code.ok.0)) c.index.ensures in
    if_ok _ _ c.meet.result (λ _ on is. on p (table p) insn c.requires.pairs (length code.items + 1) (c.requires.old is)) c.meet.ensures.follows
