use Rattle.std.proofs.Common.{◌+◌, refl, sym, ap, ◌∙◌, arith}
use Rattle.std.proofs.lemmas.Option.{slice_get_read}
use Rattle.bpf_verifier.specs.PairSteps.{pairs_by_jump, pairs_behind}
use Rattle.bpf_verifier.specs.Meetings.{pairs_of, pairs_in, brought_at}
use Rattle.bpf_verifier.proofs.Meets.{here_on, behind_on}
use Rattle.bpf_verifier.proofs.meetings.Meetings.meet.Goals as goal

pub returns-clause-here : goal.returns-clause-here
returns-clause-here c = λ p rows found known behind slots old.
    let i = c.args.at in
    let x = c.args.insn in
    let pairs = c.args.pairs in
    let was = c.args.self.now.waiting in
    let led = c.join_target.new.waiting in
    let long = c.in_ok-join_target.ensures.long in
    let there = slice_get_read led.items led.len (i + 1) c.index.result.now led.ok.0 (omega (arith, c.requires.within, long)) c.index.ensures in
    c.go_on.ensures
    ∙ here_on p rows i x pairs c.args.next found known behind (pairs_of c.index.result.now)
    (sym (ap pairs_in there)
    ∙ c.in_ok-join_target.ensures.pairs (i + 1) c.requires.within
    ∙ ap (λ t. pairs_by_jump (i + 1) t pairs (brought_at was.items (i + 1))) c.target_of.ensures
    ∙ ap (pairs_by_jump (i + 1) _ pairs) (old.waiting (i + 1) (omega arith) (omega (arith, c.requires.within, old.long))))

pub returns-clause-follows : goal.returns-clause-follows
returns-clause-follows c = λ p rows found known slots old.
    let i = c.args.at in
    let x = c.args.insn in
    let pairs = c.args.pairs in
    let was = c.args.self.now.waiting in
    record {
      long = c.in_ok-join_target.ensures.long ∙ old.long;
      waiting = λ k above within.
          c.in_ok-join_target.ensures.pairs k (omega (arith, within, old.long))
          ∙ ap (λ t. pairs_by_jump k t pairs (brought_at was.items k)) c.target_of.ensures
          ∙ behind_on p rows i x pairs (pairs_behind p rows i pairs) found known refl k _ above (old.waiting k (omega (arith, above)) within);
    }
