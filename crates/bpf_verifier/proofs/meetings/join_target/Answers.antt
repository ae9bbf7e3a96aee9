use Rattle.std.proofs.Common.{sym, ap, ◌∙◌, arith}
use Rattle.std.specs.Prelude.{Result, Ok, Err, OnErr}
use Rattle.std.proofs.lemmas.Option.{slice_get_read}
use Rattle.bpf_verifier.specs.PairSteps.{pairs_by_jump}
use Rattle.bpf_verifier.specs.Meetings.{brought_at}
use Rattle.bpf_verifier.proofs.Meets.{joined_in, kept_in}
use Rattle.bpf_verifier.proofs.meetings.join_target.Goals as goal

pub returns-in_ok-join_into-clause-pairs : goal.returns-in_ok-join_into-clause-pairs
returns-in_ok-join_into-clause-pairs c = λ k lt.
    let items = c.args.waiting.now.items in
    let place = c.in-Some.place in
    let pairs = c.args.pairs in
    let within = c.in-Some.ensures.within in
    joined_in items place k c.index_mut.result.now c.join_into.new.kept pairs
    (slice_get_read items c.args.waiting.now.len place c.index_mut.result.now c.args.waiting.now.ok.0 (omega (arith, within, c.len.ensures)) c.index_mut.ensures.value)
    (omega (arith, within, c.args.waiting.now.ok.0, c.len.ensures)) c.in_ok-join_into.ensures.joined
    ∙ ap (λ t. pairs_by_jump k t pairs (brought_at items k)) (sym c.in-Some.ensures.some)

on_err : {A E : Type 0} (r : Result A E) (P : Type 0) → P → OnErr r P
on_err (Ok a) P p = tt
on_err (Err e) P p = p

pub returns-in_err-join_into-clause-refused : goal.returns-in_err-join_into-clause-refused
returns-in_err-join_into-clause-refused c =
    let items = c.args.waiting.now.items in
    let place = c.in-Some.place in
    let within = c.in-Some.ensures.within in
    on_err c.from_residual.result _ (λ k.
    kept_in items place k c.index_mut.result.now c.join_into.new.kept
    (slice_get_read items c.args.waiting.now.len place c.index_mut.result.now c.args.waiting.now.ok.0 (omega (arith, within, c.len.ensures)) c.index_mut.ensures.value)
    (omega (arith, within, c.args.waiting.now.ok.0, c.len.ensures)) c.in_err-join_into.ensures.refused)
