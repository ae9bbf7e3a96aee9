use Rattle.std.proofs.Common.{sym, subst}
use Rattle.key_state.specs.State.{State}
use Rattle.kept_fold.specs.declared.candidates.Merging.{Merging}
use Rattle.kept_fold.specs.Merging.{AreMerged, HasCome}
use Rattle.dvv.specs.Clock.{vnodes_together}
use Rattle.kept_fold.proofs.Steps.{goes_further, goes_past, room_left, still_past}
use Rattle.kept_fold.proofs.candidates.merged_with.Goals as goal

pub returns-in_default : goal.returns-in_default
returns-in_default c = λ states so. still_past states c.args.state.now (subst (λ (m : Merging). HasCome states m) c.in_default.is so)

pub returns-in-Ok : goal.returns-in-Ok
returns-in-Ok c = λ states so.
    let own : AreMerged states c.in_ok-merged.merged = subst (λ (s : State). AreMerged states s) (sym c.in_ok-merged.ensures.same) (subst (λ (m : Merging). HasCome states m) c.in-Merged.is so) in
    let room = room_left (vnodes_together c.in_ok-merged.merged.clock c.args.state.now.clock) (λ many. let e = c.in-Ok.ensures.full.1 many in cc) in
    goes_further states c.in_ok-merged.merged c.args.state.now c.merge.new.self own room c.in-Ok.ensures.ok c.in-Ok.ensures.state

pub returns-in-Err-ClockFull : goal.returns-in-Err-ClockFull
returns-in-Err-ClockFull c = λ states so.
    let own : AreMerged states c.in_ok-merged.merged = subst (λ (s : State). AreMerged states s) (sym c.in_ok-merged.ensures.same) (subst (λ (m : Merging). HasCome states m) c.in-Merged.is so) in
    goes_past states c.in_ok-merged.merged c.args.state.now own (c.in-Err-ClockFull.ensures.full.0 (let e = c.in-Err-ClockFull.field-0-is in cc))
