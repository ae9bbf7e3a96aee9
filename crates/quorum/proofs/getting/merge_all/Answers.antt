use Rattle.std.proofs.Common.{◌≡◌, List, take, drop, suc, sym, subst}
use Rattle.std.proofs.lemmas.List.{take_all}
use Rattle.dvv.specs.Clock.{vnodes_together}
use Rattle.key_state.specs.declared.fault.MergeFault
use Rattle.key_state.specs.State.{State, is_changed_by}
use Rattle.journal.specs.Replay.{IsMergeOf, merges_of}
use Rattle.peers.specs.declared.peers.Answer.{Answer}
use Rattle.quorum.specs.Gets.{states_of, PassesClock}
use Rattle.quorum.proofs.MergeLemmas.{states_more, states_split, none_passes, still_fits, room_left, changed_so}
use Rattle.quorum.proofs.getting.merge_all.Goals as goal

pub loop-answer-init : goal.loop-answer-init
loop-answer-init c key = (rw c.new-merged.ensures (c.merges_go_on.ensures.none key), none_passes key)

pub loop-answer-preserved : goal.loop-answer-preserved
loop-answer-preserved c key =
    let so = states_of (take c.loop-answer.answer-index c.args.found.now) in
    let state = c.answer-item.result.state in
    let h = c.loop-answer.invariant key in
    let more = sym (states_more c.args.found.now c.loop-answer.answer-index c.answer-item.result c.loop-answer-test.true c.answer-item.is) in
    let room = room_left (vnodes_together c.loop-answer.merged.clock state.clock) (λ many. let e = c.in-Ok.ensures.full.1 many in cc) in (
      subst (λ (states : List State). IsMergeOf key states c.merge.new.self) more (c.merges_go_on.ensures.more key so c.loop-answer.merged state c.merge.new.self h.0 c.in-Ok.ensures.ok c.in-Ok.ensures.state),
      subst (λ (states : List State). PassesClock key states → ⊥) more (still_fits key so state c.loop-answer.merged (λ a b is_a is_b. c.replays_are_one.ensures (merges_of key so) key a b is_a is_b) h.0 h.1 room),
    )

pub returns-in-Err-clause-full : goal.returns-in-Err-clause-full
returns-in-Err-clause-full c is key = record {
  before = states_of (take c.loop-answer.answer-index c.args.found.now);
  state = c.answer-item.result.state;
  after = states_of (drop (suc c.loop-answer.answer-index) c.args.found.now);
  merged = c.loop-answer.merged;
  parts = states_split c.args.found.now c.loop-answer.answer-index c.answer-item.result c.loop-answer-test.true c.answer-item.is;
  is_merge = (c.loop-answer.invariant key).0;
  many = c.in-Err.ensures.full.0 (let same : c.in-Err.fault ≡ MergeFault.TheVariants.ClockFull = cc in cc);
}

pub returns-in-Err-clause-memory : goal.returns-in-Err-clause-memory
returns-in-Err-clause-memory c is key =
    let so = states_of (take c.loop-answer.answer-index c.args.found.now) in
    let state = c.answer-item.result.state in
    let h = c.loop-answer.invariant key in
    let lacked : c.in-Err.fault ≡ MergeFault.TheVariants.NoMemory = cc in
    let room = room_left (vnodes_together c.loop-answer.merged.clock state.clock) (λ many. let e = c.in-Err.ensures.full.1 many in let full : c.in-Err.fault ≡ MergeFault.TheVariants.ClockFull = cc in cc) in
    record {
      before = so;
      state = state;
      after = states_of (drop (suc c.loop-answer.answer-index) c.args.found.now);
      merged = c.loop-answer.merged;
      parts = states_split c.args.found.now c.loop-answer.answer-index c.answer-item.result c.loop-answer-test.true c.answer-item.is;
      is_merge = h.0;
      fits = still_fits key so state c.loop-answer.merged (λ a b is_a is_b. c.replays_are_one.ensures (merges_of key so) key a b is_a is_b) h.0 h.1 room;
      changes = changed_so (is_changed_by c.loop-answer.merged state) (λ same. let e = c.in-Err.ensures.idle same in cc);
    }

pub returns-clause-merge : goal.returns-clause-merge
returns-clause-merge c key = subst (λ (found : List Answer). IsMergeOf key (states_of found) c.loop-answer.merged) (take_all c.loop-answer.answer-index c.args.found.now c.loop-answer-test.false) (c.loop-answer.invariant key).0

pub returns-clause-fits : goal.returns-clause-fits
returns-clause-fits c key = subst (λ (found : List Answer). PassesClock key (states_of found) → ⊥) (take_all c.loop-answer.answer-index c.args.found.now c.loop-answer-test.false) (c.loop-answer.invariant key).1
