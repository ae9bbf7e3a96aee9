use Rattle.std.proofs.Common.{subst, IfSome, IfNone}
use Rattle.std.specs.Prelude.{ℕ}
use Rattle.record_codec.specs.declared.record.Record.{Record as OneRecord}
use Rattle.record_codec.specs.Records.{Begins}
use Rattle.record_codec.proofs.Spelled.{goes_on_sliced}
use Rattle.log_tail.proofs.Reading.{all_read}
use Rattle.log_tail.proofs.front.records_in_front.Goals as goal

pub loop-records-preserved : goal.loop-records-preserved
loop-records-preserved c = goes_on_sliced c.args.bytes.now c.loop-records.left.now c.loop-records.records.items _ c.in-Some.one c.in-Some.len c.loop-records.invariant
    (subst (λ (o : _). IfSome o (λ x. Begins c.loop-records.left.now x.0 x.1)) c.in-Some.is c.in_ok-one.ensures.some) c.in_ok-push.ensures.items

pub returns-clause-all : goal.returns-clause-all
returns-clause-all c =
    all_read c.no_spelling_begins_another.ensures c.written_is_read.ensures c.args.bytes.now c.loop-records.left.now c.loop-records.records.items c.loop-records.invariant
    (subst (λ (o : _). IfNone o ((r : OneRecord) (len : ℕ) → Begins c.loop-records.left.now r len → ⊥)) c.in_default.is c.in_ok-one.ensures.none)
