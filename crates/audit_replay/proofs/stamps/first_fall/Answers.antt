use Rattle.std.proofs.Common.{◌≡◌, ℕ, arith, length, subst}
use Rattle.std.specs.Prelude.{MatchOption}
use Rattle.audit_replay.specs.Sorting.{NoneFallsBelow, IsFirstFallBelow}
use Rattle.audit_replay.proofs.Rising.{first_more}
use Rattle.audit_replay.proofs.stamps.first_fall.Goals as goal

pub loop-index-preserved : goal.loop-index-preserved
loop-index-preserved c = first_more c.args.journals.now c.loop-index.index c.loop-index.first c.fall_of.result c.first_of-first.result c.loop-index.invariant c.fall_of.ensures c.first_of-first.ensures.one c.first_of-first.ensures.first

pub returns : goal.returns
returns c =
    let e : c.loop-index.index ≡ length c.args.journals.now = omega (arith, c.loop-index.auto) in
    subst (λ (n : ℕ). MatchOption c.loop-index.first (NoneFallsBelow c.args.journals.now n) (λ fall. IsFirstFallBelow c.args.journals.now n fall)) e c.loop-index.invariant
