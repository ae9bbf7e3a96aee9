use Rattle.std.proofs.Common.{◌≡◌, ◌≤◌, List, sym, subst, ◌∙◌, arith}
use Rattle.dvv.specs.declared.Dot.{Dot}
use Rattle.dvv.specs.Clock.{vnodes_together}
use Rattle.key_state.specs.Parts.{whole_of}
use Rattle.key_state.proofs.Same.{unchanged_merges, unchanged_fits}
use Rattle.key_state.proofs.state.KeyState.merge_without_memory.Goals as goal

-- the clocks that are counted are those of the state and of the part
fits : {a a' b b' : List Dot} → a ≡ a' → b ≡ b' → vnodes_together a b ≤ 1024 → vnodes_together a' b' ≤ 1024
fits {a' = a'} {b = b} p q h = subst (λ (l : List Dot). vnodes_together a' l ≤ 1024) q (subst (λ (l : List Dot). vnodes_together l b ≤ 1024) p h)

pub returns-then-not-is_changed_by_part-clause-ok : goal.returns-then-not-is_changed_by_part-clause-ok
returns-then-not-is_changed_by_part-clause-ok c = unchanged_merges c.args.self.now (whole_of c.args.part.now c.args.self.now) c.is_changed_by_part.ensures.state (sym c.is_changed_by_part.ensures.changed ∙ c.if-not-is_changed_by_part.true)

pub returns-then-not-is_changed_by_part-clause-full : goal.returns-then-not-is_changed_by_part-clause-full
returns-then-not-is_changed_by_part-clause-full c = (λ e. absurd (cc), λ h. absurd (omega (arith, h, unchanged_fits c.args.self.now (whole_of c.args.part.now c.args.self.now) c.is_changed_by_part.ensures.own (sym c.is_changed_by_part.ensures.changed ∙ c.if-not-is_changed_by_part.true))))

pub returns-clause-full : goal.returns-clause-full
returns-clause-full c = (λ e. absurd (cc), λ h. absurd (omega (arith, h, fits c.clock.ensures c.clock-2.ensures (c.can_join.ensures.0 c.if-not-can_join.false))))
