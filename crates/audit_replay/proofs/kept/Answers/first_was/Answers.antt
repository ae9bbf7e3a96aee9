use Rattle.std.proofs.Common.{◌≡◌, ◌+◌, ◌-◌, ◌^◌, ◌≤◌, ◌⊎◌, ◌∙◌, inl, inr, length, refl, arith}
use Rattle.std.proofs.lemmas.Bool.{cases_lt}
use Rattle.audit_replay.proofs.Keeping.{first_begun, first_past}
use Rattle.audit_replay.proofs.kept.Answers.first_was.Goals as goal

pub loop-index-init : goal.loop-index-init
loop-index-init c =
    let own = c.self.inside in
    let p = c.args.place + 1 - own.first in
    let i = c.index_behind-index.result in
    let is = c.index_behind-index.ensures in
    let few : length own.here.items ≤ 2 ^ 64 - 1 = omega (arith, own.here.ok.0, c.len-index-end.ensures, c.len-index-end.type_inv) in
    let same : (p ≡ i) ⊎ ((length own.here.items ≤ p) × (length own.here.items ≤ i)) =
    elim (cases_lt p (2 ^ 64)) [
      | inl below ↦ inl (omega (arith, is, below))
      | inr past ↦ inr (omega (arith, few, past), omega (arith, is, few, past))
    ] in
    first_begun c.args.self.now own.first (c.args.place + 1) p own.here.items c.args.key.now c.self.view_is refl
    ∙ first_past own.here.items p i c.args.key.now same
