use Rattle.std.proofs.Common.{◌≡◌, ◌+◌, List, length, replicate, arith, ap, sym, ◌∙◌, length-append}
use Rattle.std.proofs.lemmas.List.{length-replicate}
use Rattle.audit_replay.specs.declared.kept.Kept.{Kept}
use Rattle.audit_replay.specs.declared.kept.Kept.TheVariants.{GivenUp}
use Rattle.audit_replay.proofs.Keeping.{few_bytes}
use Rattle.audit_replay.proofs.kept.Answers.keep.Goals as goal

pub overflow_add-self : goal.overflow_add-self
overflow_add-self c =
    let own = c.self.inside in
    let few = few_bytes own.here.items in
    let long : length c.args.self.now ≡ own.first + length own.here.items =
    ap (λ (xs : List Kept). length xs) (sym c.self.view_is) ∙ length-append (replicate own.first GivenUp) own.here.items ∙ ap (λ n. n + length own.here.items) (length-replicate own.first GivenUp) in
    omega (arith, c.self.invariant, few, long, c.requires.few, c.from-bytes.type_inv, c.bytes.type_inv, c.from-bytes.ensures)
