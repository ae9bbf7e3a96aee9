use Rattle.std.proofs.Common.{◌∙◌, sym, rules}
use Rattle.std.proofs.lemmas.List.Sorted.{IsPartitionPoint-from_clause}
use Rattle.dvv.specs.Dots.{is_before}
use Rattle.key_state.proofs.Siblings.{is_dot-true}
use Rattle.key_state.proofs.Searches.{siblings_parted, content_found, content_other, content_past}
use Rattle.key_state.proofs.exchange.own_content.Goals.{in_default-via-in-Some+else-eq, in_default-via-in_default}
use Rattle.key_state.proofs.exchange.own_content.Goals as goal

pub returns-in-Some : goal.returns-in-Some
returns-in-Some c =
    let l = c.in-Some.ensures.lookup in
    sym (content_found c.args.own.now c.args.dot c.partition_point-at.result c.in-Some.sibling.now c.requires l.3.0 l.1 (is_dot-true c.in-Some.sibling.now.dot c.args.dot (sym c.eq.ensures ∙ c.if-eq.true)))

pub returns-in_default : goal.returns-in_default
returns-in_default c =
    let point = IsPartitionPoint-from_clause (λ s. is_before s.dot c.args.dot) _ _ c.partition_point-at.ensures.partitioned (siblings_parted c.args.dot c.args.own.now c.requires) (λ a r q k. search rules) in
    elim c.in_default.branch [
      | in_default-via-in-Some+else-eq w ↦ let l = w.in-Some.ensures.lookup in sym (content_other c.args.own.now c.args.dot c.partition_point-at.result w.in-Some.sibling.now c.requires point l.3.0 l.1 (sym w.eq.ensures ∙ w.if-eq.false))
      | in_default-via-in_default w ↦ sym (content_past c.args.own.now c.args.dot c.partition_point-at.result c.requires point (search (rules, w.in_default, c.get.ensures.lookup)))
    ]
