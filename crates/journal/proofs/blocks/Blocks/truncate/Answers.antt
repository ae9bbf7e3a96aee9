use Rattle.std.proofs.Common.{rules, ◌≡◌, ◌≤◌, ◌*◌, ◌-◌, ◌/◌, ◌%◌, ◌∙◌, sym, ap, subst, length, slice_get, take, Some, arith}
use Rattle.std.proofs.lemmas.List.{take-set, length-take}
use Rattle.std.proofs.lemmas.List.Elements.{All-take}
use Rattle.std.proofs.lemmas.Option.{slice_get_read}
use Rattle.std.specs.List.{All}
use Rattle.journal.specs.Blocks.{in_blocks, IsFullBlock}
use Rattle.journal.proofs.Blocked.{cut_last, cut_block}
use Rattle.journal.proofs.blocks.Blocks.truncate.Goals as goal

pub returns-then-full-len : goal.returns-then-full-len
returns-then-full-len c =
    let past : length c.self.inside.closed.items * 1024 ≤ c.args.count = omega (arith, c.if-full-len.true, c.len.ensures) in
    let kept : c.truncate.new.self.items ≡ take (c.args.count - length c.self.inside.closed.items * 1024) c.self.inside.last.items = search rules in
    ap (in_blocks c.self.inside.closed.items) kept ∙ sym (cut_last c.self.inside.closed.items c.self.inside.last.items c.self.invariant.0.0 c.args.count past) ∙ ap (λ v. take c.args.count v.entries) c.self.view_is

-- the blocks before the one that the cut is in
front : (c : goal.After-truncate-3) → c.truncate-2.new.self.items ≡ take (c.args.count / 1024) c.self.inside.closed.items
front c = c.truncate-2.ensures.items ∙ take-set c.self.inside.closed.items (c.args.count / 1024) c.swap.new.x

-- what is left of that one
kept : (c : goal.After-truncate-3) → c.truncate-3.new.self.items ≡ take (c.args.count - c.args.count / 1024 * 1024) c.swap.new.y.items
kept c = c.truncate-3.ensures.items ∙ ap (λ n. take n c.swap.new.y.items) (omega arith)

cut : (c : goal.After-truncate-3) → in_blocks c.truncate-2.new.self.items c.truncate-3.new.self.items ≡ take c.args.count (in_blocks c.self.inside.closed.items c.self.inside.last.items)
cut c =
    let count : c.len.result ≡ length c.self.inside.closed.items = search rules in
    let read : slice_get c.self.inside.closed.items (c.args.count / 1024) ≡ Some c.index_mut.result.now =
    slice_get_read c.self.inside.closed.items c.len.result (c.args.count / 1024) c.index_mut.result.now count c.if-full-len.false c.index_mut.ensures.value in
    let here : slice_get c.self.inside.closed.items (c.args.count / 1024) ≡ Some c.swap.new.y = read ∙ ap Some (sym c.swap.ensures.y_after) in
    ap (λ xs. in_blocks xs c.truncate-3.new.self.items) (front c) ∙ ap (in_blocks (take (c.args.count / 1024) c.self.inside.closed.items)) (kept c)
    ∙ sym (cut_block c.self.inside.closed.items c.self.inside.last.items c.self.invariant.0.0 c.args.count (c.args.count / 1024) c.swap.new.y here (omega arith) (omega arith))

pub returns : goal.returns
returns c = cut c ∙ ap (λ v. take c.args.count v.entries) c.self.view_is

pub invariant_of-self-2 : goal.invariant_of-self-2
invariant_of-self-2 c =
    let all = subst (λ xs. All IsFullBlock xs) (sym (front c)) (All-take IsFullBlock (c.args.count / 1024) c.self.inside.closed.items c.self.invariant.0.0) in
    let short = ap length c.truncate-3.ensures.items ∙ length-take (c.args.count % 1024) c.swap.new.y.items in
    let count = ap length (cut c) ∙ length-take c.args.count (in_blocks c.self.inside.closed.items c.self.inside.last.items) in
    ((all, omega (arith, short)), c.self.invariant.1, omega (arith, count, c.self.invariant.2))
