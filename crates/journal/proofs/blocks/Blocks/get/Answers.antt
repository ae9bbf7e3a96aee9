use Rattle.std.proofs.Common.{rules, ◌≡◌, ◌∙◌, sym, ap, Some, slice_get, ◌*◌, ◌-◌, ◌%◌, ◌≤◌, ◌/◌, length}
use Rattle.std.specs.Option.{option_copied}
use Rattle.std.proofs.lemmas.Option.{slice_get_read}
use Rattle.journal.proofs.blocks.Blocks.get.Goals as goal
use Rattle.journal.proofs.Blocked.{in_block, in_last}

pub returns-in-Some : goal.returns-in-Some
returns-in-Some c =
    let at = c.in-Some.ensures.lookup in
    let here : slice_get c.self.inside.closed.items (c.args.index / 1024) ≡ Some c.in-Some.block.now = search (rules, slice_get_read, at) in
    let got : option_copied c.entry_at.result ≡ slice_get c.in-Some.block.now.items (c.args.index % 1024) = search (rules) in
    let found = in_block c.self.inside.last.items c.self.inside.closed.items c.self.invariant.0.0 c.args.index c.in-Some.block.now here in
    got ∙ sym found ∙ ap (λ v. slice_get v.entries c.args.index) c.self.view_is

pub returns-in-None : goal.returns-in-None
returns-in-None c =
    let past : length c.self.inside.closed.items * 1024 ≤ c.args.index = search (rules) in
    let got : option_copied c.entry_at-in-None.result ≡ slice_get c.self.inside.last.items (c.args.index - length c.self.inside.closed.items * 1024) = search (rules) in
    let found = in_last c.self.inside.last.items c.self.inside.closed.items c.self.invariant.0.0 c.args.index past in
    got ∙ sym found ∙ ap (λ v. slice_get v.entries c.args.index) c.self.view_is
