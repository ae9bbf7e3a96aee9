use Rattle.std.proofs.Common.{◌∙◌, ℕ, take, drop, ap, arith}
use Rattle.context_token.specs.Layouts.{layout}
use Rattle.context_token.proofs.Entries.{reading_more, reading_room, reading_none, reading_all}
use Rattle.context_token.proofs.reading.entries_of.Goals as goal

pub loop-init : goal.loop-init
loop-init c = reading_none (layout c.args.version) c.args.count c.args.bytes.now _ c.requires.len c.in_ok-entries.ensures.items

pub loop-preserved : goal.loop-preserved
loop-preserved c =
    reading_more c.args.version _ _ _ _ _ _ _ _ c.loop-test.true c.loop.invariant
    (c.entry.ensures ∙ ap (layout c.args.version).entry (c.split_at.ensures.front ∙ ap (λ (n : ℕ). take n c.loop.rest.now) c.entry_len.ensures))
    (c.split_at.ensures.back ∙ ap (λ (n : ℕ). drop n c.loop.rest.now) c.entry_len.ensures)
    c.in_ok-push.ensures.items

pub split_at-requires : goal.split_at-requires
split_at-requires c = let room = reading_room c.args.version _ _ _ _ _ c.loop-test.true c.loop.invariant in omega (arith, room, c.entry_len.ensures)

pub entry-requires : goal.entry-requires
entry-requires c = c.split_at.ensures.front_len ∙ c.entry_len.ensures

pub returns : goal.returns
returns c = record { entries = reading_all (layout c.args.version) c.args.count _ c.args.bytes.now _ _ c.loop-test.false c.loop.invariant }
