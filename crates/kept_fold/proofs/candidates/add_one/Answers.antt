use Rattle.std.proofs.Common.{◌≡◌, List, ◌<◌, ◌≤◌, length, subst, ◌∙◌, if◌then◌else◌}
use Rattle.std.specs.Prelude.{Some}
use Rattle.std.specs.BTreeMap.{get}
use Rattle.key_state.specs.declared.content.Key.{Key}
use Rattle.key_state.specs.State.{State, empty}
use Rattle.journal.specs.Keys.{key_cmp, same_key}
use Rattle.kept_fold.specs.declared.candidates.Merging.TheVariants.{Merged}
use Rattle.dvv.specs.declared.Dot.{Dot}
use Rattle.kept_fold.proofs.Longs.{long_one, short_one}
use Rattle.kept_fold.proofs.candidates.add_one.Goals as goal

pub returns-then-entries-least : goal.returns-then-entries-least
returns-then-entries-least c = λ key.
    short_one c.args.least c.args.one.now key (Merged empty) (get key_cmp c.args.merges.now key) (subst (λ (l : List Dot). length l ≤ c.args.least) (c.entries-entries.ensures.all ∙ c.clock.ensures) c.if-entries-least.true)

pub returns : goal.returns
returns c = λ key.
    let long : c.args.least < length c.args.one.now.state.clock = subst (λ (l : List Dot). c.args.least < length l) (c.entries-entries.ensures.all ∙ c.clock.ensures) c.if-entries-least.false in
    let put : get key_cmp c.insert.new.self key ≡ (if same_key c.args.one.now.key key then Some (Merged c.new.result) else get key_cmp c.args.merges.now key) =
    subst (λ (k : Key). get key_cmp c.insert.new.self key ≡ (if same_key k key then Some (Merged c.new.result) else get key_cmp c.args.merges.now key)) c.in_ok-copy.ensures (c.in_ok-insert.ensures.updates.0 key) in
    long_one c.args.least c.args.one.now key (Merged empty) (get key_cmp c.args.merges.now key) (get key_cmp c.insert.new.self key) long
    (subst (λ (s : State). get key_cmp c.insert.new.self key ≡ (if same_key c.args.one.now.key key then Some (Merged s) else get key_cmp c.args.merges.now key)) c.new.ensures put)
