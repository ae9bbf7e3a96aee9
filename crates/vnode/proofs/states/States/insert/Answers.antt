use Rattle.std.proofs.Common.{◌≡◌, ◌<◌, ◌++◌, ◌∷◌, [], ◌∙◌, length, refl, sym, ap, unwrap_or, arith}
use Rattle.std.specs.Vec.{with_item}
use Rattle.std.specs.List.{All}
use Rattle.std.specs.Prelude.{slice_set}
use Rattle.std.proofs.lemmas.Result.{on_ok_weaker, on_err_weaker}
use Rattle.key_state.specs.State.{empty}
use Rattle.vnode_index.specs.Slots.{folded}
use Rattle.vnode.specs.Shards.{IsHashed, Shard, short_of}
use Rattle.vnode.specs.States.{place}
use Rattle.vnode.specs.declared.spot.Spot.{Spot}
use Rattle.vnode.specs.declared.states.States.{States}
use Rattle.vnode.proofs.Entries.{Updates, push_updates}
use Rattle.vnode.proofs.Mapped.{alike_placed, alike_same, by_outcome, held_at, kept_here, kept_other, kept_placed, push_all_hashed, same_place}
use Rattle.vnode.proofs.states.States.insert.Goals as goal
use Rattle.vnode.proofs.states.States.insert.Goals.{After-self-2-1}

pub invariant_of-self : goal.invariant_of-self
invariant_of-self c = record {
  hashed = push_all_hashed c.push.result c.make_shards.new.self c.args.spot c.index_mut.result.now c.push.new.self c.of.result c.args.key c.args.state
      (c.of.ensures ∙ ap (λ (s : Spot). folded s.hash) c.requires.spot ∙ ap (λ seed. short_of seed c.args.key) (sym c.make_shards.ensures.seed)) c.push.ensures.entries c.push.ensures.hashes c.push.ensures.err
      (let within = c.requires.within in let all = c.in_ok-make_shards.ensures.all in omega (arith, within, all)) c.index_mut.ensures.value;
}

-- the shard is one of those that are made by then
within : (c : After-self-2-1) → c.args.spot.shard < length c.make_shards.new.self.shards.items
within c = let within = c.requires.within in let all = c.in_ok-make_shards.ensures.all in omega (arith, within, all)

hashed : (c : After-self-2-1) → All (IsHashed c.make_shards.new.self.seed) (slice_set c.make_shards.new.self.shards.items c.args.spot.shard c.push.new.self)
hashed c =
    push_all_hashed c.push.result c.make_shards.new.self c.args.spot c.index_mut.result.now c.push.new.self c.of.result c.args.key c.args.state
    (c.of.ensures ∙ ap (λ (s : Spot). folded s.hash) c.requires.spot ∙ ap (λ seed. short_of seed c.args.key) (sym c.make_shards.ensures.seed)) c.push.ensures.entries c.push.ensures.hashes c.push.ensures.err
    (within c) c.index_mut.ensures.value

-- the states with the shard that was pushed to
abbrev changed : After-self-2-1 → States
changed c = record c.make_shards.new.self { shards = with_item c.make_shards.new.self.shards c.args.spot.shard c.push.new.self; hashed = hashed c }

home : (c : After-self-2-1) → c.args.spot.shard ≡ place c.make_shards.new.self c.args.key
home c = ap (λ (s : Spot). s.shard) c.requires.spot ∙ sym (same_place c.args.self.now c.make_shards.new.self c.args.key c.make_shards.ensures.seed)

-- what the shard has once the entry is pushed
updates : (c : After-self-2-1) → c.push.new.self.entries ≡ c.index_mut.result.now.entries ++ (c.args.key, c.args.state) ∷ [] → Updates c.index_mut.result.now c.push.new.self c.args.key c.args.state
updates c entries =
    push_updates c.index_mut.result.now c.push.new.self c.args.key c.args.state
    (held_at c.make_shards.new.self c.args.spot.shard c.index_mut.result.now c.args.key (within c) c.index_mut.ensures.value (home c) ∙ c.make_shards.ensures.same c.args.key ∙ c.requires.absent) entries

pub returns-clause-here : goal.returns-clause-here
returns-clause-here c =
    on_ok_weaker c.push.result
    (λ entries. kept_here c.make_shards.new.self (changed c) c.args.spot.shard c.index_mut.result.now c.push.new.self refl (within c) c.index_mut.ensures.value refl c.args.key c.args.state (home c) (updates c entries))
    c.push.ensures.entries

pub returns-clause-others : goal.returns-clause-others
returns-clause-others c =
    on_ok_weaker c.push.result
    (λ entries q apart.
    kept_other c.make_shards.new.self (changed c) c.args.spot.shard c.index_mut.result.now c.push.new.self refl (within c) c.index_mut.ensures.value refl c.args.key c.args.state (home c) (updates c entries) q apart
    ∙ ap (λ o. unwrap_or o empty) (c.make_shards.ensures.same q))
    c.push.ensures.entries

pub returns-clause-err : goal.returns-clause-err
returns-clause-err c =
    on_err_weaker c.push.result
    (λ same q.
    alike_same c.make_shards.new.self (changed c) c.args.spot.shard c.index_mut.result.now c.push.new.self refl (within c) c.index_mut.ensures.value refl (ap (λ (s : Shard). s.entries) same) q
    ∙ ap (λ o. unwrap_or o empty) (c.make_shards.ensures.same q))
    c.push.ensures.err

pub returns-clause-placed : goal.returns-clause-placed
returns-clause-placed c = λ placed.
    by_outcome c.push.result c.push.ensures.entries c.push.ensures.err
    (λ entries. kept_placed c.make_shards.new.self _ c.args.spot.shard c.index_mut.result.now c.push.new.self refl (within c) c.index_mut.ensures.value refl c.args.key c.args.state (home c) (updates c entries)
    c.push.ensures.unique c.requires.known (c.make_shards.ensures.placed placed))
    (λ same. alike_placed c.make_shards.new.self _ c.args.spot.shard c.index_mut.result.now c.push.new.self refl (within c) c.index_mut.ensures.value refl (ap (λ (s : Shard). s.entries) same)
    c.push.ensures.unique (c.make_shards.ensures.placed placed))
