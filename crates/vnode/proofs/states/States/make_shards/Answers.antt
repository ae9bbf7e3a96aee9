use Rattle.std.proofs.Common.{◌≡◌, Bool, true, false, cond, List, [], ◌∷◌, ◌++◌, ◌∙◌, ap, length, length-append, refl, sym, subst, arith}
use Rattle.std.specs.List.{All}
use Rattle.std.proofs.lemmas.List.Elements.{All-push}
use Rattle.vnode.specs.Shards.{IsHashed, Shard}
use Rattle.vnode.proofs.Mapped.{added_same, added_placed, unchanged_placed}
use Rattle.vnode.proofs.states.States.make_shards.Goals as goal

-- what all have, they have with one more that has it or without
all_if : {X : Type 0} (P : X → Type 0) (b : Bool) (xs new : List X) (x : X) → new ≡ cond b (xs ++ x ∷ []) xs → All P xs → P x → All P new
all_if P true xs new x is each one = subst (All P) (sym is) (All-push P xs x each one)
all_if P false xs new x is each one = subst (All P) (sym is) each

pub invariant_of-self-in-loop-shard : goal.invariant_of-self-in-loop-shard
invariant_of-self-in-loop-shard c =
    let seed = c.loop-shard.self.seed in
    record {
      hashed = all_if (IsHashed seed) _ c.loop-shard.self.shards.items c.push.new.self.items c.new.result c.push.ensures.items c.loop-shard.self.hashed (subst (IsHashed seed) (sym c.new.ensures) refl);
    }

pub loop-shard-preserved : goal.loop-shard-preserved
loop-shard-preserved c =
    let longer = ap length c.in_ok-push.ensures.items in
    let more = length-append c.loop-shard.self.shards.items (c.new.result ∷ []) in
    let so_far = c.loop-shard.invariant.2 in
    let none = ap (λ (s : Shard). s.entries) c.new.ensures in
    let seed = c.loop-shard.self.seed in
    let hashed =
    subst (All (IsHashed seed)) (sym c.in_ok-push.ensures.items)
    (All-push (IsHashed seed) c.loop-shard.self.shards.items c.new.result c.loop-shard.self.hashed (subst (IsHashed seed) (sym c.new.ensures) refl)) in
    let new = record c.loop-shard.self { shards = c.push.new.self; hashed = hashed } in (
      λ q. added_same c.loop-shard.self new c.new.result refl c.in_ok-push.ensures.items none q ∙ c.loop-shard.invariant.0 q,
      λ placed. added_placed c.loop-shard.self _ c.new.result refl c.in_ok-push.ensures.items none (c.loop-shard.invariant.1 placed),
      omega (arith, longer, more, so_far),
      c.loop-shard.invariant.3,
    )

pub returns-in_err-push-clause-placed : goal.returns-in_err-push-clause-placed
returns-in_err-push-clause-placed c = λ placed. unchanged_placed c.loop-shard.self _ refl c.in_err-push.ensures.items (c.loop-shard.invariant.1 placed)
