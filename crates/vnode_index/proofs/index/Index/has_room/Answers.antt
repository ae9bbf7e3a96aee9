use Rattle.std.proofs.Common.{◌<◌, ◌-◌, ◌/◌, arith}
use Rattle.std.proofs.lemmas.Bool.Decides.{nat_tests}
use Rattle.vnode_index.proofs.Hashes.{room_seen, room_shown}
use Rattle.vnode_index.proofs.index.Index.has_room.Goals as goal

pub returns : goal.returns
returns c =
    let slots = c.self.inside.slots.items in (
      λ test. room_shown slots c.self.inside.len c.args.self.now c.self.view_is (let before : c.self.inside.len < c.len-count.result - c.len-count.result / 8 = grind (arith, nat_tests) in omega arith),
      λ room. let before = room_seen slots c.self.inside.len c.args.self.now c.self.view_is room in let within : c.self.inside.len < c.len-count.result - c.len-count.result / 8 = omega arith in grind (arith, nat_tests),
    )
