use Rattle.std.proofs.Common.{arith, sym, ◌∙◌}
use Rattle.std.proofs.lemmas.List.{length-map}
use Rattle.vnode.specs.declared.steps.Copied.{Copied as Held}
use Rattle.vnode.specs.States.{keys_of}
use Rattle.world.proofs.Dumps.{copied_all, copies_stamped, full_at}
use Rattle.world.proofs.Sources.{go_on_reads, go_on_back}
use Rattle.world.proofs.run.Run.dump_at.Goals as goal

pub returns-in-Ok-clause-copied : goal.returns-in-Ok-clause-copied
returns-in-Ok-clause-copied c =
    copied_all c.args.self.now.vnodes.items c.args.at c.args.self.now.made c.index_mut-vnode.result.now c.read_all.new.self (record { from = c.id-from.result; first = c.in-Ok.first; held = c.in-Ok.held }) c.requires.inside c.index_mut-vnode.ensures.value
    c.in-Ok.ensures.keys c.in-Ok.ensures.states c.id-from.ensures c.in-Ok.ensures.place c.in-Ok.ensures.entries c.read_all.ensures.legal c.in-Ok.ensures.places

pub returns-in-Ok-clause-stamps : goal.returns-in-Ok-clause-stamps
returns-in-Ok-clause-stamps c = copies_stamped c.args.self.now.vnodes.items c.args.self.now.made c.args.at c.len.result c.index_mut-vnode.result.now c.read_all.new.self (keys_of c.in-Ok.held.items) c.requires.inside c.index_mut-vnode.ensures.value c.in-Ok.ensures.entries (c.len.ensures ∙ c.in-Ok.held.ok.0 ∙ sym (length-map c.in-Ok.held.items (λ (one : Held). one.key)))

pub returns-in-Err-clause-full : goal.returns-in-Err-clause-full
returns-in-Err-clause-full c = full_at c.args.self.now.vnodes.items c.args.at c.index_mut-vnode.result.now c.read_all.result c.in-Err.fault c.requires.inside c.index_mut-vnode.ensures.value c.in-Err.is c.read_all.ensures.full

pub overflow_add-self : goal.overflow_add-self
overflow_add-self c =
    let places = c.in-Ok.ensures.places in
    let keys = length-map c.in-Ok.held.items (λ (one : Held). one.key) in
    let count = c.len.ensures in
    let room = c.requires.room in
    omega (arith, places, keys, count, room)

pub returns-in-Ok-clause-few : goal.returns-in-Ok-clause-few
returns-in-Ok-clause-few c =
    let places = c.in-Ok.ensures.places in
    let keys = length-map c.in-Ok.held.items (λ (one : Held). one.key) in
    let count = c.len.ensures in
    let room = c.requires.room in
    omega (arith, places, keys, count, room)

pub returns-in-Ok-clause-goes : goal.returns-in-Ok-clause-goes
returns-in-Ok-clause-goes c = go_on_reads c.args.self.now.vnodes.items c.args.at c.args.self.now.made (keys_of c.in-Ok.held.items) c.index_mut-vnode.result.now c.read_all.new.self c.requires.inside c.index_mut-vnode.ensures.value c.in-Ok.ensures.entries

pub returns-in-Err-clause-goes : goal.returns-in-Err-clause-goes
returns-in-Err-clause-goes c = go_on_back c.args.self.now.vnodes.items c.args.at c.index_mut-vnode.result.now c.read_all.new.self c.index_mut-vnode.ensures.value c.in-Err.ensures.err
