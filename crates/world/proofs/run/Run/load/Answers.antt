use Rattle.std.proofs.Common.{rules, ◌≡◌, ℕ, length, refl, sym, subst}
use Rattle.world.specs.declared.event.Event.TheVariants.{Load}
use Rattle.world.specs.Knowledge.{Knowledge}
use Rattle.world.specs.Happening.{Happens}
use Rattle.world.specs.Appending.{LoadsAll}
use Rattle.world.specs.Represents.{Represents}
use Rattle.world.proofs.LoadRuns.{load_happened, loads_more, load_wants, load_refused_alike}
use Rattle.world.specs.declared.event.Reply.TheVariants.{Loaded, Dumped, Nothing}
use Rattle.vnode.specs.declared.fault.VnodeFault.TheVariants.{NoMemory}
use Rattle.world.proofs.Sources.{go_on_same, go_on_loaded, go_on_still}
use Rattle.std.proofs.lemmas.Option.{get_or_from_slice_get}
use Rattle.world.specs.declared.event.Reply.{Reply}
use Rattle.world.specs.Sources.{GoOn, sources_loaded, sources_told, sources_of}
use Rattle.world.proofs.run.Run.load.Goals as goal

pub returns-in-Err-clause-step : goal.returns-in-Err-clause-step
returns-in-Err-clause-step g c = λ listed old rep named remember new. load_refused_alike listed c.args.self.now.vnodes.items old c.args.turn.replies.now c.args.dump c.args.vnode c.args.incarnation c.in-Err.refusal rep remember c.in-Err.ensures.refused

pub returns-then-self-gt-MAX_ENTRIES_MADE-clause-step : goal.returns-then-self-gt-MAX_ENTRIES_MADE-clause-step
returns-then-self-gt-MAX_ENTRIES_MADE-clause-step g c = λ listed old rep named remember new. load_wants listed c.args.self.now.vnodes.items c.args.self.now.vnodes.items old c.args.turn.replies.now c.args.dump c.args.vnode c.args.incarnation c.in-Ok.copies.now NoMemory rep remember c.in-Ok.ensures.copied refl refl

pub returns-in-Ok-load_at-clause-step : goal.returns-in-Ok-load_at-clause-step
returns-in-Ok-load_at-clause-step g c = λ listed old rep named remember new.
    let count : c.len.result ≡ length c.in-Ok.copies.now.held.items = search rules in
    subst (λ (n : ℕ). (x : Knowledge) × Happens listed old (Load c.args.dump c.args.vnode c.args.incarnation) (Loaded n) x × Represents c.load_at.new.self.vnodes.items x) (sym count)
    (load_happened listed c.args.self.now.vnodes.items c.load_at.new.self.vnodes.items old c.args.turn.replies.now c.args.dump c.args.vnode c.args.incarnation c.args.self.now.made c.in-Ok.copies.now rep c.requires.inside named remember new c.in-Ok.ensures.copied
    (subst (λ (id : ℕ). LoadsAll c.args.self.now.vnodes.items c.load_at.new.self.vnodes.items c.args.vnode id c.args.self.now.made c.in-Ok.copies.now) c.identifier-id.ensures c.in-Ok-load_at.ensures.loaded))

pub returns-in-Err-load_at-clause-step : goal.returns-in-Err-load_at-clause-step
returns-in-Err-load_at-clause-step g c = λ listed old rep named remember new. load_wants listed c.args.self.now.vnodes.items c.load_at.new.self.vnodes.items old c.args.turn.replies.now c.args.dump c.args.vnode c.args.incarnation c.in-Ok.copies.now c.in-Err-load_at.refusal rep remember c.in-Ok.ensures.copied c.in-Err-load_at.ensures.err c.in-Err-load_at.ensures.why

pub returns-in-Ok-load_at-clause-more : goal.returns-in-Ok-load_at-clause-more
returns-in-Ok-load_at-clause-more g c = loads_more c.in-Ok-load_at.ensures.loaded

pub returns-in-Err-clause-goes : goal.returns-in-Err-clause-goes
returns-in-Err-clause-goes g c = go_on_same c.args.self.now.vnodes.items

pub returns-then-self-gt-MAX_ENTRIES_MADE-clause-goes : goal.returns-then-self-gt-MAX_ENTRIES_MADE-clause-goes
returns-then-self-gt-MAX_ENTRIES_MADE-clause-goes g c = go_on_same c.args.self.now.vnodes.items

pub returns-in-Ok-load_at-clause-goes : goal.returns-in-Ok-load_at-clause-goes
returns-in-Ok-load_at-clause-goes g c =
    subst (λ (r : Reply). GoOn c.args.self.now.vnodes.items c.load_at.new.self.vnodes.items (sources_loaded (sources_told r) c.args.vnode (Loaded c.len.result) (sources_of c.args.self.now.vnodes.items))) (sym (get_or_from_slice_get c.args.turn.replies.now c.args.dump (Dumped c.in-Ok.copies.now) Nothing c.in-Ok.ensures.copied))
    (go_on_loaded c.args.self.now.vnodes.items c.load_at.new.self.vnodes.items c.args.vnode c.identifier-id.result c.args.self.now.made c.in-Ok.copies.now c.requires.inside c.in-Ok-load_at.ensures.loaded)

pub returns-in-Err-load_at-clause-goes : goal.returns-in-Err-load_at-clause-goes
returns-in-Err-load_at-clause-goes g c = go_on_still c.args.self.now.vnodes.items c.load_at.new.self.vnodes.items c.in-Err-load_at.ensures.err
