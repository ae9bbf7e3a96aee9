use Rattle.std.proofs.Common.{[], length, refl, ap, subst, ◌∙◌, ◌∷◌}
use Rattle.std.proofs.lemmas.List.{get_or_default}
use Rattle.journal.specs.Entry.{Read}
use Rattle.journal.specs.Logs.{Log}
use Rattle.journal.specs.Replay.{IsReplay}
use Rattle.vnode.specs.Refusals.{RefusesEntry}
use Rattle.world.proofs.Stamped.{stamped_at}
use Rattle.world.proofs.Sources.{go_on_none, go_on_back}
use Rattle.world.proofs.run.Run.read_at.Goals as goal

pub returns-in-Ok-clause-stamps : goal.returns-in-Ok-clause-stamps
returns-in-Ok-clause-stamps c = stamped_at c.args.self.now.vnodes.items c.args.self.now.made c.args.at (Read c.args.self.now.made c.args.key.now) c.index_mut-vnode.result.now c.read.new.self c.requires.inside c.index_mut-vnode.ensures.value c.in-Ok.ensures.entry refl

pub returns-in-Ok-clause-state : goal.returns-in-Ok-clause-state
returns-in-Ok-clause-state c =
    subst (λ (l : Log). IsReplay l.entries c.args.key.now c.in-Ok.found.0)
    (c.index_mut-vnode.ensures.value ∙ get_or_default c.args.self.now.vnodes.items c.args.at c.index_mut-vnode.result.now (record { vnode = 0; entries = [] }) c.requires.inside) c.in-Ok.ensures.state

pub returns-in-Ok-clause-place : goal.returns-in-Ok-clause-place
returns-in-Ok-clause-place c =
    c.in-Ok.ensures.place ∙ ap (λ (l : Log). length l.entries) (c.index_mut-vnode.ensures.value ∙ get_or_default c.args.self.now.vnodes.items c.args.at c.index_mut-vnode.result.now (record { vnode = 0; entries = [] }) c.requires.inside)

pub returns-in-Err-clause-refused : goal.returns-in-Err-clause-refused
returns-in-Err-clause-refused c =
    subst (λ (l : Log). RefusesEntry l c.in-Err.fault)
    (c.index_mut-vnode.ensures.value ∙ get_or_default c.args.self.now.vnodes.items c.args.at c.index_mut-vnode.result.now (record { vnode = 0; entries = [] }) c.requires.inside) c.in-Err.ensures.why

pub returns-in-Ok-clause-goes : goal.returns-in-Ok-clause-goes
returns-in-Ok-clause-goes c = go_on_none c.args.self.now.vnodes.items c.args.at (Read c.args.self.now.made c.args.key.now ∷ []) c.index_mut-vnode.result.now c.read.new.self c.requires.inside c.index_mut-vnode.ensures.value c.in-Ok.ensures.entry refl

pub returns-in-Err-clause-goes : goal.returns-in-Err-clause-goes
returns-in-Err-clause-goes c = go_on_back c.args.self.now.vnodes.items c.args.at c.index_mut-vnode.result.now c.read.new.self c.index_mut-vnode.ensures.value c.in-Err.ensures.err
