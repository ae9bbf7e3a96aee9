use Rattle.std.proofs.Common.{[], refl, subst, ◌∷◌, ◌∙◌}
use Rattle.std.proofs.lemmas.List.{get_or_default}
use Rattle.journal.specs.Entry.{Restart}
use Rattle.journal.specs.Logs.{Log}
use Rattle.vnode.specs.Refusals.{RefusesEntry}
use Rattle.world.proofs.Stamped.{stamped_at}
use Rattle.world.proofs.Sources.{go_on_none, go_on_back}
use Rattle.world.proofs.run.Run.restart_at.Goals as goal

pub returns-in-Ok-clause-stamps : goal.returns-in-Ok-clause-stamps
returns-in-Ok-clause-stamps c = stamped_at c.args.self.now.vnodes.items c.args.self.now.made c.args.at (Restart c.args.self.now.made) c.index_mut-vnode.result.now c.restart.new.self c.requires.inside c.index_mut-vnode.ensures.value c.in-Ok.ensures.entry refl

pub returns-in-Err-clause-refused : goal.returns-in-Err-clause-refused
returns-in-Err-clause-refused c =
    subst (λ (l : Log). RefusesEntry l c.in-Err.fault)
    (c.index_mut-vnode.ensures.value ∙ get_or_default c.args.self.now.vnodes.items c.args.at c.index_mut-vnode.result.now (record { vnode = 0; entries = [] }) c.requires.inside) c.in-Err.ensures.why

pub returns-in-Ok-clause-goes : goal.returns-in-Ok-clause-goes
returns-in-Ok-clause-goes c = go_on_none c.args.self.now.vnodes.items c.args.at (Restart c.args.self.now.made ∷ []) c.index_mut-vnode.result.now c.restart.new.self c.requires.inside c.index_mut-vnode.ensures.value c.in-Ok.ensures.entry refl

pub returns-in-Err-clause-goes : goal.returns-in-Err-clause-goes
returns-in-Err-clause-goes c = go_on_back c.args.self.now.vnodes.items c.args.at c.index_mut-vnode.result.now c.restart.new.self c.index_mut-vnode.ensures.value c.in-Err.ensures.err
