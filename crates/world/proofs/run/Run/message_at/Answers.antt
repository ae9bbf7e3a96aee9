use Rattle.std.proofs.Common.{[], ap, subst, ◌∙◌}
use Rattle.std.proofs.lemmas.List.{get_or_default}
use Rattle.journal.specs.Logs.{Log}
use Rattle.vnode.specs.Refusals.{RefusesEntry}
use Rattle.world.proofs.Sources.{go_on_same}
use Rattle.world.proofs.run.Run.message_at.Goals as goal

pub returns-in_default-clause-refused : goal.returns-in_default-clause-refused
returns-in_default-clause-refused c = subst (λ (l : Log). RefusesEntry l c.want_of_memory.result) (c.index.ensures ∙ get_or_default c.args.self.now.vnodes.items c.args.at c.index.result.now (record { vnode = 0; entries = [] }) c.requires.inside) c.want_of_memory.ensures

pub returns-in-Ok-read_at-clause-copy : goal.returns-in-Ok-read_at-clause-copy
returns-in-Ok-read_at-clause-copy c = record {
  key_is = c.in-Ok.ensures;
  from = c.id-from.ensures ∙ ap (λ (l : Log). l.vnode) (c.index-2.ensures ∙ get_or_default c.args.self.now.vnodes.items c.args.at c.index-2.result.now (record { vnode = 0; entries = [] }) c.requires.inside);
  at = c.in-Ok-read_at.ensures.place;
  state = c.in-Ok-read_at.ensures.state;
}

pub returns-in_default-clause-goes : goal.returns-in_default-clause-goes
returns-in_default-clause-goes c = go_on_same c.args.self.now.vnodes.items
