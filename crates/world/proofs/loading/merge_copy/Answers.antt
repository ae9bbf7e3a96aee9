use Rattle.world.proofs.Merging.{only_memory}
use Rattle.world.proofs.loading.merge_copy.Goals as goal

pub returns-in-Err-clause-why : goal.returns-in-Err-clause-why
returns-in-Err-clause-why c = only_memory c.args.vnode.now c.args.one.now.key c.args.one.now.state c.in-Err.fault c.requires.unknown c.requires.place c.siblings-siblings.ensures.state c.in-Err.ensures.why
