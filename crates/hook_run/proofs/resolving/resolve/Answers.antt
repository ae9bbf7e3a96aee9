use Rattle.std.proofs.Common.{Ok}
use Rattle.bpf_helpers.specs.Calls.{calls_of}
use Rattle.bpf_helpers.specs.Closures.{calls_told}
use Rattle.bpf_helpers.specs.contracts.table.TableClosures.TheImpl.{ghosts}
use Rattle.hook_abi.specs.Verdicts.{meaning_of}
use Rattle.hook_run.proofs.Resolved.{came_to}
use Rattle.hook_run.proofs.resolving.resolve.Goals as goal

pub returns-in-Ok-resolved-clause-resolution : goal.returns-in-Ok-resolved-clause-resolution
returns-in-Ok-resolved-clause-resolution g c = (Ok (meaning_of c.in-Ok.verdict), c.in-Ok.ensures.decision, c.in-Ok-resolved.ensures.resolution)

pub returns-in-Ok-resolved-clause-told : goal.returns-in-Ok-resolved-clause-told
returns-in-Ok-resolved-clause-told g c = (Ok (meaning_of c.in-Ok.verdict), c.in-Ok.ensures.told, c.in-Ok-resolved.ensures.resolution)

pub returns-in-Err-clause-resolution : goal.returns-in-Err-clause-resolution
returns-in-Err-clause-resolution g c = came_to (calls_of c.args.hook.now.sigs) c.args.table.now.listed c.args.hook.now c.args.siblings.now c.in-Err.fault c.undecided.result c.undecided.ensures c.in-Err.ensures.decision

pub returns-in-Err-clause-told : goal.returns-in-Err-clause-told
returns-in-Err-clause-told g c = came_to (calls_told ((ghosts g.dyn-1).tells c.args.table.now) c.args.hook.now.sigs) c.args.table.now.listed c.args.hook.now c.args.siblings.now c.in-Err.fault c.undecided.result c.undecided.ensures c.in-Err.ensures.told
