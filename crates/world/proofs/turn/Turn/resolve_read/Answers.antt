use Rattle.std.proofs.Common.{List, subst}
use Rattle.key_state.specs.declared.content.Sibling.{Sibling}
use Rattle.bpf_verifier.specs.Program.{Program}
use Rattle.hook_run.specs.Resolving.{IsResolution}
use Rattle.world.proofs.Runs.{run_happened, run_wants, get_was_refused}
use Rattle.world.proofs.turn.Turn.resolve_read.Goals as goal

pub returns-in-Err : goal.returns-in-Err
returns-in-Err g c = record { step = λ logs old rep remember. get_was_refused c.args.self.table.now.listed logs old c.args.self.replies.now c.args.get c.args.hook.now c.in-Err.refusal rep remember c.in-Err.ensures.refused; kind = tt }

pub returns-in-Ok-resolve : goal.returns-in-Ok-resolve
returns-in-Ok-resolve g c = record { step = λ logs old rep remember. run_happened c.args.self.table.now.listed logs old c.args.self.replies.now c.args.get c.args.hook.now c.in-Ok.state.now c.in-Ok-resolve.resolution rep remember c.in-Ok.ensures.found (subst (λ (hook : Program). IsResolution c.args.self.table.now.listed hook c.in-Ok.state.now.siblings c.in-Ok-resolve.resolution) c.program.ensures (subst (λ (ss : List Sibling). IsResolution c.args.self.table.now.listed c.program.result.now ss c.in-Ok-resolve.resolution) c.siblings.ensures.all c.in-Ok-resolve.ensures.resolution)); kind = tt }

pub returns-in-Err-NoMemory : goal.returns-in-Err-NoMemory
returns-in-Err-NoMemory g c = record { step = λ logs old rep remember. run_wants c.args.self.table.now.listed logs old c.args.self.replies.now c.args.get c.args.hook.now c.in-Ok.state.now rep remember c.in-Ok.ensures.found; kind = tt }
