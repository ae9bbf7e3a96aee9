use Rattle.std.proofs.Common.{inr, Ok, Err}
use Rattle.script_events.proofs.Asked.{kept_at}
use Rattle.script_events.proofs.hooking.hook_in.Goals as goal

pub returns-in-Some-Ok-clause-found : goal.returns-in-Some-Ok-clause-found
returns-in-Some-Ok-clause-found g c =
    let at = kept_at c.args.kept.now c.as_bytes.result.now c.args.file.now c.get.result c.in-Some-Ok.field-0 (Ok c.in-Some-Ok.hook) c.as_bytes.ensures.value c.get.ensures.value c.in-Some-Ok.is c.in-Some-Ok.field-0-is in
    let known = c.requires c.args.file.now (Ok c.in-Some-Ok.hook) at in
    let same = rw c.in-Some-Ok.field-0-is at c.in_ok-share-in-Some-Ok.ensures in
    rw same known.0

pub returns-in-Some-Ok-clause-runs : goal.returns-in-Some-Ok-clause-runs
returns-in-Some-Ok-clause-runs g c =
    let at = kept_at c.args.kept.now c.as_bytes.result.now c.args.file.now c.get.result c.in-Some-Ok.field-0 (Ok c.in-Some-Ok.hook) c.as_bytes.ensures.value c.get.ensures.value c.in-Some-Ok.is c.in-Some-Ok.field-0-is in
    let known = c.requires c.args.file.now (Ok c.in-Some-Ok.hook) at in
    let same = rw c.in-Some-Ok.field-0-is at c.in_ok-share-in-Some-Ok.ensures in
    rw same (known.1, known.2)

pub returns-in-Some-Err-clause-refused : goal.returns-in-Some-Err-clause-refused
returns-in-Some-Err-clause-refused g c =
    let at = kept_at c.args.kept.now c.as_bytes.result.now c.args.file.now c.get.result c.in-Some-Err.field-0 (Err c.in-Some-Err.refusal) c.as_bytes.ensures.value c.get.ensures.value c.in-Some-Err.is c.in-Some-Err.field-0-is in
    let known = c.requires c.args.file.now (Err c.in-Some-Err.refusal) at in
    rw c.in-Some-Err.field-0-is (inr known)
