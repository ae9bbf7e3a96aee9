use Rattle.std.proofs.Common.{refl, ◌∙◌, ap, sym, subst, arith}
use Rattle.std.proofs.lemmas.Result.{err_from_is_err_and}
use Rattle.record_codec.specs.Records.{Begins}
use Rattle.record_codec.specs.Reading.{record_in}
use Rattle.record_codec.proofs.Frames.{begins_once, fault_only, read_begins, told_fault, unread}
use Rattle.record_codec.proofs.read.read_record.Goals as goal

pub returns-in-Err-clause-only : goal.returns-in-Err-clause-only
returns-in-Err-clause-only c = λ r len begins. fault_only c.args.bytes.now c.in-Err.fault r len c.in-Err.ensures.fault begins

pub returns-in-Err-clause-exact : goal.returns-in-Err-clause-exact
returns-in-Err-clause-exact c = λ fault frame. told_fault c.args.bytes.now _ c.in-Err.fault refl c.in-Err.ensures.fault fault frame

pub returns-in_err-record_-clause-only : goal.returns-in_err-record_-clause-only
returns-in_err-record_-clause-only c =
    let p = err_from_is_err_and c.from_residual.result c.from_residual.ensures.1 in
    let fault = unread c.args.bytes.now c.in-Ok.front.0.body.now c.in-Ok.front.0.form c.in_err-record_.field-0.0 c.in-Ok.ensures.whole c.in-Ok.ensures.form c.in-Ok.ensures.digest c.in-Ok.ensures.body c.in_err-record_.ensures in
    λ r len begins. rw (p.1, p.2) (fault_only c.args.bytes.now c.in_err-record_.field-0.0 r len fault begins)

pub returns-in_err-record_-clause-fault : goal.returns-in_err-record_-clause-fault
returns-in_err-record_-clause-fault c =
    let p = err_from_is_err_and c.from_residual.result c.from_residual.ensures.1 in
    rw (p.1, p.2) (unread c.args.bytes.now c.in-Ok.front.0.body.now c.in-Ok.front.0.form c.in_err-record_.field-0.0 c.in-Ok.ensures.whole c.in-Ok.ensures.form c.in-Ok.ensures.digest c.in-Ok.ensures.body c.in_err-record_.ensures)

is_found : (c : goal.In_ok-record_) → Begins c.args.bytes.now c.in_ok-record_.record_ c.in-Ok.front.1
is_found c =
    let found = read_begins c.args.bytes.now c.in-Ok.front.0.form c.in_ok-record_.record_ (λ i. omega (arith, c.type_inv.bytes i)) c.in-Ok.ensures.whole c.in-Ok.ensures.form c.in-Ok.ensures.digest (ap (record_in c.in-Ok.front.0.form) (sym c.in-Ok.ensures.body) ∙ c.in_ok-record_.ensures) in
    subst (Begins c.args.bytes.now c.in_ok-record_.record_) (sym c.in-Ok.ensures.len) found

pub returns-clause-found : goal.returns-clause-found
returns-clause-found c = is_found c

pub returns-clause-only : goal.returns-clause-only
returns-clause-only c = λ r len begins. begins_once c.args.bytes.now c.in_ok-record_.record_ r c.in-Ok.front.1 len (is_found c) begins
