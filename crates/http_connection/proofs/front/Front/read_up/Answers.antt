use Rattle.std.proofs.Common.{arith, ap, sym, subst, ◌∙◌, ◌++◌, length-append, append_assoc}
use Rattle.std.proofs.KnownBytes.{Consumes-trans, Consumes-kept}
use Rattle.http_connection.specs.Pending.{IsPending}
use Rattle.http_connection.proofs.RequestLemmas.{if_err_and}
use Rattle.http_connection.proofs.front.Front.read_up.Goals as goal

pub reads-preserved : goal.reads-preserved
reads-preserved g c =
    let so = c.reads.invariant in
    let ok = c.in_ok-n.ensures.ok in record {
      came = (
        so.came.0 ++ ok.0,
        omega (arith, length-append so.came.0 ok.0, so.came.1, ok.1),
        ok.2 ∙ (ap (λ l. l ++ ok.0) so.came.2 ∙ append_assoc c.args.talk.now.waits so.came.0 ok.0),
        Consumes-trans _ _ _ so.came.0 ok.0 so.came.3 ok.3,
      );
      pending = c.is_due.ensures.pending c.if-is_due.false;
      unsent = c.in_ok-n.ensures.unsent ∙ so.unsent;
      counted = c.in_ok-n.ensures.reads ∙ so.counted;
      left = omega (arith, so.left, c.in_ok-n.ensures.left);
      fewer = λ some. omega (arith, so.left, c.in_ok-n.ensures.ends);
    }

pub returns-in_err-n-clause-unread : goal.returns-in_err-n-clause-unread
returns-in_err-n-clause-unread g c =
    if_err_and c.from_residual.result _ _ c.from_residual.ensures.1
    (λ fault same is.
    let so = c.reads.invariant in
    let kept = c.in_err-n.ensures.kept (sym same ∙ is) in (
      (so.came.0, kept.0 ∙ so.came.2, Consumes-kept _ _ _ so.came.0 so.came.3 kept.1),
      subst IsPending (sym kept.0) so.pending,
    ))
