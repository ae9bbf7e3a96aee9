use Rattle.std.proofs.Common.{◌∙◌, ⊎_elim, subst}
use Rattle.std.specs.Prelude.{IfSome, string_bytes}
use Rattle.kept_folder.specs.Reads.{IsWithin, log_name}
use Rattle.kept_folder.proofs.Logging.{all_named, named_more, none_named}
use Rattle.kept_folder.proofs.logs.span_of.Goals as goal

pub loop-name-init : goal.loop-name-init
loop-name-init c = record { all = λ number lt has. absurd (none_named string_bytes c.args.names.now (log_name number) has); order = tt }

pub loop-name-preserved : goal.loop-name-preserved
loop-name-preserved c = record {
  all = λ number lt has.
      ⊎_elim (λ before. c.with_log-span.ensures.old number (c.loop-name.invariant.all number lt before))
      (λ here. subst (λ o. IfSome o (IsWithin c.with_log-span.result)) (c.in_ok-found.ensures.all number lt (c.as_str.ensures.value ∙ here)) c.with_log-span.ensures.new)
      (named_more string_bytes c.args.names.now c.loop-name.name-index c.name-item.result (log_name number) c.loop-name-test.true c.name-item.is has);
  order = c.with_log-span.ensures.order c.loop-name.invariant.order;
}

pub returns-clause-all : goal.returns-clause-all
returns-clause-all c = λ number lt has. c.loop-name.invariant.all number lt (all_named string_bytes c.args.names.now c.loop-name.name-index (log_name number) c.loop-name-test.false has)
