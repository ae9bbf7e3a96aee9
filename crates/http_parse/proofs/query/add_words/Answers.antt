use Rattle.std.proofs.Common.{rules}
use Rattle.http_parse.proofs.QueryLemmas.{one_pair}
use Rattle.http_parse.proofs.query.add_words.Goals as goal

pub loop-pair-preserved-in_ok-name : goal.loop-pair-preserved-in_ok-name
loop-pair-preserved-in_ok-name c =
    let step = c.in-Some.ensures.steps.0 in (
      tt,
      tt,
      one_pair c.loop-pair.words c.add_pair.new.words _ _ _ step.0 step.1 _ _ step.2 (search rules) (search rules)
          (c.add_pair.ensures _ _) c.loop-pair.invariant.2,
    )

pub loop-pair-preserved : goal.loop-pair-preserved
loop-pair-preserved c =
    let step = c.in-Some.ensures.steps.0 in (
      tt,
      tt,
      one_pair c.loop-pair.words c.add_pair.new.words _ _ _ step.0 step.1 _ _ step.2 (search rules) (search rules)
          (c.add_pair.ensures _ _) c.loop-pair.invariant.2,
    )
