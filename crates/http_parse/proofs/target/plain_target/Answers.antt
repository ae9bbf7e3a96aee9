use Rattle.std.proofs.Common.{[], subst, sym}
use Rattle.http_parse.specs.Targets.{IsTargetOf}
use Rattle.http_parse.proofs.TargetLemmas.{plain_target, plain_bad}
use Rattle.http_parse.proofs.target.plain_target.Goals as goal

pub returns-in-Ok-clause-some : goal.returns-in-Ok-clause-some
returns-in-Ok-clause-some c =
    let text = c.args.text.now in
    subst (λ path. IsTargetOf text path []) (sym c.in-Ok.ensures.cases.0) (plain_target text c.requires.slash c.requires.short c.requires.plain c.in-Ok.ensures.cases.1)

pub returns-in-Err-clause-none : goal.returns-in-Err-clause-none
returns-in-Err-clause-none c = plain_bad c.args.text.now c.requires.plain c.in-Err.ensures.cases.0
