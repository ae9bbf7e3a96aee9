use Rattle.std.proofs.Common.{ap, ◌∙◌, reverse}
use Rattle.httparse.specs.Grammar.{trim_ows, skip_ows}
use Rattle.http_parse.proofs.fields.trimmed.Goals as goal

pub returns : goal.returns
unfolding trim_ows
returns c = c.without_space_behind.ensures ∙ ap (λ t. reverse (skip_ows (reverse t))) c.without_space_before.ensures
