use Rattle.std.proofs.Common.{rules}
use Rattle.http_parse.proofs.whole.Request.ask_of_names.Goals as goal

pub returns-else-is_read-clause-fits : goal.returns-else-is_read-clause-fits
returns-else-is_read-clause-fits c = λ copies fits. c.put_of_key.ensures.fits copies (c.has_names.ensures.fits (search rules)) fits
