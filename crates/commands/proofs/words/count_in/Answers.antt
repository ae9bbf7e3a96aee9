use Rattle.std.proofs.Common.{◌∙◌, sym}
use Rattle.commands.proofs.Counting.{counted}
use Rattle.commands.proofs.words.count_in.Goals as goal

pub returns : goal.returns
returns c = c.ok.ensures.value ∙ counted _ c.args.word.now c.parse.result (sym c.is_count.ensures ∙ c.if-not-is_count.false) c.parse.ensures.value.0
