use Rattle.std.proofs.Common.{◌∙◌, sym}
use Rattle.commands.proofs.Counting.{named}
use Rattle.commands.proofs.words.vnode_in.Goals as goal

pub returns : goal.returns
returns c = named _ c.args.word.now c.unwrap_or.result c.parse.result (sym c.eq.ensures ∙ c.if-eq.false) (sym c.is_count.ensures ∙ c.if-not-is_count.false) c.parse.ensures.value.0 c.unwrap_or.ensures
