use Rattle.std.proofs.Common.{ℕ, rules}
use Rattle.std.specs.Prelude.{◌==◌}
use Rattle.std.proofs.lemmas.List.Sorted.{answers_always}
use Rattle.script_lines.proofs.Spaces.{begun, ended, word_more}
use Rattle.script_lines.proofs.line.words_of.Goals as goal

pub loop-word-init : goal.loop-word-init
loop-word-init c = begun c.args.line.now c.in_ok-words.words.items c.into_iter-word-iterator.result.rest.now c.into_iter-word-iterator.result.done c.in_ok-words.ensures.items (search rules) (search rules)

pub loop-word-preserved : goal.loop-word-preserved
loop-word-preserved c =
    word_more c.args.line.now c.loop-word.words.items c.push.new.self.items c.in-Some.word c.loop-word.word-iterator.rest.now c.next.new.self.rest.now c.loop-word.word-iterator.done c.next.new.self.done
    c.loop-word.invariant c.in_ok-push.ensures.items c.in-Some.ensures.steps.0 c.in-Some.ensures.steps.1 (c.in-Some.ensures.steps.2 (λ (b : ℕ). b == 32) (answers_always _ _ c.loop-word.word-iterator.pred (λ f a r f' called. search rules))).1

pub returns : goal.returns
returns c = ended c.args.line.now c.loop-word.words.items c.loop-word.word-iterator.rest.now c.loop-word.word-iterator.done c.loop-word.invariant c.in-None.ensures.steps.0
