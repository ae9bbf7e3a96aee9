use Rattle.std.proofs.Common.{map}
use Rattle.std.specs.Str.Lossy.{utf8_lossy}
use Rattle.form_urlencoded.specs.Form.{decode}
use Rattle.form_urlencoded.specs.Parse.{pairs_left}
use Rattle.http_request.specs.Target as spec
use Rattle.http_parse.specs.Words.{WordsLeadTo}
use Rattle.http_parse.proofs.query.add_words.Given as goal

-- the words that were found and the pairs that are left have the same first of each name
abbrev pub invariant-loop-pair : goal.invariant-loop-pair
invariant-loop-pair l =
    (goal.iterator-loop-pair).can_next l.pair-iterator × (goal.iterator-loop-pair).is_finite l.pair-iterator
    × WordsLeadTo l.words (map (λ pair. (utf8_lossy (decode pair.0), utf8_lossy (decode pair.1))) (pairs_left l.pair-iterator)) (spec.texts_of l.query)
