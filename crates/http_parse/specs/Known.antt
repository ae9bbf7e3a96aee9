-- What contracts see of what is known of a head.
use Rattle.std.specs.Prelude.{◌≡◌, ℕ, List, drop, Option, Some, None, IfSome}
use Rattle.httparse.specs.declared.spans.RequestSpans.{RequestSpans}
use Rattle.http_parse.specs.Heads.{StandsAt}
use Rattle.http_parse.specs.Reading.{HasRead}
use Rattle.http_parse.specs.declared.chunks.CodedBody.{CodedBody}
use Rattle.http_parse.specs.declared.known.KnownHead.{KnownHead}
use Rattle.http_parse.specs.declared.request.Asking.{Asking}
use Rattle.http_parse.specs.declared.request.Asking.TheVariants.{Head, Body, GoOn, First}

-- the head that is known, if one is, stands at the front of the bytes, and what was read of chunks are the first bytes behind it
abbrev pub IsKnownOf : KnownHead → List ℕ → Type 0
IsKnownOf known bytes = IfSome known.spans (λ spans. StandsAt bytes known.lines spans × HasRead known.body (drop spans.len bytes))

-- no head is known, so it is right of any bytes
abbrev pub KnowsNothing : KnownHead → Type 0
KnowsNothing known = (bytes : List ℕ) → IsKnownOf known bytes

-- the head that an answer about a whole head leaves known: it is kept while its body is missing
abbrev pub kept_of : Asking → RequestSpans → Option RequestSpans
kept_of Head spans = None
kept_of (Body needs) spans = Some spans
kept_of (GoOn head len) spans = None
kept_of (First ask ends len) spans = None

-- what is known beside an answer: the head of the bytes while its body is missing, and else nothing
abbrev pub Leaves : Asking → List ℕ → KnownHead → Type 0
Leaves Head bytes known = KnowsNothing known
Leaves (Body needs) bytes known = (spans : RequestSpans) × (known.spans ≡ Some spans) × StandsAt bytes known.lines spans
    × HasRead known.body (drop spans.len bytes)
Leaves (GoOn head len) bytes known = KnowsNothing known
Leaves (First ask ends len) bytes known = KnowsNothing known

-- what was read of chunks beside an answer, behind the head: it is kept while the body is missing
abbrev pub Keeps : Asking → List ℕ → CodedBody → Type 0
Keeps Head after body = Unit {0}
Keeps (Body needs) after body = HasRead body after
Keeps (GoOn head len) after body = Unit {0}
Keeps (First ask ends len) after body = Unit {0}
