-- What contracts see of the head at the front of some bytes.
use Rattle.std.specs.Prelude.{ℕ, List, ◌++◌, drop}
use Rattle.httparse.specs.Grammar.{RequestHead}
use Rattle.httparse.specs.Spans.{IsRequestAt, IsRequestWithin}
use Rattle.httparse.specs.declared.spans.HeaderSpan.{HeaderSpan}
use Rattle.httparse.specs.declared.spans.RequestSpans.{RequestSpans}
use Rattle.http_request.specs.Head.{BeginsHead, IsHeadUnfinished, IsBadHead}
use Rattle.http_parse.specs.declared.head.HeadAt.{HeadAt}
use Rattle.http_parse.specs.declared.head.HeadAt.TheVariants.{Whole, Unfinished, Bad}

-- the bytes begin with a head, whose parts lie where the spans say
abbrev pub StandsAt : List ℕ → List HeaderSpan → RequestSpans → Type 0
StandsAt bytes lines spans =
    IsRequestWithin bytes lines spans
    × ((head : RequestHead) × IsRequestAt bytes lines spans head × BeginsHead bytes head (drop spans.len bytes))

-- whatever follows the bytes, they begin with this head or a bad one; or no head is whole yet
abbrev pub FindsHead : List ℕ → List HeaderSpan → HeadAt → Type 0
FindsHead bytes lines (Whole spans) = StandsAt bytes lines spans
FindsHead bytes lines Unfinished = IsHeadUnfinished bytes
FindsHead bytes lines Bad = (more : List ℕ) → IsBadHead (bytes ++ more)
