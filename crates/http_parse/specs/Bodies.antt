-- What contracts see of the body behind a head.
use Rattle.std.specs.Prelude.{ℕ, ◌+◌, ◌<◌, ◌≤◌, if◌then◌else◌, nat_lt, List, ◌++◌, length, drop, slice_range}
use Rattle.http_request.specs.Fields.{Framing, sized, chunked}
use Rattle.http_request.specs.Limits.{longest_head, longest_coded}
use Rattle.http_request.specs.Body.{HasBody, BodyFault, IsBodyUnfinished}
use Rattle.http_parse.specs.declared.chunks.Coded.{Coded}
use Rattle.http_parse.specs.declared.chunks.Coded.TheVariants as coded
use Rattle.http_parse.specs.declared.chunks.CodedBody.{CodedBody}
use Rattle.http_parse.specs.declared.request.BodyAt.{BodyAt}
use Rattle.http_parse.specs.declared.request.BodyAt.TheVariants.{Unfinished, Bad, Whole}
use Rattle.http_parse.specs.Reading.{HasRead}

-- the body: these bytes, or the data of its chunks
abbrev pub body_by : Framing → List ℕ → List ℕ → List ℕ
body_by (sized n) bytes joined = bytes
body_by chunked bytes joined = joined

-- what the body comes to behind a head of start bytes, whatever follows these
abbrev pub EndsAt : BodyAt → Framing → List ℕ → ℕ → CodedBody → Type 0
EndsAt (Unfinished needs) framed bytes start read =
    (length bytes < needs) × (needs ≤ longest_head + longest_coded) × HasRead read (drop start bytes)
    × ((more : List ℕ) → length bytes + length more < needs → IsBodyUnfinished framed (drop start bytes ++ more))
EndsAt (Bad refusal) framed bytes start read = (more : List ℕ) → BodyFault framed (drop start bytes ++ more) refusal
EndsAt (Whole len) framed bytes start read =
    (start ≤ len) × (len ≤ length bytes)
    × ((more : List ℕ) → HasBody framed (drop start bytes ++ more) (body_by framed (slice_range bytes start len) read.joined.items) (drop len bytes ++ more))

-- a request whose length was said, of which so many bytes are there
abbrev pub sized_ends : ℕ → ℕ → BodyAt
sized_ends here len = if nat_lt here len then Unfinished len else Whole len

-- the same where the body comes in chunks, behind a head of start bytes
abbrev pub coded_ends : ℕ → ℕ → Coded → BodyAt
coded_ends here start coded.Unfinished = Unfinished (here + 1)
coded_ends here start (coded.Whole len) = Whole (start + len)
coded_ends here start (coded.Bad refusal) = Bad refusal

-- what is whole has no more bytes than there are, and what isn't has few
abbrev pub IsWithinBytes : Coded → ℕ → Type 0
IsWithinBytes coded.Unfinished n = n < longest_coded
IsWithinBytes (coded.Whole len) n = len ≤ n
IsWithinBytes (coded.Bad refusal) n = Unit {0}
