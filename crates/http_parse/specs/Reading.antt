-- What contracts see of a body in chunks that is read as its bytes come.
use Rattle.std.specs.Prelude.{◌≡◌, ℕ, ◌+◌, ◌<◌, ◌≤◌, if◌then◌else◌, nat_lt, List, [], ◌++◌, length, take, drop}
use Rattle.httparse.specs.Grammar.{Field, LineEnd, print_section, ReadsSection, HasNoSection, MayBecomeSection}
use Rattle.httparse.specs.declared.spans.Span.{Span}
use Rattle.http1.specs.declared.chunked.ChunkError.{ChunkError}
use Rattle.http1.specs.declared.chunked.ChunkedDecoder.{ChunkedDecoder}
use Rattle.http1.specs.ChunkedDecoder.{start, run, run_result, HasNotFailed, IsDone, FailsAt}
use Rattle.http_request.specs.Limits.{longest_head, most_lines, longest_body, longest_coded}
use Rattle.http_request.specs.Body.{ReadsCoded, ChunksFault, IsCodedUnfinished}
use Rattle.http_request.specs.declared.ask.Refusal.TheVariants.{BadLength}
use Rattle.http_parse.specs.declared.chunks.CodedBody.{CodedBody}
use Rattle.http_parse.specs.declared.chunks.Coded.{Coded}
use Rattle.http_parse.specs.declared.chunks.Coded.TheVariants as coded
use Rattle.http_parse.specs.declared.chunks.Stop.{Stop}
use Rattle.http_parse.specs.declared.chunks.Stop.TheVariants as stop
use Rattle.http_parse.specs.declared.chunks.Trailers.{Trailers}
use Rattle.http_parse.specs.declared.chunks.Trailers.TheVariants as trailers

-- a front of the bytes was read: it gave the data, and left the decoder so, which can go on
pub record IsRead (body : CodedBody) (bytes : List ℕ) : Type 0 where
  pub within : body.read ≤ length bytes
  pub below : body.read ≤ longest_coded
  pub runs : run (start longest_coded) (take body.read bytes) ≡ run_result body.decoder body.joined.items []
  pub goes : HasNotFailed body.decoder

-- and the data are no more than a body has
abbrev pub HasRead : CodedBody → List ℕ → Type 0
HasRead body bytes = IsRead body bytes × (length body.joined.items ≤ longest_body)

-- why no more chunks are read
abbrev pub HasStopped : Stop → List ℕ → CodedBody → Type 0
HasStopped stop.Rest bytes body = HasRead body bytes × (body.read ≡ length bytes) × (IsDone body.decoder → ⊥)
HasStopped stop.Last bytes body = HasRead body bytes × IsDone body.decoder
HasStopped stop.Large bytes body = IsRead body bytes × (longest_body < length body.joined.items)
HasStopped stop.Bad bytes body = HasRead body bytes × ((new : ChunkedDecoder) × (e : ChunkError) × FailsAt body.decoder (drop body.read bytes) new e)

-- why no more is read behind a piece of data, which was read
abbrev pub StopsBehind : Stop → CodedBody → Span → Type 0
StopsBehind stop.Rest body piece = (piece.start ≡ piece.end) × (IsDone body.decoder → ⊥)
StopsBehind stop.Last body piece = (piece.start ≡ piece.end) × IsDone body.decoder
StopsBehind stop.Large body piece = longest_body < length body.joined.items
StopsBehind stop.Bad body piece = ⊥

-- what the bytes begin with: a trailer section within the limits, or a front of one, or none, whatever follows
abbrev pub FindsTrailers : List ℕ → Trailers → Type 0
FindsTrailers bytes (trailers.Whole len) =
    (len ≤ length bytes) × ((fields : List Field) × (last : LineEnd) × ReadsSection bytes fields last (drop len bytes)
    × (length fields ≤ most_lines) × (length (print_section fields last) ≤ longest_head))
FindsTrailers bytes trailers.Unfinished = HasNoSection bytes × MayBecomeSection bytes
FindsTrailers bytes trailers.Bad =
    (more : List ℕ) (fields : List Field) (last : LineEnd) (rest : List ℕ) → ReadsSection (bytes ++ more) fields last rest
    → length fields ≤ most_lines → length (print_section fields last) ≤ longest_head → ⊥

-- what a body comes to that isn't whole, where so many bytes are there
abbrev pub unfinished : ℕ → Coded
unfinished n = if nat_lt n longest_coded then coded.Unfinished else coded.Bad BadLength

-- what it comes to by its trailer section, behind so many bytes of n
abbrev pub behind : ℕ → ℕ → Trailers → Coded
behind read n (trailers.Whole len) = coded.Whole (read + len)
behind read n trailers.Unfinished = unfinished n
behind read n trailers.Bad = coded.Bad BadLength

-- what the body comes to that the bytes begin with, and what is read of it while it isn't whole
abbrev pub Comes : Coded → List ℕ → CodedBody → Type 0
Comes coded.Unfinished bytes body = IsCodedUnfinished bytes × HasRead body bytes
Comes (coded.Whole len) bytes body = (len ≤ length bytes) × ((more : List ℕ) → ReadsCoded (bytes ++ more) body.joined.items (drop len bytes ++ more))
Comes (coded.Bad refusal) bytes body = (more : List ℕ) → ChunksFault (bytes ++ more) refusal
