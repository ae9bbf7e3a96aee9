-- The body of a request: by its length, or in chunks (RFC 9112, sections 6 and 7.1).
use Rattle.std.specs.Prelude.{◌≡◌, ℕ, ◌+◌, ◌<◌, ◌≤◌, List, ◌++◌, length, take}
use Rattle.httparse.specs.Grammar.{Field, LineEnd, print_section, ReadsSection, MayBecomeSection}
use Rattle.http1.specs.ChunkedBody.{Chunks, content, ReadsChunks}
use Rattle.http1.specs.ChunkedDecoder.{start, run, HasNotFailed, IsDone}
use Rattle.http_request.specs.Limits.{longest_head, most_lines, longest_body, longest_coded}
use Rattle.http_request.specs.Fields.{Framing, sized, chunked}
use Rattle.http_request.specs.declared.ask.Refusal.{Refusal}
use Rattle.http_request.specs.declared.ask.Refusal.TheVariants.{BadLength, Large}

-- the bytes begin with chunks that have this body, and a trailer section, which are within the limits; rest follows them
pub record ReadsCoded (bytes body rest : List ℕ) : Type 0 where
  pub chunks : Chunks
  pub between : List ℕ
  pub reads : ReadsChunks longest_coded bytes chunks between
  pub data_is : body ≡ content chunks
  pub trailers : List Field
  pub last : LineEnd
  pub section : ReadsSection between trailers last rest
  pub few : length trailers ≤ most_lines
  pub brief : length (print_section trailers last) ≤ longest_head
  pub small : length body ≤ longest_body
  pub short : length bytes ≤ longest_coded + length rest

-- the data of the chunks, whole or not, among so many of the bytes as a body in chunks has at most
abbrev pub data_in : List ℕ → List ℕ
data_in bytes = (run (start longest_coded) (take longest_coded bytes)).body

-- whatever follows the bytes, no body in chunks within the limits begins them: their data are too many, or they never are too many and a chunk or
-- the trailer section is bad, or both are too long
pub data ChunksFault (bytes : List ℕ) : Refusal → Type 0 where
  large : longest_body < length (data_in bytes) → ChunksFault bytes Large
  bad : ((more body rest : List ℕ) → ReadsCoded (bytes ++ more) body rest → ⊥) → ((more : List ℕ) → length (data_in (bytes ++ more)) ≤ longest_body)
      → ChunksFault bytes BadLength

-- the input ends inside a body in chunks: neither these nor the trailer section are whole, none of them is bad so far, and they are within the limits
pub record IsCodedUnfinished (bytes : List ℕ) : Type 0 where
  pub none : (chunks : Chunks) (between : List ℕ) (trailers : List Field) (last : LineEnd) (rest : List ℕ)
      → ReadsChunks longest_coded bytes chunks between → ReadsSection between trailers last rest → ⊥
  pub goes : HasNotFailed (run (start longest_coded) bytes).ends
  pub ends : IsDone (run (start longest_coded) bytes).ends → MayBecomeSection (run (start longest_coded) bytes).rest
  pub small : length (data_in bytes) ≤ longest_body
  pub short : length bytes < longest_coded

-- the bytes begin with this body, by its framing, and rest follows it
abbrev pub HasBody : Framing → List ℕ → List ℕ → List ℕ → Type 0
HasBody (sized n) bytes body rest = (length body ≡ n) × (bytes ≡ body ++ rest)
HasBody chunked bytes body rest = ReadsCoded bytes body rest

-- what is wrong with a body: nothing, where its length was said
abbrev pub BodyFault : Framing → List ℕ → Refusal → Type 0
BodyFault (sized n) bytes fault = ⊥
BodyFault chunked bytes fault = ChunksFault bytes fault

-- the input ends inside a body
abbrev pub IsBodyUnfinished : Framing → List ℕ → Type 0
IsBodyUnfinished (sized n) bytes = length bytes < n
IsBodyUnfinished chunked bytes = IsCodedUnfinished bytes
