-- What contracts see of where a body ends.
use Rattle.std.specs.Prelude.{ℕ, ◌≤◌, List, codes, Option, Result, Ok, Err}
use Rattle.http_request.specs.declared.ask.Refusal.{Refusal}
use Rattle.http_request.specs.Limits.{longest_body}
use Rattle.http_request.specs.Fields as spec
use Rattle.http_parse.specs.declared.fields.Framing.{Framing}
use Rattle.http_parse.specs.declared.fields.Framing.TheVariants.{Sized, Chunked}
use Rattle.http_parse.specs.declared.fields.Coding.{Coding}
use Rattle.http_parse.specs.declared.fields.Coding.TheVariants as coded

abbrev pub framing : Framing → spec.Framing
framing (Sized n) = spec.sized n
framing Chunked = spec.chunked

abbrev pub coding : Coding → spec.Coding
coding coded.Plain = spec.plain
coding coded.InChunks = spec.in_chunks
coding coded.Unknown = spec.unknown

-- the framing by a length
abbrev pub sized_by : Result ℕ Refusal → Result Framing Refusal
sized_by (Ok n) = Ok (Sized n)
sized_by (Err refusal) = Err refusal

-- a length is within the limit
abbrev pub IsSmall : Framing → Type 0
IsSmall (Sized n) = n ≤ longest_body
IsSmall Chunked = Unit {0}

-- what is wrong with the lengths that are said
abbrev pub fault_by_length : List ℕ → List spec.Pair → Option Refusal
fault_by_length method pairs = spec.length_fault method (spec.length_said (spec.values_of (codes "content-length") pairs))
