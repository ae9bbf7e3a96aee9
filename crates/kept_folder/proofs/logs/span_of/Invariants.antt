use Rattle.std.proofs.Common.{◌<◌, ◌^◌, ℕ, take}
use Rattle.std.specs.Prelude.{Contains, map, string_bytes}
use Rattle.kept_folder.specs.Reads.{IsSpan, IsWithin, log_name}
use Rattle.kept_folder.proofs.logs.span_of.Given as goal

-- the logs among the names so far are within the span
abbrev pub invariant-loop-name : goal.invariant-loop-name
invariant-loop-name l = record {
  all : (number : ℕ) → number < 2 ^ 64 → Contains (map string_bytes (take l.name-index l.names)) (log_name number) → IsWithin l.span number;
  order : IsSpan l.span;
}
