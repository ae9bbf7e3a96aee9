-- The room for bytes that wait to be read.
use Rattle.std.specs.Prelude.{ℕ}

-- more bytes than the longest request has
abbrev pub room : ℕ
room = 524288

-- the most room that the buffer of a connection keeps while nothing waits in it
abbrev pub kept : ℕ
kept = 192
