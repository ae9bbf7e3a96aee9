use Rattle.std.proofs.Common.{◌-◌, length}
use Rattle.http_parse.specs.Reading.{HasRead}
use Rattle.http_parse.proofs.chunks.CodedBody.read_chunks.Given as goal

-- what was read so far
abbrev pub invariant-pieces : goal.invariant-pieces
invariant-pieces l = HasRead l.self l.coded

-- so many bytes are left
abbrev pub decreases-pieces : goal.decreases-pieces
decreases-pieces l = length l.coded - l.self.read
