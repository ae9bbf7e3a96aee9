-- Stamps: in what order the entries of several journals were made (this store's profile).
use Rattle.std.specs.Prelude.{ℕ}
use Rattle.journal.specs.Entry.{Entry, Put, Merge, Read, Restart}

-- an entry's stamp
abbrev pub stamp_of : Entry → ℕ
stamp_of (Put stamp key seen content dot) = stamp
stamp_of (Merge stamp key from at state) = stamp
stamp_of (Read stamp key) = stamp
stamp_of (Restart stamp) = stamp
