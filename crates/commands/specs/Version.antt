-- The version of the program and of what it writes, a line each (this store's profile).
use Rattle.std.specs.Prelude.{ℕ, List, ◌++◌, ◌^◌, codes}
use Rattle.record_codec.specs.Records.{form_of, mark}
use Rattle.commands.specs.Outcome.{line}

-- the program's version, the word before the number in `incarnation`, the marks of records with the first place and with one past 32 bits, and the
-- logic of the toolchain
abbrev pub version_text : List ℕ
version_text =
    line (codes "dvvstore 0.9.0")
    ++ line (codes "folder number")
    ++ line (codes "records " ++ mark (form_of 0) ++ codes " " ++ mark (form_of (2 ^ 32)))
    ++ line (codes "toolchain rattle logic dac8208d650f15bf")
