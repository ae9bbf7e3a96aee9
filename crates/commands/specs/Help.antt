-- The commands, in a line each (this store's profile).
use Rattle.std.specs.Prelude.{ℕ, List, ◌++◌, codes}
use Rattle.commands.specs.Outcome.{line}

abbrev pub help_text : List ℕ
help_text =
    line (codes "dvvstore run IMAGE INPUT                         verifies a program and runs it on the bytes of a file")
    ++ line (codes "dvvstore verify IMAGE                            says whether a program is accepted, or by which rule it is not")
    ++ line (codes "dvvstore explain IMAGE                           says what is known where a rule is broken, or of an accepted program's answers")
    ++ line (codes "dvvstore sim SCRIPT                              runs a script over simulated vnodes")
    ++ line (codes "dvvstore dump FILE SCRIPT V                      runs a script, and writes what vnode V knows then into FILE")
    ++ line (codes "dvvstore load FILE INCARNATION SCRIPT            runs a script whose vnode 0 begins with the records of FILE")
    ++ line (codes "dvvstore serve ADDR WORKERS [COUNT] [copies N]   serves a store over HTTP: 1 to 16 workers, COUNT connections or no end, 1 to 3 copies")
    ++ line (codes "dvvstore keep FOLDER ADDR WORKERS [COUNT]        serves a store in the same way, and keeps what it holds in FOLDER")
    ++ line (codes "dvvstore help                                    prints these lines")
    ++ line (codes "dvvstore version                                 prints the version of the program, of what it writes, and of its toolchain")
