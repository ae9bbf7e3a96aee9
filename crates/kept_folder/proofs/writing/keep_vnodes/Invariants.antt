use Rattle.std.proofs.Common.{List, take, IfErr, IfOk}
use Rattle.kept_folder.specs.Faults.{IsOfStop}
use Rattle.kept_folder.specs.Steps.{AreFilesOf, ArePut, Put}
use Rattle.kept_folder.proofs.writing.keep_vnodes.Given as goal

-- the files of the vnodes so far were put, where none failed; and where one did, it was as at a stop
abbrev pub invariant-loop-index : goal.invariant-loop-index
invariant-loop-index g l =
    IfOk l.all (λ count. (files : List Put) × AreFilesOf 0 (take l.index l.vnodes) files × ArePut g.F.Folder.does l.initial.folder files l.folder) × IfErr l.all (λ u. IsOfStop u.fault)
