-- Logs that ended.
use Rattle.std.proofs.Common.{◌≡◌, ◌∙◌, List, ◌∷◌, [], ◌++◌, Result, Ok, Err, OnOk}
use Rattle.kept_file.specs.Files.{end_of}
use Rattle.log_writer.specs.declared.sheet.Sheet.{Sheet}
use Rattle.record_codec.specs.Lists.{AreSpelledBy}
use Rattle.log_desk.specs.Pens.{IsEnded}
use Rattle.log_desk.specs.declared.pen.Stuck.{Stuck}

-- a list that another one is, which has the end behind it
pub ended : (r : Result (Unit {0}) Stuck) (written last before : List Sheet) (count : _) → written ≡ last
    → (end : Sheet) × (last ≡ before ++ end ∷ []) × AreSpelledBy (end_of 0 count ∷ []) end.bytes.items
    → OnOk r (IsEnded written)
ended (Ok done) written last before count same has = (before, has.0, count, same ∙ has.1, has.2)
ended (Err stuck) written last before count same has = tt
