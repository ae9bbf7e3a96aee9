-- Lists of changes: which it is, and the last of some.
use Rattle.std.specs.Prelude.{List, fold}
use Rattle.logbook.specs.Pages.{Book}
use Rattle.shared_prefix.specs.Lists.{book_of}
use Rattle.hook_readers.specs.declared.edit.Edit.{Edit}
use Rattle.hook_sharing.specs.declared.opening.Opening.{Opening}

abbrev pub list_of : Opening → Book
list_of opening = book_of opening.list

-- the last of some lists of changes, or where there is none the one before them
abbrev pub last_of : List Edit → List (List Edit) → List Edit
last_of before lists = fold (λ xs ys. ys) before lists
