-- Changes of fronts of one list.
use Rattle.std.proofs.Common.{◌≡◌, List, sym, ap, ◌∙◌}
use mathlib.Core.List.{IsPrefix}
use Rattle.std.proofs.lemmas.List.{map-append}
use Rattle.hook_readers.specs.declared.edit.Edit.{Edit}
use Rattle.hook_readers.specs.Edits.{change_of, changes_of}

-- the changes of a front begin those of a longer one
pub changes_prefix : (xs ys : List Edit) → IsPrefix xs ys → IsPrefix (changes_of xs) (changes_of ys)
changes_prefix xs ys p = (changes_of p.0, sym (map-append change_of xs p.0) ∙ ap changes_of p.1)
