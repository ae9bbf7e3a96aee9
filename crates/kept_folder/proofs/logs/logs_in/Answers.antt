use Rattle.std.proofs.Common.{ℕ, List, None, subst, sym}
use Rattle.std.specs.Prelude.{Contains, map, string_bytes}
use Rattle.kept_folder.proofs.Logging.{none_there, none_without}
use Rattle.kept_folder.proofs.logs.logs_in.Goals as goal

pub returns-in_ok-span_of-in-Ok-clause-some : goal.returns-in_ok-span_of-in-Ok-clause-some
returns-in_ok-span_of-in-Ok-clause-some g c =
    none_without (g.F.Folder.finds c.args.folder.now) string_bytes c.deref.result.now c.in_ok-span_of-in-Ok.field-0
    (subst (λ l. (name : List ℕ) → (Contains (map string_bytes l) name → ⊥) → g.F.Folder.finds c.args.folder.now name None) (sym c.deref.ensures.value) c.in-Ok.ensures.absent) c.in_ok-span_of-in-Ok.ensures.all

pub returns-in_ok-span_of-in-Ok-clause-none : goal.returns-in_ok-span_of-in-Ok-clause-none
returns-in_ok-span_of-in-Ok-clause-none g c =
    none_there (g.F.Folder.finds c.args.folder.now) string_bytes c.deref.result.now c.in_ok-span_of-in-Ok.field-0
    (subst (λ l. (name : List ℕ) → (Contains (map string_bytes l) name → ⊥) → g.F.Folder.finds c.args.folder.now name None) (sym c.deref.ensures.value) c.in-Ok.ensures.absent) c.in_ok-span_of-in-Ok.ensures.all
