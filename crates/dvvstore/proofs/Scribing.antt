-- How what workers noted is kept.
use Rattle.std.proofs.Common.{◌≡◌, ◌∙◌, ◌≤◌, ◌++◌, ℕ, List, Option, [], ap, append_assoc, append-nil, arith, subst, sym}
use Rattle.log_writer.specs.declared.sheet.Sheet.{Sheet}
use Rattle.dvvstore.specs.Scribing.{HasGrown, IsAllKept, IsMoreKept}

pub grown_none : (sheet : Sheet) (records : ℕ) → HasGrown sheet records sheet records
grown_none sheet records = ([], sym (append-nil sheet.bytes.items), omega arith)

pub grown_then : (a b c : Sheet) (k m n : ℕ) → HasGrown a k b m → HasGrown b m c n → HasGrown a k c n
grown_then a b c k m n (xs, is, le) (ys, then, more) =
    (xs ++ ys, then ∙ (ap (λ (l : List ℕ). l ++ ys) is ∙ append_assoc a.bytes.items xs ys), omega (arith, le, more))

-- what is kept of a sheet that has grown, by the same ledger
pub more_kept : {L R K D : Type 0} (put : L → Sheet → R → Type 0) (shows : L → R → K → Type 0) (ledger : D → L) (old new : Sheet) (records count : ℕ) (last mid : Option R) (desk there : D) → HasGrown old records new count → mid ≡ last → there ≡ desk
    → IsAllKept put shows (ledger there) new count mid → IsMoreKept put shows (ledger desk) old records last
more_kept put shows ledger old new records count last mid desk there grown is same kept =
    (new, count, grown, subst (λ (d : _). IsAllKept put shows (ledger d) new count last) same (subst (λ (r : Option _). IsAllKept put shows (ledger there) new count r) is kept))
