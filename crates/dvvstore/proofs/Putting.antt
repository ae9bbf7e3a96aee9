-- What a stop puts into a folder.
use Rattle.std.proofs.Common.{◌≡◌, ◌++◌, ◌∷◌, [], ℕ, List, Option, Some, None, Result, Ok, Err, IfOk, IfSome, OnOk, codes, subst, sym, true}
use Rattle.journal.specs.Logs.{Log}
use Rattle.kept_folder.specs.Seals.{sealed}
use Rattle.kept_folder.specs.Steps.{ArePut, AreFilesOf, IsPut, Put, Step}
use Rattle.kept_hooks.specs.Lists.{Listed}
use Rattle.kept_hooks.specs.Spelling.{all_spelled}
use Rattle.dvvstore.specs.Asides.{AreListed, IsWholeList}
use Rattle.dvvstore.specs.Keeping.{AreFilesPut}

-- the requests that make hooks what they are, under their name
abbrev requests_put : List ℕ → Put
requests_put held = record { name = codes "hooks.requests"; bytes = sealed held }

-- all that was put
pub put_all : {F E : Type 0} → (does : F → Step → F → Type 0) (vnodes : List Log) (requests : Listed) (held : List ℕ) (old new : F) (came : Result ℕ E) → (requests.whole ≡ true) × (held ≡ all_spelled requests.requests)
    → IfOk came (λ count. (files : List Put) × AreFilesOf 0 vnodes files × ArePut does old (files ++ requests_put held ∷ []) new) → OnOk came (AreFilesPut does vnodes requests old new)
put_all does vnodes requests held old new (Ok count) (whole, is) (files, are, put) =
    (whole, (files, are, subst (λ (bytes : List ℕ). ArePut does old (files ++ requests_put bytes ∷ []) new) is put))
put_all does vnodes requests held old new (Err why) is so = tt

-- where a request is lacking nothing is said to be kept
pub none_put : {F E : Type 0} → (does : F → Step → F → Type 0) (vnodes : List Log) (old new : F) (Says : Type 0) (came : Result ℕ E) → IfOk came (λ count. (files : List Put) × AreFilesOf 0 vnodes files × ⊥) → OnOk came Says
none_put does vnodes old new Says (Ok count) (files, are, none) = absurd none
none_put does vnodes old new Says (Err why) so = tt

-- requests of which none is lacking
pub whole_list : {V E : Type 0} (items : V → List ℕ) (requests : Listed) (came : Result (Option V) E) → IfOk came (λ bytes. IfSome bytes (λ b. (requests.whole ≡ true) × (items b ≡ all_spelled requests.requests)))
    → IfOk came (λ bytes. IfSome bytes (λ b. IsWholeList (items b)))
whole_list items requests (Ok (Some b)) (whole, is) = (requests, whole, is)
whole_list items requests (Ok None) so = so
whole_list items requests (Err why) so = so

pub list_put : {F E : Type 0} → (does : F → Step → F → Type 0) (held lent : List ℕ) (old new : F) (came : Result Unit E) → IsWholeList held → lent ≡ held → OnOk came (IsPut does old (codes "hooks.requests") (sealed lent) new)
    → OnOk came (AreListed does old new)
list_put does held lent old new (Ok tt) is same put = (lent, subst IsWholeList (sym same) is, put)
list_put does held lent old new (Err why) is same so = tt

pub list_unput : {E : Type 0} → (Says : Type 0) (came : Result Unit E) → OnOk came ⊥ → OnOk came Says
list_unput Says (Ok done) none = absurd none
list_unput Says (Err why) none = tt

-- a snapshot's files, and behind them the rest
pub snapshot_put : {E : Type 0} → (Vnodes : ℕ → Type 0) (Rest : Type 0) (came result : Result ℕ E) → IfOk came Vnodes → IfOk result (λ keys. (came ≡ Ok keys) × Rest) → IfOk result (λ keys. Vnodes keys × Rest)
snapshot_put Vnodes Rest came (Ok keys) all (is, rest) = (subst (λ (c : Result ℕ _). IfOk c Vnodes) is all, rest)
snapshot_put Vnodes Rest came (Err why) all so = so
