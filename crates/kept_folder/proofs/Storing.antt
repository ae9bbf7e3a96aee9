-- Files of vnodes that are put one after another.
use Rattle.std.proofs.Common.{◌≡◌, ◌∙◌, ◌++◌, ◌∷◌, ◌+◌, ◌<◌, ℕ, Bool, true, false, List, [], Option, None, Some, MatchOption, Result, Ok, Err, IfOk, IsOk, ap, arith, get_or, length, refl, subst, sym, take}
use Rattle.std.proofs.lemmas.List.{length-take-le, take_more}
use Rattle.journal.specs.Logs.{Log}
use Rattle.kept_folder.specs.Reads.{name_of}
use Rattle.kept_folder.specs.Steps.{AreFilesOf, ArePut, IsFileOfAll, IsPut, Put, Step}

files_end : (from : ℕ) (logs : List Log) (files : List Put) (log : Log) (put : Put) → AreFilesOf from logs files → put.name ≡ name_of (from + length logs) → (count : ℕ) × IsFileOfAll log count put.bytes
    → AreFilesOf from (logs ++ log ∷ []) (files ++ put ∷ [])
files_end from [] [] log put are name is = (name ∙ ap name_of (omega arith), is, tt)
files_end from [] (first ∷ files) log put are name is = absurd are
files_end from (first ∷ logs) [] log put are name is = absurd are
files_end from (first ∷ logs) (file ∷ files) log put are name is = (are.0, are.1, files_end (from + 1) logs files log put are.2 (name ∙ ap name_of (omega arith)) is)

put_end : {F : Type 0} (does : F → Step → F → Type 0) (old mid new : F) (files : List Put) (put : Put) → ArePut does old files mid → IsPut does mid put.name put.bytes new → ArePut does old (files ++ put ∷ []) new
put_end does old mid new [] put are is = (new, subst (λ (f : _). IsPut does f put.name put.bytes new) are is, refl)
put_end does old mid new (first ∷ files) put are is = (are.0, are.1, put_end does are.0 mid new files put are.2 is)

-- the files of the vnodes so far, and that of one more
pub one_file_more : {F : Type 0} (does : F → Step → F → Type 0) (old mid new : F) (logs : List Log) (index : ℕ) (log : Log) (bytes : List ℕ) (count : ℕ) → index < length logs → log ≡ get_or logs index log
    → (files : List Put) × AreFilesOf 0 (take index logs) files × ArePut does old files mid → IsFileOfAll log count bytes → IsPut does mid (name_of index) bytes new
    → (files : List Put) × AreFilesOf 0 (take (index + 1) logs) files × ArePut does old files new
one_file_more does old mid new logs index log bytes count lt is so_far file put =
    let one : Put = record { name = name_of index; bytes = bytes } in
    let len : length (take index logs) ≡ index = length-take-le index logs (omega (arith, lt)) in (
      so_far.0 ++ one ∷ [],
      subst (λ (ls : List Log). AreFilesOf 0 ls (so_far.0 ++ one ∷ [])) (ap (λ (l : Log). take index logs ++ l ∷ []) is ∙ sym (take_more logs index log lt))
          (files_end 0 (take index logs) so_far.0 log one so_far.1 (ap name_of (let e : index ≡ 0 + length (take index logs) = omega (arith, len) in e)) (count, file)),
      put_end does old mid new so_far.0 one so_far.2 put,
    )

clash : {b : Bool} → b ≡ false → b ≡ true → ⊥
clash f t = cc

-- where all came together, each did
pub both_came : {A B C D E G : Type 0} (r : Result A D) (all : Result B E) (came : Result C G) (X : Type 0) (Q : C → Type 0) (R : Type 0) → (IsOk r → IsOk all × IsOk came) → IfOk all (λ x. X) → IfOk came Q
    → (X → (y : C) → Q y → R) → IfOk r (λ x. R)
both_came (Err e) all came X Q R is first last then = tt
both_came (Ok x) (Ok y) (Ok z) X Q R is first last then = then first z last
both_came (Ok x) (Err e) came X Q R is first last then = absurd (clash refl (is refl).0)
both_came (Ok x) (Ok y) (Err e) X Q R is first last then = absurd (clash refl (is refl).1)

-- and the file of requests is the last
pub requests_last : {F X E R : Type 0} (kept : Result X E) (requests : Option R) (held : R → List ℕ) (does : F → Step → F → Type 0) (old mid new : F) (logs : List Log) (name : List ℕ)
    → IfOk kept (λ x. (files : List Put) × AreFilesOf 0 logs files × ArePut does old files mid) → MatchOption requests ⊥ (λ r. IsPut does mid name (held r) new)
    → IfOk kept (λ x. (files : List Put) × AreFilesOf 0 logs files × MatchOption requests ⊥ (λ r. ArePut does old (files ++ record { name = name; bytes = held r } ∷ []) new))
requests_last (Err e) requests held does old mid new logs name kept put = tt
requests_last (Ok x) None held does old mid new logs name kept put = absurd put
requests_last (Ok x) (Some r) held does old mid new logs name kept put = (kept.0, kept.1, put_end does old mid new kept.0 (record { name = name; bytes = held r }) kept.2 put)
