-- Files that are put under a name.
use Rattle.std.proofs.Common.{◌≡◌, ◌∙◌, ◌++◌, ℕ, List, Option, None, Some, Result, Ok, IfOk, ap, subst, sym}
use Rattle.std.specs.Io.KnownBytes.{Appends, Keeps}
use Rattle.kept_folder.specs.Steps.{Begun, IsNamed, IsPut, Step, part_name}

-- known bytes that stay before and after they grow
appended : (a b c d : Option (List ℕ)) (bytes : List ℕ) → Keeps a b → Appends b c bytes → Keeps c d → Appends a d bytes
appended None b c d bytes first grown last = tt
appended (Some xs) None c d bytes first grown last = absurd first
appended (Some xs) (Some ys) None d bytes first grown last = absurd grown
appended (Some xs) (Some ys) (Some zs) None bytes first grown last = absurd last
appended (Some xs) (Some ys) (Some zs) (Some ws) bytes first grown last = last ∙ grown ∙ ap (λ (l : List ℕ). l ++ bytes) first

pub put_so : {F : Type 0} (does : F → Step → F → Type 0) (old begun new : F) (first b c last : Option (List ℕ)) (beside name bytes : List ℕ)
    → beside ≡ part_name name → does old (Begun beside first) begun → Keeps first b → Appends b c bytes → Keeps c last → IsNamed does begun last beside name new → IsPut does old name bytes new
put_so does old begun new first b c last beside name bytes is begins kept grown keeps names = record {
  first = first;
  last = last;
  begun = begun;
  begins = subst (λ (x : List ℕ). does old (Begun x first) begun) is begins;
  written = appended first b c last bytes kept grown keeps;
  names = subst (λ (x : List ℕ). IsNamed does begun last x name new) is names;
}

-- the same of the name and the folder that they are
pub put_as : {F : Type 0} (does : F → Step → F → Type 0) (old new left : F) (name called bytes : List ℕ) → name ≡ called → left ≡ new → IsPut does old name bytes new → IsPut does old called bytes left
put_as does old new left name called bytes is same put = subst (λ (f : _). IsPut does old called bytes f) (sym same) (subst (λ (n : List ℕ). IsPut does old n bytes new) is put)

-- what holds where something came
pub where_came : {X E : Type 0} (came : Result X E) (x : X) (P : X → Type 0) → Ok x ≡ came → IfOk came P → P x
where_came came x P is holds = subst (λ (r : Result _ _). IfOk r P) (sym is) holds
