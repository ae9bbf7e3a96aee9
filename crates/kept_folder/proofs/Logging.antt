-- Logs that a start finds by their names, and reads one after another.
use Rattle.std.proofs.Common.{◌≡◌, ℕ, ◌+◌, ◌<◌, ◌≤◌, ◌^◌, List, [], ◌∷◌, ◌++◌, Option, None, Some, refl, sym, ap, subst, ◌∙◌, arith, append_assoc, get_or, length, length-append, take, ◌⊎◌, inl, inr}
use Rattle.std.specs.Prelude.{Contains, IfNone, IfSome, map}
use Rattle.std.proofs.lemmas.List.{append-nil, map-append, take_all, take_more}
use Rattle.std.proofs.lemmas.List.Elements.{Contains-push_cases}
use Rattle.kept_file.specs.declared.file.KeptFile.{KeptFile}
use Rattle.kept_file.specs.declared.file.Source.TheVariants.{Log}
use Rattle.kept_file.specs.Logs.{IsEndedLog}
use Rattle.kept_folder.specs.declared.logs.Logs.{Logs}
use Rattle.kept_folder.specs.declared.logs.Span.{Span}
use Rattle.kept_folder.specs.Reads.{AreEnded, AreLogs, HasNoOther, IsNewest, IsWithin, log_name}

-- a name among some and one more
pub named_more : {X : Type 0} (text : X → List ℕ) (xs : List X) (i : ℕ) (x : X) (name : List ℕ) → i < length xs → x ≡ get_or xs i x → Contains (map text (take (i + 1) xs)) name → Contains (map text (take i xs)) name ⊎ (text x ≡ name)
named_more text xs i x name lt is has =
    Contains-push_cases (map text (take i xs)) (text x) name
    (subst (λ (l : List (List ℕ)). Contains l name) (ap (map text) (take_more xs i x lt ∙ ap (λ (y : _). take i xs ++ y ∷ []) (sym is)) ∙ map-append text (take i xs) (x ∷ [])) has)

pub none_named : {X : Type 0} (text : X → List ℕ) (xs : List X) (name : List ℕ) → Contains (map text (take 0 xs)) name → ⊥
none_named text [] name (k, lt, is) = omega (arith, lt)
none_named text (x ∷ xs) name (k, lt, is) = omega (arith, lt)

pub all_named : {X : Type 0} (text : X → List ℕ) (xs : List X) (i : ℕ) (name : List ℕ) → length xs ≤ i → Contains (map text xs) name → Contains (map text (take i xs)) name
all_named text xs i name past has = subst (λ (l : List _). Contains (map text l) name) (sym (take_all i xs past)) has

module _ (finds : List ℕ → Option (List ℕ) → Type 0) where
  ended_then : (first : ℕ) (files : List KeptFile) (f : KeptFile) → AreEnded finds first files → f.from ≡ Log (first + length files)
      → (bytes : List ℕ) × finds (log_name (first + length files)) (Some bytes) × IsEndedLog f.records.items bytes → AreEnded finds first (files ++ f ∷ [])
  ended_then first [] f are is read =
      let none : first + 0 ≡ first = omega arith in
      (is ∙ ap Log none, (read.0, subst (λ (n : ℕ). finds (log_name n) (Some read.0)) none read.1, read.2), tt)
  ended_then first (g ∷ files) f are is read =
      (are.0, are.1, ended_then (first + 1) files f are.2 (is ∙ ap Log (omega arith)) (read.0, subst (λ (n : ℕ). finds (log_name n) (Some read.0)) (omega arith) read.1, read.2))

  -- logs from a number on, up to another
  abbrev pub AreEndedTo : ℕ → ℕ → List KeptFile → List KeptFile → Type 0
  AreEndedTo first number old new = (ended : List KeptFile) × (new ≡ old ++ ended) × AreEnded finds first ended × (first + length ended ≡ number)

  pub ended_none : (first : ℕ) (files : List KeptFile) → AreEndedTo first first files files
  ended_none first files = ([], sym (append-nil files), tt, omega arith)

  pub ended_more : (first number : ℕ) (old mid new : List KeptFile) (f : KeptFile) → AreEndedTo first number old mid → new ≡ mid ++ f ∷ [] → f.from ≡ Log number
      → (bytes : List ℕ) × finds (log_name number) (Some bytes) × IsEndedLog f.records.items bytes → AreEndedTo first (number + 1) old new
  ended_more first number old mid new f (ended, is, are, count) more from read = (
    ended ++ f ∷ [],
    more ∙ ap (λ (l : List KeptFile). l ++ f ∷ []) is ∙ append_assoc old ended (f ∷ []),
    ended_then first ended f are (from ∙ ap Log (sym count)) (read.0, subst (λ (n : ℕ). finds (log_name n) (Some read.0)) (sym count) read.1, read.2),
    (let len : length (ended ++ f ∷ []) ≡ length ended + 1 = length-append ended (f ∷ []) in omega (arith, count, len)),
  )

  -- ---- by their names

  outside : (first last number : ℕ) → (number < first) ⊎ (last < number) → (first ≤ number) × (number ≤ last) → ⊥
  outside first last number (inl below) within = (let a = within.0 in omega (arith, below, a))
  outside first last number (inr past) within = (let a = within.1 in omega (arith, past, a))

  -- where the logs among all names are within a span, there is none without
  pub none_without : {X : Type 0} (text : X → List ℕ) (names : List X) (found : Option Span) → ((name : List ℕ) → (Contains (map text names) name → ⊥) → finds name None)
      → ((number : ℕ) → number < 2 ^ 64 → Contains (map text names) (log_name number) → IsWithin found number) → IfSome found (λ span. HasNoOther finds span.first span.last)
  none_without text names None absent all = tt
  none_without text names (Some span) absent all = λ number lt out. absent (log_name number) (λ has. outside span.first span.last number out (all number lt has))

  pub none_there : {X : Type 0} (text : X → List ℕ) (names : List X) (found : Option Span) → ((name : List ℕ) → (Contains (map text names) name → ⊥) → finds name None)
      → ((number : ℕ) → number < 2 ^ 64 → Contains (map text names) (log_name number) → IsWithin found number) → IfNone found ((number : ℕ) → number < 2 ^ 64 → finds (log_name number) None)
  none_there text names None absent all = λ number lt. absent (log_name number) (λ has. all number lt has)
  none_there text names (Some span) absent all = tt

  -- the newest behind those that were closed
  pub newest_then : (old mid new ended : List KeptFile) (newest : KeptFile) (logs : Logs) → mid ≡ old ++ ended → new ≡ mid ++ newest ∷ [] → AreEnded finds logs.first ended → logs.first + length ended ≡ logs.last
      → IsNewest finds logs newest → HasNoOther finds logs.first logs.last → (more : List KeptFile) × (new ≡ old ++ more) × AreLogs finds (Some logs) more
  newest_then old mid new ended newest logs is more are count last others =
      (ended ++ newest ∷ [], more ∙ ap (λ (l : List KeptFile). l ++ newest ∷ []) is ∙ append_assoc old ended (newest ∷ []), (ended, newest, refl, are, count, last, others))
