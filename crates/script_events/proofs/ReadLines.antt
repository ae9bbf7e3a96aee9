-- The lines that were read so far.
use Rattle.std.proofs.Common.{◌≡◌, ℕ, ◌+◌, ◌-◌, ◌<◌, ◌≤◌, List, [], ◌∷◌, ◌++◌, length, take, refl, sym, ap, subst, ◌∙◌, arith, length-append, append_assoc}
use Rattle.std.specs.Prelude.{cond, if◌then◌else◌, count_by, Option, None, Some, MatchOption}
use Rattle.std.proofs.lemmas.List.{append-nil}
use Rattle.std.proofs.lemmas.List.Sums.{sum_by-append}
use Rattle.std.proofs.Math.Seq.{take-append_seam}
use Rattle.bpf_helpers.specs.declared.sig.Entry.{Entry}
use Rattle.script_lines.specs.Lines.{lines_in}
use Rattle.script_events.specs.declared.script.Script.{Script}
use Rattle.script_events.specs.Scripts.{IsRunnableFrom, lines_of, asks, AnswersFor, AnswersUpTo}

-- a script was read from the lines that are not left
pub record IsReadSoFar (used : List ℕ) (listed : List Entry) (bytes left : List ℕ) (number : ℕ) (script : Script) (Come : List (List ℕ) → Type 0) : Type 0 where
  pub before : List (List ℕ)
  pub runnable : IsRunnableFrom used listed script
  pub lines : lines_in bytes ≡ before ++ lines_in left
  pub count : length before ≡ number
  pub answers : AnswersFor script before
  pub come : Come before
  pub short : number + length left ≤ length bytes

-- nothing was read as yet
pub begins : (used : List ℕ) (listed : List Entry) (bytes : List ℕ) (script : Script) (Come : List (List ℕ) → Type 0) → IsRunnableFrom used listed script → lines_of script ≡ 0 → Come [] → IsReadSoFar used listed bytes bytes 0 script Come
begins used listed bytes script Come runnable none come = record { before = []; runnable = runnable; lines = refl; count = refl; answers = none; come = come; short = omega arith }

-- one line more was read
pub goes_on : (used : List ℕ) (listed : List Entry) (bytes left line rest : List ℕ) (number : ℕ) (old new : Script) (Come Goes : List (List ℕ) → Type 0) → IsReadSoFar used listed bytes left number old Come → lines_in left ≡ line ∷ lines_in rest
    → length rest < length left → IsRunnableFrom used listed new → lines_of new ≡ lines_of old + (if asks line then 1 else 0) → ((lines : List (List ℕ)) → Come lines → Goes (lines ++ line ∷ [])) → IsReadSoFar used listed bytes rest (number + 1) new Goes
goes_on used listed bytes left line rest number old new Come Goes so_far cut shorter runnable more goes = record {
  come = goes so_far.before so_far.come;
  before = so_far.before ++ line ∷ [];
  runnable = runnable;
  lines = so_far.lines ∙ ap (λ (ls : List (List ℕ)). so_far.before ++ ls) cut ∙ sym (append_assoc so_far.before (line ∷ []) (lines_in rest));
  count = length-append so_far.before (line ∷ []) ∙ ap (λ (n : ℕ). n + 1) so_far.count;
  answers = let counted : count_by asks (so_far.before ++ line ∷ []) ≡ count_by asks so_far.before + count_by asks (line ∷ []) = sum_by-append (λ l. cond (asks l) 1 0) so_far.before (line ∷ []) in
      let answers = so_far.answers in omega (arith, counted, more, answers);
  short = let short = so_far.short in omega (arith, short, shorter);
}

-- the next line is bad, and nothing was read from it
pub stops : (used : List ℕ) (listed : List Entry) (bytes left line rest : List ℕ) (number : ℕ) (old new : Script) (Come : List (List ℕ) → Type 0) → IsReadSoFar used listed bytes left number old Come → lines_in left ≡ line ∷ lines_in rest
    → lines_of new ≡ lines_of old → AnswersUpTo new bytes (number + 1) × Come (take (number + 1 - 1) (lines_in bytes))
stops used listed bytes left line rest number old new Come so_far cut same =
    let all : lines_in bytes ≡ so_far.before ++ line ∷ lines_in rest = so_far.lines ∙ ap (λ (ls : List (List ℕ)). so_far.before ++ ls) cut in
    let len : length (lines_in bytes) ≡ length so_far.before + length (line ∷ lines_in rest) = ap (λ (ls : List (List ℕ)). length ls) all ∙ length-append so_far.before (line ∷ lines_in rest) in
    let count = so_far.count in
    let place : number + 1 - 1 ≡ length so_far.before = omega (arith, count) in
    let front : take (number + 1 - 1) (lines_in bytes) ≡ so_far.before =
    ap (λ (n : ℕ). take n (lines_in bytes)) place ∙ ap (λ (ls : List (List ℕ)). take (length so_far.before) ls) all ∙ take-append_seam so_far.before (line ∷ lines_in rest) in (
      record {
        counted = omega arith;
        stands = omega (arith, len, count);
        answers = same ∙ so_far.answers ∙ sym (ap (λ (ls : List (List ℕ)). count_by asks ls) front);
      },
      subst Come (sym front) so_far.come,
    )

-- no line is left
pub ends : (used : List ℕ) (listed : List Entry) (bytes left : List ℕ) (number : ℕ) (script : Script) (Come : List (List ℕ) → Type 0) → IsReadSoFar used listed bytes left number script Come → left ≡ [] → AnswersFor script (lines_in bytes) × Come (lines_in bytes)
unfolding lines_in
ends used listed bytes left number script Come so_far none =
    let all : lines_in bytes ≡ so_far.before = so_far.lines ∙ ap (λ (bs : List ℕ). so_far.before ++ lines_in bs) none ∙ append-nil so_far.before in
    (so_far.answers ∙ sym (ap (λ (ls : List (List ℕ)). count_by asks ls) all), subst Come (sym all) so_far.come)

-- what holds of no value, where there is none
pub of_none : {X : Type 0} (o : Option X) (P : Type 0) (Q : X → Type 0) → ((x : X) → o ≡ Some x → ⊥) → MatchOption o P Q → P
of_none None P Q none h = h
of_none (Some x) P Q none h = absurd (none x refl)
