-- Writes one after another.
use Rattle.std.proofs.Common.{◌≡◌, ℕ, List, [], ◌++◌, length, length-append, take, drop, append_assoc, refl, sym, subst, ap, ◌∙◌, arith}
use Rattle.std.proofs.lemmas.List.{append-nil, drop-drop}
use Rattle.std.proofs.Math.Seq.{take-length}
use Rattle.hook_abi.specs.declared.writer.Writer.{Writer}
use Rattle.hook_abi.specs.Writing.{Writes}

-- nothing is written
pub nothing : (w : Writer) → Writes w w []
nothing w = record { lent = refl; long = refl; end = omega arith; front = sym (append-nil (take w.at w.window.now)); rest = refl }

-- a write and the next
pub and_then : {a b c : Writer} {x y : List ℕ} → Writes a b x → Writes b c y → Writes a c (x ++ y)
and_then {a} {b} {c} {x} {y} first second =
    let far = λ (w : List ℕ). ap (λ n. drop n w) second.end ∙ sym (drop-drop (length y) b.at w) in
    record {
      lent = second.lent ∙ first.lent;
      long = second.long ∙ first.long;
      end = omega (arith, first.end, second.end, length-append x y);
      front = second.front ∙ ap (λ bytes. bytes ++ y) first.front ∙ append_assoc (take a.at a.window.now) x y;
      rest = second.rest ∙ far b.window.now ∙ ap (drop (length y)) first.rest ∙ sym (far a.window.now);
    }

-- the same bytes by another name
pub as_bytes : {a b : Writer} {x y : List ℕ} → x ≡ y → Writes a b x → Writes a b y
as_bytes {a} {b} is writes = subst (Writes a b) is writes

-- what was written from the front to the end is the whole window
pub whole : {a b : Writer} {bytes : List ℕ} → Writes a b bytes → a.at ≡ 0 → length bytes ≡ length a.window.now → b.window.now ≡ bytes
whole {a} {b} {bytes} writes start long =
    let end : b.at ≡ length b.window.now = omega (arith, writes.end, writes.long) in
    sym (take-length b.window.now) ∙ ap (λ n. take n b.window.now) (sym end) ∙ writes.front ∙ ap (λ n. take n a.window.now ++ bytes) start

-- writes of a part of some bytes, of which others are left
pub record Partly (old now : Writer) (all left : List ℕ) : Type 0 where
  pub done : List ℕ
  pub writes : Writes old now done
  pub are : done ++ left ≡ all

pub at_first : (w : Writer) (all : List ℕ) → Partly w w all all
at_first w all = record { done = []; writes = nothing w; are = refl }

pub at_next : {old now next : Writer} {all here left more : List ℕ} → Partly old now all left → left ≡ here ++ more → Writes now next here → Partly old next all more
at_next {old} {now} {next} {all} {here} {left} {more} part is writes = record { done = part.done ++ here; writes = and_then part.writes writes; are = append_assoc part.done here more ∙ ap (λ bytes. part.done ++ bytes) (sym is) ∙ part.are }

pub at_last : {old now : Writer} {all left : List ℕ} → Partly old now all left → left ≡ [] → Writes old now all
at_last {old} {now} {all} {left} part is = as_bytes (sym (append-nil part.done) ∙ ap (λ bytes. part.done ++ bytes) (sym is) ∙ part.are) part.writes

pub through : {a c : List ℕ} (b : List ℕ) → a ≡ b → b ≡ c → a ≡ c
through b first second = first ∙ second
