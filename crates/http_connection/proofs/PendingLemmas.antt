-- On bytes in which no whole request waits.
use Rattle.std.proofs.Common.{◌≡◌, ℕ, ◌+◌, ◌<◌, ◌≤◌, List, [], ◌++◌, length, true, false, refl, sym, ap, subst, ◌∙◌, inl, inr, append-nil, append_assoc, arith, length-append}
use Rattle.std.specs.Prelude.{◌==◌, nat_lt, is_some, Option, Some, None, IfSome}
use Rattle.std.specs.List.{list_any}
use Rattle.std.proofs.lemmas.Bool.{or_from, or_parts, ltb-false, leb-false}
use Rattle.std.proofs.lemmas.List.Folds.{list_any-append}
use Rattle.http_request.specs.Ask.{IsUnfinished}
use Rattle.http_request.specs.Head.{IsHeadUnfinished}
use Rattle.http_request.specs.Limits.{longest_head, longest_coded}
use Rattle.http_connection.specs.Room.{room}
use Rattle.http_connection.specs.Pending.{IsPending, Lacks, has_come}
use Rattle.http_connection.specs.declared.turn.Wanted.{Wanted}
use Rattle.http_connection.specs.declared.turn.Wanted.TheVariants.{Line, Bytes}
use Rattle.http_connection.proofs.RequestLemmas.{unfinished_short}

-- what is wanted is lacked still, where it did not come
pub lacks_more : (wanted : Wanted) (waits more : List ℕ) → Lacks wanted waits → has_come wanted more (length (waits ++ more)) ≡ false
    → Lacks wanted (waits ++ more)
lacks_more Line waits more lacks none =
    let parts = or_parts (nat_lt longest_head (length (waits ++ more))) (list_any (λ b. b == 10) more) none in record {
      front = lacks.front;
      line = lacks.line ++ more;
      parts = ap (λ l. l ++ more) lacks.parts ∙ append_assoc lacks.front lacks.line more;
      began = lacks.began;
      goes_on = list_any-append (λ b. b == 10) lacks.line more ∙ or_from _ _ lacks.goes_on parts.1;
      short = ltb-false longest_head (length (waits ++ more)) parts.0;
    }
lacks_more (Bytes needs) waits more lacks none = (
  lacks.0,
  omega (arith, leb-false needs (length (waits ++ more)) none),
  λ further fewer.
      subst IsUnfinished (sym (append_assoc waits more further))
      (lacks.2 (more ++ further) (omega (arith, fewer, length-append waits more, length-append more further))),
)

-- then no whole request waits
pub lacks_pending : (wanted : Wanted) (waits : List ℕ) → Lacks wanted waits → IsPending waits
lacks_pending Line waits lacks = inr lacks
lacks_pending (Bytes needs) waits lacks = inl (subst IsUnfinished (append-nil waits) (lacks.2 [] (omega (arith, lacks.1))))

-- and where no look is due, none does
pub due_pending : (awaited : Option Wanted) (waits : List ℕ) → is_some awaited ≡ true → IfSome awaited (λ wanted. Lacks wanted waits) → IsPending waits
due_pending None waits due lacks = cc
due_pending (Some wanted) waits due lacks = lacks_pending wanted waits lacks

-- a head is not whole yet
pub lacks_line : (waits : List ℕ) → IsHeadUnfinished waits → Lacks Line waits
lacks_line waits head = record { front = waits; line = []; parts = sym (append-nil waits); began = head; goes_on = refl; short = head.short }

-- a body is not
pub lacks_bytes : (needs : ℕ) (waits : List ℕ) → length waits < needs → needs ≤ longest_head + longest_coded
    → ((more : List ℕ) → length waits + length more < needs → IsUnfinished (waits ++ more)) → Lacks (Bytes needs) waits
lacks_bytes needs waits few limit still = (omega (arith, limit), few, still)

-- there is room for more
pub pending_short : (waits : List ℕ) → IsPending waits → length waits < room
pending_short waits (inl unfinished) = unfinished_short waits unfinished
pending_short waits (inr line) = omega (arith, line.short)
