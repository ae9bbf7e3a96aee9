-- On the first request of the bytes that wait.
use Rattle.std.proofs.Common.{◌≡◌, ℕ, ◌<◌, ◌≤◌, List, ◌++◌, length, drop, Bool, true, false, None, sym, ap, subst, ◌∙◌, arith, length-append, length-drop, inr}
use Rattle.std.specs.Prelude.{if◌then◌else◌, nat_le, codes, Result, Ok, Err, OnErr, IfErr, IsErrAnd}
use Rattle.std.proofs.Common.{Option, Some, refl}
use Rattle.std.proofs.lemmas.Bool.{leb-true}
use Rattle.http_request.specs.Limits.{longest_body, longest_coded}
use Rattle.http_request.specs.Body.{IsBodyUnfinished}
use Rattle.http_request.specs.declared.ask.Refusal.{Refusal}
use Rattle.http_request.specs.declared.ask.Refusal.TheVariants.{Large}
use Rattle.httparse.specs.Grammar.{RequestHead, print_request}
use Rattle.http_request.specs.Fields.{Pair, Length, absent, bad, is, length_fault, length_number, length_said, length_among, values_of, pairs_of, Coding, plain, in_chunks, unknown, coding_among, fault_by_coding, framing_fault, Framing, sized, chunked, framing_by, framing_of, expected_of, expected_fault, first_fault, fields_fault}
use Rattle.http_request.specs.Ask.{Asks, IsUnfinished, asked_to_go_on, in_head, in_body}
use Rattle.http_request.specs.declared.ask.Ask.{Ask}
use Rattle.http_request.specs.declared.ask.Call.{Call}
use Rattle.http_parse.specs.Finds.{next_of}
use Rattle.http_response.specs.declared.reply.Reply.{Reply}
use Rattle.http_response.specs.Answer.{answer}
use Rattle.http_connection.specs.Room.{room}
use Rattle.http_connection.specs.Dialogue.{Exchange, Does, call_of, answer_of}
use Rattle.http_connection.specs.Turns.{Makes, Steps, Halts}
use Rattle.http_connection.specs.declared.turn.Step.TheVariants as step

-- what holds holds where there is an error
pub on_err : {A E P : Type 0} (r : Result A E) → P → OnErr r P
on_err (Ok x) p = tt
on_err (Err e) p = p

-- what follows of what is said of an error
pub if_err_and : {A E : Type 0} (r : Result A E) (P Q : E → Type 0) → IsErrAnd r P → ((e : E) → P e → Q e) → IfErr r Q
if_err_and (Ok x) P Q said on = tt
if_err_and (Err e) P Q said on = on e said

module _ {B : Type 0} (gives : B → Call → Reply → B → Type 0) (n copies : ℕ) (is : n ≡ copies) (old new : B) (ask : Ask) (reply : Reply)
    (ends : Bool) (w : List ℕ) (len : ℕ) (asks : (more : List ℕ) → Asks n (w ++ more) ask ends (next_of ends len w more))
    (does : Does gives old (call_of ask) reply new) where
  abbrev exchange : Exchange
  exchange = record { asked = ask; reply = reply; ends = ends }

  makes : (more : List ℕ) → Makes gives copies (w ++ more) old new exchange (next_of ends len w more)
  makes more = record { asks = subst (λ k. Asks k (w ++ more) ask ends (next_of ends len w more)) is (asks more); does = does }

  answer_is : answer n ask reply ends ≡ answer_of copies exchange
  unfolding answer_of
  answer_is = ap (λ k. answer k ask reply ends) is

  -- its call was made
  pub halts_called : Halts gives copies w old new
  halts_called = inr (exchange, λ more. (next_of ends len w more, makes more))

  -- it was answered and taken, and others may follow
  pub steps_answered : (w' out out' : List ℕ) → ends ≡ false → w' ≡ drop len w → out' ≡ out ++ answer n ask reply ends → 0 < len → len ≤ length w
      → Steps gives copies step.Answered w w' old new out out'
  steps_answered w' out out' e taken pushed some within = (
    exchange,
    λ more.
        subst (λ v. Makes gives copies (w ++ more) old new exchange (v ++ more)) (sym taken)
        (subst (λ b. Makes gives copies (w ++ more) old new exchange (next_of b len w more)) e (makes more)),
    pushed ∙ ap (λ l. out ++ l) answer_is,
    omega (arith, ap length taken, length-drop len w, some, within),
  )

  -- it was answered and taken, and the connection ends
  pub steps_last : (w' out out' : List ℕ) → ends ≡ true → out' ≡ out ++ answer n ask reply ends → Steps gives copies step.Last w w' old new out out'
  steps_last w' out out' e pushed = (
    exchange,
    λ more. subst (λ b. Makes gives copies (w ++ more) old new exchange (next_of b len w more)) e (makes more),
    pushed ∙ ap (λ l. out ++ l) answer_is,
  )

module _ {B : Type 0} (gives : B → Call → Reply → B → Type 0) (n copies : ℕ) (is : n ≡ copies) (old new : B) (reply : Reply)
    (w head : List ℕ) (len : ℕ) (asks : (more : List ℕ) → Asks n (w ++ more) asked_to_go_on false ((head ++ drop len w) ++ more)) (same : new ≡ old) where
  abbrev going : Exchange
  going = record { asked = asked_to_go_on; reply = reply; ends = false }

  going_is : answer n asked_to_go_on reply false ≡ answer_of copies going
  unfolding answer_of
  going_is = ap (λ k. answer k asked_to_go_on reply false) is

  -- a client was told to go on, and its head is shorter
  pub steps_going : (w' out out' : List ℕ) → w' ≡ head ++ drop len w → out' ≡ out ++ answer n asked_to_go_on reply false → length head < len → len ≤ length w
      → Steps gives copies step.Answered w w' old new out out'
  steps_going w' out out' changed pushed less within = (
    going,
    λ more. record {
      asks = subst (λ k. Asks k (w ++ more) asked_to_go_on false (w' ++ more)) is (subst (λ l. Asks n (w ++ more) asked_to_go_on false (l ++ more)) (sym changed) (asks more));
      does = same;
    },
    pushed ∙ ap (λ l. out ++ l) going_is,
    omega (arith, ap length changed, length-append head (drop len w), length-drop len w, less, within),
  )

-- a length without fault is within the limit
length_within : (method : List ℕ) (l : Length) → length_fault method l ≡ None → length_number l ≤ longest_body
length_within method absent e = omega arith
length_within method bad e = cc
length_within method (is n) e = at (nat_le n longest_body) refl e
  where
    at : (b : Bool) → nat_le n longest_body ≡ b → (if b then None else Some Large) ≡ None → n ≤ longest_body
    at true t none = leb-true n longest_body t
    at false t none = cc

-- where the fields have no fault the length that they say is within the limit
abbrev IsSmall : Framing → Type 0
IsSmall (sized n) = n ≤ longest_body
IsSmall chunked = Unit {0}

no_fault : (minor : ℕ) (method : List ℕ) (pairs : List Pair) (c : Coding) → fault_by_coding minor method pairs c ≡ None → IsSmall (framing_by c (length_among pairs))
no_fault minor method pairs plain e = length_within method (length_said (values_of (codes "content-length") pairs)) e
no_fault minor method pairs in_chunks e = tt
no_fault minor method pairs unknown e = cc

no_first : (o p : Option Refusal) → first_fault o p ≡ None → o ≡ None
no_first (Some fault) p e = e
no_first None p e = refl

body_within : (head : RequestHead) → fields_fault head ≡ None → IsSmall (framing_of head)
body_within head e =
    no_fault head.minor head.method (pairs_of head) (coding_among (pairs_of head))
    (no_first (framing_fault head.minor head.method (pairs_of head)) (expected_fault (expected_of head.minor (pairs_of head))) e)

-- a body that isn't whole is shorter than the longest
body_short : (f : Framing) (after : List ℕ) → IsSmall f → IsBodyUnfinished f after → length after < longest_coded
body_short (sized n) after small short = omega (arith, small, short)
body_short chunked after small un = un.short

-- bytes that end inside a request are fewer than a longest head and a longest body
pub unfinished_short : (rest : List ℕ) → IsUnfinished rest → length rest < room
unfinished_short rest (in_head head) = omega (arith, head.short)
unfinished_short rest (in_body head after begins origin fault here short) =
    omega (
      arith,
      ap length begins.reads.1,
      length-append (print_request head) after,
      begins.short,
      body_short (framing_of head) after (body_within head fault) short,
    )
