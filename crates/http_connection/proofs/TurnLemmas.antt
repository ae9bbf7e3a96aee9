-- On one turn of the front.
use Rattle.std.proofs.Common.{◌≡◌, ℕ, List, [], ◌++◌, length, Option, refl, sym, ap, subst, ◌∙◌, inl, inr, append-nil}
use Rattle.std.specs.Io.KnownBytes.{Consumes, IsAtEnd}
use Rattle.std.proofs.lemmas.List.{nil_from_length}
use Rattle.http_request.specs.Ask.{IsUnfinished}
use Rattle.http_request.specs.declared.ask.Call.{Call}
use Rattle.http_response.specs.declared.reply.Reply.{Reply}
use Rattle.http_connection.specs.Device.{Sends}
use Rattle.http_connection.specs.Dialogue.{Completes, BreaksOff, AnswersAllThatCame, answer_of}
use Rattle.http_connection.specs.Pending.{IsPending}
use Rattle.http_connection.specs.Turns.{Steps, Halts, SoFar, one_more}
use Rattle.http_connection.specs.declared.turn.Step.TheVariants as step
use Rattle.http_connection.specs.declared.turn.Wanted.{Wanted}
use Rattle.http_connection.proofs.DeviceLemmas.{Sends-nothing}
use Rattle.http_connection.proofs.TalkLemmas.{so_far-kept, so_far-read, so_far-more, so_far-sent, so_far-over, so_far-answered, so_far-breaks, so_far-breaks_after, so_far-ends}

module _ {B : Type 0} (gives : B → Call → Reply → B → Type 0) (copies : B → ℕ) (bytes before : List ℕ) (start now new : B) (count : ℕ)
    (w w' : List ℕ) (comes written : Option (List ℕ)) (out out' : List ℕ)
    (so : SoFar gives copies bytes before start now w comes written out count) where
  module _ (wanted : Wanted) (waits : Steps gives (copies now) (step.Waits wanted) w w' now new out out') where
    so_far-waits : SoFar gives copies bytes before start new w' comes written out' count
    so_far-waits = so_far-kept gives copies bytes before start now w comes written out count so new w' out' waits.2 waits.1 waits.3

    module _ (written' : Option (List ℕ)) (out'' : List ℕ) (s : Sends written written' out' out'') where
      -- what waited was written
      so_far-flushed : SoFar gives copies bytes before start new w' comes written' out'' count
      so_far-flushed = so_far-sent gives copies bytes before start new w' comes written out' count so_far-waits written' out'' s

      -- and more bytes were read
      pub turn_reads : (w'' : List ℕ) (comes' : Option (List ℕ)) (more : List ℕ) → w'' ≡ w' ++ more → Consumes comes comes' more
          → SoFar gives copies bytes before start new w'' comes' written' out'' count
      turn_reads w'' comes' more e c =
          so_far-read gives copies bytes before start new w' comes written' out'' count so_far-flushed w'' comes' more e c

      -- and the input ended
      pub turn_over : (w'' : List ℕ) (comes' : Option (List ℕ)) (more : List ℕ) → w'' ≡ w' ++ more → Consumes comes comes' more → length more ≡ 0
          → IsAtEnd comes' → out'' ≡ [] → Completes gives (copies start) bytes start new before written' count
      turn_over w'' comes' more e c zero end none =
          let same : w'' ≡ w = e ∙ (ap (λ l. w' ++ l) (nil_from_length more zero) ∙ (append-nil w' ∙ waits.1)) in
          so_far-over gives copies bytes before start new w'' comes' written' out'' count (turn_reads w'' comes' more e c) none end
          (subst IsUnfinished (sym same) waits.0)

      -- and a read failed
      pub turn_unread : (w'' : List ℕ) (comes' : Option (List ℕ)) (more : List ℕ) → w'' ≡ w' ++ more → Consumes comes comes' more → IsPending w''
          → out'' ≡ [] → AnswersAllThatCame gives (copies start) bytes start new before written' comes'
      turn_unread w'' comes' more e c pending none =
          so_far-answered gives copies bytes before start new w'' comes' written' out'' count (turn_reads w'' comes' more e c) none pending

      -- a device failed there
      pub breaks_reading : BreaksOff gives (copies start) bytes start new before written'
      breaks_reading = so_far-breaks gives copies bytes before start new w' comes written' out'' count so_far-flushed

  module _ (stays : copies new ≡ copies now) where
    module _ (answers : Steps gives (copies now) step.Answered w w' now new out out') (written' : Option (List ℕ)) (out'' : List ℕ)
        (s : Sends written written' out' out'') where
      -- a request was answered, and some of what waited was written
      pub turn_answered : SoFar gives copies bytes before start new w' comes written' out'' (one_more count)
      turn_answered =
          so_far-sent gives copies bytes before start new w' comes written out' (one_more count)
          (so_far-more gives copies bytes before start now w comes written out count so new answers.0 w' out' stays answers.1 answers.2) written' out'' s

      pub breaks_answered : BreaksOff gives (copies start) bytes start new before written'
      breaks_answered = so_far-breaks gives copies bytes before start new w' comes written' out'' (one_more count) turn_answered

    module _ (last : Steps gives (copies now) step.Last w w' now new out out') (written' : Option (List ℕ)) (out'' : List ℕ)
        (s : Sends written written' out' out'') where
      -- the last request was answered, and all that waited was written
      pub turn_ends : out'' ≡ [] → Completes gives (copies start) bytes start new before written' (one_more count)
      turn_ends none =
          so_far-ends gives copies bytes before start now w comes written out count so new last.0 [] (last.1 so.left) out' last.2 written' out'' s refl none

      pub breaks_last : BreaksOff gives (copies start) bytes start new before written'
      breaks_last = so_far-breaks_after gives copies bytes before start now w comes written out count so new last.0 [] (last.1 so.left) out' last.2 written' out'' s

    -- no answer was made
    pub breaks_halting : Halts gives (copies now) w now new → BreaksOff gives (copies start) bytes start new before written
    breaks_halting (inl same) =
        so_far-breaks gives copies bytes before start new w comes written out count
        (so_far-kept gives copies bytes before start now w comes written out count so new w out same refl refl)
    breaks_halting (inr (x, called)) =
        let made = called so.left in
        so_far-breaks_after gives copies bytes before start now w comes written out count so new x made.0 made.1 (out ++ answer_of (copies now) x) refl
        written (out ++ answer_of (copies now) x) (Sends-nothing written (out ++ answer_of (copies now) x))
