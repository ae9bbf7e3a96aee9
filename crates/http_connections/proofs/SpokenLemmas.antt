-- On what one connection came to.
use Rattle.std.proofs.Common.{◌≡◌, ℕ, Bool, List, [], ◌∷◌, ◌++◌, take, drop, refl, sym, ap, subst, ◌∙◌, inl, inr, append-nil, append_assoc, Result, Ok, Err}
use Rattle.std.specs.Result.{IsErrAnd}
use Rattle.std.proofs.lemmas.List.{take-append-drop}
use Rattle.http_request.specs.Ask.{IsUnfinished}
use Rattle.http_request.specs.declared.ask.Call.{Call}
use Rattle.http_response.specs.declared.reply.Reply.{Reply}
use Rattle.http_connection.specs.declared.fault.FrontFault.{FrontFault}
use Rattle.http_connection.specs.declared.fault.FrontFault.TheVariants as fault
use Rattle.http_connection.specs.Dialogue.{Exchange, Talks, answer_of, answers_of}
use Rattle.http_connection.specs.Turns.{Makes}
use Rattle.http_connections.specs.Sockets.{Socket, after_read, after_write}
use Rattle.http_connections.specs.Spoken.{IsOverAt, Reads, Speaks, Completes, BreaksOff, Blames, IsGivenUp}
use Rattle.http_connections.specs.declared.socket_ring.Heard.TheVariants as heard
use Rattle.http_connections.specs.declared.socket_ring.Told.TheVariants as told
use Rattle.http_connections.specs.declared.seat.Phase.{Phase}
use Rattle.http_connections.specs.declared.seat.Phase.TheVariants as phase
use Rattle.http_connections.proofs.TalkLemmas.{Talks-snoc, answers-snoc}

module _ (copies : ℕ) where
  -- nothing was heard nor written
  pub speaks-fresh : (s : Socket) → s.heard ≡ [] → s.written ≡ [] → Speaks copies phase.Open [] [] s []
  speaks-fresh s heard written = record {
    reads = λ more. ap (λ l. l ++ more) (sym heard);
    answers = sym (append-nil s.written ∙ written);
  }

  -- where no request is left, what is left to read
  pub over_front : (heard : List ℕ) (ended : Bool) (xs : List Exchange) → IsOverAt copies heard ended xs → (after : List ℕ) × Talks copies heard xs after
  over_front heard ended xs (inl last) = ([], subst (λ l. Talks copies l xs []) (append-nil heard) (last []))
  over_front heard ended xs (inr (is, after, talks, unfinished)) = (after, talks)

  -- the requests of a front of what was heard
  pub reads_front : (p : Phase) (waits heard : List ℕ) (ended : Bool) (xs : List Exchange) → Reads copies p waits heard ended xs
      → (after : List ℕ) × Talks copies heard xs after
  reads_front phase.Open waits heard ended xs reads = (waits ++ [], subst (λ l. Talks copies l xs (waits ++ [])) (append-nil heard) (reads []))
  reads_front phase.Ended waits heard ended xs reads = (waits ++ [], subst (λ l. Talks copies l xs (waits ++ [])) (append-nil heard) (reads.0 []))
  reads_front phase.Closing waits heard ended xs reads = over_front heard ended xs reads

  module _ (p : Phase) (waits out : List ℕ) (s : Socket) (xs : List Exchange) (speaks : Speaks copies p waits out s xs) where
    -- some of what waits to be written was
    pub speaks_written : (n : ℕ) → Speaks copies p waits (drop n out) (after_write (Ok (told.Bytes n)) out s) xs
    speaks_written n = record {
      reads = speaks.reads;
      answers = speaks.answers ∙ (ap (λ l. s.written ++ l) (sym (take-append-drop n out)) ∙ sym (append_assoc s.written (take n out) (drop n out)));
    }

    -- the same, of what stays so
    pub speaks_same : (t : Socket) → t.heard ≡ s.heard → t.has_ended ≡ s.has_ended → t.written ≡ s.written → Speaks copies p waits out t xs
    speaks_same t h e w = record {
      reads = subst (λ l. Reads copies p waits l t.has_ended xs) (sym h) (subst (λ b. Reads copies p waits s.heard b xs) (sym e) speaks.reads);
      answers = speaks.answers ∙ ap (λ l. l ++ out) (sym w);
    }

    -- it broke off there
    pub speaks_breaks : (why : FrontFault) (t : Socket) → t.heard ≡ s.heard → t.written ≡ s.written → Blames why t.has_failed → BreaksOff copies why t xs
    speaks_breaks why t h w blames =
        let front = reads_front p waits s.heard s.has_ended xs speaks.reads in record {
          after = front.0;
          talks = subst (λ l. Talks copies l xs front.0) (sym h) front.1;
          rest = out;
          answers = speaks.answers ∙ ap (λ l. l ++ out) (sym w);
          blames = blames;
        }

    -- it is given up there
    pub speaks_given_up : (t : Socket) → t.heard ≡ s.heard → t.written ≡ s.written → IsGivenUp copies t xs
    speaks_given_up t h w =
        let front = reads_front p waits s.heard s.has_ended xs speaks.reads in record {
          after = front.0;
          talks = subst (λ l. Talks copies l xs front.0) (sym h) front.1;
          rest = out;
          answers = speaks.answers ∙ ap (λ l. l ++ out) (sym w);
        }

  module _ (waits out : List ℕ) (s : Socket) (xs : List Exchange) where
    -- nothing is left to be asked, nor to be written
    pub speaks_done : Speaks copies phase.Closing waits out s xs → out ≡ [] → Completes copies s xs
    speaks_done speaks none = record {
      over = speaks.reads;
      answers = speaks.answers ∙ (ap (λ l. s.written ++ l) none ∙ append-nil s.written);
    }

    -- the input ended, and all else is as it was
    pub speaks_on : Speaks copies phase.Ended waits out s xs → Speaks copies phase.Open waits out s xs
    speaks_on speaks = record { reads = speaks.reads.0; answers = speaks.answers }

    -- it ended before a whole request
    pub speaks_over : Speaks copies phase.Ended waits out s xs → IsUnfinished waits → Speaks copies phase.Closing waits out s xs
    speaks_over speaks unfinished = record {
      reads = inr (
        speaks.reads.1,
        waits,
        subst (λ l. Talks copies l xs waits) (append-nil s.heard) (subst (λ l. Talks copies (s.heard ++ []) xs l) (append-nil waits) (speaks.reads.0 [])),
        unfinished,
      );
      answers = speaks.answers;
    }

    module _ (speaks : Speaks copies phase.Open waits out s xs) where
      more_heard : (came more : List ℕ) → Talks copies ((s.heard ++ came) ++ more) xs ((waits ++ came) ++ more)
      more_heard came more =
          subst (λ l. Talks copies l xs ((waits ++ came) ++ more)) (sym (append_assoc s.heard came more))
          (subst (λ l. Talks copies (s.heard ++ (came ++ more)) xs l) (sym (append_assoc waits came more)) (speaks.reads (came ++ more)))

      -- some bytes came
      pub speaks_heard : (n : ℕ) (buf waits' : List ℕ) → waits' ≡ waits ++ take n buf
          → Speaks copies phase.Open waits' out (after_read (Ok (heard.Bytes n)) buf s) xs
      speaks_heard n buf waits' is = record {
        reads = λ more. subst (λ l. Talks copies ((s.heard ++ take n buf) ++ more) xs (l ++ more)) (sym is) (more_heard (take n buf) more);
        answers = speaks.answers;
      }

      -- some bytes came for which there is no memory
      pub speaks_unheard : (n : ℕ) (buf : List ℕ) → BreaksOff copies fault.NoMemory (after_read (Ok (heard.Bytes n)) buf s) xs
      speaks_unheard n buf = record {
        after = (waits ++ take n buf) ++ [];
        talks = subst (λ l. Talks copies l xs ((waits ++ take n buf) ++ [])) (append-nil (s.heard ++ take n buf)) (more_heard (take n buf) []);
        rest = out;
        answers = speaks.answers;
        blames = tt;
      }

      -- the input ended
      pub speaks_ended : (buf : List ℕ) → Speaks copies phase.Ended waits out (after_read (Ok heard.End) buf s) xs
      speaks_ended buf = record { reads = (speaks.reads, refl); answers = speaks.answers }

      module _ {B : Type 0} (gives : B → Call → Reply → B → Type 0) (from now : B) (x : Exchange) (waits' out' : List ℕ) (pushed : out' ≡ out ++ answer_of copies x) where
        answers_more : answers_of copies (xs ++ x ∷ []) ≡ s.written ++ out'
        answers_more =
            answers-snoc copies xs x
            ∙ (ap (λ l. l ++ answer_of copies x) speaks.answers
            ∙ (append_assoc s.written out (answer_of copies x) ∙ ap (λ l. s.written ++ l) (sym pushed)))

        -- the first request that waits was answered, and others may follow
        pub speaks_answered : ((more : List ℕ) → Makes gives copies (waits ++ more) from now x (waits' ++ more))
            → Speaks copies phase.Open waits' out' s (xs ++ x ∷ [])
        speaks_answered makes = record {
          reads = λ more. Talks-snoc copies (s.heard ++ more) xs (waits ++ more) x (waits' ++ more) (speaks.reads more) (makes more).asks;
          answers = answers_more;
        }

        -- the last request was answered
        pub speaks_last : ((more : List ℕ) → Makes gives copies (waits ++ more) from now x []) → Speaks copies phase.Closing waits' out' s (xs ++ x ∷ [])
        speaks_last makes = record {
          reads = inl (λ more. Talks-snoc copies (s.heard ++ more) xs (waits ++ more) x [] (speaks.reads more) (makes more).asks);
          answers = answers_more;
        }

      -- a call was made for which no answer could be
      pub speaks_halted : {B : Type 0} (gives : B → Call → Reply → B → Type 0) (from now : B) (x : Exchange)
          → ((more : List ℕ) → (next : List ℕ) × Makes gives copies (waits ++ more) from now x next)
          → BreaksOff copies fault.NoMemory s (xs ++ x ∷ [])
      speaks_halted gives from now x makes = record {
        after = (makes []).0;
        talks =
            subst (λ l. Talks copies l (xs ++ x ∷ []) (makes []).0) (append-nil s.heard)
            (Talks-snoc copies (s.heard ++ []) xs (waits ++ []) x (makes []).0 (speaks.reads []) (makes []).1.asks);
        rest = out ++ answer_of copies x;
        answers = answers_more gives from now x [] (out ++ answer_of copies x) refl;
        blames = tt;
      }

-- what an error from want of memory is
pub err_is : {T : Type 0} (r : Result T FrontFault) (why : FrontFault) → IsErrAnd r (λ f. f ≡ why) → r ≡ Err why
err_is (Ok x) why h = absurd h
err_is (Err f) why h = ap Err h
