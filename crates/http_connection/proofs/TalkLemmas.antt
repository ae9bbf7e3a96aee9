-- On the exchanges so far.
use Rattle.std.proofs.Common.{◌≡◌, ℕ, ◌-◌, ◌^◌, ◌<◌, ◌≤◌, ◌⊎◌, inl, inr, List, [], ◌∷◌, ◌++◌, Option, Some, None, refl, sym, ap, subst, ◌∙◌, append-nil, append_assoc, arith, length-append}
use Rattle.std.specs.Prelude.{unwrap_or}
use Rattle.std.specs.Io.KnownBytes.{Appends, Consumes, IsAtEnd}
use Rattle.std.proofs.lemmas.List.Concat.{flat_map-append}
use Rattle.std.proofs.lemmas.Bool.{cases_lt}
use Rattle.http_request.specs.Ask.{Asks, IsUnfinished}
use Rattle.http_request.specs.declared.ask.Call.{Call}
use Rattle.http_response.specs.declared.reply.Reply.{Reply}
use Rattle.http_connection.specs.Device.{Rises, HasRisen, Sends}
use Rattle.http_connection.specs.Dialogue.{Exchange, call_of, Talks, Does, Runs, Converses, Completes, BreaksOff, AnswersAllThatCame, answer_of, answers_of}
use Rattle.http_connection.specs.Pending.{IsPending}
use Rattle.http_connection.specs.Turns.{Makes, SoFar, one_more}

-- the value of an option that has one
pub some_is : (a b : List ℕ) → Some a ≡ Some b → a ≡ b
some_is a b e = ap (λ o. unwrap_or o a) e

-- where what comes is known, so is what is left of it after some bytes came
known_left : (comes comes' : Option (List ℕ)) (left more : List ℕ) → comes ≡ Some left → Consumes comes comes' more
    → (left' : List ℕ) × (comes' ≡ Some left') × (left ≡ more ++ left')
known_left None comes' left more e c = cc
known_left (Some x) None left more e c = absurd c
known_left (Some x) (Some y) left more e c = (y, refl, sym (some_is x left e) ∙ c)

-- what is known of a sink after bytes were added
appended : (old new : Option (List ℕ)) (before bs : List ℕ) → old ≡ Some before → Appends old new bs → new ≡ Some (before ++ bs)
appended None new before bs e a = cc
appended (Some x) None before bs e a = absurd a
appended (Some x) (Some y) before bs e a = ap Some (a ∙ ap (λ l. l ++ bs) (some_is x before e))

-- at the end nothing is left
at_end : (comes : Option (List ℕ)) (left : List ℕ) → comes ≡ Some left → IsAtEnd comes → left ≡ []
at_end None left e end = cc
at_end (Some x) left e end = sym (some_is x left e) ∙ end

module _ (copies : ℕ) where
  -- one more exchange at the end
  Talks-snoc : (bytes : List ℕ) (xs : List Exchange) (rest : List ℕ) (x : Exchange) (next : List ℕ) → Talks copies bytes xs rest
      → Asks copies rest x.asked x.ends next → Talks copies bytes (xs ++ x ∷ []) next
  Talks-snoc bytes [] rest x next t a = (next, subst (λ r. Asks copies r x.asked x.ends next) t a, refl)
  Talks-snoc bytes (y ∷ xs) rest x next t a = (t.0, t.1, Talks-snoc t.0 xs rest x next t.2 a)

  answers-snoc : (xs : List Exchange) (x : Exchange) → answers_of copies (xs ++ x ∷ []) ≡ answers_of copies xs ++ answer_of copies x
  answers-snoc xs x = flat_map-append (answer_of copies) xs (x ∷ []) ∙ ap (λ l. answers_of copies xs ++ l) (append-nil (answer_of copies x))

module _ {B : Type 0} (gives : B → Call → Reply → B → Type 0) where
  Runs-snoc : (old : B) (xs : List Exchange) (mid : B) (x : Exchange) (new : B) → Runs gives old xs mid
      → Does gives mid (call_of x.asked) x.reply new → Runs gives old (xs ++ x ∷ []) new
  Runs-snoc old [] mid x new r d = (new, subst (λ b. Does gives b (call_of x.asked) x.reply new) r d, refl)
  Runs-snoc old (y ∷ xs) mid x new r d = (r.0, r.1, Runs-snoc r.0 xs mid x new r.2 d)

  Converses-snoc : (copies : ℕ) (bytes : List ℕ) (old mid new : B) (xs : List Exchange) (rest : List ℕ) (x : Exchange) (next : List ℕ)
      → Converses gives copies bytes old mid xs rest → Makes gives copies rest mid new x next
      → Converses gives copies bytes old new (xs ++ x ∷ []) next
  Converses-snoc copies bytes old mid new xs rest x next c m = record {
    talks = Talks-snoc copies bytes xs rest x next c.talks m.asks;
    runs = Runs-snoc old xs mid x new c.runs m.does;
  }

  module _ (copies : B → ℕ) where
    pub so_far-start : (bytes before waits : List ℕ) (b : B) (comes written : Option (List ℕ)) (out : List ℕ) → waits ≡ [] → comes ≡ Some bytes
        → written ≡ Some before → out ≡ [] → SoFar gives copies bytes before b b waits comes written out 0
    so_far-start bytes before waits b comes written out nothing c w none = record {
      same = refl;
      xs = [];
      heard = [];
      left = bytes;
      parts = refl;
      comes_is = c;
      talk = λ more. record { talks = ap (λ l. l ++ more) nothing; runs = refl };
      front = [];
      gathered = sym none;
      wrote = w ∙ ap Some (sym (append-nil before));
      counted = omega arith;
    }

    module _ (bytes before : List ℕ) (start now : B) (waits : List ℕ) (comes written : Option (List ℕ)) (out : List ℕ) (count : ℕ)
        (so : SoFar gives copies bytes before start now waits comes written out count) where
      -- the same exchanges, with what is the same
      pub so_far-kept : (new : B) (waits' : List ℕ) (out' : List ℕ) → new ≡ now → waits' ≡ waits → out' ≡ out
          → SoFar gives copies bytes before start new waits' comes written out' count
      so_far-kept new waits' out' n w o = record {
        same = ap copies n ∙ so.same;
        xs = so.xs;
        heard = so.heard;
        left = so.left;
        parts = so.parts;
        comes_is = so.comes_is;
        talk = λ more.
            subst (λ b. Converses gives (copies start) (so.heard ++ more) start b so.xs (waits' ++ more)) (sym n)
            (subst (λ l. Converses gives (copies start) (so.heard ++ more) start now so.xs (l ++ more)) (sym w) (so.talk more));
        front = so.front;
        gathered = so.gathered ∙ ap (λ l. so.front ++ l) (sym o);
        wrote = so.wrote;
        counted = so.counted;
      }

      -- more bytes were read
      pub so_far-read : (waits' : List ℕ) (comes' : Option (List ℕ)) (read : List ℕ) → waits' ≡ waits ++ read → Consumes comes comes' read
          → SoFar gives copies bytes before start now waits' comes' written out count
      so_far-read waits' comes' read e c =
          let rest = known_left comes comes' so.left read so.comes_is c in record {
            same = so.same;
            xs = so.xs;
            heard = so.heard ++ read;
            left = rest.0;
            parts = so.parts ∙ (ap (λ l. so.heard ++ l) rest.2 ∙ sym (append_assoc so.heard read rest.0));
            comes_is = rest.1;
            talk = λ more.
                subst (λ l. Converses gives (copies start) l start now so.xs (waits' ++ more)) (sym (append_assoc so.heard read more))
                (subst (λ l. Converses gives (copies start) (so.heard ++ (read ++ more)) start now so.xs l)
                (sym (ap (λ l. l ++ more) e ∙ append_assoc waits read more)) (so.talk (read ++ more)));
            front = so.front;
            gathered = so.gathered;
            wrote = so.wrote;
            counted = so.counted;
          }

      gathered-more : (x : Exchange) (out' : List ℕ) → out' ≡ out ++ answer_of (copies now) x
          → answers_of (copies start) (so.xs ++ x ∷ []) ≡ so.front ++ out'
      gathered-more x out' o =
          answers-snoc (copies start) so.xs x
          ∙ (ap (λ l. l ++ answer_of (copies start) x) so.gathered
          ∙ (append_assoc so.front out (answer_of (copies start) x)
          ∙ ap (λ l. so.front ++ l) (ap (λ k. out ++ answer_of k x) (sym so.same) ∙ sym o)))

      talk-more : (new : B) (x : Exchange) (more next : List ℕ) → Makes gives (copies now) (waits ++ more) now new x next
          → Converses gives (copies start) (so.heard ++ more) start new (so.xs ++ x ∷ []) next
      talk-more new x more next m =
          Converses-snoc (copies start) (so.heard ++ more) start now new so.xs (waits ++ more) x next (so.talk more)
          (subst (λ k. Makes gives k (waits ++ more) now new x next) so.same m)

      -- one more exchange
      pub so_far-more : (new : B) (x : Exchange) (waits' out' : List ℕ) → copies new ≡ copies now
          → ((more : List ℕ) → Makes gives (copies now) (waits ++ more) now new x (waits' ++ more)) → out' ≡ out ++ answer_of (copies now) x
          → SoFar gives copies bytes before start new waits' comes written out' (one_more count)
      so_far-more new x waits' out' c m o = record {
        same = c ∙ so.same;
        xs = so.xs ++ x ∷ [];
        heard = so.heard;
        left = so.left;
        parts = so.parts;
        comes_is = so.comes_is;
        talk = λ more. talk-more new x more (waits' ++ more) (m more);
        front = so.front;
        gathered = gathered-more x out' o;
        wrote = so.wrote;
        counted = omega (arith, so.counted, length-append so.xs (x ∷ []));
      }

      -- some of what waits was written
      pub so_far-sent : (written' : Option (List ℕ)) (out' : List ℕ) → Sends written written' out out'
          → SoFar gives copies bytes before start now waits comes written' out' count
      so_far-sent written' out' s = record {
        same = so.same;
        xs = so.xs;
        heard = so.heard;
        left = so.left;
        parts = so.parts;
        comes_is = so.comes_is;
        talk = so.talk;
        front = so.front ++ s.sent;
        gathered = so.gathered ∙ (ap (λ l. so.front ++ l) s.parts ∙ sym (append_assoc so.front s.sent out'));
        wrote = appended written written' (before ++ so.front) s.sent so.wrote s.wrote ∙ ap Some (append_assoc before so.front s.sent);
        counted = so.counted;
      }

      all_written : out ≡ [] → written ≡ Some (before ++ answers_of (copies start) so.xs)
      all_written none = so.wrote ∙ ap (λ l. Some (before ++ l)) (sym (so.gathered ∙ (ap (λ l. so.front ++ l) none ∙ append-nil so.front)))

      all_talk : Converses gives (copies start) bytes start now so.xs (waits ++ so.left)
      all_talk = subst (λ l. Converses gives (copies start) l start now so.xs (waits ++ so.left)) (sym so.parts) (so.talk so.left)

      -- the input ended, no whole request is left, and nothing waits to be written
      pub so_far-over : out ≡ [] → IsAtEnd comes → IsUnfinished waits → Completes gives (copies start) bytes start now before written count
      so_far-over none end over =
          let rest : waits ++ so.left ≡ waits = ap (λ l. waits ++ l) (at_end comes so.left so.comes_is end) ∙ append-nil waits in
          (so.xs, waits ++ so.left, all_talk, inr (subst IsUnfinished (sym rest) over), all_written none, so.counted)

      -- nothing waits to be written, and no whole request waits to be read
      pub so_far-answered : out ≡ [] → IsPending waits → AnswersAllThatCame gives (copies start) bytes start now before written comes
      so_far-answered none pending = (
        so.heard,
        so.left,
        so.parts,
        so.comes_is,
        so.xs,
        waits,
        subst (λ l. Converses gives (copies start) l start now so.xs waits) (append-nil so.heard)
            (subst (λ l. Converses gives (copies start) (so.heard ++ []) start now so.xs l) (append-nil waits) (so.talk [])),
        pending,
        all_written none,
      )

      pub so_far-breaks : BreaksOff gives (copies start) bytes start now before written
      so_far-breaks = (so.xs, waits ++ so.left, all_talk, so.front, out, so.gathered, so.wrote)

      -- one exchange more was the last; what was written of all answers
      module _ (new : B) (x : Exchange) (next : List ℕ) (made : Makes gives (copies now) (waits ++ so.left) now new x next)
          (out' : List ℕ) (o : out' ≡ out ++ answer_of (copies now) x) (written' : Option (List ℕ)) (out'' : List ℕ) (s : Sends written written' out' out'') where
        last_talk : Converses gives (copies start) bytes start new (so.xs ++ x ∷ []) next
        last_talk = subst (λ l. Converses gives (copies start) l start new (so.xs ++ x ∷ []) next) (sym so.parts) (talk-more new x so.left next made)

        last_gathered : answers_of (copies start) (so.xs ++ x ∷ []) ≡ (so.front ++ s.sent) ++ out''
        last_gathered = gathered-more x out' o ∙ (ap (λ l. so.front ++ l) s.parts ∙ sym (append_assoc so.front s.sent out''))

        last_wrote : written' ≡ Some (before ++ (so.front ++ s.sent))
        last_wrote = appended written written' (before ++ so.front) s.sent so.wrote s.wrote ∙ ap Some (append_assoc before so.front s.sent)

        pub so_far-breaks_after : BreaksOff gives (copies start) bytes start new before written'
        so_far-breaks_after = (so.xs ++ x ∷ [], next, last_talk, so.front ++ s.sent, out'', last_gathered, last_wrote)

        pub so_far-ends : next ≡ [] → out'' ≡ [] → Completes gives (copies start) bytes start new before written' (one_more count)
        so_far-ends e none = (
          so.xs ++ x ∷ [],
          next,
          last_talk,
          inl e,
          last_wrote ∙ ap (λ l. Some (before ++ l)) (sym (last_gathered ∙ (ap (λ l. (so.front ++ s.sent) ++ l) none ∙ append-nil (so.front ++ s.sent)))),
          omega (arith, so.counted, length-append so.xs (x ∷ [])),
        )

-- a count that rises has risen
pub rises_risen : (old new : ℕ) → Rises old new → HasRisen old new
rises_risen old new e = at (cases_lt old (2 ^ 64 - 1))
  where
    at : (old < 2 ^ 64 - 1) ⊎ (2 ^ 64 - 1 ≤ old) → HasRisen old new
    at (inl lt) = inl (omega (arith, e))
    at (inr ge) = inr ge
