-- On exchanges one after the other.
use Rattle.std.proofs.Common.{◌≡◌, ℕ, List, [], ◌∷◌, ◌++◌, refl, ap, subst, ◌∙◌, append-nil}
use Rattle.std.proofs.lemmas.List.Concat.{flat_map-append}
use Rattle.http_request.specs.Ask.{Asks}
use Rattle.http_request.specs.declared.ask.Call.{Call}
use Rattle.http_response.specs.declared.reply.Reply.{Reply}
use Rattle.http_connection.specs.Dialogue.{Exchange, Talks, Does, Runs, call_of, answer_of, answers_of}

module _ (copies : ℕ) where
  -- one more exchange at the end
  pub Talks-snoc : (bytes : List ℕ) (xs : List Exchange) (rest : List ℕ) (x : Exchange) (next : List ℕ) → Talks copies bytes xs rest
      → Asks copies rest x.asked x.ends next → Talks copies bytes (xs ++ x ∷ []) next
  Talks-snoc bytes [] rest x next t a = (next, subst (λ r. Asks copies r x.asked x.ends next) t a, refl)
  Talks-snoc bytes (y ∷ xs) rest x next t a = (t.0, t.1, Talks-snoc t.0 xs rest x next t.2 a)

  pub answers-snoc : (xs : List Exchange) (x : Exchange) → answers_of copies (xs ++ x ∷ []) ≡ answers_of copies xs ++ answer_of copies x
  answers-snoc xs x = flat_map-append (answer_of copies) xs (x ∷ []) ∙ ap (λ l. answers_of copies xs ++ l) (append-nil (answer_of copies x))

module _ {B : Type 0} (gives : B → Call → Reply → B → Type 0) where
  -- some calls and then others
  pub Runs-append : (old : B) (xs : List Exchange) (mid : B) (ys : List Exchange) (new : B) → Runs gives old xs mid → Runs gives mid ys new
      → Runs gives old (xs ++ ys) new
  Runs-append old [] mid ys new r q = subst (λ b. Runs gives b ys new) r q
  Runs-append old (x ∷ xs) mid ys new r q = (r.0, r.1, Runs-append r.0 xs mid ys new r.2 q)

  -- one call
  pub Runs-one : (old : B) (x : Exchange) (new : B) → Does gives old (call_of x.asked) x.reply new → Runs gives old (x ∷ []) new
  Runs-one old x new does = (new, does, refl)
