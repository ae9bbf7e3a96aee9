-- What was acknowledged stays known where records were taken over.
use Rattle.std.proofs.Common.{◌≡◌, ℕ, ◌∙◌, ◌++◌, ◌||◌, Bool, true, false, List, [], ◌∷◌, refl, sym, ap, inl, inr}
use Rattle.std.specs.Prelude.{Contains}
use Rattle.std.proofs.lemmas.List.Folds.{list_any-append}
use Rattle.std.specs.List.{list_any}
use Rattle.dvv.specs.declared.Dot.{Dot}
use Rattle.key_state.specs.declared.content.Content.{Content}
use Rattle.key_state.specs.declared.content.Key.{Key}
use Rattle.key_state.specs.State.{State}
use Rattle.key_state.proofs.Siblings.{is_dot-same}
use Rattle.journal.specs.Entries.{tells}
use Rattle.journal.specs.Entry.{Entry, Put}
use Rattle.journal.specs.Replay.{IsReplay, Knows, LeaveAlike, known_in}
use Rattle.journal.proofs.Dots.{true_covers}
use Rattle.journal.proofs.Keyed.{same_itself}
use Rattle.world.proofs.Lists.{Contains-cases, Contains-nil}

or-true : (b : Bool) → (b || true) ≡ true
or-true true = refl
or-true false = refl

-- a test that an element passes is passed by some
pub any_from : {X : Type 0} (test : X → Bool) (xs : List X) (x : X) → Contains xs x → test x ≡ true → list_any test xs ≡ true
any_from test [] x c t = absurd (Contains-nil x c)
any_from test (y ∷ ys) x c t = elim (Contains-cases y ys x c) [
  | inl is ↦ rw (ap test is ∙ t) refl
  | inr rest ↦ rw (any_from test ys x rest t) (or-true (test y))
]

-- what entries tell of is known with others before or behind them
pub known_front : (es rest : List Entry) (k : Key) (d : Dot) → known_in es k d ≡ true → known_in (es ++ rest) k d ≡ true
known_front es rest k d t = list_any-append (λ e. tells e k d) es rest ∙ ap (λ (b : Bool). b || list_any (λ e. tells e k d) rest) t

-- a put's own dot is known
pub put_known : (es : List Entry) (stamp : ℕ) (key : Key) (seen : List Dot) (content : Content) (dot : Dot) → Contains es (Put stamp key seen content dot) → known_in es key dot ≡ true
put_known es stamp key seen content dot among = any_from (λ e. tells e key dot) es (Put stamp key seen content dot) among (rw (same_itself key) (is_dot-same dot dot refl))

pub put_stays : (old es rest : List Entry) (stamp : ℕ) (key : Key) (seen : List Dot) (content : Content) (dot : Dot) → LeaveAlike old es key → Contains old (Put stamp key seen content dot) → known_in (es ++ rest) key dot ≡ true
put_stays old es rest stamp key seen content dot alike among = known_front es rest key dot (sym (alike dot).1 ∙ put_known old stamp key seen content dot among)

pub context_stays : (before after es rest : List Entry) (key : Key) (state : State) → LeaveAlike (before ++ after) es key → IsReplay before key state → Knows (es ++ rest) key state.clock
context_stays before after es rest key state alike left = λ d covered.
    known_front es rest key d (sym (alike d).1 ∙ known_front before after key d (sym (left.clock d) ∙ true_covers state.clock d covered))
