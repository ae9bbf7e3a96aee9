-- On the log of all connections, and each one's part of it.
use Rattle.std.proofs.Common.{◌≡◌, ◌≢◌, ℕ, ◌==◌, Bool, true, false, cond, ◌⊎◌, inl, inr, List, [], ◌∷◌, ◌++◌, refl, sym, ap, subst, ◌∙◌, Option}
use Rattle.std.proofs.lemmas.Bool.{cases_eq, eq-eqb, eqb-true}
use Rattle.http_request.specs.declared.ask.Call.{Call}
use Rattle.http_response.specs.declared.reply.Reply.{Reply}
use Rattle.http_connection.specs.Dialogue.{Exchange, Runs}
use Rattle.http_connections.specs.Sockets.{Sockets, Socket, OnlyAt}
use Rattle.http_connections.specs.Halls.{AllStand, Goes, HallStands, IsOfOne, Log, OnlySeat, Stands, all_parts, part}
use Rattle.http_connections.specs.declared.seat.Seat.{Seat}
use Rattle.http_connections.proofs.TalkLemmas.{Runs-append}

-- the exchanges of one connection, as they stand in the log
abbrev pub tagged : ℕ → List Exchange → Log
tagged n [] = []
tagged n (x ∷ xs) = (n, x) ∷ tagged n xs

pub all_parts-append : (log : Log) (n : ℕ) (xs : List Exchange) → all_parts (log ++ tagged n xs) ≡ all_parts log ++ xs
all_parts-append [] n [] = refl
all_parts-append [] n (x ∷ xs) = ap (λ l. x ∷ l) (all_parts-append [] n xs)
all_parts-append (e ∷ log) n xs = ap (λ l. e.1 ∷ l) (all_parts-append log n xs)

pub eqb-no : (m n : ℕ) → m ≢ n → (m == n) ≡ false
eqb-no m n apart = at (m == n) refl
  where
    at : (b : Bool) → (m == n) ≡ b → b ≡ false
    at true is = absurd (apart (eqb-true m n is))
    at false is = refl

cons_if : (b : Bool) (x : Exchange) (xs ys : List Exchange) → cond b (x ∷ (xs ++ ys)) (xs ++ ys) ≡ cond b (x ∷ xs) xs ++ ys
cons_if true x xs ys = refl
cons_if false x xs ys = refl

-- its own part is longer by them
pub part-own : (log : Log) (n : ℕ) (xs : List Exchange) → part n (log ++ tagged n xs) ≡ part n log ++ xs
part-own [] n [] = refl
part-own [] n (x ∷ xs) = ap (λ b. cond b (x ∷ part n (tagged n xs)) (part n (tagged n xs))) (eq-eqb n n refl) ∙ ap (λ l. x ∷ l) (part-own [] n xs)
part-own (e ∷ log) n xs =
    ap (λ l. cond (e.0 == n) (e.1 ∷ l) l) (part-own log n xs) ∙ cons_if (e.0 == n) e.1 (part n log) xs

-- and no other is
pub part-other : (log : Log) (n m : ℕ) (xs : List Exchange) → n ≢ m → part m (log ++ tagged n xs) ≡ part m log
part-other [] n m [] apart = refl
part-other [] n m (x ∷ xs) apart = ap (λ b. cond b (x ∷ part m (tagged n xs)) (part m (tagged n xs))) (eqb-no n m apart) ∙ part-other [] n m xs apart
part-other (e ∷ log) n m xs apart = ap (λ l. cond (e.0 == m) (e.1 ∷ l) l) (part-other log n m xs apart)

pub all_parts-both : (xs ys : Log) → all_parts (xs ++ ys) ≡ all_parts xs ++ all_parts ys
all_parts-both [] ys = refl
all_parts-both (e ∷ xs) ys = ap (λ l. e.1 ∷ l) (all_parts-both xs ys)

-- they are of that connection alone
pub tagged-one : (n : ℕ) (xs : List Exchange) → IsOfOne n (tagged n xs)
tagged-one n xs m apart = part-other [] n m xs (λ e. apart (sym e))

-- more exchanges of one connection, and what becomes of it
pub all_with_more : (copies : ℕ) (log : Log) (n : ℕ) (made : List Exchange) (old new : Sockets) (seats seats' : ℕ → Option Seat) → AllStand copies log old seats → OnlyAt n old new → OnlySeat n seats seats'
    → Stands copies (new n).state (seats' n) (new n) (part n log ++ made) → AllStand copies (log ++ tagged n made) new seats'
all_with_more copies log n made old new seats seats' all only only_seat own = λ m. at m (cases_eq n m)
  where
    at : (m : ℕ) → (n ≡ m) ⊎ (n ≡ m → ⊥) → Stands copies (new m).state (seats' m) (new m) (part m (log ++ tagged n made))
    at m (inl is) =
        subst (λ k. Stands copies (new k).state (seats' k) (new k) (part k (log ++ tagged n made))) is
        (subst (Stands copies (new n).state (seats' n) (new n)) (sym (part-own log n made)) own)
    at m (inr apart) =
        let other : m ≢ n = λ e. apart (sym e) in
        let socket = subst (λ (s : Socket). Stands copies s.state (seats m) s (part m log)) (sym (only m other)) (all m) in
        let seat = subst (λ (o : Option Seat). Stands copies (new m).state o (new m) (part m log)) (sym (only_seat m other)) socket in
        subst (Stands copies (new m).state (seats' m) (new m)) (sym (part-other log n m made apart)) seat

module _ {B : Type 0} (gives : B → Call → Reply → B → Type 0) where
  -- so the hall goes on
  pub goes_with : (copies : ℕ) (log : Log) (n : ℕ) (made : List Exchange) (from now : B) (old new : Sockets) (seats seats' : ℕ → Option Seat) → AllStand copies log old seats → OnlyAt n old new → OnlySeat n seats seats'
      → Stands copies (new n).state (seats' n) (new n) (part n log ++ made) → Runs gives from made now → (goes : Goes gives copies log from now new seats') × IsOfOne n goes.made
  goes_with copies log n made from now old new seats seats' all only only_seat own runs = (
    record {
      made = tagged n made;
      runs = subst (λ l. Runs gives from l now) (sym (all_parts-append [] n made)) runs;
      each = all_with_more copies log n made old new seats seats' all only only_seat own;
    },
    tagged-one n made,
  )

  -- and stands again
  pub goes_stands : (copies : B → ℕ) (start from now : B) (old new : Sockets) (seats seats' : ℕ → Option Seat) (h : HallStands gives copies start from old seats) → copies now ≡ copies from
      → Goes gives (copies from) h.log from now new seats' → HallStands gives copies start now new seats'
  goes_stands copies start from now old new seats seats' h stays goes = record {
    same = stays ∙ h.same;
    log = h.log ++ goes.made;
    runs = subst (λ l. Runs gives start l now) (sym (all_parts-both h.log goes.made)) (Runs-append gives start (all_parts h.log) from (all_parts goes.made) now h.runs goes.runs);
    each = subst (λ k. AllStand k (h.log ++ goes.made) new seats') h.same goes.each;
  }
