-- On clients in memory.
use Rattle.std.proofs.Common.{Result, Ok, Err, ◌≡◌, ◌≢◌, ℕ, Bool, cond, ◌⊎◌, inl, inr, List, refl, sym, ap, subst, ◌∙◌, Some, None, slice_get, slice_set, zero, suc, [], ◌∷◌, ◌<◌, ◌≤◌, length, get_or, arith}
use Rattle.std.proofs.lemmas.Bool.{cases_eq, eq-eqb}
use Rattle.http_connection.specs.declared.device.Failed.{Failed}
use Rattle.http_connections.specs.declared.socket_ring.Told.{Told}
use Rattle.http_connections.specs.declared.socket_ring.Told.TheVariants as told
use Rattle.http_connections.specs.Sockets.{Socket, Sockets, Changes, changed_at, after_call, after_write}
use Rattle.http_connections.specs.Clients.{Shows, Alters, socket_of}
use Rattle.http_connections.specs.declared.clients.Client.{Client}
use Rattle.http_connections.proofs.LogLemmas.{eqb-no}

pub at_there : (n m : ℕ) (f : Socket → Socket) (old : Sockets) → m ≡ n → changed_at n f old m ≡ f (old m)
at_there n m f old is = ap (λ (b : Bool). cond b (f (old m)) (old m)) (eq-eqb m n is)

pub at_other : (n m : ℕ) (f : Socket → Socket) (old : Sockets) → m ≢ n → changed_at n f old m ≡ old m
at_other n m f old apart = ap (λ (b : Bool). cond b (f (old m)) (old m)) (eqb-no m n apart)

pub changes_at : (n : ℕ) (f : Socket → Socket) (old : Sockets) → Changes n f old (changed_at n f old)
changes_at n f old = record { there = at_there n n f old refl; only = λ m apart. at_other n m f old apart }

-- where a client is altered, so is its connection; f reads nothing of one that no client has
pub shows_altered : (i : ℕ) (f : Socket → Socket) (old new : List Client) (s : Sockets) → Alters i f old new → (slice_get old i ≡ None → (t : Socket) → (f t).heard ≡ t.heard) → Shows old s
    → (t : Sockets) × Shows new t × Changes i f s t
shows_altered i f old new s alters quiet shows = (changed_at i f s, record { each = λ n c is. at n c is (cases_eq n i); nobody = λ n none. no n none (cases_eq n i) }, changes_at i f s)
  where
    at : (n : ℕ) (c : Client) → slice_get new n ≡ Some c → (n ≡ i) ⊎ (n ≡ i → ⊥) → changed_at i f s n ≡ socket_of c
    at n c is (inl same) =
        let was = alters.there c (subst (λ k. slice_get new k ≡ Some c) same is) in
        at_there i n f s same ∙ (ap f (shows.each n was.0 (subst (λ k. slice_get old k ≡ Some was.0) (sym same) was.1)) ∙ sym was.2)
    at n c is (inr apart) = at_other i n f s apart ∙ shows.each n c (sym (alters.others n apart) ∙ is)

    no : (n : ℕ) → slice_get new n ≡ None → (n ≡ i) ⊎ (n ≡ i → ⊥) → (changed_at i f s n).heard ≡ []
    no n none (inl same) =
        let gone = alters.absent (subst (λ k. slice_get new k ≡ None) same none) in
        ap (λ (t : Socket). t.heard) (at_there i n f s same) ∙ (quiet gone (s n) ∙ shows.nobody n (subst (λ k. slice_get old k ≡ None) (sym same) gone))
    no n none (inr apart) = ap (λ (t : Socket). t.heard) (at_other i n f s apart) ∙ shows.nobody n (sym (alters.others n apart) ∙ none)

-- a write and a call read nothing
pub write_quiet : (r : Result Told Failed) (bytes : List ℕ) (s : Socket) → (after_write r bytes s).heard ≡ s.heard
write_quiet (Ok (told.Bytes n)) bytes s = refl
write_quiet (Ok told.NotNow) bytes s = refl
write_quiet (Err failed) bytes s = refl

pub call_quiet : (r : Result (Unit {0}) Failed) (s : Socket) → (after_call r s).heard ≡ s.heard
call_quiet (Ok done) s = refl
call_quiet (Err failed) s = refl

set_there : (l : List Client) (i : ℕ) (c v : Client) → slice_get l i ≡ Some c → slice_get (slice_set l i v) i ≡ Some v
set_there [] i c v is = absurd cc
set_there (x ∷ l) zero c v is = refl
set_there (x ∷ l) (suc i) c v is = set_there l i c v is

set_other : (l : List Client) (i j : ℕ) (v : Client) → j ≢ i → slice_get (slice_set l i v) j ≡ slice_get l j
set_other [] i j v apart = refl
set_other (x ∷ l) zero zero v apart = absurd (apart refl)
set_other (x ∷ l) zero (suc j) v apart = refl
set_other (x ∷ l) (suc i) zero v apart = refl
set_other (x ∷ l) (suc i) (suc j) v apart = set_other l i j v (λ e. apart (ap suc e))

one_client : (a b : Client) → Some a ≡ Some b → a ≡ b
one_client a b e = cc

-- a client that is there is altered
pub alters_set : (i : ℕ) (f : Socket → Socket) (old : List Client) (c v : Client) → slice_get old i ≡ Some c → socket_of v ≡ f (socket_of c) → Alters i f old (slice_set old i v)
alters_set i f old c v is so = record {
  there = λ now at. (c, is, ap socket_of (one_client now v (sym at ∙ set_there old i c v is)) ∙ so);
  others = λ j apart. set_other old i j v apart;
  absent = λ none. let both : None ≡ Some v = sym none ∙ set_there old i c v is in cc;
}

-- one that is not there isn't
pub alters_none : (i : ℕ) (f : Socket → Socket) (old : List Client) → None ≡ slice_get old i → Alters i f old old
alters_none i f old none = record {
  there = λ now at. let both : None ≡ Some now = none ∙ at in cc;
  others = λ j apart. refl;
  absent = λ is. is;
}

-- what is at a place
pub there_is : (l : List Client) (i : ℕ) (c : Client) → i < length l → c ≡ get_or l i c → slice_get l i ≡ Some c
there_is [] i c lt e = absurd (omega (arith, lt))
there_is (x ∷ l) zero c lt e = ap Some (sym e)
there_is (x ∷ l) (suc i) c lt e = there_is l i c (omega (arith, lt)) e

pub none_is : (l : List Client) (i : ℕ) → length l ≤ i → None ≡ slice_get l i
none_is [] i le = refl
none_is (x ∷ l) zero le = absurd (omega (arith, le))
none_is (x ∷ l) (suc i) le = none_is l i (omega (arith, le))
