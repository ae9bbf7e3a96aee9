-- On what becomes of a worker's connections, step after step.
use Rattle.std.proofs.Common.{◌≡◌, ◌∙◌, ℕ, [], ◌++◌, append-nil, append_assoc, refl, sym, subst}
use Rattle.http_request.specs.declared.ask.Call.{Call}
use Rattle.http_response.specs.declared.reply.Reply.{Reply}
use Rattle.http_connection.specs.Dialogue.{Runs}
use Rattle.http_connections.specs.Halls.{AllStand, Goes, Log, all_parts, seat_at}
use Rattle.http_connections.specs.Sockets.{Sockets}
use Rattle.http_connections.proofs.LogLemmas.{all_parts-both}
use Rattle.http_connections.proofs.TalkLemmas.{Runs-append}
use Rattle.http_connections.specs.declared.hall.Hall.{Hall}
use Rattle.server_sockets.specs.Shows.{Shows}
use Rattle.server_sockets.specs.Work.{Stays, Works, seats_of, shows}
use Rattle.server_sockets.specs.declared.worker.Worker.{Worker}

-- the hall was not touched, and no number was given
pub stays_same : (old new : Worker) → new.hall ≡ old.hall → new.sockets.next ≡ old.sockets.next → Stays old new
stays_same old new hall next = λ copies log s shown all. (
  s,
  subst (λ (k : ℕ). Shows k s) (sym next) shown,
  subst (λ (h : Hall). AllStand copies log s (seat_at h)) (sym hall) all,
)

pub stays_then : (a b c : Worker) → Stays a b → Stays b c → Stays a c
stays_then a b c first second = λ copies log s shown all. let mid = first copies log s shown all in second copies log mid.0 mid.1 mid.2

module _ {B : Type 0} (gives : B → Call → Reply → B → Type 0) (copies : B → ℕ) where
  pub works_then : (a b c : Worker) (x y z : B) → Works gives copies a b x y → Works gives copies b c y z → Works gives copies a c x z
  works_then a b c x y z (same, first) (same', second) = (same' ∙ same, λ log s shown all. both log (first log s shown all))
    where
      both : (log : Log) → (t : Sockets) × shows b t × Goes gives (copies x) log x y t (seats_of b) → (t : Sockets) × shows c t × Goes gives (copies x) log x z t (seats_of c)
      both log (mid, shown, goes) =
          let made : Log = goes.made in
          let w = second (log ++ made) mid shown (subst (λ k. AllStand k (log ++ made) mid (seats_of b)) (sym same) goes.each) in
          let more : Log = w.2.made in (
            w.0,
            w.1,
            record {
              made = made ++ more;
              runs = subst (λ l. Runs gives x l z) (sym (all_parts-both made more)) (Runs-append gives x (all_parts made) y (all_parts more) z goes.runs w.2.runs);
              each = subst (λ l. AllStand (copies x) l w.0 (seats_of c)) (append_assoc log made more) (subst (λ k. AllStand k ((log ++ made) ++ more) w.0 (seats_of c)) same w.2.each);
            },
          )

  -- no call was made
  pub works_stays : (a b : Worker) (x : B) → Stays a b → Works gives copies a b x x
  works_stays a b x stays = (
    refl,
    λ log s shown all.
        let mid = stays (copies x) log s shown all in
        (mid.0, mid.1, record { made = []; runs = refl; each = subst (λ l. AllStand (copies x) l mid.0 (seats_of b)) (sym (append-nil log)) mid.2 }),
  )

  -- nothing was done
  pub works_same : (a : Worker) (x : B) → Works gives copies a a x x
  works_same a x = works_stays a a x (λ k log s shown all. (s, shown, all))
