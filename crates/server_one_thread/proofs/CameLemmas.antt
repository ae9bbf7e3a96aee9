-- What comes from one client, and that all was done for it.
use Rattle.std.proofs.Common.{◌≡◌, ◌≢◌, ◌⊎◌, inl, inr, ℕ, zero, suc, ◌+◌, ◌<◌, ◌==◌, Bool, cond, List, [], ◌∷◌, ◌++◌, length, take, get_or, ap, sym, subst, ◌∙◌, append-nil, arith, Some, None, slice_get}
use Rattle.std.specs.Prelude.{IsTrue}
use Rattle.std.proofs.lemmas.Bool.{cases_eq, eq-eqb}
use Rattle.std.proofs.lemmas.Grind.{flat_map-append}
use Rattle.std.proofs.lemmas.List.{get_or_default, take_more}
use Rattle.std.proofs.lemmas.List.Elements.{Contains-get_or}
use Rattle.http_connections.specs.declared.clients.Client.{Client}
use Rattle.http_connections.proofs.ClientLemmas.{there_is}
use Rattle.http_connections.proofs.LogLemmas.{eqb-no}
use Rattle.server_one_thread.specs.declared.together.Arrival.{Arrival}
use Rattle.server_one_thread.specs.declared.together.Came.{Came}
use Rattle.server_one_thread.specs.declared.together.Delivery.{Delivery}
use Rattle.server_one_thread.specs.Together.{Comes, IsCome, IsDone, IsDoneAt, bytes_in, sent_by}

-- one delivery more
sent_more : (n : ℕ) (deliveries : List Delivery) (i : ℕ) (d : Delivery) → i < length deliveries → d ≡ get_or deliveries i d → sent_by n (take (i + 1) deliveries) ≡ sent_by n (take i deliveries) ++ cond (d.client == n) (bytes_in d.arrival) []
sent_more n deliveries i d inside is =
    ap (sent_by n) (take_more deliveries i d inside) ∙ flat_map-append (λ e. cond (e.client == n) (bytes_in e.arrival) []) (take i deliveries) (get_or deliveries i d ∷ [])
    ∙ ap (λ (l : List ℕ). sent_by n (take i deliveries) ++ l) (append-nil (cond ((get_or deliveries i d).client == n) (bytes_in (get_or deliveries i d).arrival) []))
    ∙ ap (λ (e : Delivery). sent_by n (take i deliveries) ++ cond (e.client == n) (bytes_in e.arrival) []) (sym is)

module _ (n : ℕ) (deliveries : List Delivery) (i : ℕ) (none : Delivery) (inside : i < length deliveries) where
  abbrev here : Delivery
  here = get_or deliveries i none

  is_here : here ≡ get_or deliveries i here
  is_here = get_or_default deliveries i none here inside

  -- its bytes are those that came so far, and those of this one if it is of the client
  pub came_more : (old new : List ℕ) → old ≡ sent_by n (take i deliveries) → (here.client ≡ n → new ≡ old ++ bytes_in here.arrival) → (here.client ≢ n → new ≡ old) → new ≡ sent_by n (take (i + 1) deliveries)
  came_more old new was own other = by (cases_eq here.client n) ∙ sym (sent_more n deliveries i here inside is_here)
    where
      by : (here.client ≡ n) ⊎ (here.client ≡ n → ⊥) → new ≡ sent_by n (take i deliveries) ++ cond (here.client == n) (bytes_in here.arrival) []
      by (inl same) =
          own same ∙ ap (λ (l : List ℕ). l ++ bytes_in here.arrival) was
          ∙ ap (λ (b : Bool). sent_by n (take i deliveries) ++ cond b (bytes_in here.arrival) []) (sym (eq-eqb here.client n same))
      by (inr apart) =
          other apart ∙ was ∙ sym (append-nil (sent_by n (take i deliveries)))
          ∙ ap (λ (b : Bool). sent_by n (take i deliveries) ++ cond b (bytes_in here.arrival) []) (sym (eqb-no here.client n apart))

  -- this came so far, or it is this one
  pub comes_more : (what : Arrival) (old new : Bool) → (IsTrue old → Comes n what deliveries) → (IsTrue new → IsTrue old ⊎ ((here.client ≡ n) × (here.arrival ≡ what))) → IsTrue new → Comes n what deliveries
  comes_more what old new was more set = by (more set)
    where
      by : IsTrue old ⊎ ((here.client ≡ n) × (here.arrival ≡ what)) → Comes n what deliveries
      by (inl before) = was before
      by (inr (of, it)) = (here, Contains-get_or deliveries i none inside, of, it)

one_client : (a b : Client) → Some a ≡ Some b → a ≡ b
one_client a b e = cc

-- one client more
pub done_more : (number : ℕ) (clients : List Client) (deliveries : List Delivery) (c : Client) (came : Came) → number < length clients → c ≡ get_or clients number c → IsCome number deliveries came → c.heard.items ++ c.coming.items ≡ came.bytes.items
    → IsDoneAt c came.ends came.fails c.stage → ((n : ℕ) (client : Client) → n < number → slice_get clients n ≡ Some client → IsDone n deliveries client) → (n : ℕ) (client : Client) → n < number + 1 → slice_get clients n ≡ Some client → IsDone n deliveries client
done_more number clients deliveries c came inside is come all done before n client below at = by (cases_eq n number)
  where
    by : (n ≡ number) ⊎ (n ≡ number → ⊥) → IsDone n deliveries client
    by (inl same) =
        let here : slice_get clients n ≡ Some c = subst (λ (k : ℕ). slice_get clients k ≡ Some c) (sym same) (there_is clients number c inside is) in
        subst (λ (x : Client). IsDone n deliveries x) (one_client c client (sym here ∙ at)) (subst (λ (k : ℕ). IsDone k deliveries c) (sym same) (all ∙ come.bytes, came, come, done))
    by (inr apart) = before n client (omega (arith, below, apart)) at

-- a client that is there
pub some_inside : (clients : List Client) (n : ℕ) (c : Client) → slice_get clients n ≡ Some c → n < length clients
some_inside [] n c at = absurd (let none : None ≡ Some c = at in cc)
some_inside (x ∷ clients) zero c at = omega arith
some_inside (x ∷ clients) (suc n) c at = let h = some_inside clients n c at in omega (arith, h)
