-- On the request at the front of some bytes.
use Rattle.std.proofs.Common.{◌≡◌, ℕ, ◌<◌, Bool, true, false, List, [], ◌++◌, length, take, drop, map, sym, ap, subst, ◌∙◌, refl, arith, append_assoc, None, Some, Option}
use Rattle.httparse.specs.Grammar.{RequestHead}
use Rattle.httparse.specs.Spans.{IsRequestAt, header_bytes}
use Rattle.httparse.specs.declared.spans.HeaderSpan.{HeaderSpan}
use Rattle.httparse.specs.declared.spans.RequestSpans.{RequestSpans}
use Rattle.http_request.specs.Head.{BeginsHead, IsOriginTarget}
use Rattle.http_request.specs.Fields.{Pair, Framing, fault_among, framing_among, framing_of, pairs_of, fields_fault, is_last, waits_by, waits_to_go_on, head_anew, without_expectation}
use Rattle.http_request.specs.Target.{path_at, query_at}
use Rattle.http_request.specs.Ask.{Request, request, asked_by, asked_by_method, asked_whole, asked_by_none, asked_to_go_on, Asks, bad_target, bad_fields, goes_on, bad_body, whole, IsUnfinished, in_body}
use Rattle.http_request.specs.Body.{HasBody, BodyFault, IsBodyUnfinished}
use Rattle.http_request.specs.declared.ask.Ask.{Ask}
use Rattle.http_request.specs.declared.ask.What.TheVariants.{Refused}
use Rattle.http_request.specs.declared.ask.Refusal.{Refusal}
use Rattle.http_parse.specs.Finds.{next_of}
use Rattle.http_parse.proofs.AnewLemmas.{anew_some, anew_shorter}
use Rattle.http_parse.proofs.BodyLemmas.{begins_append}

-- one part after the other
pub same_request : (m m' p p' q q' : List ℕ) (fs fs' : List Pair) (b b' : List ℕ) → m ≡ m' → p ≡ p' → q ≡ q' → fs ≡ fs' → b ≡ b'
    → (r : Request) × (r ≡ record { method = m; path = p; query = q; pairs = fs; body = b }) × (r ≡ record { method = m'; path = p'; query = q'; pairs = fs'; body = b' })
same_request m m' p p' q q' fs fs' b b' e1 e2 e3 e4 e5 = (
  record { method = m; path = p; query = q; pairs = fs; body = b },
  refl,
  ap (λ x. record { method = x; path = p; query = q; pairs = fs; body = b }) e1
      ∙ (ap (λ x. record { method = m'; path = x; query = q; pairs = fs; body = b }) e2
      ∙ (ap (λ x. record { method = m'; path = p'; query = x; pairs = fs; body = b }) e3
      ∙ (ap (λ x. record { method = m'; path = p'; query = q'; pairs = x; body = b }) e4
      ∙ ap (λ x. record { method = m'; path = p'; query = q'; pairs = fs'; body = x }) e5))),
)

module _ (n : ℕ) (buf : List ℕ) (lines : List HeaderSpan) (spans : RequestSpans) (head : RequestHead)
    (at : IsRequestAt buf lines spans head) (begins : BeginsHead buf head (drop spans.len buf))
    (method target : List ℕ) (m : method ≡ head.method) (t : target ≡ head.target) (version : ℕ) (v : version ≡ head.minor) where
  abbrev fields : List Pair
  fields = map (header_bytes buf) (take spans.headers lines)

  -- a target that is no path
  pub no_target : (IsOriginTarget target → ⊥) → (more : List ℕ) → Asks n (buf ++ more) asked_by_none true []
  no_target bad more =
      bad_target head (drop spans.len buf ++ more) (begins_append buf head (drop spans.len buf) more begins)
      (λ origin. bad (subst IsOriginTarget (sym t) origin))

  fault_is : (o : Option Refusal) → fault_among version method fields ≡ o → fields_fault head ≡ o
  fault_is o f =
      ap (fault_among head.minor head.method) (sym at.fields)
      ∙ (ap (λ x. fault_among head.minor x fields) (sym m) ∙ (ap (λ x. fault_among x method fields) (sym v) ∙ f))

  framing_is : (f : Framing) → f ≡ framing_among fields → framing_of head ≡ f
  framing_is f e = ap framing_among (sym at.fields) ∙ sym e

  waits_is : (f : Framing) (b : Bool) → f ≡ framing_among fields → waits_by version fields f ≡ b → waits_to_go_on head ≡ b
  waits_is f b e w =
      ap (λ k. waits_by head.minor (pairs_of head) k) (framing_is f e)
      ∙ (ap (λ p. waits_by head.minor p f) (sym at.fields) ∙ (ap (λ x. waits_by x fields f) (sym v) ∙ w))

  -- a client that waits to be told to go on
  pub goes : (f : Framing) (text : List ℕ) → IsOriginTarget target → fault_among version method fields ≡ None → f ≡ framing_among fields
      → waits_by version fields f ≡ true → text ≡ head_anew method target fields
      → (0 < length text) × (length text < spans.len) × ((more : List ℕ) → Asks n (buf ++ more) asked_to_go_on false ((text ++ drop spans.len buf) ++ more))
  goes framed text origin f e w is =
      let told : text ≡ without_expectation head =
      is ∙ (ap (λ x. head_anew x target fields) m ∙ (ap (λ x. head_anew head.method x fields) t ∙ ap (head_anew head.method head.target) at.fields)) in
      let stands = waits_is framed true e w in (
        omega (arith, ap length told, anew_some head),
        omega (arith, ap length told, at.len, anew_shorter head stands),
        λ more.
            subst (λ l. Asks n (buf ++ more) asked_to_go_on false l)
            (sym (append_assoc text (drop spans.len buf) more ∙ ap (λ l. l ++ (drop spans.len buf ++ more)) told))
            (goes_on head (drop spans.len buf ++ more) (begins_append buf head (drop spans.len buf) more begins) (subst IsOriginTarget t origin) (fault_is None f) stands),
      )

  -- fields that say too little or too much
  pub no_fields : (refusal : Refusal) → IsOriginTarget target → fault_among version method fields ≡ Some refusal → (more : List ℕ)
      → Asks n (buf ++ more) (asked_by_method method (Refused refusal)) true []
  no_fields refusal origin f more =
      subst (λ x. Asks n (buf ++ more) (asked_by_method x (Refused refusal)) true []) (sym m)
      (bad_fields head (drop spans.len buf ++ more) refusal (begins_append buf head (drop spans.len buf) more begins)
      (subst IsOriginTarget t origin) (fault_is (Some refusal) f))

  -- a body that isn't whole yet
  pub waits : (framed : Framing) (more : List ℕ) → IsOriginTarget target → fault_among version method fields ≡ None → framed ≡ framing_among fields
      → waits_by version fields framed ≡ false → IsBodyUnfinished framed (drop spans.len buf ++ more) → IsUnfinished (buf ++ more)
  waits framed more origin f e here short =
      in_body head (drop spans.len buf ++ more) (begins_append buf head (drop spans.len buf) more begins)
      (subst IsOriginTarget t origin) (fault_is None f) (waits_is framed false e here)
      (subst (λ k. IsBodyUnfinished k (drop spans.len buf ++ more)) (sym (framing_is framed e)) short)

  -- a body that is none
  pub no_body : (framed : Framing) (refusal : Refusal) → IsOriginTarget target → fault_among version method fields ≡ None → framed ≡ framing_among fields
      → waits_by version fields framed ≡ false → ((more : List ℕ) → BodyFault framed (drop spans.len buf ++ more) refusal)
      → (more : List ℕ) → Asks n (buf ++ more) (asked_by_method method (Refused refusal)) true []
  no_body framed refusal origin f e here fault more =
      subst (λ x. Asks n (buf ++ more) (asked_by_method x (Refused refusal)) true []) (sym m)
      (bad_body head (drop spans.len buf ++ more) refusal (begins_append buf head (drop spans.len buf) more begins)
      (subst IsOriginTarget t origin) (fault_is None f) (waits_is framed false e here)
      (subst (λ k. BodyFault k (drop spans.len buf ++ more) refusal) (sym (framing_is framed e)) (fault more)))

  -- a request whose body is at hand
  pub is_whole : (framed : Framing) (ask : Ask) (path query body : List ℕ) (len : ℕ) (ends : Bool) → IsOriginTarget target
      → fault_among version method fields ≡ None → framed ≡ framing_among fields → waits_by version fields framed ≡ false
      → ((more : List ℕ) → HasBody framed (drop spans.len buf ++ more) body (drop len buf ++ more)) → path ≡ path_at target → query ≡ query_at target
      → ask ≡ asked_whole n (record { method = method; path = path; query = query; pairs = fields; body = body })
      → ends ≡ is_last head
      → (more : List ℕ) → Asks n (buf ++ more) ask ends (next_of ends len buf more)
  is_whole framed ask path query body len ends origin f e here has p q a l more =
      let all = whole head (drop spans.len buf ++ more) body (drop len buf ++ more) (begins_append buf head (drop spans.len buf) more begins)
      (subst IsOriginTarget t origin) (fault_is None f) (waits_is framed false e here)
      (subst (λ k. HasBody k (drop spans.len buf ++ more) body (drop len buf ++ more)) (sym (framing_is framed e)) (has more)) in
      let same = same_request method head.method path (path_at head.target) query (query_at head.target) fields (pairs_of head) body body
      m (p ∙ ap path_at t) (q ∙ ap query_at t) at.fields refl in
      let ask_is : ask ≡ asked_by n head body = a ∙ ap (asked_whole n) (sym same.1 ∙ same.2) in
      let P : Ask → Bool → Type 0 = λ x z. Asks n (buf ++ more) x z (next_of z len buf more) in
      subst (λ z. P ask z) (sym l) (subst (λ x. P x (is_last head)) (sym ask_is) all)
