-- Where a put went through, enough copies were stored.
use Rattle.std.proofs.Common.{◌≡◌, ℕ, ◌≤◌, List, [], ◌∷◌, ◌++◌, refl, ap, sym, ◌∙◌, subst, arith, Result, Ok, Err, Option, Some, None, Bool, true, false, cond, nat_le, MatchBool, IfOk}
use Rattle.std.proofs.lemmas.Bool.Decides.{nat_tests}
use Rattle.dvv.specs.declared.Dot.{Dot}
use Rattle.key_state.specs.declared.content.Content.{Content}
use Rattle.key_state.specs.declared.content.Key.{Key}
use Rattle.bpf_verifier.specs.Program.{Program}
use Rattle.bpf_helpers.specs.declared.sig.Entry.{Entry}
use Rattle.hook_registry.specs.declared.fault.NotSeen.{NotSeen}
use Rattle.peers.specs.declared.peers.Answer.{Answer}
use Rattle.peers.specs.declared.fault.PeerFault.{PeerFault}
use Rattle.peers.specs.Calls.{Call, PutAt, StateOf, Made}
use Rattle.quorum.specs.declared.fault.QuorumFault.{QuorumFault}
use Rattle.quorum.specs.declared.fault.QuorumFault.TheVariants.{TooFew}
use Rattle.quorum.specs.Puts.{gathers, copies, is_ahead, AfterStored, AfterPut, HasSpread, TriesAgain, IsPut, StoresCopies}
use Rattle.quorum.specs.Judged.{AfterSiblings, IsJudgedPut}

chose_enough : (w stored : ℕ) (put dot : Dot) → ◌≡◌ {A = Result Dot QuorumFault} (Ok dot) (cond (nat_le w stored) (Ok put) (Err TooFew)) → (put ≡ dot) × (w ≤ stored)
chose_enough w stored put dot h = by_test (nat_le w stored) refl h
  where
    by_test : (b : Bool) → nat_le w stored ≡ b → ◌≡◌ {A = Result Dot QuorumFault} (Ok dot) (cond b (Ok put) (Err TooFew)) → (put ≡ dot) × (w ≤ stored)
    by_test true e h = (cc, grind (arith, nat_tests))
    by_test false e h = absurd cc

has_spread : (coordinator : ℕ) (others : List ℕ) (key : Key) (w : ℕ) (put dot : Dot) (calls : List Call) → AfterStored coordinator others key w put calls (Ok dot)
    → (put ≡ dot) × HasSpread coordinator others key w calls
has_spread coordinator [] key w put dot calls (none, told) = let enough = chose_enough w 1 put dot told in (enough.0, (none, enough.1))
has_spread coordinator (i ∷ others) key w put dot calls (Err fault, rest, is, (none, told)) = absurd cc
has_spread coordinator (i ∷ others) key w put dot calls (Ok answer, rest, is, (backs, len, are, told)) =
    let enough = chose_enough w (copies backs) put dot told in
    (enough.0, (answer, backs, is ∙ ap (λ (l : List Call). StateOf coordinator key (Ok answer) ∷ l) are, len, enough.1))

module _ (coordinator : ℕ) (others : List ℕ) (key : Key) (w : ℕ) (seen : List Dot) where
  after_put : (content : Content) (before : List Call) (back : Result Dot PeerFault) (calls : List Call) (dot : Dot) → AfterPut coordinator others key w back calls (Ok dot)
      → StoresCopies coordinator others key w seen dot (before ++ PutAt coordinator key seen content back ∷ calls)
  after_put content before (Err fault) calls dot (none, told) = absurd cc
  after_put content before (Ok put) calls dot h =
      let spread = has_spread coordinator others key w put dot calls h in
      record {
        before = before;
        content = content;
        behind = calls;
        parts = ap (λ (d : Dot). before ++ PutAt coordinator key seen content (Ok d) ∷ calls) spread.0;
        spread = spread.1;
      }

  after_first : (content : Content) (first : Result Dot PeerFault) (rest : List Call) (dot : Dot) (ahead : Bool)
      → MatchBool ahead (TriesAgain coordinator others key w seen content rest (Ok dot)) (AfterPut coordinator others key w first rest (Ok dot))
      → StoresCopies coordinator others key w seen dot (PutAt coordinator key seen content first ∷ rest)
  after_first content first rest dot true (brought, second, more, len, is, after) =
      subst (λ (l : List Call). StoresCopies coordinator others key w seen dot (PutAt coordinator key seen content first ∷ l)) (sym is)
      (after_put content (PutAt coordinator key seen content first ∷ gathers coordinator key others brought) second more dot after)
  after_first content first rest dot false after = after_put content [] first rest dot after

  put_stored : (content : Content) (calls : List Call) (dot : Dot) → IsPut coordinator others key w seen content calls (Ok dot) → StoresCopies coordinator others key w seen dot calls
  put_stored content calls dot (first, rest, is, after) = subst (λ (l : List Call). StoresCopies coordinator others key w seen dot l) (sym is) (after_first content first rest dot (is_ahead first) after)

  one_before : (call : Call) (calls : List Call) (dot : Dot) → StoresCopies coordinator others key w seen dot calls → StoresCopies coordinator others key w seen dot (call ∷ calls)
  one_before call calls dot h = record {
    before = call ∷ h.before;
    content = h.content;
    behind = h.behind;
    parts = ap (λ (l : List Call). call ∷ l) h.parts;
    spread = h.spread;
  }

  module _ (listed : List Entry) (content : Content) where
    after_own : (hook : Program) (own : Result Answer PeerFault) (rest : List Call) (dot : Dot) → AfterSiblings listed coordinator others key w seen content hook own rest (Ok dot)
        → StoresCopies coordinator others key w seen dot (StateOf coordinator key own ∷ rest)
    after_own hook (Err fault) rest dot (none, told) = absurd cc
    after_own hook (Ok answer) rest dot (decided, Ok judged, is, judges, after) = one_before (StateOf coordinator key (Ok answer)) rest dot (put_stored judged rest dot after)
    after_own hook (Ok answer) rest dot (decided, Err fault, is, judges, (none, told)) = absurd cc

    judged_stored : (found : Result (Option Program) NotSeen) (calls : List Call) (dot : Dot) → IsJudgedPut listed coordinator others key w seen content found calls (Ok dot) → StoresCopies coordinator others key w seen dot calls
    judged_stored (Ok None) calls dot h = put_stored content calls dot h
    judged_stored (Ok (Some hook)) calls dot (own, rest, is, after) = subst (λ (l : List Call). StoresCopies coordinator others key w seen dot l) (sym is) (after_own hook own rest dot after)
    judged_stored (Err fault) calls dot (none, told) = absurd cc

    -- where a put answered a dot, its calls end with enough copies
    pub if_stored : {S : Type 0} (happens : S → Call → S → Type 0) (old new : S) (found : Result (Option Program) NotSeen) (calls : List Call) (result : Result Dot QuorumFault) → Made happens old calls new
        → IsJudgedPut listed coordinator others key w seen content found calls result → IfOk result (λ dot. (calls : List Call) × Made happens old calls new × StoresCopies coordinator others key w seen dot calls)
    if_stored happens old new found calls (Ok dot) made is = (calls, made, judged_stored found calls dot is)
    if_stored happens old new found calls (Err fault) made is = tt
