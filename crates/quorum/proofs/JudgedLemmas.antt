-- A put after its pre-commit hook.
use Rattle.std.proofs.Common.{◌≡◌, ℕ, ◌+◌, ◌≤◌, List, ◌∷◌, length, refl, ap, ◌∙◌, subst, Result, Ok, Err, Option, Some, None, true, inl, inr}
use Rattle.std.specs.List.{list_any}
use Rattle.dvv.specs.declared.Dot.{Dot}
use Rattle.key_state.specs.declared.content.Sibling.{Sibling}
use Rattle.key_state.specs.declared.content.Content.{Content}
use Rattle.key_state.specs.declared.content.Key.{Key}
use Rattle.bpf_verifier.specs.Program.{Program}
use Rattle.bpf_helpers.specs.declared.sig.Entry.{Entry}
use Rattle.hook_abi.specs.Verdicts.{Meaning, Pass, Write, Reject, Keep, Delete, Take}
use Rattle.hook_run.specs.declared.deciding.RunFault.{RunFault}
use Rattle.hook_run.specs.declared.deciding.RunFault.TheVariants.{Disagrees, TooLarge, Bad, NoMemory}
use Rattle.hook_run.specs.Decisions.{IsDecision}
use Rattle.hook_registry.specs.declared.fault.NotSeen.{NotSeen}
use Rattle.quorum.specs.declared.fault.QuorumFault.{QuorumFault}
use Rattle.quorum.specs.declared.fault.QuorumFault.TheVariants.{TooFew}
use Rattle.quorum.specs.declared.fault.QuorumFault.TheVariants as quorum
use Rattle.peers.specs.declared.peers.Answer.{Answer}
use Rattle.peers.specs.declared.fault.PeerFault.{PeerFault}
use Rattle.peers.specs.Calls.{Call, StateOf}
use Rattle.peers.specs.Counts.{has_failed}
use Rattle.quorum.specs.Judged.{Judges, IsRuling, AfterSiblings, IsJudgedPut}
use Rattle.quorum.proofs.RisenLemmas.{few_put}

-- no hook's decision tells that too few answered
never_few : (content : Content) (decided : Result Meaning RunFault) → Judges content decided (Err TooFew) → ⊥
never_few content (Ok Pass) h = cc
never_few content (Ok (Write bytes)) (inl h) = cc
never_few content (Ok (Write bytes)) (inr h) = cc
never_few content (Ok (Reject code)) h = cc
never_few content (Ok Keep) h = cc
never_few content (Ok Delete) h = cc
never_few content (Ok (Take index)) h = cc
never_few content (Err Disagrees) h = cc
never_few content (Err TooLarge) h = cc
never_few content (Err (Bad bad)) h = cc
never_few content (Err NoMemory) h = cc

-- a decision tells that the input is too large where it is
too_large : (content : Content) (decided : Result Meaning RunFault) → Judges content decided (Err quorum.TooLarge) → decided ≡ Err TooLarge
too_large content (Ok Pass) h = absurd cc
too_large content (Ok (Write bytes)) (inl h) = absurd cc
too_large content (Ok (Write bytes)) (inr h) = absurd cc
too_large content (Ok (Reject code)) h = absurd cc
too_large content (Ok Keep) h = absurd cc
too_large content (Ok Delete) h = absurd cc
too_large content (Ok (Take index)) h = absurd cc
too_large content (Err Disagrees) h = absurd cc
too_large content (Err TooLarge) h = refl
too_large content (Err (Bad bad)) h = absurd cc
too_large content (Err NoMemory) h = absurd cc

module _ (listed : List Entry) (hook : Program) (seen : List Dot) (content : Content) (siblings : List Sibling) where
  -- where all siblings are too large, memory may run out before those that the context leaves are shown
  pub unruled : (of_all : Result Meaning RunFault) → IsDecision hook (Some content) siblings listed of_all → Judges content of_all (Err quorum.TooLarge)
      → IsRuling listed hook seen content siblings (Err NoMemory)
  unruled of_all is judges =
      let large : IsDecision hook (Some content) siblings listed (Err TooLarge) = subst (λ d. IsDecision hook (Some content) siblings listed d) (too_large content of_all judges) is in
      (Err TooLarge, large, (large.0, tt))

module _ (listed : List Entry) (coordinator : ℕ) (others : List ℕ) (key : Key) (w : ℕ) (enough : w ≤ 1 + length others) (seen : List Dot) (content : Content) where
  few_siblings : (hook : Program) (own : Result Answer PeerFault) (rest : List Call) → AfterSiblings listed coordinator others key w seen content hook own rest (Err TooFew) → list_any has_failed (StateOf coordinator key own ∷ rest) ≡ true
  few_siblings hook (Err fault) rest h = refl
  few_siblings hook (Ok answer) rest (decided, Ok judged, is, judges, after) = few_put coordinator others key w enough seen judged rest after
  few_siblings hook (Ok answer) rest (decided, Err fault, is, judges, (none, told)) = absurd (never_few content decided (subst (λ f. Judges content decided (Err f)) (same told) judges))
    where
      same : ◌≡◌ {A = Result Dot QuorumFault} (Err TooFew) (Err fault) → fault ≡ TooFew
      same e = cc

  -- where a put told that too few answered, a call of it was lost or refused
  pub few_judged : (found : Result (Option Program) NotSeen) (calls : List Call) → IsJudgedPut listed coordinator others key w seen content found calls (Err TooFew) → list_any has_failed calls ≡ true
  few_judged (Ok None) calls h = few_put coordinator others key w enough seen content calls h
  few_judged (Ok (Some hook)) calls (own, rest, is, after) = ap (list_any has_failed) is ∙ few_siblings hook own rest after
  few_judged (Err fault) calls (none, told) = cc
