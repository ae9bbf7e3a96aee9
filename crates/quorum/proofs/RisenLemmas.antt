-- Where too few answered, some call was lost or refused.
use Rattle.std.proofs.Common.{◌≡◌, ℕ, ◌+◌, ◌-◌, ◌^◌, ◌≤◌, ◌<◌, List, [], ◌∷◌, length, refl, ap, sym, ◌∙◌, subst, arith, Result, Ok, Err, is_ok, is_err, cond, Bool, true, false, nat_le, ◌||◌, ◌⊎◌, count_by, min}
use Rattle.std.specs.List.{list_any}
use Rattle.std.proofs.lemmas.Bool.Decides.{nat_tests}
use Rattle.std.proofs.lemmas.List.Sums.{sum_by-append}
use Rattle.dvv.specs.declared.Dot.{Dot}
use Rattle.key_state.specs.declared.content.Content.{Content}
use Rattle.key_state.specs.declared.content.Key.{Key}
use Rattle.quorum.specs.declared.fault.QuorumFault.{QuorumFault}
use Rattle.quorum.specs.declared.fault.QuorumFault.TheVariants.{TooFew}
use Rattle.peers.specs.declared.peers.Answer.{Answer}
use Rattle.peers.specs.declared.fault.PeerFault.{PeerFault}
use Rattle.peers.specs.Calls.{Call, PutAt, Made}
use Rattle.peers.specs.Counts.{has_failed, Counts, HasRisen}
use Rattle.quorum.specs.Gets.{reads, answers}
use Rattle.quorum.specs.Puts.{merges, copies, AfterStored, AfterPut, AfterFirst, IsPut}

rises : (failed : Bool) (old new : ℕ) → new ≡ cond failed (min (old + 1) (2 ^ 64 - 1)) old → failed ≡ true → HasRisen old new
rises false old new h f = cc
rises true old new h f = ranked old new h
  where
    ranked : (old new : ℕ) → new ≡ min (old + 1) (2 ^ 64 - 1) → (old < new) ⊎ (new ≡ 2 ^ 64 - 1)
    ranked old new h = grind arith

stays_risen : (failed : Bool) (start old new : ℕ) → HasRisen start old → new ≡ cond failed (min (old + 1) (2 ^ 64 - 1)) old → HasRisen start new
stays_risen true start old new h e = grind arith
stays_risen false start old new h e = grind arith

module _ {S : Type 0} (happens : S → Call → S → Type 0) (failures : S → ℕ) (counted : (a b : S) (call : Call) → happens a call b → Counts call (failures a) (failures b)) where
  keeps_risen : (start : ℕ) (a b : S) (calls : List Call) → HasRisen start (failures a) → Made happens a calls b → HasRisen start (failures b)
  keeps_risen start a b [] h m = subst (λ s. HasRisen start (failures s)) (sym m) h
  keeps_risen start a b (call ∷ calls) h m = keeps_risen start m.0 b calls (stays_risen (has_failed call) start (failures a) (failures m.0) h (counted a m.0 call m.1)) m.2

  not_yet : (start : ℕ) (a b : S) (calls : List Call) → failures a ≡ start → Made happens a calls b → list_any has_failed calls ≡ true → HasRisen start (failures b)
  not_yet start a b [] e m h = cc
  not_yet start a b (call ∷ calls) e m h = split (has_failed call) refl h (not_yet start m.0 b calls)
    where
      split : (f : Bool) → has_failed call ≡ f → (f || list_any has_failed calls) ≡ true → (failures m.0 ≡ start → Made happens m.0 calls b → list_any has_failed calls ≡ true → HasRisen start (failures b)) → HasRisen start (failures b)
      split true f t later = keeps_risen start m.0 b calls (subst (λ s. HasRisen s (failures m.0)) e (rises (has_failed call) (failures a) (failures m.0) (counted a m.0 call m.1) f)) m.2
      split false f t later = later ((counted a m.0 call m.1 ∙ ap (λ x. cond x (min (failures a + 1) (2 ^ 64 - 1)) (failures a)) f) ∙ e) m.2 t

  -- a run with a failure in it raises the count
  pub made_risen : (a b : S) (calls : List Call) → Made happens a calls b → list_any has_failed calls ≡ true → HasRisen (failures a) (failures b)
  made_risen a b calls m h = not_yet (failures a) a b calls refl m h

reads_failed : (key : Key) (vnodes : List ℕ) (backs : List (Result Answer PeerFault)) → length backs ≡ length vnodes → length (answers backs) < length vnodes → list_any has_failed (reads key vnodes backs) ≡ true
reads_failed key [] backs e lt = absurd (omega arith)
reads_failed key (i ∷ vnodes) [] e lt = absurd (omega arith)
reads_failed key (i ∷ vnodes) (Ok a ∷ backs) e lt = reads_failed key vnodes backs (omega arith) (omega arith)
reads_failed key (i ∷ vnodes) (Err f ∷ backs) e lt = refl

pub few_reads : (key : Key) (vnodes : List ℕ) (backs : List (Result Answer PeerFault)) (r : ℕ) → length backs ≡ length vnodes → length (answers backs) < r → r ≤ length vnodes → list_any has_failed (reads key vnodes backs) ≡ true
few_reads key vnodes backs r e lt le = reads_failed key vnodes backs e (omega arith)

merges_failed : (key : Key) (answer : Answer) (vnodes : List ℕ) (backs : List (Result Bool PeerFault)) → length backs ≡ length vnodes → count_by is_ok backs < length vnodes → list_any has_failed (merges key answer vnodes backs) ≡ true
merges_failed key answer [] backs e lt = absurd (omega arith)
merges_failed key answer (i ∷ vnodes) [] e lt = absurd (omega arith)
merges_failed key answer (i ∷ vnodes) (Ok a ∷ backs) e lt = let s = sum_by-append (λ (b : Result Bool PeerFault). cond (is_ok b) 1 0) (Ok a ∷ []) backs in merges_failed key answer vnodes backs (omega arith) (omega arith)
merges_failed key answer (i ∷ vnodes) (Err f ∷ backs) e lt = refl

chose_few : (w stored : ℕ) (dot : Dot) → ◌≡◌ {A = Result Dot QuorumFault} (Err TooFew) (cond (nat_le w stored) (Ok dot) (Err TooFew)) → stored < w
chose_few w stored dot h = by_test (nat_le w stored) refl h
  where
    by_test : (b : Bool) → nat_le w stored ≡ b → ◌≡◌ {A = Result Dot QuorumFault} (Err TooFew) (cond b (Ok dot) (Err TooFew)) → stored < w
    by_test true e h = cc
    by_test false e h = grind (arith, nat_tests)

stored_failed : (coordinator : ℕ) (others : List ℕ) (key : Key) (w : ℕ) → w ≤ 1 + length others → (dot : Dot) (calls : List Call) → AfterStored coordinator others key w dot calls (Err TooFew) → list_any has_failed calls ≡ true
stored_failed coordinator [] key w enough dot calls (none, few) = let lt = chose_few w 1 dot few in absurd (omega (arith, lt, enough))
stored_failed coordinator (i ∷ others) key w enough dot calls (Err fault, rest, is, after) = ap (list_any has_failed) is
stored_failed coordinator (i ∷ others) key w enough dot calls (Ok answer, rest, is, (backs, len, are, few)) =
    let lt = chose_few w (copies backs) dot few in
    ap (list_any has_failed) is ∙ ap (list_any has_failed) are ∙ merges_failed key answer (i ∷ others) backs len (omega arith)

module _ (coordinator : ℕ) (others : List ℕ) (key : Key) (w : ℕ) (enough : w ≤ 1 + length others) where
  after_put_failed : (back : Result Dot PeerFault) (call : Call) (calls : List Call) → has_failed call ≡ is_err back → AfterPut coordinator others key w back calls (Err TooFew) → list_any has_failed (call ∷ calls) ≡ true
  after_put_failed (Err fault) call calls e h = ap (λ b. b || list_any has_failed calls) e
  after_put_failed (Ok dot) call calls e h = ap (λ b. b || list_any has_failed calls) e ∙ stored_failed coordinator others key w enough dot calls h

  pub few_put : (seen : List Dot) (content : Content) (calls : List Call) → IsPut coordinator others key w seen content calls (Err TooFew) → list_any has_failed calls ≡ true
  few_put seen content calls (first, rest, is, after) = ap (list_any has_failed) is ∙ by_first first after
    where
      by_first : (first : Result Dot PeerFault) → AfterFirst coordinator others key w seen content first rest (Err TooFew) → list_any has_failed (PutAt coordinator key seen content first ∷ rest) ≡ true
      by_first (Err fault) h = refl
      by_first (Ok dot) h = after_put_failed (Ok dot) (PutAt coordinator key seen content (Ok dot)) rest refl h
