-- Worked rows of calls in a run, and wrong ones that are refused.
use Rattle.std.proofs.Common.{◌≡◌, ◌↔◌, ℕ, zero, suc, ◌<◌, ◌≤◌, List, [], ◌∷◌, refl, sym, ◌∙◌, arith, Some, None, Ok, Err, true}
use Rattle.dvv.specs.declared.Dot.{Dot}
use Rattle.key_state.specs.declared.content.Content.{Content}
use Rattle.key_state.specs.declared.content.Key.{Key}
use Rattle.key_state.specs.Known.{Write, IsCurrent}
use Rattle.key_state.specs.State.{State, content_at}
use Rattle.vnode.specs.declared.fault.PartFault.{PartFault}
use Rattle.journal.specs.Logs.{Log}
use Rattle.cluster_stamps.specs.Rule.{StampsRise, call_of}
use Rattle.cluster_stamps.specs.declared.request.Reply.TheVariants as reply
use Rattle.cluster_stamps.specs.declared.request.Request.{Request}
use Rattle.cluster_stamps.specs.declared.request.Request.TheVariants as request
use Rattle.cluster_stamps.specs.declared.view.News.TheVariants as news
use Rattle.cluster_stamps.specs.declared.view.Told.{Told}
use Rattle.world.specs.Knowledge.{Knowledge, known_at, next_dot}
use Rattle.audit_replay.specs.Interleaved.{IsInterleavingFrom}
use Rattle.audit_cluster.specs.Moments.{HappenFrom, IsCallBehind, IsCallOf, IsKnownOf, a_step, all_happened, no_entry}

-- a write of two copies by one pass: its put at the vnode 258, and the merge at the vnode 256 behind it
module _ (key : Key) (seen : List Dot) (content : Content) (dot : Dot) (state : State) where
  abbrev put : Told
  put = call_of 258 7 20 (request.Put key seen content) (Ok (reply.Dot dot))

  abbrev merge : Told
  merge = call_of 256 3 22 (request.Merge key 258 8 state) (Ok (reply.Changed true))

  -- the put stands behind 7 entries that were there before, and not behind 8
  behind_seven : (log : Log) → IsCallBehind (7 ∷ []) (log ∷ []) put
  behind_seven log entry made zero inside is = omega arith
  behind_seven log entry made (suc index) inside is = absurd (omega (arith, inside))

  not_behind_eight : (log : Log) → log.vnode ≡ 258 → IsCallBehind (8 ∷ []) (log ∷ []) put → ⊥
  not_behind_eight log is behind = let le : 8 ≤ 7 = behind _ refl 0 (omega arith) is in omega (arith, le)

  -- their stamps rise
  rise : StampsRise (put ∷ merge ∷ [])
  rise zero zero d lt within = absurd (omega arith)
  rise zero (suc zero) d lt within = omega arith
  rise zero (suc (suc j)) d lt within = absurd (omega arith)
  rise (suc i) j d lt within = absurd (omega arith)

  -- the other way round they don't
  fall : StampsRise (merge ∷ put ∷ []) → ⊥
  fall rises = let less = rises 0 1 put (omega arith) (omega arith) in omega (arith, less)

  module _ {begin : Knowledge} {fronts : List ℕ} {logs : List Log} (run : IsInterleavingFrom begin fronts logs) (order : (m n : ℕ) (t u : Told) → IsCallOf run m t → IsCallOf run n u → (m < n) ↔ (t.stamp < u.stamp)) where
    -- the steps 4 and 9 of a run; a call that a vnode refused stands between them and is no step
    written : (asked : Request) (why : PartFault) → IsCallOf run 4 put → IsCallOf run 9 merge → HappenFrom run 0 (put ∷ call_of 257 5 21 asked (Err why) ∷ merge ∷ [])
    written asked why first second =
        a_step 0 4 put (call_of 257 5 21 asked (Err why) ∷ merge ∷ []) (omega arith) first
        (no_entry 5 (call_of 257 5 21 asked (Err why)) (merge ∷ []) refl (a_step 5 9 merge [] (omega arith) second (all_happened 10)))

    -- in no run the merge comes first
    backwards : HappenFrom run 0 (merge ∷ put ∷ []) → ⊥
    backwards happen = first happen
      where
        last : (low : ℕ) → IsCallOf run low merge → HappenFrom run (suc low) (put ∷ []) → ⊥
        last low is (a_step _ number _ _ le call rest) = let less = (order low number merge put is call).0 (omega (arith, le)) in omega (arith, less)
        last low is (no_entry _ _ _ none rest) = cc

        first : HappenFrom run 0 (merge ∷ put ∷ []) → ⊥
        first (a_step _ number _ _ le call rest) = last number call rest
        first (no_entry _ _ _ none rest) = cc

-- ---- what was known

module _ (old : Knowledge) (vnode : ℕ) (key : Key) where
  -- a state that shows a dot of no current write, as one of a moment behind
  of_a_moment_behind : (state : State) (dot : Dot) (content : Content) → content_at state.siblings dot ≡ Some content → ((w : Write) → IsCurrent (known_at old vnode key) w → w.dot ≡ dot → ⊥) → IsKnownOf old vnode (news.Call (request.Read key) (Ok (reply.State state))) → ⊥
  of_a_moment_behind state dot content shown none is =
      let found = ((is.state key state refl).shows.siblings dot content).0 shown in
      none found.0 found.1 found.2

  -- a state that lacks a current write, as one of a moment before
  of_a_moment_before : (state : State) (w : Write) → IsCurrent (known_at old vnode key) w → content_at state.siblings w.dot ≡ None → IsKnownOf old vnode (news.Call (request.Read key) (Ok (reply.State state))) → ⊥
  of_a_moment_before state w current lacks is = let shown = ((is.state key state refl).shows.siblings w.dot w.content).1 (w, current, refl, refl) in let clash : None ≡ Some w.content = sym lacks ∙ shown in cc

  -- the dot of another put
  another_dot : (seen : List Dot) (content : Content) (dot : Dot) → (dot ≡ next_dot old vnode key → ⊥) → IsKnownOf old vnode (news.Call (request.Put key seen content) (Ok (reply.Dot dot))) → ⊥
  another_dot seen content dot apart is = apart (is.dot key seen content dot refl)
