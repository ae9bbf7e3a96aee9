-- What a read answered: the state before the first entry behind it that changes its key, or the one that all entries leave, where none does.
use Rattle.std.proofs.Common.{◌≡◌, ℕ, zero, suc, ◌+◌, ◌-◌, ◌<◌, ◌≤◌, List, [], ◌∷◌, ◌++◌, length, get_or, take, drop, refl, sym, ap, subst, ◌∙◌, inl, inr, arith, Option, Some, None, Bool, true, false, cond}
use Rattle.std.specs.Prelude.{slice_get, MatchOption}
use Rattle.std.specs.Option.{option_or}
use Rattle.std.proofs.lemmas.List.{drop_all, take_all, take_more}
use Rattle.std.proofs.lemmas.Option.{same_Some, slice_get_within, slice_get-get_or, get_or_from_slice_get}
use Rattle.key_state.specs.declared.content.Key.{Key}
use Rattle.key_state.specs.State.{State}
use Rattle.journal.specs.Entry.{Entry, Put, Merge, Read, Restart}
use Rattle.journal.specs.Keys.{same_key}
use Rattle.journal.specs.Logs.{Log}
use Rattle.journal.specs.Replay.{IsReplay}
use Rattle.journal.proofs.Keyed.{one_key}
use Rattle.journal.proofs.Replayed.{IsSilent, silent_replayed, put_silent, merge_silent}
use Rattle.journal.proofs.Unique.{one_replay}
use Rattle.world.specs.Represents.{log_at}
use Rattle.audit_replay.specs.Beginnings.{IsBehind, steps_behind}
use Rattle.audit_replay.specs.declared.kept.Kept.{Kept}
use Rattle.audit_replay.specs.declared.kept.Kept.TheVariants as kept
use Rattle.audit_replay.specs.declared.kept.Recent.{Recent}
use Rattle.audit_replay.specs.Kept.{IsOver, first_was}
use Rattle.audit_replay.specs.Followed.{IsRestart, key_changed, kept_at, IsReadKept, IsAnswer, IsAnswered, HasFollowed}
use Rattle.audit_replay.proofs.Keeping.{drop_next, over_before}

-- ---- entries that leave what was there

read_silent : (stamp : ℕ) (own key : Key) → IsSilent (Read stamp own) key
read_silent stamp own key d = (refl, refl, refl)

restart_silent : (e : Entry) (key : Key) → IsRestart e → IsSilent e key
restart_silent (Restart stamp) key h d = (refl, refl, refl)
restart_silent (Put stamp own seen content dot) key h d = absurd h
restart_silent (Merge stamp own from at state) key h d = absurd h
restart_silent (Read stamp own) key h d = absurd h

elsewhere_silent : (e : Entry) (own key : Key) → key_changed e ≡ Some own → same_key own key ≡ false → IsSilent e key
elsewhere_silent (Put stamp k seen content dot) own key is apart = put_silent stamp k seen content dot key (subst (λ (j : Key). same_key j key ≡ false) (sym (same_Some k own is)) apart)
elsewhere_silent (Merge stamp k from at state) own key is apart = merge_silent stamp k from at state key (subst (λ (j : Key). same_key j key ≡ false) (sym (same_Some k own is)) apart)
elsewhere_silent (Read stamp k) own key is apart = read_silent stamp k key
elsewhere_silent (Restart stamp) own key is apart = restart_silent (Restart stamp) key tt

take_next : (es : List Entry) (p : ℕ) (e : Entry) → slice_get es p ≡ Some e → take (p + 1) es ≡ take p es ++ e ∷ []
take_next es p e at = take_more es p e (slice_get_within es p e at) ∙ ap (λ (x : Entry). take p es ++ x ∷ []) (get_or_from_slice_get es p e e at)

stays : (es : List Entry) (p : ℕ) (e : Entry) (key : Key) (state : State) → slice_get es p ≡ Some e → IsSilent e key → IsReplay (take p es) key state → IsReplay (take (p + 1) es) key state
stays es p e key state at silent replay = subst (λ (xs : List Entry). IsReplay xs key state) (sym (take_next es p e at)) (silent_replayed (take p es) e key state silent replay)

-- ---- the first change

-- by what there is of one entry
one_step : (fronts : List ℕ) (logs : List Log) (index p : ℕ) (key : Key) (state : State) (k : Kept) (rest : List Kept) → IsAnswer fronts logs index p k → IsBehind fronts index p → IsReplay (take p (log_at logs index).entries) key state
    → (IsReplay (take (p + 1) (log_at logs index).entries) key state → MatchOption (first_was rest key) (IsReplay (log_at logs index).entries key state) (λ was. was ≡ state))
    → MatchOption (first_was (k ∷ rest) key) (IsReplay (log_at logs index).entries key state) (λ was. was ≡ state)
one_step fronts logs index p key state kept.GivenUp rest h behind replay more = absurd h
one_step fronts logs index p key state (kept.Read own) rest ((stamp, there), after) behind replay more = more (stays (log_at logs index).entries p (Read stamp own) key state there.1 (read_silent stamp own key) replay)
one_step fronts logs index p key state kept.Other rest (e, there, inl restart) behind replay more = more (stays (log_at logs index).entries p e key state there.1 (restart_silent e key restart) replay)
one_step fronts logs index p key state kept.Other rest (e, there, inr front) behind replay more = absurd (omega (arith, front, behind))
one_step fronts logs index p key state (kept.Was own was) rest ((e, there, changes), before, after) behind replay more = split (same_key own key) refl
  where
    split : (b : Bool) → same_key own key ≡ b → MatchOption (option_or (cond b (Some was) None) (first_was rest key)) (IsReplay (log_at logs index).entries key state) (λ was. was ≡ state)
    split true is = one_replay (take p (log_at logs index).entries) key was state (subst (λ (k : Key). IsReplay (take p (log_at logs index).entries) k was) (one_key own key is) before) replay
    split false is = more (stays (log_at logs index).entries p e key state there.1 (elsewhere_silent e own key changes is) replay)

-- a state that is at a key behind some entries is the one before the first of the others that changes it, or the one that all leave, where none does
walked : (fronts : List ℕ) (logs : List Log) (index : ℕ) (list : List Kept) (key : Key) (state : State) (n p : ℕ) → p + n ≡ length (log_at logs index).entries → length list ≡ length (log_at logs index).entries → IsBehind fronts index p
    → ((q : ℕ) (what : Kept) → p ≤ q → slice_get list q ≡ Some what → IsAnswer fronts logs index q what) → IsReplay (take p (log_at logs index).entries) key state
    → MatchOption (first_was (drop p list) key) (IsReplay (log_at logs index).entries key state) (λ was. was ≡ state)
walked fronts logs index list key state zero p end size behind each replay =
    subst (λ (ks : List Kept). MatchOption (first_was ks key) (IsReplay (log_at logs index).entries key state) (λ was. was ≡ state)) (sym (drop_all p list (omega (arith, end, size))))
    (subst (λ (es : List Entry). IsReplay es key state) (take_all p (log_at logs index).entries (omega (arith, end))) replay)
walked fronts logs index list key state (suc n) p end size behind each replay =
    let k = get_or list p kept.Other in
    let at : slice_get list p ≡ Some k = slice_get-get_or list p kept.Other (omega (arith, end, size)) in
    subst (λ (ks : List Kept). MatchOption (first_was ks key) (IsReplay (log_at logs index).entries key state) (λ was. was ≡ state)) (sym (drop_next list p k at))
    (one_step fronts logs index p key state k (drop (p + 1) list) (each p k (omega arith) at) behind replay
    (λ more. walked fronts logs index list key state n (p + 1) (omega (arith, end)) size (omega (arith, behind)) (λ q what le is. each q what (omega (arith, le)) is) more))

-- ---- what is kept of a read tells what it answered

-- what is kept behind a read that is kept is what there is of the entries there
all_behind : (fronts : List ℕ) (logs : List Log) (last : Option ℕ) (recent : Recent) (answers : List (List Kept)) → HasFollowed fronts logs last recent answers → (index at : ℕ) (key : Key) → index < length logs → kept_at answers index at ≡ Some (kept.Read key)
    → (q : ℕ) (what : Kept) → at ≤ q → slice_get (get_or answers index []) q ≡ Some what → IsAnswer fronts logs index q what
all_behind fronts logs last recent answers run index at key inside there q what le is =
    let all = run.kept.left index inside in
    let not : IsOver recent (drop at all.0) → ⊥ = λ over. (let both : Some kept.GivenUp ≡ Some (kept.Read key) = sym (all.2.gone at over) ∙ there in cc) in
    all.1.each q what (sym (all.2.stays q (λ over. not (over_before recent all.0 at q le over))) ∙ is)

-- the state that the entries before it leave is the one that it answered
pub answered : (fronts : List ℕ) (logs : List Log) (last : Option ℕ) (recent : Recent) (answers : List (List Kept)) → HasFollowed fronts logs last recent answers → (index at : ℕ) (key : Key) (state : State) → index < length logs → kept_at answers index at ≡ Some (kept.Read key)
    → IsReplay (take at (log_at logs index).entries) key state → IsAnswered logs answers index at key state
answered fronts logs last recent answers run index at key state inside there replay =
    let es = (log_at logs index).entries in
    let r : IsReadKept fronts logs (steps_behind fronts run.order) run.messages index at key = run.kept.each index at (kept.Read key) inside there in
    let within : at < length es = slice_get_within es at (Read r.stamp key) r.there.1 in
    walked fronts logs index (get_or answers index []) key state (length es - (at + 1)) (at + 1) (omega (arith, within)) (run.kept.lengths index inside) (let b = r.behind in omega (arith, b))
    (λ q what le is. all_behind fronts logs last recent answers run index at key inside there q what (omega (arith, le)) is) (stays es at (Read r.stamp key) key state r.there.1 (read_silent r.stamp key key) replay)

same_answer : (o : Option State) (es : List Entry) (key : Key) (a b : State) → MatchOption o (IsReplay es key a) (λ was. was ≡ a) → MatchOption o (IsReplay es key b) (λ was. was ≡ b) → a ≡ b
same_answer None es key a b p q = one_replay es key a b p q
same_answer (Some was) es key a b p q = sym p ∙ q

-- and it answered no other
pub one_answer : (fronts : List ℕ) (logs : List Log) (last : Option ℕ) (recent : Recent) (answers : List (List Kept)) (run : HasFollowed fronts logs last recent answers) (index at : ℕ) (key : Key) (state : State) (inside : index < length logs) (there : kept_at answers index at ≡ Some (kept.Read key))
    → (r : IsReadKept fronts logs (steps_behind fronts run.order) run.messages index at key) → IsAnswered logs answers index at key state → r.state ≡ state
one_answer fronts logs last recent answers run index at key state inside there r is =
    same_answer (first_was (drop (at + 1) (get_or answers index [])) key) (log_at logs index).entries key r.state state (answered fronts logs last recent answers run index at key r.state inside there r.answer) is
