-- The calls of passes as steps of the run.
use Rattle.std.proofs.Common.{◌≡◌, ◌↔◌, ◌⊎◌, inl, inr, ℕ, zero, suc, ◌<◌, ◌≤◌, List, [], ◌∷◌, ◌++◌, length, get_or, take, refl, sym, ap, subst, ◌∙◌, arith, Some, Ok, Err}
use Rattle.std.specs.Prelude.{slice_get, Contains}
use Rattle.std.proofs.Math.Seq.{take-append_seam}
use Rattle.dvv.specs.declared.Dot.{Dot}
use Rattle.key_state.specs.declared.content.Content.{Content}
use Rattle.key_state.specs.declared.content.Key.{Key}
use Rattle.key_state.specs.State.{State}
use Rattle.journal.specs.Entry.{Entry, Put}
use Rattle.journal.specs.Logs.{Log}
use Rattle.journal.specs.Replay.{IsReplay}
use Rattle.journal.specs.Stamps.{stamp_of}
use Rattle.cluster_stamps.specs.Rule.{StampsRise}
use Rattle.cluster_stamps.specs.declared.view.News.{News}
use Rattle.cluster_stamps.specs.declared.view.News.TheVariants as news
use Rattle.cluster_stamps.specs.declared.view.Told.{Told}
use Rattle.cluster_vnode.specs.Answers.{IsSaid, entries_made, entry_of_call, log_of}
use Rattle.cluster_vnode.specs.Gathers.{Stands}
use Rattle.cluster_vnode.proofs.Counts.{stamp_entry}
use Rattle.world.specs.Knowledge.{Knowledge, IsStateOf, known_at, next_dot}
use Rattle.world.specs.Represents.{log_at}
use Rattle.audit_replay.specs.Beginnings.{IsBehind, steps_behind}
use Rattle.audit_replay.specs.Interleaved.{IsInterleavingFrom, known_before}
use Rattle.audit_replay.specs.Order.{Step}
use Rattle.audit_replay.specs.Turns.{EntryIn}
use Rattle.audit_cluster.specs.Moments.{HappenFrom, IsCallBehind, IsCallOf, IsKnownOf, a_step, all_happened, no_entry}

-- what a list has is at its place, whatever is told of others
place_of : (logs : List Log) (k : ℕ) (v : Log) → k < length logs → get_or logs k v ≡ v → log_at logs k ≡ v
place_of [] k v lt is = absurd (omega arith)
place_of (u ∷ us) zero v lt is = is
place_of (u ∷ us) (suc k) v lt is = place_of us k v (omega arith) is

pub behind_front : (front : List Entry) (e : Entry) (rest : List Entry) (n : ℕ) → length front ≡ n → slice_get (front ++ e ∷ rest) n ≡ Some e
behind_front [] e rest zero is = refl
behind_front [] e rest (suc n) is = absurd (omega arith)
behind_front (x ∷ front) e rest zero is = absurd (omega arith)
behind_front (x ∷ front) e rest (suc n) is = behind_front front e rest n (omega arith)

-- a call makes an entry, or none
one_or_none : (stamp : ℕ) (n : News) → (entries_made stamp n ≡ []) ⊎ ((e : Entry) × (entries_made stamp n ≡ e ∷ []))
one_or_none stamp (news.Call asked (Ok told)) = inr (_, refl)
one_or_none stamp (news.Call asked (Err why)) = inl refl
one_or_none stamp (news.HandOut first entries) = inl refl

first_is : (a b : Entry) → a ∷ [] ≡ b ∷ [] → a ≡ b
first_is a b is = ap (λ (l : List Entry). get_or l 0 a) is

-- an entry has the stamp of its call
pub stamp_is : (stamp : ℕ) (n : News) (e : Entry) → entries_made stamp n ≡ e ∷ [] → stamp_of e ≡ stamp
stamp_is stamp (news.Call asked (Ok told)) e is = ap stamp_of (sym (first_is _ e is)) ∙ stamp_entry stamp asked told
stamp_is stamp (news.Call asked (Err why)) e is = absurd cc
stamp_is stamp (news.HandOut first entries) e is = absurd cc

module _ {begin : Knowledge} {fronts : List ℕ} {logs : List Log} (run : IsInterleavingFrom begin fronts logs)
    (steps : (index place : ℕ) (e : Entry) → EntryIn logs index place e → IsBehind fronts index place → (number : ℕ) × (slice_get (steps_behind fronts run.order) number ≡ Some (let s : Step = record { vnode = index; place = place; entry = e } in s)))
    (known : (number : ℕ) (step : Step) (key : Key) (state : State) → slice_get (steps_behind fronts run.order) number ≡ Some step → IsReplay (take step.place (log_at logs step.vnode).entries) key state → IsStateOf (known_at (known_before run.happened number) step.vnode key) state)
    (dots : (number : ℕ) (step : Step) (stamp : ℕ) (key : Key) (seen : List Dot) (content : Content) (dot : Dot) → slice_get (steps_behind fronts run.order) number ≡ Some step → step.entry ≡ Put stamp key seen content dot → dot ≡ next_dot (known_before run.happened number) step.vnode key)
    (ordered : (m n : ℕ) (s t : Step) → slice_get (steps_behind fronts run.order) m ≡ Some s → slice_get (steps_behind fronts run.order) n ≡ Some t → (m < n) ↔ (stamp_of s.entry < stamp_of t.entry)) where
  -- of two calls the later has the greater stamp
  pub order : (m n : ℕ) (t u : Told) → IsCallOf run m t → IsCallOf run n u → (m < n) ↔ (t.stamp < u.stamp)
  order m n t u first second =
      let s = first.is_step in
      let r = second.is_step in
      let is_s : stamp_of s.step.entry ≡ t.stamp = stamp_is t.stamp t.news s.step.entry s.entry in
      let is_r : stamp_of r.step.entry ≡ u.stamp = stamp_is u.stamp u.news r.step.entry r.entry in
      let both = ordered m n s.step r.step s.there r.there in
      ((λ lt. let less = both.0 lt in omega (arith, less, is_s, is_r)), (λ less. both.1 (omega (arith, less, is_s, is_r))))

  -- what was told behind a front is known before the step
  are_known : (number stamp : ℕ) (front : List Entry) (vnode : ℕ) (step : Step) → slice_get (steps_behind fronts run.order) number ≡ Some step → take step.place (log_at logs step.vnode).entries ≡ front
      → (n : News) → entries_made stamp n ≡ step.entry ∷ [] → IsSaid (log_of vnode front) stamp n → IsKnownOf (known_before run.happened number) step.vnode n
  are_known number stamp front vnode step at before n made said = record {
    state = λ key state is. known number step key state at (subst (λ (es : List Entry). IsReplay es key state) (sym before) (subst (λ (m : News). IsSaid (log_of vnode front) stamp m) is said).1);
    summary = λ key summary is.
        (let told = (subst (λ (m : News). IsSaid (log_of vnode front) stamp m) is said).1 in
        (told.0, known number step key told.0 at (subst (λ (es : List Entry). IsReplay es key told.0) (sym before) told.1), told.2));
    dot = λ key seen content dot is. dots number step stamp key seen content dot at (first_is step.entry (Put stamp key seen content dot) (sym made ∙ ap (λ (m : News). entries_made stamp m) is));
  }

  -- a call that made an entry is a step
  call_is : (t : Told) → Stands logs t → IsCallBehind fronts logs t → (e : Entry) → entry_of_call t ≡ e ∷ [] → (number : ℕ) × IsCallOf run number t
  call_is t (v, has, id, (front, rest, parts, long, said)) behind e made =
      let here : log_at logs has.0 ≡ v = place_of logs has.0 v has.1 has.2 in
      let entries : (log_at logs has.0).entries ≡ front ++ (e ∷ rest) = ap (λ (l : Log). l.entries) here ∙ parts ∙ ap (λ (es : List Entry). front ++ (es ++ rest)) made in
      let there : EntryIn logs has.0 t.at e = (has.1, ap (λ (es : List Entry). slice_get es t.at) entries ∙ behind_front front e rest t.at long) in
      let vnode : (log_at logs has.0).vnode ≡ t.vnode = ap (λ (l : Log). l.vnode) here ∙ id in
      let found = steps has.0 t.at e there (behind e made has.0 has.1 vnode) in
      let before : take t.at (log_at logs has.0).entries ≡ front = ap (λ (es : List Entry). take t.at es) entries ∙ ap (λ (k : ℕ). take k (front ++ (e ∷ rest))) (sym long) ∙ take-append_seam front (e ∷ rest) in (
        found.0,
        record {
          is_step = record { step = record { vnode = has.0; place = t.at; entry = e }; there = found.1; vnode = vnode; place = refl; entry = made };
          is_known = are_known found.0 t.stamp front t.vnode (record { vnode = has.0; place = t.at; entry = e }) found.1 before t.news made said;
        },
      )

  -- the later ones rise too
  rest_rise : (t : Told) (ts : List Told) → StampsRise (t ∷ ts) → StampsRise ts
  rest_rise t ts rise i j d before lt = rise (suc i) (suc j) d (omega arith) (omega arith)

  -- the first is below them
  first_below : (t : Told) (ts : List Told) → StampsRise (t ∷ ts) → (u : Told) → Contains ts u → t.stamp < u.stamp
  first_below t ts rise u c = (let less = rise 0 (suc c.0) u (omega arith) (let lt = c.1 in omega arith) in let is = ap (λ (x : Told). x.stamp) c.2 in omega (arith, less, is))

  has_later : (t : Told) (ts : List Told) (u : Told) → Contains ts u → Contains (t ∷ ts) u
  has_later t ts u c = (suc c.0, (let lt = c.1 in omega arith), c.2)

  happen : (low : ℕ) (ts : List Told) → StampsRise ts → ((t : Told) → Contains ts t → Stands logs t) → ((t : Told) → Contains ts t → IsCallBehind fronts logs t)
      → ((number : ℕ) (t : Told) → Contains ts t → IsCallOf run number t → low ≤ number) → HappenFrom run low ts
  happen low [] rise stand behind bound = all_happened low
  happen low (t ∷ ts) rise stand behind bound = elim (one_or_none t.stamp t.news) [
    | inl none ↦ no_entry low t ts none (happen low ts (rest_rise t ts rise) (λ u c. stand u (has_later t ts u c)) (λ u c. behind u (has_later t ts u c)) (λ n u c. bound n u (has_later t ts u c)))
    | inr one ↦
        (let first : Contains (t ∷ ts) t = (0, omega arith, refl) in
        let call = call_is t (stand t first) (behind t first) one.0 one.1 in
        a_step low call.0 t ts (bound call.0 t first call.1) call.1
        (happen (suc call.0) ts (rest_rise t ts rise) (λ u c. stand u (has_later t ts u c)) (λ u c. behind u (has_later t ts u c))
        (λ n u c is. let lt : call.0 < n = (order call.0 n t u call.1 is).1 (first_below t ts rise u c) in omega (arith, lt))))
  ]

  pub calls : (ts : List Told) → StampsRise ts → ((t : Told) → Contains ts t → Stands logs t) → ((t : Told) → Contains ts t → IsCallBehind fronts logs t) → HappenFrom run 0 ts
  calls ts rise stand behind = happen 0 ts rise stand behind (λ n t c is. omega arith)
