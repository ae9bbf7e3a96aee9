-- Whole runs, one event after another.
use Rattle.std.proofs.Common.{◌≡◌, ℕ, zero, suc, ◌+◌, ◌^◌, ◌<◌, ◌≤◌, ◌⊎◌, Bool, true, false, cond, List, [], ◌∷◌, ◌++◌, length, get_or, take, drop, refl, sym, ap, subst, ◌∙◌, inl, inr, arith, Some, length-append}
use Rattle.std.specs.Prelude.{slice_get, Contains, count_by}
use Rattle.std.proofs.lemmas.List.Sums.{sum_by-append}
use Rattle.vnode.specs.declared.steps.Copied.{Copied as Held}
use Rattle.std.proofs.Math.ListN.{get_or-append}
use Rattle.std.proofs.Math.Seq.{get_or-append_seam}
use Rattle.std.proofs.lemmas.Bool.{cases_lt}
use Rattle.std.proofs.lemmas.List.{take_more, take_all, length-map, map-append, get_or_default, append-nil, drop_all}
use Rattle.std.proofs.lemmas.Option.{slice_get_read, slice_get_within, get_or_from_slice_get}
use Rattle.journal.specs.Logs.{Log}
use Rattle.bpf_helpers.specs.declared.sig.Entry.{Entry as Helper}
use Rattle.bpf_verifier.specs.Program.{Program}
use Rattle.key_state.specs.declared.content.Key.{Key}
use Rattle.key_state.specs.Known.{Write}
use Rattle.key_state.specs.State.{State}
use Rattle.world.specs.declared.event.Event.{Event}
use Rattle.world.specs.declared.event.Event.TheVariants.{Put, Get, Summarize, Send, SendPart, Deliver, Restart, Dump, Load, ResolveRead, ResolveWrite}
use Rattle.vnode.specs.declared.fault.VnodeFault.{VnodeFault}
use Rattle.vnode.specs.declared.fault.VnodeFault.TheVariants.{NoMemory, JournalFull}
use Rattle.hook_run.specs.declared.resolving.Resolution.{Resolution}
use Rattle.world.specs.declared.event.Reply.{Reply}
use Rattle.world.specs.declared.event.Reply.TheVariants.{Restarted, Dumped, Found, Stored, Summarized, Sent, SentPart, Changed, Missing, Loaded, Resolved, Nothing as NothingToPut, Refused}
use Rattle.world.specs.declared.event.Seen.{Seen}
use Rattle.world.specs.declared.event.Seen.TheVariants.{Clock as Given, Get as ContextOf}
use Rattle.world.specs.Knowledge.{Knowledge, KeyedWrite, Copy, Left, Nothing, Copied, Parted, CopiedAll, Chosen, Failed, below, start, known_at, left_by, copies_at, id_under, ids_under, IsStateOf}
use Rattle.hook_run.specs.Resolving.{chosen_by}
use Rattle.world.specs.Happening.{Run, Happens, wants_memory, refused_alike, stored, put_refused, found, summarized, sent, part_sent, whole_sent, part_refused, delivered, delivery_refused, missing, restarted, dumped, dump_refused, loaded, full, resolved, choice_stored, choice_refused, nothing_chosen}
use Rattle.world.specs.Represents.{Represents, AreDistinct, empty_logs}
use Rattle.world.specs.Running.{Holds, Remember, Recall, MayReply, MayComeFrom, IsReady, IsReadyContext, IsGetAt, IsMessageAt, IsEarlierContext, IsSentOrRefused, IsMessageOrRefused, ReplyAt, ShowCopies, AreRunnable, AreRunnableFrom, AreNewFrom, IsNewFor, IsNoLoad, Begins, IsRunSoFar, IsKnownSoFar, IsAnswered, found as was_found, copied as was_copied, dumped as was_dumped, kept as was_kept, IsWorldFrom, is_loaded, max_vnodes}
use Rattle.world.specs.Stamped.{AreStamped}
use Rattle.world.specs.Numbering.{WerePut}
use Rattle.world.proofs.Causal.{lawful_causal, known_put}
use Rattle.world.proofs.Lists.{Contains-nil, Contains-cases, Contains-first, Contains-later}
use Rattle.world.proofs.Equal.{equal_states}
use Rattle.world.proofs.LoadRuns.{one_copied, shows_copies}
use Rattle.world.proofs.Renamed.{grows, logs_more, ids_still, new_from, new_at_start, below_len, below_at}
use Rattle.world.proofs.Steps.{opened_represents, shown, state_shown}

-- what stands in a list with one more at its end
pub more_cases : {X : Type 0} (xs : List X) (x y : X) (place : ℕ) → slice_get (xs ++ x ∷ []) place ≡ Some y → ((place < length xs) × (slice_get xs place ≡ Some y)) ⊎ ((place ≡ length xs) × (x ≡ y))
more_cases {X = X} xs x y place h = go (cases_lt place (length xs))
  where
    within : place < length (xs ++ x ∷ [])
    within = slice_get_within (xs ++ x ∷ []) place y h

    value : get_or (xs ++ x ∷ []) place y ≡ y
    value = get_or_from_slice_get (xs ++ x ∷ []) place y y h

    go : (place < length xs) ⊎ (length xs ≤ place) → ((place < length xs) × (slice_get xs place ≡ Some y)) ⊎ ((place ≡ length xs) × (x ≡ y))
    go (inl lt) = inl (lt, slice_get_read xs (length xs) place y refl lt (sym (sym (get_or-append xs (x ∷ []) y place lt) ∙ value)))
    go (inr le) = let is : place ≡ length xs = omega (arith, length-append xs (x ∷ []), within) in
        inr (is, sym (get_or-append_seam xs x [] y) ∙ ap (λ (n : ℕ). get_or (xs ++ x ∷ []) n y) (sym is) ∙ value)

-- one event more
run_more : (listed : List Helper) (old : Knowledge) (events : List Event) (replies : List Reply) (world : Knowledge) (event : Event) (reply : Reply) (new : Knowledge) → Run listed old events replies world → Happens listed world event reply new → Run listed old (events ++ event ∷ []) (replies ++ reply ∷ []) new
run_more listed old [] [] world event reply new run happens = (new, subst (λ (w : Knowledge). Happens listed w event reply new) run happens, refl)
run_more listed old (e ∷ es) (r ∷ rs) world event reply new run happens = (run.0, run.1, run_more listed run.0 es rs world event reply new run.2 happens)
run_more listed old [] (r ∷ rs) world event reply new run happens = absurd run
run_more listed old (e ∷ es) [] world event reply new run happens = absurd run

-- what an event left: its reply holds it, a get left writes of the key that it named, and a run left what it chose
record IsLeft (old : Knowledge) (event : Event) (reply : Reply) (left : Left) : Type 0 where
  pub holds : Holds reply left
  pub key : (vnode : ℕ) (key other : Key) (writes : List Write) → event ≡ Get vnode key → left ≡ Copied other writes → other ≡ key
  pub choice : (get : ℕ) (hook : Program) (resolution : Resolution) → event ≡ ResolveRead get hook → reply ≡ Resolved resolution
      → (key : Key) × (writes : List Write) × (state : State) × (left_by old get ≡ Copied key writes) × IsStateOf writes state × (left ≡ Chosen key writes (chosen_by resolution state.siblings))

-- a refusal
failed_left : (old : Knowledge) (event : Event) (reply : Reply) (refusal : VnodeFault) → reply ≡ Refused refusal → IsLeft old event reply (Failed refusal)
failed_left old event reply refusal r = record {
  holds = subst (λ (x : Reply). Holds x (Failed refusal)) (sym r) refl;
  key = λ v k other writes e l. absurd (cc);
  choice = λ get hook resolution e h. absurd (cc);
}

-- nothing, of an event that is no run
nothing_left : (old : Knowledge) (event : Event) (reply : Reply) → Holds reply Nothing → ((resolution : Resolution) → reply ≡ Resolved resolution → ⊥) → IsLeft old event reply Nothing
nothing_left old event reply holds other = record {
  holds = holds;
  key = λ v k o writes e l. absurd (cc);
  choice = λ get hook resolution e h. absurd (other resolution h);
}

-- what an event leaves
what_left : (listed : List Helper) (old : Knowledge) (event : Event) (reply : Reply) (new : Knowledge) → Happens listed old event reply new → (left : Left) × (new.left ≡ old.left ++ left ∷ []) × IsLeft old event reply left
what_left listed old event reply new (wants_memory may r e) = (Failed NoMemory, ap (λ (w : Knowledge). w.left) e, failed_left old event reply NoMemory r)
what_left listed old event reply new (refused_alike name refusal n l r e) = (Failed refusal, ap (λ (w : Knowledge). w.left) e, failed_left old event reply refusal r)
what_left listed old event reply new (stored v key seen content clock is means may r e) = (Nothing, ap (λ (w : Knowledge). w.left) e, nothing_left old event reply (subst (λ (x : Reply). Holds x Nothing) (sym r) tt) (λ resolution h. absurd (cc)))
what_left listed old event reply new (put_refused v key seen content clock refusal is means why r e) = (Failed refusal, ap (λ (w : Knowledge). w.left) e, failed_left old event reply refusal r)
what_left listed old event reply new (found v key state is shows place r e) = (
  Copied key (known_at old v key),
  ap (λ (w : Knowledge). w.left) e,
  record {
    holds = subst (λ (x : Reply). Holds x (Copied key (known_at old v key))) (sym r) (key, known_at old v key, refl, shows);
    key = λ v' k other writes e' l. let h : Get v key ≡ Get v' k = sym is ∙ e' in cc;
    choice = λ get hook resolution e' h. absurd (let d : Get v key ≡ ResolveRead get hook = sym is ∙ e' in cc);
  },
)
what_left listed old event reply new (summarized v key state is shows place r e) = (
  Copied key (known_at old v key),
  ap (λ (w : Knowledge). w.left) e,
  record {
    holds = subst (λ (x : Reply). Holds x (Copied key (known_at old v key))) (sym r) (key, known_at old v key, refl, (state, shows, refl));
    key = λ v' k other writes e' l. absurd (let d : Summarize v key ≡ Get v' k = sym is ∙ e' in cc);
    choice = λ get hook resolution e' h. absurd (let d : Summarize v key ≡ ResolveRead get hook = sym is ∙ e' in cc);
  },
)
what_left listed old event reply new (sent v key message is carries place r e) = (
  Copied key (known_at old v key),
  ap (λ (w : Knowledge). w.left) e,
  record {
    holds = subst (λ (x : Reply). Holds x (Copied key (known_at old v key))) (sym r) (known_at old v key, ap (λ k. Copied k (known_at old v key)) (sym carries.key_is), carries.state_is);
    key = λ v' k other writes e' l. absurd (let d : Send v key ≡ Get v' k = sym is ∙ e' in cc);
    choice = λ get hook resolution e' h. absurd (let d : Send v key ≡ ResolveRead get hook = sym is ∙ e' in cc);
  },
)
what_left listed old event reply new (part_sent v key summary other held message is l carries place r e) = (
  Parted key (known_at old v key) held,
  ap (λ (w : Knowledge). w.left) e,
  record {
    holds = subst (λ (x : Reply). Holds x (Parted key (known_at old v key) held)) (sym r) (known_at old v key, held, ap (λ k. Parted k (known_at old v key) held) (sym carries.key_is), carries.part_is);
    key = λ v' k o writes e' h. absurd (let d : SendPart v key summary ≡ Get v' k = sym is ∙ e' in cc);
    choice = λ get hook resolution e' h. absurd (let d : SendPart v key summary ≡ ResolveRead get hook = sym is ∙ e' in cc);
  },
)
what_left listed old event reply new (whole_sent v key summary other held message is l carries place r e) = (
  Copied key (known_at old v key),
  ap (λ (w : Knowledge). w.left) e,
  record {
    holds = subst (λ (x : Reply). Holds x (Copied key (known_at old v key))) (sym r) (known_at old v key, ap (λ k. Copied k (known_at old v key)) (sym carries.key_is), carries.state_is);
    key = λ v' k o writes e' h. absurd (let d : SendPart v key summary ≡ Get v' k = sym is ∙ e' in cc);
    choice = λ get hook resolution e' h. absurd (let d : SendPart v key summary ≡ ResolveRead get hook = sym is ∙ e' in cc);
  },
)
what_left listed old event reply new (part_refused v key summary other held is l f r e) = (Failed JournalFull, ap (λ (w : Knowledge). w.left) e, failed_left old event reply JournalFull r)
what_left listed old event reply new (missing message v key writes held is l lacks r e) = (Nothing, ap (λ (w : Knowledge). w.left) e, nothing_left old event reply (subst (λ (x : Reply). Holds x Nothing) (sym r) tt) (λ resolution h. absurd (cc)))
what_left listed old event reply new (delivered message v key writes changed is l may c r e) = (Nothing, ap (λ (w : Knowledge). w.left) e, nothing_left old event reply (subst (λ (x : Reply). Holds x Nothing) (sym r) tt) (λ resolution h. absurd (cc)))
what_left listed old event reply new (delivery_refused message v key writes refusal is l why r e) = (Failed refusal, ap (λ (w : Knowledge). w.left) e, failed_left old event reply refusal r)
what_left listed old event reply new (restarted v is place r e) = (Nothing, ap (λ (w : Knowledge). w.left) e, nothing_left old event reply (subst (λ (x : Reply). Holds x Nothing) (sym r) tt) (λ resolution h. absurd (cc)))
what_left listed old event reply new (dumped v keys copies is known places carries r e) = (
  CopiedAll (copies_at old v keys),
  ap (λ (w : Knowledge). w.left) e,
  record {
    holds = subst (λ (x : Reply). Holds x (CopiedAll (copies_at old v keys))) (sym r) (copies_at old v keys, refl, subst (λ (ks : List Key). ShowCopies (copies_at old v ks) copies.held.items) carries.keys_are (shows_copies old v copies.held.items carries.states_are));
    key = λ v' k other writes e' l. absurd (cc);
    choice = λ get hook resolution e' h. absurd (let d : Dump v ≡ ResolveRead get hook = sym is ∙ e' in cc);
  },
)
what_left listed old event reply new (dump_refused v keys is known many r e) = (Failed JournalFull, ap (λ (w : Knowledge). w.left) e, failed_left old event reply JournalFull r)
what_left listed old event reply new (loaded dump v incarnation copies is l fresh r e) = (Nothing, ap (λ (w : Knowledge). w.left) e, nothing_left old event reply (subst (λ (x : Reply). Holds x Nothing) (sym r) tt) (λ resolution h. absurd (cc)))
what_left listed old event reply new (full v is f r e) = (Failed JournalFull, ap (λ (w : Knowledge). w.left) e, failed_left old event reply JournalFull r)
what_left listed old event reply new (resolved get hook key writes state resolution is l shows res r e) = (
  Chosen key writes (chosen_by resolution state.siblings),
  ap (λ (w : Knowledge). w.left) e,
  record {
    holds = subst (λ (x : Reply). Holds x (Chosen key writes (chosen_by resolution state.siblings))) (sym r) tt;
    key = λ v k other ws e' h. absurd (cc);
    choice = λ get' hook' resolution' e' h.
        let same_get : get ≡ get' = let d : ResolveRead get hook ≡ ResolveRead get' hook' = sym is ∙ e' in cc in
        let same : resolution ≡ resolution' = let d : Resolved resolution ≡ Resolved resolution' = sym r ∙ h in cc in
        (key, writes, state, subst (λ (g : ℕ). left_by old g ≡ Copied key writes) same_get l, shows, ap (λ (x : Resolution). Chosen key writes (chosen_by x state.siblings)) same);
  },
)
what_left listed old event reply new (choice_stored run v key writes content clock is l context may r e) = (Nothing, ap (λ (w : Knowledge). w.left) e, nothing_left old event reply (subst (λ (x : Reply). Holds x Nothing) (sym r) tt) (λ resolution h. absurd (cc)))
what_left listed old event reply new (choice_refused run v key writes content clock refusal is l context why r e) = (Failed refusal, ap (λ (w : Knowledge). w.left) e, failed_left old event reply refusal r)
what_left listed old event reply new (nothing_chosen run v key writes is l r e) = (Nothing, ap (λ (w : Knowledge). w.left) e, nothing_left old event reply (subst (λ (x : Reply). Holds x Nothing) (sym r) tt) (λ resolution h. absurd (cc)))

-- what stands in a list stands there once one more was added
pub still_at : {X : Type 0} (xs : List X) (x y : X) (place : ℕ) → slice_get xs place ≡ Some y → slice_get (xs ++ x ∷ []) place ≡ Some y
still_at xs x y place h =
    let lt : place < length xs = slice_get_within xs place y h in
    slice_get_read (xs ++ x ∷ []) (length (xs ++ x ∷ [])) place y refl (omega (arith, lt, length-append xs (x ∷ []))) (sym (get_or-append xs (x ∷ []) y place lt ∙ get_or_from_slice_get xs place y y h))

-- what an earlier event left is left, and the last one's is what it left
left_before : (old new : Knowledge) (left : Left) (place : ℕ) → new.left ≡ old.left ++ left ∷ [] → place < length old.left → left_by new place ≡ left_by old place
left_before old new left place lefts lt = ap (λ (ls : List Left). get_or ls place Nothing) lefts ∙ get_or-append old.left (left ∷ []) Nothing place lt

left_last : (old new : Knowledge) (left : Left) → new.left ≡ old.left ++ left ∷ [] → left_by new (length old.left) ≡ left
left_last old new left lefts = ap (λ (ls : List Left). get_or ls (length old.left) Nothing) lefts ∙ get_or-append_seam old.left left [] Nothing

-- only a place of the list was copied
copied_within : (ls : List Left) (place : ℕ) (key : Key) (writes : List Write) → get_or ls place Nothing ≡ Copied key writes → place < length ls
copied_within [] place key writes h = absurd (cc)
copied_within (l ∷ ls) zero key writes h = omega arith
copied_within (l ∷ ls) (suc place) key writes h = let lt = copied_within ls place key writes h in omega (arith, lt)

pub remember_more : (listed : List Helper) (replies : List Reply) (old : Knowledge) (event : Event) (reply : Reply) (new : Knowledge) → Remember replies old → Happens listed old event reply new → Remember (replies ++ reply ∷ []) new
remember_more listed replies old event reply new remember happens =
    let h = what_left listed old event reply new happens in
    record {
      len = length-append replies (reply ∷ []) ∙ ap (λ (n : ℕ). n + 1) remember.len ∙ sym (length-append old.left (h.0 ∷ [])) ∙ ap length (sym h.1);
      each = λ place r at. elim (more_cases replies reply r place at) [
        | inl before ↦ subst (Holds r) (sym (left_before old new h.0 place h.1 (let lt = before.0 in let l = remember.len in omega arith))) (remember.each place r before.1)
        | inr last ↦ subst (λ (n : ℕ). Holds r (left_by new n)) (sym (last.0 ∙ remember.len)) (subst (Holds r) (sym (left_last old new h.0 h.1)) (subst (λ (x : Reply). Holds x h.0) last.1 h.2.holds))
      ];
    }

-- what is told of the last event is told of the list
recall_more : (listed : List Helper) (events : List Event) (replies : List Reply) (old : Knowledge) (event : Event) (reply : Reply) (new : Knowledge) → length replies ≡ length events → Remember replies old → Recall events replies old → Happens listed old event reply new → Recall (events ++ event ∷ []) (replies ++ reply ∷ []) new
recall_more listed events replies old event reply new len remember recall happens = record {
  keys = λ place v k other writes at l. elim (more_cases events event (Get v k) place at) [
    | inl before ↦ recall.keys place v k other writes before.1 (sym (earlier place before.0) ∙ l)
    | inr last ↦ h.2.key v k other writes last.1 (sym (here place last.0) ∙ l)
  ];
  chosen = λ place get hook resolution at atr. elim (more_cases events event (ResolveRead get hook) place at) [
    | inl before ↦ elim (more_cases replies reply (Resolved resolution) place atr) [
      | inl was ↦ let c = recall.chosen place get hook resolution before.1 was.1 in (c.0, c.1, c.2, same_copy get c.0 c.1 c.3, c.4, earlier place before.0 ∙ c.5)
      | inr last ↦ absurd (let a = before.0 in let b = last.0 in omega (arith, a, b, len))
    ]
    | inr last ↦ elim (more_cases replies reply (Resolved resolution) place atr) [
      | inl was ↦ absurd (let a = last.0 in let b = was.0 in omega (arith, a, b, len))
      | inr here_too ↦ let c = h.2.choice get hook resolution last.1 here_too.1 in (c.0, c.1, c.2, same_copy get c.0 c.1 c.3, c.4, here place last.0 ∙ c.5)
    ]
  ];
}
  where
    h : (left : Left) × (new.left ≡ old.left ++ left ∷ []) × IsLeft old event reply left
    h = what_left listed old event reply new happens

    left_len : length old.left ≡ length events
    left_len = sym remember.len ∙ len

    earlier : (place : ℕ) → place < length events → left_by new place ≡ left_by old place
    earlier place lt = left_before old new h.0 place h.1 (omega (arith, lt, left_len))

    here : (place : ℕ) → place ≡ length events → left_by new place ≡ h.0
    here place is = ap (left_by new) (is ∙ sym left_len) ∙ left_last old new h.0 h.1

    same_copy : (get : ℕ) (key : Key) (writes : List Write) → left_by old get ≡ Copied key writes → left_by new get ≡ Copied key writes
    same_copy get key writes c = left_before old new h.0 get h.1 (copied_within old.left get key writes c) ∙ c

-- what a named event replied
replied : (n : ℕ) (all : List Event) (count : ℕ) (replies : List Reply) (logs : List Log) (made place : ℕ) (event : Event) → IsRunSoFar n all count replies logs made → slice_get (take count all) place ≡ Some event → ReplyAt replies place (MayReply event)
replied n all count replies logs made place event so_far at =
    let lt : place < length replies = let l = so_far.len in let h = slice_get_within (take count all) place event at in omega arith in
    let r : Reply = get_or replies place Restarted in
    let is : slice_get replies place ≡ Some r = slice_get_read replies (length replies) place (get_or replies place Restarted) refl lt (get_or_default replies place Restarted (get_or replies place Restarted) lt) in
    (get_or replies place Restarted, is, so_far.kinds place event (get_or replies place Restarted) at is)

-- what a send replies is a message, or a refusal
sent_is_message : (reply : Reply) → IsSentOrRefused reply → IsMessageOrRefused reply
sent_is_message (Sent message) h = tt
sent_is_message (Refused refusal) h = tt
sent_is_message (SentPart message) h = tt
sent_is_message (Stored dot) h = absurd h
sent_is_message (Found state) h = absurd h
sent_is_message (Summarized summary) h = absurd h
sent_is_message (Changed changed) h = absurd h
sent_is_message Missing h = absurd h
sent_is_message Restarted h = absurd h
sent_is_message (Dumped copies) h = absurd h
sent_is_message (Loaded count) h = absurd h
sent_is_message (Resolved resolution) h = absurd h
sent_is_message NothingToPut h = absurd h

-- an event that may come is ready
pub is_ready : (used : List ℕ) (n : ℕ) (listed : List Helper) (all : List Event) (count : ℕ) (replies : List Reply) (logs : List Log) (made : ℕ) (event : Event) → n ≤ max_vnodes → IsRunSoFar n all count replies logs made → MayComeFrom used n listed (take count all) event → IsReady (length logs) listed (take count all) replies event
is_ready used n listed all count replies logs made event few so_far come = ready event come
  where
    inside : (v : ℕ) → v < n → v < length logs
    inside v lt = let s = so_far.more in omega (arith, s, lt)

    at_place : (place : ℕ) (event : Event) → slice_get (take count all) place ≡ Some event → ReplyAt replies place (MayReply event)
    at_place place event at = replied n all count replies logs made place event so_far at

    context : (s : Seen) → IsEarlierContext (take count all) s → IsReadyContext replies s
    context (Given clock) h = tt
    context (ContextOf get) h = at_place get (Get h.0 h.1) h.2

    message_at : (place : ℕ) → IsMessageAt (take count all) place → ReplyAt replies place IsMessageOrRefused
    message_at place (inl h) = let r = at_place place (Send h.0 h.1) h.2 in (r.0, r.1, sent_is_message r.0 r.2)
    message_at place (inr h) = at_place place (SendPart h.0 h.1 h.2) h.3

    ready : (event : Event) → MayComeFrom used n listed (take count all) event → IsReady (length logs) listed (take count all) replies event
    ready (Put v key seen content) come = (inside v come.0, context seen come.1)
    ready (Get v key) come = inside v come
    ready (Send v key) come = inside v come
    ready (Summarize v key) come = inside v come
    ready (SendPart v key summary) come = (inside v come.0, let h = come.1 in at_place summary (Summarize h.0 h.1) h.2)
    ready (Deliver message v) come = (inside v come.0, message_at message come.1)
    ready (Restart v) come = inside v come
    ready (Dump v) come = inside v come
    ready (Load dump v incarnation) come = (inside v come.0, (let lt = come.0 in omega (arith, lt, few)), let h = come.1 in at_place dump (Dump h.0) h.1)
    ready (ResolveRead get hook) come = (let h = come.0 in at_place get (Get h.0 h.1) h.2, come.1)
    ready (ResolveWrite run v) come = (
      inside v come.0,
      record {
        event = come.1;
        reply = let h = come.1 in at_place run (ResolveRead h.0 h.1) h.2;
        asked = λ get hook at. so_far.named run get hook at;
        answered = λ get hook at. let g = so_far.named run get hook at in at_place get (Get g.0 g.1) g.2;
      },
    )

-- a run that may come names an earlier get
names_get : (used : List ℕ) (n : ℕ) (listed : List Helper) (events : List Event) (event : Event) → MayComeFrom used n listed events event → (get : ℕ) (hook : Program) → event ≡ ResolveRead get hook → IsGetAt events get
names_get used n listed events event come get hook is = let c : MayComeFrom used n listed events (ResolveRead get hook) = subst (MayComeFrom used n listed events) is come in c.0

-- the events up to and with one
pub one_more_event : (events : List Event) (place : ℕ) (event : Event) → place < length events → event ≡ get_or events place event → take (place + 1) events ≡ take place events ++ event ∷ []
one_more_event events place event lt is = take_more events place event lt ∙ ap (λ (e : Event). take place events ++ e ∷ []) (sym is)

-- a load that is next is of a new identifier
new_for : (known : Knowledge) (all : List Event) (count : ℕ) (event : Event) → AreNewFrom known all count → slice_get all count ≡ Some event → IsNewFor known event
new_for known all count (Put v key seen content) fresh at = tt
new_for known all count (Get v key) fresh at = tt
new_for known all count (Summarize v key) fresh at = tt
new_for known all count (Send v key) fresh at = tt
new_for known all count (SendPart v key summary) fresh at = tt
new_for known all count (Deliver message v) fresh at = tt
new_for known all count (Restart v) fresh at = tt
new_for known all count (Dump v) fresh at = tt
new_for known all count (Load dump v incarnation) fresh at = fresh count dump v incarnation (omega arith) at
new_for known all count (ResolveRead get hook) fresh at = tt
new_for known all count (ResolveWrite run v) fresh at = tt

-- a load counts
counted_more : (replies : List Reply) (reply : Reply) → count_by is_loaded (replies ++ reply ∷ []) ≡ count_by is_loaded replies + cond (is_loaded reply) 1 0
counted_more replies reply = sum_by-append (λ (r : Reply). cond (is_loaded r) 1 0) replies (reply ∷ []) ∙ ap (λ (k : ℕ). count_by is_loaded replies + k) (one_of (is_loaded reply))
  where
    one_of : (b : Bool) → 0 + cond b 1 0 ≡ cond b 1 0
    one_of true = refl
    one_of false = refl

-- what one event more leads to
abbrev pub LeadsOn : List Helper → List Event → List Reply → List Log → List Log → Event → Reply → Type 0
LeadsOn listed events replies logs new event reply = (old : Knowledge) → Represents logs old → length old.ids ≡ length logs → Remember replies old → Recall events replies old → IsNewFor old event → (after : Knowledge) × Happens listed old event reply after × Represents new after

-- one event more was run
pub runs_on : (used : List ℕ) (n : ℕ) (listed : List Helper) (all : List Event) (count : ℕ) (replies : List Reply) (logs new : List Log) (made more : ℕ) (event : Event) (reply : Reply) → AreRunnableFrom used n listed all → count < length all → event ≡ get_or all count event → IsRunSoFar n all count replies logs made
    → length logs ≤ length new → (AreStamped logs made → AreStamped new more) → (more ≤ made + 1) ⊎ (more ≤ 2 ^ 63) → MayReply event reply → IsRunSoFar n all (count + 1) (replies ++ reply ∷ []) new more
runs_on used n listed all count replies logs new made more event reply runnable lt is so_far vnodes stamps made_few kind =
    let longer : take (count + 1) all ≡ take count all ++ event ∷ [] = one_more_event all count event lt is in
    record {
      len = length-append replies (reply ∷ []) ∙ ap (λ (k : ℕ). k + 1) so_far.len ∙ sym (length-append (take count all) (event ∷ [])) ∙ ap length (sym longer);
      more = let m = so_far.more in omega (arith, m, vnodes);
      stamped = stamps so_far.stamped;
      few = let f = so_far.few in let l = length-append replies (reply ∷ []) in elim made_few [ inl one ↦ omega (arith, f, one, l) | inr many ↦ omega (arith, many) ];
      named = λ place get hook at. subst (λ (es : List Event). IsGetAt es get) (sym longer) (elim (more_cases (take count all) event (ResolveRead get hook) place (subst (λ (es : List Event). slice_get es place ≡ Some (ResolveRead get hook)) longer at)) [
        | inl before ↦ still get (so_far.named place get hook before.1)
        | inr last ↦ still get (names_get used n listed (take count all) event (runnable count event (slice_get_read all (length all) count event refl lt is)) get hook last.1)
      ]);
      kinds = λ place e r ate atr. elim (more_cases (take count all) event e place (subst (λ (es : List Event). slice_get es place ≡ Some e) longer ate)) [
        | inl before ↦ elim (more_cases replies reply r place atr) [
          | inl earlier ↦ so_far.kinds place e r before.1 earlier.1
          | inr last ↦ absurd (let l = so_far.len in let a = before.0 in let b = last.0 in omega arith)
        ]
        | inr last ↦ elim (more_cases replies reply r place atr) [
          | inl earlier ↦ absurd (let l = so_far.len in let a = last.0 in let b = earlier.0 in omega arith)
          | inr there ↦ subst (λ (x : Event). MayReply x r) last.1 (subst (MayReply event) there.1 kind)
        ]
      ];
    }
  where
    still : (get : ℕ) → IsGetAt (take count all) get → IsGetAt (take count all ++ event ∷ []) get
    still get at = (at.0, at.1, still_at (take count all) event (Get at.0 at.1) get at.2)

-- what is known after one event more
pub knows_on : (begin : Knowledge) (used : List ℕ) (n : ℕ) (listed : List Helper) (all : List Event) (count : ℕ) (replies : List Reply) (logs new : List Log) (event : Event) (reply : Reply) → n ≤ 65536 → AreRunnableFrom used n listed all → count < length all → event ≡ get_or all count event → length replies ≡ length (take count all)
    → LeadsOn listed (take count all) replies logs new event reply → IsKnownSoFar begin n listed all count replies logs → IsKnownSoFar begin n listed all (count + 1) (replies ++ reply ∷ []) new
knows_on begin used n listed all count replies logs new event reply few runnable lt is len step so_far =
    let here : slice_get all count ≡ Some event = slice_get_read all (length all) count event refl lt is in
    let h = step so_far.known so_far.represents so_far.ids so_far.remember so_far.recall (new_for so_far.known all count event so_far.fresh here) in
    let g = grows listed so_far.known event reply h.0 h.1 in
    let longer : take (count + 1) all ≡ take count all ++ event ∷ [] = one_more_event all count event lt is in
    record {
      known = h.0;
      run = subst (λ (es : List Event). Run listed begin es (replies ++ reply ∷ []) h.0) (sym longer) (run_more listed begin (take count all) replies so_far.known event reply h.0 so_far.run h.1);
      size = let s = so_far.size in let m = logs_more logs new so_far.known event reply h.0 so_far.represents h.2 g in let c = counted_more replies reply in omega (arith, s, m, c);
      represents = h.2;
      ids = ids_still logs new so_far.known event reply h.0 so_far.represents h.2 g so_far.ids;
      fresh = new_from used n listed all count so_far.known event reply h.0 runnable few here (let s = so_far.size in let i = so_far.ids in omega (arith, s, i)) g so_far.fresh;
      remember = remember_more listed replies so_far.known event reply h.0 so_far.remember h.1;
      recall = subst (λ (es : List Event). Recall es (replies ++ reply ∷ []) h.0) (sym longer) (recall_more listed (take count all) replies so_far.known event reply h.0 len so_far.remember so_far.recall h.1);
    }

-- a slice that came back whole
pub whole_back : (new items : List Log) (n : ℕ) → length new ≡ length items → n ≡ length items → take n (new ++ drop (length new) items) ≡ new
whole_back new items n same len = ap (λ (xs : List Log). take n (new ++ xs)) (drop_all (length new) items (omega arith)) ∙ ap (take n) (append-nil new) ∙ take_all n new (omega arith)

-- an event that is another than a load
pub no_load : (event : Event) → ((dump vnode incarnation : ℕ) → event ≡ Load dump vnode incarnation → ⊥) → IsNoLoad event
no_load (Put v key seen content) other = tt
no_load (Get v key) other = tt
no_load (Summarize v key) other = tt
no_load (Send v key) other = tt
no_load (SendPart v key summary) other = tt
no_load (Deliver message v) other = tt
no_load (Restart v) other = tt
no_load (Dump v) other = tt
no_load (Load dump v incarnation) other = other dump v incarnation refl
no_load (ResolveRead get hook) other = tt
no_load (ResolveWrite run v) other = tt

-- nothing was run
pub nothing_run : (n : ℕ) (all : List Event) (logs : List Log) (made : ℕ) → n ≤ length logs → AreStamped logs made → made ≤ 2 ^ 63 → IsRunSoFar n all 0 [] logs made
nothing_run n all logs made more stamped few = record {
  len = refl;
  more = more;
  stamped = stamped;
  few = omega (arith, few);
  named = λ place get hook at. absurd (let h = slice_get_within [] place (ResolveRead get hook) at in omega arith);
  kinds = λ place e r ate atr. absurd (let h = slice_get_within [] place e ate in omega arith);
}

pub nothing_known : (listed : List Helper) (all : List Event) (logs : List Log) (begin : Knowledge) → Begins logs all begin → IsKnownSoFar begin (length logs) listed all 0 [] logs
nothing_known listed all logs begin h = record {
  known = begin;
  run = refl;
  size = omega arith;
  represents = h.represents;
  ids = h.ids;
  fresh = h.fresh;
  remember = record { len = sym (ap length h.nothing); each = λ place reply at. absurd (let h = slice_get_within [] place reply at in omega arith) };
  recall = record {
    keys = λ place v k other writes at l. absurd (let h = slice_get_within [] place (Get v k) at in omega arith);
    chosen = λ place get hook resolution at atr. absurd (let h = slice_get_within [] place (ResolveRead get hook) at in omega arith);
  };
}

-- vnodes at which nothing has happened
pub start_begins : (n : ℕ) (listed : List Helper) (all : List Event) → n ≤ 65536 → AreRunnable n listed all → Begins (empty_logs (below n)) all (start n)
start_begins n listed all few runnable = record {
  represents = opened_represents (below n) distinct;
  ids = sym (length-map (below n) (λ (id : ℕ). let l : Log = record { vnode = id; entries = [] } in l));
  nothing = refl;
  fresh = new_at_start n listed all runnable few;
}
  where
    distinct : AreDistinct (below n)
    distinct u v lu lv e = let l = below_len n in sym (below_at n u (omega (arith, lu))) ∙ e ∙ below_at n v (omega (arith, lv))

-- an index is its own identifier under incarnation 0
pub ids_are_below : (n : ℕ) → ids_under 0 n ≡ below n
ids_are_below zero = refl
ids_are_below (suc n) = map-append (id_under 0) (below n) (n ∷ []) ∙ ap (λ (is : List ℕ). is ++ id_under 0 n ∷ []) (ids_are_below n) ∙ ap (λ (k : ℕ). below n ++ k ∷ []) (let e : id_under 0 n ≡ n = omega arith in e)

-- a copy that was held is of one that was left
copy_of : (all : List Copy) (held : List Held) (one : Held) → ShowCopies all held → Contains held one → (c : Copy) × Contains all c × (one.key ≡ c.key) × IsStateOf c.writes one.state
copy_of [] [] one h at = absurd (Contains-nil one at)
copy_of (c ∷ all) (first ∷ held) one h at = elim (Contains-cases first held one at) [
  | inl is ↦ (c, Contains-first c all, subst (λ (x : Held). x.key ≡ c.key) is h.0.0, subst (λ (x : Held). IsStateOf c.writes x.state) is h.0.1)
  | inr more ↦ let r = copy_of all held one h.1 more in (r.0, Contains-later c all r.0 r.1, r.2, r.3)
]
copy_of [] (first ∷ held) one h at = absurd h
copy_of (c ∷ all) [] one h at = absurd h

-- what was answered for a key was put under it
answered : (events : List Event) (known : Knowledge) (replies : List Reply) (logs : List Log) → Represents logs known → Remember replies known → Recall events replies known → (key : Key) (state : State) → IsAnswered events (record { logs = logs; replies = replies }) key state
    → (writes : List Write) × WerePut known key writes × IsStateOf writes state
answered events known replies logs rep remember recall key state (was_found place v at reply) =
    let h : Holds (Found state) (left_by known place) = remember.each place (Found state) reply in
    (h.1, rep.lawful.copied place key h.1 (h.2 ∙ ap (λ (k : Key). Copied k h.1) (recall.keys place v key h.0 h.1 at h.2)), h.3)
answered events known replies logs rep remember recall key state (was_copied place message reply is_key is_state) =
    let h : Holds (Sent message) (left_by known place) = remember.each place (Sent message) reply in
    (h.0, rep.lawful.copied place key h.0 (h.1 ∙ ap (λ (k : Key). Copied k h.0) is_key), subst (IsStateOf h.0) is_state h.2)
answered events known replies logs rep remember recall key state (was_dumped place copies one reply here is_key is_state) =
    let h : Holds (Dumped copies) (left_by known place) = remember.each place (Dumped copies) reply in
    let c = copy_of h.0 copies.held.items one h.2 here in (
      c.0.writes,
      λ w its. subst (λ (k : Key). Contains known.puts (let s : KeyedWrite = record { key = k; write = w } in s)) (sym c.2 ∙ is_key) (rep.lawful.copied_all place h.0 h.1 (record { key = c.0.key; write = w }) (one_copied h.0 c.0 w c.1 its)),
      subst (IsStateOf c.0.writes) is_state c.3,
    )
answered events known replies logs rep remember recall key state (was_kept v lt replay) =
    (known_at known v key, known_put known v key rep.lawful, state_shown logs known v key state rep lt replay)

-- a whole run is a world
pub world_of : (begin : Knowledge) (n : ℕ) (listed : List Helper) (all : List Event) (count : ℕ) (replies : List Reply) (logs : List Log) (made : ℕ) → take count all ≡ all → AreStamped logs made → IsKnownSoFar begin n listed all count replies logs → IsWorldFrom begin n listed all (record { logs = logs; replies = replies })
world_of begin n listed all count replies logs made whole stamped so_far = record {
  known = so_far.known;
  run = subst (λ (es : List Event). Run listed begin es replies so_far.known) whole so_far.run;
  size = so_far.size;
  represents = so_far.represents;
  stamped = subst (AreStamped logs) (sym stamped.count) stamped;
  siblings = λ v key lt. shown logs so_far.known v key so_far.represents lt;
  states = λ v key state lt replay. state_shown logs so_far.known v key state so_far.represents lt replay;
  causal = lawful_causal so_far.known so_far.represents.lawful;
  told = λ key a b mine theirs.
      let recall : Recall all replies so_far.known = subst (λ (es : List Event). Recall es replies so_far.known) whole so_far.recall in
      let m = answered all so_far.known replies logs so_far.represents so_far.remember recall key a mine in
      let t = answered all so_far.known replies logs so_far.represents so_far.remember recall key b theirs in
      equal_states so_far.known key m.0 t.0 a b so_far.represents.lawful m.1 t.1 m.2 t.2;
}
