-- Runs of the code, event by event.
use Rattle.std.proofs.Common.{◌≡◌, ℕ, ◌+◌, ◌<◌, ◌≤◌, ◌⊎◌, Bool, true, false, List, [], ◌∷◌, ◌++◌, length, get_or, refl, sym, ap, subst, ◌∙◌, inl, inr, Some, add-one}
use Rattle.std.specs.Prelude.{slice_get, MatchBool, ◌↔◌}
use Rattle.std.proofs.lemmas.List.{map-append}
use Rattle.std.proofs.lemmas.Option.{slice_get_read, slice_get_within}
use Rattle.dvv.specs.declared.Dot.{Dot}
use Rattle.key_state.specs.declared.content.Key.{Key}
use Rattle.key_state.specs.Known.{Write}
use Rattle.key_state.specs.State.{State, kept, next}
use Rattle.key_state.specs.Parts.{Summarized as Summary, summary_of, part_of, whole_of}
use Rattle.journal.specs.Logs.{Log, max_entries}
use Rattle.key_state.specs.declared.content.Content.{Content}
use Rattle.journal.specs.Entry.{Entry}
use Rattle.journal.specs.Entry as entry
use Rattle.journal.specs.Answers.{TellsChange}
use Rattle.journal.specs.Journals.{MayFollow}
use Rattle.journal.specs.Replay.{IsReplay, Leaves}
use Rattle.vnode.specs.Refusals.{RefusesPutAt as StateRefusesPut, RefusesMergeAt as StateRefusesMerge, RefusesPut as RefusesPutAt, RefusesMerge as RefusesMergeAt, RefusesEntry as RefusesEntryAt}
use Rattle.vnode.specs.declared.fault.PartFault.TheVariants as part_fault
use Rattle.vnode.specs.Parts.{RefusesPart}
use Rattle.world.specs.Appending.{Appends, IsCopyOf, without, MergesPart}
use Rattle.world.proofs.Steps.{put_step, copy_step, part_step, restart_step, refusal_step, run_step, nothing_step, delivery_step, state_shown, state_next_is, may_deliver, were_put}
use Rattle.std.proofs.lemmas.Bool.{cases_lt}
use Rattle.dvv.specs.Clock.{HasRoom, Within, vnodes_together}
use Rattle.journal.specs.Limits.{TakesDot}
use Rattle.bpf_helpers.specs.declared.sig.Entry.{Entry as Helper}
use Rattle.bpf_verifier.specs.Program.{Program}
use Rattle.std.specs.Prelude.{None}
use Rattle.world.specs.declared.event.Event.{Event}
use Rattle.world.specs.declared.event.Event.TheVariants.{Put, Get, Summarize, Send, SendPart, Deliver, Restart, Dump, Load, ResolveRead, ResolveWrite}
use Rattle.vnode.specs.declared.fault.VnodeFault.TheVariants.{ContextAhead, TooManySiblings, ClockFull, MergedClockFull, JournalFull, NoMemory}
use Rattle.world.specs.declared.event.Message.{Message}
use Rattle.world.specs.declared.event.PartMessage.{PartMessage}
use Rattle.vnode.specs.declared.fault.VnodeFault.{VnodeFault}
use Rattle.world.specs.declared.event.Seen.{Seen}
use Rattle.world.specs.declared.event.Seen.TheVariants.{Clock as Given, Get as ContextOf}
use Rattle.hook_run.specs.declared.resolving.Resolution.{Resolution}
use Rattle.world.specs.declared.event.Reply.{Reply}
use Rattle.world.specs.declared.event.Reply.TheVariants.{Stored, Found, Summarized, Sent, SentPart, Changed, Missing, Restarted, Resolved, Nothing, Refused}
use Rattle.world.specs.Knowledge.{Knowledge, Copied, Chosen, Failed, below, left_by, known_at, id_of, next_dot, write_of, after_refusal, after_put, after_copy, after_part, after_delivery, after_restart, after_run, after_nothing, IsStateOf, id_under, ids_under}
use Rattle.hook_run.specs.Resolving.{IsResolution, chosen_by}
use Rattle.world.proofs.Equal.{one_state}
use Rattle.world.proofs.Parted.{lacks_there, holds_there, stands_for}
use Rattle.world.specs.Happening.{Means, Happens, wants_memory, refused_alike, stored, put_refused, found, summarized, sent, part_sent, whole_sent, part_refused, whole, part, delivered, delivery_refused, missing, restarted, full, resolved, choice_stored, choice_refused, nothing_chosen, RefusesPut, RefusesDelivery, IsAt, IsKnown, CountTogether, HasPlace, MayPut, MayDeliver, MayHappen}
use Rattle.world.specs.Represents.{Represents, log_at, empty_logs}
use Rattle.world.specs.Running.{Remember, Holds, Recall, ReplyAt, IsFoundOrRefused, IsRefusedContext, IsMessageOf, IsPartMessageOf, IsMessageOrRefused, IsChoiceOf}

-- one vnode more
pub opened_more : (incarnation n : ℕ) → empty_logs (ids_under incarnation (n + 1)) ≡ empty_logs (ids_under incarnation n) ++ record { vnode = id_under incarnation n; entries = [] } ∷ []
opened_more incarnation n =
    ap (λ (k : ℕ). empty_logs (ids_under incarnation k)) (add-one n) ∙ ap empty_logs (map-append (id_under incarnation) (below n) (n ∷ []))
    ∙ map-append (λ (id : ℕ). let l : Log = record { vnode = id; entries = [] } in l) (ids_under incarnation n) (id_under incarnation n ∷ [])

-- what stands at a place is read there
pub read_at : {X : Type 0} (xs : List X) (place : ℕ) (x y : X) → slice_get xs place ≡ Some y → x ≡ get_or xs place x → slice_get xs place ≡ Some x
read_at xs place x y there is = slice_get_read xs (length xs) place x refl (slice_get_within xs place y there) is

-- a get's reply holds the context of what it copied
pub found_means : (replies : List Reply) (old : Knowledge) (get : ℕ) (r : Reply) (state : State) → Remember replies old → ReplyAt replies get IsFoundOrRefused → r ≡ get_or replies get r → r ≡ Found state → Means old (ContextOf get) state.clock
found_means replies old get r state remember at is is_found =
    let h : Holds (Found state) (left_by old get) = subst (λ (x : Reply). Holds x (left_by old get)) is_found (remember.each get r (read_at replies get r at.0 at.1 is)) in
    (h.0, h.1, h.2, (h.3.clock, h.3.shows.clock))

-- a refused event's reply holds its refusal
pub refusal_held : (replies : List Reply) (old : Knowledge) (place : ℕ) (r : Reply) (refusal : VnodeFault) (P : Reply → Type 0) → Remember replies old → ReplyAt replies place P → r ≡ get_or replies place r → r ≡ Refused refusal → left_by old place ≡ Failed refusal
refusal_held replies old place r refusal P remember at is refused = subst (λ (x : Reply). Holds x (left_by old place)) refused (remember.each place r (read_at replies place r at.0 at.1 is))

-- a send's reply holds what it copied
pub message_held : (replies : List Reply) (old : Knowledge) (place : ℕ) (r : Reply) (message : Message) (P : Reply → Type 0) → Remember replies old → ReplyAt replies place P → r ≡ get_or replies place r → r ≡ Sent message → IsMessageOf old place message
message_held replies old place r message P remember at is is_sent = subst (λ (x : Reply). Holds x (left_by old place)) is_sent (remember.each place r (read_at replies place r at.0 at.1 is))

pub part_held : (replies : List Reply) (old : Knowledge) (place : ℕ) (r : Reply) (message : PartMessage) (P : Reply → Type 0) → Remember replies old → ReplyAt replies place P → r ≡ get_or replies place r → r ≡ SentPart message → IsPartMessageOf old place message
part_held replies old place r message P remember at is is_sent = subst (λ (x : Reply). Holds x (left_by old place)) is_sent (remember.each place r (read_at replies place r at.0 at.1 is))

-- an entry that a vnode appended may follow under its identifier
appended_follows : (logs new : List Log) (w : Knowledge) (v : ℕ) (e : Entry) → Represents logs w → v < length logs → Appends logs new v e → MayFollow (id_of w v) (log_at logs v).entries e
appended_follows logs new w v e rep inside appends = subst (λ (i : ℕ). MayFollow i (log_at logs v).entries e) (rep.ids v inside) appends.follows

-- A put that was accepted is the world's.
pub put_happened : (listed : List Helper) (logs new : List Log) (w : Knowledge) (v stamp : ℕ) (key : Key) (seen : Seen) (content : Content) (clock : List Dot) (dot : Dot) → Represents logs w → v < length logs → Means w seen clock → Appends logs new v (entry.Put stamp key clock content dot)
    → (after : Knowledge) × Happens listed w (Put v key seen content) (Stored dot) after × Represents new after
put_happened listed logs new w v stamp key seen content clock dot rep inside means appends =
    let r = put_step logs w v stamp key clock content dot rep inside (appended_follows logs new w v (entry.Put stamp key clock content dot) rep inside appends) in
    (after_put w v key (write_of w v key clock content), stored v key seen content clock refl means r.1 (ap (λ (d : Dot). Stored d) r.0) refl, subst (λ (ls : List Log). Represents ls (after_put w v key (write_of w v key clock content))) (sym appends.entries) r.2)

not_within : (a b : ℕ) → (a ≤ b → ⊥) → b < a
not_within a b never = elim (cases_lt b a) [ inl lt ↦ lt | inr le ↦ absurd (never le) ]

pub not_below : (a b : ℕ) → (a < b → ⊥) → b ≤ a
not_below a b never = elim (cases_lt a b) [ inl lt ↦ absurd (never lt) | inr le ↦ le ]

-- the next dot of a vnode's own identifier
next_at : (logs : List Log) (w : Knowledge) (v : ℕ) (key : Key) (state : State) → Represents logs w → v < length logs → IsReplay (log_at logs v).entries key state → next state (log_at logs v).vnode ≡ next_dot w v key
next_at logs w v key state rep inside replay = ap (next state) (rep.ids v inside) ∙ state_next_is logs w v key state rep inside replay

room_next : (logs : List Log) (w : Knowledge) (v : ℕ) (key : Key) (state : State) → Represents logs w → v < length logs → IsReplay (log_at logs v).entries key state → TakesDot (log_at logs v).vnode state → HasRoom state.clock (next_dot w v key)
room_next logs w v key state rep inside replay room = subst (HasRoom state.clock) (next_at logs w v key state rep inside replay) room

next_room : (logs : List Log) (w : Knowledge) (v : ℕ) (key : Key) (state : State) → Represents logs w → v < length logs → IsReplay (log_at logs v).entries key state → HasRoom state.clock (next_dot w v key) → TakesDot (log_at logs v).vnode state
next_room logs w v key state rep inside replay room = subst (HasRoom state.clock) (sym (next_at logs w v key state rep inside replay)) room

-- why a vnode refuses a put is why the world does
put_refusal : (logs : List Log) (w : Knowledge) (v : ℕ) (key : Key) (clock : List Dot) (r : VnodeFault) → Represents logs w → v < length logs → RefusesPutAt (log_at logs v) key clock r → ((r ≡ NoMemory) × MayPut w v key clock) ⊎ RefusesPut w v key clock r
put_refusal logs w v key clock r rep inside (state, replay, why) = by_cause r why
  where
    own : IsStateOf (known_at w v key) state
    own = state_shown logs w v key state rep inside replay

    known : Within clock state.clock → IsKnown (known_at w v key) clock
    known within d c = (own.shows.clock d).0 (within d c)

    by_cause : (r : VnodeFault) → StateRefusesPut (log_at logs v) clock state r → ((r ≡ NoMemory) × MayPut w v key clock) ⊎ RefusesPut w v key clock r
    by_cause ContextAhead why = inr (λ h. why (λ d c. (own.shows.clock d).1 (h d c)))
    by_cause TooManySiblings why = inr (known why.0, (length (kept clock state.siblings), (state, own, refl), not_below (length (kept clock state.siblings)) 64 why.1))
    by_cause ClockFull why = inr (known why.0, (length (kept clock state.siblings), (state, own, refl), why.1), (state.clock, (own.clock, own.shows.clock), λ room. why.2 (next_room logs w v key state rep inside replay room)))
    by_cause MergedClockFull why = absurd why
    by_cause JournalFull why = inr (known why.0.context, (length (kept clock state.siblings), (state, own, refl), why.0.sibling), (state.clock, (own.clock, own.shows.clock), room_next logs w v key state rep inside replay why.0.dot), sym (rep.accepted v inside) ∙ why.1)
    by_cause NoMemory why = inl (
      refl,
      record {
        context = known why.0.context;
        siblings = (length (kept clock state.siblings), (state, own, refl), why.0.sibling);
        clock = (state.clock, (own.clock, own.shows.clock), room_next logs w v key state rep inside replay why.0.dot);
        journal = subst (λ (n : ℕ). n < max_entries) (rep.accepted v inside) why.1;
      },
    )

-- a refusal, as the world's
pub refused_so : (listed : List Helper) (logs : List Log) (w : Knowledge) (what : Event) (r : VnodeFault) → Represents logs w → Happens listed w what (Refused r) (after_refusal w r) → (after : Knowledge) × Happens listed w what (Refused r) after × Represents logs after
refused_so listed logs w what r rep happens = (after_refusal w r, happens, refusal_step logs w r rep)

pub put_was_refused : (listed : List Helper) (logs : List Log) (w : Knowledge) (v : ℕ) (key : Key) (seen : Seen) (content : Content) (clock : List Dot) (r : VnodeFault) → Represents logs w → v < length logs → Means w seen clock → RefusesPutAt (log_at logs v) key clock r
    → (after : Knowledge) × Happens listed w (Put v key seen content) (Refused r) after × Represents logs after
put_was_refused listed logs w v key seen content clock r rep inside means why = refused_so listed logs w (Put v key seen content) r rep (elim (put_refusal logs w v key clock r rep inside why) [
  | inl memory ↦ wants_memory (clock, means, memory.1) (ap (λ (x : VnodeFault). Refused x) memory.0) (ap (λ (x : VnodeFault). after_refusal w x) memory.0)
  | inr refuses ↦ put_refused v key seen content clock r refl means refuses refl refl
])

pub context_was_refused : (listed : List Helper) (logs : List Log) (w : Knowledge) (v : ℕ) (key : Key) (seen : Seen) (content : Content) (r : VnodeFault) → Represents logs w → IsRefusedContext w seen r
    → (after : Knowledge) × Happens listed w (Put v key seen content) (Refused r) after × Represents logs after
context_was_refused listed logs w v key (Given clock) content r rep failed = absurd failed
context_was_refused listed logs w v key (ContextOf get) content r rep failed = refused_so listed logs w (Put v key (ContextOf get) content) r rep (refused_alike get r refl failed refl refl)

-- vnodes that stayed as they were
pub with_same : (listed : List Helper) (logs new : List Log) (w : Knowledge) (what : Event) (reply : Reply) → new ≡ logs → (after : Knowledge) × Happens listed w what reply after × Represents logs after → (after : Knowledge) × Happens listed w what reply after × Represents new after
with_same listed logs new w what reply same (after, happens, rep) = (after, happens, subst (λ (ls : List Log). Represents ls after) (sym same) rep)

-- A get and a send.
pub get_happened : (listed : List Helper) (logs new : List Log) (w : Knowledge) (v stamp : ℕ) (key : Key) (state : State) → Represents logs w → v < length logs → Appends logs new v (entry.Read stamp key) → IsReplay (log_at logs v).entries key state
    → (after : Knowledge) × Happens listed w (Get v key) (Found state) after × Represents new after
get_happened listed logs new w v stamp key state rep inside appends replay =
    let r = copy_step logs w v stamp key rep inside appends.follows in
    (after_copy w v key, found v key state refl (state_shown logs w v key state rep inside replay) r.0 refl refl, subst (λ (ls : List Log). Represents ls (after_copy w v key)) (sym appends.entries) r.1)

pub send_happened : (listed : List Helper) (logs new : List Log) (w : Knowledge) (v stamp : ℕ) (key : Key) (message : Message) → Represents logs w → v < length logs → Appends logs new v (entry.Read stamp key) → IsReplay (log_at logs v).entries key message.state → message.key ≡ key → message.from ≡ (log_at logs v).vnode → message.at ≡ length (log_at logs v).entries
    → (after : Knowledge) × Happens listed w (Send v key) (Sent message) after × Represents new after
send_happened listed logs new w v stamp key message rep inside appends replay key_is from at =
    let r = copy_step logs w v stamp key rep inside appends.follows in
    (after_copy w v key, sent v key message refl (record { key_is = key_is; from_is = from ∙ rep.ids v inside; at_is = at ∙ rep.accepted v inside; state_is = state_shown logs w v key message.state rep inside replay }) r.0 refl refl, subst (λ (ls : List Log). Represents ls (after_copy w v key)) (sym appends.entries) r.1)

pub summary_happened : (listed : List Helper) (logs new : List Log) (w : Knowledge) (v stamp : ℕ) (key : Key) (summary : Summary) → Represents logs w → v < length logs → Appends logs new v (entry.Read stamp key) → Leaves (log_at logs v).entries key (λ state. summary ≡ summary_of state)
    → (after : Knowledge) × Happens listed w (Summarize v key) (Summarized summary) after × Represents new after
summary_happened listed logs new w v stamp key summary rep inside appends (state, replay, is) =
    let r = copy_step logs w v stamp key rep inside appends.follows in
    (after_copy w v key, summarized v key state refl (state_shown logs w v key state rep inside replay) r.0 (ap (λ (s : Summary). Summarized s) is) refl, subst (λ (ls : List Log). Represents ls (after_copy w v key)) (sym appends.entries) r.1)

-- A send of a part, or of the whole where there is no memory for that.
pub part_sent_so : (listed : List Helper) (logs new : List Log) (w : Knowledge) (replies : List Reply) (v stamp summary : ℕ) (key : Key) (told : Summary) (message : Message) → Represents logs w → v < length logs → Remember replies w → slice_get replies summary ≡ Some (Summarized told)
    → Appends logs new v (entry.Read stamp key) → IsCopyOf (log_at logs v) key message
    → (after : Knowledge) × Happens listed w (SendPart v key summary) (SentPart (without message told)) after × Represents new after
part_sent_so listed logs new w replies v stamp summary key told message rep inside remember at appends copy =
    let h : Holds (Summarized told) (left_by w summary) = remember.each summary (Summarized told) at in
    let r = part_step logs w v stamp key h.1 rep inside appends.follows in (
      after_part w v key h.1,
      part_sent v key summary h.0 h.1 (without message told) refl h.2 (record {
        key_is = copy.key_is;
        from_is = copy.from ∙ rep.ids v inside;
        at_is = copy.at ∙ rep.accepted v inside;
        part_is = (message.state, h.3.0, state_shown logs w v key message.state rep inside copy.state, h.3.1, ap (part_of message.state) h.3.2);
      }) r.0 refl refl,
      subst (λ (ls : List Log). Represents ls (after_part w v key h.1)) (sym appends.entries) r.1,
    )

pub whole_sent_so : (listed : List Helper) (logs new : List Log) (w : Knowledge) (replies : List Reply) (v stamp summary : ℕ) (key : Key) (told : Summary) (message : Message) → Represents logs w → v < length logs → Remember replies w → slice_get replies summary ≡ Some (Summarized told)
    → Appends logs new v (entry.Read stamp key) → IsCopyOf (log_at logs v) key message
    → (after : Knowledge) × Happens listed w (SendPart v key summary) (Sent message) after × Represents new after
whole_sent_so listed logs new w replies v stamp summary key told message rep inside remember at appends copy =
    let h : Holds (Summarized told) (left_by w summary) = remember.each summary (Summarized told) at in
    let r = copy_step logs w v stamp key rep inside appends.follows in (
      after_copy w v key,
      whole_sent v key summary h.0 h.1 message refl h.2 (record { key_is = copy.key_is; from_is = copy.from ∙ rep.ids v inside; at_is = copy.at ∙ rep.accepted v inside; state_is = state_shown logs w v key message.state rep inside copy.state }) r.0 refl refl,
      subst (λ (ls : List Log). Represents ls (after_copy w v key)) (sym appends.entries) r.1,
    )

pub part_or_whole : (listed : List Helper) (logs new : List Log) (w : Knowledge) (replies : List Reply) (v stamp summary : ℕ) (key : Key) (told : Summary) (message : Message) (reply : Reply) → Represents logs w → v < length logs → Remember replies w → slice_get replies summary ≡ Some (Summarized told)
    → Appends logs new v (entry.Read stamp key) → IsCopyOf (log_at logs v) key message → (reply ≡ SentPart (without message told)) ⊎ (reply ≡ Sent message)
    → (after : Knowledge) × Happens listed w (SendPart v key summary) reply after × Represents new after
part_or_whole listed logs new w replies v stamp summary key told message reply rep inside remember at appends copy (inl is) =
    subst (λ (r : Reply). (after : Knowledge) × Happens listed w (SendPart v key summary) r after × Represents new after) (sym is) (part_sent_so listed logs new w replies v stamp summary key told message rep inside remember at appends copy)
part_or_whole listed logs new w replies v stamp summary key told message reply rep inside remember at appends copy (inr is) =
    subst (λ (r : Reply). (after : Knowledge) × Happens listed w (SendPart v key summary) r after × Represents new after) (sym is) (whole_sent_so listed logs new w replies v stamp summary key told message rep inside remember at appends copy)

-- it is a message
pub part_is_message : (message : Message) (told : Summary) (reply : Reply) → (reply ≡ SentPart (without message told)) ⊎ (reply ≡ Sent message) → IsMessageOrRefused reply
part_is_message message told reply (inl is) = subst IsMessageOrRefused (sym is) tt
part_is_message message told reply (inr is) = subst IsMessageOrRefused (sym is) tt

-- why a vnode refuses the read of a part is why the world does
pub part_send_refused : (listed : List Helper) (logs : List Log) (w : Knowledge) (replies : List Reply) (v summary : ℕ) (key : Key) (told : Summary) (r : VnodeFault) → Represents logs w → v < length logs → Remember replies w → slice_get replies summary ≡ Some (Summarized told) → RefusesEntryAt (log_at logs v) r
    → (after : Knowledge) × Happens listed w (SendPart v key summary) (Refused r) after × Represents logs after
part_send_refused listed logs w replies v summary key told r rep inside remember at why = by_cause r why
  where
    h : Holds (Summarized told) (left_by w summary)
    h = remember.each summary (Summarized told) at

    by_cause : (r : VnodeFault) → RefusesEntryAt (log_at logs v) r → (after : Knowledge) × Happens listed w (SendPart v key summary) (Refused r) after × Represents logs after
    by_cause JournalFull why = refused_so listed logs w (SendPart v key summary) JournalFull rep (part_refused v key summary h.0 h.1 refl h.2 (sym (rep.accepted v inside) ∙ why) refl refl)
    by_cause NoMemory why = refused_so listed logs w (SendPart v key summary) NoMemory rep (wants_memory (h.0, h.1, h.2, subst (λ (n : ℕ). n < max_entries) (rep.accepted v inside) why) refl refl)
    by_cause ContextAhead why = absurd why
    by_cause TooManySiblings why = absurd why
    by_cause ClockFull why = absurd why
    by_cause MergedClockFull why = absurd why

pub summary_was_refused : (listed : List Helper) (logs : List Log) (w : Knowledge) (replies : List Reply) (v summary : ℕ) (key : Key) (r : VnodeFault) → Represents logs w → Remember replies w → slice_get replies summary ≡ Some (Refused r)
    → (after : Knowledge) × Happens listed w (SendPart v key summary) (Refused r) after × Represents logs after
summary_was_refused listed logs w replies v summary key r rep remember at = refused_so listed logs w (SendPart v key summary) r rep (refused_alike summary r refl (remember.each summary (Refused r) at) refl refl)

-- a get, a summary, a send and a restart may happen where their journal has a place
place_may : (w : Knowledge) (what : Event) (v : ℕ) → IsAt what v → HasPlace w v → MayHappen w what
place_may w (Get u key) v at place = subst (HasPlace w) (sym at) place
place_may w (Summarize u key) v at place = subst (HasPlace w) (sym at) place
place_may w (Send u key) v at place = subst (HasPlace w) (sym at) place
place_may w (SendPart u key summary) v at place = absurd at
place_may w (Restart u) v at place = subst (HasPlace w) (sym at) place
place_may w (Put u key seen content) v at place = absurd at
place_may w (Deliver message u) v at place = absurd at
place_may w (Dump u) v at place = absurd at
place_may w (Load dump u incarnation) v at place = absurd at
place_may w (ResolveRead get hook) v at place = absurd at
place_may w (ResolveWrite run u) v at place = absurd at

-- why a vnode refuses a read or a restart is why the world does
pub entry_was_refused : (listed : List Helper) (logs : List Log) (w : Knowledge) (v : ℕ) (what : Event) (r : VnodeFault) → Represents logs w → v < length logs → IsAt what v → RefusesEntryAt (log_at logs v) r
    → (after : Knowledge) × Happens listed w what (Refused r) after × Represents logs after
entry_was_refused listed logs w v what JournalFull rep inside at why = refused_so listed logs w what JournalFull rep (full v at (sym (rep.accepted v inside) ∙ why) refl refl)
entry_was_refused listed logs w v what NoMemory rep inside at why = refused_so listed logs w what NoMemory rep (wants_memory (place_may w what v at (subst (λ (n : ℕ). n < max_entries) (rep.accepted v inside) why)) refl refl)
entry_was_refused listed logs w v what ContextAhead rep inside at why = absurd why
entry_was_refused listed logs w v what TooManySiblings rep inside at why = absurd why
entry_was_refused listed logs w v what ClockFull rep inside at why = absurd why
entry_was_refused listed logs w v what MergedClockFull rep inside at why = absurd why

-- A restart.
pub restart_happened : (listed : List Helper) (logs new : List Log) (w : Knowledge) (v stamp : ℕ) → Represents logs w → v < length logs → Appends logs new v (entry.Restart stamp)
    → (after : Knowledge) × Happens listed w (Restart v) Restarted after × Represents new after
restart_happened listed logs new w v stamp rep inside appends =
    let r = restart_step logs w v stamp rep inside appends.follows in
    (after_restart w v, restarted v refl r.0 refl refl, subst (λ (ls : List Log). Represents ls (after_restart w v)) (sym appends.entries) r.1)

-- two facts that hold alike are told alike
tell_so : {A B : Type 0} (b : Bool) → A ↔ B → MatchBool b (A → ⊥) A → MatchBool b (B → ⊥) B
tell_so true same tells = λ h. tells (same.1 h)
tell_so false same tells = same.0 tells

-- why a vnode refuses a merge is why the world does
merge_refusal : (logs : List Log) (w : Knowledge) (v : ℕ) (key : Key) (state : State) (writes : List Write) (r : VnodeFault) → Represents logs w → v < length logs → IsStateOf writes state → RefusesMergeAt (log_at logs v) key state r → ((r ≡ NoMemory) × MayDeliver w v key writes) ⊎ RefusesDelivery w v key writes r
merge_refusal logs w v key state writes r rep inside is (mine, replay, why) = by_cause r why
  where
    own : IsStateOf (known_at w v key) mine
    own = state_shown logs w v key mine rep inside replay

    together : CountTogether (known_at w v key) writes (vnodes_together mine.clock state.clock)
    together = (mine.clock, state.clock, (own.clock, own.shows.clock), (is.clock, is.shows.clock), refl)

    by_cause : (r : VnodeFault) → StateRefusesMerge (log_at logs v) state.clock mine r → ((r ≡ NoMemory) × MayDeliver w v key writes) ⊎ RefusesDelivery w v key writes r
    by_cause MergedClockFull why = inr (vnodes_together mine.clock state.clock, together, not_within (vnodes_together mine.clock state.clock) 1024 (λ le. why (record { clock = le })))
    by_cause JournalFull why = inr (vnodes_together mine.clock state.clock, together, why.0.clock, sym (rep.accepted v inside) ∙ why.1)
    by_cause NoMemory why = inl (refl, may_deliver logs w v key state writes rep inside (mine, replay, why.0.clock) why.1 is)
    by_cause ContextAhead why = absurd why
    by_cause TooManySiblings why = absurd why
    by_cause ClockFull why = absurd why

-- A delivery.
pub delivery_happened : (listed : List Helper) (logs new : List Log) (w : Knowledge) (v stamp place : ℕ) (message : Message) (changed : Bool) → Represents logs w → v < length logs → IsMessageOf w place message → Appends logs new v (entry.Merge stamp message.key message.from message.at message.state)
    → TellsChange (log_at logs v).entries (entry.Merge stamp message.key message.from message.at message.state) message.key changed
    → (after : Knowledge) × Happens listed w (Deliver place v) (Changed changed) after × Represents new after
delivery_happened listed logs new w v stamp place message changed rep inside is appends tells =
    let r = delivery_step logs w v stamp message.key message.from message.at message.state is.0 rep inside (appended_follows logs new w v (entry.Merge stamp message.key message.from message.at message.state) rep inside appends) (were_put w place message.key is.0 rep.lawful is.1) is.2 in
    (after_delivery w v message.key is.0, delivered place v message.key is.0 changed refl (whole is.1) r.0 (tell_so changed r.2 tells) refl refl, subst (λ (ls : List Log). Represents ls (after_delivery w v message.key is.0)) (sym appends.entries) r.1)

pub delivery_was_refused : (listed : List Helper) (logs : List Log) (w : Knowledge) (v place : ℕ) (message : Message) (r : VnodeFault) → Represents logs w → v < length logs → IsMessageOf w place message → RefusesMergeAt (log_at logs v) message.key message.state r
    → (after : Knowledge) × Happens listed w (Deliver place v) (Refused r) after × Represents logs after
delivery_was_refused listed logs w v place message r rep inside is why = refused_so listed logs w (Deliver place v) r rep (elim (merge_refusal logs w v message.key message.state is.0 r rep inside is.2 why) [
  | inl memory ↦ wants_memory (message.key, is.0, whole is.1, memory.1) (ap (λ (x : VnodeFault). Refused x) memory.0) (ap (λ (x : VnodeFault). after_refusal w x) memory.0)
  | inr refuses ↦ delivery_refused place v message.key is.0 r refl (whole is.1) refuses refl refl
])

-- A delivery of a part.
pub part_happened : (listed : List Helper) (logs new : List Log) (w : Knowledge) (v stamp place : ℕ) (message : PartMessage) (changed : Bool) (own : State) → Represents logs w → v < length logs → IsPartMessageOf w place message → MergesPart logs new v stamp message changed own
    → (after : Knowledge) × Happens listed w (Deliver place v) (Changed changed) after × Represents new after
part_happened listed logs new w v stamp place message changed own rep inside (writes, held, left, is) merges =
    let mine : IsStateOf (known_at w v message.key) own = state_shown logs w v message.key own rep inside merges.own_is in
    let stands : IsStateOf writes (whole_of message.part own) = stands_for w v message.key writes held own message.part rep.lawful (rep.lawful.parted place message.key writes held left) mine is merges.held in
    let r = delivery_step logs w v stamp message.key message.from message.at (whole_of message.part own) writes rep inside (appended_follows logs new w v (entry.Merge stamp message.key message.from message.at (whole_of message.part own)) rep inside merges.entry) (rep.lawful.parted place message.key writes held left) stands in (
      after_delivery w v message.key writes,
      delivered place v message.key writes changed refl (part held left (holds_there (known_at w v message.key) writes held own message.part mine is merges.held)) r.0 (tell_so changed r.2 merges.tells) refl refl,
      subst (λ (ls : List Log). Represents ls (after_delivery w v message.key writes)) (sym merges.entry.entries) r.1,
    )

pub part_was_missing : (listed : List Helper) (logs : List Log) (w : Knowledge) (v place : ℕ) (message : PartMessage) → Represents logs w → v < length logs → IsPartMessageOf w place message → RefusesPart (log_at logs v) message.key message.part part_fault.Missing
    → (after : Knowledge) × Happens listed w (Deliver place v) Missing after × Represents logs after
part_was_missing listed logs w v place message rep inside (writes, held, left, is) (own, replay, lacks) =
    let mine : IsStateOf (known_at w v message.key) own = state_shown logs w v message.key own rep inside replay in
    (after_nothing w, missing place v message.key writes held refl left (lacks_there (known_at w v message.key) writes held own message.part mine is lacks) refl refl, nothing_step logs w rep)

pub part_was_refused : (listed : List Helper) (logs : List Log) (w : Knowledge) (v place : ℕ) (message : PartMessage) (r : VnodeFault) → Represents logs w → v < length logs → IsPartMessageOf w place message → RefusesPart (log_at logs v) message.key message.part (part_fault.Refused r)
    → (after : Knowledge) × Happens listed w (Deliver place v) (Refused r) after × Represents logs after
part_was_refused listed logs w v place message r rep inside (writes, held, left, is) (own, replay, why) =
    let mine : IsStateOf (known_at w v message.key) own = state_shown logs w v message.key own rep inside replay in
    let stands : IsStateOf writes (whole_of message.part own) = stands_for w v message.key writes held own message.part rep.lawful (rep.lawful.parted place message.key writes held left) mine is why.0 in
    let brought = part held left (holds_there (known_at w v message.key) writes held own message.part mine is why.0) in
    refused_so listed logs w (Deliver place v) r rep (elim (merge_refusal logs w v message.key (whole_of message.part own) writes r rep inside stands (own, replay, why.1)) [
      | inl memory ↦ wants_memory (message.key, writes, brought, memory.1) (ap (λ (x : VnodeFault). Refused x) memory.0) (ap (λ (x : VnodeFault). after_refusal w x) memory.0)
      | inr refuses ↦ delivery_refused place v message.key writes r refl brought refuses refl refl
    ])

pub message_was_refused : (listed : List Helper) (logs : List Log) (w : Knowledge) (v place : ℕ) (r : VnodeFault) → Represents logs w → left_by w place ≡ Failed r
    → (after : Knowledge) × Happens listed w (Deliver place v) (Refused r) after × Represents logs after
message_was_refused listed logs w v place r rep failed = refused_so listed logs w (Deliver place v) r rep (refused_alike place r refl failed refl refl)

-- what is told of a reply that stands at a place
pub replied_at : (replies : List Reply) (place : ℕ) (r reply : Reply) (P : Reply → Type 0) → ReplyAt replies place P → r ≡ get_or replies place r → r ≡ reply → slice_get replies place ≡ Some reply
replied_at replies place r reply P at is e = read_at replies place r at.0 at.1 is ∙ ap (λ (x : Reply). Some x) e

-- A resolver's run decides on what its get answered.
pub run_happened : (listed : List Helper) (logs : List Log) (w : Knowledge) (replies : List Reply) (get : ℕ) (hook : Program) (state : State) (resolution : Resolution) → Represents logs w → Remember replies w → slice_get replies get ≡ Some (Found state) → IsResolution listed hook state.siblings resolution
    → (after : Knowledge) × Happens listed w (ResolveRead get hook) (Resolved resolution) after × Represents logs after
run_happened listed logs w replies get hook state resolution rep remember at decides =
    let h : Holds (Found state) (left_by w get) = remember.each get (Found state) at in
    (after_run w h.0 h.1 (chosen_by resolution state.siblings), resolved get hook h.0 h.1 state resolution refl h.2 h.3 decides refl refl, run_step logs w h.0 h.1 (chosen_by resolution state.siblings) rep)

pub run_wants : (listed : List Helper) (logs : List Log) (w : Knowledge) (replies : List Reply) (get : ℕ) (hook : Program) (state : State) → Represents logs w → Remember replies w → slice_get replies get ≡ Some (Found state)
    → (after : Knowledge) × Happens listed w (ResolveRead get hook) (Refused NoMemory) after × Represents logs after
run_wants listed logs w replies get hook state rep remember at =
    let h : Holds (Found state) (left_by w get) = remember.each get (Found state) at in
    refused_so listed logs w (ResolveRead get hook) NoMemory rep (wants_memory (h.0, h.1, h.2) refl refl)

pub get_was_refused : (listed : List Helper) (logs : List Log) (w : Knowledge) (replies : List Reply) (get : ℕ) (hook : Program) (r : VnodeFault) → Represents logs w → Remember replies w → slice_get replies get ≡ Some (Refused r)
    → (after : Knowledge) × Happens listed w (ResolveRead get hook) (Refused r) after × Represents logs after
get_was_refused listed logs w replies get hook r rep remember at = refused_so listed logs w (ResolveRead get hook) r rep (refused_alike get r refl (remember.each get (Refused r) at) refl refl)

-- What the events and replies tell of a run is what it left.
pub choice_held : (events : List Event) (replies : List Reply) (w : Knowledge) (run get vnode : ℕ) (hook : Program) (key : Key) (resolution : Resolution) (state : State) → Remember replies w → Recall events replies w
    → slice_get events run ≡ Some (ResolveRead get hook) → slice_get replies run ≡ Some (Resolved resolution) → slice_get events get ≡ Some (Get vnode key) → slice_get replies get ≡ Some (Found state) → IsChoiceOf w run key state.clock (chosen_by resolution state.siblings)
choice_held events replies w run get vnode hook key resolution state remember recall names decided asked answered =
    let c = recall.chosen run get hook resolution names decided in
    let h : Holds (Found state) (left_by w get) = remember.each get (Found state) answered in
    let same_key : c.0 ≡ key = recall.keys get vnode key c.0 c.1 asked c.3 in
    let copies : Copied h.0 h.1 ≡ Copied c.0 c.1 = sym h.2 ∙ c.3 in
    let writes : h.1 ≡ c.1 = cc in
    let is : IsStateOf c.1 state = subst (λ (ws : List Write). IsStateOf ws state) writes h.3 in
    let same : c.2 ≡ state = one_state c.1 c.2 state c.4 is in
    (c.1, c.5 ∙ ap (λ (k : Key). Chosen k c.1 (chosen_by resolution c.2.siblings)) same_key ∙ ap (λ (x : State). Chosen key c.1 (chosen_by resolution x.siblings)) same, (is.clock, is.shows.clock))

-- A run that was replied names no refused get.
pub never_refused : (events : List Event) (replies : List Reply) (w : Knowledge) (run get : ℕ) (hook : Program) (resolution : Resolution) (r : VnodeFault) → Remember replies w → Recall events replies w
    → slice_get events run ≡ Some (ResolveRead get hook) → slice_get replies run ≡ Some (Resolved resolution) → slice_get replies get ≡ Some (Refused r) → ⊥
never_refused events replies w run get hook resolution r remember recall names decided refused =
    let c = recall.chosen run get hook resolution names decided in
    let h : left_by w get ≡ Failed r = remember.each get (Refused r) refused in
    let e : Copied c.0 c.1 ≡ Failed r = sym c.3 ∙ h in
    cc

-- A put of what a run chose.
pub choice_happened : (listed : List Helper) (logs new : List Log) (w : Knowledge) (run v stamp : ℕ) (key : Key) (content : Content) (clock : List Dot) (dot : Dot) → Represents logs w → v < length logs → IsChoiceOf w run key clock (Some content) → Appends logs new v (entry.Put stamp key clock content dot)
    → (after : Knowledge) × Happens listed w (ResolveWrite run v) (Stored dot) after × Represents new after
choice_happened listed logs new w run v stamp key content clock dot rep inside is appends =
    let r = put_step logs w v stamp key clock content dot rep inside (appended_follows logs new w v (entry.Put stamp key clock content dot) rep inside appends) in
    (after_put w v key (write_of w v key clock content), choice_stored run v key is.0 content clock refl is.1 is.2 r.1 (ap (λ (d : Dot). Stored d) r.0) refl, subst (λ (ls : List Log). Represents ls (after_put w v key (write_of w v key clock content))) (sym appends.entries) r.2)

pub choice_was_refused : (listed : List Helper) (logs : List Log) (w : Knowledge) (run v : ℕ) (key : Key) (content : Content) (clock : List Dot) (r : VnodeFault) → Represents logs w → v < length logs → IsChoiceOf w run key clock (Some content) → RefusesPutAt (log_at logs v) key clock r
    → (after : Knowledge) × Happens listed w (ResolveWrite run v) (Refused r) after × Represents logs after
choice_was_refused listed logs w run v key content clock r rep inside is why = refused_so listed logs w (ResolveWrite run v) r rep (elim (put_refusal logs w v key clock r rep inside why) [
  | inl memory ↦ wants_memory (key, is.0, content, clock, is.1, is.2, memory.1) (ap (λ (x : VnodeFault). Refused x) memory.0) (ap (λ (x : VnodeFault). after_refusal w x) memory.0)
  | inr refuses ↦ choice_refused run v key is.0 content clock r refl is.1 is.2 refuses refl refl
])

pub nothing_was_chosen : (listed : List Helper) (logs : List Log) (w : Knowledge) (run v : ℕ) (key : Key) (clock : List Dot) → Represents logs w → IsChoiceOf w run key clock None
    → (after : Knowledge) × Happens listed w (ResolveWrite run v) Nothing after × Represents logs after
nothing_was_chosen listed logs w run v key clock rep is = (after_nothing w, nothing_chosen run v key is.0 refl is.1 refl refl, nothing_step logs w rep)

pub run_was_refused : (listed : List Helper) (logs : List Log) (w : Knowledge) (run v : ℕ) (r : VnodeFault) → Represents logs w → left_by w run ≡ Failed r
    → (after : Knowledge) × Happens listed w (ResolveWrite run v) (Refused r) after × Represents logs after
run_was_refused listed logs w run v r rep failed = refused_so listed logs w (ResolveWrite run v) r rep (refused_alike run r refl failed refl refl)
