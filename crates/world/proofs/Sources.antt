-- Journals that go on: what their merges name, and that each still stands.
use Rattle.std.proofs.Common.{◌≡◌, ℕ, zero, suc, ◌+◌, ◌<◌, ◌≤◌, ◌⊎◌, List, [], ◌∷◌, ◌++◌, length, get_or, set, refl, sym, ap, subst, ◌∙◌, inl, inr, arith, length-append, length-set, append_assoc}
use Rattle.std.proofs.lemmas.Option.{slice_get_within}
use Rattle.std.proofs.Math.ListN.{get_or-append}
use Rattle.std.proofs.Math.Seq.{get_or-append_seam}
use Rattle.std.proofs.lemmas.Bool.{cases_eq}
use Rattle.std.proofs.lemmas.List.{get_or_default, get_or-set_same, get_or-set_other, append-nil, length-map, map-append}
use Rattle.key_state.specs.declared.content.Key.{Key}
use Rattle.vnode.specs.declared.steps.Copied.{Copied as Held}
use Rattle.vnode.specs.Keys.{reads_of}
use Rattle.journal.specs.Entry.{Entry, Put, Merge, Read, Restart}
use Rattle.journal.specs.Logs.{Log, with_entries}
use Rattle.world.specs.declared.event.Copies.{Copies}
use Rattle.world.specs.declared.event.Event.{Event}
use Rattle.world.specs.declared.event.Reply.{Reply}
use Rattle.world.specs.declared.event.Event.TheVariants.{Put as PutAt, Get, Summarize, Send, SendPart as SendsPart, Deliver, Restart as Restarts, Dump, Load, ResolveRead, ResolveWrite}
use Rattle.world.specs.declared.event.Reply.TheVariants.{Stored, Found, Summarized, Sent, SentPart, Changed, Missing, Restarted, Dumped, Loaded, Resolved, Nothing, Refused}
use Rattle.world.specs.Appending.{LoadsAll, merges_of_copies}
use Rattle.world.specs.Represents.{log_at}
use Rattle.world.specs.Running.{ReplyAt}
use Rattle.world.specs.Sources.{Source, sources_in, sources_of, sources_from, sources_told, sources_delivered, sources_loaded, sources_after, sources_run, IsFrontOf, GoOn}

-- entries and others
in_both : (a b : List Entry) → sources_in (a ++ b) ≡ sources_in a ++ sources_in b
in_both [] b = refl
in_both (Merge stamp key from at state ∷ es) b = ap (λ (s : List Source). record { key = key; from = from; at = at } ∷ s) (in_both es b)
in_both (Put stamp key seen content dot ∷ es) b = in_both es b
in_both (Read stamp key ∷ es) b = in_both es b
in_both (Restart stamp ∷ es) b = in_both es b

-- reads name none
in_reads : (stamp : ℕ) (keys : List Key) → sources_in (reads_of stamp keys) ≡ []
in_reads stamp [] = refl
in_reads stamp (k ∷ keys) = in_reads (stamp + 1) keys

-- merges of copies name theirs
in_copies : (stamp from at : ℕ) (held : List Held) → sources_in (merges_of_copies stamp from at held) ≡ sources_from from at held
in_copies stamp from at [] = refl
in_copies stamp from at (one ∷ held) = ap (λ (s : List Source). record { key = one.key; from = from; at = at } ∷ s) (in_copies (stamp + 1) from (at + 1) held)

-- one journal set
set_sources : (logs : List Log) (at : ℕ) (new : Log) → sources_of (set logs at new) ≡ set (sources_of logs) at (sources_in new.entries)
set_sources [] at new = refl
set_sources (l ∷ logs) zero new = refl
set_sources (l ∷ logs) (suc at) new = ap (λ (s : List (List Source)). sources_in l.entries ∷ s) (set_sources logs at new)

-- of one journal
at_index : (logs : List Log) (at : ℕ) → get_or (sources_of logs) at [] ≡ sources_in (log_at logs at).entries
at_index [] at = refl
at_index (l ∷ logs) zero = refl
at_index (l ∷ logs) (suc at) = at_index logs at

set_same : {X : Type 0} (xs : List X) (i : ℕ) (d : X) → set xs i (get_or xs i d) ≡ xs
set_same [] i d = refl
set_same (x ∷ xs) zero d = refl
set_same (x ∷ xs) (suc i) d = ap (λ ys. x ∷ ys) (set_same xs i d)

-- a journal is a front of itself
whole_front : (log : Log) → IsFrontOf log log
whole_front log = ([], ap (λ (es : List Entry). let l : Log = record { vnode = log.vnode; entries = es } in l) (sym (append-nil log.entries)))

-- nothing has happened
pub go_on_same : (logs : List Log) → GoOn logs logs (sources_of logs)
go_on_same logs = record {
  named = refl;
  stand = λ v inside. (v, inside, whole_front (log_at logs v));
}

pub go_on_still : (logs new : List Log) → new ≡ logs → GoOn logs new (sources_of logs)
go_on_still logs new same = subst (λ (ls : List Log). GoOn logs ls (sources_of logs)) (sym same) (go_on_same logs)

-- a vnode has more entries
pub go_on_more : (logs : List Log) (at : ℕ) (es : List Entry) (x new : Log) → at < length logs → x ≡ get_or logs at x → new ≡ with_entries x es → GoOn logs (set logs at new) (set (sources_of logs) at (get_or (sources_of logs) at [] ++ sources_in es))
go_on_more logs at es x new inside there is = record {
  named = set_sources logs at new ∙ ap (λ (s : List Source). set (sources_of logs) at s) (ap (λ (l : Log). sources_in l.entries) here ∙ in_both (log_at logs at).entries es ∙ ap (λ (s : List Source). s ++ sources_in es) (sym (at_index logs at)));
  stand = λ v lt. (v, (let n = length-set logs at new in omega (arith, lt, n)), stands v (cases_eq v at));
}
  where
    d : Log
    d = record { vnode = 0; entries = [] }

    here : new ≡ with_entries (log_at logs at) es
    here = is ∙ ap (λ (l : Log). with_entries l es) (there ∙ get_or_default logs at x (record { vnode = 0; entries = [] }) inside)

    stands : (v : ℕ) → (v ≡ at) ⊎ (v ≡ at → ⊥) → IsFrontOf (log_at logs v) (log_at (set logs at new) v)
    stands v (inl same) = subst (λ (k : ℕ). IsFrontOf (log_at logs k) (log_at (set logs at new) k)) (sym same) (es, get_or-set_same logs at new (record { vnode = 0; entries = [] }) inside ∙ here)
    stands v (inr other) = subst (λ (l : Log). IsFrontOf (log_at logs v) l) (sym (get_or-set_other logs at v new (record { vnode = 0; entries = [] }) other)) (whole_front (log_at logs v))

-- that name none
pub go_on_none : (logs : List Log) (at : ℕ) (es : List Entry) (x new : Log) → at < length logs → x ≡ get_or logs at x → new ≡ with_entries x es → sources_in es ≡ [] → GoOn logs (set logs at new) (sources_of logs)
go_on_none logs at es x new inside there is none =
    subst (λ (s : List (List Source)). GoOn logs (set logs at new) s)
    (ap (λ (s : List Source). set (sources_of logs) at (get_or (sources_of logs) at [] ++ s)) none ∙ ap (λ (s : List Source). set (sources_of logs) at s) (append-nil (get_or (sources_of logs) at [])) ∙ set_same (sources_of logs) at [])
    (go_on_more logs at es x new inside there is)

-- reads of all keys
pub go_on_reads : (logs : List Log) (at stamp : ℕ) (keys : List Key) (x new : Log) → at < length logs → x ≡ get_or logs at x → new ≡ with_entries x (reads_of stamp keys) → GoOn logs (set logs at new) (sources_of logs)
go_on_reads logs at stamp keys x new inside there is = go_on_none logs at (reads_of stamp keys) x new inside there is (in_reads stamp keys)

-- a load
pub go_on_loaded : (logs new : List Log) (at id stamp : ℕ) (copies : Copies) → at < length logs → LoadsAll logs new at id stamp copies → GoOn logs new (set (sources_of logs) at (sources_from copies.from copies.first copies.held.items) ++ get_or (sources_of logs) at [] ∷ [])
go_on_loaded logs new at id stamp copies inside h = record {
  named = ap sources_of h.entries ∙ map-append (λ (log : Log). sources_in log.entries) (set logs at fresh) (log_at logs at ∷ [])
      ∙ ap (λ (s : List (List Source)). s ++ sources_in (log_at logs at).entries ∷ []) (set_sources logs at fresh ∙ ap (λ (s : List Source). set (sources_of logs) at s) (in_copies stamp copies.from copies.first copies.held.items))
      ∙ ap (λ (s : List Source). set (sources_of logs) at (sources_from copies.from copies.first copies.held.items) ++ s ∷ []) (sym (at_index logs at));
  stand = λ v lt. stands v lt (cases_eq v at);
}
  where
    fresh : Log
    fresh = record { vnode = id; entries = merges_of_copies stamp copies.from copies.first copies.held.items }

    size : length new ≡ length logs + 1
    size = ap length h.entries ∙ length-append (set logs at fresh) (log_at logs at ∷ []) ∙ ap (λ (n : ℕ). n + 1) (length-set logs at fresh)

    stands : (v : ℕ) → v < length logs → (v ≡ at) ⊎ (v ≡ at → ⊥) → (place : ℕ) × (place < length new) × IsFrontOf (log_at logs v) (log_at new place)
    stands v lt (inl same) = (
      length (set logs at fresh),
      (let s = size in let n = length-set logs at fresh in omega (arith, s, n)),
      subst (λ (l : Log). IsFrontOf (log_at logs v) l)
          (ap (λ (k : ℕ). log_at logs k) same ∙ sym (ap (λ (ls : List Log). log_at ls (length (set logs at fresh))) h.entries ∙ get_or-append_seam (set logs at fresh) (log_at logs at) [] (record { vnode = 0; entries = [] })))
          (whole_front (log_at logs v)),
    )
    stands v lt (inr other) = (
      v,
      (let s = size in omega (arith, s, lt)),
      subst (λ (l : Log). IsFrontOf (log_at logs v) l)
          (sym (ap (λ (ls : List Log). log_at ls v) h.entries ∙ get_or-append (set logs at fresh) (log_at logs at ∷ []) (record { vnode = 0; entries = [] }) v (let n = length-set logs at fresh in omega (arith, n, lt)) ∙ get_or-set_other logs at v fresh (record { vnode = 0; entries = [] }) other))
          (whole_front (log_at logs v)),
    )

-- one event more was run
run_more : (before : List Reply) (events : List Event) (replies : List Reply) (event : Event) (reply : Reply) (all : List (List Source)) → length replies ≡ length events
    → sources_run before (events ++ event ∷ []) (replies ++ reply ∷ []) all ≡ sources_after (before ++ replies) event reply (sources_run before events replies all)
run_more before [] [] event reply all same = ap (λ (rs : List Reply). sources_after rs event reply all) (sym (append-nil before))
run_more before (e ∷ es) (r ∷ rs) event reply all same =
    run_more (before ++ r ∷ []) es rs event reply (sources_after before e r all) (omega (arith, same))
    ∙ ap (λ (xs : List Reply). sources_after xs event reply (sources_run (before ++ r ∷ []) es rs (sources_after before e r all))) (append_assoc before (r ∷ []) rs)
run_more before [] (r ∷ rs) event reply all same = absurd (omega (arith, same))
run_more before (e ∷ es) [] event reply all same = absurd (omega (arith, same))

-- a front of a front
front_of_front : (a b c : Log) → IsFrontOf a b → IsFrontOf b c → IsFrontOf a c
front_of_front a b c ab bc = (
  ab.0 ++ bc.0,
  bc.1 ∙ ap (λ (l : Log). with_entries l bc.0) ab.1 ∙ ap (λ (es : List Entry). let l : Log = record { vnode = a.vnode; entries = es } in l) (append_assoc a.entries ab.0 bc.0),
)

pub goes_on : (events : List Event) (replies : List Reply) (event : Event) (reply : Reply) (begin old new : List Log) → length replies ≡ length events → GoOn begin old (sources_run [] events replies (sources_of begin)) → GoOn old new (sources_after replies event reply (sources_of old))
    → GoOn begin new (sources_run [] (events ++ event ∷ []) (replies ++ reply ∷ []) (sources_of begin))
goes_on events replies event reply begin old new same so_far step = record {
  named = step.named ∙ ap (λ (s : List (List Source)). sources_after replies event reply s) so_far.named ∙ sym (run_more [] events replies event reply (sources_of begin) same);
  stand = λ v lt.
      let h = so_far.stand v lt in
      let k = step.stand h.0 h.1 in
      (k.0, k.1, front_of_front (log_at begin v) (log_at old h.0) (log_at new k.0) h.2 k.2);
}

-- a vnode that refused has the journal that it had
pub go_on_back : (logs : List Log) (at : ℕ) (x new : Log) → x ≡ get_or logs at x → new ≡ x → GoOn logs (set logs at new) (sources_of logs)
go_on_back logs at x new there same = go_on_still logs (set logs at new) (ap (λ (l : Log). set logs at l) (same ∙ there) ∙ set_same logs at x)

-- a reply that is there stands at its place
pub reply_there : (replies : List Reply) (place : ℕ) (found reply : Reply) (P : Reply → Type 0) → ReplyAt replies place P → found ≡ get_or replies place found → found ≡ reply → reply ≡ get_or replies place Nothing
reply_there replies place found reply P there is same =
    sym same ∙ is ∙ get_or_default replies place found Nothing (slice_get_within replies place there.0 there.1)

-- there are as many journals as lists of what they name
length-sources : (logs : List Log) → length (sources_of logs) ≡ length logs
length-sources logs = length-map logs (λ (log : Log). sources_in log.entries)

delivered_more : (told : List Source) (vnode : ℕ) (reply : Reply) (all : List (List Source)) → length (sources_delivered told vnode reply all) ≡ length all
delivered_more told vnode (Changed changed) all = length-set all vnode (get_or all vnode [] ++ told)
delivered_more told vnode (Stored d) all = refl
delivered_more told vnode (Found s) all = refl
delivered_more told vnode (Summarized s) all = refl
delivered_more told vnode (Sent m) all = refl
delivered_more told vnode (SentPart m) all = refl
delivered_more told vnode Missing all = refl
delivered_more told vnode Restarted all = refl
delivered_more told vnode (Dumped c) all = refl
delivered_more told vnode (Loaded n) all = refl
delivered_more told vnode (Resolved r) all = refl
delivered_more told vnode Nothing all = refl
delivered_more told vnode (Refused r) all = refl

loaded_more : (told : List Source) (vnode : ℕ) (reply : Reply) (all : List (List Source)) → length all ≤ length (sources_loaded told vnode reply all)
loaded_more told vnode (Loaded n) all =
    let set_on = length-set all vnode told in
    let more = length-append (set all vnode told) (get_or all vnode [] ∷ []) in
    omega (arith, set_on, more)
loaded_more told vnode (Stored d) all = omega arith
loaded_more told vnode (Found s) all = omega arith
loaded_more told vnode (Summarized s) all = omega arith
loaded_more told vnode (Sent m) all = omega arith
loaded_more told vnode (SentPart m) all = omega arith
loaded_more told vnode (Changed c) all = omega arith
loaded_more told vnode Missing all = omega arith
loaded_more told vnode Restarted all = omega arith
loaded_more told vnode (Dumped c) all = omega arith
loaded_more told vnode (Resolved r) all = omega arith
loaded_more told vnode Nothing all = omega arith
loaded_more told vnode (Refused r) all = omega arith

after_more : (before : List Reply) (event : Event) (reply : Reply) (all : List (List Source)) → length all ≤ length (sources_after before event reply all)
after_more before (Deliver message vnode) reply all = let same = delivered_more (sources_told (get_or before message Nothing)) vnode reply all in omega (arith, same)
after_more before (Load dump vnode incarnation) reply all = loaded_more (sources_told (get_or before dump Nothing)) vnode reply all
after_more before (PutAt v key seen content) reply all = omega arith
after_more before (Get v key) reply all = omega arith
after_more before (Summarize v key) reply all = omega arith
after_more before (Send v key) reply all = omega arith
after_more before (SendsPart v key summary) reply all = omega arith
after_more before (Restarts v) reply all = omega arith
after_more before (Dump v) reply all = omega arith
after_more before (ResolveRead get hook) reply all = omega arith
after_more before (ResolveWrite run v) reply all = omega arith

-- an event leaves no fewer vnodes
pub goes_on_with_more : (before : List Reply) (event : Event) (reply : Reply) (old new : List Log) → GoOn old new (sources_after before event reply (sources_of old)) → length old ≤ length new
goes_on_with_more before event reply old new goes =
    let named : length (sources_of new) ≡ length (sources_after before event reply (sources_of old)) = ap (λ (s : List (List Source)). length s) goes.named in
    let was = length-sources old in
    let is = length-sources new in
    let more = after_more before event reply (sources_of old) in
    omega (arith, named, was, is, more)
