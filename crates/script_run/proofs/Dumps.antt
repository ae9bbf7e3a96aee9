-- Runs with a dump behind the events of a script.
use Rattle.std.proofs.Common.{◌≡◌, ℕ, ◌+◌, ◌<◌, List, [], ◌∷◌, ◌++◌, length, arith, refl, sym, ap, subst, ◌∙◌, length-append}
use Rattle.std.specs.Prelude.{count_by}
use Rattle.bpf_helpers.specs.declared.sig.Entry.{Entry}
use Rattle.vnode.specs.declared.fault.VnodeFault.{VnodeFault}
use Rattle.vnode.specs.declared.fault.VnodeFault.TheVariants.{JournalFull, NoMemory}
use Rattle.world.specs.declared.event.Event.{Event}
use Rattle.world.specs.declared.event.Event.TheVariants.{Put, Get, Summarize, Send, SendPart, Deliver, Restart, Dump, Load, ResolveRead, ResolveWrite}
use Rattle.world.specs.declared.event.Reply.{Reply}
use Rattle.world.specs.declared.event.Reply.TheVariants.{Refused}
use Rattle.world.specs.Happening.{Run, Happens, wants_memory, refused_alike, stored, put_refused, found, summarized, sent, part_sent, whole_sent, part_refused, delivered, delivery_refused, missing, restarted, dumped, dump_refused, loaded, full, resolved, choice_stored, choice_refused, nothing_chosen}
use Rattle.world.specs.Knowledge.{Knowledge, start}
use Rattle.world.specs.Running.{Ran, IsWorldOf}
use Rattle.script_events.specs.declared.script.Answered.{Answered}
use Rattle.script_events.specs.declared.script.Script.{Script}
use Rattle.script_events.specs.Scripts.{IsRunnable, tells_event}
use Rattle.script_run.specs.Dumping.{IsDumpReply, copied, refused, DumpsBehind}
use Rattle.script_run.specs.Printing.{Tells}
use Rattle.script_run.proofs.Telling.{one_reply_each}

-- what is said of the reply of a dump, and nothing of others
abbrev MayAnswer : Event → Reply → Type 0
MayAnswer (Dump vnode) reply = IsDumpReply reply
MayAnswer (Put vnode key seen content) reply = Unit {0}
MayAnswer (Get vnode key) reply = Unit {0}
MayAnswer (Summarize vnode key) reply = Unit {0}
MayAnswer (Send vnode key) reply = Unit {0}
MayAnswer (SendPart vnode key summary) reply = Unit {0}
MayAnswer (Deliver message vnode) reply = Unit {0}
MayAnswer (Restart vnode) reply = Unit {0}
MayAnswer (Load dump vnode incarnation) reply = Unit {0}
MayAnswer (ResolveRead get hook) reply = Unit {0}
MayAnswer (ResolveWrite run vnode) reply = Unit {0}

-- any event may be refused
refusal_may : (event : Event) (reply : Reply) (why : VnodeFault) → reply ≡ Refused why → MayAnswer event reply
refusal_may (Dump vnode) reply why is = refused why is
refusal_may (Put vnode key seen content) reply why is = tt
refusal_may (Get vnode key) reply why is = tt
refusal_may (Summarize vnode key) reply why is = tt
refusal_may (Send vnode key) reply why is = tt
refusal_may (SendPart vnode key summary) reply why is = tt
refusal_may (Deliver message vnode) reply why is = tt
refusal_may (Restart vnode) reply why is = tt
refusal_may (Load dump vnode incarnation) reply why is = tt
refusal_may (ResolveRead get hook) reply why is = tt
refusal_may (ResolveWrite run vnode) reply why is = tt

-- of an event that is another
other_may : (event other : Event) (reply : Reply) → event ≡ other → MayAnswer other reply → MayAnswer event reply
other_may event other reply is may = subst (λ (x : Event). MayAnswer x reply) (sym is) may

answers : (listed : List Entry) (old : Knowledge) (event : Event) (reply : Reply) (new : Knowledge) → Happens listed old event reply new → MayAnswer event reply
answers listed old event reply new (wants_memory may r e) = refusal_may event reply NoMemory r
answers listed old event reply new (refused_alike name refusal n l r e) = refusal_may event reply refusal r
answers listed old event reply new (stored v key seen content clock is means may r e) = other_may event (Put v key seen content) reply is tt
answers listed old event reply new (put_refused v key seen content clock refusal is means why r e) = refusal_may event reply refusal r
answers listed old event reply new (found v key state is shows place r e) = other_may event (Get v key) reply is tt
answers listed old event reply new (summarized v key state is shows place r e) = other_may event (Summarize v key) reply is tt
answers listed old event reply new (sent v key message is carries place r e) = other_may event (Send v key) reply is tt
answers listed old event reply new (part_sent v key summary other held message is l carries place r e) = other_may event (SendPart v key summary) reply is tt
answers listed old event reply new (whole_sent v key summary other held message is l carries place r e) = other_may event (SendPart v key summary) reply is tt
answers listed old event reply new (part_refused v key summary other held is l f r e) = refusal_may event reply JournalFull r
answers listed old event reply new (delivered message v key writes changed is l may c r e) = other_may event (Deliver message v) reply is tt
answers listed old event reply new (delivery_refused message v key writes refusal is l why r e) = refusal_may event reply refusal r
answers listed old event reply new (missing message v key writes held is l lacks r e) = other_may event (Deliver message v) reply is tt
answers listed old event reply new (restarted v is place r e) = other_may event (Restart v) reply is tt
answers listed old event reply new (dumped v keys copies is known places carries r e) = other_may event (Dump v) reply is (copied copies r)
answers listed old event reply new (dump_refused v keys is known many r e) = refusal_may event reply JournalFull r
answers listed old event reply new (loaded dump v incarnation copies is l fresh r e) = other_may event (Load dump v incarnation) reply is tt
answers listed old event reply new (full v is f r e) = refusal_may event reply JournalFull r
answers listed old event reply new (resolved get hook key writes state resolution is l shows res r e) = other_may event (ResolveRead get hook) reply is tt
answers listed old event reply new (choice_stored run v key writes content clock is l context may r e) = other_may event (ResolveWrite run v) reply is tt
answers listed old event reply new (choice_refused run v key writes content clock refusal is l context why r e) = refusal_may event reply refusal r
answers listed old event reply new (nothing_chosen run v key writes is l r e) = other_may event (ResolveWrite run v) reply is tt

-- an event behind others has the last reply
last_of_run : (listed : List Entry) (old new : Knowledge) (events : List Event) (event : Event) (replies : List Reply) (last : Reply) → Run listed old (events ++ event ∷ []) (replies ++ last ∷ []) new
    → (length replies ≡ length events) × MayAnswer event last
last_of_run listed old new [] event [] last ran = (refl, answers listed old event last ran.0 ran.1)
last_of_run listed old new [] event (r ∷ []) last ran = absurd ran.2
last_of_run listed old new [] event (r ∷ s ∷ replies) last ran = absurd ran.2
last_of_run listed old new (e ∷ []) event [] last ran = absurd ran.2
last_of_run listed old new (e ∷ f ∷ events) event [] last ran = absurd ran.2
last_of_run listed old new (e ∷ events) event (r ∷ replies) last ran = let rest = last_of_run listed ran.0 new events event replies last ran.2 in (omega (arith, rest.0), rest.1)

-- the parts of a run with a dump behind the events of a script
split_run : (listed : List Entry) (script : Script) (vnode : ℕ) (events : List Event) (ran : Ran) (replies : List Reply) (last : Reply) → events ≡ script.events.items ++ Dump vnode ∷ [] → IsWorldOf script.vnodes listed events ran
    → ran.replies ≡ replies ++ last ∷ [] → (length replies ≡ length script.events.items) × IsDumpReply last
split_run listed script vnode events ran replies last all world split =
    last_of_run listed (start script.vnodes) world.known script.events.items (Dump vnode) replies last
    (subst (λ (rs : List Reply). Run listed (start script.vnodes) (script.events.items ++ Dump vnode ∷ []) rs world.known) split (subst (λ (es : List Event). Run listed (start script.vnodes) es ran.replies world.known) all world.run))

-- the dump has a reply
pub some_reply : (listed : List Entry) (script : Script) (vnode : ℕ) (events : List Event) (ran : Ran) (replies : List Reply) → events ≡ script.events.items ++ Dump vnode ∷ [] → IsWorldOf script.vnodes listed events ran → replies ≡ ran.replies → length replies ≡ 0 → ⊥
some_reply listed script vnode events ran replies all world same none =
    let each = one_reply_each listed (start script.vnodes) world.known events ran.replies world.run in
    let count : length events ≡ length script.events.items + 1 = ap (λ (es : List Event). length es) all ∙ length-append script.events.items (Dump vnode ∷ []) in
    let replied : length replies ≡ length ran.replies = ap (λ (rs : List Reply). length rs) same in
    omega (arith, each, count, replied, none)

-- there are replies for the script's lines
pub enough_before : (listed : List Entry) (script : Script) (vnode : ℕ) (events : List Event) (answers : List Answered) (ran : Ran) (replies : List Reply) (last : Reply) → IsRunnable listed script → answers ≡ script.answered.items
    → events ≡ script.events.items ++ Dump vnode ∷ [] → IsWorldOf script.vnodes listed events ran → ran.replies ≡ replies ++ last ∷ [] → count_by tells_event answers ≡ length replies
enough_before listed script vnode events answers ran replies last runnable all_answers all world split =
    ap (λ (ls : List Answered). count_by tells_event ls) all_answers ∙ runnable.told ∙ sym (split_run listed script vnode events ran replies last all world split).0

-- what the script's lines print over the replies before that of the dump
pub dumps_behind : (listed : List Entry) (script : Script) (vnode : ℕ) (events : List Event) (answers : List Answered) (ran : Ran) (replies : List Reply) (last : Reply) (text : List ℕ) → IsRunnable listed script → vnode < script.vnodes
    → answers ≡ script.answered.items → events ≡ script.events.items ++ Dump vnode ∷ [] → IsWorldOf script.vnodes listed events ran → ran.replies ≡ replies ++ last ∷ [] → Tells listed answers replies text → DumpsBehind listed script vnode text ran
dumps_behind listed script vnode events answers ran replies last text runnable within all_answers all world split tells = record {
  runnable = runnable;
  within = within;
  world = subst (λ (es : List Event). IsWorldOf script.vnodes listed es ran) all world;
  replies = replies;
  last = last;
  split = split;
  dumped = (split_run listed script vnode events ran replies last all world split).1;
  tells = subst (λ (ls : List Answered). Tells listed ls replies text) all_answers tells;
}
