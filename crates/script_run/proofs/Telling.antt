-- What lines print over the replies of their events, line after line.
use Rattle.std.proofs.Common.{◌≡◌, ℕ, ◌+◌, ◌<◌, List, [], ◌∷◌, ◌++◌, length, get_or, drop, refl, sym, ap, subst, ◌∙◌, arith, append_assoc, add-one, drop-cons}
use Rattle.std.specs.Prelude.{true, cond, count_by}
use Rattle.std.proofs.lemmas.List.{append-nil}
use Rattle.std.proofs.lemmas.List.Sums.{sum_by-drop_more}
use Rattle.bpf_helpers.specs.declared.sig.Entry.{Entry}
use Rattle.world.specs.declared.event.Event.{Event}
use Rattle.world.specs.declared.event.Reply.{Reply}
use Rattle.world.specs.Knowledge.{Knowledge}
use Rattle.world.specs.Happening.{Run}
use Rattle.world.specs.Running.{Ran, IsWorldOf}
use Rattle.script_events.specs.declared.script.Answered.{Answered}
use Rattle.script_events.specs.declared.script.Script.{Script}
use Rattle.script_events.specs.declared.script.Answered.TheVariants as answered
use Rattle.script_events.specs.Scripts.{IsRunnable, tells_event}
use Rattle.script_run.specs.Printing.{TellsLine, Tells, AddsLine, Prints}

-- a run has a reply for each event
pub one_reply_each : (listed : List Entry) (old new : Knowledge) (events : List Event) (replies : List Reply) → Run listed old events replies new → length replies ≡ length events
one_reply_each listed old new [] [] ran = refl
one_reply_each listed old new [] (reply ∷ replies) ran = absurd ran
one_reply_each listed old new (event ∷ events) [] ran = absurd ran
one_reply_each listed old new (event ∷ events) (reply ∷ replies) ran = let rest = one_reply_each listed ran.0 new events replies ran.2 in omega (arith, rest)

-- a line that tells of an event takes one reply
takes : (listed : List Entry) (answer : Answered) (replies left : List Reply) (own : List ℕ) → TellsLine listed answer replies left own → length replies ≡ cond (tells_event answer) 1 0 + length left
takes listed (answered.Refused fault) replies left own told = omega (arith, ap (λ (rs : List Reply). length rs) told.0)
takes listed (answered.NotLetIn refusal) replies left own told = omega (arith, ap (λ (rs : List Reply). length rs) told.0)
takes listed answered.Nothing replies left own told = omega (arith, ap (λ (rs : List Reply). length rs) told.0)
takes listed answered.Reply replies left own told = omega (arith, ap (λ (rs : List Reply). length rs) told.1)
takes listed (answered.Checked check) replies left own told = omega (arith, ap (λ (rs : List Reply). length rs) told.1)

-- of the lines before an index all was printed, and these replies are left to the others
pub record IsToldSoFar (listed : List Entry) (answers : List Answered) (replies : List Reply) (index : ℕ) (left : List Reply) (text : List ℕ) : Type 0 where
  pub more : (rest : List ℕ) → Tells listed (drop index answers) left rest → Tells listed answers replies (text ++ rest)
  pub count : count_by tells_event (drop index answers) ≡ length left

-- before the first line nothing was printed
pub begins : (listed : List Entry) (answers : List Answered) (replies : List Reply) (text : List ℕ) → text ≡ [] → count_by tells_event answers ≡ length replies → IsToldSoFar listed answers replies 0 replies text
begins listed answers replies text none count = record {
  more = λ rest told. subst (λ (bs : List ℕ). Tells listed answers replies (bs ++ rest)) (sym none) told;
  count = count;
}

-- the next line has a reply, if it tells of an event
pub has_reply : (listed : List Entry) (answers : List Answered) (replies left : List Reply) (index : ℕ) (text : List ℕ) (answer : Answered) → IsToldSoFar listed answers replies index left text
    → index < length answers → get_or answers index answer ≡ answer → tells_event answer ≡ true → 0 < length left
has_reply listed answers replies left index text answer so_far lt is tells =
    let step = sum_by-drop_more (λ (a : Answered). cond (tells_event a) 1 0) answers index answer lt in
    let one : ℕ = 1 in let none : ℕ = 0 in
    let own : cond (tells_event (get_or answers index answer)) 1 0 ≡ 1 = ap (λ (a : Answered). cond (tells_event a) one none) is ∙ ap (λ b. cond b one none) tells in
    let count = so_far.count in
    omega (arith, step, own, count)

-- the next line printed its own
pub goes_on : (listed : List Entry) (answers : List Answered) (replies left next : List Reply) (index : ℕ) (old new : List ℕ) (answer : Answered) → IsToldSoFar listed answers replies index left old
    → index < length answers → get_or answers index answer ≡ answer → AddsLine listed answer left next old new → IsToldSoFar listed answers replies (index + 1) next new
goes_on listed answers replies left next index old new answer so_far lt is adds =
    let first : drop index answers ≡ get_or answers index answer ∷ drop (index + 1) answers = rw add-one (drop-cons answers index answer lt) in
    let cut : drop index answers ≡ answer ∷ drop (index + 1) answers = first ∙ ap (λ (a : Answered). a ∷ drop (index + 1) answers) is in
    record {
      more = λ rest told.
          let text : new ++ rest ≡ old ++ (adds.own ++ rest) = ap (λ (bs : List ℕ). bs ++ rest) adds.text ∙ append_assoc old adds.own rest in
          subst (λ (bs : List ℕ). Tells listed answers replies bs) (sym text)
          (so_far.more (adds.own ++ rest) (subst (λ (ls : List Answered). Tells listed ls left (adds.own ++ rest)) (sym cut) (next, adds.own, rest, adds.tells, told, refl)));
      count =
          let step = sum_by-drop_more (λ (a : Answered). cond (tells_event a) 1 0) answers index answer lt in
          let one : ℕ = 1 in let none : ℕ = 0 in
          let same : cond (tells_event (get_or answers index answer)) 1 0 ≡ cond (tells_event answer) 1 0 = ap (λ (a : Answered). cond (tells_event a) one none) is in
          let taken = takes listed answer left next adds.own adds.tells in
          let count = so_far.count in
          omega (arith, step, same, taken, count);
    }

-- after the last line all was printed, and no reply is left
pub ends : (listed : List Entry) (answers : List Answered) (replies left : List Reply) (index : ℕ) (text : List ℕ) → IsToldSoFar listed answers replies index left text → drop index answers ≡ [] → Tells listed answers replies text
ends listed answers replies [] index text so_far none =
    subst (λ (bs : List ℕ). Tells listed answers replies bs) (append-nil text) (so_far.more [] (subst (λ (ls : List Answered). Tells listed ls [] []) (sym none) (refl, refl)))
ends listed answers replies (reply ∷ left) index text so_far none =
    let count = so_far.count in
    let zero : count_by tells_event (drop index answers) ≡ 0 = ap (λ (ls : List Answered). count_by tells_event ls) none in
    absurd (omega (arith, count, zero))

-- what was told of a script's events and lines is what the script prints
pub prints : (listed known : List Entry) (script : Script) (events : List Event) (answers : List Answered) (ran : Ran) (replies : List Reply) (text : List ℕ) → known ≡ listed → IsRunnable listed script
    → events ≡ script.events.items → IsWorldOf script.vnodes known events ran → answers ≡ script.answered.items → replies ≡ ran.replies → Tells known answers replies text → Prints listed script text
prints listed known script events answers ran replies text same runnable all_events world all_answers all_replies tells = record {
  runnable = runnable;
  ran = ran;
  world = subst (λ (ls : List Entry). IsWorldOf script.vnodes ls script.events.items ran) same (subst (λ (es : List Event). IsWorldOf script.vnodes known es ran) all_events world);
  tells = subst (λ (ls : List Entry). Tells ls script.answered.items ran.replies text) same (subst (λ (rs : List Reply). Tells known script.answered.items rs text) all_replies (subst (λ (ls : List Answered). Tells known ls replies text) all_answers tells));
}

-- a script has a reply for each line that tells of an event
pub enough : (listed known : List Entry) (script : Script) (events : List Event) (answers : List Answered) (ran : Ran) (replies : List Reply) → IsRunnable listed script
    → events ≡ script.events.items → IsWorldOf script.vnodes known events ran → answers ≡ script.answered.items → replies ≡ ran.replies → count_by tells_event answers ≡ length replies
enough listed known script events answers ran replies runnable all_events world all_answers all_replies =
    ap (λ (ls : List Answered). count_by tells_event ls) all_answers ∙ runnable.told ∙ ap (λ (es : List Event). length es) (sym all_events)
    ∙ sym (one_reply_each known _ _ events ran.replies world.run) ∙ ap (λ (rs : List Reply). length rs) (sym all_replies)
