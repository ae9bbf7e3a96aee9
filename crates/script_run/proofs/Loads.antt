-- Runs of a script from records.
use Rattle.std.proofs.Common.{◌≡◌, ◌≤◌, ℕ, List, [], ◌∷◌, length, inl, inr, arith, refl, sym, ap, subst, ◌∙◌}
use Rattle.std.specs.Prelude.{count_by}
use Rattle.std.proofs.lemmas.Bool.{cases_lt}
use Rattle.bpf_helpers.specs.declared.sig.Entry.{Entry}
use Rattle.record_codec.specs.declared.record.Record.{Record}
use Rattle.world.specs.Beginning.{BeginsWith}
use Rattle.world.specs.Dumps.{GoesOnFrom, IsDumpIn}
use Rattle.journal.specs.Logs.{Log}
use Rattle.world.specs.Knowledge.{Knowledge}
use Rattle.world.specs.Running.{Ran, AreRunnableFrom, IsWorldFrom, max_vnodes}
use Rattle.world.specs.declared.event.Event.{Event}
use Rattle.world.specs.declared.event.Reply.{Reply}
use Rattle.script_events.specs.declared.script.Answered.{Answered}
use Rattle.script_events.specs.declared.script.Script.{Script}
use Rattle.script_events.specs.Scripts.{IsRunnableFrom, tells_event}
use Rattle.script_events.proofs.Growing.{runs_over}
use Rattle.script_run.specs.Loading.{PrintsFrom, vnodes_of}
use Rattle.script_run.specs.Printing.{Tells}

-- a script without vnodes has no events, so they run over one
pub runs_over_some : (used : List ℕ) (listed : List Entry) (script : Script) (vnodes : ℕ) → vnodes ≡ vnodes_of script → IsRunnableFrom used listed script → AreRunnableFrom used vnodes listed script.events.items
runs_over_some used listed script vnodes is runnable = elim (cases_lt 0 script.vnodes) [
  | inl some ↦ subst (λ (n : ℕ). AreRunnableFrom used n listed script.events.items) (omega (arith, some, is)) runnable.events
  | inr none ↦ runs_over used script.vnodes vnodes listed script.events.items (omega (arith, none)) runnable.events
]

-- there are replies for the script's lines
pub enough_from : (used : List ℕ) (listed : List Entry) (script : Script) (answers : List Answered) (replies : List Reply) (ran : Ran) (events : List Event) → IsRunnableFrom used listed script → answers ≡ script.answered.items → events ≡ script.events.items
    → replies ≡ ran.replies → length ran.replies ≡ length events → count_by tells_event answers ≡ length replies
enough_from used listed script answers replies ran events runnable all_answers all all_replies each =
    ap (λ (ls : List Answered). count_by tells_event ls) all_answers ∙ runnable.told ∙ ap (λ (es : List Event). length es) (sym all) ∙ sym each ∙ ap (λ (rs : List Reply). length rs) (sym all_replies)

-- a script has some vnodes, and few
few_vnodes : (script : Script) (vnodes : ℕ) → vnodes ≡ vnodes_of script → script.vnodes ≤ 255 → (1 ≤ vnodes) × (vnodes ≤ max_vnodes)
few_vnodes script vnodes is few = elim (cases_lt 0 script.vnodes) [
  | inl some ↦ (omega (arith, some, is), omega (arith, some, is, few))
  | inr none ↦ (omega (arith, none, is), omega (arith, none, is))
]

-- what the script's lines print
pub prints_from : (listed : List Entry) (incarnation : ℕ) (records : List Record) (script : Script) (vnodes : ℕ) (events : List Event) (answers : List Answered) (ran : Ran) (replies : List Reply) (text : List ℕ)
    → IsRunnableFrom (0 ∷ incarnation ∷ []) listed script → vnodes ≡ vnodes_of script → events ≡ script.events.items
    → ((begin : Knowledge) → BeginsWith incarnation vnodes records events begin → IsWorldFrom begin vnodes listed events ran)
    → ((before : Knowledge) (logs : List Log) (vnode inc many : ℕ) (helpers : List Entry) (rs : List Record) (es : List Event) → 1 ≤ many → many ≤ max_vnodes → AreRunnableFrom (0 ∷ inc ∷ []) many helpers es
    → IsDumpIn before logs vnode inc many rs es → (begin : Knowledge) × BeginsWith inc many rs es begin × GoesOnFrom before vnode begin)
    → answers ≡ script.answered.items → replies ≡ ran.replies → Tells listed answers replies text → PrintsFrom listed incarnation records script text
prints_from listed incarnation records script vnodes events answers ran replies text runnable many all world dumps all_answers all_replies tells = record {
  runnable = runnable;
  ran = ran;
  world = goes;
  dumped = λ before logs vnode dump.
      let few = few_vnodes script (vnodes_of script) refl runnable.few in
      let begun = dumps before logs vnode incarnation (vnodes_of script) listed records script.events.items few.0 few.1 (runs_over_some (0 ∷ incarnation ∷ []) listed script (vnodes_of script) refl runnable) dump in
      (begun.0, begun.2, goes begun.0 begun.1);
  tells = subst (λ (rs : List Reply). Tells listed script.answered.items rs text) all_replies (subst (λ (ls : List Answered). Tells listed ls replies text) all_answers tells);
}
  where
    goes : (begin : Knowledge) → BeginsWith incarnation (vnodes_of script) records script.events.items begin → IsWorldFrom begin (vnodes_of script) listed script.events.items ran
    goes = subst (λ (n : ℕ). (begin : Knowledge) → BeginsWith incarnation n records script.events.items begin → IsWorldFrom begin n listed script.events.items ran) many
        (subst (λ (es : List Event). (begin : Knowledge) → BeginsWith incarnation vnodes records es begin → IsWorldFrom begin vnodes listed es ran) all world)
