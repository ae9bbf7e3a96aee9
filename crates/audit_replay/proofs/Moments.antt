-- What was known before a step stays what the journals brought up to it.
use Rattle.std.proofs.Common.{◌≡◌, ℕ, ◌<◌, ◌≤◌, ◌==◌, ◌⊎◌, Bool, List, [], ◌∷◌, ◌++◌, length, take, refl, sym, ap, subst, ◌∙◌, inl, inr, arith, Some, false, true, if◌then◌else◌, eq-eqb}
use Rattle.std.specs.Prelude.{slice_get}
use Rattle.std.proofs.lemmas.Bool.Decides.{nat_tests}
use Rattle.std.proofs.lemmas.List.{take_all}
use Rattle.std.proofs.lemmas.Option.{slice_get_within}
use Rattle.journal.specs.Entry.{Entry}
use Rattle.journal.specs.Journals.{MayFollow}
use Rattle.journal.specs.Logs.{Log}
use Rattle.world.specs.declared.event.Event.{Event}
use Rattle.world.specs.declared.event.Reply.{Reply}
use Rattle.world.specs.Happening.{Happens}
use Rattle.world.specs.Knowledge.{Knowledge}
use Rattle.world.specs.Represents.{Represents, log_at, with_entry_at}
use Rattle.world.proofs.Whole.{more_cases}
use Rattle.audit_replay.specs.Order.{Step}
use Rattle.audit_replay.specs.Interleaved.{Happened, IsEventOf, IsMoment, known_before, nothing, one_more}
use Rattle.audit_replay.specs.Turns.{EntryIn}
use Rattle.audit_replay.proofs.Grown.{entry_stays, front_stays, grown_at, same_size}
use Rattle.audit_replay.proofs.Names.{same_ids}
use Rattle.audit_replay.proofs.Next.{step_at, at_end}

-- the new one stands there
pub new_there : (logs : List Log) (i : ℕ) (x : Entry) → i < length logs → EntryIn (with_entry_at logs i x) i (length (log_at logs i).entries) x
new_there logs i x inside = (omega (arith, same_size logs i x, inside), ap (λ (l : Log). slice_get l.entries (length (log_at logs i).entries)) (grown_at logs i x inside) ∙ at_end (log_at logs i).entries x (length (log_at logs i).entries) refl)

-- what it comes behind stays before it
pub all_before : (logs : List Log) (i : ℕ) (x : Entry) → i < length logs → take (length (log_at logs i).entries) (log_at (with_entry_at logs i x) i).entries ≡ (log_at logs i).entries
all_before logs i x inside = front_stays logs i x i (length (log_at logs i).entries) inside (omega arith) ∙ take_all (length (log_at logs i).entries) (log_at logs i).entries (omega arith)

abbrev log_of : ℕ → List Entry → Log
log_of vnode entries = record { vnode = vnode; entries = entries }

-- a moment stays so where a vnode has an entry more
moment_stays : (now : List Log) (i : ℕ) (x : Entry) (s : Step) (old : Knowledge) → i < length now → IsMoment now s old → IsMoment (with_entry_at now i x) s old
moment_stays now i x s old inside m = record {
  entry = entry_stays now i x s.vnode s.place s.entry inside m.entry;
  now = m.now;
  size = m.size ∙ sym (same_size now i x);
  represents = m.represents;
  front = m.front ∙ ap (λ (v : ℕ). log_of v (take s.place (log_at now s.vnode).entries)) ((same_ids now i x).1 s.vnode)
      ∙ ap (λ (es : List Entry). log_of (log_at (with_entry_at now i x) s.vnode).vnode es) (sym (front_stays now i x s.vnode s.place inside (let lt = slice_get_within (log_at now s.vnode).entries s.place s.entry m.entry.1 in omega (arith, lt))));
  follows = m.follows;
}

-- an entry that is next comes to journals that brought what is known
next_moment : (now : List Log) (i : ℕ) (x : Entry) (old : Knowledge) → i < length now → Represents now old → MayFollow (log_at now i).vnode (log_at now i).entries x
    → IsMoment (with_entry_at now i x) (step_at i (length (log_at now i).entries) x) old
next_moment now i x old inside represents follows = record {
  entry = new_there now i x inside;
  now = now;
  size = sym (same_size now i x);
  represents = represents;
  front = ap (λ (es : List Entry). log_of (log_at now i).vnode es) (sym (all_before now i x inside)) ∙ ap (λ (v : ℕ). log_of v (take (length (log_at now i).entries) (log_at (with_entry_at now i x) i).entries)) ((same_ids now i x).1 i);
  follows = follows;
}

module _ (begin : Knowledge) (logs now : List Log) (steps : List Step) (replies : List Reply) (known : Knowledge) (happened : Happened begin logs steps replies known) where
  -- one step more: those before it have their moments, and this one has its own
  pub moments_more : (i : ℕ) (x : Entry) (what : Event) (reply : Reply) (new : Knowledge) (is : IsEventOf logs steps replies i x what reply) (happens : Happens [] known what reply new) → i < length now → Represents now known
      → MayFollow (log_at now i).vnode (log_at now i).entries x → ((number : ℕ) (s : Step) → slice_get steps number ≡ Some s → IsMoment now s (known_before happened number))
      → (number : ℕ) (s : Step) → slice_get (steps ++ step_at i (length (log_at now i).entries) x ∷ []) number ≡ Some s
      → IsMoment (with_entry_at now i x) s (known_before (one_more steps replies known (step_at i (length (log_at now i).entries) x) what reply new happened is happens) number)
  moments_more i x what reply new is happens inside represents follows moments number s at = elim (more_cases steps (step_at i (length (log_at now i).entries) x) s number at) [
    | inl before ↦
        (let apart : (number == length steps) ≡ false = (let lt = before.0 in grind (arith, nat_tests)) in
        subst (λ (b : Bool). IsMoment (with_entry_at now i x) s (if b then known else known_before happened number)) (sym apart) (moment_stays now i x s (known_before happened number) inside (moments number s before.1)))
    | inr last ↦
        (let here : (number == length steps) ≡ true = eq-eqb number (length steps) last.0 in
        subst (λ (b : Bool). IsMoment (with_entry_at now i x) s (if b then known else known_before happened number)) (sym here)
        (subst (λ (t : Step). IsMoment (with_entry_at now i x) t known) last.1 (next_moment now i x known inside represents follows)))
  ]
