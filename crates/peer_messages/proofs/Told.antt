-- The format of answers.
use Rattle.std.proofs.Common.{◌≡◌, ℕ, suc, true, false, List, [], ◌∷◌, ◌++◌, Option, Some, None, refl, sym, ap, subst, ◌∙◌}
use Rattle.key_state.specs.Parts.{Summarized}
use Rattle.key_state.specs.State.{State}
use Rattle.record_codec.specs.Records.{state}
use Rattle.record_codec.specs.Reading.{Reader, ◌>>=◌, dot_at, state_at}
use Rattle.record_codec.proofs.Fields.{dot_format}
use Rattle.record_codec.proofs.Formats.{IsBytes, IsFormat, bind_some, pair_format, some_is}
use Rattle.vnode.specs.declared.fault.VnodeFault.{VnodeFault}
use Rattle.vnode.specs.declared.fault.VnodeFault.TheVariants.{ContextAhead, TooManySiblings, ClockFull, MergedClockFull, JournalFull, NoMemory}
use Rattle.peer_remote.specs.declared.message.Told.{Told}
use Rattle.peer_remote.specs.declared.message.Told.TheVariants as told
use Rattle.peer_messages.specs.Limits.{IsSentPart, IsSource, IsTold}
use Rattle.peer_messages.specs.Messages.{emptied, fault_byte, source, summary, told_text}
use Rattle.peer_messages.specs.Reading.{fault_of, refused_at, source_at, summary_at, telling_at, told_at, told_dot_at, told_in, told_state_at, told_summary_at}
use Rattle.peer_messages.proofs.PartFormats.{summary_format}
use Rattle.peer_messages.proofs.Questions.{chosen, one_spelling, remade, source_format, whole_again, whole_at, whole_format, whole_takes}

-- ---- reads and summaries

short_at : Reader ((ℕ × ℕ) × Summarized)
short_at bytes = source_at bytes >>= λ source. summary_at source.1 >>= λ summary. Some ((source.0, summary.0), summary.1)

short_format : IsFormat short_at (λ w. source w.0.0 w.0.1 ++ summary w.1) (λ w. IsSource w.0.0 w.0.1 × IsSentPart (emptied w.1))
unfolding short_at
short_format =
    pair_format source_at (λ _. summary_at) (λ (s : ℕ × ℕ) (t : Summarized). (s, t)) (λ (w : (ℕ × ℕ) × Summarized). w.0) (λ (w : (ℕ × ℕ) × Summarized). w.1) (λ s. source s.0 s.1) summary (λ s. IsSource s.0 s.1) (λ _ s. IsSentPart (emptied s)) (λ a b. refl) (λ a b. refl) (λ w. refl)
    source_format (λ _. summary_format)

as_state : ((ℕ × ℕ) × State) × List ℕ → Option (Told × List ℕ)
as_state w = Some (told.State w.0.0.0 w.0.0.1 w.0.1, w.1)

state_is : (bytes : List ℕ) → told_state_at bytes ≡ (whole_at bytes >>= as_state)
unfolding told_state_at whole_at as_state
state_is bytes = remade (source_at bytes) (λ s. state_at s.1) (λ s t. told.State s.0 s.1 t)

as_summary : ((ℕ × ℕ) × Summarized) × List ℕ → Option (Told × List ℕ)
as_summary w = Some (told.Summary w.0.0.0 w.0.0.1 w.0.1, w.1)

summary_is : (bytes : List ℕ) → told_summary_at bytes ≡ (short_at bytes >>= as_summary)
unfolding told_summary_at short_at as_summary
summary_is bytes = remade (source_at bytes) (λ s. summary_at s.1) (λ s t. told.Summary s.0 s.1 t)

-- ---- refusals

is_of_byte : (byte : ℕ) (fault : VnodeFault) → fault_of byte ≡ Some fault → byte ≡ fault_byte fault
is_of_byte byte fault e =
    chosen byte 0 (Some ContextAhead) _ fault (byte ≡ fault_byte fault) e (λ is e. is ∙ ap fault_byte (some_fault ContextAhead fault e))
    (λ e. chosen byte 1 (Some TooManySiblings) _ fault (byte ≡ fault_byte fault) e (λ is e. is ∙ ap fault_byte (some_fault TooManySiblings fault e))
    (λ e. chosen byte 2 (Some ClockFull) _ fault (byte ≡ fault_byte fault) e (λ is e. is ∙ ap fault_byte (some_fault ClockFull fault e))
    (λ e. chosen byte 3 (Some MergedClockFull) _ fault (byte ≡ fault_byte fault) e (λ is e. is ∙ ap fault_byte (some_fault MergedClockFull fault e))
    (λ e. chosen byte 4 (Some JournalFull) _ fault (byte ≡ fault_byte fault) e (λ is e. is ∙ ap fault_byte (some_fault JournalFull fault e))
    (λ e. chosen byte 5 (Some NoMemory) None fault (byte ≡ fault_byte fault) e (λ is e. is ∙ ap fault_byte (some_fault NoMemory fault e))
    (λ e. absurd cc))))))
  where
    some_fault : (a b : VnodeFault) → Some a ≡ Some b → a ≡ b
    some_fault a b e = some_is a b e

byte_again : (fault : VnodeFault) → fault_of (fault_byte fault) ≡ Some fault
byte_again ContextAhead = refl
byte_again TooManySiblings = refl
byte_again ClockFull = refl
byte_again MergedClockFull = refl
byte_again JournalFull = refl
byte_again NoMemory = refl

-- ---- answers of a kind

abbrev Taken : ℕ → List ℕ → Told × List ℕ → Type 0
Taken kind bytes x = ((kind ∷ bytes) ≡ told_text x.0 ++ x.1) × IsTold x.0

dot_takes : (bytes : List ℕ) (x : Told × List ℕ) → IsBytes bytes → told_dot_at bytes ≡ Some x → Taken 0 bytes x
unfolding told_dot_at
dot_takes bytes x fits e =
    let d = bind_some (dot_at bytes) (λ dot. Some (told.Dot dot.0, dot.1)) x e in
    let t = dot_format.takes bytes d.0 fits d.1 in
    subst (Taken 0 bytes) (some_is (told.Dot d.0.0, d.0.1) x d.2) (ap (λ r. 0 ∷ r) t.0, t.1)

state_takes : (bytes : List ℕ) (x : Told × List ℕ) → IsBytes bytes → told_state_at bytes ≡ Some x → Taken 3 bytes x
unfolding as_state
state_takes bytes x fits e =
    let w = bind_some (whole_at bytes) as_state x (sym (state_is bytes) ∙ e) in
    let t = whole_format.takes bytes w.0 fits w.1 in
    subst (Taken 3 bytes) (some_is (told.State w.0.0.0.0 w.0.0.0.1 w.0.0.1, w.0.1) x w.2) (ap (λ r. 3 ∷ r) t.0, t.1)

summary_takes : (bytes : List ℕ) (x : Told × List ℕ) → IsBytes bytes → told_summary_at bytes ≡ Some x → Taken 4 bytes x
unfolding as_summary
summary_takes bytes x fits e =
    let w = bind_some (short_at bytes) as_summary x (sym (summary_is bytes) ∙ e) in
    let t = short_format.takes bytes w.0 fits w.1 in
    subst (Taken 4 bytes) (some_is (told.Summary w.0.0.0.0 w.0.0.0.1 w.0.0.1, w.0.1) x w.2) (ap (λ r. 4 ∷ r) t.0, t.1)

refused_takes : (bytes : List ℕ) (x : Told × List ℕ) → refused_at bytes ≡ Some x → Taken 6 bytes x
unfolding refused_at
refused_takes [] x e = absurd cc
refused_takes (byte ∷ rest) x e =
    let f = bind_some (fault_of byte) (λ fault. Some (told.Refused fault, rest)) x e in
    subst (Taken 6 (byte ∷ rest)) (some_is (told.Refused f.0, rest) x f.2) (ap (λ b. 6 ∷ b ∷ rest) (is_of_byte byte f.0 f.1), tt)

telling_takes : (kind : ℕ) (bytes : List ℕ) (x : Told × List ℕ) → IsBytes bytes → telling_at kind bytes ≡ Some x → Taken kind bytes x
unfolding telling_at
telling_takes kind bytes x fits e =
    chosen kind 0 (told_dot_at bytes) _ x (Taken kind bytes x) e (λ is e. subst (λ n. Taken n bytes x) (sym is) (dot_takes bytes x fits e))
    (λ e. chosen kind 1 (Some (told.Changed false, bytes)) _ x (Taken kind bytes x) e (λ is e. subst (Taken kind bytes) (some_is (told.Changed false, bytes) x e) (ap (λ n. n ∷ bytes) is, tt))
    (λ e. chosen kind 2 (Some (told.Changed true, bytes)) _ x (Taken kind bytes x) e (λ is e. subst (Taken kind bytes) (some_is (told.Changed true, bytes) x e) (ap (λ n. n ∷ bytes) is, tt))
    (λ e. chosen kind 3 (told_state_at bytes) _ x (Taken kind bytes x) e (λ is e. subst (λ n. Taken n bytes x) (sym is) (state_takes bytes x fits e))
    (λ e. chosen kind 4 (told_summary_at bytes) _ x (Taken kind bytes x) e (λ is e. subst (λ n. Taken n bytes x) (sym is) (summary_takes bytes x fits e))
    (λ e. chosen kind 5 (Some (told.Missing, bytes)) _ x (Taken kind bytes x) e (λ is e. subst (Taken kind bytes) (some_is (told.Missing, bytes) x e) (ap (λ n. n ∷ bytes) is, tt))
    (λ e. chosen kind 6 (refused_at bytes) None x (Taken kind bytes x) e (λ is e. subst (λ n. Taken n bytes x) (sym is) (refused_takes bytes x e))
    (λ e. absurd cc)))))))

told_takes : (bytes : List ℕ) (x : Told × List ℕ) → IsBytes bytes → told_at bytes ≡ Some x → (bytes ≡ told_text x.0 ++ x.1) × IsTold x.0
unfolding told_at
told_takes [] x fits e = absurd cc
told_takes (kind ∷ bytes) x fits e = telling_takes kind bytes x (λ i. fits (suc i)) e

told_again : (t : Told) (rest : List ℕ) → IsTold t → told_at (told_text t ++ rest) ≡ Some (t, rest)
unfolding told_at telling_at told_dot_at refused_at as_state as_summary
told_again (told.Dot d) rest h = ap (λ o. o >>= λ dot. Some (told.Dot dot.0, dot.1)) (dot_format.again d rest h)
told_again (told.Changed false) rest h = refl
told_again (told.Changed true) rest h = refl
told_again (told.State from at s) rest h = state_is ((source from at ++ state s) ++ rest) ∙ ap (λ o. o >>= as_state) (whole_format.again ((from, at), s) rest h)
told_again (told.Summary from at s) rest h = summary_is ((source from at ++ summary s) ++ rest) ∙ ap (λ o. o >>= as_summary) (short_format.again ((from, at), s) rest h)
told_again told.Missing rest h = refl
told_again (told.Refused fault) rest h = ap (λ o. o >>= λ fault. Some (told.Refused fault, rest)) (byte_again fault)

told_format : IsFormat told_at told_text IsTold
told_format = record { takes = told_takes; again = told_again }

pub told_read : (bytes : List ℕ) (t : Told) → IsBytes bytes → told_in bytes ≡ Some t → IsTold t × (bytes ≡ told_text t)
unfolding told_in
told_read bytes t fits e = whole_takes told_at told_text IsTold told_format bytes t fits e

pub told_known : (bytes : List ℕ) (t : Told) → IsTold t → bytes ≡ told_text t → told_in bytes ≡ Some t
unfolding told_in
told_known bytes t h is = whole_again told_at told_text IsTold told_format bytes t h is

pub answers_differ : (a b : Told) (x y : List ℕ) → IsTold a → IsTold b → told_text a ++ x ≡ told_text b ++ y → (a ≡ b) × (x ≡ y)
answers_differ a b x y h k e = one_spelling told_at told_text IsTold told_format a b x y h k e
