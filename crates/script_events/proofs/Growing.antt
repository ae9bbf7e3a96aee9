-- Events that can be run, with one more, and the lines that they come from.
use Rattle.std.proofs.Common.{◌≡◌, ℕ, ◌<◌, ◌≤◌, ◌⊎◌, List, [], ◌∷◌, ◌++◌, length, get_or, take, refl, sym, ap, subst, ◌∙◌, inl, inr, arith, Some, length-append}
use Rattle.std.specs.Prelude.{◌+◌, Bool, true, cond, slice_get, min, count_by}
use Rattle.std.specs.List.{sum_by}
use Rattle.std.proofs.lemmas.List.Sums.{sum_by-append}
use Rattle.std.proofs.Math.ListN.{get_or-append}
use Rattle.std.proofs.Math.Seq.{get_or-append_seam, take-append_seam}
use Rattle.std.proofs.Math.Nat.{min-le_left, min-le_right}
use Rattle.std.proofs.lemmas.Bool.{cases_lt}
use Rattle.std.proofs.lemmas.List.{take-append-le, get_or-take, length-take}
use Rattle.std.proofs.lemmas.Option.{slice_get_read, slice_get_within, get_or_from_slice_get}
use Rattle.world.specs.declared.event.Event.{Event}
use Rattle.bpf_helpers.specs.declared.sig.Entry.{Entry}
use Rattle.script_events.specs.declared.script.Script.{Script}
use Rattle.script_events.specs.declared.script.Answered.{Answered}
use Rattle.script_events.specs.Scripts.{IsRunnableFrom, IsOneMore, tells_event}
use Rattle.world.specs.declared.event.Event.TheVariants.{Put, Get, Summarize, Send, SendPart, Deliver, Restart, Dump, Load, ResolveRead, ResolveWrite}
use Rattle.bpf_verifier.specs.Program.{Program}
use Rattle.world.specs.Resolving.{MayRun}
use Rattle.world.specs.Running.{AreRunnableFrom, MayComeFrom}

-- what stands in a list with one more at its end
more_cases : (xs : List Event) (x y : Event) (place : ℕ) → slice_get (xs ++ x ∷ []) place ≡ Some y → ((place < length xs) × (slice_get xs place ≡ Some y)) ⊎ ((place ≡ length xs) × (x ≡ y))
more_cases xs x y place h = go (cases_lt place (length xs))
  where
    within : place < length (xs ++ x ∷ [])
    within = slice_get_within (xs ++ x ∷ []) place y h

    value : get_or (xs ++ x ∷ []) place y ≡ y
    value = get_or_from_slice_get (xs ++ x ∷ []) place y y h

    go : (place < length xs) ⊎ (length xs ≤ place) → ((place < length xs) × (slice_get xs place ≡ Some y)) ⊎ ((place ≡ length xs) × (x ≡ y))
    go (inl lt) = inl (lt, slice_get_read xs (length xs) place y refl lt (sym (sym (get_or-append xs (x ∷ []) y place lt) ∙ value)))
    go (inr le) = let is : place ≡ length xs = omega (arith, length-append xs (x ∷ []), within) in
        inr (is, sym (get_or-append_seam xs x [] y) ∙ ap (λ (n : ℕ). get_or (xs ++ x ∷ []) n y) (sym is) ∙ value)

-- an event that may come is run after the others
pub runnable_more : (used : List ℕ) (n : ℕ) (listed : List Entry) (events : List Event) (event : Event) → AreRunnableFrom used n listed events → MayComeFrom used n listed events event → AreRunnableFrom used n listed (events ++ event ∷ [])
runnable_more used n listed events event runnable comes place e at = elim (more_cases events event e place at) [
  | inl before ↦ subst (λ (es : List Event). MayComeFrom used n listed es e) (sym (take-append-le place events (event ∷ []) (let lt = before.0 in omega arith))) (runnable place e before.1)
  | inr last ↦ subst (λ (k : ℕ). MayComeFrom used n listed (take k (events ++ event ∷ [])) e) (sym last.0) (subst (λ (es : List Event). MayComeFrom used n listed es e) (sym (take-append_seam events (event ∷ []))) (subst (MayComeFrom used n listed events) last.1 comes))
]

-- one more at the end counts where it passes
counts_one : {X : Type 0} (p : X → Bool) (x : X) → p x ≡ true → sum_by (λ y. cond (p y) 1 0) (x ∷ []) ≡ 1
counts_one p x passes = let one : ℕ = 1 in let none : ℕ = 0 in ap (λ (b : Bool). 0 + cond b one none) passes

pub count_yes : {X : Type 0} (p : X → Bool) (xs : List X) (x : X) → p x ≡ true → count_by p (xs ++ x ∷ []) ≡ count_by p xs + 1
count_yes p xs x passes = sum_by-append (λ y. cond (p y) 1 0) xs (x ∷ []) ∙ ap (λ (n : ℕ). count_by p xs + n) (counts_one p x passes)

-- a script that can be run still can with one event more that may come
pub one_more : (used : List ℕ) (listed : List Entry) (old new : Script) (event : Event) (answered : Answered) → IsRunnableFrom used listed old → MayComeFrom used old.vnodes listed old.events.items event → IsOneMore old event answered new → tells_event answered ≡ true → IsRunnableFrom used listed new
one_more used listed old new event answered runnable comes more tells = record {
  few = subst (λ (n : ℕ). n ≤ 255) (sym more.vnodes) runnable.few;
  events = subst (λ (n : ℕ). AreRunnableFrom used n listed new.events.items) (sym more.vnodes) (subst (λ (es : List Event). AreRunnableFrom used old.vnodes listed es) (sym more.events) (runnable_more used old.vnodes listed old.events.items event runnable.events comes));
  told = ap (λ (lines : List Answered). count_by tells_event lines) more.answered ∙ count_yes tells_event old.answered.items answered tells ∙ ap (λ (n : ℕ). n + 1) runnable.told ∙ sym (length-append old.events.items (event ∷ [])) ∙ sym (ap (λ (es : List Event). length es) more.events);
}

-- what stands in the front of a list stands in the list
stands_in_whole : (events : List Event) (n place : ℕ) (event : Event) → slice_get (take n events) place ≡ Some event → slice_get events place ≡ Some event
stands_in_whole events n place event h =
    let within : place < length (take n events) = slice_get_within (take n events) place event h in
    let size : length (take n events) ≡ min n (length events) = length-take n events in
    let short : min n (length events) ≤ n = min-le_left n (length events) in
    let whole : min n (length events) ≤ length events = min-le_right n (length events) in
    slice_get_read events (length events) place event refl (omega (arith, within, size, whole)) (sym (sym (get_or-take n events place event (omega (arith, within, size, short))) ∙ get_or_from_slice_get (take n events) place event event h))

-- where there is no vnode no event may come
none_comes : (used : List ℕ) (listed : List Entry) (events : List Event) (place : ℕ) (event : Event) → AreRunnableFrom used 0 listed events → MayComeFrom used 0 listed (take place events) event → ⊥
none_comes used listed events place (Put v key seen content) runnable h = let lt = h.0 in omega arith
none_comes used listed events place (Get v key) runnable h = omega (arith, h)
none_comes used listed events place (Summarize v key) runnable h = omega (arith, h)
none_comes used listed events place (Send v key) runnable h = omega (arith, h)
none_comes used listed events place (SendPart v key summary) runnable h = let lt = h.0 in omega arith
none_comes used listed events place (Deliver message v) runnable h = let lt = h.0 in omega arith
none_comes used listed events place (Restart v) runnable h = omega (arith, h)
none_comes used listed events place (Dump v) runnable h = omega (arith, h)
none_comes used listed events place (Load dump v incarnation) runnable h = let lt = h.0 in omega arith
none_comes used listed events place (ResolveRead get hook) runnable h =
    let asked = h.0 in
    let lt : asked.0 < 0 = runnable get (Get asked.0 asked.1) (stands_in_whole events place get (Get asked.0 asked.1) asked.2) in
    omega (arith, lt)
none_comes used listed events place (ResolveWrite run v) runnable h = let lt = h.0 in omega arith

-- so whatever ran there runs over more
pub runs_over : (used : List ℕ) (m n : ℕ) (listed : List Entry) (events : List Event) → m ≡ 0 → AreRunnableFrom used m listed events → AreRunnableFrom used n listed events
runs_over used m n listed events none runnable place event at =
    let at_none : AreRunnableFrom used 0 listed events = subst (λ (k : ℕ). AreRunnableFrom used k listed events) none runnable in
    absurd (none_comes used listed events place event at_none (at_none place event at))

-- where nothing stands nothing has to run
pub nothing_runs : (used : List ℕ) (listed : List Entry) (script : Script) → script.vnodes ≡ 0 → script.events.items ≡ [] → script.answered.items ≡ [] → IsRunnableFrom used listed script
nothing_runs used listed script vnodes events answered = record {
  few = omega (arith, vnodes);
  events = subst (λ (es : List Event). AreRunnableFrom used script.vnodes listed es) (sym events) (λ place event at. absurd (let lt : place < 0 = slice_get_within [] place event at in omega (arith, lt)));
  told = ap (λ (lines : List Answered). count_by tells_event lines) answered ∙ sym (ap (λ (es : List Event). length es) events);
}

-- what runs at a place may run as a resolver
pub may_run : (used : List ℕ) (listed : List Entry) (script : Script) (events : List Event) (place get : ℕ) (hook : Program) → IsRunnableFrom used listed script → events ≡ script.events.items → slice_get events place ≡ Some (ResolveRead get hook) → MayRun listed hook
may_run used listed script events place get hook runnable same at =
    let comes : MayComeFrom used script.vnodes listed (take place script.events.items) (ResolveRead get hook) = runnable.events place (ResolveRead get hook) (subst (λ (es : List Event). slice_get es place ≡ Some (ResolveRead get hook)) same at) in
    comes.1

-- no load of an index and an incarnation is among the first events and one more, where it is neither among them nor that one
pub no_load_yet : (events : List Event) (i : ℕ) (event : Event) (vnode incarnation : ℕ) → event ≡ get_or events i event → ((place dump : ℕ) → place < i → slice_get events place ≡ Some (Load dump vnode incarnation) → ⊥) → ((dump : ℕ) → event ≡ Load dump vnode incarnation → ⊥)
    → (place dump : ℕ) → place < i + 1 → slice_get events place ≡ Some (Load dump vnode incarnation) → ⊥
no_load_yet events i event vnode incarnation is none other place dump lt at = elim (cases_lt place i) [
  | inl before ↦ none place dump before at
  | inr le ↦ let same : place ≡ i = omega (arith, lt, le) in
      other dump (is ∙ get_or_from_slice_get events i (Load dump vnode incarnation) event (subst (λ (k : ℕ). slice_get events k ≡ Some (Load dump vnode incarnation)) same at))
]
