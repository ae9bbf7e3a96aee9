-- Identifiers over a run: a load has a new one, a put has its vnode's, and all else leaves them. So the loads to come stay new.
use Rattle.std.proofs.Common.{◌≡◌, ◌≢◌, ℕ, zero, suc, ◌+◌, ◌*◌, ◌<◌, ◌≤◌, Bool, true, false, cond, List, [], ◌∷◌, ◌++◌, length, get_or, take, refl, sym, ap, subst, ◌∙◌, inl, inr, arith, Some, add-one, length-append, length-set}
use Rattle.std.specs.Prelude.{Contains, slice_get}
use Rattle.std.proofs.Math.ListN.{get_or-append}
use Rattle.std.proofs.Math.Seq.{get_or-append_seam}
use Rattle.std.proofs.lemmas.Bool.{cases_eq, cases_lt}
use Rattle.std.proofs.lemmas.List.Elements.{Contains-push_cases}
use Rattle.bpf_helpers.specs.declared.sig.Entry.{Entry as Helper}
use Rattle.key_state.specs.declared.content.Key.{Key}
use Rattle.key_state.specs.Known.{Write}
use Rattle.journal.specs.Logs.{Log}
use Rattle.world.specs.declared.event.Event.{Event}
use Rattle.world.specs.declared.event.Event.TheVariants.{Put, Get, Summarize, Send, SendPart, Deliver, Restart, Dump, Load, ResolveRead, ResolveWrite}
use Rattle.world.specs.declared.event.Reply.{Reply}
use Rattle.world.specs.Happening.{Happens, wants_memory, refused_alike, stored, put_refused, found, summarized, sent, part_sent, whole_sent, part_refused, delivered, delivery_refused, missing, restarted, dumped, dump_refused, loaded, full, resolved, choice_stored, choice_refused, nothing_chosen, IsNewId}
use Rattle.world.specs.Knowledge.{Knowledge, KeyedWrite, Copy, below, start, id_of, id_under, write_of, after_put, after_load}
use Rattle.world.specs.Represents.{Represents}
use Rattle.world.specs.Running.{MayComeFrom, AreRunnable, AreRunnableFrom, AreNewFrom, is_loaded}
use Rattle.world.proofs.Lists.{Contains-nil}
use Rattle.world.proofs.Loads.{set_here, set_there, set_last, length-set_more}

-- a put at a vnode
abbrev pub IsPutAt : Event → ℕ → Type 0
IsPutAt (Put at key seen content) vnode = at ≡ vnode
IsPutAt (ResolveWrite run at) vnode = at ≡ vnode
IsPutAt (Get at key) vnode = ⊥
IsPutAt (Summarize at key) vnode = ⊥
IsPutAt (Send at key) vnode = ⊥
IsPutAt (SendPart at key summary) vnode = ⊥
IsPutAt (Deliver message at) vnode = ⊥
IsPutAt (Restart at) vnode = ⊥
IsPutAt (Dump at) vnode = ⊥
IsPutAt (Load dump at incarnation) vnode = ⊥
IsPutAt (ResolveRead get hook) vnode = ⊥

-- what an event adds
pub data Grows (old : Knowledge) (event : Event) (reply : Reply) (new : Knowledge) : Type 0 where
  nothing_more : is_loaded reply ≡ false → new.ids ≡ old.ids → new.puts ≡ old.puts → length new.known ≡ length old.known → Grows old event reply new
  one_put : (v : ℕ) (key : Key) (write : Write) → IsPutAt event v → is_loaded reply ≡ false → write.dot.vnode ≡ id_of old v → new ≡ after_put old v key write → Grows old event reply new
  one_load : (dump v incarnation : ℕ) (copies : List Copy) → event ≡ Load dump v incarnation → is_loaded reply ≡ true → new ≡ after_load old v (id_under incarnation v) copies → Grows old event reply new

left_so : (old : Knowledge) (event : Event) (reply : Reply) (new after : Knowledge) → is_loaded reply ≡ false → new ≡ after → after.ids ≡ old.ids → after.puts ≡ old.puts → length after.known ≡ length old.known → Grows old event reply new
left_so old event reply new after l e ids puts known = nothing_more l (ap (λ (w : Knowledge). w.ids) e ∙ ids) (ap (λ (w : Knowledge). w.puts) e ∙ puts) (ap (λ (w : Knowledge). length w.known) e ∙ known)

pub grows : (listed : List Helper) (old : Knowledge) (event : Event) (reply : Reply) (new : Knowledge) → Happens listed old event reply new → Grows old event reply new
grows listed old event reply new (wants_memory may r e) = left_so old event reply new _ (ap is_loaded r) e refl refl refl
grows listed old event reply new (refused_alike name refusal n l r e) = left_so old event reply new _ (ap is_loaded r) e refl refl refl
grows listed old event reply new (stored v key seen content clock is means may r e) = one_put v key (write_of old v key clock content) (subst (λ (x : Event). IsPutAt x v) (sym is) refl) (ap is_loaded r) refl e
grows listed old event reply new (put_refused v key seen content clock refusal is means why r e) = left_so old event reply new _ (ap is_loaded r) e refl refl refl
grows listed old event reply new (found v key state is shows place r e) = left_so old event reply new _ (ap is_loaded r) e refl refl refl
grows listed old event reply new (summarized v key state is shows place r e) = left_so old event reply new _ (ap is_loaded r) e refl refl refl
grows listed old event reply new (sent v key message is carries place r e) = left_so old event reply new _ (ap is_loaded r) e refl refl refl
grows listed old event reply new (part_sent v key summary other held message is l carries place r e) = left_so old event reply new _ (ap is_loaded r) e refl refl refl
grows listed old event reply new (whole_sent v key summary other held message is l carries place r e) = left_so old event reply new _ (ap is_loaded r) e refl refl refl
grows listed old event reply new (part_refused v key summary other held is l f r e) = left_so old event reply new _ (ap is_loaded r) e refl refl refl
grows listed old event reply new (delivered message v key writes changed is l may c r e) = left_so old event reply new _ (ap is_loaded r) e refl refl (length-set old.known v _)
grows listed old event reply new (delivery_refused message v key writes refusal is l why r e) = left_so old event reply new _ (ap is_loaded r) e refl refl refl
grows listed old event reply new (missing message v key writes held is l lacks r e) = left_so old event reply new _ (ap is_loaded r) e refl refl refl
grows listed old event reply new (restarted v is place r e) = left_so old event reply new _ (ap is_loaded r) e refl refl refl
grows listed old event reply new (dumped v keys copies is known places carries r e) = left_so old event reply new _ (ap is_loaded r) e refl refl refl
grows listed old event reply new (dump_refused v keys is known many r e) = left_so old event reply new _ (ap is_loaded r) e refl refl refl
grows listed old event reply new (loaded dump v incarnation copies is l fresh r e) = one_load dump v incarnation copies is (ap is_loaded r) e
grows listed old event reply new (full v is f r e) = left_so old event reply new _ (ap is_loaded r) e refl refl refl
grows listed old event reply new (resolved get hook key writes state resolution is l shows res r e) = left_so old event reply new _ (ap is_loaded r) e refl refl refl
grows listed old event reply new (choice_stored run v key writes content clock is l context may r e) = one_put v key (write_of old v key clock content) (subst (λ (x : Event). IsPutAt x v) (sym is) refl) (ap is_loaded r) refl e
grows listed old event reply new (choice_refused run v key writes content clock refusal is l context why r e) = left_so old event reply new _ (ap is_loaded r) e refl refl refl
grows listed old event reply new (nothing_chosen run v key writes is l r e) = left_so old event reply new _ (ap is_loaded r) e refl refl refl

no_more : (n : ℕ) (b : Bool) → b ≡ false → n ≡ n + cond b 1 0
no_more n b is = let none : n ≡ n + cond false 1 0 = omega arith in none ∙ ap (λ (c : Bool). n + cond c 1 0) (sym is)

one_more : (n : ℕ) (b : Bool) → b ≡ true → n + 1 ≡ n + cond b 1 0
one_more n b is = ap (λ (c : Bool). n + cond c 1 0) (sym is)

-- one vnode more by a load, and none by any other event
known_more : (old : Knowledge) (event : Event) (reply : Reply) (new : Knowledge) → Grows old event reply new → length new.known ≡ length old.known + cond (is_loaded reply) 1 0
known_more old event reply new (nothing_more l ids puts known) = known ∙ no_more (length old.known) (is_loaded reply) l
known_more old event reply new (one_put v key write at l own e) = ap (λ (w : Knowledge). length w.known) e ∙ length-set old.known v _ ∙ no_more (length old.known) (is_loaded reply) l
known_more old event reply new (one_load dump v incarnation copies is l e) = ap (λ (w : Knowledge). length w.known) e ∙ length-set_more old.known v _ _ ∙ one_more (length old.known) (is_loaded reply) l

ids_more : (old : Knowledge) (event : Event) (reply : Reply) (new : Knowledge) → Grows old event reply new → length new.ids ≡ length old.ids + cond (is_loaded reply) 1 0
ids_more old event reply new (nothing_more l ids puts known) = ap length ids ∙ no_more (length old.ids) (is_loaded reply) l
ids_more old event reply new (one_put v key write at l own e) = ap (λ (w : Knowledge). length w.ids) e ∙ no_more (length old.ids) (is_loaded reply) l
ids_more old event reply new (one_load dump v incarnation copies is l e) = ap (λ (w : Knowledge). length w.ids) e ∙ length-set_more old.ids v _ _ ∙ one_more (length old.ids) (is_loaded reply) l

pub logs_more : (logs new : List Log) (old : Knowledge) (event : Event) (reply : Reply) (after : Knowledge) → Represents logs old → Represents new after → Grows old event reply after → length new ≡ length logs + cond (is_loaded reply) 1 0
logs_more logs new old event reply after rep now g = sym now.size ∙ known_more old event reply after g ∙ ap (λ (n : ℕ). n + cond (is_loaded reply) 1 0) rep.size

pub ids_still : (logs new : List Log) (old : Knowledge) (event : Event) (reply : Reply) (after : Knowledge) → Represents logs old → Represents new after → Grows old event reply after → length old.ids ≡ length logs → length after.ids ≡ length new
ids_still logs new old event reply after rep now g named = ids_more old event reply after g ∙ ap (λ (n : ℕ). n + cond (is_loaded reply) 1 0) named ∙ sym (logs_more logs new old event reply after rep now g)

-- an identifier that was new stays so, but for that of a load
stays_new : (old : Knowledge) (event : Event) (reply : Reply) (new : Knowledge) (id : ℕ) → Grows old event reply new → ((v : ℕ) → IsPutAt event v → v < length old.ids) → ((dump v incarnation : ℕ) → event ≡ Load dump v incarnation → (v < length old.ids) × (id_under incarnation v ≢ id)) → IsNewId old id → IsNewId new id
stays_new old event reply new id (nothing_more l ids puts known) inside other h = record {
  vnodes = λ u lu e. h.vnodes u (subst (λ (is : List ℕ). u < length is) ids lu) (ap (λ (is : List ℕ). get_or is u 0) (sym ids) ∙ e);
  puts = λ p c. h.puts p (subst (λ (ps : List KeyedWrite). Contains ps p) puts c);
}
stays_new old event reply new id (one_put v key write at l own e) inside other h = subst (λ (w : Knowledge). IsNewId w id) (sym e) (record {
  vnodes = h.vnodes;
  puts = λ p c d. elim (Contains-push_cases old.puts (record { key = key; write = write }) p c) [
    | inl was ↦ h.puts p was d
    | inr is ↦ h.vnodes v (inside v at) (sym own ∙ ap (λ (x : KeyedWrite). x.write.dot.vnode) is ∙ d)
  ];
})
stays_new old event reply new id (one_load dump v incarnation copies is l e) inside other h = subst (λ (w : Knowledge). IsNewId w id) (sym e) (record {
  vnodes = λ u lu same. elim (cases_eq u v) [
    | inl here ↦ (other dump v incarnation is).1 (sym (set_here old.ids v (id_under incarnation v) (id_of old v) 0 (other dump v incarnation is).0) ∙ ap (λ (k : ℕ). get_or (after_load old v (id_under incarnation v) copies).ids k 0) (sym here) ∙ same)
    | inr apart ↦ elim (cases_lt u (length old.ids)) [
      | inl within ↦ h.vnodes u within (sym (set_there old.ids v u (id_under incarnation v) (id_of old v) 0 apart within) ∙ same)
      | inr past ↦ h.vnodes v (other dump v incarnation is).0 (sym (set_last old.ids v u (id_under incarnation v) (id_of old v) 0 (let n = length-set_more old.ids v (id_under incarnation v) (id_of old v) in omega (arith, n, lu, past))) ∙ same)
    ]
  ];
  puts = h.puts;
})

-- the vnode of a put exists
put_inside : (used : List ℕ) (n : ℕ) (listed : List Helper) (before : List Event) (event : Event) (v : ℕ) → MayComeFrom used n listed before event → IsPutAt event v → v < n
put_inside used n listed before (Put at key seen content) v come is = subst (λ (u : ℕ). u < n) is come.0
put_inside used n listed before (ResolveWrite run at) v come is = subst (λ (u : ℕ). u < n) is come.0
put_inside used n listed before (Get at key) v come is = absurd is
put_inside used n listed before (Summarize at key) v come is = absurd is
put_inside used n listed before (Send at key) v come is = absurd is
put_inside used n listed before (SendPart at key summary) v come is = absurd is
put_inside used n listed before (Deliver message at) v come is = absurd is
put_inside used n listed before (Restart at) v come is = absurd is
put_inside used n listed before (Dump at) v come is = absurd is
put_inside used n listed before (Load dump at incarnation) v come is = absurd is
put_inside used n listed before (ResolveRead get hook) v come is = absurd is

-- the parts of an identifier
id_parts : (i v j u : ℕ) → v < 65536 → u < 65536 → i * 65536 + v ≡ j * 65536 + u → (i ≡ j) × (v ≡ u)
id_parts i v j u lv lu e = (omega (arith, lv, lu, e), omega (arith, lv, lu, e))

-- what stands before a place stands among those taken up to it
taken_at : {X : Type 0} (xs : List X) (n i : ℕ) (x : X) → i < n → slice_get xs i ≡ Some x → slice_get (take n xs) i ≡ Some x
taken_at [] zero i x lt h = absurd (omega (arith, lt))
taken_at [] (suc n) i x lt h = h
taken_at (y ∷ xs) zero i x lt h = absurd (omega (arith, lt))
taken_at (y ∷ xs) (suc n) zero x lt h = h
taken_at (y ∷ xs) (suc n) (suc i) x lt h = taken_at xs n i x (omega (arith, lt)) h

-- the loads that are still to come are new after one event more
pub new_from : (used : List ℕ) (n : ℕ) (listed : List Helper) (all : List Event) (count : ℕ) (old : Knowledge) (event : Event) (reply : Reply) (new : Knowledge) → AreRunnableFrom used n listed all → n ≤ 65536 → slice_get all count ≡ Some event → n ≤ length old.ids → Grows old event reply new → AreNewFrom old all count → AreNewFrom new all (count + 1)
new_from used n listed all count old event reply new runnable few here more g fresh place dump v incarnation le at =
    stays_new old event reply new (id_under incarnation v) g (λ u is. let lt = put_inside used n listed (take count all) event u (runnable count event here) is in omega (arith, lt, more)) other (fresh place dump v incarnation (omega (arith, le)) at)
  where
    later : MayComeFrom used n listed (take place all) (Load dump v incarnation)
    later = runnable place (Load dump v incarnation) at

    other : (d u i : ℕ) → event ≡ Load d u i → (u < length old.ids) × (id_under i u ≢ id_under incarnation v)
    other d u i is =
        let mine : MayComeFrom used n listed (take count all) (Load d u i) = subst (MayComeFrom used n listed (take count all)) is (runnable count event here) in (
          (let lt = mine.0 in omega (arith, lt, more)),
          λ e.
              let parts = id_parts i u incarnation v (let lt = mine.0 in omega (arith, lt, few)) (let lt = later.0 in omega (arith, lt, few)) e in
              later.2 (inr (count, d, subst (λ (x : Event). slice_get (take place all) count ≡ Some x) (is ∙ ap (λ (k : ℕ). Load d k i) parts.1 ∙ ap (λ (k : ℕ). Load d v k) parts.0) (taken_at all place count event (omega (arith, le)) here))),
        )

pub below_len : (n : ℕ) → length (below n) ≡ n
below_len zero = refl
below_len (suc n) = length-append (below n) (n ∷ []) ∙ ap (λ (k : ℕ). k + 1) (below_len n) ∙ add-one n

-- the numbers below one are distinct
pub below_at : (n v : ℕ) → v < n → get_or (below n) v 0 ≡ v
below_at zero v lt = absurd (omega arith)
below_at (suc n) v lt = elim (cases_lt v n) [
  | inl inside ↦ get_or-append (below n) (n ∷ []) 0 v (let l = below_len n in omega arith) ∙ below_at n v inside
  | inr last ↦ let is : v ≡ length (below n) = let l = below_len n in omega arith in ap (λ (k : ℕ). get_or (below n ++ n ∷ []) k 0) is ∙ get_or-append_seam (below n) n [] 0 ∙ (let l = below_len n in omega arith)
]

-- at the beginning all loads are new: an index is its own identifier, under incarnation 0
pub new_at_start : (n : ℕ) (listed : List Helper) (all : List Event) → AreRunnable n listed all → n ≤ 65536 → AreNewFrom (start n) all 0
new_at_start n listed all runnable few place dump v incarnation le at = record {
  vnodes = λ u lu e.
      let inside : u < n = let l = below_len n in omega (arith, l, lu) in
      let is : u ≡ incarnation * 65536 + v = sym (below_at n u inside) ∙ e in
      let first : 0 ≡ incarnation = omega (arith, inside, is, few) in
      (runnable place (Load dump v incarnation) at).2 (inl (0, omega arith, first));
  puts = λ p c. absurd (Contains-nil p c);
}
