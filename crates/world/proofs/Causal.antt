-- A run keeps its puts causal.
use Rattle.std.proofs.Common.{◌≡◌, ◌≢◌, ℕ, zero, suc, ◌+◌, ◌≤◌, ◌⊎◌, true, cond, List, [], ◌∷◌, ◌++◌, length, get_or, set, refl, sym, ap, subst, ◌∙◌, inl, inr, arith}
use Rattle.std.specs.Prelude.{Contains, count_by, replicate, IsTrue}
use Rattle.std.proofs.lemmas.Bool.{and_parts, and_from, eq-eqb, eqb-true}
use Rattle.std.proofs.lemmas.List.{append_assoc, append-nil}
use Rattle.std.proofs.lemmas.List.Sums.{sum_by-append}
use Rattle.std.proofs.lemmas.List.Elements.{Contains-append_left, Contains-append_cases, Contains-push, Contains-push_cases}
use Rattle.dvv.specs.declared.Dot.{Dot}
use Rattle.key_state.specs.declared.content.Key.{Key}
use Rattle.key_state.specs.declared.content.Content.{Content}
use Rattle.key_state.specs.Known.{Write}
use Rattle.journal.proofs.Keyed.{one_key}
use Rattle.bpf_helpers.specs.declared.sig.Entry.{Entry as Helper}
use Rattle.std.specs.Prelude.{Option}
use Rattle.world.specs.declared.event.Event.{Event}
use Rattle.vnode.specs.declared.fault.VnodeFault.{VnodeFault}
use Rattle.world.specs.declared.event.Reply.{Reply}
use Rattle.world.specs.Knowledge.{Knowledge, KeyedWrite, Copy, Left, Nothing, Copied, Parted, CopiedAll, Chosen, Failed, opened, known_at, under, all_copied, copies_at, is_of, write_of, after_refusal, after_put, after_copy, after_part, after_delivery, after_restart, after_dump, after_load, after_run, after_nothing}
use Rattle.world.specs.Happening.{Happens, wants_memory, refused_alike, stored, put_refused, found, summarized, sent, part_sent, whole_sent, part_refused, delivered, delivery_refused, missing, restarted, dumped, dump_refused, loaded, full, resolved, choice_stored, choice_refused, nothing_chosen, Run, IsKnown, IsBrought, whole, part}
use Rattle.world.specs.Causality.{IsCausal, IsFresh, EachAfter}
use Rattle.world.specs.Numbering.{IsNumbered, IsLawful, WerePut}
use Rattle.dvv.specs.Clock.{covers}
use Rattle.world.proofs.Lists.{covers-true, same_key-same, from_of_key, from_under, Contains-nil, EachAfter-push, EachAfter-at, set_cases, push_cases}

-- a put counts among those of its vnode and key
pub counted : (p : KeyedWrite) (ps : List KeyedWrite) (v : ℕ) (key : Key) → is_of v key p ≡ true → count_by (is_of v key) (ps ++ p ∷ []) ≡ count_by (is_of v key) ps + 1
counted p ps v key t = rw (sum_by-append (λ q. cond (is_of v key q) 1 0) ps (p ∷ [])) (rw t (omega arith))

pub is_of-true : (p q : KeyedWrite) → q.key ≡ p.key → q.write.dot.vnode ≡ p.write.dot.vnode → is_of p.write.dot.vnode p.key q ≡ true
is_of-true p q k v = and_from _ _ (same_key-same q.key p.key k) (eq-eqb _ _ v)

pub is_of-parts : (q : KeyedWrite) (v : ℕ) (key : Key) → is_of v key q ≡ true → (q.key ≡ key) × (q.write.dot.vnode ≡ v)
is_of-parts q v key t = let p = and_parts _ _ t in (one_key q.key key p.0, eqb-true _ _ p.1)

count_grows : (v : ℕ) (key : Key) (ps : List KeyedWrite) (p : KeyedWrite) → count_by (is_of v key) ps ≤ count_by (is_of v key) (ps ++ p ∷ [])
count_grows v key ps p = rw (sum_by-append (λ q. cond (is_of v key q) 1 0) ps (p ∷ [])) (omega arith)

-- each earlier put has a lower number than the next
pub low : (before ps : List KeyedWrite) → EachAfter IsNumbered before ps → ((q : KeyedWrite) → Contains before q → (v : ℕ) (key : Key) → is_of v key q ≡ true → q.write.dot.n ≤ count_by (is_of v key) before) → (q : KeyedWrite) → Contains (before ++ ps) q → (v : ℕ) (key : Key) → is_of v key q ≡ true → q.write.dot.n ≤ count_by (is_of v key) (before ++ ps)
low before [] each lower q c v key t = subst (λ (qs : List KeyedWrite). q.write.dot.n ≤ count_by (is_of v key) qs) (sym (append-nil before)) (lower q (subst (λ (qs : List KeyedWrite). Contains qs q) (append-nil before) c) v key t)
low before (p ∷ ps) each lower q c v key t =
    subst (λ (qs : List KeyedWrite). q.write.dot.n ≤ count_by (is_of v key) qs) (append_assoc before (p ∷ []) ps)
    (low (before ++ p ∷ []) ps each.1 (λ r h u k tr. elim (Contains-push_cases before p r h) [
      | inl old ↦ omega (arith, lower r old u k tr, count_grows u k before p)
      | inr is ↦ let tp : is_of u k p ≡ true = ap (is_of u k) is ∙ tr in
          let parts = is_of-parts p u k tp in
          let same : p.write.dot.n ≡ 1 + count_by (is_of u k) before = each.0.numbered ∙ ap (λ (w : ℕ). 1 + count_by (is_of w p.key) before) parts.1 ∙ ap (λ (w : Key). 1 + count_by (is_of u w) before) parts.0 in
          let n : p.write.dot.n ≡ r.write.dot.n = ap (λ (x : KeyedWrite). x.write.dot.n) is in
          omega (arith, same, n, counted p before u k tp)
    ])
    q (subst (λ (qs : List KeyedWrite). Contains qs q) (sym (append_assoc before (p ∷ []) ps)) c) v key t)

-- the numbers and what was seen make the puts causal
fresh : (before : List KeyedWrite) (p : KeyedWrite) → EachAfter IsNumbered [] before → IsNumbered before p → IsFresh before p
fresh before p each numbered = record {
  unique = unique;
  unseen = λ q c k s. let at = EachAfter-at IsNumbered [] before q each c in let r = at.1.seen p.write.dot s in unique r.0 (at.2 r.0 r.1) (r.2 ∙ k) r.3;
  not_itself = λ s. let r = numbered.seen p.write.dot s in unique r.0 r.1 r.2 r.3;
}
  where
    unique : (q : KeyedWrite) → Contains before q → q.key ≡ p.key → q.write.dot ≢ p.write.dot
    unique q c k e = let n : q.write.dot.n ≡ p.write.dot.n = ap (λ (d : Dot). d.n) e in
        omega (arith, n, numbered.numbered, low [] before each (λ r h. absurd (Contains-nil r h)) q c p.write.dot.vnode p.key (is_of-true p q k (ap (λ (d : Dot). d.vnode) e)))

pub causal : (before ps : List KeyedWrite) → EachAfter IsNumbered [] before → EachAfter IsNumbered before ps → EachAfter IsFresh before ps
causal before [] first each = tt
causal before (p ∷ ps) first each = (fresh before p first each.0, causal (before ++ p ∷ []) ps (EachAfter-push IsNumbered [] before p first each.0) each.1)

-- an event that leaves puts and what is known as they were
leaves_lawful : (old new : Knowledge) (left : Left) → IsLawful old → new.puts ≡ old.puts → new.known ≡ old.known → new.left ≡ old.left ++ left ∷ [] → ((key : Key) (writes : List Write) → left ≡ Copied key writes → (w : Write) → Contains writes w → Contains old.puts (record { key = key; write = w }))
    → ((key : Key) (writes held : List Write) → left ≡ Parted key writes held → (w : Write) → Contains writes w → Contains old.puts (record { key = key; write = w }))
    → ((copies : List Copy) → left ≡ CopiedAll copies → (s : KeyedWrite) → Contains (all_copied copies) s → Contains old.puts s) → IsLawful new
leaves_lawful old new left lawful puts known lefts copied parted all = record {
  puts = subst (λ ps. EachAfter IsNumbered [] ps) (sym puts) lawful.puts;
  known = λ v s c. subst (λ ps. Contains ps s) (sym puts) (lawful.known v s (subst (λ (ks : List (List KeyedWrite)). Contains (get_or ks v []) s) known c));
  copied = λ e key writes is w c. subst (λ ps. Contains ps (let s : KeyedWrite = record { key = key; write = w } in s)) (sym puts) (elim (push_cases old.left left e Nothing) [
    | inl same ↦ lawful.copied e key writes (sym same ∙ ap (λ ls. get_or ls e Nothing) (sym lefts) ∙ is) w c
    | inr last ↦ copied key writes (sym last ∙ ap (λ ls. get_or ls e Nothing) (sym lefts) ∙ is) w c
  ]);
  parted = λ e key writes held is w c. subst (λ ps. Contains ps (let s : KeyedWrite = record { key = key; write = w } in s)) (sym puts) (elim (push_cases old.left left e Nothing) [
    | inl same ↦ lawful.parted e key writes held (sym same ∙ ap (λ ls. get_or ls e Nothing) (sym lefts) ∙ is) w c
    | inr last ↦ parted key writes held (sym last ∙ ap (λ ls. get_or ls e Nothing) (sym lefts) ∙ is) w c
  ]);
  copied_all = λ e copies is s c. subst (λ ps. Contains ps s) (sym puts) (elim (push_cases old.left left e Nothing) [
    | inl same ↦ lawful.copied_all e copies (sym same ∙ ap (λ ls. get_or ls e Nothing) (sym lefts) ∙ is) s c
    | inr last ↦ all copies (sym last ∙ ap (λ ls. get_or ls e Nothing) (sym lefts) ∙ is) s c
  ]);
}

pub lawful_refusal : (old : Knowledge) (r : VnodeFault) → IsLawful old → IsLawful (after_refusal old r)
lawful_refusal old r lawful = leaves_lawful old (after_refusal old r) (Failed r) lawful refl refl refl (λ key writes e. absurd (cc)) (λ key writes held e. absurd (cc)) (λ copies e. absurd (cc))

pub lawful_restart : (old : Knowledge) (v : ℕ) → IsLawful old → IsLawful (after_restart old v)
lawful_restart old v lawful = leaves_lawful old (after_restart old v) Nothing lawful refl refl refl (λ key writes e. absurd (cc)) (λ key writes held e. absurd (cc)) (λ copies e. absurd (cc))

pub lawful_run : (old : Knowledge) (key : Key) (writes : List Write) (content : Option Content) → IsLawful old → IsLawful (after_run old key writes content)
lawful_run old key writes content lawful = leaves_lawful old (after_run old key writes content) (Chosen key writes content) lawful refl refl refl (λ k ws e. absurd (cc)) (λ k ws held e. absurd (cc)) (λ copies e. absurd (cc))

pub lawful_nothing : (old : Knowledge) → IsLawful old → IsLawful (after_nothing old)
lawful_nothing old lawful = leaves_lawful old (after_nothing old) Nothing lawful refl refl refl (λ key writes e. absurd (cc)) (λ key writes held e. absurd (cc)) (λ copies e. absurd (cc))

pub known_put : (old : Knowledge) (v : ℕ) (key : Key) → IsLawful old → (w : Write) → Contains (known_at old v key) w → Contains old.puts (record { key = key; write = w })
known_put old v key lawful w c = lawful.known v (record { key = key; write = w }) (from_of_key key (get_or old.known v []) w c)

pub lawful_copy : (old : Knowledge) (v : ℕ) (key : Key) → IsLawful old → IsLawful (after_copy old v key)
lawful_copy old v key lawful = leaves_lawful old (after_copy old v key) (Copied key (known_at old v key)) lawful refl refl refl (λ k writes e w c.
    let ek : key ≡ k = cc in let ew : known_at old v key ≡ writes = cc in
    subst (λ (x : Key). Contains old.puts (let s : KeyedWrite = record { key = x; write = w } in s)) ek (known_put old v key lawful w (subst (λ (ws : List Write). Contains ws w) (sym ew) c)))
    (λ k writes held e. absurd (cc))
    (λ copies e. absurd (cc))

pub lawful_part : (old : Knowledge) (v : ℕ) (key : Key) (held : List Write) → IsLawful old → IsLawful (after_part old v key held)
lawful_part old v key held lawful = leaves_lawful old (after_part old v key held) (Parted key (known_at old v key) held) lawful refl refl refl (λ k writes e. absurd (cc))
    (λ k writes others e w c.
    let ek : key ≡ k = cc in let ew : known_at old v key ≡ writes = cc in
    subst (λ (x : Key). Contains old.puts (let s : KeyedWrite = record { key = x; write = w } in s)) ek (known_put old v key lawful w (subst (λ (ws : List Write). Contains ws w) (sym ew) c)))
    (λ copies e. absurd (cc))

same_keyed : (s : KeyedWrite) (key : Key) (w : Write) → s.key ≡ key → s.write ≡ w → s ≡ record { key = key; write = w }
same_keyed s key w a b = ap (λ (k : Key). let x : KeyedWrite = record { key = k; write = s.write } in x) a ∙ ap (λ (y : Write). let x : KeyedWrite = record { key = key; write = y } in x) b

pub lawful_put : (old : Knowledge) (v : ℕ) (key : Key) (seen : List Dot) (content : Content) → IsLawful old → IsKnown (known_at old v key) seen → IsLawful (after_put old v key (write_of old v key seen content))
lawful_put old v key seen content lawful accepts = record {
  puts = EachAfter-push IsNumbered [] old.puts put lawful.puts (record { numbered = refl; seen = seen_put });
  known = λ u s c. elim (set_cases old.known v u (get_or old.known v [] ++ under key (write ∷ [])) []) [
    | inl same ↦ Contains-append_left old.puts (put ∷ []) s (lawful.known u s (subst (λ (xs : List KeyedWrite). Contains xs s) same c))
    | inr is ↦ elim (Contains-append_cases (get_or old.known v []) (under key (write ∷ [])) s (subst (λ (xs : List KeyedWrite). Contains xs s) is.1 c)) [
      | inl was ↦ Contains-append_left old.puts (put ∷ []) s (lawful.known v s was)
      | inr joined ↦ elim (Contains-push_cases [] put s joined) [
        | inl none ↦ absurd (Contains-nil s none)
        | inr e ↦ subst (λ (x : KeyedWrite). Contains (old.puts ++ put ∷ []) x) e (Contains-push old.puts put)
      ]
    ]
  ];
  copied = λ e k writes is w c. elim (push_cases old.left Nothing e Nothing) [
    | inl same ↦ Contains-append_left old.puts (put ∷ []) (record { key = k; write = w }) (lawful.copied e k writes (sym same ∙ is) w c)
    | inr last ↦ absurd (let h : Nothing ≡ Copied k writes = sym last ∙ is in cc)
  ];
  parted = λ e k writes held is w c. elim (push_cases old.left Nothing e Nothing) [
    | inl same ↦ Contains-append_left old.puts (put ∷ []) (record { key = k; write = w }) (lawful.parted e k writes held (sym same ∙ is) w c)
    | inr last ↦ absurd (let h : Nothing ≡ Parted k writes held = sym last ∙ is in cc)
  ];
  copied_all = λ e copies is s c. elim (push_cases old.left Nothing e Nothing) [
    | inl same ↦ Contains-append_left old.puts (put ∷ []) s (lawful.copied_all e copies (sym same ∙ is) s c)
    | inr last ↦ absurd (let h : Nothing ≡ CopiedAll copies = sym last ∙ is in cc)
  ];
}
  where
    write : Write
    write = write_of old v key seen content

    put : KeyedWrite
    put = record { key = key; write = write_of old v key seen content }

    seen_put : (d : Dot) → IsTrue (covers seen d) → (q : KeyedWrite) × Contains old.puts q × (q.key ≡ key) × (q.write.dot ≡ d)
    seen_put d h = let x = accepts d (covers-true seen d h) in
        let q : KeyedWrite = record { key = key; write = x.0 } in
        let c = known_put old v key lawful x.0 x.1 in
        elim x.2 [
          | inl is ↦ (record { key = key; write = x.0 }, c, refl, is)
          | inr saw ↦ let at = EachAfter-at IsNumbered [] old.puts (record { key = key; write = x.0 }) lawful.puts c in let r = at.1.seen d saw in (r.0, at.2 r.0 r.1, r.2, r.3)
        ]

pub lawful_delivery : (old : Knowledge) (v : ℕ) (key : Key) (writes : List Write) → IsLawful old → ((w : Write) → Contains writes w → Contains old.puts (record { key = key; write = w })) → IsLawful (after_delivery old v key writes)
lawful_delivery old v key writes lawful was_put = record {
  puts = lawful.puts;
  known = λ u s c. elim (set_cases old.known v u (get_or old.known v [] ++ under key writes) []) [
    | inl same ↦ lawful.known u s (subst (λ (xs : List KeyedWrite). Contains xs s) same c)
    | inr is ↦ elim (Contains-append_cases (get_or old.known v []) (under key writes) s (subst (λ (xs : List KeyedWrite). Contains xs s) is.1 c)) [
      | inl was ↦ lawful.known v s was
      | inr joined ↦ let r = from_under key writes s joined in subst (λ (x : KeyedWrite). Contains old.puts x) (sym (same_keyed s key s.write r.0 refl)) (was_put s.write r.1)
    ]
  ];
  copied = λ e k ws is w c. elim (push_cases old.left Nothing e Nothing) [
    | inl same ↦ lawful.copied e k ws (sym same ∙ is) w c
    | inr last ↦ absurd (let h : Nothing ≡ Copied k ws = sym last ∙ is in cc)
  ];
  parted = λ e k ws held is w c. elim (push_cases old.left Nothing e Nothing) [
    | inl same ↦ lawful.parted e k ws held (sym same ∙ is) w c
    | inr last ↦ absurd (let h : Nothing ≡ Parted k ws held = sym last ∙ is in cc)
  ];
  copied_all = λ e copies is s c. elim (push_cases old.left Nothing e Nothing) [
    | inl same ↦ lawful.copied_all e copies (sym same ∙ is) s c
    | inr last ↦ absurd (let h : Nothing ≡ CopiedAll copies = sym last ∙ is in cc)
  ];
}

-- what a dump copied is known
copied_known : (old : Knowledge) (v : ℕ) (keys : List Key) (s : KeyedWrite) → Contains (all_copied (copies_at old v keys)) s → Contains (get_or old.known v []) s
copied_known old v [] s c = absurd (Contains-nil s c)
copied_known old v (key ∷ keys) s c = elim (Contains-append_cases (under key (known_at old v key)) (all_copied (copies_at old v keys)) s c) [
  | inl here ↦ let r = from_under key (known_at old v key) s here in
      subst (λ (x : KeyedWrite). Contains (get_or old.known v []) x) (sym (same_keyed s key s.write r.0 refl)) (from_of_key key (get_or old.known v []) s.write r.1)
  | inr rest ↦ copied_known old v keys s rest
]

pub lawful_dump : (old : Knowledge) (v : ℕ) (keys : List Key) → IsLawful old → IsLawful (after_dump old v keys)
lawful_dump old v keys lawful = leaves_lawful old (after_dump old v keys) (CopiedAll (copies_at old v keys)) lawful refl refl refl (λ key writes e. absurd (cc)) (λ key writes held e. absurd (cc))
    (λ copies e s c. let is : copies_at old v keys ≡ copies = cc in lawful.known v s (copied_known old v keys s (subst (λ (cs : List Copy). Contains (all_copied cs) s) (sym is) c)))

-- what a load leaves known at an index: what was copied, what was known there, or at the end what the closed identifier knew
loaded_known : (old : Knowledge) (v id : ℕ) (copies : List Copy) (u : ℕ) (s : KeyedWrite) → Contains (get_or (after_load old v id copies).known u []) s → Contains (all_copied copies) s ⊎ ((a : ℕ) × Contains (get_or old.known a []) s)
loaded_known old v id copies u s c = elim (push_cases (set old.known v (all_copied copies)) (get_or old.known v []) u []) [
  | inl same ↦ elim (set_cases old.known v u (all_copied copies) []) [
    | inl was ↦ inr (u, subst (λ (xs : List KeyedWrite). Contains xs s) (same ∙ was) c)
    | inr is ↦ inl (subst (λ (xs : List KeyedWrite). Contains xs s) (same ∙ is.1) c)
  ]
  | inr last ↦ inr (v, subst (λ (xs : List KeyedWrite). Contains xs s) last c)
]

pub lawful_load : (old : Knowledge) (v id : ℕ) (copies : List Copy) → IsLawful old → ((s : KeyedWrite) → Contains (all_copied copies) s → Contains old.puts s) → IsLawful (after_load old v id copies)
lawful_load old v id copies lawful were_put = record {
  puts = lawful.puts;
  known = λ u s c. elim (loaded_known old v id copies u s c) [ inl copied ↦ were_put s copied | inr was ↦ lawful.known was.0 s was.1 ];
  copied = λ e key writes is w c. elim (push_cases old.left Nothing e Nothing) [
    | inl same ↦ lawful.copied e key writes (sym same ∙ is) w c
    | inr last ↦ absurd (let h : Nothing ≡ Copied key writes = sym last ∙ is in cc)
  ];
  parted = λ e key writes held is w c. elim (push_cases old.left Nothing e Nothing) [
    | inl same ↦ lawful.parted e key writes held (sym same ∙ is) w c
    | inr last ↦ absurd (let h : Nothing ≡ Parted key writes held = sym last ∙ is in cc)
  ];
  copied_all = λ e cs is s c. elim (push_cases old.left Nothing e Nothing) [
    | inl same ↦ lawful.copied_all e cs (sym same ∙ is) s c
    | inr last ↦ absurd (let h : Nothing ≡ CopiedAll cs = sym last ∙ is in cc)
  ];
}

-- what a message brings was put
pub brought_put : (w : Knowledge) (message v : ℕ) (key : Key) (writes : List Write) → IsLawful w → IsBrought w message v key writes → WerePut w key writes
brought_put w message v key writes lawful (whole l) = lawful.copied message key writes l
brought_put w message v key writes lawful (part held l holds) = lawful.parted message key writes held l

-- an event keeps it
pub happens_lawful : (listed : List Helper) (old : Knowledge) (event : Event) (reply : Reply) (new : Knowledge) → IsLawful old → Happens listed old event reply new → IsLawful new
happens_lawful listed old event reply new lawful (wants_memory may r e) = subst IsLawful (sym e) (lawful_refusal old _ lawful)
happens_lawful listed old event reply new lawful (refused_alike name refusal n l r e) = subst IsLawful (sym e) (lawful_refusal old refusal lawful)
happens_lawful listed old event reply new lawful (stored v key seen content clock is means may r e) = subst IsLawful (sym e) (lawful_put old v key clock content lawful may.context)
happens_lawful listed old event reply new lawful (put_refused v key seen content clock refusal is means why r e) = subst IsLawful (sym e) (lawful_refusal old refusal lawful)
happens_lawful listed old event reply new lawful (found v key state is shows place r e) = subst IsLawful (sym e) (lawful_copy old v key lawful)
happens_lawful listed old event reply new lawful (summarized v key state is shows place r e) = subst IsLawful (sym e) (lawful_copy old v key lawful)
happens_lawful listed old event reply new lawful (sent v key message is carries place r e) = subst IsLawful (sym e) (lawful_copy old v key lawful)
happens_lawful listed old event reply new lawful (part_sent v key summary other held message is l carries place r e) = subst IsLawful (sym e) (lawful_part old v key held lawful)
happens_lawful listed old event reply new lawful (whole_sent v key summary other held message is l carries place r e) = subst IsLawful (sym e) (lawful_copy old v key lawful)
happens_lawful listed old event reply new lawful (part_refused v key summary other held is l f r e) = subst IsLawful (sym e) (lawful_refusal old _ lawful)
happens_lawful listed old event reply new lawful (delivered message v key writes changed is brought may c r e) = subst IsLawful (sym e) (lawful_delivery old v key writes lawful (brought_put old message v key writes lawful brought))
happens_lawful listed old event reply new lawful (missing message v key writes held is l lacks r e) = subst IsLawful (sym e) (lawful_nothing old lawful)
happens_lawful listed old event reply new lawful (delivery_refused message v key writes refusal is l why r e) = subst IsLawful (sym e) (lawful_refusal old refusal lawful)
happens_lawful listed old event reply new lawful (restarted v is place r e) = subst IsLawful (sym e) (lawful_restart old v lawful)
happens_lawful listed old event reply new lawful (dumped v keys copies is known places carries r e) = subst IsLawful (sym e) (lawful_dump old v keys lawful)
happens_lawful listed old event reply new lawful (dump_refused v keys is known many r e) = subst IsLawful (sym e) (lawful_refusal old _ lawful)
happens_lawful listed old event reply new lawful (loaded dump v incarnation copies is l fresh r e) = subst IsLawful (sym e) (lawful_load old v _ copies lawful (lawful.copied_all dump copies l))
happens_lawful listed old event reply new lawful (full v is f r e) = subst IsLawful (sym e) (lawful_refusal old _ lawful)
happens_lawful listed old event reply new lawful (resolved get hook key writes state resolution is l shows res r e) = subst IsLawful (sym e) (lawful_run old key writes _ lawful)
happens_lawful listed old event reply new lawful (choice_stored run v key writes content clock is l context may r e) = subst IsLawful (sym e) (lawful_put old v key clock content lawful may.context)
happens_lawful listed old event reply new lawful (choice_refused run v key writes content clock refusal is l context why r e) = subst IsLawful (sym e) (lawful_refusal old refusal lawful)
happens_lawful listed old event reply new lawful (nothing_chosen run v key writes is l r e) = subst IsLawful (sym e) (lawful_nothing old lawful)

pub run_lawful : (listed : List Helper) (old : Knowledge) (events : List Event) (replies : List Reply) (new : Knowledge) → IsLawful old → Run listed old events replies new → IsLawful new
run_lawful listed old [] [] new lawful run = subst IsLawful (sym run) lawful
run_lawful listed old (event ∷ events) (reply ∷ replies) new lawful run = run_lawful listed run.0 events replies new (happens_lawful listed old event reply run.0 lawful run.1) run.2
run_lawful listed old [] (reply ∷ replies) new lawful run = absurd run
run_lawful listed old (event ∷ events) [] new lawful run = absurd run

-- vnodes that know nothing
pub none_known : (n v : ℕ) → get_or (replicate n (let x : List KeyedWrite = [] in x)) v [] ≡ []
none_known zero v = refl
none_known (suc n) zero = refl
none_known (suc n) (suc v) = none_known n v

pub lawful_opened : (ids : List ℕ) → IsLawful (opened ids)
lawful_opened ids = record {
  puts = tt;
  known = λ v s c. absurd (Contains-nil s (subst (λ (xs : List KeyedWrite). Contains xs s) (none_known (length ids) v) c));
  copied = λ e key writes is w c. absurd (cc);
  parted = λ e key writes held is w c. absurd (cc);
  copied_all = λ e copies is s c. absurd (cc);
}

pub lawful_causal : (world : Knowledge) → IsLawful world → IsCausal world.puts
lawful_causal world lawful = causal [] world.puts tt lawful.puts

pub run_causal : (listed : List Helper) (ids : List ℕ) (events : List Event) (replies : List Reply) (world : Knowledge) → Run listed (opened ids) events replies world → IsCausal world.puts
run_causal listed ids events replies world run = lawful_causal world (run_lawful listed (opened ids) events replies world (lawful_opened ids) run)
