-- What dumps and loads are, in journals: reads of each key in a row, and a journal of merges under a new identifier, with the closed one behind the others.
use Rattle.std.proofs.Common.{◌≡◌, ◌≢◌, ℕ, ◌+◌, ◌<◌, ◌⊎◌, Bool, true, false, cond, List, [], ◌∷◌, ◌++◌, length, get_or, set, refl, sym, ap, subst, ◌∙◌, inl, inr, arith, MatchBool, append_assoc, length-append, length-set}
use Rattle.std.specs.Prelude.{Contains, slice_set}
use Rattle.std.proofs.Math.ListN.{get_or-append}
use Rattle.std.proofs.Math.Seq.{get_or-append_seam}
use Rattle.std.proofs.lemmas.Bool.{cases_eq, cases_lt}
use Rattle.std.proofs.lemmas.List.{append-nil, get_or-set_same, get_or-set_other}
use Rattle.key_state.specs.declared.content.Key.{Key}
use Rattle.key_state.specs.State.{State}
use Rattle.key_state.specs.Known.{Write, AreUnique, ShowsKnown}
use Rattle.journal.specs.Keys.{same_key}
use Rattle.journal.specs.Entry.{Entry, Merge, Read}
use Rattle.journal.specs.Logs.{Log, with_entries}
use Rattle.journal.specs.Journals.{IsJournal}
use Rattle.journal.specs.Brought.{BringsAll, nothing, one_more}
use Rattle.journal.proofs.Keyed.{one_key}
use Rattle.vnode.specs.Keys.{AreKeys, reads_of}
use Rattle.vnode.proofs.ReadLemmas.{length-reads}
use Rattle.world.specs.Knowledge.{Knowledge, KeyedWrite, Copy, known_at, of_key, under, all_copied, accepted_at, id_of, IsStateOf, after_dump, after_load}
use Rattle.world.specs.Happening.{AreKnownKeys, IsNewId}
use Rattle.world.specs.Numbering.{IsLawful, WerePut}
use Rattle.world.specs.Represents.{Represents, log_at}
use Rattle.world.proofs.Lists.{same_key-same, Contains-later, Contains-first}
use Rattle.world.proofs.Causal.{lawful_dump, lawful_load}
use Rattle.world.proofs.Shown.{shows_known}
use Rattle.world.proofs.Numbers.{none_itself, of_key-under, of_key-append, of_key-other}
use Rattle.world.proofs.Steps.{brings_end, shown, one_of}

-- reads bring nothing
reads_bring : (key : Key) (es : List Entry) (known : List Write) (stamp : ℕ) (keys : List Key) → BringsAll key es known → BringsAll key (es ++ reads_of stamp keys) known
reads_bring key es known stamp [] b = subst (λ (xs : List Entry). BringsAll key xs known) (sym (append-nil es)) b
reads_bring key es known stamp (k ∷ keys) b =
    subst (λ (xs : List Entry). BringsAll key xs known) (append_assoc es (Read stamp k ∷ []) (reads_of (stamp + 1) keys))
    (reads_bring key (es ++ Read stamp k ∷ []) known (stamp + 1) keys (subst (λ (ws : List Write). BringsAll key (es ++ Read stamp k ∷ []) ws) (append-nil known) (brings_end key (Read stamp k) [] b refl)))

-- the keys of a vnode's journal are those of which it knows something
pub known_keys_are : (logs : List Log) (w : Knowledge) (v : ℕ) (keys : List Key) → Represents logs w → v < length logs → AreKeys (log_at logs v) keys → AreKnownKeys w v keys
known_keys_are logs w v keys rep inside are = record {
  each = λ k. (
    λ c. let r = (are.each k).0 c in (r.0, ((shown logs w v k rep inside).clock r.0).0 r.1),
    λ x. (are.each k).1 (x.0, ((shown logs w v k rep inside).clock x.0).1 x.1),
  );
  rising = are.rising;
}

-- A journal that has read each key is that of a dump.
pub dump_step : (logs : List Log) (w : Knowledge) (v stamp : ℕ) (keys : List Key) (log : Log) → Represents logs w → v < length logs → log ≡ with_entries (log_at logs v) (reads_of stamp keys) → IsJournal log.vnode log.entries
    → Represents (slice_set logs v log) (after_dump w v keys)
dump_step logs w v stamp keys log rep inside is legal = record {
  lawful = lawful_dump w v keys rep.lawful;
  own = rep.own;
  distinct = λ a b la lb same. rep.distinct a b (omega (arith, len, la)) (omega (arith, len, lb)) same;
  size = rep.size ∙ sym len;
  counts = length-set w.accepted v (accepted_at w v + length keys) ∙ rep.counts ∙ sym len;
  ids = λ u lu. elim (cases_eq u v) [
    | inl e ↦ subst (λ (a : ℕ). (log_at (slice_set logs v log) a).vnode ≡ id_of w a) (sym e) (ap (λ (l : Log). l.vnode) at_v ∙ id_is)
    | inr other ↦ ap (λ (l : Log). l.vnode) (at_other u other) ∙ rep.ids u (omega (arith, len, lu))
  ];
  accepted = λ u lu. elim (cases_eq u v) [
    | inl e ↦ subst (λ (a : ℕ). length (log_at (slice_set logs v log) a).entries ≡ get_or (set w.accepted v (accepted_at w v + length keys)) a 0) (sym e)
        (ap (λ (l : Log). length l.entries) at_v ∙ count ∙ sym (get_or-set_same w.accepted v (accepted_at w v + length keys) 0 (omega (arith, rep.counts, inside))))
    | inr other ↦ ap (λ (l : Log). length l.entries) (at_other u other) ∙ rep.accepted u (omega (arith, len, lu)) ∙ sym (get_or-set_other w.accepted v u (accepted_at w v + length keys) 0 other)
  ];
  legal = λ u lu. elim (cases_eq u v) [
    | inl e ↦ subst (λ (a : ℕ). IsJournal (id_of w a) (log_at (slice_set logs v log) a).entries) (sym e) (subst (λ (l : Log). IsJournal (id_of w v) l.entries) (sym at_v) (subst (λ (i : ℕ). IsJournal i log.entries) id_is legal))
    | inr other ↦ subst (λ (l : Log). IsJournal (id_of w u) l.entries) (sym (at_other u other)) (rep.legal u (omega (arith, len, lu)))
  ];
  brings = λ u k lu. elim (cases_eq u v) [
    | inl e ↦ subst (λ (a : ℕ). BringsAll k (log_at (slice_set logs v log) a).entries (known_at w a k)) (sym e)
        (subst (λ (l : Log). BringsAll k l.entries (known_at w v k)) (sym (at_v ∙ is)) (reads_bring k (log_at logs v).entries (known_at w v k) stamp keys (rep.brings v k inside)))
    | inr other ↦ subst (λ (l : Log). BringsAll k l.entries (known_at w u k)) (sym (at_other u other)) (rep.brings u k (omega (arith, len, lu)))
  ];
}
  where
    len : length (slice_set logs v log) ≡ length logs
    len = length-set logs v log

    at_v : log_at (slice_set logs v log) v ≡ log
    at_v = get_or-set_same logs v log (record { vnode = 0; entries = [] }) inside

    at_other : (u : ℕ) → u ≢ v → log_at (slice_set logs v log) u ≡ log_at logs u
    at_other u other = get_or-set_other logs v u log (record { vnode = 0; entries = [] }) other

    id_is : log.vnode ≡ id_of w v
    id_is = ap (λ (l : Log). l.vnode) is ∙ rep.ids v inside

    count : length log.entries ≡ accepted_at w v + length keys
    count = ap (λ (l : Log). length l.entries) is ∙ length-append (log_at logs v).entries (reads_of stamp keys)
        ∙ ap (λ (n : ℕ). n + length (reads_of stamp keys)) (rep.accepted v inside) ∙ ap (λ (n : ℕ). accepted_at w v + n) (length-reads stamp keys)

-- a merge of each copy: its key, and a state of its writes
pub data AreMerged : List Copy → List Entry → Type 0 where
  none : AreMerged [] []
  one_merged : (c : Copy) (cs : List Copy) (es : List Entry) (stamp from at : ℕ) (state : State) → IsStateOf c.writes state → AreMerged cs es → AreMerged (c ∷ cs) (Merge stamp c.key from at state ∷ es)

-- the writes of a key under another, or under itself
under_of : (key k : Key) (ws : List Write) → of_key k (under key ws) ≡ cond (same_key key k) ws []
under_of key k ws = go (same_key key k) refl
  where
    go : (b : Bool) → same_key key k ≡ b → of_key k (under key ws) ≡ cond b ws []
    go true t = subst (λ (q : Key). of_key q (under key ws) ≡ ws) (one_key key k t) (of_key-under key ws)
    go false f = of_key-other key k ws (λ e. clash (same_key-same key k (sym e)) f)
      where
        clash : {b : Bool} → b ≡ true → b ≡ false → ⊥
        clash t f = cc

-- merges bring what was copied
pub merges_bring : (w : Knowledge) (k : Key) → IsLawful w → {copies : List Copy} {es : List Entry} → AreMerged copies es → ((c : Copy) → Contains copies c → WerePut w c.key c.writes) → BringsAll k es (of_key k (all_copied copies))
merges_bring w k lawful none each = nothing
merges_bring w k lawful (one_merged c cs es stamp from at state is rest) each =
    subst (λ (ws : List Write). BringsAll k (Merge stamp c.key from at state ∷ es) ws)
    (ap (λ (ws : List Write). ws ++ of_key k (all_copied cs)) (sym (under_of c.key k c.writes)) ∙ sym (of_key-append k (under c.key c.writes) (all_copied cs)))
    (one_more (Merge stamp c.key from at state) es (cond (same_key c.key k) c.writes []) (of_key k (all_copied cs)) (brought (same_key c.key k) refl)
    (merges_bring w k lawful rest (λ d h. each d (Contains-later c cs d h))))
  where
    were : WerePut w c.key c.writes
    were = each c (Contains-first c cs)

    unique : AreUnique c.writes
    unique a b ca cb d = one_of w c.key c.writes c.writes lawful were were a b ca cb d

    brought : (b : Bool) → same_key c.key k ≡ b → MatchBool b (ShowsKnown state (cond b c.writes [])) (cond b c.writes [] ≡ [])
    brought true e = shows_known c.writes state unique (none_itself w c.key c.writes lawful were) is
    brought false e = refl

-- what stands in a list in which one was set, with one more behind it
pub set_here : {X : Type 0} (xs : List X) (v : ℕ) (x last d : X) → v < length xs → get_or (set xs v x ++ last ∷ []) v d ≡ x
set_here xs v x last d inside = get_or-append (set xs v x) (last ∷ []) d v (let l = length-set xs v x in omega (arith, l, inside)) ∙ get_or-set_same xs v x d inside

pub set_there : {X : Type 0} (xs : List X) (v u : ℕ) (x last d : X) → u ≢ v → u < length xs → get_or (set xs v x ++ last ∷ []) u d ≡ get_or xs u d
set_there xs v u x last d other inside = get_or-append (set xs v x) (last ∷ []) d u (let l = length-set xs v x in omega (arith, l, inside)) ∙ get_or-set_other xs v u x d other

pub set_last : {X : Type 0} (xs : List X) (v u : ℕ) (x last d : X) → u ≡ length xs → get_or (set xs v x ++ last ∷ []) u d ≡ last
set_last xs v u x last d is = ap (λ (n : ℕ). get_or (set xs v x ++ last ∷ []) n d) (is ∙ sym (length-set xs v x)) ∙ get_or-append_seam (set xs v x) last [] d

pub length-set_more : {X : Type 0} (xs : List X) (v : ℕ) (x last : X) → length (set xs v x ++ last ∷ []) ≡ length xs + 1
length-set_more xs v x last = length-append (set xs v x) (last ∷ []) ∙ ap (λ (n : ℕ). n + 1) (length-set xs v x)

-- the index of a load after it: the new journal, under the new identifier, with what was loaded
record IsLoadedAt (log : Log) (id : ℕ) (copies : List Copy) (logs : List Log) (w : Knowledge) (u : ℕ) : Type 0 where
  pub log_is : log_at logs u ≡ log
  pub id_is : id_of w u ≡ id
  pub known_is : get_or w.known u [] ≡ all_copied copies
  pub accepted_is : accepted_at w u ≡ length copies

-- any other: a vnode of before, as it was
record IsKept (logs : List Log) (w : Knowledge) (v o : ℕ) (logs_after : List Log) (after : Knowledge) (u : ℕ) : Type 0 where
  pub inside : o < length logs
  pub log_is : log_at logs_after u ≡ log_at logs o
  pub id_is : id_of after u ≡ id_of w o
  pub known_is : get_or after.known u [] ≡ get_or w.known o []
  pub accepted_is : accepted_at after u ≡ accepted_at w o
  pub place : ((u ≡ o) × (o ≢ v)) ⊎ ((o ≡ v) × (u ≡ length logs))

-- two indexes after a load that were one before are one
pub one_index : (v n a b oa ob : ℕ) → oa ≡ ob → ((a ≡ oa) × (oa ≢ v)) ⊎ ((oa ≡ v) × (a ≡ n)) → ((b ≡ ob) × (ob ≢ v)) ⊎ ((ob ≡ v) × (b ≡ n)) → a ≡ b
one_index v n a b oa ob same (inl pa) (inl pb) = pa.0 ∙ same ∙ sym pb.0
one_index v n a b oa ob same (inl pa) (inr pb) = absurd (pa.1 (same ∙ pb.0))
one_index v n a b oa ob same (inr pa) (inl pb) = absurd (pb.1 (sym same ∙ pa.0))
one_index v n a b oa ob same (inr pa) (inr pb) = pa.1 ∙ sym pb.1

-- A journal of what was copied, under a new identifier, is that of a load. The closed one stands behind the others.
pub load_step : (logs : List Log) (w : Knowledge) (v id : ℕ) (log : Log) (copies : List Copy) → Represents logs w → v < length logs → length w.ids ≡ length logs → IsNewId w id → ((s : KeyedWrite) → Contains (all_copied copies) s → Contains w.puts s)
    → log.vnode ≡ id → length log.entries ≡ length copies → IsJournal id log.entries → ((k : Key) → BringsAll k log.entries (of_key k (all_copied copies)))
    → Represents (slice_set logs v log ++ log_at logs v ∷ []) (after_load w v id copies)
load_step logs w v id log copies rep inside named fresh put vnode_is count legal brings = record {
  lawful = lawful_load w v id copies rep.lawful put;
  own = λ u p lu c e. elim (row u (omega (arith, known_len, lu, len))) [
    | inl n ↦ absurd (fresh.puts p c (e ∙ n.1.id_is))
    | inr r ↦ subst (λ (ks : List KeyedWrite). Contains ks p) (sym r.1.known_is) (rep.own r.0 p (let i = r.1.inside in omega (arith, i, rep.size)) c (e ∙ r.1.id_is))
  ];
  distinct = λ a b la lb same. elim (row a la) [
    | inl na ↦ elim (row b lb) [
      | inl nb ↦ na.0 ∙ sym nb.0
      | inr rb ↦ absurd (fresh.vnodes rb.0 (let i = rb.1.inside in omega (arith, i, named)) (sym rb.1.id_is ∙ sym same ∙ na.1.id_is))
    ]
    | inr ra ↦ elim (row b lb) [
      | inl nb ↦ absurd (fresh.vnodes ra.0 (let i = ra.1.inside in omega (arith, i, named)) (sym ra.1.id_is ∙ same ∙ nb.1.id_is))
      | inr rb ↦ one_index v (length logs) a b ra.0 rb.0 (rep.distinct ra.0 rb.0 ra.1.inside rb.1.inside (sym ra.1.id_is ∙ same ∙ rb.1.id_is)) ra.1.place rb.1.place
    ]
  ];
  size = known_len ∙ sym len;
  counts = length-set_more w.accepted v (length copies) (accepted_at w v) ∙ ap (λ (n : ℕ). n + 1) rep.counts ∙ sym len;
  ids = λ u lu. elim (row u lu) [
    | inl n ↦ ap (λ (l : Log). l.vnode) n.1.log_is ∙ vnode_is ∙ sym n.1.id_is
    | inr r ↦ ap (λ (l : Log). l.vnode) r.1.log_is ∙ rep.ids r.0 r.1.inside ∙ sym r.1.id_is
  ];
  accepted = λ u lu. elim (row u lu) [
    | inl n ↦ ap (λ (l : Log). length l.entries) n.1.log_is ∙ count ∙ sym n.1.accepted_is
    | inr r ↦ ap (λ (l : Log). length l.entries) r.1.log_is ∙ rep.accepted r.0 r.1.inside ∙ sym r.1.accepted_is
  ];
  legal = λ u lu. elim (row u lu) [
    | inl n ↦ subst (λ (i : ℕ). IsJournal i (log_at after u).entries) (sym n.1.id_is) (subst (λ (l : Log). IsJournal id l.entries) (sym n.1.log_is) legal)
    | inr r ↦ subst (λ (i : ℕ). IsJournal i (log_at after u).entries) (sym r.1.id_is) (subst (λ (l : Log). IsJournal (id_of w r.0) l.entries) (sym r.1.log_is) (rep.legal r.0 r.1.inside))
  ];
  brings = λ u key lu. elim (row u lu) [
    | inl n ↦ subst (λ (ks : List KeyedWrite). BringsAll key (log_at after u).entries (of_key key ks)) (sym n.1.known_is) (subst (λ (l : Log). BringsAll key l.entries (of_key key (all_copied copies))) (sym n.1.log_is) (brings key))
    | inr r ↦ subst (λ (ks : List KeyedWrite). BringsAll key (log_at after u).entries (of_key key ks)) (sym r.1.known_is) (subst (λ (l : Log). BringsAll key l.entries (known_at w r.0 key)) (sym r.1.log_is) (rep.brings r.0 key r.1.inside))
  ];
}
  where
    after : List Log
    after = slice_set logs v log ++ log_at logs v ∷ []

    new : Knowledge
    new = after_load w v id copies

    len : length (slice_set logs v log ++ log_at logs v ∷ []) ≡ length logs + 1
    len = length-set_more logs v log (log_at logs v)

    known_len : length (set w.known v (all_copied copies) ++ get_or w.known v [] ∷ []) ≡ length logs + 1
    known_len = length-set_more w.known v (all_copied copies) (get_or w.known v []) ∙ ap (λ (n : ℕ). n + 1) rep.size

    row : (u : ℕ) → u < length (slice_set logs v log ++ log_at logs v ∷ []) → ((u ≡ v) × IsLoadedAt log id copies (slice_set logs v log ++ log_at logs v ∷ []) (after_load w v id copies) u)
        ⊎ ((o : ℕ) × IsKept logs w v o (slice_set logs v log ++ log_at logs v ∷ []) (after_load w v id copies) u)
    row u lu = elim (cases_eq u v) [
      | inl here ↦ inl (
        here,
        subst (λ (a : ℕ). IsLoadedAt log id copies (slice_set logs v log ++ log_at logs v ∷ []) (after_load w v id copies) a) (sym here) (record {
          log_is = set_here logs v log (log_at logs v) (record { vnode = 0; entries = [] }) inside;
          id_is = set_here w.ids v id (id_of w v) 0 (omega (arith, inside, named));
          known_is = set_here w.known v (all_copied copies) (get_or w.known v []) [] (omega (arith, inside, rep.size));
          accepted_is = set_here w.accepted v (length copies) (accepted_at w v) 0 (omega (arith, inside, rep.counts));
        }),
      )
      | inr other ↦ elim (cases_lt u (length logs)) [
        | inl within ↦ inr (
          u,
          record {
            inside = within;
            log_is = set_there logs v u log (log_at logs v) (record { vnode = 0; entries = [] }) other within;
            id_is = set_there w.ids v u id (id_of w v) 0 other (omega (arith, within, named));
            known_is = set_there w.known v u (all_copied copies) (get_or w.known v []) [] other (omega (arith, within, rep.size));
            accepted_is = set_there w.accepted v u (length copies) (accepted_at w v) 0 other (omega (arith, within, rep.counts));
            place = inl (refl, other);
          },
        )
        | inr past ↦ let last : u ≡ length logs = omega (arith, past, lu, len) in inr (
          v,
          record {
            inside = inside;
            log_is = set_last logs v u log (log_at logs v) (record { vnode = 0; entries = [] }) last;
            id_is = set_last w.ids v u id (id_of w v) 0 (last ∙ sym named);
            known_is = set_last w.known v u (all_copied copies) (get_or w.known v []) [] (last ∙ sym rep.size);
            accepted_is = set_last w.accepted v u (length copies) (accepted_at w v) 0 (last ∙ sym rep.counts);
            place = inr (refl, last);
          },
        )
      ]
    ]
