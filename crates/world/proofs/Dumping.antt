-- A run that begins with a dump goes on from the world that led to it.
use Rattle.std.proofs.Common.{◌≡◌, ◌≢◌, ℕ, ◌+◌, ◌*◌, ◌<◌, ◌≤◌, Bool, true, false, List, [], ◌∷◌, length, get_or, set, take, refl, sym, ap, subst, ◌∙◌, inl, inr, arith, MatchBool, length-set}
use Rattle.std.specs.Prelude.{Contains, ◌&&◌, ◌||◌}
use Rattle.std.specs.List.Sorted.{IsStrictlySortedBy}
use Rattle.std.specs.Cmp.{IsEquivalence, both_ways}
use Rattle.std.specs.Ordering.{eq_by_cmp}
use Rattle.std.specs.Set.{is_member}
use Rattle.std.proofs.lemmas.Bool.{and_parts, cases_eq, cases_lt, or_cases}
use Rattle.std.proofs.lemmas.List.{append-nil, get_or-set_same, get_or-set_other, get_or-map, length-take-le, length-map}
use Rattle.std.proofs.lemmas.Map.Keys.{IsDistinct-from_sorted}
use Rattle.std.proofs.lemmas.Map.Made.{length-le_from_is_member}
use Rattle.std.proofs.lemmas.Option.{slice_get-get_or}
use Rattle.bpf_helpers.specs.declared.sig.Entry.{Entry as Helper}
use Rattle.dvv.specs.declared.Dot.{Dot}
use Rattle.dvv.specs.Clock.{covers}
use Rattle.key_state.specs.declared.content.Key.{Key}
use Rattle.key_state.specs.Known.{Write, InContext, ShowsKnown}
use Rattle.key_state.specs.State.{is_dot}
use Rattle.journal.specs.Entry.{Entry, Put, Merge, Read, Restart}
use Rattle.journal.specs.Keys.{key_cmp, same_key}
use Rattle.journal.specs.Logs.{Log, max_entries}
use Rattle.journal.specs.Journals.{IsJournal, MayFollow}
use Rattle.journal.specs.Limits.{TakesEntry}
use Rattle.journal.specs.Replay.{known_in}
use Rattle.journal.proofs.Keyed.{one_key, same_is, same_itself}
use Rattle.journal.specs.Brought.{BringsAll}
use Rattle.journal.specs.Brought as brought
use Rattle.record_codec.specs.declared.record.Record.{Record}
use Rattle.world.specs.declared.event.Event.{Event}
use Rattle.world.specs.declared.event.Event.TheVariants.{Load}
use Rattle.world.specs.Beginning.{BeginsWith, first_logs, merges_of}
use Rattle.world.specs.Knowledge.{Knowledge, KeyedWrite, below, id_of, id_under, ids_under, known_at, of_key, opened}
use Rattle.world.specs.Represents.{Represents, AreDistinct, empty_logs, log_at}
use Rattle.world.specs.Running.{AreRunnableFrom, max_vnodes}
use Rattle.world.proofs.Beginnings.{length-empty, length-first, length-merges}
use Rattle.world.proofs.Causal.{known_put, none_known}
use Rattle.world.proofs.Lists.{Contains-nil, Contains-first, Contains-later, Contains-cases}
use Rattle.world.proofs.Numbers.{known_unique, none_itself}
use Rattle.world.proofs.Renamed.{below_at, below_len}
use Rattle.world.proofs.Shown.{shows_known}
use Rattle.world.proofs.Steps.{opened_represents, shown, state_shown}
use Rattle.world.specs.Records.{AreMergesOf, AreOfAll, keys_in, nothing, one_more}
use Rattle.world.specs.Dumps.{GoesOnFrom, IsDumpIn}
use Rattle.world.proofs.Merges.{all_rising, begun_so, cases_among, head_other, merged_journal, others_of, record_among, turned}

-- ---- what merges of records bring

-- merges of other keys bring nothing to a key
bring_nothing : {es : List Entry} {records : List Record} (k : Key) → AreMergesOf es records → ((r : Record) → Contains records r → same_key r.key k ≡ false) → BringsAll k es []
bring_nothing k nothing other = brought.nothing
bring_nothing k (one_more stamp h es records rest) other =
    brought.one_more (Merge stamp h.key h.from h.at h.state) es [] [] (subst (λ (b : Bool). MatchBool b (ShowsKnown h.state []) ((let none : List Write = [] in none) ≡ [])) (sym (other h (Contains-first h records))) refl)
    (bring_nothing k rest (λ r c. other r (Contains-later h records r c)))

-- merges among which one is of a key bring to it what its state shows
bring_shown : {es : List Entry} {records : List Record} (r : Record) (ws : List Write) → AreMergesOf es records → IsStrictlySortedBy key_cmp (keys_in records) → Contains records r → ShowsKnown r.state ws → BringsAll r.key es ws
unfolding IsStrictlySortedBy
bring_shown r ws nothing rising c shows = absurd (Contains-nil r c)
bring_shown r ws (one_more stamp h es records rest) rising c shows = elim (Contains-cases h records r c) [
  | inl is ↦ subst (λ (x : Record). BringsAll x.key (Merge stamp h.key h.from h.at h.state ∷ es) ws) is (subst (λ (l : List Write). BringsAll h.key (Merge stamp h.key h.from h.at h.state ∷ es) l) (append-nil ws)
      (brought.one_more (Merge stamp h.key h.from h.at h.state) es ws [] (subst (λ (b : Bool). MatchBool b (ShowsKnown h.state ws) (ws ≡ [])) (sym (same_itself h.key)) (subst (λ (x : Record). ShowsKnown x.state ws) (sym is) shows))
      (bring_nothing h.key rest (λ x its. turned h.key x.key (head_other h.key records x rising.0 its)))))
  | inr there ↦ brought.one_more (Merge stamp h.key h.from h.at h.state) es [] ws (subst (λ (b : Bool). MatchBool b (ShowsKnown h.state []) ((let none : List Write = [] in none) ≡ [])) (sym (head_other h.key records r rising.0 there)) refl)
      (bring_shown r ws rest rising.1 there shows)
]

-- writes without a context are none
no_writes : (ws : List Write) → ((d : Dot) → InContext ws d → ⊥) → ws ≡ []
no_writes [] none = refl
no_writes (w ∷ ws) none = absurd (none w.dot (w, Contains-first w ws, inl refl))

-- merges of a dump bring what the dumped vnode knew
bring_known : (logs : List Log) (w : Knowledge) (v : ℕ) (es : List Entry) (records : List Record) (k : Key) → Represents logs w → v < length logs → AreOfAll (log_at logs v) records → AreMergesOf es records → BringsAll k es (known_at w v k)
bring_known logs w v es records k rep inside all merges = elim (cases_among records k) [
  | inl c ↦
      let t = record_among records k c in
      let shows : ShowsKnown t.0.state (known_at w v t.0.key) =
      shows_known (known_at w v t.0.key) t.0.state (known_unique w v t.0.key rep.lawful) (none_itself w t.0.key (known_at w v t.0.key) rep.lawful (known_put w v t.0.key rep.lawful))
      (state_shown logs w v t.0.key t.0.state rep inside (all.states t.0 t.1)) in
      subst (λ (x : Key). BringsAll x es (known_at w v x)) t.2 (bring_shown t.0 (known_at w v t.0.key) merges all.keys.rising t.1 shows)
  | inr none ↦
      subst (λ (ws : List Write). BringsAll k es ws)
      (sym (no_writes (known_at w v k) (λ d known. none ((all.keys.each k).1 (d, ((shown logs w v k rep inside).clock d).1 known)))))
      (bring_nothing k merges (others_of records k none))
]

-- ---- a dump has no more records than a journal has places

-- a journal has at most 2^32 entries
short : (vnode : ℕ) (es : List Entry) → IsJournal vnode es → length es ≤ max_entries
short vnode es legal = elim (cases_lt max_entries (length es)) [
  | inl long ↦
      let e : Entry = get_or es max_entries (Restart 0) in
      let place : TakesEntry (take max_entries es) = takes e (legal max_entries e (slice_get-get_or es max_entries (Restart 0) long)) in
      let count : length (take max_entries es) ≡ max_entries = length-take-le max_entries es (omega (arith, long)) in
      absurd (omega (arith, place, count))
  | inr le ↦ le
]
  where
    takes : (e : Entry) → MayFollow vnode (take max_entries es) e → TakesEntry (take max_entries es)
    takes (Put stamp key seen content dot) may = may.0.place
    takes (Merge stamp key from at state) may = may.place
    takes (Read stamp key) may = may
    takes (Restart stamp) may = may

-- the keys that entries tell of
abbrev told_keys : List Entry → List Key
told_keys [] = []
told_keys (Put stamp key seen content dot ∷ es) = key ∷ told_keys es
told_keys (Merge stamp key from at state ∷ es) = key ∷ told_keys es
told_keys (Read stamp key ∷ es) = told_keys es
told_keys (Restart stamp ∷ es) = told_keys es

few_told : (es : List Entry) → length (told_keys es) ≤ length es
few_told [] = omega arith
few_told (Put stamp key seen content dot ∷ es) = let t = few_told es in omega (arith, t)
few_told (Merge stamp key from at state ∷ es) = let t = few_told es in omega (arith, t)
few_told (Read stamp key ∷ es) = let t = few_told es in omega (arith, t)
few_told (Restart stamp ∷ es) = let t = few_told es in omega (arith, t)

key_laws : IsEquivalence (eq_by_cmp key_cmp)
key_laws = record {
  refl = same_itself;
  symm = λ x y. both_ways (same_key x y) (same_key y x) (λ h. same_is y x (sym (one_key x y h))) (λ h. same_is x y (sym (one_key y x h)));
  congr = λ x y z h. ap (λ (k : Key). same_key k z) (one_key x y h);
}

or_right : (a b : Bool) → b ≡ true → (a || b) ≡ true
or_right true b t = refl
or_right false b t = t

-- a key of which entries tell is one of these
told_member : (es : List Entry) (k : Key) (d : Dot) → known_in es k d ≡ true → is_member (eq_by_cmp key_cmp) (told_keys es) k ≡ true
told_member [] k d t = absurd (cc)
told_member (Put stamp key seen content dot ∷ es) k d t = elim (or_cases (same_key key k && is_dot dot d) (known_in es k d) t) [
  | inl here ↦ ap (λ (b : Bool). b || is_member (eq_by_cmp key_cmp) (told_keys es) k) (same_is k key (sym (one_key key k (and_parts (same_key key k) (is_dot dot d) here).0)))
  | inr there ↦ or_right (same_key k key) (is_member (eq_by_cmp key_cmp) (told_keys es) k) (told_member es k d there)
]
told_member (Merge stamp key from at state ∷ es) k d t = elim (or_cases (same_key key k && covers state.clock d) (known_in es k d) t) [
  | inl here ↦ ap (λ (b : Bool). b || is_member (eq_by_cmp key_cmp) (told_keys es) k) (same_is k key (sym (one_key key k (and_parts (same_key key k) (covers state.clock d) here).0)))
  | inr there ↦ or_right (same_key k key) (is_member (eq_by_cmp key_cmp) (told_keys es) k) (told_member es k d there)
]
told_member (Read stamp key ∷ es) k d t = told_member es k d t
told_member (Restart stamp ∷ es) k d t = told_member es k d t

-- a key that is a member of keys stands among them
member_among : (keys : List Key) (k : Key) → is_member (eq_by_cmp key_cmp) keys k ≡ true → Contains keys k
member_among [] k t = absurd (cc)
member_among (key ∷ keys) k t = elim (or_cases (same_key k key) (is_member (eq_by_cmp key_cmp) keys k) t) [
  | inl here ↦ subst (λ (x : Key). Contains (key ∷ keys) x) (sym (one_key k key here)) (Contains-first key keys)
  | inr there ↦ Contains-later key keys k (member_among keys k there)
]

pub few_records : (old : Log) (records : List Record) → IsJournal old.vnode old.entries → AreOfAll old records → length records ≤ max_entries
few_records old records legal all =
    let count : length (keys_in records) ≡ length records = length-map records (λ (r : Record). r.key) in
    let keys : length (keys_in records) ≤ length (told_keys old.entries) =
    length-le_from_is_member key_laws (keys_in records) (told_keys old.entries) (IsDistinct-from_sorted key_cmp (keys_in records) all.keys.rising)
    (λ k is. let known = (all.keys.each k).0 (member_among (keys_in records) k is) in told_member old.entries k known.0 known.1) in
    let told = few_told old.entries in
    let most = short old.vnode old.entries legal in
    omega (arith, count, keys, told, most)

-- ---- the beginning

-- vnodes of an incarnation, the first of which knows what a vnode of another world knew, and has merged records
abbrev begun : Knowledge → ℕ → ℕ → ℕ → List Record → Knowledge
begun w v incarnation n records =
    let new : Knowledge = opened (ids_under incarnation n) in record {
      ids = new.ids;
      puts = w.puts;
      known = set new.known 0 (get_or w.known v []);
      accepted = set new.accepted 0 (length records);
      left = [];
    }

-- the identifier at an index
pub id_at : (incarnation n u : ℕ) → u < n → get_or (ids_under incarnation n) u 0 ≡ id_under incarnation u
id_at incarnation n u lt =
    let l = below_len n in
    get_or-map (id_under incarnation) (below n) u 0 0 (omega (arith, l, lt)) ∙ ap (id_under incarnation) (below_at n u lt)

pub length_ids : (incarnation n : ℕ) → length (ids_under incarnation n) ≡ n
length_ids incarnation n = length-map (below n) (id_under incarnation) ∙ below_len n

distinct_under : (incarnation n : ℕ) → AreDistinct (ids_under incarnation n)
distinct_under incarnation n u v lu lv e =
    let l = length_ids incarnation n in
    let is : id_under incarnation u ≡ id_under incarnation v = sym (id_at incarnation n u (omega (arith, l, lu))) ∙ e ∙ id_at incarnation n v (omega (arith, l, lv)) in
    omega (arith, is)

pub dump_begins : (w : Knowledge) (logs : List Log) (v incarnation n : ℕ) (listed : List Helper) (records : List Record) (events : List Event) → 1 ≤ n → n ≤ max_vnodes → AreRunnableFrom (0 ∷ incarnation ∷ []) n listed events
    → IsDumpIn w logs v incarnation n records events → (begin : Knowledge) × BeginsWith incarnation n records events begin × GoesOnFrom w v begin
dump_begins w logs v incarnation n listed records events some few runnable dump = (
  after,
  record {
    represents = record {
      lawful = record {
        puts = dump.represents.lawful.puts;
        known = λ u s c. elim (cases_eq u 0) [
          | inl e ↦ dump.represents.lawful.known v s (subst (λ (xs : List KeyedWrite). Contains xs s) (ap (λ (i : ℕ). get_or after.known i []) e ∙ known_first) c)
          | inr other ↦ absurd (Contains-nil s (subst (λ (xs : List KeyedWrite). Contains xs s) (known_other u other ∙ none_known (length (ids_under incarnation n)) u) c))
        ];
        copied = λ e key writes is x c. absurd (cc);
        parted = λ e key writes held is x c. absurd (cc);
        copied_all = λ e copies is s c. absurd (cc);
      };
      own = λ u put lu c is. absurd ((dump.new u (omega (arith, known_len, lu))).puts put c (is ∙ id_at incarnation n u (omega (arith, known_len, lu))));
      distinct = λ a b la lb same. opening.distinct a b (omega (arith, len, opened_len, la)) (omega (arith, len, opened_len, lb)) same;
      size = known_len ∙ sym len;
      counts = length-set new.accepted 0 (length records) ∙ opening.counts ∙ opened_len ∙ sym len;
      ids = λ u lu. elim (cases_eq u 0) [
        | inl e ↦ subst (λ (i : ℕ). (log_at first i).vnode ≡ id_of after i) (sym e) (ap (λ (l : Log). l.vnode) log_first ∙ sym (id_at incarnation n 0 some))
        | inr other ↦ ap (λ (l : Log). l.vnode) (log_other u other) ∙ opening.ids u (omega (arith, len, opened_len, lu))
      ];
      accepted = λ u lu. elim (cases_eq u 0) [
        | inl e ↦ subst (λ (i : ℕ). length (log_at first i).entries ≡ get_or after.accepted i 0) (sym e)
            (ap (λ (l : Log). length l.entries) log_first ∙ length-merges 0 records ∙ sym (get_or-set_same new.accepted 0 (length records) 0 (let c = opening.counts in omega (arith, c, opened_len, some))))
        | inr other ↦ ap (λ (l : Log). length l.entries) (log_other u other) ∙ opening.accepted u (omega (arith, len, opened_len, lu)) ∙ sym (get_or-set_other new.accepted 0 u (length records) 0 other)
      ];
      legal = λ u lu. elim (cases_eq u 0) [
        | inl e ↦ subst (λ (i : ℕ). IsJournal (id_of after i) (log_at first i).entries) (sym e) (subst (λ (l : Log). IsJournal (id_of after 0) l.entries) (sym log_first) (merged_journal (id_of after 0) (merges_of 0 records) records (begun_so 0 records) (all_rising (log_at logs v) records dump.all) (few_records (log_at logs v) records own_legal dump.all)))
        | inr other ↦ subst (λ (l : Log). IsJournal (id_of after u) l.entries) (sym (log_other u other)) (opening.legal u (omega (arith, len, opened_len, lu)))
      ];
      brings = λ u k lu. elim (cases_eq u 0) [
        | inl e ↦ subst (λ (i : ℕ). BringsAll k (log_at first i).entries (known_at after i k)) (sym e) (subst (λ (l : Log). BringsAll k l.entries (known_at after 0 k)) (sym log_first)
            (subst (λ (ks : List KeyedWrite). BringsAll k (merges_of 0 records) (of_key k ks)) (sym known_first) (bring_known logs w v (merges_of 0 records) records k dump.represents dump.inside dump.all (begun_so 0 records))))
        | inr other ↦ subst (λ (l : Log). BringsAll k l.entries (known_at after u k)) (sym (log_other u other)) (subst (λ (ks : List KeyedWrite). BringsAll k (log_at none u).entries (of_key k ks)) (sym (known_other u other)) (opening.brings u k (omega (arith, len, opened_len, lu))))
      ];
    };
    ids = length_ids incarnation n ∙ sym len;
    nothing = refl;
    fresh = λ place dumped at i le there. record {
      vnodes = λ u lu e.
          let inside : u < n = let l = length_ids incarnation n in omega (arith, l, lu) in
          let come = runnable place (Load dumped at i) there in
          let is : incarnation * 65536 + u ≡ i * 65536 + at = sym (id_at incarnation n u inside) ∙ e in
          let same : incarnation ≡ i = let lt = come.0 in omega (arith, inside, few, is, lt) in
          come.2 (inl (subst (λ (x : ℕ). Contains (0 ∷ incarnation ∷ []) x) same (Contains-later 0 (incarnation ∷ []) incarnation (Contains-first incarnation []))));
      puts = (dump.fresh place dumped at i le there).puts;
    };
  },
  record { puts = refl; knows = λ key. ap (of_key key) known_first },
)
  where
    after : Knowledge
    after = begun w v incarnation n records

    new : Knowledge
    new = opened (ids_under incarnation n)

    none : List Log
    none = empty_logs (ids_under incarnation n)

    first : List Log
    first = first_logs incarnation n records

    opening : Represents (empty_logs (ids_under incarnation n)) (opened (ids_under incarnation n))
    opening = opened_represents (ids_under incarnation n) (distinct_under incarnation n)

    len : length (first_logs incarnation n records) ≡ n
    len = length-first incarnation n records

    opened_len : length (empty_logs (ids_under incarnation n)) ≡ n
    opened_len = length-empty incarnation n

    known_len : length (begun w v incarnation n records).known ≡ n
    known_len = length-set (opened (ids_under incarnation n)).known 0 (get_or w.known v []) ∙ opening.size ∙ opened_len

    known_first : get_or (begun w v incarnation n records).known 0 [] ≡ get_or w.known v []
    known_first = get_or-set_same (opened (ids_under incarnation n)).known 0 (get_or w.known v []) [] (let s = opening.size in omega (arith, s, opened_len, some))

    known_other : (u : ℕ) → u ≢ 0 → get_or (begun w v incarnation n records).known u [] ≡ get_or (opened (ids_under incarnation n)).known u []
    known_other u other = get_or-set_other (opened (ids_under incarnation n)).known 0 u (get_or w.known v []) [] other

    log_first : log_at (first_logs incarnation n records) 0 ≡ record { vnode = id_under incarnation 0; entries = merges_of 0 records }
    log_first = get_or-set_same (empty_logs (ids_under incarnation n)) 0 (record { vnode = id_under incarnation 0; entries = merges_of 0 records }) (record { vnode = 0; entries = [] }) (omega (arith, opened_len, some))

    log_other : (u : ℕ) → u ≢ 0 → log_at (first_logs incarnation n records) u ≡ log_at (empty_logs (ids_under incarnation n)) u
    log_other u other = get_or-set_other (empty_logs (ids_under incarnation n)) 0 u (record { vnode = id_under incarnation 0; entries = merges_of 0 records }) (record { vnode = 0; entries = [] }) other

    own_legal : IsJournal (log_at logs v).vnode (log_at logs v).entries
    own_legal = subst (λ (i : ℕ). IsJournal i (log_at logs v).entries) (sym (dump.represents.ids v dump.inside)) (dump.represents.legal v dump.inside)
