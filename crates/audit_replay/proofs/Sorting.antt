-- Entries gone over in the order of their stamps.
use Rattle.std.proofs.Common.{◌≡◌, ◌≢◌, ◌⊎◌, ℕ, zero, suc, ◌+◌, ◌<◌, ◌≤◌, List, [], ◌∷◌, length, get_or, set, refl, sym, subst, ◌∙◌, inl, inr, ap, arith, Option, None, Some, length-set}
use Rattle.std.proofs.lemmas.Bool.{cases_eq, cases_lt}
use Rattle.std.proofs.lemmas.List.{get_or-map, get_or-set_same, get_or-set_other, length-map}
use Rattle.journal.specs.Entry.{Entry}
use Rattle.journal.specs.Logs.{Log}
use Rattle.world.specs.Represents.{log_at, AreDistinct}
use Rattle.journal.specs.Stamps.{stamp_of}
use Rattle.audit_replay.specs.Interleaved.{ids_of}
use Rattle.audit_replay.specs.declared.heads.Head.{Head}
use Rattle.audit_replay.specs.Turns.{EntryIn, HasHappened, IsToCome, IsNotAfter, IsNextBelow, IsHead, NoneBelow, count_at}
use Rattle.audit_replay.specs.Faulty.{NoneFalls, NoneTwice, TwiceAt, IsFault}
use Rattle.audit_faults.specs.declared.fault.AuditFault.TheVariants.{Found}
use Rattle.audit_faults.specs.declared.fault.EntryFault.TheVariants.{Twice}
use Rattle.audit_replay.specs.Sorting.{left, IsSplit, IsOnce, IsLast}
use Rattle.audit_replay.proofs.Firsts.{not_after_trans}
use Rattle.audit_replay.proofs.Rising.{rises, rises_or_same, entry_before, one_entry}

-- the journal whose entry is next has one entry more
abbrev pub with_next : List ℕ → ℕ → List ℕ
with_next counts index = set counts index (count_at counts index + 1)

-- a value at a place inside is the one there, whatever stands for a place outside
pub same_default : {A : Type 0} (xs : List A) (i : ℕ) (d e : A) → i < length xs → get_or xs i d ≡ get_or xs i e
same_default [] i d e lt = absurd (omega arith)
same_default (x ∷ xs) zero d e lt = refl
same_default (x ∷ xs) (suc i) d e lt = same_default xs i d e (omega arith)

-- one identifier stands for one journal
pub one_index : (logs : List Log) (u v : ℕ) → AreDistinct (ids_of logs) → u < length logs → v < length logs → (log_at logs u).vnode ≡ (log_at logs v).vnode → u ≡ v
one_index logs u v distinct lu lv same = distinct u v (omega (arith, size, lu)) (omega (arith, size, lv)) (at u lu ∙ same ∙ sym (at v lv))
  where
    size : length (ids_of logs) ≡ length logs
    size = length-map logs (λ (log : Log). log.vnode)

    at : (i : ℕ) → i < length logs → get_or (ids_of logs) i 0 ≡ (log_at logs i).vnode
    at i li = get_or-map (λ (log : Log). log.vnode) logs i (record { vnode = 0; entries = [] }) 0 li

-- fewer are left
pub left_falls : (logs : List Log) (counts : List ℕ) (index : ℕ) → index < length logs → length counts ≡ length logs → count_at counts index < length (log_at logs index).entries → left logs (with_next counts index) < left logs counts
left_falls [] counts index inside size more = absurd (omega arith)
left_falls (log ∷ logs) [] index inside size more = absurd (omega arith)
left_falls (log ∷ logs) (count ∷ counts) zero inside size more = omega arith
left_falls (log ∷ logs) (count ∷ counts) (suc index) inside size more = (let h = left_falls logs counts index (omega arith) (omega arith) more in omega (arith, h))

-- the next one isn't after any that is to come
pub next_first : (logs : List Log) (counts : List ℕ) (head : Head) → NoneFalls logs → IsNextBelow logs counts (length logs) head → (other later : ℕ) (f : Entry) → IsToCome logs counts other later f → IsNotAfter head.stamp head.vnode (stamp_of f) (log_at logs other).vnode
next_first logs counts head rising next other later f to_come =
    let first = entry_before logs other (count_at counts other) later f to_come.1 to_come.0 in
    let a : IsNotAfter head.stamp head.vnode (stamp_of first.0) (log_at logs other).vnode = next.2 other first.0 to_come.0.0 first.1 in
    let b : stamp_of first.0 ≤ stamp_of f = rises_or_same logs other (count_at counts other) later first.0 f rising first.1 to_come.0 to_come.1 in
    not_after_trans head.stamp head.vnode (stamp_of first.0) (log_at logs other).vnode (stamp_of f) (log_at logs other).vnode a (elim (cases_lt (stamp_of first.0) (stamp_of f)) [
      | inl less ↦ inl less
      | inr not ↦ inr (omega arith, omega arith)
    ])

-- what has happened then: what had before, and the next one
pub happened_more : (logs : List Log) (counts : List ℕ) (index other place : ℕ) (e : Entry) → index < length counts → HasHappened logs (with_next counts index) other place e → HasHappened logs counts other place e ⊎ ((other ≡ index) × (place ≡ count_at counts index))
happened_more logs counts index other place e inside (at, lt) = elim (cases_eq other index) [
  | inl same ↦
      (let now : count_at (with_next counts index) other ≡ count_at counts index + 1 = ap (λ (i : ℕ). count_at (with_next counts index) i) same ∙ get_or-set_same counts index (count_at counts index + 1) 0 inside in
      elim (cases_eq place (count_at counts index)) [
        | inl last ↦ inr (same, last)
        | inr before ↦ inl (at, subst (λ (i : ℕ). place < count_at counts i) (sym same) (omega (arith, now, lt)))
      ])
  | inr not ↦ inl (at, subst (λ (n : ℕ). place < n) (get_or-set_other counts index other (count_at counts index + 1) 0 not) lt)
]

-- what had happened still has
pub happened_still : (logs : List Log) (counts : List ℕ) (index other place : ℕ) (e : Entry) → index < length counts → HasHappened logs counts other place e → HasHappened logs (with_next counts index) other place e
happened_still logs counts index other place e inside (at, lt) = elim (cases_eq other index) [
  | inl same ↦ (
    at,
    (let now : count_at (with_next counts index) other ≡ count_at counts index + 1 = ap (λ (i : ℕ). count_at (with_next counts index) i) same ∙ get_or-set_same counts index (count_at counts index + 1) 0 inside in
        let was : count_at counts other ≡ count_at counts index = ap (count_at counts) same in
        omega (arith, now, was, lt)),
  )
  | inr not ↦ (at, subst (λ (n : ℕ). place < n) (sym (get_or-set_other counts index other (count_at counts index + 1) 0 not)) lt)
]

-- the next one has happened
pub next_happened : (logs : List Log) (counts : List ℕ) (index : ℕ) (e : Entry) → index < length counts → IsHead logs counts index e → HasHappened logs (with_next counts index) index (count_at counts index) e
next_happened logs counts index e inside is = (is, (let now : count_at (with_next counts index) index ≡ count_at counts index + 1 = get_or-set_same counts index (count_at counts index + 1) 0 inside in omega (arith, now)))

-- what is to come was to come
pub to_come_before : (logs : List Log) (counts : List ℕ) (index other place : ℕ) (e : Entry) → index < length counts → IsToCome logs (with_next counts index) other place e → IsToCome logs counts other place e
to_come_before logs counts index other place e inside (at, le) = elim (cases_eq other index) [
  | inl same ↦ (
    at,
    (let now : count_at (with_next counts index) other ≡ count_at counts index + 1 = ap (λ (i : ℕ). count_at (with_next counts index) i) same ∙ get_or-set_same counts index (count_at counts index + 1) 0 inside in
        let was : count_at counts other ≡ count_at counts index = ap (count_at counts) same in
        omega (arith, now, was, le)),
  )
  | inr not ↦ (at, subst (λ (n : ℕ). n ≤ place) (get_or-set_other counts index other (count_at counts index + 1) 0 not) le)
]

-- an entry is the head that stands there
pub is_next : (logs : List Log) (counts : List ℕ) (head : Head) (e : Entry) → IsNextBelow logs counts (length logs) head → EntryIn logs head.index (count_at counts head.index) e → (stamp_of e ≡ head.stamp) × ((log_at logs head.index).vnode ≡ head.vnode)
is_next logs counts head e next at = (ap stamp_of (one_entry logs head.index (count_at counts head.index) e next.1.2.0 at next.1.2.1) ∙ sym next.1.2.2, sym next.1.1)

-- it stays so
pub split_more : (logs : List Log) (counts : List ℕ) (head : Head) → NoneFalls logs → IsSplit logs counts → IsNextBelow logs counts (length logs) head → IsSplit logs (with_next counts head.index)
split_more logs counts head rising split next = record {
  size = length-set counts head.index (count_at counts head.index + 1) ∙ split.size;
  order = λ index place e other later f h t. (
      let inside : head.index < length counts = omega (arith, split.size, next.0) in
      let before = to_come_before logs counts head.index other later f inside t in
      elim (happened_more logs counts head.index index place e inside h) [
        | inl was ↦ split.order index place e other later f was before
        | inr now ↦
            (let at : EntryIn logs head.index (count_at counts head.index) e = subst (λ (p : ℕ). EntryIn logs head.index p e) now.1 (subst (λ (i : ℕ). EntryIn logs i place e) now.0 h.0) in
            let is = is_next logs counts head e next at in
            subst (λ (i : ℕ). IsNotAfter (stamp_of e) (log_at logs i).vnode (stamp_of f) (log_at logs other).vnode) (sym now.0)
            (subst (λ (s : ℕ). IsNotAfter s (log_at logs head.index).vnode (stamp_of f) (log_at logs other).vnode) (sym is.0)
            (subst (λ (v : ℕ). IsNotAfter head.stamp v (stamp_of f) (log_at logs other).vnode) (sym is.1) (next_first logs counts head rising next other later f before))))
      ]);
}

-- what has happened has no higher stamp
pub last_below : (logs : List Log) (counts : List ℕ) (head : Head) → IsSplit logs counts → IsNextBelow logs counts (length logs) head → (index place : ℕ) (e : Entry) → HasHappened logs counts index place e → stamp_of e ≤ head.stamp
last_below logs counts head split next index place e h =
    let o = split.order index place e head.index (count_at counts head.index) next.1.2.0 h (next.1.2.1, omega arith) in
    let s : head.stamp ≡ stamp_of next.1.2.0 = next.1.2.2 in
    elim o [
      | inl less ↦ omega arith
      | inr same ↦ omega (arith, same.0)
    ]

-- another stamp than the last one's stands nowhere before
pub new_stamp : (logs : List Log) (counts : List ℕ) (last : Option ℕ) (head : Head) → IsSplit logs counts → IsNextBelow logs counts (length logs) head → IsLast logs counts last → (last ≢ Some head.stamp)
    → (index place : ℕ) (e : Entry) → HasHappened logs counts index place e → stamp_of e < head.stamp
new_stamp logs counts None head split next none other index place e h = absurd (none index place e h)
new_stamp logs counts (Some stamp) head split next is other index place e h =
    let below : stamp_of e ≤ stamp = is.1 index place e h in
    let l = is.0 in
    let top : stamp_of l.2 ≤ head.stamp = last_below logs counts head split next l.0 l.1 l.2 l.3 in
    let same : stamp_of l.2 ≡ stamp = l.4 in
    elim (cases_eq stamp head.stamp) [
      | inl eq ↦ absurd (other (ap Some eq))
      | inr not ↦ omega arith
    ]

pub once_more : (logs : List Log) (counts : List ℕ) (head : Head) → IsSplit logs counts → IsOnce logs counts → IsNextBelow logs counts (length logs) head → ((index place : ℕ) (e : Entry) → HasHappened logs counts index place e → stamp_of e < head.stamp)
    → IsOnce logs (with_next counts head.index)
once_more logs counts head split once next below index place e other there f h k same =
    let inside : head.index < length counts = omega (arith, split.size, next.0) in
    elim (happened_more logs counts head.index index place e inside h) [
      | inl was ↦ elim (happened_more logs counts head.index other there f inside k) [
        | inl too ↦ once index place e other there f was too same
        | inr now ↦
            (let is = is_next logs counts head f next (subst (λ (p : ℕ). EntryIn logs head.index p f) now.1 (subst (λ (i : ℕ). EntryIn logs i there f) now.0 k.0)) in
            let less : stamp_of e < head.stamp = below index place e was in
            absurd (omega (arith, is.0)))
      ]
      | inr now ↦ elim (happened_more logs counts head.index other there f inside k) [
        | inl too ↦
            (let is = is_next logs counts head e next (subst (λ (p : ℕ). EntryIn logs head.index p e) now.1 (subst (λ (i : ℕ). EntryIn logs i place e) now.0 h.0)) in
            let less : stamp_of f < head.stamp = below other there f too in
            absurd (omega (arith, is.0)))
        | inr also ↦ now.0 ∙ sym also.0
      ]
    ]

pub last_more : (logs : List Log) (counts : List ℕ) (head : Head) → IsSplit logs counts → IsNextBelow logs counts (length logs) head → IsLast logs (with_next counts head.index) (Some head.stamp)
last_more logs counts head split next =
    let inside : head.index < length counts = omega (arith, split.size, next.0) in (
      (head.index, count_at counts head.index, next.1.2.0, next_happened logs counts head.index next.1.2.0 inside next.1.2.1, sym next.1.2.2),
      λ index place e h. elim (happened_more logs counts head.index index place e inside h) [
        | inl was ↦ last_below logs counts head split next index place e was
        | inr now ↦
            (let is = is_next logs counts head e next (subst (λ (p : ℕ). EntryIn logs head.index p e) now.1 (subst (λ (i : ℕ). EntryIn logs i place e) now.0 h.0)) in
            omega (arith, is.0))
      ],
    )

-- an entry has happened, or is to come
pub happened_or_not : (logs : List Log) (counts : List ℕ) (index place : ℕ) (e : Entry) → EntryIn logs index place e → HasHappened logs counts index place e ⊎ IsToCome logs counts index place e
happened_or_not logs counts index place e at = elim (cases_lt place (count_at counts index)) [
  | inl less ↦ inl (at, less)
  | inr not ↦ inr (at, not)
]

-- the last stamp again is the first that stands twice
pub found_twice : (logs : List Log) (counts : List ℕ) (head : Head) → AreDistinct (ids_of logs) → NoneFalls logs → IsSplit logs counts → IsOnce logs counts → IsLast logs counts (Some head.stamp) → IsNextBelow logs counts (length logs) head
    → IsFault logs (Found Twice head.vnode (count_at counts head.index))
found_twice logs counts head distinct rising split once is next = (rising, (head.stamp, twice, first))
  where
    e : Entry
    e = next.1.2.0

    twice : TwiceAt logs head.vnode (count_at counts head.index) head.stamp
    twice =
        let l = is.0 in
        let at : EntryIn logs head.index (count_at counts head.index) next.1.2.0 = next.1.2.1 in
        let same : stamp_of l.2 ≡ head.stamp = l.4 in
        let stamp : head.stamp ≡ stamp_of next.1.2.0 = next.1.2.2 in
        let id : head.vnode ≡ (log_at logs head.index).vnode = next.1.1 in
        let o = split.order l.0 l.1 l.2 head.index (count_at counts head.index) next.1.2.0 l.3 (at, omega arith) in
        let lower : (log_at logs l.0).vnode < head.vnode = elim o [
          | inl less ↦ absurd (omega arith)
          | inr tie ↦ elim (cases_eq (log_at logs l.0).vnode (log_at logs head.index).vnode) [
            | inl one ↦
                (let i : l.0 ≡ head.index = one_index logs l.0 head.index distinct l.3.0.0 next.0 one in
                let lt : l.1 < count_at counts head.index = subst (λ (j : ℕ). l.1 < count_at counts j) i l.3.1 in
                let less : stamp_of l.2 < stamp_of next.1.2.0 = rises logs head.index l.1 (count_at counts head.index) l.2 next.1.2.0 rising (subst (λ (j : ℕ). EntryIn logs j l.1 l.2) i l.3.0) at lt in
                absurd (omega arith))
            | inr two ↦ omega (arith, tie.1, two)
          ]
        ] in
        ((log_at logs l.0).vnode, l.1, l.2, next.1.2.0, (l.0, refl, l.3.0), (head.index, sym id, at), same, sym stamp, lower)

    first : (v p s : ℕ) → TwiceAt logs v p s → (head.stamp < s) ⊎ ((head.stamp ≡ s) × (head.vnode ≤ v))
    first v p s (other, there, a, b, at_a, at_b, stamp_a, stamp_b, lower) = elim (happened_or_not logs counts at_b.0 p b at_b.2) [
      | inr later ↦ subst (λ (t : ℕ). IsNotAfter head.stamp head.vnode t v) stamp_b (subst (λ (w : ℕ). IsNotAfter head.stamp head.vnode (stamp_of b) w) at_b.1 (next_first logs counts head rising next at_b.0 p b later))
      | inl was ↦ elim (happened_or_not logs counts at_a.0 there a at_a.2) [
        | inr later ↦ elim (next_first logs counts head rising next at_a.0 there a later) [
          | inl less ↦ inl (omega arith)
          | inr tie ↦ inr (tie.0 ∙ stamp_a, omega (arith, tie.1, at_a.1))
        ]
        | inl too ↦
            (let i : at_a.0 ≡ at_b.0 = once at_a.0 there a at_b.0 p b too was (stamp_a ∙ sym stamp_b) in
            let same : other ≡ v = sym at_a.1 ∙ ap (λ (j : ℕ). (log_at logs j).vnode) i ∙ at_b.1 in
            absurd (omega arith))
      ]
    ]

-- where none is to come, all have happened
pub all_happened : (logs : List Log) (counts : List ℕ) → NoneBelow logs counts (length logs) → (index place : ℕ) (e : Entry) → EntryIn logs index place e → HasHappened logs counts index place e
all_happened logs counts none index place e at = elim (cases_lt place (count_at counts index)) [
  | inl less ↦ (at, less)
  | inr not ↦ absurd (let h = entry_before logs index (count_at counts index) place e not at in none index h.0 at.0 h.1)
]

-- and then none stands twice
pub all_once : (logs : List Log) (counts : List ℕ) → IsOnce logs counts → NoneBelow logs counts (length logs) → NoneTwice logs
all_once logs counts once none v p s (other, there, a, b, at_a, at_b, stamp_a, stamp_b, lower) =
    let i : at_a.0 ≡ at_b.0 = once at_a.0 there a at_b.0 p b (all_happened logs counts none at_a.0 there a at_a.2) (all_happened logs counts none at_b.0 p b at_b.2) (stamp_a ∙ sym stamp_b) in
    let same : other ≡ v = sym at_a.1 ∙ ap (λ (j : ℕ). (log_at logs j).vnode) i ∙ at_b.1 in
    absurd (omega arith)
