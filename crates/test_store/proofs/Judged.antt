-- One journal more among those of vnodes with different identifiers.
use Rattle.std.proofs.Common.{◌≡◌, ◌≢◌, ℕ, ◌<◌, List, [], ◌∷◌, ◌++◌, length, get_or, sym, subst, ◌∙◌, inl, inr, arith}
use Rattle.std.proofs.lemmas.Bool.{cases_eq}
use Rattle.std.proofs.lemmas.List.{length_push, get_or_push, get_or_append_left, map_push, length-map, get_or-map}
use Rattle.journal.specs.Journals.{IsJournal}
use Rattle.journal.specs.Logs.{Log}
use Rattle.world.specs.Represents.{AreDistinct, log_at}
use Rattle.audit_replay.specs.Interleaved.{ids_of}
use Rattle.audit_replay.specs.Rerun.{AreLegal}

before : {X : Type 0} (xs : List X) (y d : X) (i : ℕ) → i < length xs → get_or (xs ++ y ∷ []) i d ≡ get_or xs i d
before xs y d i lt = get_or_append_left xs (y ∷ []) d i lt

distinct_push : (ids : List ℕ) (id : ℕ) → AreDistinct ids → ((i : ℕ) → i < length ids → get_or ids i 0 ≢ id) → AreDistinct (ids ++ id ∷ [])
distinct_push ids id distinct new u v lu lv same =
    let long = length_push ids id in
    elim (cases_eq u (length ids)) [
      | inl u_last ↦ elim (cases_eq v (length ids)) [
        | inl v_last ↦ u_last ∙ sym v_last
        | inr v_not ↦
            (let lv' : v < length ids = omega (arith, long, lv, v_not) in
            absurd (new v lv' (sym (before ids id 0 v lv') ∙ sym same ∙ get_or_push ids id 0 u (sym u_last))))
      ]
      | inr u_not ↦
          (let lu' : u < length ids = omega (arith, long, lu, u_not) in
          elim (cases_eq v (length ids)) [
            | inl v_last ↦ absurd (new u lu' (sym (before ids id 0 u lu') ∙ same ∙ get_or_push ids id 0 v (sym v_last)))
            | inr v_not ↦
                (let lv' : v < length ids = omega (arith, long, lv, v_not) in
                distinct u v lu' lv' (sym (before ids id 0 u lu') ∙ same ∙ before ids id 0 v lv'))
          ])
    ]

pub distinct_more : (logs : List Log) (log : Log) → AreDistinct (ids_of logs) → ((i : ℕ) → i < length logs → (log_at logs i).vnode ≢ log.vnode) → AreDistinct (ids_of (logs ++ log ∷ []))
distinct_more logs log distinct new =
    subst (λ (ids : List ℕ). AreDistinct ids) (sym (map_push (λ (l : Log). l.vnode) logs log))
    (distinct_push (ids_of logs) log.vnode distinct (λ i lt same. (let size = length-map logs (λ (l : Log). l.vnode) in let within : i < length logs = omega (arith, size, lt) in
    new i within (sym (get_or-map (λ (l : Log). l.vnode) logs i (record { vnode = 0; entries = [] }) 0 within) ∙ same))))

pub legal_more : (logs : List Log) (log : Log) → AreLegal logs → IsJournal log.vnode log.entries → AreLegal (logs ++ log ∷ [])
legal_more logs log legal is i lt = elim (cases_eq i (length logs)) [
  | inl last ↦ subst (λ (l : Log). IsJournal l.vnode l.entries) (sym (get_or_push logs log (record { vnode = 0; entries = [] }) i (sym last))) is
  | inr not ↦
      (let long = length_push logs log in
      let within : i < length logs = omega (arith, long, lt, not) in
      subst (λ (l : Log). IsJournal l.vnode l.entries) (sym (before logs log (record { vnode = 0; entries = [] }) i within)) (legal i within))
]
