-- The format of a record's body.
use Rattle.std.proofs.Common.{◌≡◌, ℕ, ◌+◌, ◌^◌, ◌<◌, ◌≤◌, true, false, cond, eqb, leb, List, [], ◌∷◌, ◌++◌, length, Some, None, refl, sym, ap, subst, ◌∙◌, append_assoc, arith, inl, inr}
use Rattle.std.specs.List.{AllByRecursion}
use Rattle.std.specs.Int.{w32, w64, to_be_bytes}
use Rattle.std.proofs.lemmas.Bool.{cases_lt, eqb-true, le-leb, le-ltb, leb-true, lt-ltb}
use Rattle.std.proofs.lemmas.List.{append-nil, nil_from_length}
use Rattle.dvv.specs.declared.Dot.{Dot}
use Rattle.dvv.specs.Clock.{counter, AreRising}
use Rattle.key_state.specs.declared.content.Key.{Key}
use Rattle.key_state.specs.declared.content.Sibling.{Sibling}
use Rattle.key_state.specs.State.{AreCovered, State}
use Rattle.record_codec.specs.declared.form.Form.{Form}
use Rattle.record_codec.specs.declared.form.Form.TheVariants.{Narrow, Wide}
use Rattle.record_codec.specs.declared.record.Record.{Record}
use Rattle.key_state.specs.Limits.{IsKey}
use Rattle.record_codec.specs.Records.{AreContents, AreNarrow, IsRecord, body, clock, form_of, key, siblings, state, width_of}
use Rattle.record_codec.specs.Reading.{body_at, clock_at, key_at, number_at, place_at, placed_at, record_in, sent_at, siblings_at, state_at}
use Rattle.record_codec.proofs.Fields.{AreSiblings, IsEntries, IsSibling, clock_format, key_format, siblings_format}
use Rattle.record_codec.proofs.Formats.{IsBytes, IsFormat, bind_some, format_as, guard_some, number_format, pair_format, wide32, wide64}
use Rattle.record_codec.proofs.Sizes.{length-body, length-siblings}

-- ---- what fits a state

pub contents_from : (ss : List Sibling) → AllByRecursion IsSibling ss → AreContents ss
contents_from [] h = tt
contents_from (s ∷ ss) h = (h.0.1, contents_from ss h.1)

-- a vnode that a clock counts is one of its entries'
narrow_vnode : (entries : List Dot) (vnode : ℕ) → AreNarrow entries → 1 ≤ counter entries vnode → vnode < 2 ^ 32
narrow_vnode [] vnode narrow some = absurd (omega arith)
narrow_vnode (entry ∷ entries) vnode narrow some =
    elim (eqb entry.vnode vnode) as (λ b. eqb entry.vnode vnode ≡ b → 1 ≤ cond b entry.n (counter entries vnode) → vnode < 2 ^ 32) [
      | true ↦ λ is _. subst (λ v. v < 2 ^ 32) (eqb-true _ _ is) narrow.0
      | false ↦ λ is more. narrow_vnode entries vnode narrow.1 more
    ] refl some

small_counter : (bound : ℕ) (entries : List Dot) (vnode : ℕ) → AreRising bound entries → counter entries vnode ≤ 2 ^ 62
small_counter bound [] vnode h = omega arith
small_counter bound (entry ∷ entries) vnode h =
    elim (eqb entry.vnode vnode) as (λ b. cond b entry.n (counter entries vnode) ≤ 2 ^ 62) [ true ↦ h.2 | false ↦ small_counter (entry.vnode + 1) entries vnode h.3 ]

pub siblings_from : (entries : List Dot) (ss : List Sibling) → AreRising 0 entries → AreNarrow entries → AreCovered entries ss → AreContents ss → AllByRecursion IsSibling ss
siblings_from entries [] rising narrow covered contents = tt
siblings_from entries (s ∷ ss) rising narrow covered contents =
    let some = covered.0.0 in
    let low = covered.0.1 in
    let small = small_counter 0 entries s.dot.vnode rising in
    (((narrow_vnode entries s.dot.vnode narrow (omega arith), omega arith), contents.0), siblings_from entries ss rising narrow covered.1 contents.1)

-- what fits a state, field by field
abbrev pub IsRead : State → Type 0
IsRead s = IsEntries s.clock × AreSiblings s.clock s.siblings

pub state_format : IsFormat state_at state IsRead
unfolding state_at
state_format =
    pair_format clock_at siblings_at (λ (c : List Dot) (ss : List Sibling). record { siblings = ss; clock = c }) (λ (s : State). s.clock) (λ (s : State). s.siblings) clock siblings IsEntries AreSiblings (λ a b. refl) (λ a b. refl) (λ s. refl)
    clock_format siblings_format

-- ---- places

-- a place that is written in this form
abbrev IsOfForm : Form → ℕ → Type 0
IsOfForm form at = (at < 2 ^ 64) × (form_of at ≡ form)

pub narrow_form : (at : ℕ) → at < 2 ^ 32 → form_of at ≡ Narrow
narrow_form at lt = rw (lt-ltb at (2 ^ 32) lt) refl

pub wide_form : (at : ℕ) → 2 ^ 32 ≤ at → form_of at ≡ Wide
wide_form at le = rw (le-ltb at (2 ^ 32) le) refl

pub narrow_below : (at : ℕ) → form_of at ≡ Narrow → at < 2 ^ 32
narrow_below at is =
    elim (cases_lt at (2 ^ 32)) [
      | inl lt ↦ lt
      | inr le ↦ (let wide = wide_form at le in absurd cc)
    ]

pub wide_above : (at : ℕ) → form_of at ≡ Wide → 2 ^ 32 ≤ at
wide_above at is =
    elim (cases_lt at (2 ^ 32)) [
      | inl lt ↦ (let narrow = narrow_form at lt in absurd cc)
      | inr le ↦ le
    ]

wide_takes : (bytes : List ℕ) (x : ℕ × List ℕ) → IsBytes bytes → place_at Wide bytes ≡ Some x → (bytes ≡ to_be_bytes w64 x.0 ++ x.1) × IsOfForm Wide x.0
unfolding place_at
wide_takes bytes x fits e =
    let n = bind_some (number_at w64 bytes) (λ at. cond (leb (2 ^ 32) at.0) (Some at) None) x e in
    let g = guard_some (leb (2 ^ 32) n.0.0) n.0 x n.2 in
    let t = (number_format w64 (2 ^ 64) wide64).takes bytes n.0 fits n.1 in
    subst (λ (x : ℕ × List ℕ). (bytes ≡ to_be_bytes w64 x.0 ++ x.1) × IsOfForm Wide x.0) g.1 (t.0, (t.1, wide_form n.0.0 (leb-true _ _ g.0)))

wide_again : (at : ℕ) (rest : List ℕ) → IsOfForm Wide at → place_at Wide (to_be_bytes w64 at ++ rest) ≡ Some (at, rest)
unfolding place_at
wide_again at rest h =
    let one = (number_format w64 (2 ^ 64) wide64).again at rest h.0 in
    let high : leb (2 ^ 32) at ≡ true = le-leb _ _ (wide_above at h.1) in
    rw (one, high) refl

place_format : (form : Form) → IsFormat (place_at form) (to_be_bytes (width_of form)) (IsOfForm form)
unfolding place_at
place_format Narrow =
    format_as (number_at w32) (to_be_bytes w32) (to_be_bytes w32) (λ at. at < 2 ^ 32) (IsOfForm Narrow) (λ at. refl) (λ at lt. (omega arith, narrow_form at lt)) (λ at h. narrow_below at h.1)
    (number_format w32 (2 ^ 32) wide32)
place_format Wide = record { takes = wide_takes; again = wide_again }

-- ---- records

placed_format : (form : Form) → IsFormat (placed_at form) (λ p. to_be_bytes (width_of form) p.0 ++ state p.1) (λ p. IsOfForm form p.0 × IsRead p.1)
unfolding placed_at
placed_format form =
    pair_format (place_at form) (λ _. state_at) (λ (a : ℕ) (s : State). (a, s)) (λ (p : ℕ × State). p.0) (λ (p : ℕ × State). p.1) (to_be_bytes (width_of form)) state (IsOfForm form) (λ _. IsRead) (λ a b. refl) (λ a b. refl) (λ p. refl)
    (place_format form) (λ _. state_format)

sent_format : (form : Form) → IsFormat (sent_at form) (λ p. to_be_bytes w32 p.0 ++ (to_be_bytes (width_of form) p.1.0 ++ state p.1.1)) (λ p. (p.0 < 2 ^ 32) × (IsOfForm form p.1.0 × IsRead p.1.1))
unfolding sent_at
sent_format form =
    pair_format (number_at w32) (λ _. placed_at form) (λ (f : ℕ) (p : ℕ × State). (f, p)) (λ (p : ℕ × (ℕ × State)). p.0) (λ (p : ℕ × (ℕ × State)). p.1) (to_be_bytes w32) (λ p. to_be_bytes (width_of form) p.0 ++ state p.1) (λ f. f < 2 ^ 32) (λ _ p. IsOfForm form p.0 × IsRead p.1) (λ a b. refl) (λ a b. refl) (λ p. refl)
    (number_format w32 (2 ^ 32) wide32) (λ _. placed_format form)

-- what fits a record of a form, field by field
abbrev IsReadRecord : Form → Record → Type 0
IsReadRecord form r = IsKey r.key × ((r.from < 2 ^ 32) × (IsOfForm form r.at × IsRead r.state))

-- the body that a record would have in a form
abbrev body_as : Form → Record → List ℕ
body_as form r = key r.key ++ to_be_bytes w32 r.from ++ to_be_bytes (width_of form) r.at ++ state r.state

body_regrouped : (form : Form) (r : Record) → key r.key ++ (to_be_bytes w32 r.from ++ (to_be_bytes (width_of form) r.at ++ state r.state)) ≡ body_as form r
body_regrouped form r = sym (append_assoc (key r.key ++ to_be_bytes w32 r.from) (to_be_bytes (width_of form) r.at) (state r.state) ∙ append_assoc (key r.key) (to_be_bytes w32 r.from) (to_be_bytes (width_of form) r.at ++ state r.state))

body_format : (form : Form) → IsFormat (body_at form) (body_as form) (IsReadRecord form)
unfolding body_at
body_format form =
    format_as (body_at form) (λ r. key r.key ++ (to_be_bytes w32 r.from ++ (to_be_bytes (width_of form) r.at ++ state r.state))) (body_as form) (IsReadRecord form) (IsReadRecord form) (body_regrouped form) (λ r h. h) (λ r h. h)
    (pair_format key_at (λ _. sent_at form) (λ (k : Key) (p : ℕ × (ℕ × State)). record { key = k; from = p.0; at = p.1.0; state = p.1.1 }) (λ (r : Record). r.key) (λ (r : Record). (r.from, (r.at, r.state))) key (λ p. to_be_bytes w32 p.0 ++ (to_be_bytes (width_of form) p.1.0 ++ state p.1.1)) IsKey (λ _ p. (p.0 < 2 ^ 32) × (IsOfForm form p.1.0 × IsRead p.1.1)) (λ a b. refl) (λ a b. refl) (λ r. refl)
    key_format (λ _. sent_format form))

record_from : (form : Form) (r : Record) → IsReadRecord form r → length (body r) < 2 ^ 32 → IsRecord r
record_from form r h short = record {
  key = h.0;
  from = h.1.0;
  at = h.1.1.0.0;
  state = record { in_order = h.1.1.1.1.2; covered = h.1.1.1.1.3; clock = h.1.1.1.0.0 };
  vnodes = h.1.1.1.0.1;
  contents = contents_from r.state.siblings h.1.1.1.1.1;
  short = short;
}

read_from : (r : Record) → IsRecord r → IsReadRecord (form_of r.at) r
read_from r h =
    let all = length-body r in
    let each = length-siblings r.state.siblings in
    let short = h.short in
    let ss : AreSiblings r.state.clock r.state.siblings = (omega arith, siblings_from r.state.clock r.state.siblings h.state.clock.rising h.vnodes h.state.covered h.contents, h.state.in_order, h.state.covered) in
    (h.key, (h.from, ((h.at, refl), ((h.state.clock, h.vnodes), ss))))

-- what is read of a whole body is spelled so, in this form
pub record_takes : (form : Form) (bytes : List ℕ) (r : Record) → IsBytes bytes → length bytes < 2 ^ 32 → record_in form bytes ≡ Some r → IsRecord r × (bytes ≡ body r) × (form_of r.at ≡ form)
unfolding record_in
record_takes form bytes r fits short e =
    let x = bind_some (body_at form bytes) (λ x. cond (eqb (length x.1) 0) (Some x.0) None) r e in
    let g = guard_some (eqb (length x.0.1) 0) x.0.0 r x.2 in
    let t = (body_format form).takes bytes x.0 fits x.1 in
    let nothing : x.0.1 ≡ [] = nil_from_length x.0.1 (eqb-true _ _ g.0) in
    let of_form : form_of x.0.0.at ≡ form = t.1.1.1.0.1 in
    let whole : bytes ≡ body x.0.0 = t.0 ∙ ap (λ (rest : List ℕ). body_as form x.0.0 ++ rest) nothing ∙ append-nil (body_as form x.0.0) ∙ ap (λ (f : Form). body_as f x.0.0) (sym of_form) in
    let long : length (body x.0.0) < 2 ^ 32 = (let same = ap length whole in omega arith) in
    subst (λ r. IsRecord r × (bytes ≡ body r) × (form_of r.at ≡ form)) g.1 (record_from form x.0.0 t.1 long, whole, of_form)

-- what is spelled so is read of the whole body
pub record_again : (r : Record) → IsRecord r → record_in (form_of r.at) (body r) ≡ Some r
unfolding record_in
record_again r h =
    let read : body_at (form_of r.at) (body r) ≡ Some (r, []) = ap (body_at (form_of r.at)) (sym (append-nil (body r))) ∙ (body_format (form_of r.at)).again r [] (read_from r h) in
    rw read refl
