-- The names before a slot hold wherever a run comes there.
use Rattle.std.proofs.Common.{◌≡◌, ◌≢◌, ℕ, zero, suc, true, ◌&&◌, eqb, ltb, ℤ, pos, ◌+◌, ◌*◌, ◌^◌, ◌<◌, ◌≤◌, cond, List, ◌∷◌, length, get_or, set, drop, Option, Some, None, refl, sym, ap, ap₂, ◌∙◌, subst, inl, inr, ⊎_elim, arith, length-set, length-drop}
use Rattle.std.specs.Prelude.{◌⊎◌, ◌+ℤ◌, slice_get, unwrap_or}
use Rattle.std.proofs.lemmas.Bool.{cond_both, cases_eq, and_parts, eqb-true, eq-eqb, ltb-true}
use Rattle.std.proofs.lemmas.List.{get_or-set_same, get_or-set_other, get_or-drop}
use Rattle.std.proofs.lemmas.Option.{unwrap_or-slice_get}
use Rattle.bpf_alu.specs.Value.{wrapped, value, condition}
use Rattle.bpf_alu.specs.declared.Op.{Op}
use Rattle.bpf_alu.specs.declared.Op.TheVariants as op
use Rattle.bpf_alu.specs.declared.Width.{Width}
use Rattle.bpf_alu.specs.declared.Width.TheVariants.{W32, W64}
use Rattle.bpf_insn.specs.Encoding.{number}
use Rattle.bpf_insn.specs.declared.Register.{Register}
use Rattle.bpf_insn.specs.declared.Register.TheVariants.{R0, R1, R2, R3, R4, R5, R6, R7, R8, R9, R10}
use Rattle.bpf_insn.specs.declared.Operand.{Operand}
use Rattle.bpf_insn.specs.declared.Operand.TheVariants as operand
use Rattle.bpf_insn.specs.declared.Distance.TheVariants as distance
use Rattle.bpf_insn.specs.declared.Insn.{Insn}
use Rattle.bpf_insn.specs.declared.Insn.TheVariants as insn
use Rattle.bpf_semantics.specs.State.{Calls, State, number_in, operand_in, with_register, jumped, advanced, Row as Does}
use Rattle.bpf_image.specs.Form.{landing, target_of}
use Rattle.bpf_copies.specs.Led.{is_slot}
use Rattle.bpf_copies.proofs.Slots.{number_small, slot_on, two_on}
use Rattle.bpf_copies.specs.declared.bounds.Bounds.{Bounds}
use Rattle.bpf_copies.specs.declared.name.Name.{Name}
use Rattle.bpf_copies.specs.Names.{Names, name_at, with_name, new_name, new_names, single, moved_by, shifted, name_of_op, names_after, joined_name, joined_names, joined, goes_on, by_jump, by_next, brought, come, arriving, names_at, AreNamed, distance_from}
use Rattle.bpf_copies.proofs.Modular.{swap_added, move_added, swap_taken, move_taken, taken_back, moved, moved_small}

abbrev none : Name
none = record { value = 0; distance = 0 }

abbrev Sum : ℕ → ℕ → ℕ
Sum = value op.Add W64

-- what the registers hold, of a list of them
abbrev held : List (Option ℕ) → ℕ → ℕ
held rs r = unwrap_or (unwrap_or (slice_get rs r) None) 0

-- a name that was given before slot i, or that is new there and the register's own
abbrev IsOwn : ℕ → Register → Name → Type 0
IsOwn i r n = (n.value < 16 * i) ⊎ (n.value ≡ 16 * i + number r)

-- the names of registers before a slot: eleven, given before or its own, and right
pub record Stand (i : ℕ) (names : Names) (s : State) : Type 0 where
  pub long : length names ≡ 11
  pub own : (r : Register) → IsOwn i r (name_at names r)
  pub named : AreNamed names s

below : (i : ℕ) (names : Names) (s : State) → Stand i names s → (r : Register) → (name_at names r).value < 16 * suc i
below i names s h r = ⊎_elim (λ lt. omega (arith, lt)) (λ e. let small = number_small r in omega (arith, e, small)) (h.own r)

-- the number in a register that is an operand is within bounds
abbrev pub IsWithin : Insn → Bounds → State → Type 0
IsWithin x known s = (o : Op) (w : Width) (dst src : Register) → x ≡ insn.Alu o w dst (operand.Register src) → (known.least ≤ number_in s src) × (number_in s src ≤ known.most)

-- ---- new names

new_at : (k : ℕ) (r : Register) → name_at (new_names k) r ≡ new_name k r
new_at k R0 = refl
new_at k R1 = refl
new_at k R2 = refl
new_at k R3 = refl
new_at k R4 = refl
new_at k R5 = refl
new_at k R6 = refl
new_at k R7 = refl
new_at k R8 = refl
new_at k R9 = refl
new_at k R10 = refl

same_number : (s : State) (a b : Register) → number a ≡ number b → number_in s a ≡ number_in s b
same_number s a b e = ap (held s.registers) e

pub new_stand : (k : ℕ) (s : State) → Stand k (new_names k) s
new_stand k s = record {
  long = refl;
  own = λ r. inr (ap (λ (n : Name). n.value) (new_at k r));
  named = λ a b same.
      let x = ap (λ (n : Name). n.value) (new_at k a) in
      let y = ap (λ (n : Name). n.value) (new_at k b) in
      let one : number a ≡ number b = omega (arith, same, x, y) in
      ap₂ Sum (same_number s a b one) (ap (λ (n : Name). n.distance) (new_at k b) ∙ sym (ap (λ (n : Name). n.distance) (new_at k a)));
}

-- the same registers hold the same on the way to any slot above
pub same_stand : (i k : ℕ) (names : Names) (s t : State) → i < k → t.registers ≡ s.registers → Stand i names s → Stand k names t
same_stand i k names s t lt e h = record {
  long = h.long;
  own = λ r. let low = below i names s h r in inl (omega (arith, low, lt));
  named = λ a b same. ap₂ Sum (ap (λ rs. held rs (number a)) e) refl ∙ h.named a b same ∙ sym (ap₂ Sum (ap (λ rs. held rs (number b)) e) refl);
}

-- ---- ways meet

-- what is left of some names: each as it was, or new and the register's own
abbrev LeftOf : ℕ → Names → Names → Register → Type 0
LeftOf k names others r = (name_at others r ≡ name_at names r) ⊎ (name_at others r ≡ new_name k r)

abbrev value_in : Name → ℕ
value_in n = n.value

left_stand : (k : ℕ) (names others : Names) (s : State) → Stand k names s → length others ≡ 11 → ((r : Register) → LeftOf k names others r) → Stand k others s
left_stand k names others s h long left = record {
  long = long;
  own = λ r. ⊎_elim (λ e. subst (IsOwn k r) (sym e) (h.own r)) (λ e. inr (ap value_in e)) (left r);
  named = λ a b same. ⊎_elim (λ one. alike a b one) (λ ne. apart a b ne same (left a) (left b)) (cases_eq (number a) (number b));
}
  where
    alike : (a b : Register) → number a ≡ number b → Sum (number_in s a) (name_at others b).distance ≡ Sum (number_in s b) (name_at others a).distance
    alike a b one = ap₂ Sum (same_number s a b one) (ap (λ n. (get_or others n none).distance) (sym one))

    not_new : (a b : Register) → number a ≢ number b → (name_at names a).value ≡ 16 * k + number b → ⊥
    not_new a b ne e = ⊎_elim (λ lt. omega (arith, lt, e)) (λ own. ne (omega (arith, own, e))) (h.own a)

    apart : (a b : Register) → number a ≢ number b → (name_at others a).value ≡ (name_at others b).value → LeftOf k names others a → LeftOf k names others b → Sum (number_in s a) (name_at others b).distance ≡ Sum (number_in s b) (name_at others a).distance
    apart a b ne same (inl ea) (inl eb) =
        ap (λ (n : Name). Sum (number_in s a) n.distance) eb
        ∙ h.named a b (sym (ap value_in ea) ∙ same ∙ ap value_in eb)
        ∙ sym (ap (λ (n : Name). Sum (number_in s b) n.distance) ea)
    apart a b ne same (inl ea) (inr eb) = absurd (not_new a b ne (sym (ap value_in ea) ∙ same ∙ ap value_in eb))
    apart a b ne same (inr ea) (inl eb) = absurd (not_new b a (λ e. ne (sym e)) (sym (ap value_in eb) ∙ sym same ∙ ap value_in ea))
    apart a b ne same (inr ea) (inr eb) = let x = ap value_in ea in let y = ap value_in eb in absurd (ne (omega (arith, x, y, same)))

abbrev Left : ℕ → Register → Name → Name → Type 0
Left k r n m = (m ≡ n) ⊎ (m ≡ new_name k r)

left_first : (k : ℕ) (r : Register) (a b : Name) → Left k r a (joined_name k r a b)
left_first k r a b = cond_both (eqb a.value b.value && eqb a.distance b.distance) a (new_name k r) (Left k r a) (λ _. inl refl) (λ _. inr refl)

left_second : (k : ℕ) (r : Register) (a b : Name) → Left k r b (joined_name k r a b)
left_second k r a b =
    cond_both (eqb a.value b.value && eqb a.distance b.distance) a (new_name k r) (Left k r b)
    (λ t.
    let parts = and_parts (eqb a.value b.value) (eqb a.distance b.distance) t in
    inl (ap₂ (λ v d. record { value = v; distance = d }) (eqb-true a.value b.value parts.0) (eqb-true a.distance b.distance parts.1)))
    (λ _. inr refl)

joined_at : (k : ℕ) (names others : Names) (r : Register) → name_at (joined_names k names others) r ≡ joined_name k r (name_at names r) (name_at others r)
joined_at k names others R0 = refl
joined_at k names others R1 = refl
joined_at k names others R2 = refl
joined_at k names others R3 = refl
joined_at k names others R4 = refl
joined_at k names others R5 = refl
joined_at k names others R6 = refl
joined_at k names others R7 = refl
joined_at k names others R8 = refl
joined_at k names others R9 = refl
joined_at k names others R10 = refl

-- names that came to a slot, and are right
abbrev StandIn : ℕ → Option Names → State → Type 0
StandIn k None s = ⊥
StandIn k (Some names) s = Stand k names s

joined_old : (k : ℕ) (old : Option Names) (names : Names) (s : State) → StandIn k old s → StandIn k (joined k old names) s
joined_old k None names s h = absurd h
joined_old k (Some old) names s h = left_stand k old (joined_names k old names) s h refl (λ r. subst (Left k r (name_at old r)) (sym (joined_at k old names r)) (left_first k r (name_at old r) (name_at names r)))

joined_new : (k : ℕ) (old : Option Names) (names : Names) (s : State) → Stand k names s → StandIn k (joined k old names) s
joined_new k None names s h = h
joined_new k (Some old) names s h = left_stand k names (joined_names k old names) s h refl (λ r. subst (Left k r (name_at names r)) (sym (joined_at k old names r)) (left_second k r (name_at old r) (name_at names r)))

jump_old : (k : ℕ) (target : Option ℤ) (names : Names) (old : Option Names) (s : State) → StandIn k old s → StandIn k (by_jump k target names old) s
jump_old k target names old s h = cond_both (is_slot k target) (joined k old names) old (λ o. StandIn k o s) (λ _. joined_old k old names s h) (λ _. h)

next_old : (k : ℕ) (c : Bounds) (x : Insn) (names : Names) (old : Option Names) (s : State) → StandIn k old s → StandIn k (by_next k c x names old) s
next_old k c x names old s h = cond_both (goes_on x) (joined k old (names_after k c x names)) old (λ o. StandIn k o s) (λ _. joined_old k old (names_after k c x names) s h) (λ _. h)

brought_old : (k n : ℕ) (c : Bounds) (x : Option Insn) (names : Names) (old : Option Names) (s : State) → StandIn k old s → StandIn k (brought k n c x names old) s
brought_old k n c None names old s h = h
brought_old k n c (Some x) names old s h =
    let led = by_jump k (target_of n x) names old in
    let there = jump_old k (target_of n x) names old s h in
    cond_both (eqb (suc n) k) (by_next k c x names led) led (λ o. StandIn k o s) (λ _. next_old k c x names led s there) (λ _. there)

come_stand : (k : ℕ) (o : Option Names) (s : State) → StandIn k o s → Stand k (come k o) s
come_stand k None s h = absurd h
come_stand k (Some names) s h = h

module _ (code : List Insn) (known : ℕ → Bounds) (k : ℕ) (s : State) where
  -- what came stays right
  later : (n m : ℕ) → m ≤ n → StandIn k (arriving code known m k) s → StandIn k (arriving code known n k) s
  later n m le h =
      ⊎_elim
      (λ same. subst (λ j. StandIn k (arriving code known j k) s) (sym same) h)
      (λ other. more n m le other h)
      (cases_eq n m)
    where
      more : (n m : ℕ) → m ≤ n → n ≢ m → StandIn k (arriving code known m k) s → StandIn k (arriving code known n k) s
      more zero m le ne h = absurd (ne (omega (arith, le)))
      more (suc n) m le ne h =
          let before : StandIn k (arriving code known n k) s =
          ⊎_elim (λ same. subst (λ j. StandIn k (arriving code known j k) s) (sym same) h) (λ other. more n m (omega (arith, le, ne)) other h) (cases_eq n m) in
          brought_old k n (known n) (slice_get code n) (come n (arriving code known n n)) (arriving code known n k) s before

  -- a jump leads there
  pub led_to : (i : ℕ) (x : Insn) → i < k → slice_get code i ≡ Some x → target_of i x ≡ Some (pos k) → Stand k (names_at code known i) s → Stand k (names_at code known k) s
  led_to i x lt at to h =
      let names = names_at code known i in
      let old = arriving code known i k in
      let led = by_jump k (target_of i x) names old in
      let there : StandIn k led s =
      subst (λ o. StandIn k (by_jump k o names old) s) (sym to) (subst (λ b. StandIn k (cond b (joined k old names) old) s) (sym (eq-eqb k k refl)) (joined_new k old names s h)) in
      let both : StandIn k (brought k i (known i) (Some x) names old) s = cond_both (eqb (suc i) k) (by_next k (known i) x names led) led (λ o. StandIn k o s) (λ _. next_old k (known i) x names led s there) (λ _. there) in
      come_stand k (arriving code known k k) s
      (later k (suc i) (omega (arith, lt)) (subst (λ o. StandIn k (brought k i (known i) o names old) s) (sym at) both))

-- and from one slot to the next
next_stand : (code : List Insn) (known : ℕ → Bounds) (i k : ℕ) (x : Insn) (t : State) → k ≡ suc i → slice_get code i ≡ Some x → goes_on x ≡ true → Stand (suc i) (names_after (suc i) (known i) x (names_at code known i)) t → Stand k (names_at code known k) t
next_stand code known i k x t e at goes h =
    let names = names_at code known i in
    let old = arriving code known i (suc i) in
    let led = by_jump (suc i) (target_of i x) names old in
    let after = names_after (suc i) (known i) x names in
    let on : StandIn (suc i) (by_next (suc i) (known i) x names led) t = subst (λ b. StandIn (suc i) (cond b (joined (suc i) led after) led) t) (sym goes) (joined_new (suc i) led after t h) in
    let both : StandIn (suc i) (brought (suc i) i (known i) (Some x) names old) t = subst (λ b. StandIn (suc i) (cond b (by_next (suc i) (known i) x names led) led) t) (sym (eq-eqb (suc i) (suc i) refl)) on in
    subst (λ n. Stand n (names_at code known n) t) (sym e)
    (come_stand (suc i) (arriving code known (suc i) (suc i)) t (subst (λ o. StandIn (suc i) (brought (suc i) i (known i) o names old) t) (sym at) both))

-- ---- one register is written

module _ (s : State) (eleven : length s.registers ≡ 11) (words : (r : Register) → number_in s r < 2 ^ 64) (i : ℕ) (names : Names) (stand : Stand i names s) where
  abbrev Then : Register → ℕ → State
  Then dst v = advanced (with_register dst v s)

  -- a name that may be given to a register that gets a number
  pub record Agrees (dst : Register) (v : ℕ) (n : Name) : Type 0 where
    pub before : IsOwn (suc i) dst n
    pub equal : (b : Register) → number b ≢ number dst → n.value ≡ (name_at names b).value → Sum v (name_at names b).distance ≡ Sum (number_in s b) n.distance

  new_agrees : (dst : Register) (v : ℕ) → Agrees dst v (new_name (suc i) dst)
  new_agrees dst v = record {
    before = inr refl;
    equal = λ b ne same. let low = below i names s stand b in absurd (omega (arith, same, low));
  }

  copy_agrees : (dst src : Register) (m : ℕ) → Agrees dst (value op.Mov W64 m (number_in s src)) (name_at names src)
  copy_agrees dst src m = record {
    before = inl (below i names s stand src);
    equal = λ b ne same. ap (λ x. Sum x (name_at names b).distance) (moved m (number_in s src) (words src)) ∙ stand.named src b same;
  }

  -- a copy by 32 bits of a number below 2 ^ 32
  small_agrees : (dst src : Register) (m : ℕ) → number_in s src < 2 ^ 32 → Agrees dst (value op.Mov W32 m (number_in s src)) (name_at names src)
  small_agrees dst src m small = record {
    before = inl (below i names s stand src);
    equal = λ b ne same. ap (λ x. Sum x (name_at names b).distance) (moved_small m (number_in s src) small) ∙ stand.named src b same;
  }

  added_agrees : (dst : Register) (c : ℕ) → Agrees dst (value op.Add W64 (number_in s dst) c) (moved_by op.Add c (name_at names dst))
  added_agrees dst c = record {
    before = inl (below i names s stand dst);
    equal = λ b ne same.
        swap_added (number_in s dst) c (name_at names b).distance
        ∙ ap (λ x. value op.Add W64 x c) (stand.named dst b same)
        ∙ sym (move_added (number_in s b) (name_at names dst).distance c);
  }

  taken_agrees : (dst : Register) (c : ℕ) → Agrees dst (value op.Sub W64 (number_in s dst) c) (moved_by op.Sub c (name_at names dst))
  taken_agrees dst c = record {
    before = inl (below i names s stand dst);
    equal = λ b ne same.
        swap_taken (number_in s dst) c (name_at names b).distance
        ∙ ap (λ x. value op.Sub W64 x c) (stand.named dst b same)
        ∙ sym (move_taken (number_in s b) (name_at names dst).distance c);
  }

  -- the same of one number, if it is known
  moves_agree : (o : Op) (dst : Register) (known : Bounds) (src : Operand) → ((c : ℕ) → Agrees dst (value o W64 (number_in s dst) c) (moved_by o c (name_at names dst))) → IsWithin (insn.Alu o W64 dst src) known s
      → Agrees dst (value o W64 (number_in s dst) (operand_in s src)) (shifted (suc i) dst o (single known src) (name_at names dst))
  moves_agree o dst known (operand.Immediate n) agrees within = agrees (wrapped 64 n)
  moves_agree o dst known (operand.Register src) agrees within =
      let P : Option ℕ → Type 0 = λ n. Agrees dst (value o W64 (number_in s dst) (number_in s src)) (shifted (suc i) dst o n (name_at names dst)) in
      cond_both (eqb known.least known.most) (Some known.least) None P
      (λ t.
      let one = eqb-true known.least known.most t in
      let bounds = within o W64 dst src refl in
      let is : known.least ≡ number_in s src = omega (arith, one, bounds) in
      subst (λ c. Agrees dst (value o W64 (number_in s dst) c) (moved_by o known.least (name_at names dst))) is (agrees known.least))
      (λ _. new_agrees dst _)

  op_agrees : (known : Bounds) (o : Op) (w : Width) (dst : Register) (src : Operand) → IsWithin (insn.Alu o w dst src) known s → Agrees dst (value o w (number_in s dst) (operand_in s src)) (name_of_op (suc i) known o w dst src names)
  op_agrees known op.Mov W64 dst (operand.Register src) right = copy_agrees dst src (number_in s dst)
  op_agrees known op.Mov W64 dst (operand.Immediate n) right = new_agrees dst _
  op_agrees known op.Mov W32 dst (operand.Immediate n) right = new_agrees dst _
  op_agrees known op.Mov W32 dst (operand.Register src) right =
      cond_both (ltb known.most (2 ^ 32)) (name_at names src) (new_name (suc i) dst) (Agrees dst (value op.Mov W32 (number_in s dst) (number_in s src)))
      (λ t. let low = ltb-true known.most (2 ^ 32) t in let bounds = right op.Mov W32 dst src refl in small_agrees dst src (number_in s dst) (omega (arith, low, bounds)))
      (λ _. new_agrees dst _)
  op_agrees known op.Add W64 dst src right = moves_agree op.Add dst known src (added_agrees dst) right
  op_agrees known op.Add W32 dst src right = new_agrees dst _
  op_agrees known op.Sub W64 dst src right = moves_agree op.Sub dst known src (taken_agrees dst) right
  op_agrees known op.Sub W32 dst src right = new_agrees dst _
  op_agrees known op.Mul w dst src right = new_agrees dst _
  op_agrees known op.Div w dst src right = new_agrees dst _
  op_agrees known op.SignedDiv w dst src right = new_agrees dst _
  op_agrees known op.Or w dst src right = new_agrees dst _
  op_agrees known op.And w dst src right = new_agrees dst _
  op_agrees known op.Xor w dst src right = new_agrees dst _
  op_agrees known op.Lsh w dst src right = new_agrees dst _
  op_agrees known op.Rsh w dst src right = new_agrees dst _
  op_agrees known op.Arsh w dst src right = new_agrees dst _
  op_agrees known op.Neg w dst src right = new_agrees dst _
  op_agrees known op.Mod w dst src right = new_agrees dst _
  op_agrees known op.SignedMod w dst src right = new_agrees dst _
  op_agrees known op.Movsx8 w dst src right = new_agrees dst _
  op_agrees known op.Movsx16 w dst src right = new_agrees dst _
  op_agrees known op.Movsx32 w dst src right = new_agrees dst _

  module _ (dst : Register) (v : ℕ) (n : Name) where
    name_same : (r : Register) → number r ≡ number dst → name_at (with_name names dst n) r ≡ n
    name_same r e = ap (λ k. get_or (set names (number dst) n) k none) e ∙ get_or-set_same names (number dst) n none (omega (arith, stand.long, number_small dst))

    name_other : (r : Register) → number r ≢ number dst → name_at (with_name names dst n) r ≡ name_at names r
    name_other r ne = get_or-set_other names (number dst) (number r) n none ne

    number_same : (r : Register) → number r ≡ number dst → number_in (Then dst v) r ≡ v
    number_same r e =
        ap (held (set s.registers (number dst) (Some v))) e
        ∙ ap (λ o. unwrap_or o 0)
        (unwrap_or-slice_get (set s.registers (number dst) (Some v)) (number dst) None ∙ get_or-set_same s.registers (number dst) (Some v) None (omega (arith, eleven, number_small dst)))

    number_other : (r : Register) → number r ≢ number dst → number_in (Then dst v) r ≡ number_in s r
    number_other r ne =
        ap (λ o. unwrap_or o 0)
        (unwrap_or-slice_get (set s.registers (number dst) (Some v)) (number r) None ∙ get_or-set_other s.registers (number dst) (number r) (Some v) None ne ∙ sym (unwrap_or-slice_get s.registers (number r) None))

    abbrev value_of : Name → ℕ
    value_of m = m.value

    abbrev distance_of : Name → ℕ
    distance_of m = m.distance

    pub write_stand : Agrees dst v n → Stand (suc i) (with_name names dst n) (Then dst v)
    write_stand h = record {
      long = length-set _ _ _ ∙ stand.long;
      own = λ r. ⊎_elim
          (λ e. subst (IsOwn (suc i) r) (sym (name_same r e)) (⊎_elim (λ lt. inl lt) (λ is. inr (is ∙ ap (λ n. 16 * suc i + n) (sym e))) h.before))
          (λ ne. subst (IsOwn (suc i) r) (sym (name_other r ne)) (inl (below i names s stand r)))
          (cases_eq (number r) (number dst));
      named = λ a b same.
          ⊎_elim
          (λ ea. ⊎_elim
          (λ eb. ap₂ Sum (number_same a ea ∙ sym (number_same b eb)) (ap distance_of (name_same b eb) ∙ sym (ap distance_of (name_same a ea))))
          (λ nb.
          let one : n.value ≡ (name_at names b).value = sym (ap value_of (name_same a ea)) ∙ same ∙ ap value_of (name_other b nb) in
          ap₂ Sum (number_same a ea) (ap distance_of (name_other b nb)) ∙ h.equal b nb one ∙ sym (ap₂ Sum (number_other b nb) (ap distance_of (name_same a ea))))
          (cases_eq (number b) (number dst)))
          (λ na. ⊎_elim
          (λ eb.
          let one : n.value ≡ (name_at names a).value = sym (ap value_of (name_same b eb)) ∙ sym same ∙ ap value_of (name_other a na) in
          ap₂ Sum (number_other a na) (ap distance_of (name_same b eb)) ∙ sym (h.equal a na one) ∙ sym (ap₂ Sum (number_same b eb) (ap distance_of (name_other a na))))
          (λ nb.
          let one : (name_at names a).value ≡ (name_at names b).value = sym (ap value_of (name_other a na)) ∙ same ∙ ap value_of (name_other b nb) in
          ap₂ Sum (number_other a na) (ap distance_of (name_other b nb)) ∙ stand.named a b one ∙ sym (ap₂ Sum (number_other b nb) (ap distance_of (name_other a na))))
          (cases_eq (number b) (number dst)))
          (cases_eq (number a) (number dst));
    }

-- ---- a call writes R0 to R5

abbrev called : ℕ → Names → Names
called k names = new_name k R0 ∷ new_name k R1 ∷ new_name k R2 ∷ new_name k R3 ∷ new_name k R4 ∷ new_name k R5 ∷ drop 6 names

abbrev answered : Option ℕ → List (Option ℕ) → List (Option ℕ)
answered o rs = o ∷ None ∷ None ∷ None ∷ None ∷ None ∷ drop 6 rs

abbrev AtCall : ℕ → Names → Register → Type 0
AtCall k names r = (number r < 6 × name_at (called k names) r ≡ new_name k r) ⊎ (6 ≤ number r × name_at (called k names) r ≡ name_at names r)

at_call : (k : ℕ) (names : Names) (r : Register) → AtCall k names r
at_call k names R0 = inl (omega arith, refl)
at_call k names R1 = inl (omega arith, refl)
at_call k names R2 = inl (omega arith, refl)
at_call k names R3 = inl (omega arith, refl)
at_call k names R4 = inl (omega arith, refl)
at_call k names R5 = inl (omega arith, refl)
at_call k names R6 = inr (omega arith, get_or-drop 6 names 0 none)
at_call k names R7 = inr (omega arith, get_or-drop 6 names 1 none)
at_call k names R8 = inr (omega arith, get_or-drop 6 names 2 none)
at_call k names R9 = inr (omega arith, get_or-drop 6 names 3 none)
at_call k names R10 = inr (omega arith, get_or-drop 6 names 4 none)

held_is : (rs : List (Option ℕ)) (j : ℕ) → held rs j ≡ unwrap_or (get_or rs j None) 0
held_is rs j = ap (λ o. unwrap_or o 0) (unwrap_or-slice_get rs j None)

dropped : (rs : List (Option ℕ)) (j : ℕ) → get_or (drop 6 rs) j None ≡ get_or rs (6 + j) None → held (drop 6 rs) j ≡ held rs (6 + j)
dropped rs j e = held_is (drop 6 rs) j ∙ ap (λ p. unwrap_or p 0) e ∙ sym (held_is rs (6 + j))

at_held : (o : Option ℕ) (rs : List (Option ℕ)) (r : Register) → 6 ≤ number r → held (answered o rs) (number r) ≡ held rs (number r)
at_held o rs R0 le = absurd (omega (arith, le))
at_held o rs R1 le = absurd (omega (arith, le))
at_held o rs R2 le = absurd (omega (arith, le))
at_held o rs R3 le = absurd (omega (arith, le))
at_held o rs R4 le = absurd (omega (arith, le))
at_held o rs R5 le = absurd (omega (arith, le))
at_held o rs R6 le = dropped rs 0 (get_or-drop 6 rs 0 None)
at_held o rs R7 le = dropped rs 1 (get_or-drop 6 rs 1 None)
at_held o rs R8 le = dropped rs 2 (get_or-drop 6 rs 2 None)
at_held o rs R9 le = dropped rs 3 (get_or-drop 6 rs 3 None)
at_held o rs R10 le = dropped rs 4 (get_or-drop 6 rs 4 None)

module _ (s t : State) (o : Option ℕ) (i : ℕ) (names : Names) (stand : Stand i names s) (is : t.registers ≡ answered o s.registers) where
  kept : (r : Register) → 6 ≤ number r → number_in t r ≡ number_in s r
  kept r le = ap (λ rs. held rs (number r)) is ∙ at_held o s.registers r le

  abbrev values : Register → ℕ
  values r = (name_at (called (suc i) names) r).value

  abbrev Named : Register → Register → Type 0
  Named a b = values a ≡ values b → Sum (number_in t a) (name_at (called (suc i) names) b).distance ≡ Sum (number_in t b) (name_at (called (suc i) names) a).distance

  abbrev Before : Register → Type 0
  Before r = number r < 6 × name_at (called (suc i) names) r ≡ new_name (suc i) r

  abbrev Behind : Register → Type 0
  Behind r = 6 ≤ number r × name_at (called (suc i) names) r ≡ name_at names r

  pub call_stand : Stand (suc i) (called (suc i) names) t
  call_stand = record {
    long = let e = length-drop 6 names in omega (arith, e, stand.long);
    own = λ r. ⊎_elim
        (λ h. inr (ap value_in h.1))
        (λ h. let e = ap value_in h.1 in let low = below i names s stand r in inl (omega (arith, e, low)))
        (at_call (suc i) names r);
    named = λ a b. ⊎_elim
        (λ h. ⊎_elim (λ g. both a b h g) (λ g. apart a b h g) (at_call (suc i) names b))
        (λ h. ⊎_elim (λ g same. sym (apart b a g h (sym same))) (λ g. neither a b h g) (at_call (suc i) names b))
        (at_call (suc i) names a);
  }
    where
      both : (a b : Register) → Before a → Before b → Named a b
      both a b h g same =
          let x = ap (λ (n : Name). n.value) h.1 in
          let y = ap (λ (n : Name). n.value) g.1 in
          let one : number a ≡ number b = omega (arith, same, x, y) in
          ap₂ Sum (same_number t a b one) (ap (λ (n : Name). n.distance) g.1 ∙ sym (ap (λ (n : Name). n.distance) h.1))

      apart : (a b : Register) → Before a → Behind b → Named a b
      apart a b h g same =
          let x = ap (λ (n : Name). n.value) h.1 in
          let y = ap (λ (n : Name). n.value) g.1 in
          let low = below i names s stand b in
          absurd (omega (arith, same, x, y, low))

      neither : (a b : Register) → Behind a → Behind b → Named a b
      neither a b h g same =
          let one : (name_at names a).value ≡ (name_at names b).value = sym (ap (λ (n : Name). n.value) h.1) ∙ same ∙ ap (λ (n : Name). n.value) g.1 in
          ap₂ Sum (kept a h.0) (ap (λ (n : Name). n.distance) g.1) ∙ stand.named a b one ∙ sym (ap₂ Sum (kept b g.0) (ap (λ (n : Name). n.distance) h.1))

-- ---- two registers

-- a register that is so much more than another, by their names
pub distance_is : (names : Names) (s : State) (a b : Register) → AreNamed names s → (name_at names a).value ≡ (name_at names b).value → number_in s b < 2 ^ 64 → Sum (number_in s a) (distance_from names a b) ≡ number_in s b
distance_is names s a b h same word =
    move_taken (number_in s a) (name_at names b).distance (name_at names a).distance
    ∙ ap (λ x. value op.Sub W64 x (name_at names a).distance) (h a b same)
    ∙ taken_back (number_in s b) (name_at names a).distance word

-- ---- slots

module _ (calls : Calls) (code : List Insn) (known : ℕ → Bounds) (s : State) (i : ℕ) (at : s.slot ≡ pos i) (eleven : length s.registers ≡ 11) (words : (r : Register) → number_in s r < 2 ^ 64) (stand : Stand i (names_at code known i) s) (after_wide : (dst : Register) (n : ℕ) → slice_get code i ≡ Some (insn.Wide dst n) → slice_get code (i + 1) ≡ Some insn.Tail) where
  -- a state that has gone on to the next slot
  on : (k : ℕ) (x : Insn) (t u : State) → slice_get code i ≡ Some x → goes_on x ≡ true → t ≡ advanced u → u.slot ≡ s.slot → t.slot ≡ pos k → Stand (suc i) (names_after (suc i) (known i) x (names_at code known i)) (advanced u) → Stand k (names_at code known k) t
  on k x t u there goes e same to h =
      let next : (s.slot +ℤ pos 1) ≡ pos k = ap (λ z. z +ℤ pos 1) (sym same) ∙ sym (ap (λ v. v.slot) e) ∙ to in
      next_stand code known i k x t (slot_on s.slot i k at next) there goes (subst (Stand (suc i) (names_after (suc i) (known i) x (names_at code known i))) (sym e) h)

  -- and one that has jumped
  goes_to : (k : ℕ) (x : Insn) (t : State) (o : ℤ) → t.registers ≡ s.registers → i < k → slice_get code i ≡ Some x → target_of i x ≡ Some (landing i o) → (s.slot +ℤ pos 1 +ℤ o) ≡ pos k → Stand k (names_at code known k) t
  goes_to k x t o same lt there to slot = led_to code known k t i x lt there (to ∙ ap Some (ap (λ z. z +ℤ pos 1 +ℤ o) (sym at) ∙ slot)) (same_stand i k (names_at code known i) s t lt same stand)

  fresh : (dst : Register) (v : ℕ) → Stand (suc i) (with_name (names_at code known i) dst (new_name (suc i) dst)) (advanced (with_register dst v s))
  fresh dst v = write_stand s eleven words i (names_at code known i) stand dst v (new_name (suc i) dst) (new_agrees s eleven words i (names_at code known i) stand dst v)

  pub names_hold : (k : ℕ) (x : Insn) (t : State) → i < k → slice_get code i ≡ Some x → t.slot ≡ pos k → IsWithin x (known i) s → Does calls x s t → Stand k (names_at code known k) t
  names_hold k (insn.Alu o w dst src) t lt there to right d =
      on k _ t (with_register dst (value o w (number_in s dst) (operand_in s src)) s) there refl d refl to
      (write_stand s eleven words i (names_at code known i) stand dst _ (name_of_op (suc i) (known i) o w dst src (names_at code known i)) (op_agrees s eleven words i (names_at code known i) stand (known i) o w dst src right))
  names_hold k (insn.Swap kind n dst) t lt there to right d = on k _ t (with_register dst _ s) there refl d refl to (fresh dst _)
  names_hold k (insn.Load size extend dst r offset) t lt there to right d = on k _ t (with_register dst _ s) there refl d.2 refl to (fresh dst _)
  names_hold k (insn.Store size r offset src) t lt there to right d = on k _ t _ there refl d.2 refl to (same_stand i (suc i) (names_at code known i) s _ (omega arith) refl stand)
  names_hold k (insn.Jump (distance.Near o)) t lt there to right d = goes_to k _ t o (ap (λ v. v.registers) d) lt there refl (sym (ap (λ v. v.slot) d) ∙ to)
  names_hold k (insn.Jump (distance.Far o)) t lt there to right d = goes_to k _ t o (ap (λ v. v.registers) d) lt there refl (sym (ap (λ v. v.slot) d) ∙ to)
  names_hold k (insn.JumpIf c w l r o) t lt there to right d =
      let P : State → Type 0 = λ u. u.slot ≡ pos k → Stand k (names_at code known k) u in
      subst P (sym d)
      (cond_both (condition c w (number_in s l) (operand_in s r)) (jumped o s) (advanced s) P
      (λ _ slot. goes_to k _ (jumped o s) o refl lt there refl slot)
      (λ _ slot. on k _ (advanced s) s there refl refl refl slot (same_stand i (suc i) (names_at code known i) s (advanced s) (omega arith) refl stand)))
      to
  names_hold k (insn.Call n) t lt there to right d =
      let u = record s { registers = Some d.0 ∷ None ∷ None ∷ None ∷ None ∷ None ∷ drop 6 s.registers; memory = d.1 } in
      on k _ t u there refl d.3 refl to (call_stand s (advanced u) (Some d.0) i (names_at code known i) stand refl)
  names_hold k insn.Exit t lt there to right d = absurd d
  names_hold k (insn.Wide dst n) t lt there to right d =
      let tail : slice_get code (suc i) ≡ Some insn.Tail = ap (slice_get code) (omega arith) ∙ after_wide dst n there in
      let two = two_on s.slot i k at (sym (ap (λ v. v.slot) d) ∙ to) in
      let registers : t.registers ≡ set s.registers (number dst) (Some n) = ap (λ v. v.registers) d in
      let first = next_stand code known i (suc i) _ (advanced (with_register dst n s)) refl there refl (fresh dst n) in
      next_stand code known (suc i) k insn.Tail t two tail refl (same_stand (suc i) (suc (suc i)) (names_at code known (suc i)) (advanced (with_register dst n s)) t (omega arith) registers first)
  names_hold k insn.Tail t lt there to right d = absurd d
