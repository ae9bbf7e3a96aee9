-- The pairs that are known at a slot hold wherever a run comes there.
use Rattle.std.proofs.Common.{◌≡◌, ℕ, zero, suc, ℤ, pos, negsuc, ◌+◌, ◌-◌, ◌^◌, ◌<◌, ◌≤◌, Bool, true, false, cond, not, ◌||◌, ◌&&◌, eqb, List, [], ◌∷◌, length, drop, Option, Some, None, refl, sym, ap, ◌∙◌, subst, inl, inr, ⊎_elim, arith}
use Rattle.std.specs.Prelude.{◌+ℤ◌, nat_le, slice_get, unwrap_or}
use Rattle.std.proofs.lemmas.Int.{ints}
use Rattle.std.proofs.lemmas.Bool.{cond_both, cases_eq, eq-eqb, and_parts}
use Rattle.bpf_alu.specs.Value.{value, condition}
use Rattle.bpf_alu.specs.declared.Op.{Op}
use Rattle.bpf_alu.specs.declared.Op.TheVariants as op
use Rattle.bpf_alu.specs.declared.Cond.{Cond}
use Rattle.bpf_alu.specs.declared.Width.{Width}
use Rattle.bpf_alu.specs.declared.Width.TheVariants.{W32, W64}
use Rattle.bpf_insn.specs.Encoding.{number}
use Rattle.bpf_insn.specs.declared.Register.{Register}
use Rattle.bpf_insn.specs.declared.Register.TheVariants.{R0, R1, R2, R3, R4, R5, R6, R7, R8, R9, R10}
use Rattle.bpf_insn.specs.declared.Operand.{Operand}
use Rattle.bpf_insn.specs.declared.Operand.TheVariants as operand
use Rattle.bpf_insn.specs.declared.Distance.TheVariants as distance
use Rattle.bpf_insn.specs.declared.Insn.{Insn}
use Rattle.bpf_insn.specs.declared.Insn.TheVariants as insn
use Rattle.bpf_semantics.specs.Windows.{Memory}
use Rattle.bpf_semantics.specs.State.{State, number_in, operand_in, with_register, jumped, advanced, Row as Does}
use Rattle.bpf_semantics.specs.declared.profile.Profile.{Profile}
use Rattle.bpf_semantics.specs.declared.profile.Profile.TheVariants.{First, Second}
use Rattle.bpf_ranges.specs.Laws.{IsSoundTable}
use Rattle.bpf_image.specs.Form.{landing, target_of}
use Rattle.bpf_helpers.specs.Calls.{calls_of}
use Rattle.bpf_verifier.specs.Program.{Program}
use Rattle.bpf_verifier.specs.Registers.{Row, IsLong, kind_at, kind_from}
use Rattle.bpf_verifier.specs.Rules.{callee_in, refined}
use Rattle.bpf_copies.specs.Led.{is_slot}
use Rattle.bpf_copies.specs.Names.{goes_on as runs_on}
use Rattle.bpf_copies.proofs.Modular.{moved}
use Rattle.bpf_copies.proofs.Slots.{slot_on, two_on}
use Rattle.bpf_verifier.specs.Sums.{KnownSums, sum_in, sums_at, most, row_on}
use Rattle.bpf_verifier.specs.Pairs.{no_pairs, is_in, most_together}
use Rattle.bpf_verifier.specs.PairSteps.{pair_without, pairs_without, before, with_pair, partner, carried, carried_into, carried_from, pairs_of_sum, pairs_of_op, pair_over_call, pairs_over_call, pair_told, pair_by, pairs_by_operand, pairs_told, pairs_after, pairs_next, met_most, pair_met, met, pairs_by_jump, pairs_by_next, pairs_brought, pairs_come, pairs_behind, pairs_arriving, pairs_at}
use Rattle.bpf_verifier.specs.Table.{target_edge, edges_from, AreKinds}
use Rattle.bpf_verifier.specs.declared.sum.Sum.{Sum}
use Rattle.bpf_verifier.specs.declared.pair.Pair.{Pair}
use Rattle.bpf_verifier.specs.declared.pair.Pairs.{Pairs}
use Rattle.bpf_verifier.proofs.Fits.{FitsRow, SomeEdge}
use Rattle.bpf_verifier.proofs.StackCells.{values}
use Rattle.bpf_verifier.proofs.Refined.{refined_is_long, refined_kinds}
use Rattle.bpf_verifier.proofs.SumSteps.{Adds, Holds, AllHold, told_long, told_kinds, most_of, most_word, le_from, at_register, at_operand, kind_operand, whole_sum}
use Rattle.bpf_verifier.proofs.SumRuns.{Written, all_same, differ, no_not, operand_word, number_other, number_same}
use Rattle.bpf_verifier.proofs.Classes.{or_left, or_right}
use Rattle.bpf_verifier.proofs.Together.{PairHolds, HoldPairs, IsEnd, same_pairs, same_number, together}

none_hold : (t : State) → HoldPairs no_pairs t
none_hold t = record { first = tt; second = tt; third = tt; fourth = tt }

-- ---- pairs are put together

before_holds : (t : State) (pair : Pair) (a b c d : Option Pair) → PairHolds (Some pair) t → PairHolds a t → PairHolds b t → PairHolds c t → PairHolds d t → HoldPairs (before pair a b c d) t
before_holds t pair None b c d h w x y z = record { first = h; second = x; third = y; fourth = z }
before_holds t pair (Some a) None c d h w x y z = record { first = h; second = w; third = y; fourth = z }
before_holds t pair (Some a) (Some b) None d h w x y z = record { first = h; second = w; third = x; fourth = z }
before_holds t pair (Some a) (Some b) (Some c) d h w x y z = record { first = h; second = w; third = x; fourth = y }

with_pair_holds : (t : State) (pair : Option Pair) (pairs : Pairs) → PairHolds pair t → HoldPairs pairs t → HoldPairs (with_pair pair pairs) t
with_pair_holds t None pairs h g = g
with_pair_holds t (Some pair) pairs h g = before_holds t pair pairs.first pairs.second pairs.third pairs.fourth h g.first g.second g.third g.fourth

-- ---- one register is written

or_second : (a b : Bool) → (a || b) ≡ true → a ≡ false → b ≡ true
or_second true b h f = cc
or_second false b h f = h

module _ (s : State) (eleven : length s.registers ≡ 11) (words : (r : Register) → number_in s r < 2 ^ 64) where
  without_holds : (dst : Register) (v : ℕ) (pair : Option Pair) → PairHolds pair s → PairHolds (pair_without dst pair) (Written s eleven words dst v)
  without_holds dst v None h = tt
  without_holds dst v (Some pair) h =
      cond_both (is_in dst pair) None (Some pair) (λ q. PairHolds q (Written s eleven words dst v)) (λ _. tt)
      (λ f.
      let left = number_other s eleven words dst pair.left v (differ (number pair.left) (number dst) (or_left (eqb (number pair.left) (number dst)) (eqb (number pair.right) (number dst)) f)) in
      let right = number_other s eleven words dst pair.right v (differ (number pair.right) (number dst) (or_right (eqb (number pair.left) (number dst)) (eqb (number pair.right) (number dst)) f)) in
      omega (arith, h, left, right))

  all_without : (dst : Register) (v : ℕ) (pairs : Pairs) → HoldPairs pairs s → HoldPairs (pairs_without dst pairs) (Written s eleven words dst v)
  all_without dst v pairs h = record { first = without_holds dst v pairs.first h.first; second = without_holds dst v pairs.second h.second; third = without_holds dst v pairs.third h.third; fourth = without_holds dst v pairs.fourth h.fourth }

  partner_holds : (r : Register) (pair : Pair) → is_in r pair ≡ true → number_in s pair.left + number_in s pair.right ≤ pair.most → number_in s r + number_in s (partner r pair) ≤ pair.most
  partner_holds r pair t h =
      cond_both (eqb (number pair.left) (number r)) pair.right pair.left (λ q. number_in s r + number_in s q ≤ pair.most)
      (λ yes. let same = same_number s pair.left r yes in omega (arith, h, same))
      (λ no. let same = same_number s pair.right r (or_second (eqb (number pair.left) (number r)) (eqb (number pair.right) (number r)) t no) in omega (arith, h, same))

  carried_holds : (src dst : Register) (n v : ℕ) (pair : Option Pair) → v ≤ number_in s src + n → PairHolds pair s → PairHolds (carried src dst n pair) (Written s eleven words dst v)
  carried_holds src dst n v None le h = tt
  carried_holds src dst n v (Some pair) le h =
      let other = partner src pair in
      cond_both (is_in src pair && (not (eqb (number other) (number dst)) && nat_le pair.most (2 ^ 64 - 1 - n))) (Some (record { left = dst; right = other; most = pair.most + n })) None (λ q. PairHolds q (Written s eleven words dst v))
      (λ t.
      let parts = and_parts (is_in src pair) (not (eqb (number other) (number dst)) && nat_le pair.most (2 ^ 64 - 1 - n)) t in
      let apart = no_not (eqb (number other) (number dst)) (and_parts (not (eqb (number other) (number dst))) (nat_le pair.most (2 ^ 64 - 1 - n)) parts.1).0 in
      let both = partner_holds src pair parts.0 h in
      let there = number_other s eleven words dst other v (differ (number other) (number dst) apart) in
      let here = number_same s eleven words dst v in
      omega (arith, both, there, here, le))
      (λ _. tt)

  carried_into_holds : (src dst : Register) (n v : ℕ) (old new : Pairs) → v ≤ number_in s src + n → HoldPairs old s → HoldPairs new (Written s eleven words dst v) → HoldPairs (carried_into src dst n old new) (Written s eleven words dst v)
  carried_into_holds src dst n v old new le h g =
      let t = Written s eleven words dst v in
      with_pair_holds t (carried src dst n old.first) _ (carried_holds src dst n v old.first le h.first)
      (with_pair_holds t (carried src dst n old.second) _ (carried_holds src dst n v old.second le h.second)
      (with_pair_holds t (carried src dst n old.third) _ (carried_holds src dst n v old.third le h.third) (with_pair_holds t (carried src dst n old.fourth) new (carried_holds src dst n v old.fourth le h.fourth) g)))

  carried_from_holds : (src : Operand) (dst : Register) (n v : ℕ) (old new : Pairs) → v ≤ operand_in s src + n → HoldPairs old s → HoldPairs new (Written s eleven words dst v) → HoldPairs (carried_from src dst n old new) (Written s eleven words dst v)
  carried_from_holds (operand.Register src) dst n v old new le h g = carried_into_holds src dst n v old new le h g
  carried_from_holds (operand.Immediate i) dst n v old new le h g = g

  mov_holds : (dst : Register) (src : Operand) (m : ℕ) (pairs : Pairs) → HoldPairs pairs s → HoldPairs (carried_from src dst 0 pairs (pairs_without dst pairs)) (Written s eleven words dst (value op.Mov W64 m (operand_in s src)))
  mov_holds dst src m pairs h =
      let is = moved m (operand_in s src) (operand_word s eleven words src) in
      carried_from_holds src dst 0 _ pairs (pairs_without dst pairs) (omega (arith, is)) h (all_without dst _ pairs h)

  module _ (row : Row) (left_most : (r : Register) → number_in s r ≤ most (kind_at row r)) (right_most : (o : Operand) → operand_in s o ≤ most (kind_from Second row o)) (right_word : (o : Operand) → most (kind_from Second row o) < 2 ^ 64) where
    add_holds : (dst : Register) (src : Operand) (pairs : Pairs) → HoldPairs pairs s → HoldPairs (pairs_of_sum dst src row pairs) (Written s eleven words dst (value op.Add W64 (number_in s dst) (operand_in s src)))
    add_holds dst src pairs h =
        let left = most (kind_at row dst) in
        let right = most (kind_from Second row src) in
        let v = value op.Add W64 (number_in s dst) (operand_in s src) in
        let others = pairs_without dst pairs in
        cond_both (nat_le left (2 ^ 64 - 1 - right)) (carried_from src dst left pairs (carried_into dst dst right pairs others)) others (λ q. HoldPairs q (Written s eleven words dst v))
        (λ t.
        let room = le_from left (2 ^ 64 - 1 - right) t in
        let xs = left_most dst in
        let ys = right_most src in
        let word = right_word src in
        let is = whole_sum (number_in s dst) (operand_in s src) (omega (arith, xs, ys, room, word)) in
        carried_from_holds src dst left v pairs _ (omega (arith, is, xs)) h (carried_into_holds dst dst right v pairs others (omega (arith, is, ys)) h (all_without dst v pairs h)))
        (λ _. all_without dst v pairs h)

    alu_holds : (o : Op) (w : Width) (dst : Register) (src : Operand) (pairs : Pairs) → HoldPairs pairs s → HoldPairs (pairs_of_op o w dst src row pairs) (Written s eleven words dst (value o w (number_in s dst) (operand_in s src)))
    alu_holds op.Mov W64 dst src pairs h = mov_holds dst src (number_in s dst) pairs h
    alu_holds op.Mov W32 dst src pairs h = all_without dst _ pairs h
    alu_holds op.Add W64 dst src pairs h = add_holds dst src pairs h
    alu_holds op.Add W32 dst src pairs h = all_without dst _ pairs h
    alu_holds op.Sub w dst src pairs h = all_without dst _ pairs h
    alu_holds op.Mul w dst src pairs h = all_without dst _ pairs h
    alu_holds op.Div w dst src pairs h = all_without dst _ pairs h
    alu_holds op.SignedDiv w dst src pairs h = all_without dst _ pairs h
    alu_holds op.Or w dst src pairs h = all_without dst _ pairs h
    alu_holds op.And w dst src pairs h = all_without dst _ pairs h
    alu_holds op.Xor w dst src pairs h = all_without dst _ pairs h
    alu_holds op.Lsh w dst src pairs h = all_without dst _ pairs h
    alu_holds op.Rsh w dst src pairs h = all_without dst _ pairs h
    alu_holds op.Arsh w dst src pairs h = all_without dst _ pairs h
    alu_holds op.Neg w dst src pairs h = all_without dst _ pairs h
    alu_holds op.Mod w dst src pairs h = all_without dst _ pairs h
    alu_holds op.SignedMod w dst src pairs h = all_without dst _ pairs h
    alu_holds op.Movsx8 w dst src pairs h = all_without dst _ pairs h
    alu_holds op.Movsx16 w dst src pairs h = all_without dst _ pairs h
    alu_holds op.Movsx32 w dst src pairs h = all_without dst _ pairs h

-- ---- a call leaves R6 to R10

after_six : (a b c d e f : Option ℕ) (rs : List (Option ℕ)) (k : ℕ) → slice_get (a ∷ b ∷ c ∷ d ∷ e ∷ f ∷ drop 6 rs) (suc (suc (suc (suc (suc (suc k)))))) ≡ slice_get rs (suc (suc (suc (suc (suc (suc k))))))
after_six a b c d e f [] k = refl
after_six a b c d e f (r ∷ []) k = refl
after_six a b c d e f (r ∷ q ∷ []) k = refl
after_six a b c d e f (r ∷ q ∷ u ∷ []) k = refl
after_six a b c d e f (r ∷ q ∷ u ∷ v ∷ []) k = refl
after_six a b c d e f (r ∷ q ∷ u ∷ v ∷ w ∷ []) k = refl
after_six a b c d e f (r ∷ q ∷ u ∷ v ∷ w ∷ x ∷ rs) k = refl

module _ (s : State) (answer : ℕ) (after : Memory) where
  abbrev Called : State
  Called = advanced (record s { registers = Some answer ∷ None ∷ None ∷ None ∷ None ∷ None ∷ drop 6 s.registers; memory = after })

  left_alone : (r : Register) → nat_le 6 (number r) ≡ true → number_in Called r ≡ number_in s r
  left_alone R0 h = cc
  left_alone R1 h = cc
  left_alone R2 h = cc
  left_alone R3 h = cc
  left_alone R4 h = cc
  left_alone R5 h = cc
  left_alone R6 h = ap (λ o. unwrap_or (unwrap_or o None) 0) (after_six (Some answer) None None None None None s.registers 0)
  left_alone R7 h = ap (λ o. unwrap_or (unwrap_or o None) 0) (after_six (Some answer) None None None None None s.registers 1)
  left_alone R8 h = ap (λ o. unwrap_or (unwrap_or o None) 0) (after_six (Some answer) None None None None None s.registers 2)
  left_alone R9 h = ap (λ o. unwrap_or (unwrap_or o None) 0) (after_six (Some answer) None None None None None s.registers 3)
  left_alone R10 h = ap (λ o. unwrap_or (unwrap_or o None) 0) (after_six (Some answer) None None None None None s.registers 4)

  over_call : (pair : Option Pair) → PairHolds pair s → PairHolds (pair_over_call pair) Called
  over_call None h = tt
  over_call (Some pair) h =
      cond_both (nat_le 6 (number pair.left) && nat_le 6 (number pair.right)) (Some pair) None (λ q. PairHolds q Called)
      (λ t.
      let parts = and_parts (nat_le 6 (number pair.left)) (nat_le 6 (number pair.right)) t in
      let left = left_alone pair.left parts.0 in
      let right = left_alone pair.right parts.1 in
      omega (arith, h, left, right))
      (λ _. tt)

  call_holds : (pairs : Pairs) → HoldPairs pairs s → HoldPairs (pairs_over_call pairs) Called
  call_holds pairs h = record { first = over_call pairs.first h.first; second = over_call pairs.second h.second; third = over_call pairs.third h.third; fourth = over_call pairs.fourth h.fourth }

-- ---- a condition on a sum

module _ (sound : IsSoundTable Second) (profile : Profile) (t : State) (on : Row) (long : IsLong profile on) (kinds : AreKinds on) (fits : FitsRow on (values profile t)) where
  sum_told : (sum : Sum) (o : Operand) → sum.right ≡ o → Adds sum t → PairHolds (pair_told sum o on) t
  sum_told sum (operand.Immediate n) is adds = tt
  sum_told sum (operand.Register r) is adds =
      let x = at_register sound profile t on long kinds fits sum.left in
      let y = at_register sound profile t on long kinds fits r in
      let z = at_register sound profile t on long kinds fits sum.of in
      let left = kind_at on sum.left in
      let right = kind_at on r in
      cond_both (nat_le (most left) (2 ^ 64 - 1 - most right)) (Some (record { left = sum.left; right = r; most = most (kind_at on sum.of) })) None (λ q. PairHolds q t)
      (λ test.
      let room = le_from (most left) (2 ^ 64 - 1 - most right) test in
      let xs = most_of left _ (kinds (number sum.left)) x.1 x.0 in
      let ys = most_of right _ (kinds (number r)) y.1 y.0 in
      let zs = most_of (kind_at on sum.of) _ (kinds (number sum.of)) z.1 z.0 in
      let word = most_word right (kinds (number r)) in
      let is = subst (λ q. number_in t sum.of ≡ value op.Add W64 (number_in t sum.left) (operand_in t q)) is adds ∙ whole_sum (number_in t sum.left) (number_in t r) (omega (arith, xs, ys, room, word)) in
      omega (arith, is, zs))
      (λ _. tt)

  by_holds : (sum : Option Sum) → Holds sum t → PairHolds (pair_by sum on) t
  by_holds None adds = tt
  by_holds (Some sum) adds = sum_told sum sum.right refl adds

  operand_holds : (sums : KnownSums) (o : Operand) (pairs : Pairs) → AllHold sums t → HoldPairs pairs t → HoldPairs (pairs_by_operand sums o on pairs) t
  operand_holds sums (operand.Register r) pairs adds h = with_pair_holds t (pair_by (sum_in sums r) on) pairs (by_holds (sum_in sums r) (adds r)) h
  operand_holds sums (operand.Immediate n) pairs adds h = h

  told_holds : (c : Cond) (w : Width) (left : Register) (right : Operand) (o : ℤ) (which : Profile) (sums : KnownSums) (pairs : Pairs) → AllHold sums t → HoldPairs pairs t → HoldPairs (pairs_told (insn.JumpIf c w left right o) which sums on pairs) t
  told_holds c w left right o First sums pairs adds h = h
  told_holds c w left right o Second sums pairs adds h = with_pair_holds t (pair_by (sum_in sums left) on) (pairs_by_operand sums right on pairs) (by_holds (sum_in sums left) (adds left)) (operand_holds sums right pairs adds h)

-- ---- ways meet

-- what came to a slot, and holds
abbrev HoldIn : Option Pairs → State → Type 0
HoldIn None t = ⊥
HoldIn (Some pairs) t = HoldPairs pairs t

module _ (t : State) where
  greater_first : (pair : Pair) (o : Option ℕ) → PairHolds (Some pair) t → PairHolds (met_most pair o) t
  greater_first pair None h = tt
  greater_first pair (Some n) h = omega (arith, h)

  greater_second : (pair : Pair) (o : Option ℕ) → IsEnd o (number_in t pair.left) (number_in t pair.right) → PairHolds (met_most pair o) t
  greater_second pair None h = tt
  greater_second pair (Some n) h = omega (arith, h)

  met_first : (pair : Option Pair) (others : Pairs) → PairHolds pair t → PairHolds (pair_met pair others) t
  met_first None others h = tt
  met_first (Some pair) others h = greater_first pair (most_together others pair.left pair.right) h

  met_second : (pair : Option Pair) (others : Pairs) → HoldPairs others t → PairHolds (pair_met pair others) t
  met_second None others h = tt
  met_second (Some pair) others h = greater_second pair (most_together others pair.left pair.right) (together others t pair.left pair.right h)

  met_old : (old : Option Pairs) (pairs : Pairs) → HoldIn old t → HoldIn (met old pairs) t
  met_old None pairs h = absurd h
  met_old (Some old) pairs h = record { first = met_first old.first pairs h.first; second = met_first old.second pairs h.second; third = met_first old.third pairs h.third; fourth = met_first old.fourth pairs h.fourth }

  met_new : (old : Option Pairs) (pairs : Pairs) → HoldPairs pairs t → HoldIn (met old pairs) t
  met_new None pairs h = h
  met_new (Some old) pairs h = record { first = met_second old.first pairs h; second = met_second old.second pairs h; third = met_second old.third pairs h; fourth = met_second old.fourth pairs h }

  jump_old : (k : ℕ) (target : Option ℤ) (pairs : Pairs) (old : Option Pairs) → HoldIn old t → HoldIn (pairs_by_jump k target pairs old) t
  jump_old k target pairs old h = cond_both (is_slot k target) (met old pairs) old (λ o. HoldIn o t) (λ _. met_old old pairs h) (λ _. h)

  jump_new : (k : ℕ) (target : Option ℤ) (pairs : Pairs) (old : Option Pairs) → target ≡ Some (pos k) → HoldPairs pairs t → HoldIn (pairs_by_jump k target pairs old) t
  jump_new k target pairs old to h =
      subst (λ o. HoldIn (pairs_by_jump k o pairs old) t) (sym to) (subst (λ b. HoldIn (cond b (met old pairs) old) t) (sym (eq-eqb k k refl)) (met_new old pairs h))

  next_old : (x : Insn) (behind : Pairs) (old : Option Pairs) → HoldIn old t → HoldIn (pairs_by_next x behind old) t
  next_old x behind old h = cond_both (runs_on x) (met old behind) old (λ o. HoldIn o t) (λ _. met_old old behind h) (λ _. h)

  brought_old : (k n : ℕ) (x : Option Insn) (pairs behind : Pairs) (old : Option Pairs) → HoldIn old t → HoldIn (pairs_brought k n x pairs behind old) t
  brought_old k n None pairs behind old h = h
  brought_old k n (Some x) pairs behind old h =
      let led = pairs_by_jump k (target_of n x) pairs old in
      let there = jump_old k (target_of n x) pairs old h in
      cond_both (eqb (suc n) k) (pairs_by_next x behind led) led (λ o. HoldIn o t) (λ _. next_old x behind led there) (λ _. there)

  come_holds : (o : Option Pairs) → HoldIn o t → HoldPairs (pairs_come o) t
  come_holds None h = absurd h
  come_holds (Some pairs) h = h

module _ (p : Program) (rows : List (Option Row)) (k : ℕ) (t : State) where
  -- what came still holds
  later : (n m : ℕ) → m ≤ n → HoldIn (pairs_arriving p rows m k) t → HoldIn (pairs_arriving p rows n k) t
  later zero m le h = let same : m ≡ zero = omega (arith, le) in subst (λ j. HoldIn (pairs_arriving p rows j k) t) same h
  later (suc n) m le h =
      let pairs = pairs_at p rows n in
      ⊎_elim
      (λ same. subst (λ j. HoldIn (pairs_arriving p rows j k) t) same h)
      (λ other. brought_old t k n (slice_get p.code n) pairs (pairs_behind p rows n pairs) (pairs_arriving p rows n k) (later n m (omega (arith, le, other)) h))
      (cases_eq m (suc n))

  -- a jump leads there
  led_to : (i : ℕ) (x : Insn) → i < k → slice_get p.code i ≡ Some x → target_of i x ≡ Some (pos k) → HoldPairs (pairs_at p rows i) t → HoldPairs (pairs_at p rows k) t
  led_to i x lt at to h =
      let pairs = pairs_at p rows i in
      let behind = pairs_behind p rows i pairs in
      let old = pairs_arriving p rows i k in
      let led = pairs_by_jump k (target_of i x) pairs old in
      let there = jump_new t k (target_of i x) pairs old to h in
      let both : HoldIn (pairs_brought k i (Some x) pairs behind old) t = cond_both (eqb (suc i) k) (pairs_by_next x behind led) led (λ o. HoldIn o t) (λ _. next_old t x behind led there) (λ _. there) in
      come_holds t (pairs_arriving p rows k k) (later k (suc i) (omega (arith, lt)) (subst (λ o. HoldIn (pairs_brought k i o pairs behind old) t) (sym at) both))

-- and from one slot to the next
on_to : (p : Program) (rows : List (Option Row)) (i k : ℕ) (x : Insn) (t : State) → k ≡ suc i → slice_get p.code i ≡ Some x → runs_on x ≡ true → HoldPairs (pairs_behind p rows i (pairs_at p rows i)) t → HoldPairs (pairs_at p rows k) t
on_to p rows i k x t e at goes h =
    let pairs = pairs_at p rows i in
    let behind = pairs_behind p rows i pairs in
    let old = pairs_arriving p rows i (suc i) in
    let led = pairs_by_jump (suc i) (target_of i x) pairs old in
    let on : HoldIn (pairs_by_next x behind led) t = subst (λ b. HoldIn (cond b (met led behind) led) t) (sym goes) (met_new t led behind h) in
    let both : HoldIn (pairs_brought (suc i) i (Some x) pairs behind old) t = subst (λ b. HoldIn (cond b (pairs_by_next x behind led) led) t) (sym (eq-eqb (suc i) (suc i) refl)) on in
    subst (λ n. HoldPairs (pairs_at p rows n) t) (sym e) (come_holds t (pairs_arriving p rows (suc i) (suc i)) (subst (λ o. HoldIn (pairs_brought (suc i) i o pairs behind old) t) (sym at) both))

-- ---- slots

-- where an edge of a jump is
jump_is : (z u : ℤ) (vs : List (Option ℕ)) (row : Row) → SomeEdge u vs (target_edge (Some z) row) → z ≡ u
jump_is (pos j) u vs row (inl e) = e.0
jump_is (pos j) u vs row (inr e) = absurd e
jump_is (negsuc j) u vs row e = absurd e

module _ (sound : (profile : Profile) → IsSoundTable profile) (p : Program) (rows : List (Option Row)) (s : State) (i : ℕ) (at : s.slot ≡ pos i) (eleven : length s.registers ≡ 11) (words : (r : Register) → number_in s r < 2 ^ 64) (row : Row) (here : slice_get rows i ≡ Some (Some row)) (long : IsLong p.profile row) (kinds : AreKinds row) (fits : FitsRow row (values p.profile s)) (hold : HoldPairs (pairs_at p rows i) s) (adds : AllHold (sums_at p.code i) s) (after_wide : (dst : Register) (n : ℕ) → slice_get p.code i ≡ Some (insn.Wide dst n) → slice_get p.code (i + 1) ≡ Some insn.Tail) where
  -- from one slot to the next
  next : (k : ℕ) (x : Insn) (t : State) → k ≡ suc i → slice_get p.code i ≡ Some x → runs_on x ≡ true → HoldPairs (pairs_after p.profile (callee_in p.sigs x) (sums_at p.code i) row x (pairs_at p rows i)) t → HoldPairs (pairs_at p rows k) t
  next k x t e there goes h =
      let sums = sums_at p.code i in
      let pairs = pairs_at p rows i in
      on_to p rows i k x t e there goes
      (subst (λ o. HoldPairs (pairs_next p o sums (slice_get rows i) pairs) t) (sym there) (subst (λ o. HoldPairs (pairs_next p (Some x) sums o pairs) t) (sym here) h))

  goes_on : (k : ℕ) (x : Insn) (t u : State) → slice_get p.code i ≡ Some x → runs_on x ≡ true → t ≡ advanced u → u.slot ≡ s.slot → t.slot ≡ pos k → HoldPairs (pairs_after p.profile (callee_in p.sigs x) (sums_at p.code i) row x (pairs_at p rows i)) (advanced u) → HoldPairs (pairs_at p rows k) t
  goes_on k x t u there goes e same to h =
      let step : (s.slot +ℤ pos 1) ≡ pos k = ap (λ z. z +ℤ pos 1) (sym same) ∙ sym (ap (λ v. v.slot) e) ∙ to in
      next k x t (slot_on s.slot i k at step) there goes (subst (HoldPairs (pairs_after p.profile (callee_in p.sigs x) (sums_at p.code i) row x (pairs_at p rows i))) (sym e) h)

  -- where a jump leads what is known before it is
  goes_to : (k : ℕ) (x : Insn) (t : State) (o : ℤ) → t.registers ≡ s.registers → i < k → slice_get p.code i ≡ Some x → target_of i x ≡ Some (landing i o) → (s.slot +ℤ pos 1 +ℤ o) ≡ pos k → HoldPairs (pairs_at p rows k) t
  goes_to k x t o same lt there to slot = led_to p rows k t i x lt there (to ∙ ap Some (ap (λ z. z +ℤ pos 1 +ℤ o) (sym at) ∙ slot)) (same_pairs (pairs_at p rows i) s t same hold)

  left_most : (r : Register) → number_in s r ≤ most (kind_at row r)
  left_most r = let x = at_register (sound Second) p.profile s row long kinds fits r in most_of (kind_at row r) _ (kinds (number r)) x.1 x.0

  right_most : (o : Operand) → operand_in s o ≤ most (kind_from Second row o)
  right_most o = let x = at_operand (sound Second) p.profile s row long kinds fits o in most_of (kind_from Second row o) _ (kind_operand (sound Second) p.profile s row long kinds fits o) x.1 x.0

  right_word : (o : Operand) → most (kind_from Second row o) < 2 ^ 64
  right_word o = most_word (kind_from Second row o) (kind_operand (sound Second) p.profile s row long kinds fits o)

  -- a condition that isn't taken: it is the row on to the next slot that admits the state, or that where the jump leads, which is there too
  passed : (k : ℕ) (c : Cond) (w : Width) (left : Register) (right : Operand) (o : ℤ) → k ≡ suc i → slice_get p.code i ≡ Some (insn.JumpIf c w left right o) → SomeEdge (s.slot +ℤ pos 1) (values p.profile (advanced s)) (edges_from p.profile (callee_in p.sigs (insn.JumpIf c w left right o)) (sums_at p.code i) (pairs_at p rows i) i row (insn.JumpIf c w left right o)) → HoldPairs (pairs_at p rows k) (advanced s)
  passed k c w left right o is there (inl e) =
      let x = insn.JumpIf c w left right o in
      let sums = sums_at p.code i in
      let after = refined p.profile c w left right false row in
      next k x (advanced s) is there refl
      (told_holds (sound Second) p.profile (advanced s) (row_on p.profile (callee_in p.sigs x) sums (pairs_at p rows i) row x)
      (told_long p.profile x sums after (refined_is_long p.profile c w left right false row long))
      (told_kinds (sound Second) p.profile x sums after (refined_kinds p.profile (sound p.profile) c w left right false row kinds))
      e.1 c w left right o p.profile sums (pairs_at p rows i) (all_same sums s (advanced s) refl adds) (same_pairs (pairs_at p rows i) s (advanced s) refl hold))
  passed k c w left right o is there (inr e) =
      let x = insn.JumpIf c w left right o in
      let on : (s.slot +ℤ pos 1) ≡ pos (suc i) = let h = ap (λ z. z +ℤ pos 1) at in omega (arith, ints, h) in
      let to : landing i o ≡ pos k = jump_is (landing i o) (s.slot +ℤ pos 1) _ _ e ∙ on ∙ ap pos (sym is) in
      led_to p rows k (advanced s) i x (omega (arith, is)) there (ap Some to) (same_pairs (pairs_at p rows i) s (advanced s) refl hold)

  tail_none : (sums : KnownSums) (o : Option (Option Row)) (pairs : Pairs) (t : State) → HoldPairs (pairs_next p (Some insn.Tail) sums o pairs) t
  tail_none sums None pairs t = none_hold t
  tail_none sums (Some None) pairs t = none_hold t
  tail_none sums (Some (Some q)) pairs t = none_hold t

  pub pairs_held : (k : ℕ) (x : Insn) (t : State) → i < k → slice_get p.code i ≡ Some x → t.slot ≡ pos k → SomeEdge t.slot (values p.profile t) (edges_from p.profile (callee_in p.sigs x) (sums_at p.code i) (pairs_at p rows i) i row x) → Does (calls_of p.sigs) x s t → HoldPairs (pairs_at p rows k) t
  pairs_held k (insn.Alu o w dst src) t lt there to e d = goes_on k _ t (with_register dst (value o w (number_in s dst) (operand_in s src)) s) there refl d refl to (alu_holds s eleven words row left_most right_most right_word o w dst src (pairs_at p rows i) hold)
  pairs_held k (insn.Swap kind n dst) t lt there to e d = goes_on k _ t _ there refl d refl to (none_hold _)
  pairs_held k (insn.Load size extend dst r offset) t lt there to e d = goes_on k _ t (with_register dst _ s) there refl d.2 refl to (all_without s eleven words dst _ (pairs_at p rows i) hold)
  pairs_held k (insn.Store size r offset src) t lt there to e d = goes_on k _ t _ there refl d.2 refl to (same_pairs (pairs_at p rows i) s _ refl hold)
  pairs_held k (insn.Jump (distance.Near o)) t lt there to e d = goes_to k _ t o (ap (λ v. v.registers) d) lt there refl (sym (ap (λ v. v.slot) d) ∙ to)
  pairs_held k (insn.Jump (distance.Far o)) t lt there to e d = goes_to k _ t o (ap (λ v. v.registers) d) lt there refl (sym (ap (λ v. v.slot) d) ∙ to)
  pairs_held k (insn.JumpIf c w left right o) t lt there to e d =
      let x = insn.JumpIf c w left right o in
      let P : State → Type 0 = λ u. u.slot ≡ pos k → SomeEdge u.slot (values p.profile u) (edges_from p.profile (callee_in p.sigs x) (sums_at p.code i) (pairs_at p rows i) i row x) → HoldPairs (pairs_at p rows k) u in
      subst P (sym d)
      (cond_both (condition c w (number_in s left) (operand_in s right)) (jumped o s) (advanced s) P
      (λ _ slot _. goes_to k x (jumped o s) o refl lt there refl slot)
      (λ _ slot edge. passed k c w left right o (slot_on s.slot i k at slot) there edge))
      to e
  pairs_held k (insn.Call n) t lt there to e d = goes_on k _ t (record s { registers = Some d.0 ∷ None ∷ None ∷ None ∷ None ∷ None ∷ drop 6 s.registers; memory = d.1 }) there refl d.3 refl to (call_holds s d.0 d.1 (pairs_at p rows i) hold)
  pairs_held k insn.Exit t lt there to e d = absurd d
  pairs_held k (insn.Wide dst n) t lt there to e d =
      let tail : slice_get p.code (suc i) ≡ Some insn.Tail = ap (slice_get p.code) (omega arith) ∙ after_wide dst n there in
      let two = two_on s.slot i k at (sym (ap (λ v. v.slot) d) ∙ to) in
      on_to p rows (suc i) k insn.Tail t two tail refl
      (subst (λ o. HoldPairs (pairs_next p o (sums_at p.code (suc i)) (slice_get rows (suc i)) (pairs_at p rows (suc i))) t) (sym tail) (tail_none (sums_at p.code (suc i)) (slice_get rows (suc i)) (pairs_at p rows (suc i)) t))
  pairs_held k insn.Tail t lt there to e d = absurd d
