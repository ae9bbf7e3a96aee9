-- What kinds admitted before an operation, a byte swap or a comparison, those after it admit.
use Rattle.std.proofs.Common.{◌≡◌, ℕ, ◌^◌, ◌<◌, ◌≤◌, Bool, true, refl, sym, subst, Option, Some, None}
use Rattle.std.specs.Prelude.{IfOk, IfSome}
use Rattle.std.proofs.Math.Nat.{mod-eq_of_lt, add_comm}
use Rattle.bpf_alu.specs.declared.Op.{Op}
use Rattle.bpf_alu.specs.declared.Op.TheVariants.{Add, Sub, Mul, Div, SignedDiv, Or, And, Xor, Lsh, Rsh, Arsh, Neg, Mod, SignedMod, Mov, Movsx8, Movsx16, Movsx32}
use Rattle.bpf_alu.specs.declared.Width.{Width}
use Rattle.bpf_alu.specs.declared.Width.TheVariants.{W32, W64}
use Rattle.bpf_alu.specs.declared.Cond.{Cond}
use Rattle.bpf_alu.specs.declared.SwapKind.{SwapKind}
use Rattle.bpf_alu.specs.declared.SwapBits.{SwapBits}
use Rattle.bpf_alu.specs.Value.{value, swapped, condition}
use Rattle.bpf_semantics.specs.declared.profile.Profile.{Profile}
use Rattle.bpf_semantics.specs.declared.profile.Profile.TheVariants.{First, Second}
use Rattle.bpf_ranges.specs.declared.number.Number.{Number}
use Rattle.bpf_ranges.specs.declared.kind.Kind.{Kind}
use Rattle.bpf_ranges.specs.declared.kind.Kind.TheVariants.{Unset, Dead, Num, Ptr, Halves}
use Rattle.bpf_ranges.specs.Numbers.{InRange, IsOf, IsNumber, reads_first, reads_second}
use Rattle.bpf_ranges.specs.declared.range.Range.{Range}
use Rattle.bpf_ranges.specs.KnownBits.{nothing}
use Rattle.bpf_ranges.specs.Comparisons.{AreNumbers}
use Rattle.bpf_ranges.specs.Kinds.{Admits, IsKind}
use Rattle.bpf_ranges.specs.Transfer.{kind_in, kind_of, signed_range, moved_down, as_number, number_in, apart_by, after_dead, before_dead, of_one, of_two, transfer_of, swap_of, left_of_kind, kinds_left, compared_kinds, refine_pointers, refine_of}
use Rattle.bpf_ranges.proofs.Ranges.{value_sub}
use Rattle.bpf_ranges.proofs.Pointers.{signed_in_order, up_kind, down_kind, up_sound, down_sound, signed_range_is, as_number_sound, as_number_is, pointer_left_sound, pointer_left_kind}
use Rattle.bpf_ranges.proofs.Settled.{Leaves, nothing_fits, settled_sound, settled_is_number}
use Rattle.bpf_ranges.proofs.KnownBits.{nothing_sound}
use Rattle.bpf_ranges.proofs.Comparisons.{LeavesBoth, compared_sound, compared_numbers}
use Rattle.bpf_ranges.proofs.Rows.{numbers_sound, numbers_are_numbers, swapped_number_sound, swapped_is_number}

-- what is left of a number, as a kind
pub left_sound : (o : Option Number) (n : ℕ) → Leaves n o → Admits (kind_of o) (Some n)
left_sound None n h = absurd h
left_sound (Some a) n h = h

pub left_is_kind : (o : Option Number) → IfSome o IsNumber → IsKind (kind_of o)
left_is_kind None h = tt
left_is_kind (Some a) h = h

-- what is left of a kind, by what is left of its number
left_of_sound : (k : Kind) (o : Option Number) (n : ℕ) → IsKind k → Admits k (Some n) → Leaves n o → Admits (left_of_kind k o) (Some n)
left_of_sound (Ptr region lo hi) None n k h l = absurd l
left_of_sound (Ptr region lo hi) (Some a) n k h l = pointer_left_sound region lo hi a.range n k h l.within
left_of_sound (Num a) o n k h l = left_sound o n l
left_of_sound Dead o n k h l = left_sound o n l
left_of_sound Unset o n k h l = left_sound o n l
left_of_sound (Halves low high) o n k h l = left_sound o n l

pair_sound : (a b : Kind) (o : Option (Number × Number)) (x y : ℕ) → IsKind a → IsKind b → Admits a (Some x) → Admits b (Some y) → LeavesBoth x y o → Admits (kinds_left a b o).0 (Some x) × Admits (kinds_left a b o).1 (Some y)
pair_sound a b None x y ka kb p q h = absurd h
pair_sound a b (Some r) x y ka kb p q h = (left_of_sound a (Some r.0) x ka p h.0, left_of_sound b (Some r.1) y kb q h.1)

-- the number that a kind is
number_in_sound : (k : Kind) (n : ℕ) → IsKind k → Admits k (Some n) → IfSome (number_in k) (λ a. IsOf a n)
number_in_sound Unset n ka h = tt
number_in_sound (Halves low high) n ka h = tt
number_in_sound Dead n ka h = tt
number_in_sound (Num a) n ka h = h
number_in_sound (Ptr region lo hi) n ka h = as_number_sound region lo hi n ka h

number_in_is : (k : Kind) → IsKind k → IfSome (number_in k) IsNumber
number_in_is Unset ka = tt
number_in_is (Halves low high) ka = tt
number_in_is Dead ka = tt
number_in_is (Num a) ka = ka
number_in_is (Ptr region lo hi) ka = as_number_is region lo hi ka

apart_sound : (profile : Profile) (a b : Number) (x y : ℕ) → IsNumber a → IsNumber b → IsOf a x → IsOf b y → IfOk (apart_by profile a b) (λ k. Admits k (Some (value Sub W64 x y)))
apart_sound First a b x y ka kb p q = tt
apart_sound Second a b x y ka kb p q = left_sound _ _ (numbers_sound Second Sub W64 a b x y ka kb p q)

-- two kinds after a comparison of the numbers that they are
compared_kinds_sound : (c : Cond) (taken : Bool) (a b : Kind) (o p : Option Number) (x y : ℕ) → IsKind a → IsKind b → Admits a (Some x) → Admits b (Some y) → IfSome o (λ m. IsOf m x) → IfSome p (λ m. IsOf m y) → IfSome o IsNumber → IfSome p IsNumber → condition c W64 x y ≡ taken → Admits (compared_kinds c taken a b o p).0 (Some x) × Admits (compared_kinds c taken a b o p).1 (Some y)
compared_kinds_sound c taken a b (Some m) (Some n) x y ka kb pa pb om on km kn t = pair_sound a b _ x y ka kb pa pb (compared_sound c W64 taken m n km kn Second x y om on t)
compared_kinds_sound c taken a b None p x y ka kb pa pb om on km kn t = (pa, pb)
compared_kinds_sound c taken a b (Some m) None x y ka kb pa pb om on km kn t = (pa, pb)

pointers_sound : (profile : Profile) (c : Cond) (w : Width) (a b : Kind) (taken : Bool) (x y : ℕ) → IsKind a → IsKind b → Admits a (Some x) → Admits b (Some y) → condition c w x y ≡ taken → Admits (refine_pointers profile c w a b taken).0 (Some x) × Admits (refine_pointers profile c w a b taken).1 (Some y)
pointers_sound First c w a b taken x y ka kb p q t = (p, q)
pointers_sound Second c W32 a b taken x y ka kb p q t = (p, q)
pointers_sound Second c W64 a b taken x y ka kb p q t =
    compared_kinds_sound c taken a b (number_in a) (number_in b) x y ka kb p q (number_in_sound a x ka p) (number_in_sound b y kb q) (number_in_is a ka) (number_in_is b kb) t

module _ (profile : Profile) where
  -- an operation that reads both: kinds that admit the operands give one that admits the value
  of_two_sound : (op : Op) (w : Width) (a b : Kind) (x y : ℕ) → IsKind a → IsKind b → x < 2 ^ 64 → y < 2 ^ 64 → Admits a (Some x) → Admits b (Some y) → IfOk (of_two profile op w a b) (λ k. Admits k (Some (value op w x y)))
  of_two_sound op w Dead b x y ka kb fx fy pa pb = absurd pa
  of_two_sound op w a Dead x y ka kb fx fy pa pb = absurd pb
  of_two_sound op w (Num a) (Num b) x y ka kb fx fy pa pb = left_sound _ _ (numbers_sound profile op w a b x y ka kb pa pb)
  of_two_sound Add W64 (Ptr region lo hi) (Num b) x y ka kb fx fy pa pb =
      rw (mod-eq_of_lt fx, mod-eq_of_lt fy) (up_sound profile region lo hi x y (signed_range b.range.lo b.range.hi) pa fy (signed_range_is b.range.lo b.range.hi y pb.within.0 pb.within.1))
  of_two_sound Add W64 (Num a) (Ptr region lo hi) x y ka kb fx fy pa pb =
      rw (mod-eq_of_lt fx, mod-eq_of_lt fy, add_comm x y) (up_sound profile region lo hi y x (signed_range a.range.lo a.range.hi) pb fx (signed_range_is a.range.lo a.range.hi x pa.within.0 pa.within.1))
  of_two_sound Sub W64 (Ptr region lo hi) (Num b) x y ka kb fx fy pa pb =
      subst (λ n. IfOk (moved_down profile region lo hi (signed_range b.range.lo b.range.hi)) (λ k. Admits k (Some n))) (sym (value_sub x y fx fy)) (down_sound profile region lo hi x y (signed_range b.range.lo b.range.hi) pa fy (signed_range_is b.range.lo b.range.hi y pb.within.0 pb.within.1))
  of_two_sound Sub W64 (Ptr region lo hi) (Ptr other low high) x y ka kb fx fy pa pb =
      apart_sound profile (as_number region lo hi) (as_number other low high) x y (as_number_is region lo hi ka) (as_number_is other low high kb) (as_number_sound region lo hi x ka pa) (as_number_sound other low high y kb pb)
  of_two_sound op w a b x y ka kb fx fy pa pb = tt

  -- an operation that reads one operand
  of_one_sound : (op : Op) (w : Width) (a : Kind) (x : ℕ) → IsKind a → Admits a (Some x) → IfOk (of_one profile op w a) (λ k. Admits k (Some (value op w x x)))
  of_one_sound op w (Num a) x ka p = left_sound _ _ (numbers_sound profile op w a a x x ka ka p p)
  of_one_sound op w Dead x ka p = absurd p
  of_one_sound op w Unset x ka p = tt
  of_one_sound op w (Halves low high) x ka p = tt
  of_one_sound op w (Ptr r lo hi) x ka p = tt

  pub transfer_sound : (op : Op) (w : Width) (a b : Kind) (x y : ℕ) → IsKind a → IsKind b → x < 2 ^ 64 → y < 2 ^ 64 → (reads_first op ≡ true → Admits a (Some x)) → (reads_second op ≡ true → Admits b (Some y)) → IfOk (transfer_of profile op w a b) (λ k. Admits k (Some (value op w x y)))
  transfer_sound Mov W64 a b x y ka kb fx fy pa pb = rw (mod-eq_of_lt fy, mod-eq_of_lt fy) (pb refl)
  transfer_sound Mov W32 a b x y ka kb fx fy pa pb = of_one_sound Mov W32 b y kb (pb refl)
  transfer_sound Movsx8 w a b x y ka kb fx fy pa pb = of_one_sound Movsx8 w b y kb (pb refl)
  transfer_sound Movsx16 w a b x y ka kb fx fy pa pb = of_one_sound Movsx16 w b y kb (pb refl)
  transfer_sound Movsx32 w a b x y ka kb fx fy pa pb = of_one_sound Movsx32 w b y kb (pb refl)
  transfer_sound Neg w a b x y ka kb fx fy pa pb = of_one_sound Neg w a x ka (pa refl)
  transfer_sound Add w a b x y ka kb fx fy pa pb = of_two_sound Add w a b x y ka kb fx fy (pa refl) (pb refl)
  transfer_sound Sub w a b x y ka kb fx fy pa pb = of_two_sound Sub w a b x y ka kb fx fy (pa refl) (pb refl)
  transfer_sound Mul w a b x y ka kb fx fy pa pb = of_two_sound Mul w a b x y ka kb fx fy (pa refl) (pb refl)
  transfer_sound Div w a b x y ka kb fx fy pa pb = of_two_sound Div w a b x y ka kb fx fy (pa refl) (pb refl)
  transfer_sound SignedDiv w a b x y ka kb fx fy pa pb = of_two_sound SignedDiv w a b x y ka kb fx fy (pa refl) (pb refl)
  transfer_sound Or w a b x y ka kb fx fy pa pb = of_two_sound Or w a b x y ka kb fx fy (pa refl) (pb refl)
  transfer_sound And w a b x y ka kb fx fy pa pb = of_two_sound And w a b x y ka kb fx fy (pa refl) (pb refl)
  transfer_sound Xor w a b x y ka kb fx fy pa pb = of_two_sound Xor w a b x y ka kb fx fy (pa refl) (pb refl)
  transfer_sound Lsh w a b x y ka kb fx fy pa pb = of_two_sound Lsh w a b x y ka kb fx fy (pa refl) (pb refl)
  transfer_sound Rsh w a b x y ka kb fx fy pa pb = of_two_sound Rsh w a b x y ka kb fx fy (pa refl) (pb refl)
  transfer_sound Arsh w a b x y ka kb fx fy pa pb = of_two_sound Arsh w a b x y ka kb fx fy (pa refl) (pb refl)
  transfer_sound Mod w a b x y ka kb fx fy pa pb = of_two_sound Mod w a b x y ka kb fx fy (pa refl) (pb refl)
  transfer_sound SignedMod w a b x y ka kb fx fy pa pb = of_two_sound SignedMod w a b x y ka kb fx fy (pa refl) (pb refl)

  -- a byte swap
  pub swap_sound : (kind : SwapKind) (n : SwapBits) (a : Kind) (x : ℕ) → Admits a (Some x) → IfOk (swap_of profile kind n a) (λ k. Admits k (Some (swapped kind n x)))
  swap_sound kind n (Num a) x p = left_sound _ _ (swapped_number_sound profile kind n a x p)
  swap_sound kind n Dead x p = absurd p
  swap_sound kind n Unset x p = tt
  swap_sound kind n (Halves low high) x p = tt
  swap_sound kind n (Ptr r lo hi) x p = tt

  pub swap_is_kind : (kind : SwapKind) (n : SwapBits) (a : Kind) → IfOk (swap_of profile kind n a) IsKind
  swap_is_kind kind n (Num a) = left_is_kind _ (swapped_is_number profile kind n a)
  swap_is_kind kind n Dead = tt
  swap_is_kind kind n Unset = tt
  swap_is_kind kind n (Halves low high) = tt
  swap_is_kind kind n (Ptr r lo hi) = tt

  -- the kinds of a compared pair after a jump, taken or not, still admit the pair
  pub refine_sound : (c : Cond) (w : Width) (a b : Kind) (taken : Bool) (x y : ℕ) → IsKind a → IsKind b → Admits a (Some x) → Admits b (Some y) → condition c w x y ≡ taken → Admits (refine_of profile c w a b taken).0 (Some x) × Admits (refine_of profile c w a b taken).1 (Some y)
  refine_sound c w Dead b taken x y ka kb p q t = absurd p
  refine_sound c w a Dead taken x y ka kb p q t = absurd q
  refine_sound c w (Num a) (Num b) taken x y ka kb p q t = pair_sound (Num a) (Num b) _ x y ka kb p q (compared_sound c w taken a b ka kb profile x y p q t)
  refine_sound c w a b taken x y ka kb p q t = pointers_sound profile c w a b taken x y ka kb p q t

-- ---- what is left is a kind

left_of_is_kind : (k : Kind) (o : Option Number) → IsKind k → IfSome o IsNumber → IsKind (left_of_kind k o)
left_of_is_kind (Ptr region lo hi) None h l = h
left_of_is_kind (Ptr region lo hi) (Some a) h l = pointer_left_kind region lo hi a.range h
left_of_is_kind (Num a) o h l = left_is_kind o l
left_of_is_kind Dead o h l = left_is_kind o l
left_of_is_kind Unset o h l = left_is_kind o l
left_of_is_kind (Halves low high) o h l = left_is_kind o l

pair_kinds : (a b : Kind) (o : Option (Number × Number)) → IsKind a → IsKind b → IfSome o AreNumbers → IsKind (kinds_left a b o).0 × IsKind (kinds_left a b o).1
pair_kinds a b None ka kb h = (left_of_is_kind a None ka tt, left_of_is_kind b None kb tt)
pair_kinds a b (Some p) ka kb h = (left_of_is_kind a (Some p.0) ka h.first, left_of_is_kind b (Some p.1) kb h.second)

compared_are_kinds : (c : Cond) (taken : Bool) (a b : Kind) (o p : Option Number) → IsKind a → IsKind b → IfSome o IsNumber → IfSome p IsNumber → IsKind (compared_kinds c taken a b o p).0 × IsKind (compared_kinds c taken a b o p).1
compared_are_kinds c taken a b (Some m) (Some n) ka kb km kn = pair_kinds a b _ ka kb (compared_numbers c W64 taken m n km kn Second)
compared_are_kinds c taken a b None p ka kb km kn = (ka, kb)
compared_are_kinds c taken a b (Some m) None ka kb km kn = (ka, kb)

pointers_kinds : (profile : Profile) (c : Cond) (w : Width) (a b : Kind) (taken : Bool) → IsKind a → IsKind b → IsKind (refine_pointers profile c w a b taken).0 × IsKind (refine_pointers profile c w a b taken).1
pointers_kinds First c w a b taken ka kb = (ka, kb)
pointers_kinds Second c W32 a b taken ka kb = (ka, kb)
pointers_kinds Second c W64 a b taken ka kb = compared_are_kinds c taken a b (number_in a) (number_in b) ka kb (number_in_is a ka) (number_in_is b kb)

apart_kind : (profile : Profile) (a b : Number) → IsNumber a → IsNumber b → IfOk (apart_by profile a b) IsKind
apart_kind First a b ka kb = tt
apart_kind Second a b ka kb = left_is_kind _ (numbers_are_numbers Second Sub W64 a b ka kb)

after_kind : (k : Kind) (op : Op) (w : Width) → IsKind k → IsKind (after_dead k op w)
after_kind (Ptr region lo hi) Add W64 h = h
after_kind k op w h = tt

before_kind : (k : Kind) (op : Op) (w : Width) → IsKind k → IsKind (before_dead k op w)
before_kind (Ptr region lo hi) Add W64 h = h
before_kind (Ptr region lo hi) Sub W64 h = h
before_kind k op w h = tt

module _ (profile : Profile) where
  one_kind : (op : Op) (w : Width) (a : Kind) → IsKind a → IfOk (of_one profile op w a) IsKind
  one_kind op w (Num a) ka = left_is_kind _ (numbers_are_numbers profile op w a a ka ka)
  one_kind op w Dead ka = tt
  one_kind op w Unset ka = tt
  one_kind op w (Halves low high) ka = tt
  one_kind op w (Ptr r lo hi) ka = tt

  two_kind : (op : Op) (w : Width) (a b : Kind) → IsKind a → IsKind b → IfOk (of_two profile op w a b) IsKind
  two_kind op w Dead b ka kb = after_kind b op w kb
  two_kind op w (Num a) Dead ka kb = tt
  two_kind op w Unset Dead ka kb = tt
  two_kind op w (Halves low high) Dead ka kb = tt
  two_kind op w (Ptr region lo hi) Dead ka kb = before_kind (Ptr region lo hi) op w ka
  two_kind op w (Num a) (Num b) ka kb = left_is_kind _ (numbers_are_numbers profile op w a b ka kb)
  two_kind Add W64 (Ptr region lo hi) (Num b) ka kb = up_kind profile region lo hi (signed_range b.range.lo b.range.hi) ka.1 (signed_in_order _ _ kb.range.ordered)
  two_kind Add W64 (Num a) (Ptr region lo hi) ka kb = up_kind profile region lo hi (signed_range a.range.lo a.range.hi) kb.1 (signed_in_order _ _ ka.range.ordered)
  two_kind Sub W64 (Ptr region lo hi) (Num b) ka kb = down_kind profile region lo hi (signed_range b.range.lo b.range.hi) ka.1 (signed_in_order _ _ kb.range.ordered)
  two_kind Sub W64 (Ptr region lo hi) (Ptr other low high) ka kb = apart_kind profile (as_number region lo hi) (as_number other low high) (as_number_is region lo hi ka) (as_number_is other low high kb)
  two_kind op w a b ka kb = tt

  pub transfer_kind : (op : Op) (w : Width) (a b : Kind) → IsKind a → IsKind b → IfOk (transfer_of profile op w a b) IsKind
  transfer_kind Mov W64 a b ka kb = kb
  transfer_kind Mov W32 a b ka kb = one_kind Mov W32 b kb
  transfer_kind Movsx8 w a b ka kb = one_kind Movsx8 w b kb
  transfer_kind Movsx16 w a b ka kb = one_kind Movsx16 w b kb
  transfer_kind Movsx32 w a b ka kb = one_kind Movsx32 w b kb
  transfer_kind Neg w a b ka kb = one_kind Neg w a ka
  transfer_kind Add w a b ka kb = two_kind Add w a b ka kb
  transfer_kind Sub w a b ka kb = two_kind Sub w a b ka kb
  transfer_kind Mul w a b ka kb = two_kind Mul w a b ka kb
  transfer_kind Div w a b ka kb = two_kind Div w a b ka kb
  transfer_kind SignedDiv w a b ka kb = two_kind SignedDiv w a b ka kb
  transfer_kind Or w a b ka kb = two_kind Or w a b ka kb
  transfer_kind And w a b ka kb = two_kind And w a b ka kb
  transfer_kind Xor w a b ka kb = two_kind Xor w a b ka kb
  transfer_kind Lsh w a b ka kb = two_kind Lsh w a b ka kb
  transfer_kind Rsh w a b ka kb = two_kind Rsh w a b ka kb
  transfer_kind Arsh w a b ka kb = two_kind Arsh w a b ka kb
  transfer_kind Mod w a b ka kb = two_kind Mod w a b ka kb
  transfer_kind SignedMod w a b ka kb = two_kind SignedMod w a b ka kb

  pub refine_kinds : (c : Cond) (w : Width) (a b : Kind) (taken : Bool) → IsKind a → IsKind b → IsKind (refine_of profile c w a b taken).0 × IsKind (refine_of profile c w a b taken).1
  refine_kinds c w Dead b taken ka kb = pair_kinds Dead b None tt kb tt
  refine_kinds c w a Dead taken ka kb = pair_kinds a Dead None ka tt tt
  refine_kinds c w (Num a) (Num b) taken ka kb = pair_kinds (Num a) (Num b) _ ka kb (compared_numbers c w taken a b ka kb profile)
  refine_kinds c w a b taken ka kb = pointers_kinds profile c w a b taken ka kb

  -- numbers of a range
  pub range_sound : (r : Range) (n : ℕ) → r.hi < 2 ^ 64 → InRange r n → Admits (kind_in profile r) (Some n)
  range_sound r n f h = left_sound _ _ (settled_sound profile r nothing n f nothing_fits h (nothing_sound n))

  pub range_kind : (r : Range) → r.lo ≤ r.hi → r.hi < 2 ^ 64 → IsKind (kind_in profile r)
  range_kind r le f = left_is_kind _ (settled_is_number profile r nothing f (λ _. le) nothing_fits)
