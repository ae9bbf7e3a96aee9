-- What joins: each side is still admitted.
use Rattle.std.proofs.Common.{ℕ, arith, Option, Some, None}
use Rattle.std.proofs.lemmas.Int.{ints, clamps}
use Rattle.bpf_semantics.specs.declared.Region.TheVariants.{Stack, Input, Output}
use Rattle.bpf_semantics.specs.declared.profile.Profile.{Profile}
use Rattle.bpf_ranges.specs.declared.kind.Kind.{Kind}
use Rattle.bpf_ranges.specs.declared.kind.Kind.TheVariants.{Dead, Num, Ptr, Halves}
use Rattle.bpf_ranges.specs.Kinds.{Admits, IsKind}
use Rattle.bpf_ranges.specs.Transfer.{join_of}
use Rattle.bpf_ranges.proofs.Rows.{joined_left, joined_right, joined_is_number}
use Rattle.bpf_ranges.specs.Words.{low_word, high_word}
use Rattle.bpf_ranges.proofs.Operations.{left_sound, left_is_kind}
use Rattle.bpf_ranges.proofs.Words.{low_admits, high_admits, low_is_word, high_is_word, words_left, words_right, words_are}

module _ (profile : Profile) where
  pub join_left : (a b : Kind) (v : Option ℕ) → IsKind a → IsKind b → Admits a v → Admits (join_of profile a b) v
  join_left Dead b v ka kb h = absurd h
  join_left a Dead v ka kb h = h
  join_left (Num a) (Num b) None ka kb h = absurd h
  join_left (Num a) (Num b) (Some n) ka kb h = left_sound _ _ (joined_left profile a b n ka kb h)
  join_left (Ptr r al ah) (Ptr s bl bh) None ka kb h = absurd h
  join_left (Ptr Stack al ah) (Ptr Stack bl bh) (Some n) ka kb h = (omega (arith, ints, clamps), omega (arith, ints, clamps))
  join_left (Ptr Input al ah) (Ptr Input bl bh) (Some n) ka kb h = (omega (arith, ints, clamps), omega (arith, ints, clamps))
  join_left (Ptr Output al ah) (Ptr Output bl bh) (Some n) ka kb h = (omega (arith, ints, clamps), omega (arith, ints, clamps))
  join_left (Halves low high) (Halves l h) None ka kb a = absurd a
  join_left (Halves low high) (Halves l h) (Some n) ka kb a = (words_left low l _ a.0, words_left high h _ a.1)
  join_left (Halves low high) (Num b) None ka kb a = absurd a
  join_left (Halves low high) (Num b) (Some n) ka kb a = (words_left low (low_word (Num b)) _ a.0, words_left high (high_word (Num b)) _ a.1)
  join_left (Num b) (Halves l h) None ka kb a = absurd a
  join_left (Num b) (Halves l h) (Some n) ka kb a = (words_left (low_word (Num b)) l _ (low_admits (Num b) n a), words_left (high_word (Num b)) h _ (high_admits (Num b) n a))
  join_left a b v ka kb h = tt

  pub join_right : (a b : Kind) (v : Option ℕ) → IsKind a → IsKind b → Admits b v → Admits (join_of profile a b) v
  join_right Dead b v ka kb h = h
  join_right a Dead v ka kb h = absurd h
  join_right (Num a) (Num b) None ka kb h = absurd h
  join_right (Num a) (Num b) (Some n) ka kb h = left_sound _ _ (joined_right profile a b n ka kb h)
  join_right (Ptr r al ah) (Ptr s bl bh) None ka kb h = absurd h
  join_right (Ptr Stack al ah) (Ptr Stack bl bh) (Some n) ka kb h = (omega (arith, ints, clamps), omega (arith, ints, clamps))
  join_right (Ptr Input al ah) (Ptr Input bl bh) (Some n) ka kb h = (omega (arith, ints, clamps), omega (arith, ints, clamps))
  join_right (Ptr Output al ah) (Ptr Output bl bh) (Some n) ka kb h = (omega (arith, ints, clamps), omega (arith, ints, clamps))
  join_right (Halves low high) (Halves l h) None ka kb a = absurd a
  join_right (Halves low high) (Halves l h) (Some n) ka kb a = (words_right low l _ a.0, words_right high h _ a.1)
  join_right (Halves low high) (Num b) None ka kb a = absurd a
  join_right (Halves low high) (Num b) (Some n) ka kb a = (words_right low (low_word (Num b)) _ (low_admits (Num b) n a), words_right high (high_word (Num b)) _ (high_admits (Num b) n a))
  join_right (Num b) (Halves l h) None ka kb a = absurd a
  join_right (Num b) (Halves l h) (Some n) ka kb a = (words_right (low_word (Num b)) l _ a.0, words_right (high_word (Num b)) h _ a.1)
  join_right a b v ka kb h = tt

pub join_kind : (profile : Profile) (a b : Kind) → IsKind a → IsKind b → IsKind (join_of profile a b)
join_kind profile Dead b ka kb = kb
join_kind profile a Dead ka kb = ka
join_kind profile (Num a) (Num b) ka kb = left_is_kind _ (joined_is_number profile a b ka kb)
join_kind profile (Ptr Stack al ah) (Ptr Stack bl bh) ka kb = (omega (arith, ints, clamps), omega (arith, ints, clamps), omega (arith, ints, clamps))
join_kind profile (Ptr Input al ah) (Ptr Input bl bh) ka kb = (omega (arith, ints, clamps), omega (arith, ints, clamps), omega (arith, ints, clamps))
join_kind profile (Ptr Output al ah) (Ptr Output bl bh) ka kb = (omega (arith, ints, clamps), omega (arith, ints, clamps), omega (arith, ints, clamps))
join_kind profile (Halves low high) (Halves l h) ka kb = (words_are low l ka.0 kb.0, words_are high h ka.1 kb.1)
join_kind profile (Halves low high) (Num b) ka kb = (words_are low (low_word (Num b)) ka.0 (low_is_word (Num b) kb), words_are high (high_word (Num b)) ka.1 (high_is_word (Num b) kb))
join_kind profile (Num a) (Halves l h) ka kb = (words_are (low_word (Num a)) l (low_is_word (Num a) ka) kb.0, words_are (high_word (Num a)) h (high_is_word (Num a) ka) kb.1)
join_kind profile a b ka kb = tt
