use Rattle.std.proofs.Common.{◌≡◌, ℕ, ◌+◌, List, ◌++◌, length, take}
use Rattle.std.proofs.Math.Seq.{take-append_seam, take-append-add, drop-append_seam}
use Rattle.key_state.specs.Names.{cut}
use Rattle.key_state.proofs.names.Names.new.Goals as goal

-- what an array begins with once both names are copied there
filled : (bucket key first second zeros rest : List ℕ) → first ≡ bucket → second ≡ key → take (length bucket + length key) (take (length bucket) (first ++ zeros) ++ (second ++ rest)) ≡ bucket ++ key
filled bucket key first second zeros rest p q = rw (p, q, take-append_seam bucket zeros, take-append-add bucket (key ++ rest) (length key), take-append_seam key rest)

-- both names, of bytes that are theirs
cut_joined : (bucket key bytes : List ℕ) → bytes ≡ bucket ++ key → cut (length bucket) bytes ≡ record { bucket = bucket; key = key }
cut_joined bucket key bytes e = rw (e, take-append_seam bucket key, drop-append_seam bucket key)

pub returns-then-len-le-SHORT_NAME_BYTES : goal.returns-then-len-le-SHORT_NAME_BYTES
returns-then-len-le-SHORT_NAME_BYTES c = cut_joined c.args.bucket.now c.args.key.now _ (filled c.args.bucket.now c.args.key.now _ _ _ _ c.copy_from_slice.ensures.after c.copy_from_slice-then-len-le-SHORT_NAME_BYTES.ensures.after)
