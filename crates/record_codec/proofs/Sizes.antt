-- How long the parts of a record are, and parts that are written one after another.
use Rattle.std.proofs.Common.{◌≡◌, ℕ, ◌+◌, ◌*◌, ◌<◌, ◌≤◌, List, [], ◌∷◌, ◌++◌, length, get_or, take, refl, sym, ap, ◌∙◌, arith, length-append}
use Rattle.std.specs.Int.{byte_len, to_be_bytes}
use Rattle.std.specs.List.{flat_map}
use Rattle.std.proofs.lemmas.List.{flat_map_more, take_more}
use Rattle.dvv.specs.declared.Dot.{Dot}
use Rattle.key_state.specs.declared.content.Sibling.{Sibling}
use Rattle.record_codec.specs.declared.form.Form.{Form}
use Rattle.record_codec.specs.declared.form.Form.TheVariants.{Narrow, Wide}
use Rattle.record_codec.specs.declared.record.Record.{Record}
use Rattle.record_codec.specs.Records.{body, content, dot, form_of, key, sibling, state, width_of}

-- one more of a list is written
pub adds_one : {X : Type 0} (f : X → List ℕ) (front before after : List ℕ) (xs : List X) (i : ℕ) (x : X) → i < length xs → x ≡ get_or xs i x → before ≡ front ++ flat_map f (take i xs) → after ≡ before ++ f x → after ≡ front ++ flat_map f (take (i + 1) xs)
adds_one f front before after xs i x lt is e g =
    g ∙ ap (λ (b : List ℕ). b ++ f x) e ∙ flat_map_more f front (take i xs) x ∙ ap (λ ys. front ++ flat_map f ys) (ap (λ y. take i xs ++ y ∷ []) is ∙ sym (take_more xs i x lt))

pub length-dots : (ds : List Dot) → length (flat_map dot ds) ≡ 12 * length ds
length-dots [] = refl
length-dots (d ∷ ds) = length-append (dot d) (flat_map dot ds) ∙ (let more = length-dots ds in omega arith)

-- a sibling takes a byte at least
pub length-siblings : (ss : List Sibling) → length ss ≤ length (flat_map sibling ss)
length-siblings [] = omega arith
length-siblings (s ∷ ss) =
    let here = length-append (sibling s) (flat_map sibling ss) in
    let parts = length-append (dot s.dot) (content s.content) in
    let more = length-siblings ss in omega arith

length-place : (form : Form) (at : ℕ) → length (to_be_bytes (width_of form) at) ≡ byte_len (width_of form)
length-place Narrow at = refl
length-place Wide at = refl

pub length-body : (r : Record) → length (body r) ≡ 14 + byte_len (width_of (form_of r.at)) + length r.key.bucket + length r.key.key + 12 * length r.state.clock + length (flat_map sibling r.state.siblings)
length-body r =
    let a = length-append (key r.key) (state r.state) in
    let e = length-dots r.state.clock in
    let p = length-place (form_of r.at) r.at in
    simp length-append (omega arith)
