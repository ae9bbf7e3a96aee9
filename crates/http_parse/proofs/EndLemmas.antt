-- On where a body ends behind a head.
use Rattle.std.proofs.Common.{◌≡◌, ℕ, ◌+◌, ◌-◌, ◌<◌, ◌≤◌, Bool, true, false, List, [], ◌∷◌, ◌++◌, length, take, drop, refl, sym, ap, subst, ◌∙◌, append-nil, arith, length-append, length-drop}
use Rattle.std.specs.Prelude.{nat_lt, if◌then◌else◌}
use Rattle.std.proofs.lemmas.List.{length-take-le, drop-drop}
use Rattle.std.proofs.lemmas.Bool.{ltb-true, ltb-false}
use Rattle.http_request.specs.Limits.{longest_head, longest_body}
use Rattle.http_request.specs.Fields.{sized, chunked}
use Rattle.http_request.specs.Body.{IsCodedUnfinished, ReadsCoded}
use Rattle.http_parse.specs.declared.chunks.Coded.{Coded}
use Rattle.http_parse.specs.declared.chunks.Coded.TheVariants as coded
use Rattle.http_parse.specs.declared.chunks.CodedBody.{CodedBody}
use Rattle.http_parse.specs.declared.request.BodyAt.TheVariants.{Unfinished, Whole}
use Rattle.http_parse.specs.Reading.{HasRead, Comes}
use Rattle.http_parse.specs.Bodies.{EndsAt, sized_ends, coded_ends}
use Rattle.http_parse.proofs.BodyLemmas.{body_split}

module _ (bytes : List ℕ) (start : ℕ) (within : start ≤ length bytes) (head : start ≤ longest_head) (read : CodedBody) where
  -- a body whose length was said
  pub sized_is : (len : ℕ) → len ≤ longest_body → HasRead read (drop start bytes) → EndsAt (sized_ends (length bytes) (start + len)) (sized len) bytes start read
  sized_is len small has = at (nat_lt (length bytes) (start + len)) refl
    where
      count : start + len - start ≡ len
      count = omega arith

      at : (b : Bool) → nat_lt (length bytes) (start + len) ≡ b → EndsAt (if b then Unfinished (start + len) else Whole (start + len)) (sized len) bytes start read
      at true t =
          let short = ltb-true (length bytes) (start + len) t in (
            short,
            omega (arith, head, small),
            has,
            λ more fewer. omega (arith, fewer, length-append (drop start bytes) more, length-drop start bytes, within),
          )
      at false t =
          let long = ltb-false (length bytes) (start + len) t in (
            omega arith,
            long,
            λ more. (
              length-take-le (start + len - start) (drop start bytes) (omega (arith, long, length-drop start bytes)) ∙ count,
              body_split bytes start len more ∙ ap (λ n. take n (drop start bytes) ++ (drop (start + len) bytes ++ more)) (sym count),
            ),
          )

  still : (more : List ℕ) → length bytes + length more < length bytes + 1 → IsCodedUnfinished (drop start bytes) → IsCodedUnfinished (drop start bytes ++ more)
  still [] fewer un = subst IsCodedUnfinished (sym (append-nil (drop start bytes))) un
  still (b ∷ more) fewer un = absurd (omega (arith, fewer))

  -- a body in chunks
  pub coded_is : (c : Coded) → Comes c (drop start bytes) read → EndsAt (coded_ends (length bytes) start c) chunked bytes start read
  coded_is coded.Unfinished comes = (
    omega arith,
    omega (arith, head, comes.0.short, length-drop start bytes),
    comes.1,
    λ more fewer. still more fewer comes.0,
  )
  coded_is (coded.Whole len) comes = (
    omega arith,
    omega (arith, comes.0, length-drop start bytes, within),
    λ more. subst (λ l. ReadsCoded (drop start bytes ++ more) read.joined.items (l ++ more)) (drop-drop len start bytes) (comes.1 more),
  )
  coded_is (coded.Bad refusal) comes = comes
