-- Clocks of few entries.
use Rattle.std.proofs.Common.{◌≡◌, List, [], ◌∷◌, refl, cond}
use Rattle.std.proofs.lemmas.Bool.{cond_both}
use Rattle.std.specs.Prelude.{nat_lt}
use Rattle.dvv.specs.declared.Dot.{Dot}
use Rattle.key_state.specs.declared.few.Others.{Others}
use Rattle.key_state.specs.Few.{few_clock, first_beside, second_beside, short_of, with_one, with_two}

-- one with few entries is lent whole
pub few_is_short : (dot : Dot) (others : Others) → short_of (few_clock dot others) ≡ few_clock dot others
few_is_short dot others =
    let first = first_beside dot others in
    let second = second_beside dot others in
    let less : List Dot = cond (nat_lt 0 others.first_n) (with_one dot first) (dot ∷ []) in
    cond_both (nat_lt 0 others.second_n) (with_two dot first second) less Whole
    (λ there. cond_both (nat_lt second.vnode dot.vnode) (first ∷ second ∷ dot ∷ []) (cond (nat_lt first.vnode dot.vnode) (first ∷ dot ∷ second ∷ []) (dot ∷ first ∷ second ∷ [])) Whole
    (λ low. refl) (λ high. cond_both (nat_lt first.vnode dot.vnode) (first ∷ dot ∷ second ∷ []) (dot ∷ first ∷ second ∷ []) Whole (λ lower. refl) (λ higher. refl)))
    (λ none. cond_both (nat_lt 0 others.first_n) (with_one dot first) (dot ∷ []) Whole
    (λ there. cond_both (nat_lt first.vnode dot.vnode) (first ∷ dot ∷ []) (dot ∷ first ∷ []) Whole (λ low. refl) (λ high. refl)) (λ alone. refl))
  where
    Whole : List Dot → Type 0
    Whole xs = short_of xs ≡ xs
