-- Servers, one after another.
use Rattle.std.proofs.Common.{◌≡◌, ℕ, ◌+◌, ◌<◌, ◌≤◌, List, [], ◌∷◌, ◌++◌, length, get_or, take, drop, sym, ap, subst, ◌∙◌}
use Rattle.std.specs.List.{flat_map}
use Rattle.std.proofs.lemmas.List.{drop_more, flat_map_more, take_more}
use Rattle.peer_members.specs.declared.members.Server.{Server}
use Rattle.peer_members.specs.Members.{AreRising}

-- one more of a list is written
pub adds_one : {X : Type 0} (f : X → List ℕ) (front before after : List ℕ) (xs : List X) (i : ℕ) (x : X) → i < length xs → x ≡ get_or xs i x → before ≡ front ++ flat_map f (take i xs) → after ≡ before ++ f x → after ≡ front ++ flat_map f (take (i + 1) xs)
adds_one f front before after xs i x lt is e g =
    g ∙ ap (λ (b : List ℕ). b ++ f x) e ∙ flat_map_more f front (take i xs) x ∙ ap (λ ys. front ++ flat_map f ys) (ap (λ y. take i xs ++ y ∷ []) is ∙ sym (take_more xs i x lt))

-- where the servers to come decide, those behind the next one do if its number may follow
pub rises_on : (least next : ℕ) (servers : List Server) (i : ℕ) (s : Server) → i < length servers → s ≡ get_or servers i s → next ≡ s.number → least ≤ next
    → (AreRising least (drop i servers) → AreRising 0 servers) → AreRising (next + 1) (drop (i + 1) servers) → AreRising 0 servers
rises_on least next servers i s lt is same may so_far more =
    let cut : drop i servers ≡ s ∷ drop (i + 1) servers = drop_more servers i s lt ∙ ap (λ (x : Server). x ∷ drop (i + 1) servers) (sym is) in
    so_far (subst (AreRising least) (sym cut) (subst (λ n. least ≤ n) same may, subst (λ n. AreRising (n + 1) (drop (i + 1) servers)) same more))
