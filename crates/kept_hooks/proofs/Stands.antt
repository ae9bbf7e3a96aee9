-- A list of requests comes to what the changes came to that made it.
use Rattle.std.proofs.Common.{◌≡◌, ◌≢◌, ℕ, Bool, true, false, not, cond, ◌&&◌, ◌||◌, List, [], ◌∷◌, ◌++◌, Option, Some, None, refl, sym, ap, ◌∙◌, subst, is_some}
use Rattle.std.specs.List.{fold, filter, list_all}
use Rattle.std.specs.Option.{option_map}
use Rattle.std.proofs.lemmas.Cmp.{eq_by_cmp_equiv, nat_list_cmp_total}
use Rattle.std.proofs.lemmas.List.Sums.{fold-append}
use Rattle.std.proofs.lemmas.List.Folds.{list_all-append}
use Rattle.bpf_image.specs.declared.image.ImageKind.{ImageKind}
use Rattle.bpf_image.specs.declared.image.ImageKind.TheVariants as of
use Rattle.kept_hooks.specs.declared.request.Request.{Request}
use Rattle.kept_hooks.specs.declared.request.Request.TheVariants.{Install, Remove, Bind}
use Rattle.kept_hooks.specs.declared.request.Phase.{Phase}
use Rattle.kept_hooks.specs.declared.request.Phase.TheVariants.{PreCommit, Resolver}
use Rattle.bpf_verifier.specs.Program.{Program}
use Rattle.hook_registry.specs.Changes as registry
use Rattle.hook_registry.specs.Changes.{Binding, is_name, is_kind, of_kind, program_after, name_after, binding_after, program_at, bound_at, are_fitting, is_fitting}
use Rattle.hook_registry.proofs.Named.{one_name}
use Rattle.http_request.specs.declared.ask.Change.{Change}
use Rattle.http_request.specs.declared.ask.Change.TheVariants.{Kept, Unbound, Bound}
use Rattle.server_store.specs.Changes.{binding_of, bindings_of}
use Rattle.kept_hooks.specs.Lists.{is_for, is_phase, names, takes, binds, passes, never, without, untaken, unbound, renews, settled, image_after, bound_after, with_image, freed, freed_if, installed, removed, replaced, rebound, bound}
use Rattle.kept_hooks.specs.Standing.{kind_of, TellsPhases, change_of, changes_of, IsLegal, AreLegal, Stands}

-- ---- names

own_name : (a : List ℕ) → is_name a a ≡ true
own_name a = (eq_by_cmp_equiv nat_list_cmp_total).refl a

absurd : {A : Type 0} → true ≡ false → A
absurd h = cc

not_true : (b : Bool) → not b ≡ true → b ≡ false
not_true true h = cc
not_true false h = refl

not_false : (b : Bool) → not b ≡ false → b ≡ true
not_false true h = refl
not_false false h = cc

-- one name, of which the other is apart
apart : (a b c : List ℕ) → is_name a b ≡ true → is_name b c ≡ false → is_name a c ≡ false
apart a b c ab bc = ap (λ x. is_name x c) (one_name a b ab) ∙ bc

-- apart either way
apart_too : (a b : List ℕ) → is_name a b ≡ false → is_name b a ≡ false
apart_too a b h = by (is_name b a) refl
  where
    by : (same : Bool) → is_name b a ≡ same → same ≡ false
    by true e = absurd (sym (own_name a) ∙ ap (is_name a) (sym (one_name b a e)) ∙ h)
    by false e = refl

both : (a b : Bool) → (a && b) ≡ true → (a ≡ true) × (b ≡ true)
both true true h = (refl, refl)
both true false h = cc
both false b h = cc

-- ---- folds over a filter

module _ (program : List ℕ → Program) {B : Type 0} (f : B → registry.Change → B) (keep : Request → Bool) where
  -- what is left out changes nothing
  idle_step : ((r : Request) (b : B) → keep r ≡ false → f b (change_of program r) ≡ b) → (b : B) (r : Request) (rs : List Request) → ((x : B) → fold f x (changes_of program (filter keep rs)) ≡ fold f x (changes_of program rs)) → (k : Bool) → keep r ≡ k
      → fold f b (changes_of program (cond k (r ∷ filter keep rs) (filter keep rs))) ≡ fold f b (changes_of program (r ∷ rs))
  idle_step h b r rs rest true e = rest (f b (change_of program r))
  idle_step h b r rs rest false e = rest b ∙ ap (λ x. fold f x (changes_of program rs)) (sym (h r b e))

  idle : ((r : Request) (b : B) → keep r ≡ false → f b (change_of program r) ≡ b) → (b : B) (rs : List Request) → fold f b (changes_of program (filter keep rs)) ≡ fold f b (changes_of program rs)
  idle h b [] = refl
  idle h b (r ∷ rs) = idle_step h b r rs (λ x. idle h x rs) (keep r) refl

  -- what is left changes nothing
  stays_step : (b : B) → ((r : Request) → keep r ≡ true → f b (change_of program r) ≡ b) → (r : Request) (rs : List Request) → fold f b (changes_of program (filter keep rs)) ≡ b → (k : Bool) → keep r ≡ k
      → fold f b (changes_of program (cond k (r ∷ filter keep rs) (filter keep rs))) ≡ b
  stays_step b h r rs rest true e = ap (λ x. fold f x (changes_of program (filter keep rs))) (h r e) ∙ rest
  stays_step b h r rs rest false e = rest

  stays : (b : B) → ((r : Request) → keep r ≡ true → f b (change_of program r) ≡ b) → (rs : List Request) → fold f b (changes_of program (filter keep rs)) ≡ b
  stays b h [] = refl
  stays b h (r ∷ rs) = stays_step b h r rs (stays b h rs) (keep r) refl

-- ---- single requests

module _ (program : List ℕ → Program) where
  -- what is said of a name is nothing to another
  others_program : (name other : List ℕ) → is_name name other ≡ false → (r : Request) (p : Option Program) → not (names name r) ≡ false → program_after other p (change_of program r) ≡ p
  others_program name other differ (Install it image) p h = ap (λ b. cond b (Some (program image)) p) (apart it name other (not_false (is_name it name) h) differ)
  others_program name other differ (Remove it) p h = ap (λ b. cond b None p) (apart it name other (not_false (is_name it name) h) differ)
  others_program name other differ (Bind bucket phase it) p h = refl

  -- what is said of others is nothing to a name
  own_program : (name : List ℕ) (p : Option Program) (r : Request) → not (names name r) ≡ true → program_after name p (change_of program r) ≡ p
  own_program name p (Install it image) h = ap (λ b. cond b (Some (program image)) p) (not_true (is_name it name) h)
  own_program name p (Remove it) h = ap (λ b. cond b None p) (not_true (is_name it name) h)
  own_program name p (Bind bucket phase it) h = refl

  -- what is said of programs is nothing to what is bound
  names_apart : (name bucket : List ℕ) (kind : ImageKind) (r : Request) (n : Option (List ℕ)) → not (names name r) ≡ false → name_after bucket kind n (change_of program r) ≡ n
  names_apart name bucket kind (Install it image) n h = refl
  names_apart name bucket kind (Remove it) n h = refl
  names_apart name bucket kind (Bind other phase it) n h = absurd h

  takes_others : (name other : List ℕ) → is_name name other ≡ false → (r : Request) (p : Option Program) → not (takes name r) ≡ false → program_after other p (change_of program r) ≡ p
  takes_others name other differ (Install it image) p h = absurd h
  takes_others name other differ (Remove it) p h = ap (λ b. cond b None p) (apart it name other (not_false (is_name it name) h) differ)
  takes_others name other differ (Bind bucket phase it) p h = absurd h

  takes_apart : (name bucket : List ℕ) (kind : ImageKind) (r : Request) (n : Option (List ℕ)) → not (takes name r) ≡ false → name_after bucket kind n (change_of program r) ≡ n
  takes_apart name bucket kind (Install it image) n h = absurd h
  takes_apart name bucket kind (Remove it) n h = refl
  takes_apart name bucket kind (Bind other phase it) n h = absurd h

  -- what is bound is nothing to programs
  binds_apart : (bucket name : List ℕ) (phase : Phase) (r : Request) (p : Option Program) → not (binds bucket phase r) ≡ false → program_after name p (change_of program r) ≡ p
  binds_apart bucket name phase (Install it image) p h = absurd h
  binds_apart bucket name phase (Remove it) p h = absurd h
  binds_apart bucket name phase (Bind other at it) p h = refl

  -- ---- requests that are not refused

  -- one more at the end
  legal_more : (before : List ℕ → Option Program) (rs : List Request) (r : Request) → AreLegal program before rs → IsLegal program (λ name. fold (program_after name) (before name) (changes_of program rs)) r → AreLegal program before (rs ++ r ∷ [])
  legal_more before [] r all last = (last, tt)
  legal_more before (x ∷ rs) r all last = (all.0, legal_more (λ name. program_after name (before name) (change_of program x)) rs r all.1 last)

  -- where each name has the same program
  legal_as : (before after : List ℕ → Option Program) → ((name : List ℕ) → before name ≡ after name) → (r : Request) → IsLegal program before r → IsLegal program after r
  legal_as before after same (Install name image) h = h
  legal_as before after same (Remove name) h = sym (ap is_some (same name)) ∙ h
  legal_as before after same (Bind bucket phase name) h = sym (ap (λ p. is_some (of_kind (kind_of phase) p)) (same name)) ∙ h

  legal_if : (before : List ℕ → Option Program) (bucket : List ℕ) (phase : Phase) (name : List ℕ) (rs : List Request) (k : Bool) → IsLegal program before (Bind bucket phase name) → AreLegal program before rs → AreLegal program before (cond k (Bind bucket phase name ∷ rs) rs)
  legal_if before bucket phase name rs true h all = (h, all)
  legal_if before bucket phase name rs false h all = all

  -- what is bound may be left out
  legal_unbound : (bucket : List ℕ) (phase : Phase) (before : List ℕ → Option Program) (rs : List Request) → AreLegal program before rs → AreLegal program before (unbound bucket phase rs)
  legal_unbound bucket phase before [] all = tt
  legal_unbound bucket phase before (Install name image ∷ rs) all = (tt, legal_unbound bucket phase (λ it. program_after it (before it) (registry.Install name (program image))) rs all.1)
  legal_unbound bucket phase before (Remove name ∷ rs) all = (all.0, legal_unbound bucket phase (λ it. program_after it (before it) (registry.Remove name)) rs all.1)
  legal_unbound bucket phase before (Bind other at name ∷ rs) all = legal_if before other at name (unbound bucket phase rs) (not (binds bucket phase (Bind other at name))) all.0 (legal_unbound bucket phase before rs all.1)

  -- all that a name has stays
  abbrev Extends : (List ℕ → Option Program) → (List ℕ → Option Program) → Type 0
  Extends before after = (name : List ℕ) (p : Program) → before name ≡ Some p → after name ≡ Some p

  still_some : (before after : Option Program) → ((p : Program) → before ≡ Some p → after ≡ Some p) → is_some before ≡ true → is_some after ≡ true
  still_some None after h is = absurd (sym is)
  still_some (Some p) after h is = ap is_some (h p refl)

  still_kind : (kind : ImageKind) (before after : Option Program) → ((p : Program) → before ≡ Some p → after ≡ Some p) → is_some (of_kind kind before) ≡ true → is_some (of_kind kind after) ≡ true
  still_kind kind None after h is = absurd (sym is)
  still_kind kind (Some p) after h is = ap (λ q. is_some (of_kind kind q)) (h p refl) ∙ is

  extends_if : (b : Bool) (x before after : Option Program) → ((p : Program) → before ≡ Some p → after ≡ Some p) → (p : Program) → cond b x before ≡ Some p → cond b x after ≡ Some p
  extends_if true x before after h p e = e
  extends_if false x before after h p e = h p e

  extends_taken : (b : Bool) (before after : Option Program) → ((p : Program) → before ≡ Some p → after ≡ Some p) → (p : Program) → cond b None before ≡ Some p → after ≡ Some p
  extends_taken true before after h p e = cc
  extends_taken false before after h p e = h p e

  taken_if : (after : List ℕ → Option Program) (it : List ℕ) (rs : List Request) (k : Bool) → is_some (after it) ≡ true → AreLegal program (λ x. program_after x (after x) (registry.Remove it)) rs → AreLegal program after rs → AreLegal program after (cond k (Remove it ∷ rs) rs)
  taken_if after it rs true h there here = (h, there)
  taken_if after it rs false h there here = here

  -- a name may stay with its program
  legal_untaken : (name : List ℕ) (before after : List ℕ → Option Program) → Extends before after → (rs : List Request) → AreLegal program before rs → AreLegal program after (untaken name rs)
  legal_untaken name before after more [] all = tt
  legal_untaken name before after more (Install it image ∷ rs) all = (
    tt,
    legal_untaken name (λ x. program_after x (before x) (registry.Install it (program image))) (λ x. program_after x (after x) (registry.Install it (program image)))
        (λ x. extends_if (is_name it x) (Some (program image)) (before x) (after x) (more x)) rs all.1,
  )
  legal_untaken name before after more (Remove it ∷ rs) all =
      taken_if after it (untaken name rs) (not (is_name it name)) (still_some (before it) (after it) (more it) all.0)
      (legal_untaken name (λ x. program_after x (before x) (registry.Remove it)) (λ x. program_after x (after x) (registry.Remove it)) (λ x. extends_if (is_name it x) None (before x) (after x) (more x)) rs all.1)
      (legal_untaken name (λ x. program_after x (before x) (registry.Remove it)) after (λ x. extends_taken (is_name it x) (before x) (after x) (more x)) rs all.1)
  legal_untaken name before after more (Bind bucket phase it ∷ rs) all = (still_kind (kind_of phase) (before it) (after it) (more it) all.0, legal_untaken name before after more rs all.1)

  module _ (name : List ℕ) (test : Phase → Bool) where
    -- all names but one have the same program
    abbrev Others : (List ℕ → Option Program) → (List ℕ → Option Program) → Type 0
    Others before after = (other : List ℕ) → is_name name other ≡ false → after other ≡ before other

    -- the program of that one runs in each phase that passes the test
    abbrev Runs : Option Program → Type 0
    Runs own = (phase : Phase) → test phase ≡ true → is_some (of_kind (kind_of phase) own) ≡ true

    others_said : (it : List ℕ) (x : Option Program) (before after : List ℕ → Option Program) → is_name it name ≡ true → Others before after → Others (λ other. cond (is_name it other) x (before other)) after
    others_said it x before after is same other differ = same other differ ∙ ap (λ b. cond b x (before other)) (sym (apart it name other is differ))

    others_both : (it : List ℕ) (x : Option Program) (before after : List ℕ → Option Program) → Others before after → Others (λ other. cond (is_name it other) x (before other)) (λ other. cond (is_name it other) x (after other))
    others_both it x before after same other differ = ap (cond (is_name it other) x) (same other differ)

    runs_still : (it : List ℕ) (x own : Option Program) → is_name it name ≡ false → Runs own → Runs (cond (is_name it name) x own)
    runs_still it x own differ runs phase h = ap (λ b. is_some (of_kind (kind_of phase) (cond b x own))) differ ∙ runs phase h

    fits_still : (phase : Phase) (it : List ℕ) (before after : List ℕ → Option Program) → Others before after → Runs (after name) → (not (is_name it name) || test phase) ≡ true → is_some (of_kind (kind_of phase) (before it)) ≡ true
        → is_some (of_kind (kind_of phase) (after it)) ≡ true
    fits_still phase it before after same runs ok h = by (is_name it name) refl
      where
        by : (b : Bool) → is_name it name ≡ b → is_some (of_kind (kind_of phase) (after it)) ≡ true
        by true e = ap (λ x. is_some (of_kind (kind_of phase) (after x))) (one_name it name e) ∙ runs phase (sym (ap (λ b. not b || test phase) e) ∙ ok)
        by false e = ap (λ p. is_some (of_kind (kind_of phase) p)) (same it (apart_too it name e)) ∙ h

    said_if : (r : Request) (it : List ℕ) (after : List ℕ → Option Program) (rs : List Request) (b : Bool) → is_name it name ≡ b → (is_name it name ≡ true → AreLegal program after rs) → (is_name it name ≡ false → AreLegal program after (r ∷ rs))
        → AreLegal program after (cond (not b) (r ∷ rs) rs)
    said_if r it after rs true e here there = here e
    said_if r it after rs false e here there = there e

    -- what was said of a name may be left out where all that binds it passes
    legal_without : (before after : List ℕ → Option Program) → Others before after → Runs (after name) → (rs : List Request) → list_all (passes name test) rs ≡ true → AreLegal program before rs → AreLegal program after (without name rs)
    legal_without before after same runs [] pass all = tt
    legal_without before after same runs (Install it image ∷ rs) pass all =
        said_if (Install it image) it after (without name rs) (is_name it name) refl
        (λ e. legal_without (λ x. cond (is_name it x) (Some (program image)) (before x)) after (others_said it (Some (program image)) before after e same) runs rs pass all.1)
        (λ e. (
          tt,
          legal_without (λ x. cond (is_name it x) (Some (program image)) (before x)) (λ x. cond (is_name it x) (Some (program image)) (after x)) (others_both it (Some (program image)) before after same)
              (runs_still it (Some (program image)) (after name) e runs) rs pass all.1,
        ))
    legal_without before after same runs (Remove it ∷ rs) pass all =
        said_if (Remove it) it after (without name rs) (is_name it name) refl
        (λ e. legal_without (λ x. cond (is_name it x) None (before x)) after (others_said it None before after e same) runs rs pass all.1)
        (λ e. (
          ap is_some (same it (apart_too it name e)) ∙ all.0,
          legal_without (λ x. cond (is_name it x) None (before x)) (λ x. cond (is_name it x) None (after x)) (others_both it None before after same) (runs_still it None (after name) e runs) rs pass all.1,
        ))
    legal_without before after same runs (Bind bucket phase it ∷ rs) pass all =
        let ok = both (not (is_name it name) || test phase) (list_all (passes name test) rs) pass in
        (fits_still phase it before after same runs ok.0 all.0, legal_without before after same runs rs ok.1 all.1)

-- ---- what each change of a list comes to

some_from : (p : Option Program) → p ≢ None → is_some p ≡ true
some_from None h = elim (h refl) [ ]
some_from (Some p) h = refl

cond_same : {A : Type 0} (b : Bool) (x : A) → cond b x x ≡ x
cond_same true x = refl
cond_same false x = refl

abbrev none : List ℕ → Option Program
none name = None

one_phase : (a b : Phase) → is_phase a b ≡ true → a ≡ b
one_phase PreCommit PreCommit h = refl
one_phase PreCommit Resolver h = cc
one_phase Resolver PreCommit h = cc
one_phase Resolver Resolver h = refl

one_kind : (a b : ImageKind) → is_kind a b ≡ true → a ≡ b
one_kind of.Plain of.Plain h = refl
one_kind of.Plain of.PreCommit h = cc
one_kind of.Plain of.Resolver h = cc
one_kind of.PreCommit of.Plain h = cc
one_kind of.PreCommit of.PreCommit h = refl
one_kind of.PreCommit of.Resolver h = cc
one_kind of.Resolver of.Plain h = cc
one_kind of.Resolver of.PreCommit h = cc
one_kind of.Resolver of.Resolver h = refl

phase_is_kind : (a b : Phase) → is_kind (kind_of a) (kind_of b) ≡ is_phase a b
phase_is_kind PreCommit PreCommit = refl
phase_is_kind PreCommit Resolver = refl
phase_is_kind Resolver PreCommit = refl
phase_is_kind Resolver Resolver = refl

fitting_as : (before after : List ℕ → Option Program) → ((name : List ℕ) → before name ≡ after name) → (bs : List Binding) → are_fitting before bs ≡ true → are_fitting after bs ≡ true
fitting_as before after same [] h = refl
fitting_as before after same ((kind, None) ∷ bs) h = fitting_as before after same bs h
fitting_as before after same ((kind, Some name) ∷ bs) h =
    let all = both (is_some (of_kind kind (before name))) (are_fitting before bs) h in
    ap (λ b. b && are_fitting after bs) (sym (ap (λ p. is_some (of_kind kind p)) (same name)) ∙ all.0) ∙ fitting_as before after same bs all.1

module _ (program : List ℕ → Program) where
  fold_more : {B : Type 0} (f : B → registry.Change → B) (b : B) (rs : List Request) (r : Request) → fold f b (changes_of program (rs ++ r ∷ [])) ≡ f (fold f b (changes_of program rs)) (change_of program r)
  fold_more f b [] r = refl
  fold_more f b (x ∷ rs) r = fold_more f (f b (change_of program x)) rs r

  -- what is said of a name alone, at names that may be it
  stays_at : (name other : List ℕ) (p : Option Program) (rs : List Request) → is_name name other ≡ true → fold (program_after other) p (changes_of program (without name rs)) ≡ p
  stays_at name other p rs e =
      stays program (program_after other) (λ r. not (names name r)) p (λ r h. subst (λ o. program_after o p (change_of program r) ≡ p) (one_name name other e) (own_program program name p r h)) rs

  -- ---- images on which nothing rests

  -- where another image comes next, or nothing that rests on what there is
  step_or : {A : Type 0} (b r : Bool) (f : Option Program → A) (x p q : Option Program) → (r ≡ true → f p ≡ f q) → (b || r) ≡ true → f (cond b x p) ≡ f (cond b x q)
  step_or true r f x p q rest h = refl
  step_or false r f x p q rest h = rest h

  step_not : {A : Type 0} (b r : Bool) (f : Option Program → A) (x p q : Option Program) → (r ≡ true → f p ≡ f q) → (not b && r) ≡ true → f (cond b x p) ≡ f (cond b x q)
  step_not true r f x p q rest h = absurd (sym h)
  step_not false r f x p q rest h = rest h

  rests_not : (b r : Bool) → (not b && r) ≡ true → r ≡ true
  rests_not true r h = absurd (sym h)
  rests_not false r h = h

  keeps_or : {A : Type 0} (b r : Bool) (x p q : A) → ((b || r) ≡ false → p ≡ q) → r ≡ false → cond b x p ≡ cond b x q
  keeps_or true r x p q h e = refl
  keeps_or false r x p q h e = h e

  keeps_not : {A : Type 0} (b r : Bool) (p q : A) → ((not b && r) ≡ false → p ≡ q) → r ≡ false → p ≡ q
  keeps_not true r p q h e = h refl
  keeps_not false r p q h e = h e

  module _ (name : List ℕ) where
    -- whatever a name had before
    renews_any : (rs : List Request) (p q : Option Program) → renews name rs ≡ true → fold (program_after name) p (changes_of program rs) ≡ fold (program_after name) q (changes_of program rs)
    renews_any [] p q h = absurd (sym h)
    renews_any (Install it image ∷ rs) p q h = step_or (is_name it name) (renews name rs) (λ o. fold (program_after name) o (changes_of program rs)) (Some (program image)) p q (λ e. renews_any rs p q e) h
    renews_any (Remove it ∷ rs) p q h = step_not (is_name it name) (renews name rs) (λ o. fold (program_after name) o (changes_of program rs)) None p q (λ e. renews_any rs p q e) h
    renews_any (Bind bucket phase it ∷ rs) p q h = renews_any rs p q (rests_not (is_name it name) (renews name rs) h)

    gives_up : (other it image : List ℕ) (rs : List Request) (p : Option Program) → is_name it name ≡ true → renews name rs ≡ true
        → fold (program_after other) p (changes_of program rs) ≡ fold (program_after other) (cond (is_name it other) (Some (program image)) p) (changes_of program rs)
    gives_up other it image rs p same new = by (is_name it other) refl
      where
        by : (b : Bool) → is_name it other ≡ b → fold (program_after other) p (changes_of program rs) ≡ fold (program_after other) (cond b (Some (program image)) p) (changes_of program rs)
        by true e =
            subst (λ (o : List ℕ). fold (program_after o) p (changes_of program rs) ≡ fold (program_after o) (Some (program image)) (changes_of program rs)) (sym (one_name it name same) ∙ one_name it other e)
            (renews_any rs p (Some (program image)) new)
        by false e = refl

    settled_step : (other it image : List ℕ) (rs : List Request) (p : Option Program) → ((o : Option Program) → fold (program_after other) o (changes_of program (settled name rs)) ≡ fold (program_after other) o (changes_of program rs)) → (b r : Bool)
        → is_name it name ≡ b → renews name rs ≡ r
        → fold (program_after other) p (changes_of program (cond (b && r) (settled name rs) (Install it image ∷ settled name rs))) ≡ fold (program_after other) (cond (is_name it other) (Some (program image)) p) (changes_of program rs)
    settled_step other it image rs p rest true true same new = rest p ∙ gives_up other it image rs p same new
    settled_step other it image rs p rest true false same new = rest (cond (is_name it other) (Some (program image)) p)
    settled_step other it image rs p rest false r same new = rest (cond (is_name it other) (Some (program image)) p)

    settled_program : (other : List ℕ) (rs : List Request) (p : Option Program) → fold (program_after other) p (changes_of program (settled name rs)) ≡ fold (program_after other) p (changes_of program rs)
    settled_program other [] p = refl
    settled_program other (Install it image ∷ rs) p = settled_step other it image rs p (λ o. settled_program other rs o) (is_name it name) (renews name rs) refl refl
    settled_program other (Remove it ∷ rs) p = settled_program other rs (cond (is_name it other) None p)
    settled_program other (Bind bucket phase it ∷ rs) p = settled_program other rs p

    settled_name_step : (bucket : List ℕ) (kind : ImageKind) (it image : List ℕ) (rs : List Request) (n : Option (List ℕ)) → fold (name_after bucket kind) n (changes_of program (settled name rs)) ≡ fold (name_after bucket kind) n (changes_of program rs) → (b : Bool)
        → fold (name_after bucket kind) n (changes_of program (cond b (settled name rs) (Install it image ∷ settled name rs))) ≡ fold (name_after bucket kind) n (changes_of program rs)
    settled_name_step bucket kind it image rs n rest true = rest
    settled_name_step bucket kind it image rs n rest false = rest

    settled_name : (bucket : List ℕ) (kind : ImageKind) (rs : List Request) (n : Option (List ℕ)) → fold (name_after bucket kind) n (changes_of program (settled name rs)) ≡ fold (name_after bucket kind) n (changes_of program rs)
    settled_name bucket kind [] n = refl
    settled_name bucket kind (Install it image ∷ rs) n = settled_name_step bucket kind it image rs n (settled_name bucket kind rs n) (is_name it name && renews name rs)
    settled_name bucket kind (Remove it ∷ rs) n = settled_name bucket kind rs n
    settled_name bucket kind (Bind other phase it ∷ rs) n = settled_name bucket kind rs (name_after bucket kind n (change_of program (Bind other phase it)))

    -- all names but one have the same program, and so has that one, unless it gets another next
    abbrev AllBut : (List ℕ → Option Program) → (List ℕ → Option Program) → Type 0
    AllBut before after = (other : List ℕ) → is_name name other ≡ false → after other ≡ before other

    drop_if : (after : List ℕ → Option Program) (it image : List ℕ) (rs : List Request) (b r : Bool) → (b ≡ true → r ≡ true → AreLegal program after (settled name rs)) → AreLegal program after (Install it image ∷ settled name rs)
        → AreLegal program after (cond (b && r) (settled name rs) (Install it image ∷ settled name rs))
    drop_if after it image rs true true gone here = gone refl refl
    drop_if after it image rs true false gone here = here
    drop_if after it image rs false r gone here = here

    same_at : (before after : List ℕ → Option Program) → AllBut before after → (it : List ℕ) (r : Bool) → ((not (is_name it name) && r) ≡ false → after name ≡ before name) → after it ≡ before it
    same_at before after others it r h = by (is_name it name) refl
      where
        by : (b : Bool) → is_name it name ≡ b → after it ≡ before it
        by true e = subst (λ (x : List ℕ). after x ≡ before x) (sym (one_name it name e)) (h (ap (λ b. not b && r) e))
        by false e = others it (apart_too it name e)

    settled_legal : (before after : List ℕ → Option Program) → AllBut before after → (rs : List Request) → (renews name rs ≡ false → after name ≡ before name) → AreLegal program before rs → AreLegal program after (settled name rs)
    settled_legal before after others [] h all = tt
    settled_legal before after others (Install it image ∷ rs) h all =
        drop_if after it image rs (is_name it name) (renews name rs)
        (λ same new. settled_legal (λ x. cond (is_name it x) (Some (program image)) (before x)) after (others_said program name never it (Some (program image)) before after same others) rs (λ e. absurd (sym new ∙ e)) all.1) (
          tt,
          settled_legal (λ x. cond (is_name it x) (Some (program image)) (before x)) (λ x. cond (is_name it x) (Some (program image)) (after x)) (others_both program name never it (Some (program image)) before after others) rs
              (keeps_or (is_name it name) (renews name rs) (Some (program image)) (after name) (before name) h) all.1,
        )
    settled_legal before after others (Remove it ∷ rs) h all = (
      ap is_some (same_at before after others it (renews name rs) h) ∙ all.0,
      settled_legal (λ x. cond (is_name it x) None (before x)) (λ x. cond (is_name it x) None (after x)) (others_both program name never it None before after others) rs
          (λ e. ap (cond (is_name it name) None) (keeps_not (is_name it name) (renews name rs) (after name) (before name) h e)) all.1,
    )
    settled_legal before after others (Bind bucket phase it ∷ rs) h all = (
      ap (λ p. is_some (of_kind (kind_of phase) p)) (same_at before after others it (renews name rs) h) ∙ all.0,
      settled_legal before after others rs (keeps_not (is_name it name) (renews name rs) (after name) (before name) h) all.1,
    )

    settled_stands : (made : List registry.Change) (rs : List Request) → Stands program made rs → Stands program made (settled name rs)
    settled_stands made rs stands = record {
      programs = λ other. settled_program other rs None ∙ stands.programs other;
      names = λ bucket kind. settled_name bucket kind rs None ∙ stands.names bucket kind;
      legal = settled_legal none none (λ other differ. refl) rs (λ e. refl) stands.legal;
    }

  -- ---- the image that a name has in the end

  some_if : (b : Bool) (image : List ℕ) (i : Option (List ℕ)) → cond b (Some (program image)) (option_map program i) ≡ option_map program (cond b (Some image) i)
  some_if true image i = refl
  some_if false image i = refl

  none_if : (b : Bool) (i : Option (List ℕ)) → cond b None (option_map program i) ≡ option_map program (cond b None i)
  none_if true i = refl
  none_if false i = refl

  image_program : (name : List ℕ) (rs : List Request) (i : Option (List ℕ)) → fold (program_after name) (option_map program i) (changes_of program rs) ≡ option_map program (fold (image_after name) i rs)
  image_program name [] i = refl
  image_program name (Install it image ∷ rs) i = ap (λ o. fold (program_after name) o (changes_of program rs)) (some_if (is_name it name) image i) ∙ image_program name rs (cond (is_name it name) (Some image) i)
  image_program name (Remove it ∷ rs) i = ap (λ o. fold (program_after name) o (changes_of program rs)) (none_if (is_name it name) i) ∙ image_program name rs (cond (is_name it name) None i)
  image_program name (Bind bucket phase it ∷ rs) i = image_program name rs i

  module _ (made : List registry.Change) (rs : List Request) (stands : Stands program made rs) where
    program_made : (name : List ℕ) (change : registry.Change) → program_at (made ++ change ∷ []) name ≡ program_after name (program_at made name) change
    program_made name change = fold-append (program_after name) None made (change ∷ [])

    name_made : (bucket : List ℕ) (kind : ImageKind) (change : registry.Change) → bound_at (made ++ change ∷ []) bucket kind ≡ name_after bucket kind (bound_at made bucket kind) change
    name_made bucket kind change = fold-append (name_after bucket kind) None made (change ∷ [])

    program_left : (name other : List ℕ) → is_name name other ≡ false → program_at (changes_of program (without name rs)) other ≡ program_at made other
    program_left name other e = idle program (program_after other) (λ r. not (names name r)) (others_program program name other e) None rs ∙ stands.programs other

    names_left : (name bucket : List ℕ) (kind : ImageKind) → bound_at (changes_of program (without name rs)) bucket kind ≡ bound_at made bucket kind
    names_left name bucket kind = idle program (name_after bucket kind) (λ r. not (names name r)) (names_apart program name bucket kind) None rs ∙ stands.names bucket kind

    -- an image that stands first
    first_stands : TellsPhases program → (name image : List ℕ) → list_all (passes name (is_for image)) rs ≡ true → Stands program (made ++ registry.Install name (program image) ∷ []) (Install name image ∷ without name rs)
    first_stands tells name image pass = record { programs = programs; names = λ bucket kind. names_left name bucket kind ∙ sym (name_made bucket kind (registry.Install name (program image))); legal = (tt, legal) }
      where
        p : Option Program
        p = Some (program image)

        by : (other : List ℕ) (b : Bool) → is_name name other ≡ b → fold (program_after other) (cond b p None) (changes_of program (without name rs)) ≡ cond b p (program_at made other)
        by other true e = stays_at name other p rs e
        by other false e = program_left name other e

        programs : (other : List ℕ) → program_at (changes_of program (Install name image ∷ without name rs)) other ≡ program_at (made ++ registry.Install name (program image) ∷ []) other
        programs other = by other (is_name name other) refl ∙ sym (program_made other (registry.Install name (program image)))

        runs : (phase : Phase) → is_for image phase ≡ true → is_some (of_kind (kind_of phase) (cond (is_name name name) p None)) ≡ true
        runs phase h = ap (λ b. is_some (of_kind (kind_of phase) (cond b p None))) (own_name name) ∙ ap (λ b. is_some (cond b p None)) (tells image phase ∙ h)

        legal : AreLegal program (λ other. cond (is_name name other) p None) (without name rs)
        legal = legal_without program name (is_for image) none (λ other. cond (is_name name other) p None) (λ other differ. ap (λ b. cond b p None) differ) runs rs pass stands.legal

    -- an image that stands last
    last_stands : (name image : List ℕ) → Stands program (made ++ registry.Install name (program image) ∷ []) (untaken name rs ++ Install name image ∷ [])
    last_stands name image = record { programs = programs; names = bound_names; legal = legal_more program none (untaken name rs) (Install name image) (legal_untaken program name none none (λ other q e. e) rs stands.legal) tt }
      where
        p : Option Program
        p = Some (program image)

        by : (other : List ℕ) (b : Bool) → is_name name other ≡ b → cond b p (program_at (changes_of program (untaken name rs)) other) ≡ cond b p (program_at made other)
        by other true e = refl
        by other false e = idle program (program_after other) (λ r. not (takes name r)) (takes_others program name other e) None rs ∙ stands.programs other

        programs : (other : List ℕ) → program_at (changes_of program (untaken name rs ++ Install name image ∷ [])) other ≡ program_at (made ++ registry.Install name (program image) ∷ []) other
        programs other = fold_more (program_after other) None (untaken name rs) (Install name image) ∙ by other (is_name name other) refl ∙ sym (program_made other (registry.Install name (program image)))

        bound_names : (bucket : List ℕ) (kind : ImageKind) → bound_at (changes_of program (untaken name rs ++ Install name image ∷ [])) bucket kind ≡ bound_at (made ++ registry.Install name (program image) ∷ []) bucket kind
        bound_names bucket kind =
            fold_more (name_after bucket kind) None (untaken name rs) (Install name image) ∙ idle program (name_after bucket kind) (λ r. not (takes name r)) (takes_apart program name bucket kind) None rs ∙ stands.names bucket kind
            ∙ sym (name_made bucket kind (registry.Install name (program image)))

    -- an image of a name that nothing binds
    free_stands : (name image : List ℕ) → list_all (passes name never) rs ≡ true → Stands program (made ++ registry.Install name (program image) ∷ []) (without name rs ++ Install name image ∷ [])
    free_stands name image pass = record { programs = programs; names = bound_names; legal = legal_more program none (without name rs) (Install name image) legal tt }
      where
        p : Option Program
        p = Some (program image)

        by : (other : List ℕ) (b : Bool) → is_name name other ≡ b → cond b p (program_at (changes_of program (without name rs)) other) ≡ cond b p (program_at made other)
        by other true e = refl
        by other false e = program_left name other e

        programs : (other : List ℕ) → program_at (changes_of program (without name rs ++ Install name image ∷ [])) other ≡ program_at (made ++ registry.Install name (program image) ∷ []) other
        programs other = fold_more (program_after other) None (without name rs) (Install name image) ∙ by other (is_name name other) refl ∙ sym (program_made other (registry.Install name (program image)))

        bound_names : (bucket : List ℕ) (kind : ImageKind) → bound_at (changes_of program (without name rs ++ Install name image ∷ [])) bucket kind ≡ bound_at (made ++ registry.Install name (program image) ∷ []) bucket kind
        bound_names bucket kind = fold_more (name_after bucket kind) None (without name rs) (Install name image) ∙ names_left name bucket kind ∙ sym (name_made bucket kind (registry.Install name (program image)))

        legal : AreLegal program none (without name rs)
        legal = legal_without program name never none none (λ other differ. refl) (λ phase h. absurd (sym h)) rs pass stands.legal

    -- a name that nothing binds, of which its image is left
    freed_stands : (name : List ℕ) → Stands program made (freed name rs)
    freed_stands name = by (list_all (passes name never) rs) refl (fold (image_after name) None rs) refl
      where
        own : (i : Option (List ℕ)) → fold (image_after name) None rs ≡ i → (other : List ℕ) → is_name name other ≡ true → option_map program i ≡ program_at made other
        own i is other e =
            sym (ap (option_map program) is) ∙ sym (image_program name rs None) ∙ ap (λ (o : List ℕ). fold (program_after o) None (changes_of program rs)) (one_name name other e) ∙ stands.programs other

        legal : list_all (passes name never) rs ≡ true → AreLegal program none (without name rs)
        legal pass = legal_without program name never none none (λ other differ. refl) (λ phase h. absurd (sym h)) rs pass stands.legal

        gone : fold (image_after name) None rs ≡ None → (other : List ℕ) (b : Bool) → is_name name other ≡ b → program_at (changes_of program (without name rs)) other ≡ program_at made other
        gone is other true e = stays_at name other None rs e ∙ own None is other e
        gone is other false e = program_left name other e

        held : (image : List ℕ) → fold (image_after name) None rs ≡ Some image → (other : List ℕ) (b : Bool) → is_name name other ≡ b → cond b (Some (program image)) (program_at (changes_of program (without name rs)) other) ≡ program_at made other
        held image is other true e = own (Some image) is other e
        held image is other false e = program_left name other e

        by : (b : Bool) → list_all (passes name never) rs ≡ b → (i : Option (List ℕ)) → fold (image_after name) None rs ≡ i → Stands program made (cond b (with_image name i (without name rs)) rs)
        by false pass i is = stands
        by true pass None is = record { programs = λ other. gone is other (is_name name other) refl; names = λ bucket kind. names_left name bucket kind; legal = legal pass }
        by true pass (Some image) is = record {
          programs = λ other. fold_more (program_after other) None (without name rs) (Install name image) ∙ held image is other (is_name name other) refl;
          names = λ bucket kind. fold_more (name_after bucket kind) None (without name rs) (Install name image) ∙ names_left name bucket kind;
          legal = legal_more program none (without name rs) (Install name image) (legal pass) tt;
        }

    freed_if_stands : (name : Option (List ℕ)) → Stands program made (freed_if name rs)
    freed_if_stands None = stands
    freed_if_stands (Some name) = freed_stands name

    pub installed_stands : TellsPhases program → (name image : List ℕ) → Stands program (made ++ registry.Install name (program image) ∷ []) (installed name image rs)
    installed_stands tells name image = by (list_all (passes name never) rs) refl (list_all (passes name (is_for image)) rs) refl
      where
        by : (b : Bool) → list_all (passes name never) rs ≡ b → (c : Bool) → list_all (passes name (is_for image)) rs ≡ c
            → Stands program (made ++ registry.Install name (program image) ∷ []) (cond b (without name rs ++ Install name image ∷ []) (cond c (Install name image ∷ without name rs) (settled name (untaken name rs ++ Install name image ∷ []))))
        by true free c pass = free_stands name image free
        by false bound true pass = first_stands tells name image pass
        by false bound false pass = settled_stands name (made ++ registry.Install name (program image) ∷ []) (untaken name rs ++ Install name image ∷ []) (last_stands name image)

    -- a name that nothing binds
    gone_stands : (name : List ℕ) → list_all (passes name never) rs ≡ true → Stands program (made ++ registry.Remove name ∷ []) (without name rs)
    gone_stands name pass = record {
      programs = λ other. by other (is_name name other) refl ∙ sym (program_made other (registry.Remove name));
      names = λ bucket kind. names_left name bucket kind ∙ sym (name_made bucket kind (registry.Remove name));
      legal = legal_without program name never none none (λ other differ. refl) (λ phase h. absurd (sym h)) rs pass stands.legal;
    }
      where
        by : (other : List ℕ) (b : Bool) → is_name name other ≡ b → program_at (changes_of program (without name rs)) other ≡ cond b None (program_at made other)
        by other true e = stays_at name other None rs e
        by other false e = program_left name other e

    -- a name that is bound
    kept_stands : (name : List ℕ) → program_at made name ≢ None → Stands program (made ++ registry.Remove name ∷ []) (rs ++ Remove name ∷ [])
    kept_stands name there = record {
      programs = λ other. fold_more (program_after other) None rs (Remove name) ∙ ap (λ q. program_after other q (registry.Remove name)) (stands.programs other) ∙ sym (program_made other (registry.Remove name));
      names = λ bucket kind. fold_more (name_after bucket kind) None rs (Remove name) ∙ stands.names bucket kind ∙ sym (name_made bucket kind (registry.Remove name));
      legal = legal_more program none rs (Remove name) stands.legal (ap is_some (stands.programs name) ∙ some_from (program_at made name) there);
    }

    pub removed_stands : (name : List ℕ) → program_at made name ≢ None → Stands program (made ++ registry.Remove name ∷ []) (removed name rs)
    removed_stands name there = by (list_all (passes name never) rs) refl
      where
        by : (b : Bool) → list_all (passes name never) rs ≡ b → Stands program (made ++ registry.Remove name ∷ []) (cond b (without name rs) (rs ++ Remove name ∷ []))
        by true pass = gone_stands name pass
        by false other = kept_stands name there

  -- ---- what is bound

  module _ (bucket : List ℕ) (phase : Phase) (rs : List Request) where
    replaced_program : (change : Change) (name : List ℕ) → program_at (changes_of program (replaced bucket phase change rs)) name ≡ program_at (changes_of program rs) name
    replaced_program Kept name = refl
    replaced_program Unbound name = idle program (program_after name) (λ r. not (binds bucket phase r)) (binds_apart program bucket name phase) None rs
    replaced_program (Bound to) name = fold_more (program_after name) None (unbound bucket phase rs) (Bind bucket phase to) ∙ idle program (program_after name) (λ r. not (binds bucket phase r)) (binds_apart program bucket name phase) None rs

    replaced_legal : (change : Change) → AreLegal program none rs → are_fitting (program_at (changes_of program rs)) (binding_of (kind_of phase) change) ≡ true → AreLegal program none (replaced bucket phase change rs)
    replaced_legal Kept all fit = all
    replaced_legal Unbound all fit = legal_unbound program bucket phase none rs all
    replaced_legal (Bound to) all fit =
        legal_more program none (unbound bucket phase rs) (Bind bucket phase to) (legal_unbound program bucket phase none rs all)
        (ap (λ p. is_some (of_kind (kind_of phase) p)) (replaced_program Unbound to) ∙ (both (is_some (of_kind (kind_of phase) (program_at (changes_of program rs) to))) true fit).0)

    module _ (at : List ℕ) (kind : ImageKind) where
      -- a bucket and a kind that are others
      other_bucket : is_name bucket at ≡ false → (r : Request) (n : Option (List ℕ)) → not (binds bucket phase r) ≡ false → name_after at kind n (change_of program r) ≡ n
      other_bucket differ (Install it image) n h = refl
      other_bucket differ (Remove it) n h = refl
      other_bucket differ (Bind it in_phase to) n h =
          let same = both (is_name it bucket) (is_phase in_phase phase) (not_false (is_name it bucket && is_phase in_phase phase) h) in
          ap (λ b. cond b (cond (is_kind (kind_of in_phase) kind) (Some to) n) n) (apart it bucket at same.0 differ)

      other_kind : is_kind (kind_of phase) kind ≡ false → (r : Request) (n : Option (List ℕ)) → not (binds bucket phase r) ≡ false → name_after at kind n (change_of program r) ≡ n
      other_kind differ (Install it image) n h = refl
      other_kind differ (Remove it) n h = refl
      other_kind differ (Bind it in_phase to) n h =
          let same = both (is_name it bucket) (is_phase in_phase phase) (not_false (is_name it bucket && is_phase in_phase phase) h) in
          ap (λ b. cond (is_name it at) (cond b (Some to) n) n) (ap (λ x. is_kind (kind_of x) kind) (one_phase in_phase phase same.1) ∙ differ) ∙ cond_same (is_name it at) n

      -- what is left binds nothing there
      left_apart : is_name bucket at ≡ true → is_kind (kind_of phase) kind ≡ true → (r : Request) → not (binds bucket phase r) ≡ true → name_after at kind None (change_of program r) ≡ None
      left_apart here is (Install it image) h = refl
      left_apart here is (Remove it) h = refl
      left_apart here is (Bind it in_phase to) h = by (is_name it at) refl
        where
          by : (b : Bool) → is_name it at ≡ b → cond b (cond (is_kind (kind_of in_phase) kind) (Some to) None) None ≡ None
          by false e = refl
          by true e =
              ap (λ b. cond b (Some to) None) (
              ap (is_kind (kind_of in_phase)) (sym (one_kind (kind_of phase) kind is)) ∙ phase_is_kind in_phase phase ∙ sym (ap (λ b. b && is_phase in_phase phase) (ap (is_name it) (one_name bucket at here) ∙ e))
              ∙ not_true (is_name it bucket && is_phase in_phase phase) h
              )

      unbound_name : bound_at (changes_of program (unbound bucket phase rs)) at kind
          ≡ cond (is_name bucket at) (cond (is_kind (kind_of phase) kind) None (bound_at (changes_of program rs) at kind)) (bound_at (changes_of program rs) at kind)
      unbound_name = by (is_name bucket at) refl (is_kind (kind_of phase) kind) refl
        where
          by : (s : Bool) → is_name bucket at ≡ s → (t : Bool) → is_kind (kind_of phase) kind ≡ t
              → bound_at (changes_of program (unbound bucket phase rs)) at kind ≡ cond s (cond t None (bound_at (changes_of program rs) at kind)) (bound_at (changes_of program rs) at kind)
          by false e t f = idle program (name_after at kind) (λ r. not (binds bucket phase r)) (other_bucket e) None rs
          by true e false f = idle program (name_after at kind) (λ r. not (binds bucket phase r)) (other_kind f) None rs
          by true e true f = stays program (name_after at kind) (λ r. not (binds bucket phase r)) None (left_apart e f) rs

      replaced_name : (change : Change) → bound_at (changes_of program (replaced bucket phase change rs)) at kind
          ≡ cond (is_name bucket at) (fold (binding_after kind) (bound_at (changes_of program rs) at kind) (binding_of (kind_of phase) change)) (bound_at (changes_of program rs) at kind)
      replaced_name Kept = sym (cond_same (is_name bucket at) (bound_at (changes_of program rs) at kind))
      replaced_name Unbound = unbound_name
      replaced_name (Bound to) =
          fold_more (name_after at kind) None (unbound bucket phase rs) (Bind bucket phase to) ∙ ap (λ n. cond (is_name bucket at) (cond (is_kind (kind_of phase) kind) (Some to) n) n) unbound_name
          ∙ by (is_name bucket at) (is_kind (kind_of phase) kind) (bound_at (changes_of program rs) at kind)
        where
          by : (s t : Bool) (n : Option (List ℕ)) → cond s (cond t (Some to) (cond s (cond t None n) n)) (cond s (cond t None n) n) ≡ cond s (cond t (Some to) n) n
          by true true n = refl
          by true false n = refl
          by false t n = refl

  -- what is bound in a phase alone changes
  replaced_stands : (made : List registry.Change) (rs : List Request) → Stands program made rs → (bucket : List ℕ) (phase : Phase) (change : Change) → are_fitting (program_at made) (binding_of (kind_of phase) change) ≡ true
      → Stands program (made ++ registry.Bind bucket (binding_of (kind_of phase) change) ∷ []) (replaced bucket phase change rs)
  replaced_stands made rs stands bucket phase change fit = record {
    programs = λ name. replaced_program bucket phase rs change name ∙ stands.programs name ∙ sym (program_made made rs stands name (registry.Bind bucket (binding_of (kind_of phase) change)));
    names = λ at kind.
        replaced_name bucket phase rs at kind change ∙ ap (λ n. cond (is_name bucket at) (fold (binding_after kind) n (binding_of (kind_of phase) change)) n) (stands.names at kind)
        ∙ sym (name_made made rs stands at kind (registry.Bind bucket (binding_of (kind_of phase) change)));
    legal = replaced_legal bucket phase rs change stands.legal (fitting_as (program_at made) (program_at (changes_of program rs)) (λ name. sym (stands.programs name)) (binding_of (kind_of phase) change) fit);
  }

  rebound_stands : (made : List registry.Change) (rs : List Request) → Stands program made rs → (bucket : List ℕ) (phase : Phase) (change : Change) → are_fitting (program_at made) (binding_of (kind_of phase) change) ≡ true
      → Stands program (made ++ registry.Bind bucket (binding_of (kind_of phase) change) ∷ []) (rebound bucket phase change rs)
  rebound_stands made rs stands bucket phase Kept fit = replaced_stands made rs stands bucket phase Kept fit
  rebound_stands made rs stands bucket phase Unbound fit =
      freed_if_stands (made ++ registry.Bind bucket (binding_of (kind_of phase) Unbound) ∷ []) (replaced bucket phase Unbound rs) (replaced_stands made rs stands bucket phase Unbound fit) (fold (bound_after bucket phase) None rs)
  rebound_stands made rs stands bucket phase (Bound to) fit =
      freed_if_stands (made ++ registry.Bind bucket (binding_of (kind_of phase) (Bound to)) ∷ []) (replaced bucket phase (Bound to) rs) (replaced_stands made rs stands bucket phase (Bound to) fit) (fold (bound_after bucket phase) None rs)

  pub bound_stands : (made : List registry.Change) (rs : List Request) → Stands program made rs → (bucket : List ℕ) (precommit resolver : Change) → are_fitting (program_at made) (bindings_of precommit resolver) ≡ true
      → Stands program (made ++ registry.Bind bucket (bindings_of precommit resolver) ∷ []) (bound bucket precommit resolver rs)
  bound_stands made rs stands bucket precommit resolver fit = record { programs = programs; names = bound_names; legal = both_stand.legal }
    where
      first : registry.Change
      first = registry.Bind bucket (binding_of of.PreCommit precommit)

      second : registry.Change
      second = registry.Bind bucket (binding_of of.Resolver resolver)

      fits : (are_fitting (program_at made) (binding_of of.PreCommit precommit) ≡ true) × (are_fitting (program_at made) (binding_of of.Resolver resolver) ≡ true)
      fits =
          both (are_fitting (program_at made) (binding_of of.PreCommit precommit)) (are_fitting (program_at made) (binding_of of.Resolver resolver))
          (sym (list_all-append (is_fitting (program_at made)) (binding_of of.PreCommit precommit) (binding_of of.Resolver resolver)) ∙ fit)

      first_stands_so : Stands program (made ++ first ∷ []) (rebound bucket PreCommit precommit rs)
      first_stands_so = rebound_stands made rs stands bucket PreCommit precommit fits.0

      both_stand : Stands program ((made ++ first ∷ []) ++ second ∷ []) (bound bucket precommit resolver rs)
      both_stand =
          rebound_stands (made ++ first ∷ []) (rebound bucket PreCommit precommit rs) first_stands_so bucket Resolver resolver
          (fitting_as (program_at made) (program_at (made ++ first ∷ [])) (λ name. sym (program_made made rs stands name first)) (binding_of of.Resolver resolver) fits.1)

      programs : (name : List ℕ) → program_at (changes_of program (bound bucket precommit resolver rs)) name ≡ program_at (made ++ registry.Bind bucket (bindings_of precommit resolver) ∷ []) name
      programs name =
          both_stand.programs name ∙ program_made (made ++ first ∷ []) (rebound bucket PreCommit precommit rs) first_stands_so name second ∙ program_made made rs stands name first
          ∙ sym (program_made made rs stands name (registry.Bind bucket (bindings_of precommit resolver)))

      by : (s : Bool) (kind : ImageKind) (n : Option (List ℕ)) → cond s (fold (binding_after kind) (cond s (fold (binding_after kind) n (binding_of of.PreCommit precommit)) n) (binding_of of.Resolver resolver)) (cond s (fold (binding_after kind) n (binding_of of.PreCommit precommit)) n)
          ≡ cond s (fold (binding_after kind) n (bindings_of precommit resolver)) n
      by true kind n = sym (fold-append (binding_after kind) n (binding_of of.PreCommit precommit) (binding_of of.Resolver resolver))
      by false kind n = refl

      bound_names : (at : List ℕ) (kind : ImageKind) → bound_at (changes_of program (bound bucket precommit resolver rs)) at kind ≡ bound_at (made ++ registry.Bind bucket (bindings_of precommit resolver) ∷ []) at kind
      bound_names at kind =
          both_stand.names at kind ∙ name_made (made ++ first ∷ []) (rebound bucket PreCommit precommit rs) first_stands_so at kind second
          ∙ ap (λ n. cond (is_name bucket at) (fold (binding_after kind) n (binding_of of.Resolver resolver)) n) (name_made made rs stands at kind first)
          ∙ by (is_name bucket at) kind (bound_at made at kind) ∙ sym (name_made made rs stands at kind (registry.Bind bucket (bindings_of precommit resolver)))
