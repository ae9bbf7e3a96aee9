-- What is shown to a hook is an input.
use Rattle.std.proofs.Common.{◌≡◌, ℕ, ◌+◌, ◌-◌, ◌≤◌, List, ◌++◌, length, drop, replicate, sym, ap, ◌∙◌, subst, arith, length-append, Result, Ok, Err, IfOk, OnOk, Option}
use Rattle.std.proofs.lemmas.List.{length-replicate, drop_at}
use Rattle.std.specs.Prelude.{MatchResult}
use Rattle.bpf_semantics.specs.Step.{AreBytes, IsInput, instruction_count}
use Rattle.key_state.specs.declared.content.Content.{Content}
use Rattle.key_state.specs.declared.content.Sibling.{Sibling}
use Rattle.bpf_image.specs.declared.image.ImageKind.{ImageKind}
use Rattle.hook_abi.specs.declared.answer.BadAnswer.{BadAnswer}
use Rattle.hook_abi.specs.Input.{contents_shown, used_by, window_of}
use Rattle.hook_abi.specs.Verdicts.{Meaning, meaning_of, verdict_of}
use Rattle.bpf_semantics.specs.State.{Calls}
use Rattle.bpf_verifier.specs.Program.{Program}
use Rattle.bpf_interpreter.specs.Running.{EndsWith}
use Rattle.hook_abi.specs.declared.answer.Verdict.{Verdict}
use Rattle.bpf_helpers.specs.declared.sig.Entry.{Entry}
use Rattle.bpf_helpers.specs.Entries.{AgreesWith}
use Rattle.hook_run.specs.declared.deciding.RunFault.{RunFault}
use Rattle.hook_run.specs.declared.deciding.RunFault.TheVariants.{Disagrees, TooLarge, Bad, NoMemory}
use Rattle.hook_run.specs.Rooms.{Lengths, grown}
use Rattle.hook_run.specs.Lending.{AreLeft}
use Rattle.hook_run.specs.Decisions.{HasRoom, IsDecisionBy, IsRunBy, told_of}

-- bytes and zeros behind them, where the bytes are as many as are said to be used
zeros_behind : (len used : ℕ) (front window : List ℕ) → length window ≡ len → used ≤ len → window ≡ front ++ replicate (len - used) 0 → drop used window ≡ replicate (len - used) 0
zeros_behind len used front window long fits is =
    let whole : length front + (len - used) ≡ len = sym (ap length is ∙ length-append front (replicate (len - used) 0) ∙ ap (λ n. length front + n) (length-replicate (len - used) 0)) ∙ long in
    let short : length front ≡ used = omega arith in
    ap (drop used) is ∙ drop_at front (replicate (len - used) 0) used short

pub shown_input : (len used : ℕ) (front window : List ℕ) → AreBytes window → length window ≡ len → used ≤ len → window ≡ front ++ replicate (len - used) 0 → IsInput len window used
shown_input len used front window small long fits is = record {
  whole = long;
  within = fits;
  bytes = small;
  zeros = zeros_behind len used front window long fits is;
}

pub ok_with : {A E : Type 0} (r : Result A E) {P : A → Type 0} {Q S : Type 0} {R : A → Type 0} → IfOk r P → OnOk r Q → OnOk r S → ((a : A) → P a → Q → S → R a) → IfOk r R
ok_with (Ok a) p q s f = f a p q s
ok_with (Err e) p q s f = tt

-- a run on what was shown
pub ran : (calls : Calls) (p : Program) (new : Option Content) (siblings : List Sibling) (len used steps answer : ℕ) (kind : ImageKind) (window output : List ℕ)
    → kind ≡ p.kind → len ≡ p.in_len → used ≡ used_by (contents_shown new siblings) → window ≡ window_of len kind (contents_shown new siblings)
    → EndsWith calls p.code window used p.out_len steps answer output → steps ≤ instruction_count p.code → IsRunBy calls p new siblings answer output
ran calls p new siblings len used steps answer kind window output is_kind is_len is_used shown ends short =
    let ss = contents_shown new siblings in
    let full : window ≡ window_of p.in_len p.kind ss = shown ∙ ap (λ n. window_of n kind ss) is_len ∙ ap (λ k. window_of p.in_len k ss) is_kind in
    record {
      steps = steps;
      short = short;
      ends = subst (λ w. EndsWith calls p.code w (used_by ss) p.out_len steps answer output) full (subst (λ u. EndsWith calls p.code window u p.out_len steps answer output) is_used ends);
    }

module _ (calls : Calls) (p : Program) (new : Option Content) (siblings : List Sibling) (listed : List Entry) where
  -- what the table of verdicts says of a run is what is decided
  pub decided : (answer : ℕ) (output : List ℕ) (told : Result Meaning BadAnswer) → AgreesWith listed p.sigs → HasRoom p new siblings → IsRunBy calls p new siblings answer output
      → verdict_of p.kind answer (length siblings) output ≡ told → IsDecisionBy calls p new siblings listed (told_of told)
  decided answer output (Ok verdict) agrees room run says = (agrees, (room, (answer, output, run, says)))
  decided answer output (Err bad) agrees room run says = (agrees, (room, (answer, output, run, says)))

  pub as_told : (told : Result Meaning RunFault) (result : Result Verdict RunFault) → IsDecisionBy calls p new siblings listed told → MatchResult result (λ verdict. told ≡ Ok (meaning_of verdict)) (λ fault. told ≡ Err fault)
      → MatchResult result (λ verdict. IsDecisionBy calls p new siblings listed (Ok (meaning_of verdict))) (λ fault. IsDecisionBy calls p new siblings listed (Err fault))
  as_told told (Ok verdict) is says = subst (IsDecisionBy calls p new siblings listed) says is
  as_told told (Err fault) is says = subst (IsDecisionBy calls p new siblings listed) says is

-- where a run came to a verdict, or to an answer that means nothing, the room's windows are those that it was grown to
pub left_grown : (hook : Program) (old new : Lengths) (told : Result Meaning BadAnswer) (result : Result Verdict RunFault) → MatchResult result (λ verdict. told_of told ≡ Ok (meaning_of verdict)) (λ fault. told_of told ≡ Err fault) → new ≡ grown old hook → AreLeft hook result old new
left_grown hook old new told (Ok verdict) says is = is
left_grown hook old new told (Err TooLarge) says is = is
left_grown hook old new told (Err (Bad bad)) says is = is
left_grown hook old new (Ok verdict) (Err Disagrees) says is = cc
left_grown hook old new (Err bad) (Err Disagrees) says is = cc
left_grown hook old new (Ok verdict) (Err NoMemory) says is = cc
left_grown hook old new (Err bad) (Err NoMemory) says is = cc
