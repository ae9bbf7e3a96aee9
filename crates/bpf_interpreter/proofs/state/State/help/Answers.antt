use Rattle.std.proofs.Common.{false, true, ◌≡◌, refl, sym, subst}
use Rattle.bpf_helpers.specs.Answers.{Fits, HelperAnswers}
use Rattle.bpf_helpers.specs.Parts.{given}
use Rattle.bpf_interpreter.specs.Stepped.{state_of}
use Rattle.bpf_interpreter.proofs.Fitting.{unknown_refused, unset_refused, helper_refused, helper_answered, gives_once, placed}
use Rattle.bpf_interpreter.proofs.state.State.help.Goals as goal

wrong : true ≡ false → ⊥
wrong e = cc

pub returns-in_default : goal.returns-in_default
returns-in_default g c =
    record { called = unknown_refused c.args.table.now.listed c.args.number (state_of c.args.self.now) c.requires.copy c.requires.fill c.requires.same c.in_default.ensures.none }

pub returns-then-lacks : goal.returns-then-lacks
returns-then-lacks g c =
    record { called = unset_refused c.args.table.now.listed c.args.number (state_of c.args.self.now) c.requires.copy c.requires.fill c.requires.same c.in-Some.helper.now.sig c.in-Some.ensures.some.1 (c.if-lacks.ensures.0 refl) }

pub returns-then-not-fits : goal.returns-then-not-fits
returns-then-not-fits g c =
    let s = state_of c.args.self.now in
    let sig = c.in-Some.helper.now.sig in
    let one = given c.in_ok-call.call in
    let gives = c.in_ok-call.ensures.ok in
    record {
      called = helper_refused c.args.table.now.listed c.args.number s c.requires.copy c.requires.fill c.requires.same sig c.in-Some.ensures.some.1
          (λ u. wrong (sym (c.if-lacks.ensures.1 u)))
          (λ other may fits. wrong (sym (c.if-not-fits.ensures.1 (subst (Fits sig.args) (gives_once s sig.args (placed c.args.self.now.windows) other one may gives) fits))));
    }

pub returns : goal.returns
returns g c =
    let s = state_of c.args.self.now in
    let sig = c.in-Some.helper.now.sig in
    record {
      called = helper_answered c.args.table.now.listed c.args.number s c.requires.copy c.requires.fill c.requires.same sig c.in-Some.ensures.some.1
          (λ u. wrong (sym (c.if-lacks.ensures.1 u)))
          (given c.in_ok-call.call) c.call.result c.in_ok-call.ensures.ok (c.if-not-fits.ensures.0 refl)
          (subst (λ n. HelperAnswers n sig.lo sig.hi (given c.in_ok-call.call) c.call.result) c.in-Some.ensures.some.0 c.call.ensures.answers);
    }
