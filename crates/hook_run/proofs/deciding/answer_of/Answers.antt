use Rattle.std.proofs.Common.{◌≡◌, ℕ, ◌++◌, ◌∙◌, ap, arith, drop, length, length-take, subst, sym, take}
use Rattle.std.specs.Option.{option_copied}
use Rattle.std.proofs.Math.Seq.{take-append_seam}
use Rattle.bpf_helpers.specs.Calls.{calls_of}
use Rattle.bpf_helpers.specs.Closures.{calls_told}
use Rattle.bpf_helpers.specs.contracts.table.TableClosures.TheImpl.{ghosts}
use Rattle.hook_run.specs.Decisions.{IsRunBy}
use Rattle.hook_run.proofs.Shown.{ran}
use Rattle.hook_run.proofs.deciding.answer_of.Goals as goal

pub returns-clause-ran : goal.returns-clause-ran
returns-clause-ran g c =
    let hook = c.args.hook.now in
    let new = option_copied c.args.new in
    let siblings = c.args.siblings.now in
    let image = c.image-image.result.now in
    let in_len : image.in_len ≡ hook.in_len = ap (λ q. q.in_len) c.image-image.ensures.same in
    let out_len : image.out_len ≡ hook.out_len = ap (λ q. q.out_len) c.image-image.ensures.same in
    let whole : length (take image.in_len c.args.input.now) ≡ hook.in_len = omega (arith, length-take {A = ℕ}) in
    let long : length c.run.new.output ≡ hook.out_len = omega (arith, length-take {A = ℕ}) in
    let front : take hook.out_len (c.run.new.output ++ drop image.out_len c.args.output.now) ≡ c.run.new.output = ap (λ n. take n (c.run.new.output ++ drop image.out_len c.args.output.now)) (sym long) ∙ take-append_seam c.run.new.output (drop image.out_len c.args.output.now) in
    let shown = c.in-Ok.ensures in
    let calls = calls_of hook.sigs in (
      (shown.room.0, omega (arith, shown.room.1)),
      subst (IsRunBy calls hook new siblings c.run.result.answer) (sym front)
          (ran calls hook new siblings (length (take image.in_len c.args.input.now)) c.in-Ok.used c.run.result.steps c.run.result.answer image.kind c.show.new.window c.run.new.output
          (ap (λ q. q.kind) c.image-image.ensures.same) whole shown.used shown.shown c.run.ensures.run c.run.ensures.short),
    )

pub returns-clause-told : goal.returns-clause-told
returns-clause-told g c =
    let hook = c.args.hook.now in
    let new = option_copied c.args.new in
    let siblings = c.args.siblings.now in
    let image = c.image-image.result.now in
    let in_len : image.in_len ≡ hook.in_len = ap (λ q. q.in_len) c.image-image.ensures.same in
    let out_len : image.out_len ≡ hook.out_len = ap (λ q. q.out_len) c.image-image.ensures.same in
    let whole : length (take image.in_len c.args.input.now) ≡ hook.in_len = omega (arith, length-take {A = ℕ}) in
    let long : length c.run.new.output ≡ hook.out_len = omega (arith, length-take {A = ℕ}) in
    let front : take hook.out_len (c.run.new.output ++ drop image.out_len c.args.output.now) ≡ c.run.new.output = ap (λ n. take n (c.run.new.output ++ drop image.out_len c.args.output.now)) (sym long) ∙ take-append_seam c.run.new.output (drop image.out_len c.args.output.now) in
    let shown = c.in-Ok.ensures in
    let calls = calls_told ((ghosts g.dyn-1).tells c.args.table.now) hook.sigs in
    subst (IsRunBy calls hook new siblings c.run.result.answer) (sym front)
    (ran calls hook new siblings (length (take image.in_len c.args.input.now)) c.in-Ok.used c.run.result.steps c.run.result.answer image.kind c.show.new.window c.run.new.output
    (ap (λ q. q.kind) c.image-image.ensures.same) whole shown.used shown.shown c.run.ensures.told c.run.ensures.short)
