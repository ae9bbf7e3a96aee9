use Rattle.std.proofs.Common.{◌∙◌, ap, sym, subst, rules, length, replicate, ◌-◌, ◌++◌, ◌≤◌}
use Rattle.std.specs.Option.{option_copied}
use Rattle.hook_abi.specs.Input.{contents_shown, layout}
use Rattle.hook_run.proofs.Shown.{shown_input, ok_with}
use Rattle.hook_run.proofs.deciding.show.Goals as goal

pub returns-clause-input : goal.returns-clause-input
returns-clause-input c =
    let ss = contents_shown (option_copied c.args.new) c.args.siblings.now in
    let len = length c.args.window.now in
    let h = c.fill_input.ensures in
    ok_with c.fill_input.result h.used h.written h.fits
    (λ used is written fits. shown_input len used (layout c.args.kind ss) c.fill_input.new.window (λ k. search (rules, c.type_inv.window k)) c.fill_input.auto.window (subst (λ n. n ≤ len) (sym is) fits.1)
    (written ∙ ap (λ n. layout c.args.kind ss ++ replicate (len - n) 0) (sym is)))
