use Rattle.std.proofs.Common.{ℕ, ◌≡◌, ◌+◌, ◌<◌, ◌||◌, length, Some, sym, ap, ◌∙◌, arith}
use Rattle.std.specs.Prelude.{slice_get}
use Rattle.std.proofs.lemmas.Option.{slice_get_read, same_Some}
use Rattle.bpf_copies.specs.Led.{is_slot, leads_before}
use Rattle.bpf_verifier.proofs.Noted.{led_on, sums_on}
use Rattle.bpf_verifier.proofs.sums.Sums.advance.Goals as goal

pub returns-clause-on : goal.returns-clause-on
returns-clause-on c =
    let code = c.args.program.now.image.code.items in
    let at = c.args.at in
    let x = c.index-insn.result.now in
    let insn = slice_get_read code c.args.program.now.image.code.len at x c.args.program.now.image.code.ok.0 (omega (arith, c.requires.within, c.args.program.now.image.code.ok.0)) c.index-insn.ensures in
    let led : (k : ℕ) → k < length code + 1 → slice_get c.note.new.led.items k ≡ Some (leads_before code (at + 1) k) = λ k lt. c.note.ensures.noted k (leads_before code at k) (c.requires.old.led k lt) ∙ ap Some (ap (λ o. is_slot k o || leads_before code at k) c.target_of.ensures ∙ led_on code at k x insn) in
    let here = same_Some _ _ (sym (slice_get_read c.note.new.led.items c.note.new.led.len (at + 1) c.index.result.now c.note.new.led.ok.0 (omega (arith, c.requires.within, c.note.ensures.long, c.requires.old.long)) c.index.ensures) ∙ led (at + 1) (omega (arith, c.requires.within))) in
    record {
      long = omega (arith, c.note.ensures.long, c.requires.old.long);
      led = led;
      held = c.sum_on.ensures ∙ sums_on code at x c.index.result.now c.args.self.now.held insn here c.requires.old.held;
      names = c.in_ok-name_on.ensures.follows;
    }
