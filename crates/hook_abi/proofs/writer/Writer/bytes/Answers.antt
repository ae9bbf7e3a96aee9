use Rattle.std.proofs.Common.{◌+◌, ◌-◌, ◌++◌, ◌∙◌, ap, arith, length, refl, rules, take}
use Rattle.std.proofs.lemmas.Slice.{drop-put_mid, take-put_mid}
use Rattle.hook_abi.proofs.writer.Writer.bytes.Goals as goal

pub returns : goal.returns
returns c =
    let at = c.args.self.now.at in
    let window = c.args.self.now.window.now in
    let end = at + length c.args.bytes.now in
    let written = c.copy_from_slice.new.self in
    record {
      lent = refl;
      long = search rules;
      end = refl;
      front = take-put_mid at (end - at) window written end (omega (arith, ap length c.copy_from_slice.ensures.after)) (omega arith) ∙ ap (λ bytes. take at window ++ bytes) c.copy_from_slice.ensures.after;
      rest = drop-put_mid at (end - at) window written end (omega arith) (omega arith) (omega (arith, ap length c.copy_from_slice.ensures.after));
    }
