use Rattle.std.proofs.Common.{◌++◌, ◌∷◌, [], ℕ, List, OnOk, append_assoc, string_bytes, subst, sym}
use Rattle.std.specs.Io.KnownBytes.{Appends}
use Rattle.dvvstore.proofs.Told.{some_told}
use Rattle.dvvstore.proofs.network.tell.Goals as goal

pub returns : goal.returns
returns g c = record {
  told = some_told c.writeln.result (λ text. Appends (g.O.Write.contents c.args.out.now) (g.O.Write.contents c.writeln.new.self) (c.args.word.now ++ 32 ∷ text ++ 10 ∷ [])) (string_bytes c.in_ok-text.text)
      (subst (λ (l : List ℕ). OnOk c.writeln.result (Appends (g.O.Write.contents c.args.out.now) (g.O.Write.contents c.writeln.new.self) l)) (sym (append_assoc c.args.word.now (32 ∷ string_bytes c.in_ok-text.text) (10 ∷ []))) c.writeln.ensures.bytes);
}
