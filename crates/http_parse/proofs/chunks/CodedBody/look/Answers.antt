use Rattle.std.proofs.Common.{List, ℕ, subst, sym, ap, length, drop, arith}
use Rattle.std.proofs.lemmas.List.{length-take}
use Rattle.http_request.specs.Limits.{longest_coded}
use Rattle.http_parse.specs.Reading.{HasRead, HasStopped, FindsTrailers, Comes, unfinished, behind}
use Rattle.http_parse.specs.declared.chunks.Coded.{Coded}
use Rattle.http_parse.specs.declared.chunks.Stop.TheVariants as stop
use Rattle.http_parse.proofs.ComesLemmas.{front_read, comes_rest, comes_large, comes_bad, comes_last}
use Rattle.http_parse.proofs.chunks.CodedBody.look.Goals as goal

pub read_chunks-requires-clause-short : goal.read_chunks-requires-clause-short
read_chunks-requires-clause-short c = omega (arith, ap length c.longest_front-coded.ensures, length-take longest_coded c.args.bytes.now)

pub read_chunks-requires-clause-read : goal.read_chunks-requires-clause-read
read_chunks-requires-clause-read c =
    subst (λ (l : List ℕ). HasRead c.args.self.now l) (sym c.longest_front-coded.ensures) (front_read c.args.bytes.now c.args.self.now c.requires)

pub returns-in-Rest : goal.returns-in-Rest
returns-in-Rest c =
    let s = rw c.in-Rest.is at c.in_ok-read_chunks.ensures in
    rw c.unfinished.ensures
    (subst (λ (l : List ℕ). Comes (unfinished (length l)) c.args.bytes.now c.read_chunks.new.self) (sym c.longest_front-coded.ensures)
    (comes_rest c.args.bytes.now c.read_chunks.new.self
    (subst (λ (l : List ℕ). HasStopped stop.Rest l c.read_chunks.new.self) c.longest_front-coded.ensures s)))

pub returns-in-Large : goal.returns-in-Large
returns-in-Large c =
    let s = rw c.in-Large.is at c.in_ok-read_chunks.ensures in
    comes_large c.args.bytes.now c.read_chunks.new.self
    (subst (λ (l : List ℕ). HasStopped stop.Large l c.read_chunks.new.self) c.longest_front-coded.ensures s)

pub returns-in-Bad : goal.returns-in-Bad
returns-in-Bad c =
    let s = rw c.in-Bad.is at c.in_ok-read_chunks.ensures in
    comes_bad c.args.bytes.now c.read_chunks.new.self (subst (λ (l : List ℕ). HasStopped stop.Bad l c.read_chunks.new.self) c.longest_front-coded.ensures s)

pub returns-in-Last : goal.returns-in-Last
returns-in-Last c =
    let s = rw c.in-Last.is at c.in_ok-read_chunks.ensures in
    let f = c.look_behind.ensures in
    let whole = comes_last c.args.bytes.now c.read_chunks.new.self (subst (λ (l : List ℕ). HasStopped stop.Last l c.read_chunks.new.self) c.longest_front-coded.ensures s) f.0 in
    subst (λ (x : Coded). Comes x c.args.bytes.now c.read_chunks.new.self) (sym f.2)
    (subst (λ (l : List ℕ). FindsTrailers (drop c.read_chunks.new.self.read l) f.0 → Comes (behind c.read_chunks.new.self.read (length l) f.0) c.args.bytes.now c.read_chunks.new.self)
    (sym c.longest_front-coded.ensures) whole f.1)
