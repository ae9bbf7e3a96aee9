use Rattle.std.proofs.Common.{◌≡◌, ℕ, ◌*◌, arith, ap, sym, ◌∙◌, add-one}
use Rattle.peers.specs.Locals.{fresh_from}
use Rattle.peers.proofs.LocalLemmas.{fresh_end}
use Rattle.peers.proofs.local.fresh_vnodes.Goals as goal

pub loop-index-preserved : goal.loop-index-preserved
loop-index-preserved c = rw (c.in_ok-push.ensures.items, c.new.ensures, c.loop-index.invariant, add-one c.loop-index.index) (sym (fresh_end (c.from-first.result * 65536) c.loop-index.index))

pub returns : goal.returns
returns c =
    let all : c.loop-index.index ≡ c.args.n = omega arith in
    c.loop-index.invariant ∙ (ap (fresh_from (c.from-first.result * 65536)) all ∙ ap (λ (v : ℕ). fresh_from (v * 65536) c.args.n) c.from-first.ensures)
