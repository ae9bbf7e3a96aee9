use Rattle.std.proofs.Common.{refl, None, arith}
use Rattle.bpf_verifier.proofs.Waits.{let_go, owner_set, owned_less, zeros_set, zeros_read}
use Rattle.bpf_verifier.proofs.waiting.Waiting.release.Goals as goal

pub returns-clause-rows : goal.returns-clause-rows
returns-clause-rows g c =
    let rows = c.args.self.now in
    let_go c.args.slot rows.places.items rows.held.items c.args.place (record { owner = None; kinds = c.index_mut.result.now.kinds }) c.requires.place c.requires.owner (omega (arith, c.requires.row, rows.held.ok.0)) refl

pub returns-clause-free : goal.returns-clause-free
returns-clause-free g c =
    let rows = c.args.self.now in
    owner_set rows.held.items c.args.place (record { owner = None; kinds = c.index_mut.result.now.kinds }) (omega (arith, c.requires.row, rows.held.ok.0))

pub returns-clause-owned : goal.returns-clause-owned
returns-clause-owned g c =
    let rows = c.args.self.now in
    owned_less rows.held.items rows.free c.args.place _ (record { owner = None; kinds = c.index_mut.result.now.kinds }) c.requires.owned (omega (arith, c.min-self.ensures)) (omega (arith, c.min-self.ensures))

pub returns-clause-zeros : goal.returns-clause-zeros
returns-clause-zeros g c = λ profile zeros.
    let rows = c.args.self.now in
    zeros_set profile rows.low rows.held.items c.args.place (record { owner = None; kinds = c.index_mut.result.now.kinds }) zeros
    (zeros_read profile rows.low rows.held.items c.args.place c.index_mut.result.now zeros (omega (arith, c.requires.row, rows.held.ok.0)) c.index_mut.ensures.value)
