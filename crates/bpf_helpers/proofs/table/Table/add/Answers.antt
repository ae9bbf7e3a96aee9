use Rattle.std.proofs.Common.{◌≡◌, ◌++◌, ◌∷◌, [], List, rules, arith, subst, sym}
use Rattle.bpf_helpers.specs.declared.sig.Entry.{Entry}
use Rattle.bpf_helpers.specs.Entries.{AgreesWith}
use Rattle.bpf_helpers.proofs.Agreement.{one_more}
use Rattle.bpf_helpers.proofs.Index.{number_within, same_length, paired_push, indexed_push, counted_push}
use Rattle.bpf_helpers.proofs.table.Table.add.Goals as goal

pub invariant_of-self-2-clause-whole : goal.invariant_of-self-2-clause-whole
invariant_of-self-2-clause-whole g c =
    let entry : Entry = record { number = c.args.helper.number; sig = c.args.helper.sig } in
    let grown : c.push.new.self ≡ c.args.self.now.listed ++ entry ∷ [] = search (rules) in
    subst (λ (es : List Entry). AgreesWith es es) (sym grown) (one_more c.args.self.now.listed entry c.args.self.now.whole c.in_default.ensures.ok.free)

pub invariant_of-self-2-clause-paired : goal.invariant_of-self-2-clause-paired
invariant_of-self-2-clause-paired g c =
    let entry : Entry = record { number = c.args.helper.number; sig = c.args.helper.sig } in
    let grown : c.push.new.self ≡ c.args.self.now.listed ++ entry ∷ [] = search (rules) in
    paired_push _ c.args.self.now.helpers.items c.reserve.new.self.items c.push_reserved.new.self.items c.args.helper c.args.self.now.listed c.push.new.self
    c.reserve.ensures.items c.push_reserved.ensures.items grown c.args.self.now.paired

pub invariant_of-self-2-clause-indexed : goal.invariant_of-self-2-clause-indexed
invariant_of-self-2-clause-indexed g c =
    let table = c.args.self.now in
    let entry : Entry = record { number = c.args.helper.number; sig = c.args.helper.sig } in
    let grown : c.push.new.self ≡ table.listed ++ entry ∷ [] = search (rules) in
    let within = number_within entry.number c.in_default.ensures.ok.numbered in
    indexed_push table.places table.listed c.push.new.self entry c.len.result grown (omega (arith, c.len.ensures, c.reserve.ensures.len, table.helpers.ok.0, same_length _ table.helpers.items table.listed table.paired)) (omega (arith, within)) c.in_default.ensures.ok.free table.indexed

pub invariant_of-self-2-clause-counted : goal.invariant_of-self-2-clause-counted
invariant_of-self-2-clause-counted g c =
    let table = c.args.self.now in
    let entry : Entry = record { number = c.args.helper.number; sig = c.args.helper.sig } in
    let grown : c.push.new.self ≡ table.listed ++ entry ∷ [] = search (rules) in
    let within = number_within entry.number c.in_default.ensures.ok.numbered in
    counted_push table.places table.listed c.push.new.self entry c.len.result grown (omega (arith, within)) c.in_default.ensures.ok.free (table.indexed entry.number) table.counted
