use Rattle.std.proofs.Common.{◌≡◌, ◌<◌, ◌≤◌, List, length, get_or, refl, ap, subst, ◌∙◌}
use Rattle.record_codec.specs.declared.record.Record.{Record}
use Rattle.kept_file.proofs.Standing.{all_looked, none_looked, one_looked}
use Rattle.kept_file.proofs.placing.add_file.Goals as goal

pub loop-one-init : goal.loop-one-init
loop-one-init c = record {
  looked = none_looked c.args.stand.placement.now c.args.stand.vnode c.args.earlier.now c.args.records.now.items c.args.file.now.records.items c.requires;
  files = refl;
}

pub loop-one-preserved : goal.loop-one-preserved
loop-one-preserved c = record {
  looked = one_looked c.args.stand.placement.now c.args.stand.vnode c.args.earlier.now c.loop-one.seen.files.now c.args.records.now.items c.args.file.now.records.items
      c.loop-one.records.items c.add_one.new.records.items c.loop-one.one-index c.one-item.result
      (subst (λ (l : List Record). c.loop-one.one-index < length l) c.deref-one-items.ensures.value c.loop-one-test.true)
      (subst (λ (l : List Record). c.one-item.result ≡ get_or l c.loop-one.one-index c.one-item.result) c.deref-one-items.ensures.value c.one-item.is)
      c.loop-one.invariant.files c.loop-one.invariant.looked c.in_ok-add_one.ensures.added;
  files = ap (λ files. files.now) c.add_one.ensures.files ∙ c.loop-one.invariant.files;
}

pub returns-clause-all : goal.returns-clause-all
returns-clause-all c = c.loop-one.invariant.looked.all

pub returns-clause-those : goal.returns-clause-those
returns-clause-those c = all_looked c.args.stand.placement.now c.args.stand.vnode c.args.earlier.now c.args.records.now.items c.args.file.now.records.items c.loop-one.records.items
    c.loop-one.one-index (subst (λ (l : List Record). length l ≤ c.loop-one.one-index) c.deref-one-items.ensures.value c.loop-one-test.false) c.loop-one.invariant.looked

pub returns-clause-theirs : goal.returns-clause-theirs
returns-clause-theirs c = c.loop-one.invariant.looked.theirs
