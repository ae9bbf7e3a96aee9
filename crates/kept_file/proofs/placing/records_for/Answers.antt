use Rattle.std.proofs.Common.{List, subst, sym, take}
use Rattle.record_codec.specs.declared.record.Record.{Record}
use Rattle.kept_file.specs.Placed.{AreTheirs, HasAll}
use Rattle.kept_file.proofs.Standing.{all_in, all_files, no_files, theirs_in}
use Rattle.kept_file.proofs.placing.records_for.Goals as goal

pub loop-place-init : goal.loop-place-init
loop-place-init c =
    let none = no_files c.args.stand.placement.now c.args.stand.vnode c.args.files.now in
    record {
      all = subst (λ (l : List Record). HasAll c.args.stand.placement.now c.args.stand.vnode (take 0 c.args.files.now) l) (sym c.new-records.ensures.items) none.0;
      theirs = subst (λ (l : List Record). AreTheirs c.args.stand.placement.now c.args.stand.vnode c.args.files.now l) (sym c.new-records.ensures.items) none.1;
    }

pub loop-place-preserved : goal.loop-place-preserved
loop-place-preserved c = record {
  all = all_in c.args.stand.placement.now c.args.stand.vnode c.args.files.now c.loop-place.place c.index-files-place.result c.loop-place.records.items c.add_file.new.records.items c.loop-place-test.true
      c.index-files-place.is c.in_ok-add_file.ensures.all c.in_ok-add_file.ensures.those;
  theirs = theirs_in c.args.stand.placement.now c.args.stand.vnode c.args.files.now c.loop-place.place c.index-files-place.result c.loop-place.records.items c.add_file.new.records.items c.loop-place-test.true
      c.index-files-place.is c.loop-place.invariant.theirs c.in_ok-add_file.ensures.theirs;
}

pub returns : goal.returns
returns c = record {
  all = all_files c.args.stand.placement.now c.args.stand.vnode c.args.files.now c.loop-place.records.items c.loop-place.place c.loop-place-test.false c.loop-place.invariant.all;
  theirs = c.loop-place.invariant.theirs;
}
