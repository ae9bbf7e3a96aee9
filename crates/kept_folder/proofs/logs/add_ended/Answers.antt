use Rattle.std.proofs.Common.{◌≡◌, ℕ, arith, subst}
use Rattle.kept_folder.proofs.Logging.{AreEndedTo, ended_more, ended_none}
use Rattle.kept_folder.proofs.logs.add_ended.Goals as goal

pub loop-number-init : goal.loop-number-init
loop-number-init g c = record {
  read = ended_none (g.F.Folder.finds c.args.folder.now) c.args.span.first c.args.files.now.items;
  within = c.requires;
}

pub loop-number-preserved : goal.loop-number-preserved
loop-number-preserved g c = record {
  read = ended_more (g.F.Folder.finds c.args.folder.now) c.args.span.first c.loop-number.number c.args.files.now.items c.loop-number.files.items c.add.new.files.items c.in_ok-file.file
      c.loop-number.invariant.read c.in_ok-add.ensures c.in_ok-file.ensures.from c.in_ok-file.ensures.read;
  within = let lt = c.loop-number-test.true in omega (arith, lt);
}

pub returns : goal.returns
returns g c =
    let last : c.loop-number.number ≡ c.args.span.last = (let past = c.loop-number-test.false in let within = c.loop-number.invariant.within in omega (arith, past, within)) in
    subst (λ (n : ℕ). AreEndedTo (g.F.Folder.finds c.args.folder.now) c.args.span.first n c.args.files.now.items c.loop-number.files.items) last c.loop-number.invariant.read
