use Rattle.std.proofs.Common.{refl}
use Rattle.bpf_image.specs.declared.image.ImageKind.TheVariants.{PreCommit, Resolver}
use Rattle.script_events.specs.Asking.{reading_of}
use Rattle.script_events.proofs.Asked.{come_up_to, nothing_known}
use Rattle.script_events.proofs.ReadLines.{begins, goes_on, ends, of_none, stops}
use Rattle.script_events.proofs.reading.Reader.read_lines.Goals as goal

pub loop-line-init : goal.loop-line-init
loop-line-init g c = record {
  so_far = begins _ _ _ _ _ c.requires.runnable c.requires.empty c.requires.start;
  known = (
    nothing_known (g.I.Images.found c.args.images.now) (g.I.Images.listed c.args.images.now) Resolver c.new-hooks.result.resolvers c.new-hooks.ensures.resolvers,
    nothing_known (g.I.Images.found c.args.images.now) (g.I.Images.listed c.args.images.now) PreCommit c.new-hooks.result.checks c.new-hooks.ensures.checks,
  );
}

pub loop-line-preserved : goal.loop-line-preserved
loop-line-preserved g c = record {
  so_far = goes_on _ _ _ _ _ _ _ _ _ _ _ c.loop-line.invariant.so_far c.in-Some.ensures.lines c.in-Some.ensures.shorter c.in_ok-why.ensures.runnable (of_none _ _ _ c.in_default-2.not-Some c.in_ok-why.ensures.answers) (of_none _ _ _ c.in_default-2.not-Some c.in_ok-why.ensures.asks);
  known = c.in_ok-why.ensures.known;
}

pub returns-clause-read : goal.returns-clause-read
returns-clause-read g c = (ends _ _ _ _ _ _ _ c.loop-line.invariant.so_far c.in_default.ensures.lines).0

pub returns-clause-asked : goal.returns-clause-asked
returns-clause-asked g c = let all = (ends _ _ _ _ _ _ _ c.loop-line.invariant.so_far c.in_default.ensures.lines).1 in (_, all, refl)

pub returns-in-Some-2-clause-asked : goal.returns-in-Some-2-clause-asked
returns-in-Some-2-clause-asked g c =
    let same = rw c.in-Some-2.is at c.in_ok-why.ensures.asks in
    let before = (stops _ _ _ _ _ _ _ _ c.loop-line.self.script _ c.loop-line.invariant.so_far c.in-Some.ensures.lines refl).1 in
    come_up_to (g.I.Images.found c.args.images.now) _ (reading_of c.loop-line.self) c.read.new.self.script before same
