use Rattle.kept_folder.proofs.Putting.{put_so}
use Rattle.kept_folder.proofs.writing.put_read.Goals as goal

pub returns-clause-put : goal.returns-clause-put
returns-clause-put g c =
    let read = c.in_ok-count.ensures.calls in
    let begun = c.in_ok-out.ensures.begun in
    (read.0, read.1, read.2, read.3, read.4, read.5, read.6, put_so g.F.Folder.does _ _ _ begun.0 _ _ _ _ _ read.2 c.requires begun.1 begun.2 read.7 c.in_ok-whole.ensures.kept c.in_ok-put.ensures.named)
