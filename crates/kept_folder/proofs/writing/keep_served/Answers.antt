use Rattle.kept_folder.proofs.Putting.{put_as, where_came}
use Rattle.kept_folder.proofs.writing.keep_served.Goals as goal

pub returns-in-Ok-emptied-clause-put : goal.returns-in-Ok-emptied-clause-put
returns-in-Ok-emptied-clause-put g c =
    let put = where_came _ _ _ c.in-Ok-emptied.ensures.same c.put_read-came.ensures.put in
    (put.0, put.1, put.2, put.3, put.4, put.5, put.6, put_as g.F.Folder.does _ _ _ _ _ put.2 c.name_of-name.ensures c.in-Ok-emptied.ensures.left put.7)
