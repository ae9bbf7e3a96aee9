use Rattle.kept_folder.proofs.Reading.{few_behind, read_behind}
use Rattle.kept_folder.proofs.opening.files_in.Goals as goal

pub returns : goal.returns
returns g c =
    let finds = g.F.Folder.finds c.args.folder.now in
    let added = c.in_ok-logs.ensures in
    record {
      read = λ index lt. read_behind finds c.in_ok-files.files.items added.0 c.add_logs.new.files.items c.in_ok-logs.logs index added.1 added.2 (c.in_ok-files.ensures.read index lt);
      files = (c.in_ok-files.files.items, added.0, added.1, c.in_ok-files.ensures.files, added.2);
      there = c.in_ok-files.ensures.there;
      vnodes = few_behind finds c.in_ok-files.files.items added.0 c.add_logs.new.files.items c.in_ok-logs.logs added.1 added.2 c.in_ok-files.ensures.files;
    }
