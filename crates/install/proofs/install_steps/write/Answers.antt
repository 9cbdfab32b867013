use Rattle.install.proofs.Files.{file_moments, file_written}
use Rattle.install.proofs.install_steps.write.Goals as goal

pub returns-clause-before : goal.returns-clause-before
returns-clause-before g c cmp order v tables free start stands =
    let calls = g.F.Folder.calls in
    let tells = g.F.Folder.tells in
    file_moments cmp order v tables c.args.name.now c.args.bytes.now free start (calls c.args.folder.now) (calls c.make_file.new.folder) (tells c.args.folder.now) (tells c.make_file.new.folder) c.make_file.result stands c.make_file.ensures.runs

pub returns-clause-written : goal.returns-clause-written
returns-clause-written g c cmp order v tables free start stands =
    let calls = g.F.Folder.calls in
    let tells = g.F.Folder.tells in
    file_written cmp order v tables c.args.name.now c.args.bytes.now free start (calls c.args.folder.now) (calls c.make_file.new.folder) (tells c.args.folder.now) (tells c.make_file.new.folder) c.make_file.result stands c.make_file.ensures.runs
