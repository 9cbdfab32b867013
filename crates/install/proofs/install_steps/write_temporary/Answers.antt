use Rattle.folder.specs.Names.{current_text, temporary_name}
use Rattle.install.proofs.Files.{settled_moments, settled_written}
use Rattle.install.proofs.install_steps.write_temporary.Goals as goal

pub returns-clause-before : goal.returns-clause-before
returns-clause-before g c cmp order v tables free start stands =
    let calls = g.F.Folder.calls in
    let tells = g.F.Folder.tells in
    let n = c.args.number in
    settled_moments cmp order v tables (temporary_name n) (current_text n) free start (calls c.args.folder.now) (calls c.make_temporary.new.folder) (tells c.args.folder.now) (tells c.make_temporary.new.folder) c.make_temporary.result stands c.make_temporary.ensures.runs

pub returns-clause-written : goal.returns-clause-written
returns-clause-written g c cmp order v tables free start stands =
    let calls = g.F.Folder.calls in
    let tells = g.F.Folder.tells in
    let n = c.args.number in
    settled_written cmp order v tables (temporary_name n) (current_text n) free start (calls c.args.folder.now) (calls c.make_temporary.new.folder) (tells c.args.folder.now) (tells c.make_temporary.new.folder) c.make_temporary.result stands c.make_temporary.ensures.runs
