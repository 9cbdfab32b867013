use Rattle.std.proofs.Common.{ℕ, List, subst}
use Rattle.folder.specs.Calls.{TellsAfter, Written, step_of}
use Rattle.folder.specs.TableFiles.{named_tables}
use Rattle.folder.proofs.MadeLemmas.{tells_from}
use Rattle.folder.proofs.source_writer.write_source.Goals as goal

pub returns-clause-change : goal.returns-clause-change
returns-clause-change g c =
    let tells = g.F.Folder.tells in
    let old = tells c.args.folder.now in
    let new = tells c.sync_tables.new.self in
    tells_from (step_of (Written (named_tables (g.S.TableSource.tables c.args.source.now))) c.sync_tables.result) old (tells c.maker-maker.new.self) new c.maker-maker.ensures.same
    (subst (λ (tables : List (ℕ × List ℕ)). TellsAfter (step_of (Written (named_tables tables)) c.sync_tables.result) (tells c.maker-maker.new.self) new) c.of-tables.ensures c.sync_tables.ensures.change)
