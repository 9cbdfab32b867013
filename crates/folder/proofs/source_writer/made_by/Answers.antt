use Rattle.std.proofs.Common.{Option, None, IfSome, sym, subst}
use Rattle.std.specs.Global.{Vec}
use Rattle.std.specs.List.{AllZip}
use Rattle.board.proofs.RunResults.{run_zipped}
use Rattle.folder.proofs.source_writer.made_by.Goals as goal

pub returns : goal.returns
returns g c =
    let tables = g.S.TableSource.tables c.args.source.now in
    let is_of = g.M.TableMaker.is_of in
    subst (λ (o : Option (Vec g.row.M-Made.Denot)). IfSome o (λ made. AllZip is_of made.items tables)) (sym c.ok.ensures.value)
    (run_zipped is_of (λ job. None) tables c.len-jobs.result c.run.result c.len-jobs.ensures c.run.ensures.ok)
