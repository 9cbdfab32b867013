use Rattle.checks.proofs.ToldTables.{places_by}
use Rattle.checks.proofs.worker_tables.worker_places.Goals as goal

pub returns-clause-places : goal.returns-clause-places
returns-clause-places g c =
    places_by g.C.Comparator.cmp (g.F.Reader.TableReader.tells c.reader-reader.result) (g.F.Folder.tells c.args.folder.now) c.reader-reader.ensures c.args.numbers.now c.places_of.result c.places_of.ensures.places
