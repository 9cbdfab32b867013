use Rattle.std.proofs.Common.{◌<◌, List, length, take, drop, sym, ap, subst, ◌∙◌}
use Rattle.block.specs.EncodedEntry.{Entry}
use Rattle.keep.specs.Runs.{Run}
use Rattle.cut.specs.RunPlace.{kept_of_runs}
use Rattle.cut.proofs.Walks.{slice_of_all}
use Rattle.cut.proofs.cursor.EntryCursor.slice.Goals as goal

pub returns-clause-front : goal.returns-clause-front
returns-clause-front c =
    let runs : List Run = c.self.inside.runs.now in
    let some : 0 < length (drop c.self.inside.entry (kept_of_runs runs)) = subst (λ (es : List Entry). 0 < length es) (sym c.self.view_is) c.requires in
    ap (take (length c.slice_from.result)) (sym c.self.view_is)
    ∙ slice_of_all runs c.index-self-0.result c.self.inside.entry c.slice_from.result c.self.invariant some c.slice_from.ensures.front
