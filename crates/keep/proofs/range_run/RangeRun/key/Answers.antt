use Rattle.std.proofs.Common.{sym, ap, ◌∙◌}
use Rattle.std.specs.Prelude.{slice_get}
use Rattle.std.specs.Option.{option_map}
use Rattle.reads.specs.EncodedEntry.{Entry}
use Rattle.keep.specs.Runs.{Run}
use Rattle.keep.proofs.ChunkLists.{first_of}
use Rattle.keep.proofs.range_run.RangeRun.key.Goals as goal

pub returns : goal.returns
returns c =
    ap (λ (r : Run). option_map (λ (e : Entry). e.key) (slice_get r.kept c.args.place)) (sym c.self.view_is)
    ∙ ap (option_map (λ (e : Entry). e.key)) (sym (first_of c.slice_from.result c.self.inside.kept c.args.place c.slice_from.ensures.some c.slice_from.ensures.front))
    ∙ c.key.ensures
