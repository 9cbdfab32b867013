use Rattle.std.proofs.Common.{◌≡◌, ℕ, List, [], ◌-◌, Some, sym, ap, ◌∙◌, arith}
use Rattle.std.specs.Prelude.{slice_get}
use Rattle.std.specs.Option.{option_map}
use Rattle.reads.specs.EncodedEntry.{Entry}
use Rattle.reads.specs.BuilderView.{last_key}
use Rattle.keep.specs.Runs.{Run}
use Rattle.keep.proofs.ChunkLists.{first_of}
use Rattle.keep.proofs.LastKept.{last_found}
use Rattle.keep.proofs.range_run.RangeRun.last_key.Goals as goal

pub returns-clause-value : goal.returns-clause-value
returns-clause-value c =
    let kept : List Entry = c.self.inside.kept in
    let at : ℕ = c.len-len.result - 1 in
    let found : slice_get c.slice_from.result 0 ≡ slice_get kept at = first_of c.slice_from.result kept at c.slice_from.ensures.some c.slice_from.ensures.front in
    let is : option_map (λ (e : Entry). e.key) (slice_get kept at) ≡ Some c.key.result.bytes.now = ap (option_map (λ (e : Entry). e.key)) (sym found) ∙ c.key.ensures in
    c.bytes.ensures
    ∙ sym (last_found [] c.key.result.bytes.now kept at (omega (arith, c.len-len.ensures.number)) is)
    ∙ ap (λ (r : Run). last_key [] r.kept) c.self.view_is
