use Rattle.std.proofs.Common.{◌≡◌, ◌+◌, ◌<◌, List, length, drop, sym, ap, subst, ◌∙◌, arith}
use Rattle.std.specs.Prelude.{slice_index_or}
use Rattle.block.specs.EncodedEntry.{Entry}
use Rattle.cut.specs.RunPlace.{kept_of_runs}
use Rattle.cut.proofs.Places.{drop_next, in_run, past_run}
use Rattle.cut.proofs.cursor.EntryCursor.advance.Goals as goal

pub overflow_add-next : goal.overflow_add-next
overflow_add-next c =
    let some : 0 < length (drop c.self.inside.entry (kept_of_runs c.self.inside.runs.now)) = subst (λ (es : List Entry). 0 < length es) (sym c.self.view_is) c.requires in
    let inside : c.self.inside.entry < length (slice_index_or c.self.inside.runs.now 0 c.index-self-0.result).kept = in_run c.self.inside.runs.now c.index-self-0.result c.self.inside.entry c.self.invariant some in
    omega (arith, inside, c.len-len.ensures.number, c.len-len.type_inv)

pub returns-then-next-len : goal.returns-then-next-len
returns-then-next-len c = drop_next c.self.inside.entry (kept_of_runs c.self.inside.runs.now) ∙ ap (drop 1) c.self.view_is

pub returns-else-next-len : goal.returns-else-next-len
returns-else-next-len c =
    let some : 0 < length (drop c.self.inside.entry (kept_of_runs c.self.inside.runs.now)) = subst (λ (es : List Entry). 0 < length es) (sym c.self.view_is) c.requires in
    let inside : c.self.inside.entry < length (slice_index_or c.self.inside.runs.now 0 c.index-self-0.result).kept = in_run c.self.inside.runs.now c.index-self-0.result c.self.inside.entry c.self.invariant some in
    let end : c.self.inside.entry + 1 ≡ length (slice_index_or c.self.inside.runs.now 0 c.index-self-0.result).kept = omega (arith, inside, c.len-len.ensures.number, c.if-next-len.false) in
    c.from_entry-self-inside.ensures.entries
    ∙ ap kept_of_runs c.split_at.ensures.back
    ∙ past_run c.self.inside.runs.now c.index-self-0.result c.self.inside.entry end
    ∙ ap (drop 1) c.self.view_is
