-- Rows that are told to a counter are counted.
use Rattle.std.proofs.Common.{◌≡◌, suc, ◌+◌, ◌<◌, ◌^◌, [], ◌∷◌, length, inl, inr, ap, ◌∙◌, arith}
use Rattle.table.specs.Saturated.{saturated}
use Rattle.scan.specs.CountedRows.{CountsRows}
use Rattle.scan.specs.declared.row_counter.RowCounter.{RowCounter}

pub all_counted : CountsRows
all_counted old new [] goes fits (on, same) =
    let none : old.rows ≡ saturated (old.rows + 0) = omega arith in
    (on, ap (λ (c : RowCounter). c.rows) same ∙ none)
all_counted old new (row ∷ rows) goes fits (inl (last, (on, is))) =
    let one : length rows ≡ 0 = ap length last in
    let all : saturated (old.rows + 1) ≡ saturated (old.rows + suc (length rows)) = omega arith in
    (on, is ∙ all)
all_counted old new (row ∷ rows) goes fits (inr (next, (on, is), later)) =
    let small : next.rows < 2 ^ 64 = omega arith in
    let others = all_counted next new rows goes small later in
    let known = others.1 in
    let all : new.rows ≡ saturated (old.rows + suc (length rows)) = omega arith in
    (others.0, all)
