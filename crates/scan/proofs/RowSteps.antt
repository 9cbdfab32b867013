-- What is told of levels, one by one.
use Rattle.std.proofs.Common.{◌≡◌, ◌<◌, ◌+◌, ℕ, suc, List, [], ◌++◌, length, drop, get_or, ap₂, ◌∙◌, arith}
use Rattle.std.specs.declared.cmp.Ordering.{Ordering}
use Rattle.std.proofs.Math.Seq.{drop-cons}
use Rattle.folder.specs.meta.FileMeta.{FileMeta}
use Rattle.scan.specs.LevelRows.{level_rows}
use Rattle.scan.specs.Stats.{level_stats, no_amounts}
use Rattle.scan.specs.declared.amounts.Amounts.{Amounts}

pub rows_more : (cmp : List ℕ → List ℕ → Ordering) (levels : List (List FileMeta)) (amounts : List Amounts) (i : ℕ) → i < length levels → length levels ≡ length amounts
    → level_rows cmp i (drop i levels) (drop i amounts) ≡ level_stats cmp i (get_or amounts i no_amounts) (get_or levels i []) ++ level_rows cmp (i + 1) (drop (i + 1) levels) (drop (i + 1) amounts)
rows_more cmp levels amounts i lt same =
    let low : i < length amounts = omega (arith, lt, same) in
    let next : suc i ≡ i + 1 = omega arith in
    ap₂ (level_rows cmp i) (drop-cons levels i [] lt) (drop-cons amounts i no_amounts low)
    ∙ ap₂ (λ (n m : ℕ). level_stats cmp i (get_or amounts i no_amounts) (get_or levels i []) ++ level_rows cmp (i + 1) (drop n levels) (drop m amounts)) next next
