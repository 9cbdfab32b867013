use Rattle.std.proofs.Common.{◌≡◌, ◌+◌, ◌-◌, ◌^◌, ℕ, min, Ok, sym, ap, ◌∙◌, arith}
use Rattle.table.specs.Table.{IndexKeys, index_keys}
use Rattle.keep.proofs.OnAnswers.{same_ok}
use Rattle.cut.proofs.TableLengths.{size_over, size_within}
use Rattle.cut.proofs.table_len.table_len.Goals as goal

pub returns-then-stored-limit : goal.returns-then-stored-limit
returns-then-stored-limit g c =
    ap Ok (size_over (index_keys g.C.Comparator.cmp g.C.Comparator.short_keys) c.args.blocks.now c.stored_len-stored.result c.stored_len-stored.ensures c.if-stored-limit.true)

pub returns : goal.returns
returns g c =
    let keys : IndexKeys = index_keys g.C.Comparator.cmp g.C.Comparator.short_keys in
    let sum : c.min.result ≡ min (min (c.stored_len-stored.result + 66 + c.in_ok-index.index) (2 ^ 64 - 1)) (2 ^ 30 + 1) =
    c.min.ensures ∙ ap (λ (n : ℕ). min n (2 ^ 30 + 1)) c.saturating_add.ensures in
    ap Ok (size_within keys c.args.blocks.now c.stored_len-stored.result c.in_ok-index.index c.stored_len-stored.ensures (omega (arith, c.if-stored-limit.false)) (same_ok _ _ c.in_ok-index.ensures) ∙ sym sum)
