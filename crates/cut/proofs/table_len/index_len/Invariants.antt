use Rattle.table.specs.Table.{index_keys}
use Rattle.cut.proofs.TableLengths.{IsIndexLen}
use Rattle.cut.proofs.table_len.index_len.Given as goal

abbrev pub invariant-loop-place : goal.invariant-loop-place
invariant-loop-place g l = IsIndexLen (index_keys g.C.Comparator.cmp g.C.Comparator.short_keys) l.blocks l.place l.offset l.len
