use Rattle.std.proofs.Common.{refl}
use Rattle.ikey.proofs.Shortened.{internal_separator_of-between, internal_successor_of-above, IsInternalKey-internal_separator_of, IsInternalKey-internal_successor_of}
use Rattle.table.specs.Table.{index_keys, table}
use Rattle.table.specs.ReadBackLaw.{ReadBackLaw}
use Rattle.table.proofs.ReadBack.{KeepOrder, is_table}
use Rattle.compact.proofs.SurvivingReads as lemma
use Rattle.compact.proofs.surviving_reads.closed_reads_survive.Goals as goal

pub returns : goal.returns
unfolding index_keys table
returns g c =
    let cmp = g.C.Comparator.cmp in
    let keys = index_keys cmp g.C.Comparator.short_keys in
    let laws : KeepOrder cmp keys = record {
      lawful_between = λ a b h. IsInternalKey-internal_separator_of cmp g.C.Comparator.short_keys.separator a b h;
      lawful_above = λ a h. IsInternalKey-internal_successor_of cmp g.C.Comparator.short_keys.successor a h;
      between = internal_separator_of-between cmp g.met.C.Comparator.total g.C.Comparator.short_keys.separator g.met.C.Comparator.between;
      above = internal_successor_of-above cmp g.met.C.Comparator.total g.C.Comparator.short_keys.successor;
    } in
    let reads_back : ReadBackLaw cmp g.C.Comparator.short_keys = λ o q w small. is_table cmp keys o q (table cmp g.C.Comparator.short_keys o q) laws w refl small in
    lemma.closed_reads_survive cmp g.met.C.Comparator.total g.met.C.Comparator.exact g.C.Comparator.short_keys reads_back
