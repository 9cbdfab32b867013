use Rattle.std.proofs.Common.{Bor, ◌≡◌, drop}
use Rattle.std.specs.List.{list_all}
use Rattle.std.specs.Option.{is_some}
use Rattle.edit.specs.declared.meta.FileMeta.{FileMeta}
use Rattle.reads.specs.Tables.{table_of_number}
use Rattle.reads.proofs.table_search.have_tables.Given as goal

-- whether the files that are left have tables is whether all have
abbrev pub invariant-loop-file : goal.invariant-loop-file
invariant-loop-file g l =
    list_all (λ (f : Bor FileMeta). is_some (table_of_number l.tables f.now.number)) (drop l.file-index l.files) ≡ list_all (λ (f : Bor FileMeta). is_some (table_of_number l.tables f.now.number)) l.files
