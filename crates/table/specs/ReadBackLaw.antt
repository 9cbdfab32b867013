-- Lists that can be written as a table and read again.
use Rattle.std.specs.Prelude.{◌≢◌, ◌≤◌, List, [], length}
use Rattle.std.specs.List.{AllByRecursion}
use Rattle.ikey.specs.Key.{IsInternalKey}
use Rattle.block.specs.EncodedEntry.{Entry}
use Rattle.table.specs.declared.options.Options.{Options}
use Rattle.table.specs.Table.{table}
use Rattle.table.specs.TableBytes.{IsTable}
use Rattle.table.specs.EntriesFrom.{EntriesRise}
use Rattle.ikey.specs.Comparator.{KeyOrder, ShortKeys}
use Rattle.table.specs.declared.table_check.TheConstants.{MAX_TABLE_LEN, MAX_VALUE_LEN}

-- The list has an entry, its internal keys rise strictly, and its values have at most 16,777,215
-- bytes.
pub record IsWritable (cmp : KeyOrder) (q : List Entry) : Type 0 where
  pub some : q ≢ []
  pub keys : AllByRecursion (λ e. IsInternalKey e.key) q
  pub values : AllByRecursion (λ e. length e.value ≤ MAX_VALUE_LEN) q
  pub rising : EntriesRise cmp q

-- what is written of such a list is a table of it, if it has at most 2 ^ 30 bytes
abbrev pub ReadBackLaw : KeyOrder → ShortKeys → Type 0
ReadBackLaw cmp short_keys = (o : Options) (q : List Entry) → IsWritable cmp q →
    length (table cmp short_keys o q) ≤ MAX_TABLE_LEN →
    IsTable cmp (table cmp short_keys o q) q
