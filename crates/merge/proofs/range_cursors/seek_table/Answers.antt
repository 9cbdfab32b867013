use Rattle.std.proofs.Common.{◌^◌, ◌<◌, List, [], ◌∷◌, arith}
use Rattle.std.specs.List.{AllByRecursion}
use Rattle.table.specs.Key.{sequence_of}
use Rattle.table.specs.EncodedEntry.{Entry}
use Rattle.table.specs.EntryTests.{HaveInternalKeys}
use Rattle.table.specs.TableBytes.{AreBytes}
use Rattle.split.specs.Ranges.{key_range}
use Rattle.table.proofs.Keys.{sequence_of-lt}
use Rattle.table.proofs.KeyBytes.{table_keys}
use Rattle.table.proofs.Tables.{reads_tables}
use Rattle.merge.proofs.Reaching.{sought_same}
use Rattle.merge.proofs.range_cursors.seek_table.Goals as goal

-- the sequences of a table's entries are within their limit
sequences_fit : (entries : List Entry) → HaveInternalKeys entries → AllByRecursion (λ e. sequence_of e.key < 2 ^ 56) entries
sequences_fit [] keys = tt
sequences_fit (e ∷ es) keys = (sequence_of-lt e.key keys.0, sequences_fit es keys.1)

pub returns-clause-held : goal.returns-clause-held
returns-clause-held g c =
    let cmp = g.C.Comparator.cmp in
    let total = g.met.C.Comparator.total in
    let bytes = c.args.bytes.now in
    let entries = c.args.cursor.now in
    let fits : AreBytes bytes = λ i. omega (arith, c.type_inv.bytes i) in
    let table = (reads_tables cmp total).found bytes entries fits c.requires in
    sought_same cmp total (key_range c.args.range) entries _
    (c.seek_range.ensures.left (sequences_fit entries (table_keys cmp bytes entries fits table)))
