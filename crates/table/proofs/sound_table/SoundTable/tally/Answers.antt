use Rattle.std.proofs.Common.{◌≡◌, None, sym, ap, subst, ◌∙◌}
use Rattle.table.specs.EntriesFrom.{EntriesRise}
use Rattle.table.specs.EntryTests.{HaveInternalKeys}
use Rattle.table.specs.TableContents.{Contents, entries_of}
use Rattle.table.specs.Tallies.{tally_of}
use Rattle.table.proofs.CheckedTables.{blocks_are, contents_are, read_data}
use Rattle.table.proofs.EntryTests.{all_tests, rising}
use Rattle.table.proofs.sound_table.SoundTable.tally.Goals as goal

pub returns-clause-tally : goal.returns-clause-tally
returns-clause-tally g c =
    let cmp = g.C.Comparator.cmp in
    let k = c.self.invariant.checked in
    let t = c.self.inside in
    let blocks = blocks_are cmp t.bytes.now t.index.entries t.bounds.smallest t.bounds.largest k in
    let same : c.args.self.now.entries ≡ entries_of k.blocks = ap (λ (x : Contents). x.entries) (sym c.self.view_is ∙ contents_are cmp t.bytes.now k.blocks blocks) in
    c.self.invariant.tally ∙ sym (ap tally_of same)

pub returns-clause-keys : goal.returns-clause-keys
returns-clause-keys g c =
    let cmp = g.C.Comparator.cmp in
    let k = c.self.invariant.checked in
    let t = c.self.inside in
    let blocks = blocks_are cmp t.bytes.now t.index.entries t.bounds.smallest t.bounds.largest k in
    let same : c.args.self.now.entries ≡ entries_of k.blocks = ap (λ (x : Contents). x.entries) (sym c.self.view_is ∙ contents_are cmp t.bytes.now k.blocks blocks) in
    subst HaveInternalKeys (sym same) c.self.invariant.keys

pub returns-clause-rising : goal.returns-clause-rising
returns-clause-rising g c =
    let cmp = g.C.Comparator.cmp in
    let k = c.self.invariant.checked in
    let t = c.self.inside in
    let blocks = blocks_are cmp t.bytes.now t.index.entries t.bounds.smallest t.bounds.largest k in
    let same : c.args.self.now.entries ≡ entries_of k.blocks = ap (λ (x : Contents). x.entries) (sym c.self.view_is ∙ contents_are cmp t.bytes.now k.blocks blocks) in
    let read = (read_data cmp k.index k.blocks k.data_blocks).read in
    subst (EntriesRise cmp) (sym same) (rising cmp None (entries_of k.blocks) g.met.C.Comparator.total (all_tests cmp None k.index k.blocks read))
