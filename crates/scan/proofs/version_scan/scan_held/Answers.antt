use Rattle.std.proofs.Common.{Bor, Vec, Global, ◌≡◌, ℕ, ◌+◌, List, Option, length, map, refl, sym, ap, subst}
use Rattle.std.specs.Option.{MatchOption}
use Rattle.reads.specs.Ranges.{KeyRange, key_range}
use Rattle.folder.specs.meta.FileMeta.{FileMeta}
use Rattle.reads.specs.TableOrder.{AreStandingFiles, IsNeverLawful}
use Rattle.checks.specs.GroupTest.{AreTablesIn}
use Rattle.checks.proofs.LawfulLemmas.{sound_lawful}
use Rattle.scan.specs.Row.{Row}
use Rattle.scan.specs.Rows.{AreRows}
use Rattle.scan.specs.ChosenRows.{chosen_range, chosen_sequence}
use Rattle.scan.specs.EntryRows.{rows_from, file_rows}
use Rattle.scan.specs.RowParts.{AreScanned}
use Rattle.scan.proofs.FileRows.{some_rows, version_rows}
use Rattle.scan.proofs.ScanAnswers.{memory_handed, scan_of, tables_in}
use Rattle.scan.proofs.Told.{handed_scanned, refused_first}
use Rattle.scan.proofs.version_scan.scan_held.Goals as goal

abbrev now_of : Bor FileMeta → FileMeta
now_of f = f.now

pub returns-in_err-standing-clause-rows : goal.returns-in_err-standing-clause-rows
returns-in_err-standing-clause-rows g c files loaded tables all there sound own =
    let met = g.met.C.Comparator g.world.𝓛 g.world.𝓜 g.world.𝓡 ((λ s x. x), (λ x. x), (λ x. x), λ x. x) in
    let cmp = g.C.Comparator.cmp in
    let v = c.args.version.now in
    let choice = c.args.choice in
    let tells = g.T.RowTaker.tells in
    let failed = g.F.Folder.failed in
    let taker = c.args.taker.now in
    let r = c.from_residual.result in
    let e = c.in_err-standing.field-0.0 in
    let some = some_rows cmp met.total met.exact v tables (chosen_sequence v choice.at) (sound_lawful cmp v loaded tables sound) (chosen_range choice) in
    scan_of tells cmp v tables choice taker taker (failed c.args.folder.now) (failed c.args.folder.now) some.0 some.1 r
    (handed_scanned tells some.0 taker taker choice.limit r e c.from_residual.ensures.1 (refused_first tells some.0 taker taker choice.limit refl))
    (memory_handed (failed c.args.folder.now) (failed c.args.folder.now) r e c.from_residual.ensures.1 c.in_err-standing.ensures.memory)

pub returns-in_default-clause-rows : goal.returns-in_default-clause-rows
returns-in_default-clause-rows g c files loaded tables all there sound own =
    let cmp = g.C.Comparator.cmp in
    let v = c.args.version.now in
    let never : IsNeverLawful cmp v = subst (λ (o : Option (Vec (Bor FileMeta) Global)). MatchOption o (IsNeverLawful cmp v) (λ fs. AreStandingFiles cmp v (map now_of fs.items))) c.in_default.is c.in_ok-standing.ensures.standing in
    absurd (never tables (sound_lawful cmp v loaded tables sound))

pub returns-in_err-split-clause-rows : goal.returns-in_err-split-clause-rows
returns-in_err-split-clause-rows g c files loaded tables all there sound own =
    let met = g.met.C.Comparator g.world.𝓛 g.world.𝓜 g.world.𝓡 ((λ s x. x), (λ x. x), (λ x. x), λ x. x) in
    let cmp = g.C.Comparator.cmp in
    let v = c.args.version.now in
    let choice = c.args.choice in
    let tells = g.T.RowTaker.tells in
    let failed = g.F.Folder.failed in
    let taker = c.args.taker.now in
    let r = c.from_residual-in_err-split.result in
    let e = c.in_err-split.field-0.0 in
    let some = some_rows cmp met.total met.exact v tables (chosen_sequence v choice.at) (sound_lawful cmp v loaded tables sound) (chosen_range choice) in
    scan_of tells cmp v tables choice taker taker (failed c.args.folder.now) (failed c.args.folder.now) some.0 some.1 r
    (handed_scanned tells some.0 taker taker choice.limit r e c.from_residual-in_err-split.ensures.1 (refused_first tells some.0 taker taker choice.limit refl))
    (memory_handed (failed c.args.folder.now) (failed c.args.folder.now) r e c.from_residual-in_err-split.ensures.1 c.in_err-split.ensures.memory)

pub returns-clause-rows : goal.returns-clause-rows
returns-clause-rows g c files loaded tables all there sound own =
    let met = g.met.C.Comparator g.world.𝓛 g.world.𝓜 g.world.𝓡 ((λ s x. x), (λ x. x), (λ x. x), λ x. x) in
    let cmp = g.C.Comparator.cmp in
    let v = c.args.version.now in
    let choice = c.args.choice in
    let tells = g.T.RowTaker.tells in
    let told = g.F.Folder.tells c.args.folder.now in
    let failed = g.F.Folder.failed in
    let f = c.tell_ranges in
    let taker = c.args.taker.now in
    let standing : List FileMeta = map now_of c.in-Some.standing.items in
    let boundaries = c.in_ok-split.split in
    let stand : AreStandingFiles cmp v standing =
    subst (λ (o : Option (Vec (Bor FileMeta) Global)). MatchOption o (IsNeverLawful cmp v) (λ fs. AreStandingFiles cmp v (map now_of fs.items))) c.in-Some.is c.in_ok-standing.ensures.standing in
    let lent : map now_of c.deref-2.result.now ≡ standing = ap (map now_of) c.deref-2.ensures.value in
    let in_files : AreTablesIn cmp files v.next_file standing tables = tables_in cmp told files v standing loaded tables stand all there sound in
    let are : AreTablesIn cmp files v.next_file (map now_of c.deref-2.result.now) tables = subst (λ (fs : List FileMeta). AreTablesIn cmp files v.next_file fs tables) (sym lent) in_files in
    let at : c.sequence_of-at.result ≡ chosen_sequence v choice.at = c.sequence_of-at.ensures in
    let range : key_range c.range-range.result ≡ chosen_range choice = c.range-range.ensures in
    let rows : List Row = rows_from (file_rows cmp tables standing (chosen_sequence v choice.at)) cmp (chosen_range choice) boundaries 0 (length boundaries + 1) in
    let rows_are : AreRows cmp v tables (chosen_range choice) (chosen_sequence v choice.at) rows =
    version_rows cmp met.total met.exact v tables (chosen_sequence v choice.at) standing stand c.in_ok-standing.ensures.added (sound_lawful cmp v loaded tables sound) (chosen_range choice) boundaries f.ensures.cover in
    let scanned : AreScanned tells rows taker choice.limit f.new.taker f.result =
    subst (λ (n : ℕ). AreScanned tells (rows_from (file_rows cmp tables standing n) cmp (chosen_range choice) boundaries 0 (length boundaries + 1)) taker choice.limit f.new.taker f.result) at
    (subst (λ (k : KeyRange). AreScanned tells (rows_from (file_rows cmp tables standing c.sequence_of-at.result) cmp k boundaries 0 (length boundaries + 1)) taker choice.limit f.new.taker f.result) range
    (subst (λ (fs : List FileMeta). AreScanned tells (rows_from (file_rows cmp tables fs c.sequence_of-at.result) cmp (key_range c.range-range.result) boundaries 0 (length boundaries + 1)) taker choice.limit f.new.taker f.result) lent
    (f.ensures.told files v.next_file tables all are own))) in
    scan_of tells cmp v tables choice taker f.new.taker (failed c.args.folder.now) (failed f.new.folder) rows rows_are f.result scanned (f.ensures.errors files v.next_file tables all are own)
