use Rattle.std.proofs.Common.{Bor, ◌≡◌, true, false, Option, Some, None, map, refl, ap, sym, subst, ◌∙◌}
use Rattle.std.specs.List.{flat_map}
use Rattle.std.specs.Option.{option_map, is_some}
use Rattle.block.specs.EncodedEntry.{Entry}
use Rattle.table.proofs.Binds.{ok_is}
use Rattle.folder.specs.VersionOrder.{in_version_order, files_at}
use Rattle.folder.specs.meta.FileMeta.{FileMeta}
use Rattle.folder.proofs.CountLemmas.{steady}
use Rattle.folder.proofs.ReportLemmas.{reads_then}
use Rattle.table.specs.Key.{user_of, sequence_of}
use Rattle.reads.specs.Visible.{VisibleEntry, visible_of, IsAnswer}
use Rattle.reads.proofs.Versions.{lent_entries, none_more, none_end, found, level_files_of}
use Rattle.scan.proofs.Giving.{handed}
use Rattle.scan.proofs.Parts.{tables_later}
use Rattle.scan.proofs.folder_get.newest_in_version.Goals as goal

none_seen : (o : Option Entry) → false ≡ is_some o → option_map visible_of o ≡ None
none_seen None e = refl
none_seen (Some f) e = absurd cc

some_seen : (o : Option Entry) → true ≡ is_some o → is_some (option_map visible_of o) ≡ true
some_seen None e = absurd cc
some_seen (Some f) e = refl

pub loop-level-preserved : goal.loop-level-preserved
loop-level-preserved g c =
    let cmp = g.C.Comparator.cmp in
    let total = g.met.C.Comparator.total in
    let failed = g.F.Folder.failed in
    let v = c.args.version.now in
    let user = user_of c.args.target.bytes.now in
    let at = sequence_of c.args.target.bytes.now in
    let items = c.deref.result.now in
    let level = c.loop-level.level in
    let is : map (λ (f : Bor FileMeta). f.now) items ≡ in_version_order cmp (files_at v.files level) =
    ap (map (λ (f : Bor FileMeta). f.now)) c.deref.ensures.value ∙ sym (ok_is _ _ c.in_ok-files.ensures.ordered) in
    record {
      none = λ tables held lawful.
          let there = tables_later _ _ tables c.loop-level.invariant.reads.same held in
          let answer = c.in_ok-newest.ensures.given tables there (level_files_of cmp total v tables user at level items is lawful.apart lawful) in
          let none = subst (λ (o : Option VisibleEntry). IsAnswer (flat_map (lent_entries tables) items) user at o) (none_seen c.in_ok-newest.newest c.if-is_some.ensures) answer in
          none_more cmp total v tables user at level items is lawful.apart c.in_ok-files.ensures.state.levels.file_levels none (c.loop-level.invariant.none tables held lawful);
      reads = reads_then c.loop-level.invariant.reads c.newest_at_level.ensures.reads;
      failures = steady (failed c.args.folder.now) (failed c.loop-level.folder) (failed c.newest_at_level.new.folder) c.in_ok-newest.newest c.newest_at_level.result c.in_ok-newest.was c.loop-level.invariant.failures c.newest_at_level.ensures.device.later
          c.newest_at_level.ensures.device.at_once;
    }

pub returns-in_err-newest-clause-given : goal.returns-in_err-newest-clause-given
returns-in_err-newest-clause-given g c tables held lawful =
    let cmp = g.C.Comparator.cmp in
    let v = c.args.version.now in
    let items = c.deref.result.now in
    let is : map (λ (f : Bor FileMeta). f.now) items ≡ in_version_order cmp (files_at v.files c.loop-level.level) =
    ap (map (λ (f : Bor FileMeta). f.now)) c.deref.ensures.value ∙ sym (ok_is _ _ c.in_ok-files.ensures.ordered) in
    handed c.from_residual-in_err-newest.result c.in_err-newest.field-0.0 _ c.from_residual-in_err-newest.ensures.1
    (c.in_err-newest.ensures.given tables (tables_later _ _ tables c.loop-level.invariant.reads.same held)
    (level_files_of cmp g.met.C.Comparator.total v tables (user_of c.args.target.bytes.now) (sequence_of c.args.target.bytes.now) c.loop-level.level items is lawful.apart lawful))

pub returns-then-is_some-clause-given : goal.returns-then-is_some-clause-given
returns-then-is_some-clause-given g c tables held lawful =
    let cmp = g.C.Comparator.cmp in
    let total = g.met.C.Comparator.total in
    let v = c.args.version.now in
    let user = user_of c.args.target.bytes.now in
    let at = sequence_of c.args.target.bytes.now in
    let items = c.deref.result.now in
    let level = c.loop-level.level in
    let is : map (λ (f : Bor FileMeta). f.now) items ≡ in_version_order cmp (files_at v.files level) =
    ap (map (λ (f : Bor FileMeta). f.now)) c.deref.ensures.value ∙ sym (ok_is _ _ c.in_ok-files.ensures.ordered) in
    let there = tables_later _ _ tables c.loop-level.invariant.reads.same held in
    let answer = c.in_ok-newest.ensures.given tables there (level_files_of cmp total v tables user at level items is lawful.apart lawful) in
    found cmp total v tables user at level items is lawful.apart (option_map visible_of c.in_ok-newest.newest) (some_seen c.in_ok-newest.newest c.if-is_some.ensures) answer lawful (c.loop-level.invariant.none tables held lawful)

pub returns-clause-given : goal.returns-clause-given
returns-clause-given g c tables held lawful =
    none_end tables c.args.version.now.files (user_of c.args.target.bytes.now) (sequence_of c.args.target.bytes.now) c.loop-level.level c.loop-level-test.false (c.loop-level.invariant.none tables held lawful)
