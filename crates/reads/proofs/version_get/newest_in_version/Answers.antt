use Rattle.std.proofs.Common.{Bor, ◌≡◌, true, false, Option, Some, None, map, refl, ap, sym, subst, ◌∙◌}
use Rattle.std.specs.List.{flat_map}
use Rattle.std.specs.Option.{option_map, is_some}
use Rattle.ikey.proofs.Binds.{ok_is}
use Rattle.edit.specs.VersionOrder.{in_version_order, files_at}
use Rattle.edit.specs.declared.meta.FileMeta.{FileMeta}
use Rattle.ikey.specs.Key.{user_of, sequence_of}
use Rattle.reads.specs.declared.found_entry.Found.{Found}
use Rattle.reads.specs.Visible.{VisibleEntry, visible_in, IsAnswer}
use Rattle.reads.proofs.Levels.{level_there}
use Rattle.reads.proofs.Versions.{lent_entries, none_begin, none_more, none_end, found, level_files_of}
use Rattle.reads.proofs.version_get.newest_in_version.Goals as goal

none_seen : (o : Option Found) → false ≡ is_some o → option_map visible_in o ≡ None
none_seen None e = refl
none_seen (Some f) e = absurd cc

some_seen : (o : Option Found) → true ≡ is_some o → is_some (option_map visible_in o) ≡ true
some_seen None e = absurd cc
some_seen (Some f) e = refl

pub newest_at_level-requires-clause-there : goal.newest_at_level-requires-clause-there
newest_at_level-requires-clause-there g c =
    let cmp = g.C.Comparator.cmp in
    let files = c.args.version.now.files in
    let is : map (λ (f : Bor FileMeta). f.now) c.deref.result.now ≡ in_version_order cmp (files_at files c.loop-level.level) =
    ap (map (λ (f : Bor FileMeta). f.now)) c.deref.ensures.value ∙ sym (ok_is _ _ c.in_ok-files.ensures.ordered) in
    level_there cmp g.met.C.Comparator.total c.args.tables.now files c.loop-level.level c.deref.result.now is c.requires.there

pub loop-level-init : goal.loop-level-init
loop-level-init g c lawful = none_begin c.args.tables.now c.args.version.now.files (user_of c.args.target.bytes.now) (sequence_of c.args.target.bytes.now)

pub loop-level-preserved : goal.loop-level-preserved
loop-level-preserved g c lawful =
    let cmp = g.C.Comparator.cmp in
    let total = g.met.C.Comparator.total in
    let v = c.args.version.now in
    let tables = c.args.tables.now in
    let user = user_of c.args.target.bytes.now in
    let at = sequence_of c.args.target.bytes.now in
    let items = c.deref.result.now in
    let level = c.loop-level.level in
    let is : map (λ (f : Bor FileMeta). f.now) items ≡ in_version_order cmp (files_at v.files level) =
    ap (map (λ (f : Bor FileMeta). f.now)) c.deref.ensures.value ∙ sym (ok_is _ _ c.in_ok-files.ensures.ordered) in
    let answer = c.in_ok-newest.ensures.found (level_files_of cmp total v tables user at level items is lawful.apart lawful) in
    let none = subst (λ (o : Option VisibleEntry). IsAnswer (flat_map (lent_entries tables) items) user at o) (none_seen c.in_ok-newest.newest c.if-is_some.ensures) answer in
    none_more cmp total v tables user at level items is lawful.apart c.in_ok-files.ensures.state.levels.file_levels none (c.loop-level.invariant lawful)

pub returns-then-is_some-clause-found : goal.returns-then-is_some-clause-found
returns-then-is_some-clause-found g c lawful =
    let cmp = g.C.Comparator.cmp in
    let total = g.met.C.Comparator.total in
    let v = c.args.version.now in
    let tables = c.args.tables.now in
    let user = user_of c.args.target.bytes.now in
    let at = sequence_of c.args.target.bytes.now in
    let items = c.deref.result.now in
    let level = c.loop-level.level in
    let is : map (λ (f : Bor FileMeta). f.now) items ≡ in_version_order cmp (files_at v.files level) =
    ap (map (λ (f : Bor FileMeta). f.now)) c.deref.ensures.value ∙ sym (ok_is _ _ c.in_ok-files.ensures.ordered) in
    let answer = c.in_ok-newest.ensures.found (level_files_of cmp total v tables user at level items is lawful.apart lawful) in
    found cmp total v tables user at level items is lawful.apart (option_map visible_in c.in_ok-newest.newest) (some_seen c.in_ok-newest.newest c.if-is_some.ensures) answer lawful (c.loop-level.invariant lawful)

pub returns-clause-found : goal.returns-clause-found
returns-clause-found g c lawful = none_end c.args.tables.now c.args.version.now.files (user_of c.args.target.bytes.now) (sequence_of c.args.target.bytes.now) c.loop-level.level c.loop-level-test.false (c.loop-level.invariant lawful)
