use Rattle.std.proofs.Common.{Bor, ◌≡◌, ℕ, map, ap, sym, subst, ◌∙◌, arith}
use Rattle.ikey.proofs.Binds.{ok_is, failed}
use Rattle.ikey.proofs.Refusals.{FailsOrMemory-from}
use Rattle.edit.specs.VersionOrder.{in_version_order, files_at}
use Rattle.edit.specs.declared.meta.FileMeta.{FileMeta}
use Rattle.reads.specs.Tables.{tables_test}
use Rattle.reads.proofs.Levels.{HaveTables, none_tested, level_tested, all_tested, one_missing}
use Rattle.reads.proofs.table_search.tables_test.Goals as goal

pub loop-level-init : goal.loop-level-init
loop-level-init g c = none_tested c.args.tables.now c.args.version.now.files

pub loop-level-preserved : goal.loop-level-preserved
loop-level-preserved g c =
    let cmp = g.C.Comparator.cmp in
    let files = c.args.version.now.files in
    let is : map (λ (f : Bor FileMeta). f.now) c.deref.result.now ≡ in_version_order cmp (files_at files c.loop-level.level) =
    ap (map (λ (f : Bor FileMeta). f.now)) c.deref.ensures.value ∙ sym (ok_is _ _ c.in_ok-files.ensures.ordered) in
    level_tested cmp g.met.C.Comparator.total c.args.tables.now files c.loop-level.level c.deref.result.now is c.in_ok-files.ensures.state.apart c.in_ok-files.ensures.state.levels.file_levels (sym c.have_tables.ensures ∙ c.if-not-have_tables.false)
    c.loop-level.invariant

pub returns-then-not-have_tables : goal.returns-then-not-have_tables
returns-then-not-have_tables g c =
    let cmp = g.C.Comparator.cmp in
    let files = c.args.version.now.files in
    let is : map (λ (f : Bor FileMeta). f.now) c.deref.result.now ≡ in_version_order cmp (files_at files c.loop-level.level) =
    ap (map (λ (f : Bor FileMeta). f.now)) c.deref.ensures.value ∙ sym (ok_is _ _ c.in_ok-files.ensures.ordered) in
    let missing = one_missing cmp g.met.C.Comparator.total c.args.tables.now files c.loop-level.level c.deref.result.now is (sym c.have_tables.ensures ∙ c.if-not-have_tables.true) in
    FailsOrMemory-from c.of.result (tables_test c.args.tables.now files) (missing ∙ ap failed (sym c.of.ensures))

pub returns : goal.returns
returns g c =
    let end : c.loop-level.level ≡ 7 = omega arith in
    all_tested c.args.tables.now c.args.version.now.files (subst (λ (n : ℕ). HaveTables c.args.tables.now c.args.version.now.files n) end c.loop-level.invariant)
