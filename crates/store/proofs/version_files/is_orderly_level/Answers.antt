use Rattle.std.proofs.Common.{Bor, Option, ◌≡◌, ℕ, List, map, true, refl, sym, subst, ◌∙◌, arith}
use Rattle.std.specs.List.{All}
use Rattle.std.proofs.lemmas.List.Elements.{All-map}
use Rattle.folder.proofs.Binds.{ok_is}
use Rattle.folder.specs.VersionOrder.{level_files}
use Rattle.folder.specs.meta.FileMeta.{FileMeta}
use Rattle.reads.specs.Lawful.{IsBelowNextFile}
use Rattle.store.specs.InputsCompaction.{RangesRise}
use Rattle.store.specs.LentFiles.{LentRangesRise}
use Rattle.store.proofs.LentRises.{all_lent, from_lent, to_lent}
use Rattle.store.proofs.version_files.is_orderly_level.Goals as goal

pub returns-then-not-are_below-clause-orderly : goal.returns-then-not-are_below-clause-orderly
returns-then-not-are_below-clause-orderly g c =
    let v = c.args.version.now in
    let files = c.in_ok-files.files.items in
    let is : map (λ (f : Bor FileMeta). f.now) files ≡ level_files g.C.Comparator.cmp v c.args.level = sym (ok_is _ _ c.in_ok-files.ensures.ordered) in (
      λ e. absurd (cc e),
      λ h.
          let all = all_lent (IsBelowNextFile v.next_file) files (subst (All (λ (f : FileMeta). IsBelowNextFile v.next_file f.number)) (sym is) h.below_next) in
          let lent = subst (λ (fs : List (Bor FileMeta)). All (λ f. IsBelowNextFile v.next_file f.now.number) fs) (sym c.deref.ensures.value) all in
          let passed = c.are_below.ensures.1 (subst (λ (next : Option ℕ). All (λ f. IsBelowNextFile next f.now.number) c.deref.result.now) (sym c.next_file.ensures) lent) in
          let both = sym passed ∙ c.if-not-are_below.true in
          absurd (cc both),
    )

pub returns-then-level-eq0-clause-orderly : goal.returns-then-level-eq0-clause-orderly
returns-then-level-eq0-clause-orderly g c =
    let v = c.args.version.now in
    let files = c.in_ok-files.files.items in
    let top = c.if-level-eq0.true in
    let is : map (λ (f : Bor FileMeta). f.now) files ≡ level_files g.C.Comparator.cmp v c.args.level = sym (ok_is _ _ c.in_ok-files.ensures.ordered) in
    let passed = c.are_below.ensures.0 c.if-not-are_below.false in
    let own = subst (λ (next : Option ℕ). All (λ f. IsBelowNextFile next f.now.number) c.deref.result.now) c.next_file.ensures passed in
    let lent = subst (λ (fs : List (Bor FileMeta)). All (λ f. IsBelowNextFile v.next_file f.now.number) fs) c.deref.ensures.value own in (
      λ e. record {
        below_next = subst (All (λ (f : FileMeta). IsBelowNextFile v.next_file f.number)) is (All-map (λ (f : FileMeta). IsBelowNextFile v.next_file f.number) (λ (f : Bor FileMeta). f.now) files lent);
        rising = λ deep. absurd (omega (arith, top, deep));
      },
      λ h. refl,
    )

pub returns-clause-orderly : goal.returns-clause-orderly
returns-clause-orderly g c =
    let cmp = g.C.Comparator.cmp in
    let v = c.args.version.now in
    let files = c.in_ok-files.files.items in
    let deep = c.if-level-eq0.false in
    let is : map (λ (f : Bor FileMeta). f.now) files ≡ level_files cmp v c.args.level = sym (ok_is _ _ c.in_ok-files.ensures.ordered) in
    let passed = c.are_below.ensures.0 c.if-not-are_below.false in
    let own = subst (λ (next : Option ℕ). All (λ f. IsBelowNextFile next f.now.number) c.deref.result.now) c.next_file.ensures passed in
    let lent = subst (λ (fs : List (Bor FileMeta)). All (λ f. IsBelowNextFile v.next_file f.now.number) fs) c.deref.ensures.value own in (
      λ e. record {
        below_next = subst (All (λ (f : FileMeta). IsBelowNextFile v.next_file f.number)) is (All-map (λ (f : FileMeta). IsBelowNextFile v.next_file f.number) (λ (f : Bor FileMeta). f.now) files lent);
        rising = λ low. subst (RangesRise cmp) is (from_lent cmp files (subst (LentRangesRise cmp) c.deref-2.ensures.value (c.ranges_rise.ensures.0 e)));
      },
      λ h. c.ranges_rise.ensures.1 (subst (LentRangesRise cmp) (sym c.deref-2.ensures.value) (to_lent cmp files (subst (RangesRise cmp) (sym is) (h.rising (omega (arith, deep)))))),
    )
