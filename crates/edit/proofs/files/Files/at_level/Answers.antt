use Rattle.std.proofs.Common.{◌++◌, ℕ, List, Bor, map, true, false, length, eq-eqb, ne_eqb, refl, sym, ap, ◌∙◌}
use Rattle.std.proofs.lemmas.Option.{slice_get_read, slice_get_past}
use Rattle.edit.specs.Version.{are_apart}
use Rattle.edit.specs.VersionOrder.{files_at}
use Rattle.edit.specs.declared.meta.FileMeta.{FileMeta}
use Rattle.edit.specs.declared.meta.NewFile.{NewFile}
use Rattle.edit.proofs.Kept.{by_number_apart}
use Rattle.edit.proofs.Places.{by_number_is, metas_at, met_one, met_none, pushed, passed}
use Rattle.edit.proofs.files.Files.at_level.Goals as goal

pub loop-place-init : goal.loop-place-init
loop-place-init c =
    ap (λ (xs : List (Bor FileMeta)). map (λ (f : Bor FileMeta). f.now) xs ++ metas_at c.as_slice-files.result.now c.into_iter-place-iterator.result c.args.level) c.new-found.ensures.items
    ∙ ap (λ (ps : List (ℕ × ℕ)). metas_at c.as_slice-files.result.now ps c.args.level) (c.into_iter-place-iterator.ensures.into_iter_gives ∙ c.iter-place-items.ensures.rest)
    ∙ ap (λ (fs : List NewFile). metas_at fs c.self.inside.places.entries c.args.level) c.as_slice-files.ensures.value
    ∙ ap (λ (fs : List NewFile). files_at fs c.args.level) c.self.view_is

pub loop-place-preserved-in_default : goal.loop-place-preserved-in_default
loop-place-preserved-in_default c =
    let files = c.as_slice-files.result.now in
    passed c.loop-place.found.items _ _ _ c.loop-place.invariant
    (met_none files c.loop-place.place-iterator c.next.new.self (c.in-Some.field-0-0.now, c.in-Some.place.now) c.args.level c.in-Some.ensures.steps (slice_get_past files c.in-Some.place.now c.in_default.ensures.lookup.3))

pub loop-place-preserved-in-Continue-1 : goal.loop-place-preserved-in-Continue-1
loop-place-preserved-in-Continue-1 c =
    let files = c.as_slice-files.result.now in
    let there = slice_get_read files (length files) c.in-Some.place.now c.in-Some-get.file.now refl c.in-Some-get.ensures.lookup.3.0 c.in-Some-get.ensures.lookup.1 in
    pushed c.loop-place.found.items c.push.new.self.items _ _ _ _ c.in_ok-push.ensures.items c.loop-place.invariant
    (met_one true files c.loop-place.place-iterator c.next.new.self (c.in-Some.field-0-0.now, c.in-Some.place.now) c.in-Some-get.file.now c.args.level c.in-Some.ensures.steps there (eq-eqb _ _ c.if-file-level.true))

pub loop-place-preserved : goal.loop-place-preserved
loop-place-preserved c =
    let files = c.as_slice-files.result.now in
    let there = slice_get_read files (length files) c.in-Some.place.now c.in-Some-get.file.now refl c.in-Some-get.ensures.lookup.3.0 c.in-Some-get.ensures.lookup.1 in
    passed c.loop-place.found.items _ _ _ c.loop-place.invariant
    (met_one false files c.loop-place.place-iterator c.next.new.self (c.in-Some.field-0-0.now, c.in-Some.place.now) c.in-Some-get.file.now c.args.level c.in-Some.ensures.steps there (ne_eqb _ _ c.if-file-level.false))

pub returns-in_err-push-clause-apart : goal.returns-in_err-push-clause-apart
returns-in_err-push-clause-apart c = sym (ap are_apart c.self.view_is) ∙ by_number_apart _ (by_number_is c.self.inside.files.items c.self.inside.places.entries c.self.invariant)

pub returns-clause-apart : goal.returns-clause-apart
returns-clause-apart c = sym (ap are_apart c.self.view_is) ∙ by_number_apart _ (by_number_is c.self.inside.files.items c.self.inside.places.entries c.self.invariant)
