use Rattle.std.proofs.Common.{◌∙◌, ℕ, length, BTreeMap, Option, refl, sym, ap}
use Rattle.std.specs.BTreeMap.{is_at}
use Rattle.std.specs.Ordering.{nat_cmp}
use Rattle.std.proofs.lemmas.Option.{slice_get_read, slice_get_past}
use Rattle.edit.specs.FilePlaces.{with_place_of}
use Rattle.edit.specs.declared.meta.NewFile.{NewFile}
use Rattle.edit.proofs.Moved.{set_none}
use Rattle.edit.proofs.files.set_place.Goals as goal

pub returns-in_default-get_mut : goal.returns-in_default-get_mut
returns-in_default-get_mut c =
    let files = c.args.files.now in
    let ps = c.args.places.now.entries in
    ap (λ (m : BTreeMap ℕ ℕ). m.entries) c.get_mut.follows.holds-at-none
    ∙ sym (set_none (is_at (nat_cmp c.in-Some.file.now.meta.number)) ps c.args.place (sym c.in_default-get_mut.ensures.value))
    ∙ ap (λ (o : Option NewFile). with_place_of o c.args.place ps) (sym (slice_get_read files (length files) c.args.place c.in-Some.file.now refl c.in-Some.ensures.lookup.3.0 c.in-Some.ensures.lookup.1))

pub returns-in_default : goal.returns-in_default
returns-in_default c = ap (λ (o : Option NewFile). with_place_of o c.args.place c.args.places.now.entries) (sym (slice_get_past c.args.files.now c.args.place c.in_default.ensures.lookup.3))
