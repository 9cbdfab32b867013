use Rattle.std.proofs.Common.{◌<◌, ℕ, List, [], ◌∷◌, vec_len, slice_get, sym, ap, subst, ◌∙◌}
use Rattle.std.proofs.lemmas.Option.{slice_get_read}
use Rattle.edit.specs.FilePlaces.{AreFilePlaces, with_place_of}
use Rattle.edit.specs.Version.{has_place, undeleted_files}
use Rattle.edit.specs.declared.meta.NewFile.{NewFile}
use Rattle.edit.proofs.Places.{is_within}
use Rattle.edit.proofs.Moved.{TakesOne, is_swapped, left_as, placed_left, stands_there, stands_nowhere, others_left}
use Rattle.edit.proofs.files.Files.take_out.Goals as goal

pub swap_remove-file-requires : goal.swap_remove-file-requires
swap_remove-file-requires c =
    subst (λ (n : ℕ). c.in-Some.spot < n) (sym c.self.inside.files.ok.0) (is_within c.self.inside.files.items c.self.inside.places.entries c.args.place.number c.in-Some.spot c.self.invariant (sym c.remove.ensures.value ∙ c.in-Some.is))

pub invariant_of-self : goal.invariant_of-self
invariant_of-self c =
    let files = c.self.inside.files.items in
    let ps = c.self.inside.places.entries in
    let after = c.swap_remove-file.new.self.items in
    let number = c.args.place.number in
    let spot = c.in-Some.spot in
    let under = sym c.remove.ensures.value ∙ c.in-Some.is in
    let low = subst (λ (n : ℕ). spot < n) (sym c.self.inside.files.ok.0) (is_within files ps number spot c.self.invariant under) in
    let left_so : TakesOne files after ps number spot (vec_len c.swap_remove-file.new.self) = record {
      placed_so = c.self.invariant;
      under = under;
      swapped = is_swapped files after c.swap_remove-file.result (vec_len c.self.inside.files) (vec_len c.swap_remove-file.new.self) spot c.self.inside.files.ok.0 c.swap_remove-file.new.self.ok.0 c.swap_remove-file.ensures.len low c.swap_remove-file.ensures.by_index.0 c.swap_remove-file.ensures.by_index.1;
    } in
    let as_set = left_as after ps c.remove.new.self.entries c.set_place.new.places.entries number spot
    (c.set_place.ensures ∙ ap (λ (fs : List NewFile). with_place_of (slice_get fs spot) spot c.remove.new.self.entries) c.deref.ensures.value) c.remove.ensures.entries in
    subst (AreFilePlaces after) (sym as_set) (placed_left files after ps number spot (vec_len c.swap_remove-file.new.self) left_so)

pub returns-in-Some-clause-there : goal.returns-in-Some-clause-there
returns-in-Some-clause-there c =
    let files = c.self.inside.files.items in
    let ps = c.self.inside.places.entries in
    let after = c.swap_remove-file.new.self.items in
    let number = c.args.place.number in
    let spot = c.in-Some.spot in
    let under = sym c.remove.ensures.value ∙ c.in-Some.is in
    let low = subst (λ (n : ℕ). spot < n) (sym c.self.inside.files.ok.0) (is_within files ps number spot c.self.invariant under) in
    let stands = stands_there files ps c.args.place spot c.swap_remove-file.result c.self.invariant under (slice_get_read files (vec_len c.self.inside.files) spot c.swap_remove-file.result c.self.inside.files.ok.0 low c.swap_remove-file.ensures.value) in
    stands ∙ ap (λ (fs : List NewFile). has_place fs c.args.place) c.self.view_is

pub returns-in-Some-clause-others : goal.returns-in-Some-clause-others
returns-in-Some-clause-others c =
    let files = c.self.inside.files.items in
    let ps = c.self.inside.places.entries in
    let after = c.swap_remove-file.new.self.items in
    let number = c.args.place.number in
    let spot = c.in-Some.spot in
    let under = sym c.remove.ensures.value ∙ c.in-Some.is in
    let low = subst (λ (n : ℕ). spot < n) (sym c.self.inside.files.ok.0) (is_within files ps number spot c.self.invariant under) in
    let left_so : TakesOne files after ps number spot (vec_len c.swap_remove-file.new.self) = record {
      placed_so = c.self.invariant;
      under = under;
      swapped = is_swapped files after c.swap_remove-file.result (vec_len c.self.inside.files) (vec_len c.swap_remove-file.new.self) spot c.self.inside.files.ok.0 c.swap_remove-file.new.self.ok.0 c.swap_remove-file.ensures.len low c.swap_remove-file.ensures.by_index.0 c.swap_remove-file.ensures.by_index.1;
    } in
    let as_set = left_as after ps c.remove.new.self.entries c.set_place.new.places.entries number spot
    (c.set_place.ensures ∙ ap (λ (fs : List NewFile). with_place_of (slice_get fs spot) spot c.remove.new.self.entries) c.deref.ensures.value) c.remove.ensures.entries in
    let stands = stands_there files ps c.args.place spot c.swap_remove-file.result c.self.invariant under (slice_get_read files (vec_len c.self.inside.files) spot c.swap_remove-file.result c.self.inside.files.ok.0 low c.swap_remove-file.ensures.value) in
    λ yes. others_left files after ps c.set_place.new.places.entries c.args.place spot (vec_len c.swap_remove-file.new.self) left_so as_set (sym stands ∙ yes) ∙ ap (undeleted_files (c.args.place ∷ [])) c.self.view_is

pub returns-in-None-clause-there : goal.returns-in-None-clause-there
returns-in-None-clause-there c =
    stands_nowhere c.self.inside.files.items c.self.inside.places.entries c.args.place c.self.invariant (sym c.remove.ensures.value ∙ c.in-None.is) ∙ ap (λ (fs : List NewFile). has_place fs c.args.place) c.self.view_is
