use Rattle.std.proofs.Common.{Bor, ◌≡◌, ℕ, ◌<◌, ◌++◌, List, Some, length, map, refl, sym, ap, subst, ◌∙◌, arith}
use Rattle.std.specs.Option.{option_map}
use Rattle.std.proofs.lemmas.List.{length-map}
use Rattle.table.specs.EncodedEntry.{Entry}
use Rattle.table.specs.Key.{user_of}
use Rattle.merge.specs.LeastList.{IsMerging}
use Rattle.merge.specs.MergedLists.{entries_of_lists}
use Rattle.merge.proofs.Leasts.{at_place, least_some, place_within}
use Rattle.faults.specs.KeyWalk.{IsNextUser}
use Rattle.faults.proofs.NextUsers.{all_far, next_is, none_left, own_key}
use Rattle.faults.proofs.key_walk.next_user.Goals as goal

pub returns-in_default-clause-none : goal.returns-in_default-clause-none
returns-in_default-clause-none g c same =
    let cmp = g.C.Comparator.cmp in
    let lists : List (List Entry) = map g.S.Entries.remaining c.args.files.now in
    none_left cmp (option_map (λ limit. limit.now) c.args.upper) lists (subst (IsMerging cmp lists) c.in_default.is c.least_place.ensures)

pub offset_bounds-files-place : goal.offset_bounds-files-place
offset_bounds-files-place g c =
    let cmp = g.C.Comparator.cmp in
    let lists : List (List Entry) = map g.S.Entries.remaining c.args.files.now in
    let within : c.in-Some.place < length lists = place_within cmp lists c.in-Some.place (subst (IsMerging cmp lists) c.in-Some.is c.least_place.ensures) in
    omega (arith, within, length-map c.args.files.now g.S.Entries.remaining)

pub bounds-files-place : goal.bounds-files-place
bounds-files-place g c =
    let cmp = g.C.Comparator.cmp in
    let lists : List (List Entry) = map g.S.Entries.remaining c.args.files.now in
    let within : c.in-Some.place < length lists = place_within cmp lists c.in-Some.place (subst (IsMerging cmp lists) c.in-Some.is c.least_place.ensures) in
    omega (arith, within, length-map c.args.files.now g.S.Entries.remaining)

pub key-requires : goal.key-requires
key-requires g c κs =
    let cmp = g.C.Comparator.cmp in
    let lists : List (List Entry) = map g.S.Entries.remaining c.args.files.now in
    let place : ℕ = c.in-Some.place in
    let m : IsMerging cmp lists (Some place) = subst (IsMerging cmp lists) c.in-Some.is c.least_place.ensures in
    let within : place < length c.args.files.now = omega (arith, place_within cmp lists place m, length-map c.args.files.now g.S.Entries.remaining) in (
      (refl, tt),
      least_some cmp lists place (g.S.Entries.remaining c.index-files-place.result) m (at_place g.S.Entries.remaining c.args.files.now place c.index-files-place.result within c.index-files-place.is),
    )

pub returns-in_ok-extend_from_slice-clause-some : goal.returns-in_ok-extend_from_slice-clause-some
returns-in_ok-extend_from_slice-clause-some g c within_upper =
    let cmp = g.C.Comparator.cmp in
    let lists : List (List Entry) = map g.S.Entries.remaining c.args.files.now in
    let place : ℕ = c.in-Some.place in
    let upper = option_map (λ (limit : Bor (List ℕ)). limit.now) c.args.upper in
    let m : IsMerging cmp lists (Some place) = subst (IsMerging cmp lists) c.in-Some.is c.least_place.ensures in
    let within : place < length c.args.files.now = omega (arith, place_within cmp lists place m, length-map c.args.files.now g.S.Entries.remaining) in
    let key : m.least.first.key ≡ c.key.result.bytes.now = own_key cmp lists place m (g.S.Entries.remaining c.index-files-place.result) c.key.result.bytes.now (at_place g.S.Entries.remaining c.args.files.now place c.index-files-place.result within c.index-files-place.is) c.key.ensures in
    let user : user_of m.least.first.key ≡ c.user-next.result.now = ap user_of key ∙ sym c.user-next.ensures in
    let made : c.extend_from_slice.new.self.items ≡ c.user-next.result.now = c.in_ok-extend_from_slice.ensures.items ∙ ap (λ (xs : List ℕ). xs ++ c.user-next.result.now) c.clear.ensures.items in
    subst (IsNextUser cmp upper (entries_of_lists lists)) (sym made)
    (next_is cmp g.met.C.Comparator.total g.met.C.Comparator.exact lists place m c.user-next.result.now user upper (sym c.is_before-is_within.ensures ∙ within_upper))

pub returns-else-is_within-clause-none : goal.returns-else-is_within-clause-none
returns-else-is_within-clause-none g c without =
    let cmp = g.C.Comparator.cmp in
    let lists : List (List Entry) = map g.S.Entries.remaining c.args.files.now in
    let place : ℕ = c.in-Some.place in
    let upper = option_map (λ (limit : Bor (List ℕ)). limit.now) c.args.upper in
    let m : IsMerging cmp lists (Some place) = subst (IsMerging cmp lists) c.in-Some.is c.least_place.ensures in
    let within : place < length c.args.files.now = omega (arith, place_within cmp lists place m, length-map c.args.files.now g.S.Entries.remaining) in
    let key : m.least.first.key ≡ c.key.result.bytes.now = own_key cmp lists place m (g.S.Entries.remaining c.index-files-place.result) c.key.result.bytes.now (at_place g.S.Entries.remaining c.args.files.now place c.index-files-place.result within c.index-files-place.is) c.key.ensures in
    let user : user_of m.least.first.key ≡ c.user-next.result.now = ap user_of key ∙ sym c.user-next.ensures in
    all_far cmp g.met.C.Comparator.total g.met.C.Comparator.exact lists place m c.user-next.result.now user upper (sym c.is_before-is_within.ensures ∙ without)
