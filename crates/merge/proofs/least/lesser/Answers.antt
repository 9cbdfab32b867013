use Rattle.std.proofs.Common.{List, map, take, length, Some, ◌<◌, refl, sym, ap, subst, ◌∙◌, arith}
use Rattle.std.specs.Ordering.{is_lt}
use Rattle.std.proofs.lemmas.List.{length-map}
use Rattle.table.specs.EncodedEntry.{Entry}
use Rattle.table.proofs.Walks.{none_valid}
use Rattle.merge.specs.LeastList.{IsMerging}
use Rattle.merge.proofs.Leasts.{at_place, least_within, least_has, passes_empty, finds_first, finds_lesser, keeps_least}
use Rattle.merge.proofs.least.lesser.Goals as goal

pub returns-then-not-valid : goal.returns-then-not-valid
returns-then-not-valid g c =
    let lists : List (List Entry) = map g.S.Entries.remaining c.args.cursors.now in
    let list : List Entry = g.S.Entries.remaining c.index-cursors-place.result in
    let here = at_place g.S.Entries.remaining c.args.cursors.now c.args.place c.index-cursors-place.result c.requires.within c.index-cursors-place.is in
    passes_empty g.C.Comparator.cmp lists c.args.place list c.args.least here c.valid.ensures.ordered (none_valid c.valid.result list c.valid.ensures.some.1 c.if-not-valid.true) c.requires.merging

pub returns-in_default : goal.returns-in_default
returns-in_default g c =
    let lists : List (List Entry) = map g.S.Entries.remaining c.args.cursors.now in
    let list : List Entry = g.S.Entries.remaining c.index-cursors-place.result in
    let here = at_place g.S.Entries.remaining c.args.cursors.now c.args.place c.index-cursors-place.result c.requires.within c.index-cursors-place.is in
    finds_first g.C.Comparator.cmp lists c.args.place list here c.valid.ensures.ordered (c.valid.ensures.some.0 c.if-not-valid.false)
    (subst (IsMerging g.C.Comparator.cmp (take c.args.place lists)) c.in_default.is c.requires.merging)

pub offset_bounds-cursors-other : goal.offset_bounds-cursors-other
offset_bounds-cursors-other g c =
    let lists : List (List Entry) = map g.S.Entries.remaining c.args.cursors.now in
    let m : IsMerging g.C.Comparator.cmp (take c.args.place lists) (Some c.in-Some.other) = subst (IsMerging g.C.Comparator.cmp (take c.args.place lists)) c.in-Some.is c.requires.merging in
    omega (arith, least_within g.C.Comparator.cmp lists c.args.place c.in-Some.other m.least, length-map c.args.cursors.now g.S.Entries.remaining)

pub bounds-cursors-other : goal.bounds-cursors-other
bounds-cursors-other g c =
    let lists : List (List Entry) = map g.S.Entries.remaining c.args.cursors.now in
    let m : IsMerging g.C.Comparator.cmp (take c.args.place lists) (Some c.in-Some.other) = subst (IsMerging g.C.Comparator.cmp (take c.args.place lists)) c.in-Some.is c.requires.merging in
    omega (arith, least_within g.C.Comparator.cmp lists c.args.place c.in-Some.other m.least, length-map c.args.cursors.now g.S.Entries.remaining)

pub key-other_key-requires : goal.key-other_key-requires
key-other_key-requires g c κs =
    let lists : List (List Entry) = map g.S.Entries.remaining c.args.cursors.now in
    let m : IsMerging g.C.Comparator.cmp (take c.args.place lists) (Some c.in-Some.other) = subst (IsMerging g.C.Comparator.cmp (take c.args.place lists)) c.in-Some.is c.requires.merging in
    let within : c.in-Some.other < length c.args.cursors.now = omega (arith, least_within g.C.Comparator.cmp lists c.args.place c.in-Some.other m.least, length-map c.args.cursors.now g.S.Entries.remaining) in
    let there = at_place g.S.Entries.remaining c.args.cursors.now c.in-Some.other c.index-cursors-other.result within c.index-cursors-other.is in
    ((refl, tt), least_has g.C.Comparator.cmp lists c.args.place c.in-Some.other (g.S.Entries.remaining c.index-cursors-other.result) m there)

pub returns-then-is_lt : goal.returns-then-is_lt
returns-then-is_lt g c =
    let lists : List (List Entry) = map g.S.Entries.remaining c.args.cursors.now in
    let list : List Entry = g.S.Entries.remaining c.index-cursors-place.result in
    let old : List Entry = g.S.Entries.remaining c.index-cursors-other.result in
    let m : IsMerging g.C.Comparator.cmp (take c.args.place lists) (Some c.in-Some.other) = subst (IsMerging g.C.Comparator.cmp (take c.args.place lists)) c.in-Some.is c.requires.merging in
    let within : c.in-Some.other < length c.args.cursors.now = omega (arith, least_within g.C.Comparator.cmp lists c.args.place c.in-Some.other m.least, length-map c.args.cursors.now g.S.Entries.remaining) in
    let here = at_place g.S.Entries.remaining c.args.cursors.now c.args.place c.index-cursors-place.result c.requires.within c.index-cursors-place.is in
    let there = at_place g.S.Entries.remaining c.args.cursors.now c.in-Some.other c.index-cursors-other.result within c.index-cursors-other.is in
    finds_lesser g.C.Comparator.cmp g.met.C.Comparator.total lists c.args.place c.in-Some.other list old c.key-key.result.bytes.now c.key-other_key.result.bytes.now here there c.valid.ensures.ordered m c.key-key.ensures c.key-other_key.ensures
    (ap is_lt (sym c.compare.ensures.order) ∙ sym c.is_lt.ensures ∙ c.if-is_lt.true)

pub returns-else-is_lt : goal.returns-else-is_lt
returns-else-is_lt g c =
    let lists : List (List Entry) = map g.S.Entries.remaining c.args.cursors.now in
    let list : List Entry = g.S.Entries.remaining c.index-cursors-place.result in
    let old : List Entry = g.S.Entries.remaining c.index-cursors-other.result in
    let m : IsMerging g.C.Comparator.cmp (take c.args.place lists) (Some c.in-Some.other) = subst (IsMerging g.C.Comparator.cmp (take c.args.place lists)) c.in-Some.is c.requires.merging in
    let within : c.in-Some.other < length c.args.cursors.now = omega (arith, least_within g.C.Comparator.cmp lists c.args.place c.in-Some.other m.least, length-map c.args.cursors.now g.S.Entries.remaining) in
    let here = at_place g.S.Entries.remaining c.args.cursors.now c.args.place c.index-cursors-place.result c.requires.within c.index-cursors-place.is in
    let there = at_place g.S.Entries.remaining c.args.cursors.now c.in-Some.other c.index-cursors-other.result within c.index-cursors-other.is in
    keeps_least g.C.Comparator.cmp g.met.C.Comparator.total lists c.args.place c.in-Some.other list old c.key-key.result.bytes.now c.key-other_key.result.bytes.now here there c.valid.ensures.ordered m c.key-key.ensures c.key-other_key.ensures
    (ap is_lt (sym c.compare.ensures.order) ∙ sym c.is_lt.ensures ∙ c.if-is_lt.false)
