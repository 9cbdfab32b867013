use Rattle.std.proofs.Common.{List, sym, ap, ◌∙◌, arith}
use Rattle.reads.specs.Tables.{NumberedContents, table_of_number}
use Rattle.reads.proofs.Places.{sought_at, sought_none, found_there}
use Rattle.reads.proofs.table_places.TablePlaces.table.Goals as goal

pub returns-in_default : goal.returns-in_default
returns-in_default g c =
    sym (sought_none c.self.inside.tables.now c.self.inside.places.entries c.args.number c.self.invariant (sym c.in_default.ensures.value)) ∙ ap (λ (ts : List NumberedContents). table_of_number ts c.args.number) c.self.view_is

pub table_at-requires : goal.table_at-requires
table_at-requires g c =
    let found = sought_at c.self.inside.tables.now c.self.inside.places.entries c.args.number c.in-Some.place.now c.self.invariant (sym c.in-Some.ensures.value) in
    omega (arith, found.within)

pub returns : goal.returns
returns g c =
    let found = sought_at c.self.inside.tables.now c.self.inside.places.entries c.args.number c.in-Some.place.now c.self.invariant (sym c.in-Some.ensures.value) in
    c.table_at.ensures ∙ found_there c.self.inside.tables.now c.args.number c.in-Some.place.now found ∙ ap (λ (ts : List NumberedContents). table_of_number ts c.args.number) c.self.view_is
