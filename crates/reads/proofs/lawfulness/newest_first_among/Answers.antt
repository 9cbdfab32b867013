use Rattle.std.proofs.Common.{Bor, Vec, Global, ◌≡◌, ℕ, List, Option, map, sym, subst, ◌∙◌, ap}
use Rattle.std.specs.List.{All}
use Rattle.table.specs.EncodedEntry.{Entry}
use Rattle.table.specs.TableContents.{Contents}
use Rattle.reads.specs.declared.level_file.LevelFile.{LevelFile}
use Rattle.reads.specs.Tables.{table_entries}
use Rattle.reads.specs.FileChecks.{IsStatedFile, AreListed, AreInTurn}
use Rattle.reads.specs.Lawful.{IsUnlawful}
use Rattle.reads.specs.TableOrder.{AreStanding}
use Rattle.reads.proofs.Got.{given_or_memory}
use Rattle.reads.proofs.Listed.{each_there, listed_lawful, not_lawful, listed_stated, listed_in_turn, listed_fall}
use Rattle.reads.proofs.lawfulness.newest_first_among.Goals as goal

pub are_as_stated-requires : goal.are_as_stated-requires
are_as_stated-requires g c =
    let listing = subst (AreListed g.C.Comparator.cmp c.args.version.now.files) (sym c.deref.ensures.value) c.in_ok-files.ensures.listed in
    each_there g.C.Comparator.cmp g.met.C.Comparator.total c.args.version.now c.args.tables.now c.deref.result.now listing c.in_ok-tables_test.ensures

pub returns-then-not-are_as_stated : goal.returns-then-not-are_as_stated
returns-then-not-are_as_stated g c =
    let cmp = g.C.Comparator.cmp in
    let v = c.args.version.now in
    let tables = c.args.tables.now in
    let items = c.deref.result.now in
    let listing = subst (AreListed cmp v.files) (sym c.deref.ensures.value) c.in_ok-files.ensures.listed in
    let Stated : Option ℕ → Type 0 = λ next. All (λ (f : LevelFile). IsStatedFile cmp tables next f.meta.now) items in
    not_lawful cmp g.met.C.Comparator.total v tables items listing (Stated c.next_file.result) c.are_as_stated.result c.of.result c.in_ok-tables_test.ensures c.of.ensures c.are_as_stated.ensures.1 c.if-not-are_as_stated.true
    (λ lawful. subst Stated (sym c.next_file.ensures) (listed_stated cmp g.met.C.Comparator.total v tables items listing lawful))

pub returns-then-not-are_in_turn : goal.returns-then-not-are_in_turn
returns-then-not-are_in_turn g c =
    let cmp = g.C.Comparator.cmp in
    let v = c.args.version.now in
    let tables = c.args.tables.now in
    let items = c.deref-2.result.now in
    let listing = subst (AreListed cmp v.files) (sym c.deref-2.ensures.value) c.in_ok-files.ensures.listed in
    not_lawful cmp g.met.C.Comparator.total v tables items listing (AreInTurn cmp items) c.are_in_turn.result c.of-then-not-are_in_turn.result c.in_ok-tables_test.ensures c.of-then-not-are_in_turn.ensures c.are_in_turn.ensures.1 c.if-not-are_in_turn.true
    (λ lawful. listed_in_turn cmp g.met.C.Comparator.total v tables items listing lawful)

pub returns : goal.returns
returns g c =
    let cmp = g.C.Comparator.cmp in
    let v = c.args.version.now in
    let tables = c.args.tables.now in
    let items = c.in_ok-files.files.items in
    let turn : AreInTurn cmp items = subst (AreInTurn cmp) c.deref-2.ensures.value (c.are_in_turn.ensures.0 c.if-not-are_in_turn.false) in
    let stated = subst (λ (l : List LevelFile). All (λ (f : LevelFile). IsStatedFile cmp tables c.next_file.result f.meta.now) l) c.deref.ensures.value (c.are_as_stated.ensures.0 c.if-not-are_as_stated.false) in
    let as_stated = subst (λ (next : Option ℕ). All (λ (f : LevelFile). IsStatedFile cmp tables next f.meta.now) items) c.next_file.ensures stated in
    given_or_memory c.tables_of.result (λ (found : Vec (Bor Contents) Global). map (λ t. t.now.entries) found.items ≡ map (λ (f : LevelFile). table_entries tables f.meta.now.number) c.deref-3.result.now) (λ (found : Vec (Bor Contents) Global). AreStanding cmp v tables (map (λ t. t.now.entries) found.items)) (IsUnlawful cmp v tables)
    (λ found held.
    let lists : List (List Entry) = map (λ t. t.now.entries) found.items in
    let are : lists ≡ map (λ (f : LevelFile). table_entries tables f.meta.now.number) items = held ∙ ap (map (λ (f : LevelFile). table_entries tables f.meta.now.number)) c.deref-3.ensures.value in
    record {
      there = c.in_ok-tables_test.ensures;
      lawful = (
        λ lawful. listed_fall cmp g.met.C.Comparator.total v tables items c.in_ok-files.ensures.listed lawful turn lists are,
        λ falling. listed_lawful cmp g.met.C.Comparator.total v tables items c.in_ok-files.ensures.listed as_stated turn lists are falling,
      );
    })
    c.tables_of.ensures.tables c.tables_of.ensures.memory
