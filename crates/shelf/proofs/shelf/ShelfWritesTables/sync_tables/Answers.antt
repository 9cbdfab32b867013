use Rattle.std.proofs.Common.{◌≡◌, ℕ, List, [], ◌∷◌, Option, Some, None, IfSome, map, refl, ap, ◌∙◌}
use Rattle.std.specs.Global.{Vec}
use Rattle.folder.specs.Calls.{Written, step_of}
use Rattle.std.specs.List.{AllZip}
use Rattle.folder.specs.TableFiles.{named_tables}
use Rattle.shelf.specs.Shelf.{held_by}
use Rattle.shelf.proofs.ShelfLemmas.{handed_on, lent, told, wrote}
use Rattle.shelf.proofs.shelf.ShelfWritesTables.sync_tables.Goals as goal

-- what a folder in memory makes of tables is these tables
made_is : (made : List (ℕ × Vec ℕ)) (tables : List (ℕ × List ℕ)) → AllZip (λ (m : ℕ × Vec ℕ) (t : ℕ × List ℕ). (m.0, m.1.items) ≡ t) made tables
    → map (λ (m : ℕ × Vec ℕ). (m.0, m.1.items)) made ≡ tables
made_is [] [] are = refl
made_is [] (table ∷ tables) are = absurd are
made_is (one ∷ made) [] are = absurd are
made_is (one ∷ made) (table ∷ tables) are =
    ap (λ (t : ℕ × List ℕ). t ∷ map (λ (m : ℕ × Vec ℕ). (m.0, m.1.items)) made) are.0 ∙ ap (λ (ts : List (ℕ × List ℕ)). table ∷ ts) (made_is made tables are.1)

-- what was made, if all were, is the tables
all_are : (made : Option (Vec (ℕ × Vec ℕ))) (tables : List (ℕ × List ℕ)) → IfSome made (λ m. AllZip (λ (m : ℕ × Vec ℕ) (t : ℕ × List ℕ). (m.0, m.1.items) ≡ t) m.items tables)
    → IfSome made (λ m. map (λ (t : ℕ × Vec ℕ). (t.0, t.1.items)) m.items ≡ tables)
all_are None tables are = tt
all_are (Some made) tables are = made_is made.items tables are

pub returns-clause-change : goal.returns-clause-change
returns-clause-change g c =
    let tables = c.args.tables.now.tables in
    let made = c.record_made-answer in
    let call = Written (named_tables tables) in
    let files = lent c.self.inside.start.now in
    handed_on call c.wrote.result made.result (told (held_by c.args.self.now)) files made.new.self c.wrote.new.self c.wrote.ensures.answer c.wrote.ensures.steps
    (wrote (step_of call made.result) files c.self.inside.history made.new.self c.args.self.now c.self.view_is (made.ensures.change tables (all_are c.args.made tables c.requires)))
