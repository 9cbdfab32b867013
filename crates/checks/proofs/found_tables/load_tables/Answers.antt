use Rattle.std.proofs.Common.{Vec, Global, ℕ, List, Option, Ok, Err, map, subst}
use Rattle.std.specs.Option.{option_map}
use Rattle.ikey.specs.Answers.{fault}
use Rattle.ikey.specs.fault.FaultName.TheVariants.{Missing}
use Rattle.reads.specs.Tables.{NumberedContents}
use Rattle.checks.specs.TablePlaces.{IsLoadedIfThere}
use Rattle.checks.proofs.FolderTests.{loaded_in}
use Rattle.checks.proofs.FoundTables.{none_missing}
use Rattle.checks.proofs.HeldAnswers.{read_held}
use Rattle.checks.proofs.Lent.{lent_table}
use Rattle.checks.proofs.ReadTables.{read_answers, read_numbered}
use Rattle.checks.proofs.found_tables.load_tables.Goals as goal

pub returns-in_default-clause-answer : goal.returns-in_default-clause-answer
returns-in_default-clause-answer g c files told =
    let tells = g.F.Folder.tells c.args.folder.now in
    let numbers : List ℕ = c.args.numbers.now in
    none_missing g.C.Comparator.cmp files numbers (fault Missing) (loaded_in tells files numbers (Err (fault Missing)) told
    (subst (λ (o : Option (Vec (ℕ × Vec ℕ Global) Global)). IsLoadedIfThere tells numbers (Ok (option_map (λ v. map lent_table v.items) o))) c.in_default.is c.in_ok-loaded.ensures.answer))

pub returns-clause-answer : goal.returns-clause-answer
returns-clause-answer g c files told =
    let tells = g.F.Folder.tells c.args.folder.now in
    let failed = g.F.Folder.failed in
    let numbers : List ℕ = c.args.numbers.now in
    let loaded : List (ℕ × List ℕ) = map lent_table c.in-Some.loaded.items in
    let items : Vec NumberedContents Global → List NumberedContents = λ v. v.items in
    let there = loaded_in tells files numbers (Ok loaded) told
    (subst (λ (o : Option (Vec (ℕ × Vec ℕ Global) Global)). IsLoadedIfThere tells numbers (Ok (option_map (λ v. map lent_table v.items) o))) c.in-Some.is c.in_ok-loaded.ensures.answer) in
    read_answers g.C.Comparator.cmp files numbers loaded there items (failed c.args.folder.now) (failed c.load_if_there.new.folder) c.owned_tables.result c.owned_tables.ensures.memory c.owned_tables.ensures.checked

pub returns-clause-numbers : goal.returns-clause-numbers
returns-clause-numbers g c =
    let tells = g.F.Folder.tells c.args.folder.now in
    let numbers : List ℕ = c.args.numbers.now in
    let loaded : List (ℕ × List ℕ) = map lent_table c.in-Some.loaded.items in
    let items : Vec NumberedContents Global → List NumberedContents = λ v. v.items in
    let there = subst (λ (o : Option (Vec (ℕ × Vec ℕ Global) Global)). IsLoadedIfThere tells numbers (Ok (option_map (λ v. map lent_table v.items) o))) c.in-Some.is c.in_ok-loaded.ensures.answer in
    read_numbered g.C.Comparator.cmp items tells numbers loaded there c.owned_tables.result c.owned_tables.ensures.checked

pub returns-clause-told : goal.returns-clause-told
returns-clause-told g c =
    let tells = g.F.Folder.tells c.args.folder.now in
    let numbers : List ℕ = c.args.numbers.now in
    let loaded : List (ℕ × List ℕ) = map lent_table c.in-Some.loaded.items in
    let items : Vec NumberedContents Global → List NumberedContents = λ v. v.items in
    let there = subst (λ (o : Option (Vec (ℕ × Vec ℕ Global) Global)). IsLoadedIfThere tells numbers (Ok (option_map (λ v. map lent_table v.items) o))) c.in-Some.is c.in_ok-loaded.ensures.answer in
    read_held g.C.Comparator.cmp tells items numbers loaded there c.owned_tables.result c.owned_tables.ensures.checked
