use Rattle.std.proofs.Common.{Ok, Err, refl}
use Rattle.folder.specs.ReadsAs.{IsFileIn}
use Rattle.install.specs.Install.{tables_in}
use Rattle.adoption.specs.Adoption.{IsGivenTaken}
use Rattle.adoption.specs.AdoptionIn.{adoption_of, given_in}
use Rattle.adoption.specs.TakenIn.{outcome_taken, version_in}
use Rattle.adoption.specs.TakenOutcomes.{Given, IsGivenNext}
use Rattle.adoption.proofs.AdoptionSteps.{both_behind, both_refused}
use Rattle.adoption.proofs.TakenEnds.{end_before, end_of, next_held}
use Rattle.adoption.proofs.outcome_taking.take_from.Goals as goal

pub returns-in-Ok-clause-answer : goal.returns-in-Ok-clause-answer
returns-in-Ok-clause-answer g c files source told told_source =
    let cmp = g.C.Comparator.cmp in
    let t = c.args.taken in
    let given = given_in c.in-Ok.given in
    both_behind outcome_taken g.F.Folder g.G.Folder c.args.folder.now c.take_given.new.folder c.args.source.now c.outcome_after.new.source c.take_given.result (IsGivenNext cmp (IsFileIn source) t.opened.now.version (version_in t))
    (λ (given : Given). IsGivenTaken cmp files given t.comparison) given (next_held cmp t.opened.now.version (version_in t) (g.G.Folder.tells c.args.source.now) source (Ok given) told_source c.in-Ok.ensures.answer)
    (c.take_given.ensures.answer files told)

pub returns-in-Ok-clause-taken : goal.returns-in-Ok-clause-taken
returns-in-Ok-clause-taken g c first =
    let laws = g.met.C.Comparator g.world.𝓛 g.world.𝓜 g.world.𝓡 ((λ s x. x), (λ x. x), (λ x. x), λ x. x) in
    let given = c.in-Ok.given in
    end_of g.F.Folder g.C.Comparator.cmp c.args.folder.now c.take_given.new.folder c.args.taken laws.total laws.exact (adoption_of given) (tables_in given.outcome.tables.items) c.in-Ok.ensures.adopted.0 c.in-Ok.ensures.adopted.1
    first c.take_given.result c.take_given.ensures.device c.take_given.ensures.taken

pub returns-clause-answer : goal.returns-clause-answer
returns-clause-answer g c files source told told_source =
    let cmp = g.C.Comparator.cmp in
    let t = c.args.taken in
    let v = version_in t in
    let tells = g.G.Folder.tells c.args.source.now in
    let e = c.in-Err.fault in
    both_refused outcome_taken g.F.Folder g.G.Folder c.args.folder.now c.args.folder.now c.args.source.now c.outcome_after.new.source e (IsGivenNext cmp tells t.opened.now.version v) (IsGivenNext cmp (IsFileIn source) t.opened.now.version v)
    (λ (given : Given). IsGivenTaken cmp files given t.comparison) (next_held cmp t.opened.now.version v tells source (Err e) told_source) c.in-Err.ensures.answer

pub returns-clause-taken : goal.returns-clause-taken
returns-clause-taken g c first =
    end_before g.F.Folder g.C.Comparator.cmp c.args.folder.now c.args.folder.now c.args.taken first c.in-Err.fault
    (record { calls = refl; same = λ n held. ((λ x. x), (λ x. x)); refused = tt })
