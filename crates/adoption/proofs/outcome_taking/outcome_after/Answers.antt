use Rattle.std.proofs.Common.{◌≡◌, ℕ, nat_lt, Bool, List, Ok, Err, refl, sym, ap, subst, ◌∙◌, arith}
use Rattle.std.specs.List.{list_all}
use Rattle.edit.specs.Version.{State}
use Rattle.folder.proofs.OpeningLemmas.{hands_on}
use Rattle.pick.specs.declared.picked_inputs.InputFile.{InputFile}
use Rattle.store.specs.FolderRequest.{manifest_of}
use Rattle.adoption.specs.Adoption.{IsGiven}
use Rattle.adoption.specs.AdoptedOutcome.{IsAdopted}
use Rattle.adoption.specs.AdoptionIn.{given_in}
use Rattle.adoption.specs.TakenIn.{version_in}
use Rattle.adoption.specs.TakenOutcomes.{IsGivenNext}
use Rattle.adoption.proofs.TakenEnds.{next_given, next_unopened}
use Rattle.adoption.proofs.outcome_taking.outcome_after.Goals as goal

-- what the code tests is whether all inputs are files of the version that was opened
opened_same : (files slice : List InputFile) (first : State) (number : ℕ) (b : Bool) → b ≡ list_all (λ (f : InputFile). nat_lt f.meta.number number) slice → slice ≡ files → number ≡ manifest_of first → b ≡ list_all (λ (f : InputFile). nat_lt f.meta.number (manifest_of first)) files
opened_same files slice first number b is these numbered =
    is ∙ ap (λ (n : ℕ). list_all (λ (f : InputFile). nat_lt f.meta.number n) slice) numbered ∙ ap (list_all (λ (f : InputFile). nat_lt f.meta.number (manifest_of first))) these

pub returns-in_err-given-clause-answer : goal.returns-in_err-given-clause-answer
returns-in_err-given-clause-answer g c =
    let cmp = g.C.Comparator.cmp in
    let failed = g.G.Folder.failed in
    let tells = g.G.Folder.tells c.args.source.now in
    let t = c.args.taken.now in
    let e = c.in_err-given.field-0.0 in
    hands_on given_in (failed c.args.source.now) (failed c.args.source.now) (failed c.given_outcome.new.source) c.from_residual.result e (IsGiven cmp tells c.version_left.result.now) (IsGivenNext cmp tells t.opened.now.version (version_in t))
    c.from_residual.ensures.1 (omega arith) c.given_outcome.ensures.device.later c.in_err-given.ensures.answer (λ h. (Err e, (subst (λ (v : State). IsGiven cmp tells v (Err e)) c.version_left.ensures h, refl)))

pub returns-then-not-are_below-clause-answer : goal.returns-then-not-are_below-clause-answer
returns-then-not-are_below-clause-answer g c =
    let cmp = g.C.Comparator.cmp in
    let tells = g.G.Folder.tells c.args.source.now in
    let t = c.args.taken.now in
    let first = t.opened.now.version in
    let given = given_in c.in_ok-given.given in
    let same = opened_same c.in_ok-given.given.picked.files.items c.deref.result.now first c.manifest_of.result c.are_below.result c.are_below.ensures c.deref.ensures.value c.manifest_of.ensures in
    next_unopened cmp tells first (version_in t) given (g.G.Folder.failed c.args.source.now) (g.G.Folder.failed c.given_outcome.new.source) c.of.result c.of.ensures
    (subst (λ (v : State). IsGiven cmp tells v (Ok given)) c.version_left.ensures c.in_ok-given.ensures.answer) (sym same ∙ c.if-not-are_below.true)

pub returns-clause-answer : goal.returns-clause-answer
returns-clause-answer g c =
    let cmp = g.C.Comparator.cmp in
    let tells = g.G.Folder.tells c.args.source.now in
    let t = c.args.taken.now in
    let first = t.opened.now.version in
    let given = given_in c.in_ok-given.given in
    let same = opened_same c.in_ok-given.given.picked.files.items c.deref.result.now first c.manifest_of.result c.are_below.result c.are_below.ensures c.deref.ensures.value c.manifest_of.ensures in
    next_given cmp tells first (version_in t) given (subst (λ (v : State). IsGiven cmp tells v (Ok given)) c.version_left.ensures c.in_ok-given.ensures.answer) (sym same ∙ c.if-not-are_below.false)

pub returns-clause-adopted : goal.returns-clause-adopted
returns-clause-adopted g c =
    let first = c.args.taken.now.opened.now.version in
    let given = given_in c.in_ok-given.given in
    let same = opened_same c.in_ok-given.given.picked.files.items c.deref.result.now first c.manifest_of.result c.are_below.result c.are_below.ensures c.deref.ensures.value c.manifest_of.ensures in
    (subst (λ (v : State). IsAdopted g.C.Comparator.cmp v given) c.version_left.ensures c.in_ok-given.ensures.adopted, sym same ∙ c.if-not-are_below.false)
