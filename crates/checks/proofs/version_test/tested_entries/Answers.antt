use Rattle.std.proofs.Common.{Bor, Vec, Global, ℕ, List, Option, Result, map, subst, arith}
use Rattle.std.specs.Option.{MatchOption}
use Rattle.ikey.specs.fault.Fault.{Fault}
use Rattle.folder.specs.meta.FileMeta.{FileMeta}
use Rattle.reads.specs.TableOrder.{AreStandingFiles, IsNeverLawful}
use Rattle.folder.proofs.OpeningLemmas.{answers_since}
use Rattle.checks.specs.GroupTest.{IsRangesAnswer, IsSweepAnswer}
use Rattle.checks.proofs.FolderTests.{never_answer, sweep_answer}
use Rattle.checks.proofs.version_test.tested_entries.Goals as goal

pub returns-in_default-clause-answer : goal.returns-in_default-clause-answer
returns-in_default-clause-answer g c files told are =
    let cmp = g.C.Comparator.cmp in
    let v = c.args.version.now in
    never_answer cmp files v
    (subst (λ (o : Option (Vec (Bor FileMeta) Global)). MatchOption o (IsNeverLawful cmp v) (λ fs. AreStandingFiles cmp v (map (λ f. f.now) fs.items))) c.in_default.is c.in_ok-standing.ensures.standing)
    c.in_ok-standing.ensures.added

pub returns-clause-answer : goal.returns-clause-answer
returns-clause-answer g c files told are =
    let cmp = g.C.Comparator.cmp in
    let v = c.args.version.now in
    let failed = g.F.Folder.failed in
    let now_of : Bor FileMeta → FileMeta = λ f. f.now in
    let standing : List FileMeta = map now_of c.in-Some.standing.items in
    let boundaries = c.in_ok-split.split in
    let stand : AreStandingFiles cmp v standing =
    subst (λ (o : Option (Vec (Bor FileMeta) Global)). MatchOption o (IsNeverLawful cmp v) (λ fs. AreStandingFiles cmp v (map (λ f. f.now) fs.items))) c.in-Some.is c.in_ok-standing.ensures.standing in
    let over : (a : Result (Option ℕ) Fault) → IsRangesAnswer cmp files c.next_file-next.result (map now_of c.deref-2.result.now) boundaries a → IsSweepAnswer cmp files v a =
    λ a h. sweep_answer cmp (g.met.C.Comparator g.world.𝓛 g.world.𝓜 g.world.𝓡 ((λ s x. x), (λ x. x), (λ x. x), λ x. x)).total files v standing stand c.in_ok-standing.ensures.added boundaries c.test_ranges.ensures.cover a
    (subst (λ (n : Option ℕ). IsRangesAnswer cmp files n standing boundaries a) c.next_file-next.ensures
    (subst (λ (fs : List (Bor FileMeta)). IsRangesAnswer cmp files c.next_file-next.result (map now_of fs) boundaries a) c.deref-2.ensures.value h)) in
    answers_since (λ found. found) (failed c.args.folder.now) (failed c.args.folder.now) (failed c.test_ranges.new.folder) c.test_ranges.result
    (IsRangesAnswer cmp files c.next_file-next.result (map now_of c.deref-2.result.now) boundaries) (IsSweepAnswer cmp files v) over (omega arith) c.test_ranges.ensures.device.later (c.test_ranges.ensures.answer files told are)

pub returns-clause-held : goal.returns-clause-held
returns-clause-held g c are = c.test_ranges.ensures.held are

pub returns-in_default-clause-sound : goal.returns-in_default-clause-sound
returns-in_default-clause-sound g c files told are sound = sound

pub returns-clause-sound : goal.returns-clause-sound
returns-clause-sound g c = c.test_ranges.ensures.sound
