use Rattle.std.proofs.Common.{◌≡◌, ℕ, ◌+◌, ◌≤◌, ◌^◌, suc, List, Option, Ok, length, map, refl, subst, arith, IfSome}
use Rattle.folder.specs.meta.FileMeta.{FileMeta}
use Rattle.folder.proofs.CountLemmas.{steady}
use Rattle.folder.proofs.OpeningLemmas.{hands_on}
use Rattle.folder.proofs.ReportLemmas.{reads_then}
use Rattle.split.proofs.Covers.{covers}
use Rattle.split.specs.Ranges.{KeyRange, key_range}
use Rattle.checks.specs.GroupTest.{AreRangesSound, IsRangeAnswer, IsRangeSound, IsRangesAnswer}
use Rattle.checks.proofs.FolderTests.{told_still}
use Rattle.checks.proofs.HeldAnswers.{held_on, held_through}
use Rattle.checks.proofs.RangeLemmas.{ranges_more, ranges_none}
use Rattle.checks.proofs.range_test.test_ranges.Goals as goal

pub loop-number-init : goal.loop-number-init
loop-number-init g c = record {
  sound = λ files told are. ranges_none g.C.Comparator.cmp files c.args.next (map (λ f. f.now) c.args.standing.now) c.args.split.now;
  held = λ are. are;
  known = λ files told are sound. sound;
  small = omega arith;
  reads = record { same = λ name held. (λ h. h, λ h. h); calls = refl };
  failures = refl;
}

pub returns-in_err-found-clause-answer : goal.returns-in_err-found-clause-answer
returns-in_err-found-clause-answer g c files told are =
    let tells = g.F.Folder.tells in
    let failed = g.F.Folder.failed in
    let cmp = g.C.Comparator.cmp in
    let metas : List FileMeta = map (λ f. f.now) c.args.standing.now in
    hands_on (λ found. found) (failed c.args.folder.now) (failed c.loop-number.folder) (failed c.test_range.new.folder) c.from_residual.result c.in_err-found.field-0.0 (IsRangeAnswer cmp files c.args.next metas (key_range c.range-range.result)) (IsRangesAnswer cmp files c.args.next metas c.args.split.now)
    c.from_residual.ensures.1 (omega (arith, c.loop-number.invariant.failures)) c.test_range.ensures.device.later
    (c.in_err-found.ensures.answer files (told_still (tells c.args.folder.now) (tells c.loop-number.folder) files c.loop-number.invariant.reads.same told) (held_on cmp (tells c.args.folder.now) files told c.args.checked.now.held c.loop-number.checked.held c.loop-number.invariant.held are)) (λ h. absurd h)

pub returns-in_default-clause-answer : goal.returns-in_default-clause-answer
returns-in_default-clause-answer g c files told are =
    let tells = g.F.Folder.tells in
    let cmp = g.C.Comparator.cmp in
    let metas : List FileMeta = map (λ f. f.now) c.args.standing.now in
    subst (λ o. IsRangeAnswer cmp files c.args.next metas (key_range c.range-range.result) (Ok o)) c.in_default.is
    (c.in_ok-found.ensures.answer files (told_still (tells c.args.folder.now) (tells c.loop-number.folder) files c.loop-number.invariant.reads.same told) (held_on cmp (tells c.args.folder.now) files told c.args.checked.now.held c.loop-number.checked.held c.loop-number.invariant.held are))

pub loop-number-preserved : goal.loop-number-preserved
loop-number-preserved g c =
    let tells = g.F.Folder.tells in
    let failed = g.F.Folder.failed in
    let cmp = g.C.Comparator.cmp in
    let metas : List FileMeta = map (λ f. f.now) c.args.standing.now in
    let boundaries = c.args.split.now in
    let n : ℕ = c.loop-number.number in
    let few : c.in-Some.count ≤ 2 ^ 100 = subst (λ (o : Option ℕ). IfSome o (λ n. n ≤ 2 ^ 100)) c.in-Some.is c.in_ok-found.ensures.small in
    record {
      sound = λ files told are.
          let one : IsRangeSound cmp files c.args.next metas (key_range c.range-range.result) c.in-Some.count =
          subst (λ o. IsRangeAnswer cmp files c.args.next metas (key_range c.range-range.result) (Ok o)) c.in-Some.is
          (c.in_ok-found.ensures.answer files (told_still (tells c.args.folder.now) (tells c.loop-number.folder) files c.loop-number.invariant.reads.same told) (held_on cmp (tells c.args.folder.now) files told c.args.checked.now.held c.loop-number.checked.held c.loop-number.invariant.held are)) in
          let next : suc n ≡ n + 1 = omega arith in
          subst (λ (m : ℕ). AreRangesSound cmp files c.args.next metas boundaries m (c.loop-number.entries + c.in-Some.count)) next
          (ranges_more cmp files c.args.next metas boundaries n c.loop-number.entries c.in-Some.count (c.loop-number.invariant.sound files told are) (subst (λ (r : KeyRange). IsRangeSound cmp files c.args.next metas r c.in-Some.count) c.range-range.ensures.bounds one));
      held = λ are. held_through cmp (tells c.args.folder.now) (tells c.loop-number.folder) c.loop-number.invariant.reads.same c.loop-number.checked.held c.test_range.new.checked.held c.test_range.ensures.held (c.loop-number.invariant.held are);
      known = λ files told are sound.
          c.in_ok-found.ensures.sound files (told_still (tells c.args.folder.now) (tells c.loop-number.folder) files c.loop-number.invariant.reads.same told) (held_on cmp (tells c.args.folder.now) files told c.args.checked.now.held c.loop-number.checked.held c.loop-number.invariant.held are)
          (c.loop-number.invariant.known files told are sound);
      small = omega (arith, few, c.loop-number.invariant.small);
      reads = reads_then c.loop-number.invariant.reads c.test_range.ensures.reads;
      failures = steady (failed c.args.folder.now) (failed c.loop-number.folder) (failed c.test_range.new.folder) c.in_ok-found.found c.test_range.result c.in_ok-found.was c.loop-number.invariant.failures c.test_range.ensures.device.later c.test_range.ensures.device.at_once;
    }

pub returns-clause-answer : goal.returns-clause-answer
returns-clause-answer g c files told are =
    let n : ℕ = c.loop-number.number in
    let all : n ≡ length c.args.split.now + 1 = omega (arith, c.loop-number-test.false, c.loop-number.auto.number-end, c.len-number-end.ensures.number) in
    subst (λ (m : ℕ). AreRangesSound g.C.Comparator.cmp files c.args.next (map (λ f. f.now) c.args.standing.now) c.args.split.now m c.loop-number.entries) all
    (c.loop-number.invariant.sound files told are)

pub returns-in_err-found-clause-held : goal.returns-in_err-found-clause-held
returns-in_err-found-clause-held g c are =
    let tells = g.F.Folder.tells in
    held_through g.C.Comparator.cmp (tells c.args.folder.now) (tells c.loop-number.folder) c.loop-number.invariant.reads.same c.loop-number.checked.held c.test_range.new.checked.held c.test_range.ensures.held (c.loop-number.invariant.held are)

pub returns-in_default-clause-held : goal.returns-in_default-clause-held
returns-in_default-clause-held g c are =
    let tells = g.F.Folder.tells in
    held_through g.C.Comparator.cmp (tells c.args.folder.now) (tells c.loop-number.folder) c.loop-number.invariant.reads.same c.loop-number.checked.held c.test_range.new.checked.held c.test_range.ensures.held (c.loop-number.invariant.held are)

pub returns-clause-held : goal.returns-clause-held
returns-clause-held g c are = c.loop-number.invariant.held are

pub returns-clause-cover : goal.returns-clause-cover
returns-clause-cover g c = covers g.C.Comparator.cmp (g.met.C.Comparator g.world.𝓛 g.world.𝓜 g.world.𝓡 ((λ s x. x), (λ x. x), (λ x. x), λ x. x)).total c.args.split.now c.len-number-end.ensures.split.rising

pub returns-in_default-clause-sound : goal.returns-in_default-clause-sound
returns-in_default-clause-sound g c files told are sound =
    let tells = g.F.Folder.tells in
    let cmp = g.C.Comparator.cmp in
    c.in_ok-found.ensures.sound files (told_still (tells c.args.folder.now) (tells c.loop-number.folder) files c.loop-number.invariant.reads.same told) (held_on cmp (tells c.args.folder.now) files told c.args.checked.now.held c.loop-number.checked.held c.loop-number.invariant.held are)
    (c.loop-number.invariant.known files told are sound)

pub returns-clause-sound : goal.returns-clause-sound
returns-clause-sound g c = c.loop-number.invariant.known
