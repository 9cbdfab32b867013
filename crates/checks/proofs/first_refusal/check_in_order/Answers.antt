use Rattle.std.proofs.Common.{◌≡◌, ◌++◌, List, [], ℕ, Ok, Err, map, refl, sym, ap₂, subst, ◌∙◌, inr, arith}
use Rattle.std.proofs.lemmas.List.{take-append-drop}
use Rattle.ikey.proofs.Refusals.{unless}
use Rattle.folder.proofs.CountLemmas.{steady}
use Rattle.folder.proofs.OpeningLemmas.{hands_on}
use Rattle.folder.proofs.ReportLemmas.{reads_then, reports_steady}
use Rattle.folder.specs.LoadedTables.{IsLoaded}
use Rattle.checks.specs.InOrder.{AreChecked, AreCheckedSoFar, IsFirstRefusal}
use Rattle.checks.proofs.FolderTests.{loaded_in, told_still}
use Rattle.checks.proofs.Lent.{lent_table}
use Rattle.checks.proofs.OrderLemmas.{missing_so_far, none_left, none_so_far, read_at_last, refused_at_last, round_so_far}
use Rattle.checks.proofs.TableRefusals.{no_device}
use Rattle.checks.proofs.first_refusal.check_in_order.Goals as goal

pub loop-rest-init : goal.loop-rest-init
loop-rest-init g c = record {
  so_far = λ files told. none_so_far g.C.Comparator.cmp files c.args.numbers.now;
  some = ([], ([], refl));
  reads = record { same = λ name held. (λ h. h, λ h. h); calls = refl };
  failures = refl;
}

pub returns-in_err-loaded-clause-answer : goal.returns-in_err-loaded-clause-answer
returns-in_err-loaded-clause-answer g c files told =
    let tells = g.F.Folder.tells in
    let failed = g.F.Folder.failed in
    let cmp = g.C.Comparator.cmp in
    let e = c.in_err-loaded.field-0.0 in
    let rest : List ℕ = c.loop-rest.rest.now in
    let round : List ℕ = c.split_at.result.0.now in
    let behind : List ℕ = c.split_at.result.1.now in
    let parts : rest ≡ round ++ behind = sym (ap₂ (λ (a b : List ℕ). a ++ b) c.split_at.ensures.front c.split_at.ensures.back ∙ take-append-drop c.min.result rest) in
    let now_told = told_still (tells c.args.folder.now) (tells c.loop-rest.folder) files c.loop-rest.invariant.reads.same told in
    hands_on (λ none. none) (failed c.args.folder.now) (failed c.loop-rest.folder) (failed c.load_numbers.new.folder) c.from_residual.result e (IsLoaded (tells c.loop-rest.folder) round) (AreChecked cmp files c.args.numbers.now)
    c.from_residual.ensures.1 (omega (arith, c.loop-rest.invariant.failures)) c.load_numbers.ensures.device.later c.in_err-loaded.ensures.answer
    (λ h. missing_so_far cmp files c.args.numbers.now rest round behind c.loop-rest.first e parts (c.loop-rest.invariant.so_far files told) (loaded_in (tells c.loop-rest.folder) files round (Err e) now_told h))

pub loop-rest-preserved : goal.loop-rest-preserved
loop-rest-preserved g c =
    let tells = g.F.Folder.tells in
    let failed = g.F.Folder.failed in
    let cmp = g.C.Comparator.cmp in
    let rest : List ℕ = c.loop-rest.rest.now in
    let round : List ℕ = c.split_at.result.0.now in
    let behind : List ℕ = c.split_at.result.1.now in
    let loaded : List (ℕ × List ℕ) = map lent_table c.in_ok-loaded.loaded.items in
    let parts : rest ≡ round ++ behind = sym (ap₂ (λ (a b : List ℕ). a ++ b) c.split_at.ensures.front c.split_at.ensures.back ∙ take-append-drop c.min.result rest) in
    let more : (before : List (ℕ × List ℕ)) → IsFirstRefusal cmp before c.loop-rest.first → IsFirstRefusal cmp (before ++ loaded) c.in_ok-first.first =
    λ before h. subst (λ ts. IsFirstRefusal cmp (before ++ map lent_table ts) c.in_ok-first.first) c.deref.ensures.value (c.in_ok-first.ensures.refusal before h) in
    record {
      so_far = λ files told.
          round_so_far cmp files c.args.numbers.now rest round behind c.loop-rest.first c.in_ok-first.first loaded parts (c.loop-rest.invariant.so_far files told)
          (loaded_in (tells c.loop-rest.folder) files round (Ok loaded) (told_still (tells c.args.folder.now) (tells c.loop-rest.folder) files c.loop-rest.invariant.reads.same told) c.in_ok-loaded.ensures.answer) more;
      some = (c.loop-rest.invariant.some.0 ++ loaded, more c.loop-rest.invariant.some.0 c.loop-rest.invariant.some.1);
      reads = reads_then c.loop-rest.invariant.reads c.load_numbers.ensures.reads;
      failures = steady (failed c.args.folder.now) (failed c.loop-rest.folder) (failed c.load_numbers.new.folder) c.in_ok-loaded.loaded c.load_numbers.result c.in_ok-loaded.was c.loop-rest.invariant.failures c.load_numbers.ensures.device.later c.load_numbers.ensures.device.at_once;
    }

pub returns-in-Some-clause-answer : goal.returns-in-Some-clause-answer
returns-in-Some-clause-answer g c files told =
    let cmp = g.C.Comparator.cmp in
    let rest : List ℕ = c.loop-rest.rest.now in
    let none : rest ≡ [] = none_left rest c.is_empty.result c.is_empty.ensures c.loop-rest-test.false in
    unless c.in-Some.refused _ (inr (refused_at_last cmp files c.args.numbers.now rest c.in-Some.refused none (subst (AreCheckedSoFar cmp files c.args.numbers.now rest) c.in-Some.is (c.loop-rest.invariant.so_far files told))))

pub returns-in-Some-clause-device : goal.returns-in-Some-clause-device
returns-in-Some-clause-device g c =
    let cmp = g.C.Comparator.cmp in
    let xs = c.loop-rest.invariant.some.0 in
    reports_steady (Err c.in-Some.refused) c.loop-rest.invariant.failures (no_device cmp xs c.in-Some.refused (subst (IsFirstRefusal cmp xs) c.in-Some.is c.loop-rest.invariant.some.1))

pub returns-in-None-clause-answer : goal.returns-in-None-clause-answer
returns-in-None-clause-answer g c files told =
    let cmp = g.C.Comparator.cmp in
    let rest : List ℕ = c.loop-rest.rest.now in
    let none : rest ≡ [] = none_left rest c.is_empty.result c.is_empty.ensures c.loop-rest-test.false in
    read_at_last cmp files c.args.numbers.now rest none (subst (AreCheckedSoFar cmp files c.args.numbers.now rest) c.in-None.is (c.loop-rest.invariant.so_far files told))
