use Rattle.std.proofs.Common.{Bor, IfOk, ◌≡◌, ℕ, ◌≤◌, ◌^◌, List, None, Ok, length, map, sym, ap, subst, ◌∙◌, arith}
use Rattle.std.specs.Prelude.{filter}
use Rattle.std.proofs.lemmas.List.{length-map}
use Rattle.ikey.proofs.Binds.{ok_is}
use Rattle.folder.specs.meta.FileMeta.{FileMeta}
use Rattle.folder.proofs.OpeningLemmas.{hands_on}
use Rattle.reads.specs.Tables.{NumberedContents}
use Rattle.split.specs.Ranges.{key_range}
use Rattle.checks.specs.GroupTest.{IsRangeAnswer, IsWalkAnswer}
use Rattle.checks.specs.HeldTables.{AreFound, AreHeldBy, IsFoundAnswer}
use Rattle.checks.specs.InOrder.{AreSoundIn}
use Rattle.checks.specs.NeededFiles.{is_file_needed}
use Rattle.checks.proofs.FileTables.{lent_numbers}
use Rattle.checks.proofs.FolderTests.{range_answers, range_unfound}
use Rattle.checks.proofs.FoundTables.{held_found, held_unfound}
use Rattle.checks.proofs.HeldAnswers.{held_on}
use Rattle.checks.proofs.SoundNumbers.{of_any, sound_more}
use Rattle.checks.proofs.WalkLemmas.{few_kept}
use Rattle.checks.proofs.range_test.test_range.Goals as goal

abbrev now_of : Bor FileMeta → FileMeta
now_of f = f.now

pub returns-in_err-is_held-clause-answer : goal.returns-in_err-is_held-clause-answer
returns-in_err-is_held-clause-answer g c files told are =
    let cmp = g.C.Comparator.cmp in
    let failed = g.F.Folder.failed in
    hands_on (λ found. found) (failed c.args.folder.now) (failed c.args.folder.now) (failed c.hold_next.new.folder) c.from_residual-in_err-is_held.result c.in_err-is_held.field-0.0
    (IsFoundAnswer cmp files c.deref-2.result.now) (IsRangeAnswer cmp files c.args.next (map now_of c.args.standing.now) (key_range c.args.range))
    c.from_residual-in_err-is_held.ensures.1 (omega arith) c.hold_next.ensures.device.later (c.in_err-is_held.ensures.answer files told are) (λ h. absurd h)

pub returns-then-not-is_held-clause-answer : goal.returns-then-not-is_held-clause-answer
returns-then-not-is_held-clause-answer g c files told are =
    let cmp = g.C.Comparator.cmp in
    let range = key_range c.args.range in
    let standing : List FileMeta = map now_of c.args.standing.now in
    let needed : List FileMeta = filter (is_file_needed cmp range) standing in
    let numbers : List ℕ = c.deref-2.result.now in
    let same = lent_numbers c.deref.result.now c.in_ok-needed.needed.items needed numbers c.deref.ensures.value c.in_ok-needed.ensures.needed (ok_is _ _ c.in_ok-numbers.ensures ∙ sym c.deref-2.ensures.value) in
    range_unfound cmp (g.met.C.Comparator g.world.𝓛 g.world.𝓜 g.world.𝓡 ((λ s x. x), (λ x. x), (λ x. x), λ x. x)).total files c.args.next standing range
    (subst (λ (ns : List ℕ). IsFoundAnswer cmp files ns (Ok None)) same
    (held_unfound cmp files numbers c.in_ok-is_held.is_held c.hold_next.new.held c.if-not-is_held.true (c.in_ok-is_held.ensures.answer files told are)))

pub walk_range-requires-clause-few_files : goal.walk_range-requires-clause-few_files
walk_range-requires-clause-few_files g c κs within =
    let range = key_range c.args.range in
    let needed : List (Bor FileMeta) = c.in_ok-needed.needed.items in
    let kept = few_kept (is_file_needed g.C.Comparator.cmp range) (map now_of c.args.standing.now) in
    let one : length needed ≡ length (filter (is_file_needed g.C.Comparator.cmp range) (map now_of c.args.standing.now)) = sym (length-map needed now_of) ∙ ap (λ (fs : List FileMeta). length fs) c.in_ok-needed.ensures.needed in
    let two = length-map c.args.standing.now now_of in
    let lent : length c.deref-3.result.now ≡ length needed = ap (λ (fs : List (Bor FileMeta)). length fs) c.deref-3.ensures.value in
    let few : length c.args.standing.now ≤ 2 ^ 40 = c.requires.few_files in
    omega (arith, kept, one, two, lent, few)

pub returns-clause-answer : goal.returns-clause-answer
returns-clause-answer g c files told are =
    let cmp = g.C.Comparator.cmp in
    let failed = g.F.Folder.failed in
    let range = key_range c.args.range in
    let standing : List FileMeta = map now_of c.args.standing.now in
    let needed : List FileMeta = filter (is_file_needed cmp range) standing in
    let numbers : List ℕ = c.deref-2.result.now in
    let tables : List NumberedContents = c.hold_next.new.held in
    let same = lent_numbers c.deref.result.now c.in_ok-needed.needed.items needed numbers c.deref.ensures.value c.in_ok-needed.ensures.needed (ok_is _ _ c.in_ok-numbers.ensures ∙ sym c.deref-2.ensures.value) in
    let found : AreFound cmp files numbers tables = held_found cmp files numbers c.in_ok-is_held.is_held tables c.if-not-is_held.false (c.in_ok-is_held.ensures.answer files told are) in
    let metas : map now_of c.deref-3.result.now ≡ needed = ap (map now_of) c.deref-3.ensures.value ∙ c.in_ok-needed.ensures.needed in
    range_answers cmp (g.met.C.Comparator g.world.𝓛 g.world.𝓜 g.world.𝓡 ((λ s x. x), (λ x. x), (λ x. x), λ x. x)).total files c.args.next standing range (failed c.args.folder.now) (failed c.hold_next.new.folder) c.walk_range.result (map now_of c.deref-3.result.now) tables metas
    (subst (λ (ns : List ℕ). AreFound cmp files ns tables) same found) c.walk_range.ensures.memory
    (subst (λ (ts : List NumberedContents). IfOk c.walk_range.result (IsWalkAnswer cmp c.args.next range (map now_of c.deref-3.result.now) ts)) c.note.ensures.held c.walk_range.ensures.walked)

pub returns-then-not-is_held-clause-sound : goal.returns-then-not-is_held-clause-sound
returns-then-not-is_held-clause-sound g c files told are sound =
    let cmp = g.C.Comparator.cmp in
    let tells = g.F.Folder.tells c.args.folder.now in
    let held = held_on cmp tells files told c.args.checked.now.held c.hold_next.new.held c.hold_next.ensures.held are in
    subst (AreSoundIn cmp files) (sym c.in_ok-note.ensures.sound) (sound_more cmp files c.args.checked.now.sound.items c.hold_next.new.held sound held)

pub returns-clause-sound : goal.returns-clause-sound
returns-clause-sound g c =
    let cmp = g.C.Comparator.cmp in
    let tells = g.F.Folder.tells c.args.folder.now in
    of_any c.walk_range.result (λ files told are sound.
    let held = held_on cmp tells files told c.args.checked.now.held c.hold_next.new.held c.hold_next.ensures.held are in
    subst (AreSoundIn cmp files) (sym c.in_ok-note.ensures.sound) (sound_more cmp files c.args.checked.now.sound.items c.hold_next.new.held sound held))

pub returns-in_err-note-clause-held : goal.returns-in_err-note-clause-held
returns-in_err-note-clause-held g c are =
    subst (AreHeldBy g.C.Comparator.cmp (g.F.Folder.tells c.args.folder.now)) (sym c.note.ensures.held) (c.hold_next.ensures.held are)

pub returns-then-not-is_held-clause-held : goal.returns-then-not-is_held-clause-held
returns-then-not-is_held-clause-held g c are =
    subst (AreHeldBy g.C.Comparator.cmp (g.F.Folder.tells c.args.folder.now)) (sym c.note.ensures.held) (c.hold_next.ensures.held are)

pub returns-clause-held : goal.returns-clause-held
returns-clause-held g c are =
    subst (AreHeldBy g.C.Comparator.cmp (g.F.Folder.tells c.args.folder.now)) (sym c.note.ensures.held) (c.hold_next.ensures.held are)
