use Rattle.std.proofs.Common.{Err, refl, arith, map}
use Rattle.std.proofs.lemmas.Result.{err_from_is_err_and}
use Rattle.board.specs.RunAnswer.{fault_of_run}
use Rattle.board.proofs.CollectedAnswers.{results_collected, fault_collected, none_outside}
use Rattle.pairing.specs.TestedUnion.{tested_entries, unions_of}
use Rattle.pairing.proofs.Unions.{Cut, left_never_falls, right_never_falls}
use Rattle.pairing.proofs.FileAnswers.{ranges_answer, refused_answer, joined_answer}
use Rattle.pairing.proofs.two_blocks.united.Goals as goal

pub new-requires-clause-ordered_a : goal.new-requires-clause-ordered_a
new-requires-clause-ordered_a g c = left_never_falls (tested_entries c.args.a.now) (tested_entries c.parted.result.0.now) (tested_entries c.parted.result.1.now) c.parted.ensures.parts c.requires.rising_a

pub new-requires-clause-ordered_b : goal.new-requires-clause-ordered_b
new-requires-clause-ordered_b g c = left_never_falls (tested_entries c.args.b.now) (tested_entries c.parted-2.result.0.now) (tested_entries c.parted-2.result.1.now) c.parted-2.ensures.parts c.requires.rising_b

pub new-requires-2-clause-ordered_a : goal.new-requires-2-clause-ordered_a
new-requires-2-clause-ordered_a g c = right_never_falls (tested_entries c.args.a.now) (tested_entries c.parted.result.0.now) (tested_entries c.parted.result.1.now) c.parted.ensures.parts c.requires.rising_a

pub new-requires-2-clause-ordered_b : goal.new-requires-2-clause-ordered_b
new-requires-2-clause-ordered_b g c = right_never_falls (tested_entries c.args.b.now) (tested_entries c.parted-2.result.0.now) (tested_entries c.parted-2.result.1.now) c.parted-2.ensures.parts c.requires.rising_b

pub returns-in_err-runs : goal.returns-in_err-runs
returns-in_err-runs g c =
    let qa = tested_entries c.args.a.now in
    let qb = tested_entries c.args.b.now in
    let cut_a : Cut c.args.at.now qa (tested_entries c.parted.result.0.now) (tested_entries c.parted.result.1.now) = record { parts = c.parted.ensures.parts; before = c.parted.ensures.before; from = c.parted.ensures.from c.requires.rising_a } in
    let cut_b : Cut c.args.at.now qb (tested_entries c.parted-2.result.0.now) (tested_entries c.parted-2.result.1.now) = record { parts = c.parted-2.ensures.parts; before = c.parted-2.ensures.before; from = c.parted-2.ensures.from c.requires.rising_b } in
    let holds = ranges_answer c.args.at.now qa qb (tested_entries c.parted.result.0.now) (tested_entries c.parted.result.1.now) (tested_entries c.parted-2.result.0.now) (tested_entries c.parted-2.result.1.now) c.new.result c.new-2.result cut_a cut_b c.new.ensures c.new-2.ensures in
    let why = c.in_err-runs.field-0.0 in
    let e = c.in_err-runs.ensures in
    let p = err_from_is_err_and c.from_residual.result c.from_residual.ensures.1 in
    rw (p.1, p.2) (refused_answer qa qb (unions_of c.new.result c.new-2.result) (fault_of_run why) holds
    (fault_collected (λ out. tested_entries out.items) (unions_of c.new.result c.new-2.result) 2 (Err why) why refl e.refused (λ is. none_outside 2 (omega arith) (omega arith) (e.workers.0 is))))

pub returns : goal.returns
returns g c =
    let qa = tested_entries c.args.a.now in
    let qb = tested_entries c.args.b.now in
    let cut_a : Cut c.args.at.now qa (tested_entries c.parted.result.0.now) (tested_entries c.parted.result.1.now) = record { parts = c.parted.ensures.parts; before = c.parted.ensures.before; from = c.parted.ensures.from c.requires.rising_a } in
    let cut_b : Cut c.args.at.now qb (tested_entries c.parted-2.result.0.now) (tested_entries c.parted-2.result.1.now) = record { parts = c.parted-2.ensures.parts; before = c.parted-2.ensures.before; from = c.parted-2.ensures.from c.requires.rising_b } in
    let holds = ranges_answer c.args.at.now qa qb (tested_entries c.parted.result.0.now) (tested_entries c.parted.result.1.now) (tested_entries c.parted-2.result.0.now) (tested_entries c.parted-2.result.1.now) c.new.result c.new-2.result cut_a cut_b c.new.ensures c.new-2.ensures in
    let same = results_collected (λ out. tested_entries out.items) (unions_of c.new.result c.new-2.result) 2 c.in_ok-runs.runs.items refl c.in_ok-runs.ensures.ok in
    joined_answer qa qb (unions_of c.new.result c.new-2.result) (map (λ out. tested_entries out.items) c.in_ok-runs.runs.items) c.in_a_row.result holds same c.in_a_row.ensures
