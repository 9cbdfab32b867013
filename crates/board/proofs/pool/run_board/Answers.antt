use Rattle.std.proofs.Common.{◌≡◌, ◌<◌, ◌∙◌, ℕ, List, Option, None, length, replicate, vec_len, sym, ap, subst, arith, rules}
use Rattle.std.proofs.Math.ListN.{length-replicate}
use Rattle.board.specs.Progress.{Progress}
use Rattle.board.specs.RunAnswer.{IsRefused}
use Rattle.board.specs.WorkerResult.{IsFiled}
use Rattle.board.proofs.WorkerResults.{files_none, refused_least, each_placed}
use Rattle.board.proofs.pool.run_board.Goals as goal

pub file_all-refused-requires-clause-places : goal.file_all-refused-requires-clause-places
file_all-refused-requires-clause-places g c =
    let O = g.row.L-Out.Denot in
    let refusal = g.L.Labour.refusal c.args.labour.now in
    let gives = g.L.Labour.gives c.args.labour.now in
    let places = c.in_ok-places.places.items in
    let is : places ≡ replicate c.args.board.jobs None = c.in_ok-places.ensures ∙ ap (λ (n : ℕ). replicate {A = Option O} n None) (sym c.requires.jobs.0) in
    let long : length places ≡ c.args.board.jobs = ap (λ (l : List (Option O)). length l) is ∙ length-replicate {A = Option O} c.args.board.jobs None in
    subst (λ (ps : List Progress). IsFiled refusal gives c.args.board ps places None) (sym c.in_ok-back.ensures.items) (files_none refusal gives c.args.board places is long)

pub returns-in-Some-clause-refused : goal.returns-in-Some-clause-refused
returns-in-Some-clause-refused g c =
    let refusal = g.L.Labour.refusal c.args.labour.now in
    let gives = g.L.Labour.gives c.args.labour.now in
    let long : vec_len c.file_all-refused.new.seats ≡ c.args.board.seats = c.in-Some.ensures.len ∙ c.in_ok-shifts.ensures.len ∙ c.requires.seats.1 in
    let more : 0 < vec_len c.file_all-refused.new.seats = omega (arith, long, c.requires.seats.2) in
    let any : 0 < length c.file_all-refused.new.seats.items = search (rules, more) in
    subst (λ n. IsRefused refusal gives n c.in-Some.refused.0 c.in-Some.refused.1) c.requires.jobs.0
    (refused_least refusal gives c.args.board c.file_all-refused.new.seats.items c.file_all-refused.new.places.items c.in-Some.refused c.close-tally.result.least c.in-Some.ensures.filed (c.close-tally.ensures.all long) (c.close-tally.ensures.spent c.in-Some.ensures.filed.spent) any)

pub take_all-requires-clause-each : goal.take_all-requires-clause-each
take_all-requires-clause-each g c =
    let long : vec_len c.file_all-refused.new.seats ≡ c.args.board.seats = c.in-None.ensures.len ∙ c.in_ok-shifts.ensures.len ∙ c.requires.seats.1 in
    let more : 0 < vec_len c.file_all-refused.new.seats = omega (arith, long, c.requires.seats.2) in
    let any : 0 < length c.file_all-refused.new.seats.items = search (rules, more) in
    each_placed (g.L.Labour.refusal c.args.labour.now) (g.L.Labour.gives c.args.labour.now) c.args.board c.file_all-refused.new.seats.items c.file_all-refused.new.places.items c.close-tally.result.least c.in-None.ensures.filed (c.close-tally.ensures.all long) (c.close-tally.ensures.spent c.in-None.ensures.filed.spent) any
