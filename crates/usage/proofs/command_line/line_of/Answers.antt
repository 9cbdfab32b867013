use Rattle.std.proofs.Common.{◌∙◌}
use Rattle.std.proofs.lemmas.Result.{IfOk-weaker}
use Rattle.clap.specs.Words.{found_of, rows_of, subcommand_rows_of}
use Rattle.usage.proofs.LineLemmas.{LineOf-met, subcommand_name_of-rows}
use Rattle.usage.proofs.command_line.line_of.Goals as goal

pub returns-in-Some : goal.returns-in-Some
returns-in-Some c =
    let m = c.args.matches.now in
    IfOk-weaker c.line_in.result _ _
    (λ asked h. LineOf-met (subcommand_rows_of m) c.in-Some.name.now (rows_of (found_of c.in-Some.values.now)) asked (c.in-Some.ensures.name ∙ subcommand_name_of-rows m) c.in-Some.ensures.rows h) c.line_in.ensures
