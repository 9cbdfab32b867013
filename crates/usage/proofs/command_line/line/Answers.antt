use Rattle.std.proofs.Common.{map}
use Rattle.clap.specs.Words.{app_of, found_of, rows_of, subcommand_rows_of}
use Rattle.usage.proofs.LineLemmas.{CommandLineGives-parsed}
use Rattle.usage.proofs.command_line.line.Goals as goal

pub returns-in-Ok : goal.returns-in-Ok
returns-in-Ok g c =
    let matches = c.in_ok-matches.matches in
    CommandLineGives-parsed (app_of c.in_ok-command.command) (map g.S.AsStr.text c.args.words.now) (rows_of (found_of matches)) (subcommand_rows_of matches) c.in-Ok.line c.in_ok-command.ensures
    c.in_ok-matches.ensures.kinds c.in_ok-matches.ensures.ok.2 c.in-Ok.ensures
