use Rattle.std.proofs.Common.{◌≡◌}
use Rattle.clap.specs.Words.{app_of}
use Rattle.usage.specs.Apps.{bare_app}
use Rattle.usage.proofs.CommandLemmas.{with_first}
use Rattle.usage.proofs.commands.program_command.Given as goal

abbrev pub invariant-loop-description : goal.invariant-loop-description
invariant-loop-description l = app_of l.command ≡ with_first bare_app l.description-items l.description-index
