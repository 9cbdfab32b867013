use Rattle.usage.proofs.CommandLemmas.{HasFirst}
use Rattle.usage.proofs.commands.with_arguments.Given as goal

abbrev pub invariant-loop-argument : goal.invariant-loop-argument
invariant-loop-argument l = HasFirst l.arguments l.argument-index l.initial.command l.command
