use Rattle.std.proofs.Common.{rules, ◌≡◌, Some}
use Rattle.clap.specs.declared.builder.value_parser.ValueParser.TheVariants as parser
use Rattle.usage.specs.Apps.{value_rule}
use Rattle.usage.proofs.CommandLemmas.{parsed}
use Rattle.usage.proofs.argument.number.Goals as goal

pub returns : goal.returns
returns c =
    let given : c.value_parser-2.result.value_parser ≡ Some (parser.Unsigned 0 18446744073709551615) = search rules in
    parsed c.value.result c.value_parser-2.result (value_rule c.args.id.now) _ c.value.ensures c.value_parser-2.ensures.others given
