use Rattle.std.proofs.Common.{List, IfOk, lit<, ap, subst, ◌∙◌}
use Rattle.std.specs.Prelude.{◌==◌, IfSome}
use Rattle.std.specs.List.{slice_split}
use Rattle.std.proofs.lemmas.Iterator.Consumers.{map_from_collect}
use Rattle.std.proofs.lemmas.Iterator.Splits.{YieldsList-from_str_split}
use Rattle.clap.specs.Words.{Text}
use Rattle.usage.specs.CompactLine.{AreNumbers}
use Rattle.usage.proofs.NumberLists.{collected_texts, texts_of}
use Rattle.usage.proofs.compact_line.numbers_of.Goals as goal

pub returns : goal.returns
returns c =
    let split = map_from_collect c.collect.result c.collect.ensures.ran (YieldsList-from_str_split 44 c.args.text.now (lit< tt) c.split.ensures.text c.split.ensures.has_more c.split.ensures.pattern) in
    subst (λ (texts : List Text). IfOk c.numbers_in.result (λ found. IfSome found (λ numbers. AreNumbers texts numbers.items)))
    (ap texts_of c.deref.ensures.value ∙ collected_texts c.collect.result c.in_ok-numerals.numerals (slice_split (λ b. b == 44) c.args.text.now) c.in_ok-numerals.was split) c.numbers_in.ensures
