use Rattle.std.specs.Prelude.{Ok}
use Rattle.std.specs.Str.Parse.{ExplainsUnsignedError, HasUnsignedDigitsIfOk, ParsesUnsigned}
use Rattle.clap.specs.Words.{found_of}
use Rattle.usage.proofs.LineLemmas.{IsNumberOf-read}
use Rattle.usage.proofs.values.number_given.Goals as goal

pub returns-in-Ok : goal.returns-in-Ok
returns-in-Ok c =
    IsNumberOf-read (λ t x. ParsesUnsigned 64 10 t x × ExplainsUnsignedError 10 t x × HasUnsignedDigitsIfOk t x) (found_of c.args.values.now) c.args.id.now (Ok c.in-Ok.number)
    (λ t x gives. gives.0) c.in-Ok.ensures.none c.in-Ok.ensures.value
