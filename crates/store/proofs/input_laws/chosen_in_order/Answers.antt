use Rattle.store.proofs.ChosenInputs.{chosen_apart}
use Rattle.store.proofs.InputsApart.{in_order}
use Rattle.store.proofs.input_laws.chosen_in_order.Goals as goal

pub returns : goal.returns
returns g c = λ v choice p own apart given numbers. in_order p.files own (chosen_apart g.C.Comparator.cmp g.met.C.Comparator.total v apart choice p given) numbers
