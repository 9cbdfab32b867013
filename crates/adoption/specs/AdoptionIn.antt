-- Adopted edits and outcomes of the code, as contracts see them.
use Rattle.std.specs.Prelude.{ℕ, List}
use Rattle.install.specs.Install.{tables_in}
use Rattle.pick.specs.PickedInputs.{picked_in}
use Rattle.adoption.specs.Adoption.{Adoption}
use Rattle.adoption.specs.declared.adopted_edit.AdoptedEdit.{AdoptedEdit}
use Rattle.adoption.specs.declared.given_outcome.GivenOutcome.{GivenOutcome}

abbrev pub adoption_in : AdoptedEdit → Adoption
adoption_in a = record {
  picked = picked_in a.picked;
  outputs = a.outputs.items;
  edit = a.edit.items;
  next = a.next;
  last = a.last_sequence;
}

-- the adopted edit of an outcome
abbrev pub adoption_of : GivenOutcome → Adoption
adoption_of g = record {
  picked = picked_in g.picked;
  outputs = g.outputs.items;
  edit = g.outcome.edit.items;
  next = g.next;
  last = g.last_sequence;
}

-- it, and the tables of the outputs
abbrev pub given_in : GivenOutcome → Adoption × List (ℕ × List ℕ)
given_in g = (adoption_of g, tables_in g.outcome.tables.items)
