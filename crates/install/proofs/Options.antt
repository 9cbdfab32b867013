-- What an edit makes of a version, and what an option holds.
use Rattle.std.proofs.Common.{◌≡◌, List, Option, Some, None, refl}
use Rattle.std.specs.List.{fold}
use Rattle.std.specs.Option.{option_map, option_or}
use Rattle.edit.specs.Edit.{Edit}
use Rattle.edit.specs.Version.{State, with_pointer}
use Rattle.edit.specs.declared.meta.NewFile.{NewFile}

pub option_parts : {A B : Type 0} (f : A → B) (o : Option A) (y : B) → option_map f o ≡ Some y → (x : A) × (o ≡ Some x) × (f x ≡ y)
option_parts f None y h = absurd (cc h)
option_parts f (Some x) y h = let e : f x ≡ y = cc h in (x, refl, e)

-- the version that an edit makes of these files
abbrev pub made : State → Edit → List NewFile → State
made v e files = record {
  log_number = option_or e.log_number v.log_number;
  previous_log = option_or e.previous_log v.previous_log;
  next_file = option_or e.next_file v.next_file;
  last_sequence = option_or e.last_sequence v.last_sequence;
  pointers = fold with_pointer v.pointers e.pointers;
  files = files;
}
