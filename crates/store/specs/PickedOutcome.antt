-- The outcome of a compaction of inputs that are a part of a level.
use Rattle.std.specs.Prelude.{◌≡◌, ℕ, List, Option, Ok}
use Rattle.folder.specs.Comparator.{KeyOrder, ShortKeys}
use Rattle.folder.specs.Version.{State}
use Rattle.folder.specs.Calls.{ToldFiles}
use Rattle.folder.specs.LoadedTables.{IsLoaded}
use Rattle.pick.specs.PickedInputs.{PickedInputs}
use Rattle.reads.specs.TableContents.{Contents}
use Rattle.compact.specs.OneThread.{Answer}
use Rattle.compact.specs.declared.settings.Settings.{Settings}
use Rattle.store.specs.FolderRequest.{compaction_from}
use Rattle.store.specs.InputsCompaction.{input_numbers, input_tables}

-- What one thread answers for inputs, with the tables of their numbers: each is valid, and as its
-- file states. A read of the folder may give each of these tables, by what the folder tells; one
-- that tells nothing allows any bytes.
pub record IsPickedCompacted (first : Option ℕ) (cmp : KeyOrder) (short_keys : ShortKeys)
    (told : ToldFiles) (v : State) (s : Settings) (p : PickedInputs) (answer : Answer)
    : Type 0 where
  pub loaded : List (ℕ × List ℕ)
  pub read : IsLoaded told (input_numbers p.files) (Ok loaded)
  pub contents : List Contents
  pub stated : input_tables cmp p.files loaded ≡ Ok contents
  pub answered : compaction_from first cmp short_keys v loaded p s ≡ Ok answer
