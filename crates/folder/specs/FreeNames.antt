-- Names that a version doesn't use.
use Rattle.std.specs.Prelude.{◌≡◌, ◌≢◌, ◌<◌, ◌^◌, ℕ, true, List, codes}
use Rattle.ikey.specs.Comparator.{KeyOrder}
use Rattle.edit.specs.Version.{State}
use Rattle.folder.specs.Levels.{file_numbers}
use Rattle.folder.specs.Manifest.{is_complete}
use Rattle.folder.specs.Names.{manifest_name, old_table_name, table_name}
use Rattle.folder.specs.ReadsAs.{IsOneOf}

-- the name is not CURRENT, not a manifest's of the version, and not one of its tables'
pub record IsFree (cmp : KeyOrder) (v : State) (name : List ℕ) : Type 0 where
  pub current : name ≢ codes "CURRENT"
  pub manifest : (number : ℕ) → number < 2 ^ 64 → is_complete number v ≡ true →
      name ≢ manifest_name number
  pub table : (number : ℕ) → IsOneOf (file_numbers cmp v) number → name ≢ table_name number
  pub old_table : (number : ℕ) → IsOneOf (file_numbers cmp v) number → name ≢ old_table_name number
