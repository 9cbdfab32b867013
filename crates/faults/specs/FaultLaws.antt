-- Laws of what is wrong with a version.
use Rattle.std.specs.Prelude.{◌≡◌, ◌↔◌, ℕ, List, [], map, Some, Ok, Contains}
use Rattle.std.specs.List.{All}
use Rattle.table.specs.Comparator.{KeyOrder}
use Rattle.table.specs.TableBytes.{AreBytes}
use Rattle.reads.specs.Boundaries.{KeysRise}
use Rattle.folder.specs.Version.{State, IsState}
use Rattle.folder.specs.Calls.{Files}
use Rattle.folder.specs.ReadsAs.{IsFileIn}
use Rattle.checks.specs.TestedTables.{IsTested}
use Rattle.checks.specs.declared.version_totals.VersionTotals.{VersionTotals}
use Rattle.faults.specs.VersionFault.{MisplacedKey}
use Rattle.faults.specs.KeyFaults.{SearchedEntry, misplaced_at, misplaced_keys}
use Rattle.faults.specs.AllFaults.{version_faults}

-- with the tables that files hold a version passes its test
pub record IsAccepted (cmp : KeyOrder) (files : Files) (v : State) : Type 0 where
  pub tested : VersionTotals
  pub is : IsTested (IsFileIn files) cmp v (Ok tested)

-- what files hold are bytes
abbrev pub HoldBytes : Files → Type 0
HoldBytes files = (name held : List ℕ) → files name ≡ Some held → AreBytes held

-- nothing is wrong with a version exactly if it passes its test
abbrev pub NoFaultLaw : KeyOrder → Type 0
NoFaultLaw cmp = (files : Files) (v : State) → HoldBytes files → IsState v.pointers v.files →
    (version_faults cmp files v ≡ []) ↔ IsAccepted cmp files v

-- exactly the user keys whose entries are not in their order, each once, in the order of the keys
pub record AreMisplaced (cmp : KeyOrder) (entries : List SearchedEntry) (keys : List MisplacedKey)
    : Type 0 where
  pub rising : KeysRise cmp (map (λ (k : MisplacedKey). k.user) keys)
  pub each : All (λ (k : MisplacedKey). misplaced_at entries k.user ≡ Some k) keys
  pub all : (user : List ℕ) (k : MisplacedKey) → misplaced_at entries user ≡ Some k →
      Contains keys k

-- such are the keys that are told
abbrev pub MisplacedLaw : KeyOrder → Type 0
MisplacedLaw cmp =
    (entries : List SearchedEntry) → AreMisplaced cmp entries (misplaced_keys cmp entries)
