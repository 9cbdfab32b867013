-- The calls that name a version, and what they make of a version.
use Rattle.std.specs.Prelude.{◌≡◌, ℕ, List, ◌++◌, map, unwrap_or}
use Rattle.edit.specs.Version.{State}
use Rattle.folder.specs.Calls.{Call}
use Rattle.folder.specs.Manifest.{order_name}
use Rattle.folder.specs.Orders.{order_cmp}
use Rattle.install.specs.Install.{IsEditedBy, current_calls, manifest_bytes, manifest_calls}
use Rattle.install.specs.Install.{table_bytes_of}
use Rattle.install.specs.ReadsOf.{NamedVersion, numbers_in}

-- the number of the next manifest: the version's next file
abbrev pub manifest_of : State → ℕ
manifest_of v = unwrap_or v.next_file 0

-- the manifest of the edited version
abbrev pub named_bytes : NamedVersion → List ℕ → List ℕ
named_bytes v edit = manifest_bytes (order_name v.order) (order_cmp v.order) v.version edit

-- Manifest and CURRENT's text are written, and the text is renamed to CURRENT.
abbrev pub naming_calls : NamedVersion → List ℕ → List Call
naming_calls v edit = manifest_calls (manifest_of v.version) (named_bytes v edit)
    ++ current_calls (manifest_of v.version)

-- the tables of a version, of these
abbrev pub tables_of : NamedVersion → List (ℕ × List ℕ) → List (ℕ × List ℕ)
tables_of v tables = map (λ (n : ℕ). (n, table_bytes_of tables n)) (numbers_in v)

-- The outputs and the bytes of an edit make the next version of this one, by a manifest whose
-- number is the version's next file.
pub record IsNamedEdit (v : NamedVersion) (outputs : List (ℕ × List ℕ)) (bytes : List ℕ)
    (next : NamedVersion) : Type 0 where
  pub order : next.order ≡ v.order
  pub manifest : next.manifest ≡ manifest_of v.version
  pub makes : IsEditedBy (order_cmp v.order) v.version (manifest_of v.version) outputs bytes
      next.version
