-- A manifest of written tables, before it is installed.
use Rattle.std.specs.Prelude.{◌≡◌, ℕ, List}
use Rattle.folder.specs.Comparator.{KeyOrder}
use Rattle.folder.specs.Edit.{Edit, IsEdit, edit_bytes}
use Rattle.folder.specs.Version.{IsState, State}
use Rattle.folder.specs.VersionOrder.{snapshot_of}
use Rattle.install.specs.Install.{manifest_bytes}
use Rattle.store.specs.declared.ready_manifest.ReadyManifest.{ReadyManifest}

-- a manifest that has the edit as which these bytes read
pub record IsManifestReady (name : List ℕ) (cmp : KeyOrder) (v : State) (edits : List ℕ)
    (m : ReadyManifest) : Type 0 where
  pub edit : Edit
  pub read : IsEdit edits edit
  pub deleted : m.deleted.keys ≡ edit.deleted
  pub bytes : m.edit.items ≡ edit_bytes edit
  pub again : IsEdit m.edit.items edit
  pub manifest : m.bytes.items ≡ manifest_bytes name cmp v m.edit.items
  pub snapshot : IsEdit (edit_bytes (snapshot_of name cmp v)) (snapshot_of name cmp v)
  pub state : IsState v.pointers v.files
