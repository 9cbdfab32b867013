-- What a folder that tells files tells, opens as and loads.
use Rattle.std.proofs.Common.{ℕ, List, Option, Result, Ok, Err, refl, codes}
use Rattle.ikey.specs.fault.Fault.{Fault}
use Rattle.edit.specs.Version.{State}
use Rattle.folder.specs.Calls.{Files, Tells}
use Rattle.folder.specs.Folder.{TellsSame}
use Rattle.folder.specs.LoadedTables.{IsLoaded}
use Rattle.folder.specs.OpenAnswer.{IsOpened}
use Rattle.folder.specs.ReadsAs.{IsFileIn}
use Rattle.folder.specs.declared.order.Order.{Order}
use Rattle.folder.proofs.LoadingLemmas.{loaded_before}
use Rattle.folder.proofs.OpeningLemmas.{held_before}

-- it tells them still where what may be read stays the same
pub told_still : (old new : List ℕ → Option (List ℕ) → Type 0) (files : Files) → TellsSame old new → Tells old files → Tells new files
told_still old new files same tells name held = (λ h. (tells name held).0 ((same name held).1 h), λ h. (same name held).0 ((tells name held).1 h))

turned : (tells : List ℕ → Option (List ℕ) → Type 0) (files : Files) → Tells tells files → TellsSame (IsFileIn files) tells
turned tells files h name held = ((h name held).1, (h name held).0)

opened_before : (old new : List ℕ → Option (List ℕ) → Type 0) (r : Result (Order × State) Fault) → TellsSame old new → IsOpened new r → IsOpened old r
opened_before old new r same (Err e, h) = (Err e, (held_before old new (codes "CURRENT") (codes "CURRENT") (Err e) same refl h.0, h.1))
opened_before old new r same (Ok current, (h, (Err e, k))) = (Ok current, (held_before old new (codes "CURRENT") (codes "CURRENT") (Ok current) same refl h, (Err e, k)))
opened_before old new r same (Ok current, (h, (Ok number, (n, (m, (k, f)))))) =
    (Ok current, (held_before old new (codes "CURRENT") (codes "CURRENT") (Ok current) same refl h, (Ok number, (n, (m, (held_before old new _ _ m same refl k, f))))))

-- what it opens as is what the files open as
pub opened_in : (tells : List ℕ → Option (List ℕ) → Type 0) (files : Files) (r : Result (Order × State) Fault) → Tells tells files → IsOpened tells r → IsOpened (IsFileIn files) r
opened_in tells files r h opened = opened_before (IsFileIn files) tells r (turned tells files h) opened

-- and the tables that it loads are theirs
pub loaded_in : (tells : List ℕ → Option (List ℕ) → Type 0) (files : Files) (numbers : List ℕ) (r : Result (List (ℕ × List ℕ)) Fault) → Tells tells files → IsLoaded tells numbers r → IsLoaded (IsFileIn files) numbers r
loaded_in tells files numbers r h loaded = loaded_before (IsFileIn files) tells numbers r (turned tells files h) loaded
