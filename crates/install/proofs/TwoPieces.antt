-- An installation as two pieces of work.
use Rattle.std.proofs.Common.{◌≡◌, ◌⊎◌, ℕ, List, [], ◌∷◌, ◌++◌, Option, Result, Ok, Err, IsErr, IsErrAnd, OnOk, refl, sym, ap, subst, ◌∙◌, inl, inr}
use Rattle.std.proofs.lemmas.List.{append-nil}
use Rattle.std.specs.declared.cmp.Ordering.{Ordering}
use Rattle.edit.specs.Version.{State}
use Rattle.edit.specs.fault.Fault.{Fault}
use Rattle.folder.specs.Calls.{Files}
use Rattle.folder.specs.CallSequence.{MakesCalls}
use Rattle.folder.specs.Manifest.{order_name}
use Rattle.folder.specs.Orders.{order_cmp}
use Rattle.folder.specs.declared.folder.Folder.{Ghosts}
use Rattle.folder.specs.declared.order.Order.{Order}
use Rattle.install.specs.GroupedInstallation.{tables_of_groups}
use Rattle.install.specs.Install.{current_calls, manifest_bytes, manifest_calls, table_calls}
use Rattle.install.specs.Installation.{InstallationSurvives, IsInstallation, ReadsEither, naming_link, place_with, tables_link}
use Rattle.install.specs.Naming.{IsNamedEdit, manifest_of}
use Rattle.install.specs.ReadsOf.{NamedVersion, Reads}
use Rattle.install.specs.Work.{Goes, Installed, IsPieceDone, IsSettledEnd, Place, WorkLink, Wrote, begun, place_at}
use Rattle.install.proofs.Parts.{hands_none, hands_stopped, runs_same, runs_whole}
use Rattle.install.proofs.Sound.{opened_sound}
use Rattle.install.proofs.Survival.{survives}
use Rattle.install.proofs.WorkRows.{leaves_as}

-- ---- from its calls

abbrev named_version : Order → State → ℕ → NamedVersion
named_version order version manifest = record { order = order; version = version; manifest = manifest }

goes_named : (v next : NamedVersion) (tables : List (ℕ × List ℕ)) (edit : List ℕ) → IsNamedEdit v tables edit next → Goes (place_with v tables edit next) (Installed edit) (place_at next)
goes_named v next tables edit h = (
  h.makes.edit,
  h.makes.read,
  h.makes.read,
  h.makes.edited,
  λ e. absurd (cc e),
  ap place_at (ap (λ (o : Order). named_version o next.version next.manifest) h.order ∙ ap (named_version v.order next.version) h.manifest),
)

refused : {X : Type 0} (r : Result X Fault) (e : Fault) → IsErrAnd r (λ f. f ≡ e) → IsErr r
refused (Ok x) e h = absurd h
refused (Err f) e h = refl

module _ {F : Type 0} (g : Ghosts F) (name : List ℕ) (cmp : List ℕ → List ℕ → Ordering) (u : State) (number : ℕ) (groups : List (List (ℕ × List ℕ))) (tables : List (ℕ × List ℕ)) (edit : List ℕ) (same : tables_of_groups groups ≡ tables) where
  -- for each version and the next one as which the calls may be seen
  abbrev pub AreTwoPieces : F → F → Result (Unit {0}) Fault → Type 0
  AreTwoPieces a b r = (v next : NamedVersion) → order_name v.order ≡ name → order_cmp v.order ≡ cmp → v.version ≡ u → number ≡ manifest_of u → IsNamedEdit v tables edit next → IsInstallation g (place_with v tables edit next) groups a b r

  written : (a b : F) (r : Result (Unit {0}) Fault) (v next : NamedVersion) → IsNamedEdit v tables edit next → MakesCalls (table_calls groups) (g.calls a) (g.calls b) (g.tells a) (g.tells b) r → IsPieceDone g (begun a v) (tables_link (place_with v tables edit next) groups b) r
  written a b r v next h runs = record { goes = (h, same, refl, refl, refl, refl); runs = runs }

  -- memory ran out before the first call
  pub none_written : (a : F) (e : Fault) (r : Result (Unit {0}) Fault) → IsErrAnd r (λ f. f ≡ e) → AreTwoPieces a a r
  none_written a e r h = λ v next named ordered is first made.
      inl (refused r e h, (written a a r v next made (hands_none (λ f. f ≡ e) (table_calls groups) (g.calls a) (g.tells a) r h), refl))

  -- some tables were written
  pub some_written : {X : Type 0} (a b : F) (e : Fault) (r : Result (Unit {0}) Fault) → IsErrAnd r (λ f. f ≡ e) → MakesCalls {T = X} (table_calls groups) (g.calls a) (g.calls b) (g.tells a) (g.tells b) (Err e) → AreTwoPieces a b r
  some_written {X = X} a b e r h runs = λ v next named ordered is first made.
      let all = hands_stopped {T = X} (λ f. f ≡ e) (table_calls groups) [] (g.calls a) (g.calls b) (g.tells a) (g.tells b) e r h runs in
      inl (refused r e h, (written a b r v next made (runs_same (table_calls groups ++ []) (table_calls groups) (g.calls a) (g.calls b) (g.tells a) (g.tells b) r (append-nil (table_calls groups)) all), refl))

  -- all tables were written, and then the manifest
  pub all_written : {X : Type 0} (manifest : List ℕ) (a b d : F) (x : X) (r : Result (Unit {0}) Fault) → manifest ≡ manifest_bytes name cmp u edit → MakesCalls {E = Fault} (table_calls groups) (g.calls a) (g.calls b) (g.tells a) (g.tells b) (Ok x)
      → MakesCalls (manifest_calls number manifest ++ current_calls number) (g.calls b) (g.calls d) (g.tells b) (g.tells d) r → AreTwoPieces a d r
  all_written manifest a b d x r text one two = λ v next named ordered is first made.
      let whole : List ℕ = manifest_bytes (order_name v.order) (order_cmp v.order) v.version edit in
      let bytes : manifest ≡ whole = cc (text, named, ordered, is) in
      let n : number ≡ manifest_of v.version = cc (first, is) in
      let calls = λ (k : ℕ) (m : List ℕ). manifest_calls k m ++ current_calls k in
      let alike : calls number manifest ≡ calls (manifest_of v.version) whole = ap (calls number) bytes ∙ ap (λ (k : ℕ). calls k whole) n in
      let runs = runs_same (calls number manifest) (calls (manifest_of v.version) whole) (g.calls b) (g.calls d) (g.tells b) (g.tells d) r alike two in
      inr (b, (written a b (Ok tt) v next made (runs_whole (table_calls groups) (g.calls a) (g.calls b) (g.tells a) (g.tells b) x one), (record { goes = goes_named v next tables edit made; runs = runs }, refl)))

-- ---- what a crash leaves of it

on_settled : {F : Type 0} {P : Type 0} (r : Result (Unit {0}) Fault) (links : List (WorkLink F)) → (IsSettledEnd r links → P) → OnOk r P
on_settled (Ok u) links h = h tt
on_settled (Err e) links h = tt

never_ok : {X : Type 0} (P : Type 0) (r : Result X Fault) → IsErr r → OnOk r P
never_ok P (Ok x) h = absurd (cc h)
never_ok P (Err e) h = tt

once : {A : Type 0} → A ⊎ A → A
once (inl a) = a
once (inr a) = a

first_twice : {A B : Type 0} → A ⊎ (A ⊎ B) → A ⊎ B
first_twice (inl a) = inl a
first_twice (inr h) = h

pub installation_survives : {F : Type 0} (g : Ghosts F) → InstallationSurvives g
installation_survives g p groups old new result tables start (inl h) stands =
    let links = tables_link p groups new ∷ [] in
    let s = survives g opened_sound old (tables_link p groups new).to p.now tables result links start h.1 stands in (
      leaves_as start (g.calls old) (g.calls new) _ (ReadsEither p tables) (λ files r. inl (once r)) s.0,
      never_ok _ result h.0,
      λ files tells reads. let now = s.2 files tells reads in (now.0, now.1, inl (once now.2)),
    )
installation_survives g p groups old new result tables start (inr h) stands =
    let links = tables_link p groups h.0 ∷ (naming_link p new ∷ []) in
    let s = survives g opened_sound old (naming_link p new).to p.now tables result links start h.1 stands in (
      leaves_as start (g.calls old) (g.calls new) _ (ReadsEither p tables) (λ files r. first_twice r) s.0,
      on_settled result links s.1,
      λ files tells reads. let now = s.2 files tells reads in (now.0, now.1, first_twice now.2),
    )
