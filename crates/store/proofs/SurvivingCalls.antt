-- What a crash leaves of the calls of a compaction, and of those of a sync before them.
use Rattle.std.proofs.Common.{ℕ, List, [], ◌++◌, map, Option, Result, Ok, Err, OnOk, refl, sym, subst}
use Rattle.folder.specs.fault.Fault.{Fault}
use Rattle.folder.specs.CallSequence.{AreMadeBy, MakesCalls}
use Rattle.folder.specs.Calls.{Call, Done, Step}
use Rattle.folder.specs.Crash.{LeavesOnly}
use Rattle.folder.specs.Orders.{order_cmp}
use Rattle.folder.specs.declared.folder.Folder.{Ghosts}
use Rattle.install.specs.Installation.{InstallCallsSurvive, ReadsEither, place_with}
use Rattle.install.specs.Naming.{tables_of}
use Rattle.install.specs.ReadsOf.{Stands}
use Rattle.store.specs.CompactionWork.{CompactionsSurvive, SyncsStand}
use Rattle.store.specs.VersionSync.{sync_calls}
use Rattle.store.proofs.Synced.{synced_stands}

-- an answer without its value
abbrev done_as : {X : Type 0} → Result X Fault → Result (Unit {0}) Fault
done_as (Ok x) = Ok tt
done_as (Err e) = Err e

made_as : {X : Type 0} (calls : List Call) (steps : List Step) (r : Result X Fault) → AreMadeBy calls steps r → AreMadeBy calls steps (done_as r)
made_as calls steps (Ok x) h = h
made_as calls steps (Err e) h = h

on_done : {X : Type 0} (P : Type 0) (r : Result X Fault) → OnOk (done_as r) P → OnOk r P
on_done P (Ok x) h = h
on_done P (Err e) h = tt

pub compactions_survive : {F : Type 0} (g : Ghosts F) → InstallCallsSurvive → CompactionsSurvive g
compactions_survive g law v next answer old new result tables start calls named stands =
    let s = law v next answer.tables answer.edit calls.groups (g.calls old) calls.runs.steps (done_as result) tables start named calls.together (made_as _ calls.runs.steps result calls.runs.made) stands in (
      subst (λ (after : List Step). LeavesOnly start (g.calls old) after (ReadsEither (place_with v answer.tables answer.edit next) tables)) (sym calls.runs.appended) s.0,
      on_done (Stands next (tables_of next (answer.tables ++ tables)) start (g.calls new)) result
          (subst (λ (after : List Step). OnOk (done_as result) (Stands next (tables_of next (answer.tables ++ tables)) start after)) (sym calls.runs.appended) s.1),
    )

-- after all syncs of a version a folder stands for it, whatever it tells
pub syncs_stand : {F : Type 0} (g : Ghosts F) → SyncsStand g
syncs_stand g v first at tables start made reads =
    let syncs = sync_calls (order_cmp v.order) v.version v.manifest in
    let nothing : List ℕ → Option (List ℕ) → Type 0 = λ name held. ⊥ in
    let runs : MakesCalls {T = Unit {0}} {E = Fault} syncs (g.calls first) (g.calls at) nothing nothing (Ok tt) = record { steps = map Done syncs; made = refl; appended = made.calls; change = λ s tells. absurd ((tells [] (s.files [])).1 refl) } in
    synced_stands (order_cmp v.order) v.order v.version v.manifest tables start (g.calls first) (g.calls at) nothing nothing (Ok tt) runs reads
