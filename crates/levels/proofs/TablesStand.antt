-- While tables are written whose names are free, the version before stands.
use Rattle.std.proofs.Common.{ℕ, true, List, [], map, Option, Ok, Err, refl, sym, subst, inl, inr}
use Rattle.std.proofs.lemmas.List.{append-nil}
use Rattle.std.specs.declared.cmp.Ordering.{Ordering}
use Rattle.edit.specs.Version.{State}
use Rattle.folder.specs.Calls.{Call, Done, Files, FolderView, Step, Tells}
use Rattle.folder.specs.CallSequence.{AreMade, MakesCalls, TellsThrough}
use Rattle.folder.specs.Crash.{Leads, World, open_world}
use Rattle.folder.specs.ReadsAs.{ReadsAs, StandsAs}
use Rattle.folder.specs.declared.order.Order.{Order}
use Rattle.folder.proofs.CrashLemmas.{left_reads, shown_left}
use Rattle.folder.proofs.WrittenLemmas.{leads_none}
use Rattle.install.specs.GroupedInstallation.{tables_of_groups}
use Rattle.install.specs.Install.{IsBeforeOrAfter, SurvivesCrash, table_calls, version_with}
use Rattle.install.proofs.Changes.{change_by}
use Rattle.install.proofs.Moments.{leads_split, made_by, moment_made}
use Rattle.install.proofs.Outputs.{AreApart, tables_passed}

module _ (cmp : List ℕ → List ℕ → Ordering) (order : Order) (v : State) (tables : List (ℕ × List ℕ)) (groups : List (List (ℕ × List ℕ))) (apart : AreApart cmp v (tables_of_groups groups) []) where
  -- whatever part of these calls was made
  pub tables_stand : (start w : World) (steps : List Step) → StandsAs cmp order v tables start → AreMade (table_calls groups) steps → Leads start steps w → StandsAs cmp order v tables w
  tables_stand start w steps h made l =
      elim (tables_passed cmp order v tables groups [] [] steps start w h apart tt (subst (λ (c : List Call). AreMade c steps) (sym (append-nil (table_calls groups))) made) l) [
        | inl still ↦ still.0
        | inr one ↦ subst (StandsAs cmp order v tables) (sym (leads_none one.world w one.more one.made one.leads)) one.stands
      ]

  -- what is read after all of them
  pub read_after : (files : Files) (old new : List ℕ → Option (List ℕ) → Type 0) → Tells old files → ReadsAs cmp order v tables files → TellsThrough (map Done (table_calls groups)) old new
      → (now : Files) × Tells new now × ReadsAs cmp order v tables now
  read_after files old new told reads change =
      let s : FolderView = record { files = files; synced = λ name. true } in
      let last = change s told in
      let stands : StandsAs cmp order v tables (open_world s) = record { reads = reads; settled = λ name rests. record { kept = inl refl; left = refl } } in
      let made : AreMade (table_calls groups) (map Done (table_calls groups)) = made_by {T = Unit {0}} {E = Unit {0}} (table_calls groups) (map Done (table_calls groups)) (Ok tt) refl in
      let end = tables_stand (open_world s) (open_world last.0) (map Done (table_calls groups)) stands made (shown_left (map Done (table_calls groups)) s last.0 last.1) in
      (last.0.files, last.2, left_reads cmp order v tables (open_world last.0) end)

  -- a crash at any moment leaves the version before, and so does no crash
  pub version_stays : {T E : Type 0} (before now : List Step) (old new : List ℕ → Option (List ℕ) → Type 0) (e : E) → MakesCalls {T = T} (table_calls groups) before now old new (Err e)
      → SurvivesCrash {T = T} cmp order (version_with v tables) (version_with v tables) (change_by before now old new) (Err e)
  version_stays {T = T} {E = E} before now old new e runs =
      record {
        any_moment = λ start stands. record {
          steps = runs.steps;
          all = runs.appended;
          each = λ sofar moment files left.
              let split = leads_split start left.0 before sofar left.1 in
              let some = moment_made (table_calls groups) runs.steps sofar runs.made moment in
              subst (IsBeforeOrAfter cmp order v tables v tables) (sym left.2) (inl (left_reads cmp order v tables left.0 (tables_stand split.0 left.0 sofar (stands split.0 split.1) some split.2)));
        };
        installed = λ start stands. tt;
        read = λ files tells reads.
            let s : FolderView = record { files = files; synced = λ name. true } in
            let last = runs.change s tells in
            let stands : StandsAs cmp order v tables (open_world s) = record { reads = reads; settled = λ name rests. record { kept = inl refl; left = refl } } in
            let end = tables_stand (open_world s) (open_world last.0) runs.steps stands runs.made (shown_left runs.steps s last.0 last.1) in
            (last.0.files, last.2, inl (left_reads cmp order v tables (open_world last.0) end), tt);
      }
