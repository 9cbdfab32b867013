-- A row of work: at each moment a crash leaves a version that was named.
use Rattle.std.proofs.Common.{◌≡◌, ◌⊎◌, ◌<◌, ◌^◌, ℕ, true, List, [], ◌∷◌, ◌++◌, map, Result, Ok, Err, OnOk, refl, sym, ap, subst, ◌∙◌, inl, inr, append_assoc}
use Rattle.std.proofs.lemmas.List.{append-nil}
use Rattle.edit.specs.fault.Fault.{Fault}
use Rattle.folder.specs.Calls.{Call, Done, Files, FolderView, Step}
use Rattle.folder.specs.CallSequence.{AreMade, AreMadeBy, MakesCalls, TellsThrough}
use Rattle.folder.specs.Crash.{IsMoment, Leads, World, open_world}
use Rattle.folder.specs.declared.folder.Folder.{Ghosts}
use Rattle.folder.proofs.CrashLemmas.{shown_left}
use Rattle.folder.proofs.RunLemmas.{changes_then}
use Rattle.folder.proofs.WrittenLemmas.{AllWritten, leads_none}
use Rattle.install.specs.ReadsOf.{NamedVersion, Reads}
use Rattle.install.specs.Work.{At, Cleared, Goes, Installed, IsPieceDone, IsSettledEnd, IsWorkOn, NamesNothing, Piece, Place, ReadsOneOf, WorkLink, WorkSurvives, Wrote, begun, calls_of, place_at, tables_after, tables_then}
use Rattle.install.proofs.Moments.{leads_split, made_by, moment_made, no_moment}
use Rattle.install.proofs.NamedReads.{StandsNamed, left_of, manifest_small}
use Rattle.install.proofs.Outputs.{filed}
use Rattle.install.proofs.Pieces.{Held, IsPlace, cleared, installed, joint_edit, left_held, named_low, none_pending, place_begun, placed, wrote}
use Rattle.install.proofs.Sound.{OpenedIsSound}
use Rattle.install.proofs.WorkRows.{moment_split}

-- ---- one piece

pub record PieceEnd (p q : Place) (piece : Piece) (tables : List (ℕ × List ℕ)) : Type 0 where
  pub part : (start w : World) (steps : List Step) → Held p tables start → AreMade (calls_of p piece) steps → Leads start steps w
      → (Reads p.now tables w.left ⊎ Reads q.now (tables_then p piece q.now tables) w.left) × (steps ≡ map Done (calls_of p piece) → Held q (tables_then p piece q.now tables) w)
  pub stays : NamesNothing piece → (start w : World) (steps : List Step) → Held p tables start → AreMade (calls_of p piece) steps → Leads start steps w → StandsNamed q.now (tables_then p piece q.now tables) w

pub piece_ends : OpenedIsSound → (p q : Place) (piece : Piece) (tables : List (ℕ × List ℕ)) → Goes p piece q → PieceEnd p q piece tables
piece_ends sound p q (Wrote a groups) tables goes = record {
  part = λ start w steps h made l. let x = wrote p q a groups goes h.place tables start w steps h made l in (inl (left_of p.now tables w x.0), x.1);
  stays = λ none' start w steps h made l.
      let x = wrote p q a groups goes h.place tables start w steps h made l in
      subst (λ (v : NamedVersion). StandsNamed v tables w) (sym goes.2) x.0;
}
piece_ends sound p q (Installed bytes) tables goes = record {
  part = λ start w steps h made l. installed p q bytes (joint_edit p q bytes goes h.place) (placed p q bytes goes) (named_low p q bytes goes h.place) (sound p.now tables start.shown.files (record { reads = h.stands.stands.reads; named = h.stands.named })) tables start w steps h made l;
  stays = λ none' start w steps h made l. absurd none';
}
piece_ends sound p q (Cleared names) tables goes = record {
  part = λ start w steps h made l.
      let r : Reads p.now tables start.shown.files = record { reads = h.stands.stands.reads; named = h.stands.named } in
      let stands : StandsNamed p.now tables w = cleared p.now tables (record { files = (sound p.now tables start.shown.files r).small; small = manifest_small p.now tables start.shown.files r }) names start w steps goes.2 h.stands made l in
      let none' : p.tables ≡ [] = ap (λ (x : Place). x.tables) (none_pending p h.place goes.1) in (
        inl (left_of p.now tables w stands),
        λ done. subst (λ (x : Place). Held x tables w) (sym goes.0) (record {
          place = h.place;
          stands = stands;
          written = subst (λ (t : List (ℕ × List ℕ)). AllWritten (filed t []) w) (sym none') tt;
        }),
      );
  stays = λ none' start w steps h made l.
      let r : Reads p.now tables start.shown.files = record { reads = h.stands.stands.reads; named = h.stands.named } in
      let stands : StandsNamed p.now tables w = cleared p.now tables (record { files = (sound p.now tables start.shown.files r).small; small = manifest_small p.now tables start.shown.files r }) names start w steps goes.2 h.stands made l in
      subst (λ (x : Place). StandsNamed x.now tables w) (sym goes.0) stands;
}

-- ---- a row

whole_moment : (steps : List Step) → IsMoment steps steps
whole_moment [] = tt
whole_moment (step ∷ steps) = inl (refl, whole_moment steps)

always_ok : {T E : Type 0} {P : Type 0} (r : Result T E) → P → OnOk r P
always_ok (Ok x) h = h
always_ok (Err e) h = tt

then_ok : {T E : Type 0} {P Q : Type 0} (r : Result T E) → (P → Q) → OnOk r P → OnOk r Q
then_ok (Ok x) f h = f h
then_ok (Err e) f h = tt

made_ok : {T E : Type 0} {P : Type 0} (calls : List Call) (steps : List Step) (r : Result T E) → AreMadeBy calls steps r → (steps ≡ map Done calls → P) → OnOk r P
made_ok calls steps (Ok x) made f = f made
made_ok calls steps (Err e) made f = tt

first_of : {F : Type 0} (p : Place) (tables : List (ℕ × List ℕ)) (links : List (WorkLink F)) (files : Files) → Reads p.now tables files → ReadsOneOf p tables links files
first_of p tables [] files r = r
first_of p tables (l ∷ links) files r = inl r

module _ {F : Type 0} (g : Ghosts F) (sound : OpenedIsSound) where
  record Row (at new : At F) (tables : List (ℕ × List ℕ)) (links : List (WorkLink F)) (result : Result (Unit {0}) Fault) : Type 0 where
    steps : List Step
    all : g.calls new.folder ≡ g.calls at.folder ++ steps
    change : TellsThrough steps (g.tells at.folder) (g.tells new.folder)
    each : (start w : World) (sofar : List Step) → Held at.place tables start → IsMoment steps sofar → Leads start sofar w → ReadsOneOf at.place tables links w.left
    stays : IsSettledEnd result links → (start w : World) → Held at.place tables start → Leads start steps w → StandsNamed new.place.now (tables_after at.place tables links) w
    ends : OnOk result ((start w : World) → Held at.place tables start → Leads start steps w → Held new.place (tables_after at.place tables links) w)

  nothing_done : (at : At F) (tables : List (ℕ × List ℕ)) (result : Result (Unit {0}) Fault) → Row at at tables [] result
  nothing_done at tables result = record {
    steps = [];
    all = sym (append-nil (g.calls at.folder));
    change = λ s tells. (s, refl, tells);
    each = λ start w sofar held moment l.
        let is : w ≡ start = leads_none start w sofar (no_moment sofar moment) l in
        subst (λ (x : World). Reads at.place.now tables x.left) (sym is) (left_held at.place tables start held);
    stays = λ settled start w held l. subst (StandsNamed at.place.now tables) (sym l) held.stands;
    ends = always_ok result (λ start w held l. subst (Held at.place tables) (sym l) held);
  }

  one_stays : (at : At F) (l : WorkLink F) (tables : List (ℕ × List ℕ)) (steps : List Step) (r : Result (Unit {0}) Fault) → PieceEnd at.place l.to.place l.piece tables → AreMadeBy (calls_of at.place l.piece) steps r → IsSettledEnd r (l ∷ []) → (start w : World) → Held at.place tables start → Leads start steps w
      → StandsNamed l.to.place.now (tables_then at.place l.piece l.to.place.now tables) w
  one_stays at l tables steps (Ok x) end made settled start w held leads =
      ((end.part start w steps held (made_by {T = Unit {0}} {E = Fault} (calls_of at.place l.piece) steps (Ok tt) made) leads).1 made).stands
  one_stays at l tables steps (Err e) end made settled start w held leads = end.stays settled start w steps held made leads

  settled_rest : (l k : WorkLink F) (links : List (WorkLink F)) (r : Result (Unit {0}) Fault) → IsSettledEnd r (l ∷ (k ∷ links)) → IsSettledEnd r (k ∷ links)
  settled_rest l k links (Ok x) h = tt
  settled_rest l k links (Err e) h = h

  one_done : (at : At F) (l : WorkLink F) (tables : List (ℕ × List ℕ)) (result : Result (Unit {0}) Fault) → IsPieceDone g at l result → Row at l.to tables (l ∷ []) result
  one_done at l tables result done =
      let end = piece_ends sound at.place l.to.place l.piece tables done.goes in
      let calls = calls_of at.place l.piece in
      let made : AreMade calls done.runs.steps = made_by calls done.runs.steps result done.runs.made in
      record {
        steps = done.runs.steps;
        all = done.runs.appended;
        change = done.runs.change;
        each = λ start w sofar held moment leads. (end.part start w sofar held (moment_made calls done.runs.steps sofar made moment) leads).0;
        stays = one_stays at l tables done.runs.steps result end done.runs.made;
        ends = made_ok calls done.runs.steps result done.runs.made (λ all start w held leads. (end.part start w done.runs.steps held made leads).1 all);
      }

  then_row : (at new : At F) (l k : WorkLink F) (links : List (WorkLink F)) (tables : List (ℕ × List ℕ)) (result : Result (Unit {0}) Fault) → IsPieceDone g at l (Ok tt)
      → (end : PieceEnd at.place l.to.place l.piece tables) → Row l.to new (tables_then at.place l.piece l.to.place.now tables) (k ∷ links) result → Row at new tables (l ∷ (k ∷ links)) result
  then_row at new l k links tables result done end rest =
      let calls = calls_of at.place l.piece in
      let one = done.runs in
      let made : AreMade calls one.steps = made_by {T = Unit {0}} {E = Fault} calls one.steps (Ok tt) one.made in
      let after = tables_then at.place l.piece l.to.place.now tables in
      record {
        steps = one.steps ++ rest.steps;
        all = rest.all ∙ (ap (λ (t : List Step). t ++ rest.steps) one.appended ∙ append_assoc (g.calls at.folder) one.steps rest.steps);
        change = changes_then one.steps rest.steps (g.tells at.folder) (g.tells l.to.folder) (g.tells new.folder) one.change rest.change;
        each = λ start w sofar held moment leads. elim (moment_split one.steps rest.steps sofar moment) [
          | inl m ↦ elim (end.part start w sofar held (moment_made calls one.steps sofar made m) leads).0 [
            | inl a ↦ inl a
            | inr b ↦ inr (first_of l.to.place after (k ∷ links) w.left b)
          ]
          | inr m ↦
              let s = leads_split start w one.steps m.0 (subst (λ (x : List Step). Leads start x w) m.1 leads) in
              inr (rest.each s.0 w m.0 ((end.part start s.0 one.steps held made s.1).1 one.made) m.2 s.2)
        ];
        stays = λ settled start w held leads.
            let s = leads_split start w one.steps rest.steps leads in
            rest.stays (settled_rest l k links result settled) s.0 w ((end.part start s.0 one.steps held made s.1).1 one.made) s.2;
        ends = then_ok result (λ f start w held leads.
            let s = leads_split start w one.steps rest.steps leads in
            f s.0 w ((end.part start s.0 one.steps held made s.1).1 one.made) s.2) rest.ends;
      }

  row : (at new : At F) (tables : List (ℕ × List ℕ)) (result : Result (Unit {0}) Fault) (links : List (WorkLink F)) → IsWorkOn g at new result links → Row at new tables links result
  row at new tables result [] work = subst (λ (x : At F). Row at x tables [] result) (sym work) (nothing_done at tables result)
  row at new tables result (l ∷ []) work = subst (λ (x : At F). Row at x tables (l ∷ []) result) (sym work.1) (one_done at l tables result work.0)
  row at new tables result (l ∷ (k ∷ links)) work =
      let end = piece_ends sound at.place l.to.place l.piece tables work.0.goes in
      then_row at new l k links tables result work.0 end (row l.to new (tables_then at.place l.piece l.to.place.now tables) result (k ∷ links) work.1)

held_begun : OpenedIsSound → (v : NamedVersion) (tables : List (ℕ × List ℕ)) (w : World) → Reads v tables w.shown.files → StandsNamed v tables w → Held (place_at v) tables w
held_begun sound v tables w reads stands = record { place = place_begun v (sound v tables w.shown.files reads).state.levels.file_levels; stands = stands; written = tt }

pub survives : {F : Type 0} (g : Ghosts F) → OpenedIsSound → WorkSurvives g
survives {F = F} g sound old new v tables result links start work stands =
    let r = row g sound (begun old v) new tables result links work in
    let held : (w : World) → Leads start (g.calls old) w → Held (place_at v) tables w = λ w l. let s = stands w l in held_begun sound v tables w (record { reads = s.stands.reads; named = s.named }) s in (
      record {
        steps = r.steps;
        all = r.all;
        each = λ sofar moment files left.
            let s = leads_split start left.0 (g.calls old) sofar left.1 in
            subst (ReadsOneOf (place_at v) tables links) (sym left.2) (r.each s.0 left.0 sofar (held s.0 s.1) moment s.2);
      },
      λ settled w l.
          let s = leads_split start w (g.calls old) r.steps (subst (λ (x : List Step). Leads start x w) r.all l) in
          r.stays settled s.0 w (held s.0 s.1) s.2,
      λ files tells reads.
          let s : FolderView = record { files = files; synced = λ name. true } in
          let last = r.change s tells in
          let first : Held (place_at v) tables (open_world s) = held_begun sound v tables (open_world s) reads (record {
            stands = record { reads = reads.reads; settled = λ name rests. record { kept = inl refl; left = refl } };
            named = reads.named;
          }) in
          (last.0.files, last.2, r.each (open_world s) (open_world last.0) r.steps first (whole_moment r.steps) (shown_left r.steps s last.0 last.1)),
    )
