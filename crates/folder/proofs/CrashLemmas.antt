-- What a step leaves of a folder that stands for a version.
use Rattle.std.proofs.Common.{◌≡◌, ◌≢◌, ◌⊎◌, ℕ, Bool, true, false, List, [], ◌∷◌, Option, Some, None, Result, Ok, Err, refl, sym, ap, subst, ◌∙◌, inl, inr, if◌then◌else◌}
use Rattle.std.proofs.lemmas.Option.{same_Some}
use Rattle.std.specs.declared.cmp.Ordering.{Ordering}
use Rattle.ikey.specs.fault.Fault.{Fault}
use Rattle.edit.specs.Edit.{Edit}
use Rattle.edit.specs.Version.{State, empty_state}
use Rattle.ikey.specs.Answers.{IsThen, fault, ◌>>=◌}
use Rattle.ikey.specs.fault.FaultName.TheVariants.{Apply}
use Rattle.logrec.specs.LogReader.{records_of}
use Rattle.folder.specs.Calls.{AreTorn, Created, Done, Files, FolderSynced, Removed, Renamed, FolderView, Shows, Step, Synced, Tried, Written, with_value, with_contents, with_synced, with_written}
use Rattle.folder.specs.CallSequence.{ShowsAll}
use Rattle.folder.specs.Crash.{Happens, IsDurable, Leads, Leaves, MayHold, World, open_world}
use Rattle.folder.specs.FreeNames.{IsFree}
use Rattle.folder.specs.Manifest.{AreEdits, IsEditsAnswer, IsManifestAnswer, is_complete, order_name, order_of, version_after_edits, version_from}
use Rattle.folder.specs.Names.{manifest_name}
use Rattle.folder.specs.ReadsAs.{Current, IsSettled, Manifest, OldTable, ReadsAs, RestsOn, StandsAs, Table}
use Rattle.folder.specs.declared.order.Order.{Order}
use Rattle.folder.proofs.NameLemmas.{texts_alike}
use Rattle.folder.proofs.PutLemmas.{put_other, put_same, same_name}
use Rattle.folder.proofs.ReadsLemmas.{first_is, opened_parts, reads_same, rests_back}

-- a value that came of two steps
bound : {A B : Type 0} (r : Result A Fault) (f : A → Result B Fault) (y : B) → Ok y ≡ (r >>= f) → (x : A) × (r ≡ Ok x) × (Ok y ≡ f x)
bound (Ok x) f y h = (x, refl, h)
bound (Err e) f y h = absurd (cc h)

-- a value that passed a test
tested : (b : Bool) (x y : Order × State) (e : Fault) → Ok y ≡ (if b then Ok x else Err e) → (b ≡ true) × (x ≡ y)
tested true x y e h = let same : x ≡ y = cc h in (refl, same)
tested false x y e h = absurd (cc h)

-- the steps that gave a version
pub record IsFrom (number : ℕ) (edits : List Edit) (order : Order) (v : State) : Type 0 where
  pub named : order_of edits ≡ Ok order
  pub after : version_after_edits (order_name order) empty_state edits ≡ Ok v
  pub complete : is_complete number v ≡ true

pub from_version : (number : ℕ) (edits : List Edit) (order : Order) (v : State) → Ok (order, v) ≡ version_from number edits → IsFrom number edits order v
from_version number edits order v h =
    let one = bound {A = Order} (order_of edits) (λ (o : Order). version_after_edits (order_name o) empty_state edits >>= λ w. if is_complete number w then Ok (o, w) else Err (fault Apply)) (order, v) h in
    let o = one.0 in
    let two = bound {A = State} (version_after_edits (order_name o) empty_state edits) (λ (w : State). if is_complete number w then Ok (o, w) else Err (fault Apply)) (order, v) one.2 in
    let w = two.0 in
    let three = tested (is_complete number w) (o, w) (order, v) (fault Apply) two.2 in
    let orders : o ≡ order = ap (λ (x : Order × State). x.0) three.1 in
    let states : w ≡ v = ap (λ (x : Order × State). x.1) three.1 in
    record {
      named = one.1 ∙ ap (λ (x : Order). Ok x) orders;
      after = subst (λ (x : Order). version_after_edits (order_name x) empty_state edits ≡ Ok v) orders (two.1 ∙ ap (λ (x : State). Ok x) states);
      complete = subst (λ (x : State). is_complete number x ≡ true) states three.0;
    }

-- the edits that a manifest reads as
pub record ManifestParts (number : ℕ) (bytes : List ℕ) (order : Order) (v : State) : Type 0 where
  pub records : List (List ℕ)
  pub edits : List Edit
  pub log : Ok records ≡ records_of bytes
  pub read : AreEdits records edits
  pub from : Ok (order, v) ≡ version_from number edits

pub manifest_parts : (number : ℕ) (bytes : List ℕ) (order : Order) (v : State) → IsManifestAnswer number bytes (Ok (order, v)) → ManifestParts number bytes order v
manifest_parts number bytes order v h =
    let one = first_is {A = List (List ℕ)} (λ records. records ≡ records_of bytes) (λ records. IsThen (IsEditsAnswer records) (λ edits answer. answer ≡ version_from number edits)) (order, v) h in
    let two = first_is {A = List Edit} (IsEditsAnswer one.0) (λ edits answer. answer ≡ version_from number edits) (order, v) one.1.1 in
    record { records = one.0; edits = two.0; log = one.1.0; read = two.1.0; from = two.1.1 }

-- the number of the manifest of a version is one that completes it
pub is_completed : (number : ℕ) (bytes : List ℕ) (order : Order) (v : State) → IsManifestAnswer number bytes (Ok (order, v)) → is_complete number v ≡ true
is_completed number bytes order v h = let parts = manifest_parts number bytes order v h in (from_version number parts.edits order v parts.from).complete

-- what is read doesn't rest on a free name
pub rests_on_none : (cmp : List ℕ → List ℕ → Ordering) (order : Order) (v : State) (tables : List (ℕ × List ℕ)) (files : Files) (free name : List ℕ) → ReadsAs cmp order v tables files → IsFree cmp v free → RestsOn cmp v files name → name ≢ free
rests_on_none cmp order v tables files free name h f Current is = f.current (sym is)
rests_on_none cmp order v tables files free name h f (Manifest number small is) same =
    let o = opened_parts files order v h.opened in
    let one : number ≡ o.number = texts_alike number o.number small o.small (same_Some _ _ (sym is ∙ o.current)) in
    f.manifest o.number o.small (is_completed o.number o.bytes order v o.answer) (sym same ∙ ap manifest_name one)
rests_on_none cmp order v tables files free name h f (Table number m) is = f.table number m (sym is)
rests_on_none cmp order v tables files free name h f (OldTable number m none) is = f.old_table number m (sym is)

-- a world in which all that is rested on is as before, and is settled
stands_on : (cmp : List ℕ → List ℕ → Ordering) (order : Order) (v : State) (tables : List (ℕ × List ℕ)) (w next : World) → StandsAs cmp order v tables w
    → ((name : List ℕ) → RestsOn cmp v w.shown.files name → (next.shown.files name ≡ w.shown.files name) × IsSettled next name) → StandsAs cmp order v tables next
stands_on cmp order v tables w next h same = record {
  reads = reads_same cmp order v tables w.shown.files next.shown.files h.reads (λ name r. (same name r).0);
  settled = λ name r. (same name (rests_back cmp v w.shown.files next.shown.files (λ name r. (same name r).0) name r)).1;
}

-- a name that a step leaves alone stays settled
still_settled : (w next : World) (name : List ℕ) → IsSettled w name → next.shown.files name ≡ w.shown.files name → next.shown.synced name ≡ w.shown.synced name → next.left name ≡ w.left name → IsSettled next name
still_settled w next name h files synced left = record {
  kept = elim h.kept [ inl yes' ↦ inl (synced ∙ yes') | inr none' ↦ inr (files ∙ none') ];
  left = left ∙ (h.left ∙ sym files);
}

at : {A : Type 0} (f g : List ℕ → A) (name : List ℕ) → f ≡ g → f name ≡ g name
at f g name e = ap (λ h. h name) e

-- A file that is made under a free name, or was to be made.
pub stands_made : (cmp : List ℕ → List ℕ → Ordering) (order : Order) (v : State) (tables : List (ℕ × List ℕ)) (w next : World) (free : List ℕ) (held torn : Option (List ℕ)) → StandsAs cmp order v tables w → IsFree cmp v free
    → next.shown ≡ with_contents w.shown free held → next.left ≡ with_value w.left free torn → StandsAs cmp order v tables next
stands_made cmp order v tables w next free held torn h f shown left =
    stands_on cmp order v tables w next h (λ name r.
    let other = rests_on_none cmp order v tables w.shown.files free name h.reads f r in
    let files = at next.shown.files _ name (ap (λ (s : FolderView). s.files) shown) ∙ put_other w.shown.files free held name other in
    let synced = at next.shown.synced _ name (ap (λ (s : FolderView). s.synced) shown) ∙ put_other w.shown.synced free false name other in
    (files, still_settled w next name (h.settled name r) files synced (at next.left _ name left ∙ put_other w.left free torn name other)))

-- A file is removed, or was to be removed, on whose name nothing rests. Its absence may be read, be left by a crash, or both.
pub stands_removed : (cmp : List ℕ → List ℕ → Ordering) (order : Order) (v : State) (tables : List (ℕ × List ℕ)) (w next : World) (gone : List ℕ) → StandsAs cmp order v tables w → (RestsOn cmp v w.shown.files gone → ⊥)
    → (next.shown ≡ w.shown) ⊎ (next.shown ≡ with_contents w.shown gone None) → (next.left ≡ w.left) ⊎ (next.left ≡ with_value w.left gone None) → StandsAs cmp order v tables next
stands_removed cmp order v tables w next gone h unused shown left =
    stands_on cmp order v tables w next h (λ name r.
    let other : name ≢ gone = λ is. unused (subst (RestsOn cmp v w.shown.files) is r) in
    let files : next.shown.files name ≡ w.shown.files name = elim shown [
      | inl same ↦ at next.shown.files w.shown.files name (ap (λ (s : FolderView). s.files) same)
      | inr is ↦ at next.shown.files _ name (ap (λ (s : FolderView). s.files) is) ∙ put_other w.shown.files gone None name other
    ] in
    let synced : next.shown.synced name ≡ w.shown.synced name = elim shown [
      | inl same ↦ at next.shown.synced w.shown.synced name (ap (λ (s : FolderView). s.synced) same)
      | inr is ↦ at next.shown.synced _ name (ap (λ (s : FolderView). s.synced) is) ∙ put_other w.shown.synced gone false name other
    ] in
    let leaves : next.left name ≡ w.left name = elim left [
      | inl same ↦ at next.left w.left name same
      | inr is ↦ at next.left _ name is ∙ put_other w.left gone None name other
    ] in
    (files, still_settled w next name (h.settled name r) files synced leaves))

-- a file is synced
pub stands_synced : (cmp : List ℕ → List ℕ → Ordering) (order : Order) (v : State) (tables : List (ℕ × List ℕ)) (w next : World) (synced : List ℕ) → StandsAs cmp order v tables w
    → next.shown ≡ with_synced w.shown synced → next.left ≡ w.left → StandsAs cmp order v tables next
stands_synced cmp order v tables w next name' h shown left =
    stands_on cmp order v tables w next h (λ name r.
    let files = at next.shown.files w.shown.files name (ap (λ (s : FolderView). s.files) shown) in
    let marks = at next.shown.synced (with_value w.shown.synced name' true) name (ap (λ (s : FolderView). s.synced) shown) in (
      files,
      record {
        kept = elim (h.settled name r).kept [
          | inl was ↦ elim (same_name name name') [
            | inl is ↦ inl (marks ∙ (ap (with_value w.shown.synced name' true) is ∙ put_same w.shown.synced name' true))
            | inr other ↦ inl (marks ∙ (put_other w.shown.synced name' true name other ∙ was))
          ]
          | inr none' ↦ inr (files ∙ none')
        ];
        left = at next.left w.left name left ∙ ((h.settled name r).left ∙ sym files);
      },
    ))

-- nothing is changed
pub stands_still : (cmp : List ℕ → List ℕ → Ordering) (order : Order) (v : State) (tables : List (ℕ × List ℕ)) (w next : World) → StandsAs cmp order v tables w
    → next.shown ≡ w.shown → next.left ≡ w.left → StandsAs cmp order v tables next
stands_still cmp order v tables w next h shown left =
    stands_on cmp order v tables w next h (λ name r.
    let files = at next.shown.files w.shown.files name (ap (λ (s : FolderView). s.files) shown) in
    let marks = at next.shown.synced w.shown.synced name (ap (λ (s : FolderView). s.synced) shown) in
    (files, still_settled w next name (h.settled name r) files marks (at next.left w.left name left)))

-- The folder is synced: all that was to be kept is settled.
pub stands_folder_synced : (cmp : List ℕ → List ℕ → Ordering) (order : Order) (v : State) (tables : List (ℕ × List ℕ)) (w next : World) → ReadsAs cmp order v tables w.shown.files
    → ((name : List ℕ) → RestsOn cmp v w.shown.files name → IsDurable w.shown name) → Happens (Done FolderSynced) w next → StandsAs cmp order v tables next
stands_folder_synced cmp order v tables w next h kept happens =
    let files = λ (name : List ℕ). at next.shown.files w.shown.files name (ap (λ (s : FolderView). s.files) happens.0) in
    let marks = λ (name : List ℕ). at next.shown.synced w.shown.synced name (ap (λ (s : FolderView). s.synced) happens.0) in
    record {
      reads = reads_same cmp order v tables w.shown.files next.shown.files h (λ name r. files name);
      settled = λ name r.
          let k = kept name (rests_back cmp v w.shown.files next.shown.files (λ name r. files name) name r) in
          record {
            kept = elim k [ inl was ↦ inl (marks name ∙ was) | inr none' ↦ inr (files name ∙ none') ];
            left = happens.1 name k ∙ sym (files name);
          };
    }

-- what a crash leaves reads as what stands
pub left_reads : (cmp : List ℕ → List ℕ → Ordering) (order : Order) (v : State) (tables : List (ℕ × List ℕ)) (w : World) → StandsAs cmp order v tables w → ReadsAs cmp order v tables w.left
left_reads cmp order v tables w h = reads_same cmp order v tables w.shown.files w.left h.reads (λ name r. (h.settled name r).left)

-- files that were written, or torn, may be left just so
written_held : (files : List (List ℕ × List ℕ)) (s next : FolderView) → next ≡ with_written s files → MayHold files s.files next.files
written_held [] s next is = ap (λ (t : FolderView). t.files) is
written_held (file ∷ files) s next is = (Some file.1, written_held files (with_synced (with_contents s file.0 (Some file.1)) file.0) next is)

torn_held : (files : List (List ℕ × List ℕ)) (s next : FolderView) → AreTorn files s next → MayHold files s.files next.files
torn_held [] s next is = ap (λ (t : FolderView). t.files) is
torn_held (file ∷ files) s next h = (h.0, torn_held files (with_contents s file.0 h.0) next h.1)

-- a step that shows something may leave just that
left_shown : (step : Step) (s next : FolderView) → Shows step s next → Leaves step s s.files next.files
left_shown (Done (Created name bytes)) s next h = (Some bytes, ap (λ (t : FolderView). t.files) h)
left_shown (Tried (Created name bytes)) s next h = (h.0, ap (λ (t : FolderView). t.files) h.1)
left_shown (Done (Written files)) s next h = written_held files s next h
left_shown (Tried (Written files)) s next h = torn_held files s next h
left_shown (Done (Renamed from to)) s next h = inr (ap (λ (t : FolderView). t.files) h)
left_shown (Tried (Renamed from to)) s next (inl h) = inl (ap (λ (t : FolderView). t.files) h)
left_shown (Tried (Renamed from to)) s next (inr h) = inr (ap (λ (t : FolderView). t.files) h)
left_shown (Done (Removed name)) s next h = inr (ap (λ (t : FolderView). t.files) h)
left_shown (Tried (Removed name)) s next (inl h) = inl (ap (λ (t : FolderView). t.files) h)
left_shown (Tried (Removed name)) s next (inr h) = inr (ap (λ (t : FolderView). t.files) h)
left_shown (Done (Synced name)) s next h = ap (λ (t : FolderView). t.files) h
left_shown (Tried (Synced name)) s next h = ap (λ (t : FolderView). t.files) h
left_shown (Done FolderSynced) s next h = λ name k. ap (λ (t : FolderView). t.files name) h
left_shown (Tried FolderSynced) s next h = ap (λ (t : FolderView). t.files) h

-- what read gives is one of the folders that a crash may leave
pub shown_left : (steps : List Step) (s last : FolderView) → ShowsAll steps s last → Leads (open_world s) steps (open_world last)
shown_left [] s last h = ap open_world h
shown_left (step ∷ steps) s last h = (open_world h.0, (h.1, left_shown step s h.0 h.1), shown_left steps h.0 last h.2)
