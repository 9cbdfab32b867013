-- A manifest without an outcome's edit names no version.
use Rattle.std.proofs.Common.{◌≡◌, ◌<◌, ◌^◌, ℕ, nat_lt, true, false, ◌&&◌, List, [], ◌∷◌, map, codes, Option, Some, None, is_some, Result, Ok, Err, refl, sym, ap, subst, ◌∙◌}
use Rattle.std.proofs.lemmas.Option.{same_Some}
use Rattle.std.specs.List.{AllZip}
use Rattle.edit.proofs.Edits.{one_edit}
use Rattle.edit.specs.Answers.{fault}
use Rattle.edit.specs.fault.Fault.{Fault}
use Rattle.edit.specs.fault.FaultName.TheVariants.{Apply, Comparator}
use Rattle.edit.specs.Edit.{Edit, IsEdit, edit_bytes, empty_edit}
use Rattle.edit.specs.Version.{State, applied, applied_by, empty_state, files_after, names_another}
use Rattle.edit.specs.VersionOrder.{snapshot_of}
use Rattle.std.specs.Option.{ok_or, option_map_or, option_or}
use Rattle.logrec.proofs.Logs.{log_again}
use Rattle.folder.specs.Calls.{Done, Files}
use Rattle.folder.specs.Crash.{Leads, World}
use Rattle.folder.specs.Manifest.{IsManifestAnswer, is_complete, order_name, version_after_edits}
use Rattle.folder.specs.Names.{current_text, manifest_name, temporary_name}
use Rattle.folder.specs.Orders.{order_cmp}
use Rattle.folder.specs.declared.order.Order.{Order}
use Rattle.folder.proofs.CrashLemmas.{from_version, manifest_parts}
use Rattle.folder.proofs.PutLemmas.{moved_other, put_other, put_same}
use Rattle.folder.proofs.ReadsLemmas.{opened_parts}
use Rattle.install.specs.Naming.{manifest_of, named_bytes, naming_calls}
use Rattle.install.specs.NothingNamed.{NothingIsNamed}
use Rattle.install.specs.ReadsOf.{NamedVersion, Reads}
use Rattle.install.proofs.NamedReads.{named_alike}
use Rattle.install.proofs.Options.{made, option_parts}
use Rattle.install.proofs.Sound.{bound_value, ok_value, opened_sound, unnamed_value}
use Rattle.install.proofs.Switch.{CURRENT, manifest_no_current, manifest_no_temporary}
use Rattle.install.proofs.WorkRows.{last_seven, seven_name, file_at}
use Rattle.std.proofs.lemmas.Bool.{and_parts as both_true}

is_empty : IsEdit [] empty_edit
is_empty = record { fields = []; lawful = tt; spelled = refl; sets = refl }

abbrev answered : {A : Type 0} → A → Result A Fault
answered x = Ok x

ok_same : {A : Type 0} (a b : A) → answered a ≡ answered b → a ≡ b
ok_same a b e = cc e

-- an edit that sets no log number, of a version without one
no_log : (name : List ℕ) (s next : State) (e : Edit) → e.log_number ≡ None → s.log_number ≡ None → applied_by name s e ≡ Ok next → next.log_number ≡ None
no_log name s next e none' before is =
    let app : applied s e ≡ Some next = ok_value (applied s e) (fault Apply) next (unnamed_value (names_another name e) (fault Comparator) (ok_or (applied s e) (fault Apply)) next is) in
    let parts = option_parts (made s e) (files_after s.files e.deleted e.added) next app in
    sym (ap (λ (x : State). x.log_number) parts.2) ∙ (ap (λ (o : Option ℕ). option_or o s.log_number) none' ∙ before)

no_logs : (name : List ℕ) (one two : List ℕ) (edits : List Edit) (s v : State) (e f : Edit) → IsEdit one e → IsEdit two f → e.log_number ≡ None → f.log_number ≡ None → AllZip IsEdit (one ∷ (two ∷ [])) edits → s.log_number ≡ None → version_after_edits name s edits ≡ Ok v → v.log_number ≡ None
no_logs name one two [] s v e f a b c d are before is = absurd are
no_logs name one two (x ∷ []) s v e f a b c d are before is = absurd are.1
no_logs name one two (x ∷ (y ∷ (z ∷ edits))) s v e f a b c d are before is = absurd are.1.1
no_logs name one two (x ∷ (y ∷ [])) s v e f a b c d are before is =
    let first : x.log_number ≡ None = ap (λ (i : Edit). i.log_number) (one_edit one x e are.0 a) ∙ c in
    let second : y.log_number ≡ None = ap (λ (i : Edit). i.log_number) (one_edit two y f are.1.0 b) ∙ d in
    let m = bound_value (applied_by name s x) (λ (w : State). version_after_edits name w (y ∷ [])) v is in
    let l = bound_value (applied_by name m.0 y) (λ (w : State). version_after_edits name w []) v m.2 in
    let same : l.0 ≡ v = ok_same l.0 v l.2 in
    subst (λ (w : State). w.log_number ≡ None) same (no_log name m.0 l.0 y second (no_log name s m.0 x first before m.1) l.1)

no_answer : (v : NamedVersion) (bytes : List ℕ) (number : ℕ) (order : Order) (w : State) → IsEdit bytes empty_edit → IsEdit (edit_bytes (snapshot_of (order_name v.order) (order_cmp v.order) v.version)) (snapshot_of (order_name v.order) (order_cmp v.order) v.version)
    → IsManifestAnswer number (named_bytes v bytes) (Ok (order, w)) → ⊥
no_answer v bytes number order w empty' again h =
    let snap = snapshot_of (order_name v.order) (order_cmp v.order) v.version in
    let parts = manifest_parts number (named_bytes v bytes) order w h in
    let from = from_version number parts.edits order w parts.from in
    let records : parts.records ≡ edit_bytes snap ∷ (bytes ∷ []) = ok_same parts.records (edit_bytes snap ∷ (bytes ∷ [])) (parts.log ∙ log_again (edit_bytes snap ∷ (bytes ∷ []))) in
    let are : AllZip IsEdit (edit_bytes snap ∷ (bytes ∷ [])) parts.edits = subst (λ (r : List (List ℕ)). AllZip IsEdit r parts.edits) records parts.read in
    let none' : w.log_number ≡ None = no_logs (order_name order) (edit_bytes snap) bytes parts.edits empty_state w snap empty_edit again empty' refl refl are refl from.after in
    let some : is_some w.log_number ≡ true = (both_true (is_some w.log_number) (is_some w.last_sequence) (both_true (is_some w.log_number && is_some w.last_sequence) (option_map_or (nat_lt number) w.next_file false) from.complete).0).0 in
    cc (some, none')

-- the new manifest is there after all
manifest_there : (n : ℕ) (m : List ℕ) (start w : World) → n < 2 ^ 64 → Leads start (last_seven n m) w → w.shown.files (manifest_name n) ≡ Some m
manifest_there n m start w small a =
    let b = a.2 in
    let c = b.2 in
    let d = c.2 in
    let e = d.2 in
    let f = e.2 in
    let h = f.2 in
    let t = temporary_name n in
    let name = manifest_name n in
    let other = manifest_no_temporary n n small in
    let one : a.0.shown.files name ≡ Some m = file_at name a.0.shown _ a.1.0 ∙ put_same start.shown.files name (Some m) in
    let two : b.0.shown.files name ≡ Some m = file_at name b.0.shown _ b.1.0 ∙ one in
    let three : c.0.shown.files name ≡ Some m = file_at name c.0.shown _ c.1.0 ∙ (put_other b.0.shown.files t (Some (current_text n)) name other ∙ two) in
    let five : e.0.shown.files name ≡ Some m = file_at name e.0.shown d.0.shown e.1.0 ∙ (file_at name d.0.shown _ d.1.0 ∙ three) in
    let six : f.0.shown.files name ≡ Some m = file_at name f.0.shown _ f.1.0 ∙ (moved_other None e.0.shown.files t CURRENT name other (manifest_no_current n small) ∙ five) in
    ap (λ (x : World). x.shown.files name) h.2 ∙ (file_at name h.0.shown f.0.shown h.1.0 ∙ six)

pub nothing_named : NothingIsNamed
nothing_named v e bytes start w tables reads none' again small leads u others read =
    let n = manifest_of v.version in
    let is : IsEdit bytes empty_edit = subst (IsEdit bytes) (one_edit [] e empty_edit none' is_empty) again in
    let current : w.shown.files CURRENT ≡ Some (current_text n) = seven_name n (named_bytes v bytes) start w leads in
    let o = opened_parts w.shown.files u.order u.version read.reads.opened in
    let name : manifest_name o.number ≡ manifest_name n = named_alike o.number n (same_Some _ _ (sym o.current ∙ current)) in
    let there : w.shown.files (manifest_name n) ≡ Some (named_bytes v bytes) = manifest_there n (named_bytes v bytes) start w small leads in
    let text : o.bytes ≡ named_bytes v bytes = same_Some _ _ (sym o.manifest ∙ (ap w.shown.files name ∙ there)) in
    no_answer v bytes o.number u.order u.version is (opened_sound v tables start.shown.files reads).again (subst (λ (b : List ℕ). IsManifestAnswer o.number b (Ok (u.order, u.version))) text o.answer)
