-- Reading a manifest one record at a time, in three passes.
use Rattle.std.proofs.Common.{◌≡◌, ℕ, cond, List, [], ◌∷◌, ◌++◌, Option, Some, None, Result, Ok, Err, IsErrAnd, refl, sym, ap, subst, ◌∙◌, append_assoc}
use Rattle.std.proofs.lemmas.List.{append-nil}
use Rattle.std.specs.Option.{option_map, option_map_or, option_or, unwrap_or}
use Rattle.ikey.proofs.Binds.{ok_is}
use Rattle.ikey.proofs.Refusals.{unless, unless_from}
use Rattle.ikey.specs.Answers.{fault, ◌>>=◌, FailsOrMemory, EqualOrMemory, UnlessMemory, HoldsOrMemory, Follows}
use Rattle.ikey.specs.fault.Fault.{Fault}
use Rattle.ikey.specs.fault.FaultName.TheVariants as name
use Rattle.logrec.specs.LogReader.{with_first}
use Rattle.edit.specs.Edit.{Edit, IsEdit, IsEditRefused}
use Rattle.edit.specs.Version.{State, applied_by, empty_state}
use Rattle.folder.specs.Manifest.{AreEdits, IsEditsAnswer, IsManifestAnswer, first_name, is_complete, order_name, order_named, order_of, version_after_edits, version_from}
use Rattle.folder.specs.ManifestReading.{IsLog, IsOrderAnswer, order_with}
use Rattle.folder.specs.declared.order.Order.{Order}
use Rattle.folder.proofs.ManifestLemmas.{zip_push}

abbrev Records : Type 0
Records = List (List ℕ)

abbrev Answer : Type 0
Answer = Result Records Fault

-- records that were read, and then what is still read
abbrev with_front : Records → Answer → Answer
with_front front ahead = ahead >>= λ others. Ok (front ++ others)

again : (ahead : Answer) → with_front [] ahead ≡ ahead
again (Ok rs) = refl
again (Err e) = refl

one_more : (front : Records) (r : List ℕ) (ahead : Answer) → with_front front (with_first r ahead) ≡ with_front (front ++ r ∷ []) ahead
one_more front r (Ok rs) = ap (λ (x : Records). Ok x) (sym (append_assoc front (r ∷ []) rs))
one_more front r (Err e) = refl

abbrev pub the_ok : {A : Type 0} → A → Result A Fault
the_ok x = Ok x

-- a refusal that `?` hands on
pub handed_equal : {X Y : Type 0} (view : X → Y) (r : Result X Fault) (e : Fault) (d : Result Y Fault) → IsErrAnd r (λ f. f ≡ e) → FailsOrMemory e d → EqualOrMemory view r d
handed_equal view (Ok x) e d h u = absurd h
handed_equal view (Err f) e d h u = subst (λ (g : Fault). FailsOrMemory g d) (sym h) u

-- ---- whether it is a log

pub record Leads (total ahead : Answer) : Type 0 where
  pub front : Records
  pub is : with_front front ahead ≡ total

pub leads_on : (total old new : Answer) (r : List ℕ) → old ≡ with_first r new → Leads total old → Leads total new
leads_on total old new r next l = record { front = l.front ++ r ∷ []; is = sym (one_more l.front r new) ∙ sym (ap (with_front l.front) next) ∙ l.is }

-- ---- the order

-- the records so far, which read as edits, and the order of their first name
pub record OrderSoFar (rs : Records) (ahead : Answer) (named : Option (Result Order Fault)) : Type 0 where
  pub before : Records
  pub edits : List Edit
  pub parts : with_front before ahead ≡ Ok rs
  pub read : AreEdits before edits
  pub is : named ≡ option_map order_named (first_name edits)

pub order_begin : (rs : Records) (ahead : Answer) → ahead ≡ Ok rs → OrderSoFar rs ahead None
order_begin rs ahead same = record { before = []; edits = []; parts = again ahead ∙ same; read = tt; is = refl }

name_with : (edits : List Edit) (e : Edit) → first_name (edits ++ e ∷ []) ≡ option_or (first_name edits) e.comparator
name_with [] e = last e.comparator
  where
    last : (o : Option (List ℕ)) → option_or o None ≡ o
    last None = refl
    last (Some x) = refl
name_with (d ∷ edits) e = first d.comparator (name_with edits e)
  where
    first : (o : Option (List ℕ)) → first_name (edits ++ e ∷ []) ≡ option_or (first_name edits) e.comparator → option_or o (first_name (edits ++ e ∷ [])) ≡ option_or (option_or o (first_name edits)) e.comparator
    first None h = h
    first (Some x) h = refl

order_of_next : (o : Option (List ℕ)) (e : Edit) → order_with (option_map order_named o) e ≡ option_map order_named (option_or o e.comparator)
order_of_next None e = refl
order_of_next (Some x) e = refl

pub order_on : (rs : Records) (old new : Answer) (named after : Option (Result Order Fault)) (r : List ℕ) (e : Edit) → old ≡ with_first r new → IsEdit r e → after ≡ order_with named e → OrderSoFar rs old named → OrderSoFar rs new after
order_on rs old new named after r e next read made s = record {
  before = s.before ++ r ∷ [];
  edits = s.edits ++ e ∷ [];
  parts = sym (one_more s.before r new) ∙ sym (ap (with_front s.before) next) ∙ s.parts;
  read = zip_push IsEdit s.before s.edits r e s.read read;
  is = made ∙ ap (λ (o : Option (Result Order Fault)). order_with o e) s.is ∙ order_of_next (first_name s.edits) e ∙ ap (option_map order_named) (sym (name_with s.edits e));
}

behind_of : (before rs : Records) (r : List ℕ) (new : Answer) → with_front before (with_first r new) ≡ Ok rs → (behind : Records) × (rs ≡ before ++ r ∷ behind)
behind_of before rs r (Ok behind) is = (behind, sym (ok_is (before ++ r ∷ behind) rs is))
behind_of before rs r (Err e) is = absurd cc

pub order_refused : (rs : Records) (old new : Answer) (named : Option (Result Order Fault)) (r : List ℕ) (e : Fault) → old ≡ with_first r new → OrderSoFar rs old named → UnlessMemory e (IsEditRefused r e) → UnlessMemory e (IsOrderAnswer rs (Err e))
order_refused rs old new named r e next s h =
    let b = behind_of s.before rs r new (sym (ap (with_front s.before) next) ∙ s.parts) in
    unless_from e (IsEditRefused r e) (IsOrderAnswer rs (Err e)) (λ refused. (
      Err e,
      (
        record {
          before = s.before;
          edits = s.edits;
          bytes = r;
          behind = b.0;
          parts = b.1;
          read = s.read;
          refused = refused;
        },
        refl,
      ),
    )) h

unread : (before rs : Records) (ahead : Answer) (e : Fault) → with_front before ahead ≡ Ok rs → ahead ≡ Err e → ⊥
unread before rs ahead e parts is = let p = sym (ap (with_front before) is) ∙ parts in absurd cc

pub order_unread : (rs : Records) (ahead : Answer) (named : Option (Result Order Fault)) (e : Fault) → OrderSoFar rs ahead named → FailsOrMemory e ahead → UnlessMemory e (IsOrderAnswer rs (Err e))
order_unread rs ahead named e s h = unless_from e (ahead ≡ Err e) (IsOrderAnswer rs (Err e)) (λ is. absurd (unread s.before rs ahead e s.parts is)) h

pub held_answer : {X : Type 0} (r : Result X Fault) (IsAnswer : Result X Fault → Type 0) → IsAnswer r → HoldsOrMemory (λ x. x) r IsAnswer
held_answer (Ok x) IsAnswer h = h
held_answer (Err e) IsAnswer h = unless e (IsAnswer (Err e)) h

order_found : (o : Option (List ℕ)) → unwrap_or (option_map order_named o) (Err (fault name.Comparator)) ≡ option_map_or order_named o (Err (fault name.Comparator))
order_found None = refl
order_found (Some x) = refl

pub order_end : (rs : Records) (ahead : Answer) (named : Option (Result Order Fault)) (r : Result Order Fault) → ahead ≡ Ok [] → r ≡ unwrap_or named (Err (fault name.Comparator)) → OrderSoFar rs ahead named → HoldsOrMemory (λ order. order) r (IsOrderAnswer rs)
order_end rs ahead named r none made s =
    let all : s.before ≡ rs = sym (append-nil s.before) ∙ ok_is (s.before ++ []) rs (sym (ap (with_front s.before) none) ∙ s.parts) in
    let is : r ≡ order_of s.edits = made ∙ ap (λ (o : Option (Result Order Fault)). unwrap_or o (Err (fault name.Comparator))) s.is ∙ order_found (first_name s.edits) in
    held_answer r (IsOrderAnswer rs) (Ok s.edits, (subst (λ (x : Records). AreEdits x s.edits) all s.read, is))

-- the edits of records that have an order
pub record AreOrdered (rs : Records) (order : Order) : Type 0 where
  pub edits : List Edit
  pub read : AreEdits rs edits
  pub is : order_of edits ≡ Ok order

pub ordered : (rs : Records) (order : Order) → IsOrderAnswer rs (Ok order) → AreOrdered rs order
ordered rs order h = by h.0 h.1.0 h.1.1
  where
    by : (first : Result (List Edit) Fault) → IsEditsAnswer rs first → Follows (λ edits answer. answer ≡ order_of edits) first (Ok order) → AreOrdered rs order
    by (Ok edits) read is = record { edits = edits; read = read; is = sym is }
    by (Err e) read is = absurd cc

-- ---- the version

-- what is still read of edits makes of the version so far what all make of the empty one
pub record VersionSoFar (text : List ℕ) (es : List Edit) (ahead : Answer) (v : State) : Type 0 where
  pub records : Records
  pub edits : List Edit
  pub is : ahead ≡ Ok records
  pub read : AreEdits records edits
  pub same : version_after_edits text v edits ≡ version_after_edits text empty_state es

-- the next record and its edit
pub record NextEdit (text : List ℕ) (es : List Edit) (r : List ℕ) (new : Answer) (v : State) : Type 0 where
  pub edit : Edit
  pub records : Records
  pub edits : List Edit
  pub is_edit : IsEdit r edit
  pub is : new ≡ Ok records
  pub read : AreEdits records edits
  pub same : version_after_edits text v (edit ∷ edits) ≡ version_after_edits text empty_state es

next_by : (text : List ℕ) (es : List Edit) (r : List ℕ) (new : Answer) (v : State) (records : Records) (edits : List Edit) → with_first r new ≡ Ok records → AreEdits records edits
    → version_after_edits text v edits ≡ version_after_edits text empty_state es → NextEdit text es r new v
next_by text es r (Err e) v records edits is read same = absurd cc
next_by text es r (Ok behind) v records edits is read same = by edits (subst (λ (x : Records). AreEdits x edits) (sym (ok_is (r ∷ behind) records is)) read) same
  where
    by : (edits : List Edit) → AreEdits (r ∷ behind) edits → version_after_edits text v edits ≡ version_after_edits text empty_state es → NextEdit text es r (Ok behind) v
    by [] read same = absurd read
    by (e ∷ edits) read same = record { edit = e; records = behind; edits = edits; is_edit = read.0; is = refl; read = read.1; same = same }

pub next_edit : (text : List ℕ) (es : List Edit) (old new : Answer) (r : List ℕ) (v : State) → old ≡ with_first r new → VersionSoFar text es old v → NextEdit text es r new v
next_edit text es old new r v next s = next_by text es r new v s.records s.edits (sym next ∙ s.is) s.read s.same

-- an edit is read
pub version_undecoded : (text : List ℕ) (es : List Edit) (r : List ℕ) (new : Answer) (v : State) (e : Fault) (answer : Result State Fault) → (n : NextEdit text es r new v) → FailsOrMemory e (the_ok n.edit) → FailsOrMemory e answer
version_undecoded text es r new v e answer n h = unless_from e (the_ok n.edit ≡ Err e) (answer ≡ Err e) (λ is. absurd cc) h

pub version_on : (text : List ℕ) (es : List Edit) (r : List ℕ) (new : Answer) (v w : State) (e : Edit) → (n : NextEdit text es r new v) → the_ok n.edit ≡ Ok e → applied_by text v e ≡ Ok w → VersionSoFar text es new w
version_on text es r new v w e n is made =
    let one : n.edit ≡ e = ok_is n.edit e is in
    record {
      records = n.records;
      edits = n.edits;
      is = n.is;
      read = n.read;
      same = sym (ap (λ (x : Result State Fault). x >>= λ u. version_after_edits text u n.edits) (ap (applied_by text v) one ∙ made)) ∙ n.same;
    }

pub version_unapplied : (text : List ℕ) (es : List Edit) (r : List ℕ) (new : Answer) (v : State) (e : Edit) (f : Fault) → (n : NextEdit text es r new v) → the_ok n.edit ≡ Ok e → FailsOrMemory f (applied_by text v e) → FailsOrMemory f (version_after_edits text empty_state es)
version_unapplied text es r new v e f n is h =
    let one : n.edit ≡ e = ok_is n.edit e is in
    unless_from f (applied_by text v e ≡ Err f) (version_after_edits text empty_state es ≡ Err f)
    (λ failed. sym n.same ∙ ap (λ (x : Result State Fault). x >>= λ u. version_after_edits text u n.edits) (ap (applied_by text v) one ∙ failed)) h

-- ---- all of it

abbrev version_of : ℕ → Order → List Edit → Result (Order × State) Fault
version_of number order edits = version_after_edits (order_name order) empty_state edits >>= λ v. cond (is_complete number v) (Ok (order, v)) (Err (fault name.Apply))

with_order : (number : ℕ) (order : Order) (edits : List Edit) → order_of edits ≡ Ok order → version_from number edits ≡ version_of number order edits
with_order number order edits is = ap (λ (o : Result Order Fault). o >>= λ order. version_of number order edits) is

-- what is made of the edits answers all
pub all_answered : (number : ℕ) (bytes : List ℕ) (log : IsLog bytes) (order : Order) (o : AreOrdered log.records order) (a : Result (Order × State) Fault) → a ≡ version_of number order o.edits → IsManifestAnswer number bytes a
all_answered number bytes log order o a is = (Ok log.records, (sym log.is, (Ok o.edits, (o.read, is ∙ sym (with_order number order o.edits o.is)))))
