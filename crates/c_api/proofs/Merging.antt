-- The steps of the merge of a range.
use Rattle.std.proofs.Common.{◌≡◌, ℕ, Bool, true, false, ◌&&◌, List, [], ◌∷◌, map, Option, Some, None, Result, Ok, Err, refl, sym, ap, subst}
use Rattle.std.specs.Prelude.{if◌then◌else◌}
use Rattle.std.specs.List.{list_all}
use Rattle.std.specs.declared.cmp.Ordering.{Ordering}
use Rattle.std.proofs.lemmas.Bool.{and_from, and_parts}
use Rattle.ikey.specs.Answers.{◌>>=◌, EqualOrMemory}
use Rattle.ikey.specs.Bytewise.{bytewise_cmp}
use Rattle.ikey.specs.Shortlex.{shortlex_cmp}
use Rattle.ikey.specs.fault.Fault.{Fault}
use Rattle.reads.specs.EncodedEntry.{Entry}
use Rattle.compact.specs.snapshots.Snapshots.{Snapshots}
use Rattle.compact.specs.Request.{request_test}
use Rattle.keep.specs.Marks.{CompactionContext}
use Rattle.keep.specs.Runs.{range_run}
use Rattle.ikey.proofs.Refusals.{unless_from}
use Rattle.merge.proofs.Orders.{all_weaker}
use Rattle.edit.proofs.Binds.{ok_is}
use Rattle.keep.proofs.OnAnswers.{ok_not_err}
use Rattle.pick.specs.PickedInputs.{PickedInputs, picked_in}
use Rattle.pick.specs.declared.picked_inputs.Inputs.{Inputs}
use Rattle.c_api.specs.Codes.{coded}
use Rattle.c_api.specs.Files.{has_keys, meta_at}
use Rattle.c_api.specs.InputTables.{AreRead, IsRead, entries_at}
use Rattle.c_api.specs.Merges.{AreChecked, AskedMerge, are_inputs, context_at, grandparents_in, is_lent, run_reading}
use Rattle.c_api.specs.Held.{context_with}
use Rattle.c_api.specs.Places.{is_within, part_at}
use Rattle.c_api.specs.Ranges.{is_range, range_in}
use Rattle.c_api.specs.Requests.{files_of, picked_with, pointed_test, request_with}
use Rattle.c_api.specs.Tables.{counts_reading, is_input, table_answer}
use Rattle.c_api.specs.declared.code.TheConstants.{MISUSE}
use Rattle.c_api.specs.declared.order.TheConstants.{BYTEWISE, SHORTLEX}
use Rattle.c_api.specs.declared.file.File.{File}
use Rattle.c_api.specs.declared.input.Input.{Input}
use Rattle.c_api.specs.declared.request.HostRequest.{HostRequest}
use Rattle.c_api.proofs.CheckedInputs.{inputs_found}

-- all of three tests
pub three_true : (a b c : Bool) → a ≡ true → b ≡ true → c ≡ true → (a && b && c) ≡ true
three_true a b c h k l = and_from (a && b) c (and_from a b h k) l

pub three_parts : (a b c : Bool) → (a && b && c) ≡ true → (a ≡ true) × (b ≡ true) × (c ≡ true)
three_parts true true true h = (refl, refl, refl)
three_parts false b c h = absurd cc
three_parts true false c h = absurd cc
three_parts true true false h = absurd cc

-- the keys of inputs that are lent
pub keys_lent : (keys tables : List ℕ) (is : List Input) → are_inputs keys tables is ≡ true → list_all (has_keys keys) (files_of is) ≡ true
keys_lent keys tables [] h = refl
keys_lent keys tables (i ∷ is) h =
    let p = and_parts (is_input keys tables i) (are_inputs keys tables is) h in
    let own = and_parts (has_keys keys i.file) (is_within tables i.table) p.0 in
    and_from (has_keys keys i.file) (list_all (has_keys keys) (files_of is)) own.0 (keys_lent keys tables is p.1)

-- what is lent
pub record LentParts (m : AskedMerge) : Type 0 where
  pub inputs : are_inputs m.keys m.tables m.inputs ≡ true
  pub files : list_all (has_keys m.keys) (files_of m.inputs) ≡ true
  pub deeper : list_all (has_keys m.keys) m.deeper ≡ true
  pub range : is_range m.keys m.range ≡ true

pub lent_parts : (m : AskedMerge) → is_lent m ≡ true → LentParts m
lent_parts m h =
    let p = three_parts (are_inputs m.keys m.tables m.inputs) (list_all (has_keys m.keys) m.deeper) (is_range m.keys m.range) h in
    record {
      inputs = p.0;
      files = keys_lent m.keys m.tables m.inputs p.0;
      deeper = p.1;
      range = p.2;
    }

-- the keys of the files of inputs that are lent, and of the deeper ones
pub files_lent : (m : AskedMerge) → is_lent m ≡ true → (files : List File) → files ≡ files_of m.inputs → (list_all (has_keys m.keys) files && list_all (has_keys m.keys) m.deeper) ≡ true
files_lent m lent files same =
    let p = lent_parts m lent in
    and_from (list_all (has_keys m.keys) files) (list_all (has_keys m.keys) m.deeper) (subst (λ (fs : List File). list_all (has_keys m.keys) fs ≡ true) (sym same) p.files) p.deeper

-- a request that passed its tests has a compact pointer
pub pointed : (cmp : List ℕ → List ℕ → Ordering) (keys : List ℕ) (r : HostRequest) (snapshots : Snapshots) (files deeper : List File) (o : Option (List ℕ)) → pointed_test cmp keys r snapshots files deeper o ≡ Ok tt
    → (key : List ℕ) × (o ≡ Some key) × (request_test cmp (request_with cmp keys r snapshots files deeper key) ≡ Ok tt)
pointed cmp keys r snapshots files deeper (Some key) h = (key, refl, h)
pointed cmp keys r snapshots [] deeper None h = absurd cc
pointed cmp keys r snapshots (f ∷ fs) deeper None h = absurd cc

abbrev done_context : CompactionContext → Result CompactionContext Fault
done_context c = Ok c

module _ (cmp : List ℕ → List ℕ → Ordering) (m : AskedMerge) where
  -- the run of the entries that were read
  pub run_is : AreRead cmp m.keys m.tables m.inputs
      → run_reading m cmp ≡ range_run cmp (context_at cmp m) (map (entries_at cmp m.keys m.tables) m.inputs) (range_in m.keys m.range)
  run_is h = ap (λ (r : Result (List (List Entry)) Fault). r >>= λ entries. range_run cmp (context_at cmp m) entries (range_in m.keys m.range)) (inputs_found cmp m.keys m.tables 0 m.inputs h)

  -- the grandparents of a merge
  pub grandparents_are : (p : Inputs) → done_context (context_at cmp m) ≡ done_context (context_with m p) → grandparents_in cmp m ≡ p.grandparents.items
  grandparents_are p h = ap (λ (c : CompactionContext). c.grandparents) (ok_is (context_at cmp m) (context_with m p) h)

-- what is known of the deeper files, of inputs with this key
pub context_seen : (cmp : List ℕ → List ℕ → Ordering) (m : AskedMerge) (key : List ℕ) (r : Result Inputs Fault) → EqualOrMemory picked_in r (Ok (picked_with cmp m.keys m.request.level (files_of m.inputs) m.deeper key))
    → EqualOrMemory (context_with m) r (Ok (context_at cmp m))
context_seen cmp m key (Ok p) h =
    ap (λ (q : PickedInputs). done_context (record { readable = (context_at cmp m).readable; deeper = q.deeper; grandparents = q.grandparents }))
    (ok_is (picked_with cmp m.keys m.request.level (files_of m.inputs) m.deeper key) (picked_in p) h)
context_seen cmp m key (Err e) h = unless_from e _ _ (λ k. absurd (ok_not_err _ e k)) h

pub answered : {A : Type 0} (lent : Bool) (r : Result A Fault) (n : ℕ) (x : A) → ◌≡◌ {A = Result A ℕ} (if lent then coded r else Err n) (Ok x) → ◌≡◌ {A = Result A Fault} r (Ok x)
answered true (Ok y) n x h = cc
answered true (Err e) n x h = absurd cc
answered false r n x h = absurd cc

read_bytewise : (keys tables : List ℕ) (i : Input) → table_answer BYTEWISE keys tables i ≡ Ok i.counts → IsRead bytewise_cmp keys tables i
read_bytewise keys tables i h = answered (is_input keys tables i) (counts_reading (meta_at keys i.file) (part_at tables i.table) bytewise_cmp) MISUSE i.counts h

read_shortlex : (keys tables : List ℕ) (i : Input) → table_answer SHORTLEX keys tables i ≡ Ok i.counts → IsRead shortlex_cmp keys tables i
read_shortlex keys tables i h = answered (is_input keys tables i) (counts_reading (meta_at keys i.file) (part_at tables i.table) shortlex_cmp) MISUSE i.counts h

pub checked_bytewise : (order : ℕ) (keys tables : List ℕ) (is : List Input) → order ≡ BYTEWISE → AreChecked order keys tables is → AreRead bytewise_cmp keys tables is
checked_bytewise order keys tables is own h = all_weaker _ _ (read_bytewise keys tables) is (subst (λ (n : ℕ). AreChecked n keys tables is) own h)

pub checked_shortlex : (order : ℕ) (keys tables : List ℕ) (is : List Input) → order ≡ SHORTLEX → AreChecked order keys tables is → AreRead shortlex_cmp keys tables is
checked_shortlex order keys tables is own h = all_weaker _ _ (read_shortlex keys tables) is (subst (λ (n : ℕ). AreChecked n keys tables is) own h)
