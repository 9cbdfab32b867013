-- Deeper files that don't overlap the inputs change nothing of what a merge answers.
use Rattle.std.proofs.Common.{◌≡◌, ℕ, ◌+◌, Bool, true, false, List, [], ◌∷◌, ◌++◌, map, cond, Option, Some, None, Result, Ok, Err, refl, sym, ap, subst, ◌∙◌, inl, inr}
use Rattle.std.specs.Prelude.{filter, not, nat_le, ◌&&◌, if◌then◌else◌}
use Rattle.std.specs.List.{AllByRecursion, list_all}
use Rattle.std.specs.Cmp.{IsTotalOrder}
use Rattle.std.specs.declared.cmp.Ordering.{Ordering}
use Rattle.std.proofs.lemmas.Bool.{and_parts, and_from}
use Rattle.std.proofs.Math.Bool.{and_comm, and_self}
use Rattle.std.proofs.lemmas.Map.Views.{any-filter_same}
use Rattle.ikey.specs.Answers.{◌>>=◌, fault}
use Rattle.ikey.specs.Key.{user_of, sequence_of, kind_of}
use Rattle.ikey.specs.fault.Fault.{Fault}
use Rattle.ikey.specs.fault.FaultName.TheVariants.{Duplicate}
use Rattle.edit.specs.declared.meta.FileMeta.{FileMeta}
use Rattle.reads.specs.EncodedEntry.{Entry}
use Rattle.reads.specs.BuilderView.{last_key}
use Rattle.reads.specs.MergedLists.{entries_of_lists, merged}
use Rattle.reads.specs.Ranges.{KeyRange}
use Rattle.table.specs.EntriesFrom.{NeverFalls}
use Rattle.table.specs.EntryTests.{first_key}
use Rattle.merge.specs.InRange.{entries_in, is_in_range}
use Rattle.pick.specs.Ranges.{begins_by, ends_at_or_after, holds_user, is_at_most, is_in_none, overlaps}
use Rattle.pick.specs.declared.input_choice.TheConstants.{LAST_INPUT_LEVEL}
use Rattle.keep.specs.DropRule.{is_deletion, is_hidden, keeps, kept_after}
use Rattle.keep.specs.Marks.{CompactionContext, changes, grandparents_below, heads_after, is_first}
use Rattle.keep.specs.Readable.{Readable, readable_of}
use Rattle.keep.specs.Runs.{Run, are_distinct, range_run, run_of}
use Rattle.keep.specs.declared.mark.Mark.{Mark}
use Rattle.merge.proofs.Orders.{all_append, all_weaker}
use Rattle.merge.proofs.Reaching.{table_never_falls}
use Rattle.merge.proofs.SortedEntries.{all_filter, all_sorted}
use Rattle.pick.proofs.Lists.{IsIn, any_from, filter_same}
use Rattle.pick.proofs.UserOrders.{le_refl, le_trans}
use Rattle.compact.proofs.FileKeys.{user_upto}
use Rattle.compact.specs.Request.{RequestView, request_test}
use Rattle.c_api.specs.Files.{has_keys, meta_at}
use Rattle.c_api.specs.Held.{near_of}
use Rattle.c_api.specs.InputTables.{AreRead, IsRead, entries_at}
use Rattle.c_api.specs.Merges.{AskedMerge, are_inputs, grandparents_in, is_lent, merge_reading, request_result, run_reading}
use Rattle.c_api.specs.Places.{part_at}
use Rattle.c_api.specs.Ranges.{is_range, range_in}
use Rattle.c_api.specs.Requests.{files_of, is_of, metas_of, pointed_test, pointer_of, request_with}
use Rattle.c_api.specs.declared.file.File.{File}
use Rattle.c_api.specs.declared.input.Input.{Input}
use Rattle.c_api.proofs.CheckedInputs.{bounds_found, entries_found}
use Rattle.c_api.proofs.Merging.{lent_parts, run_is, three_true}

-- ---- filters

one_more : {A : Type 0} (p : A → Bool) (b : Bool) (x : A) (xs ys : List A) → filter p xs ≡ ys → filter p (cond b (x ∷ xs) xs) ≡ cond (b && p x) (x ∷ ys) ys
one_more p true x xs ys h = ap (λ (l : List _). cond (p x) (x ∷ l) l) h
one_more p false x xs ys h = h

-- what passes one test, and then another
filter_both : {A : Type 0} (p q : A → Bool) (xs : List A) → filter p (filter q xs) ≡ filter (λ (x : A). q x && p x) xs
filter_both p q [] = refl
filter_both {A} p q (x ∷ xs) = one_more p (q x) x (filter q xs) (filter (λ (y : A). q y && p y) xs) (filter_both p q xs)

filter_twice : {A : Type 0} (q : A → Bool) (xs : List A) → filter q (filter q xs) ≡ filter q xs
filter_twice {A} q xs = filter_both q q xs ∙ filter_same (λ (x : A). q x && q x) q xs (λ x i. and_self (q x))

module _ {A B : Type 0} (f : A → B) (q : B → Bool) where
  abbrev of_image : A → Bool
  of_image x = q (f x)

  one_image : (c : Bool) (x : A) (xs : List A) → map f (filter of_image xs) ≡ filter q (map f xs)
      → map f (cond c (x ∷ filter of_image xs) (filter of_image xs)) ≡ cond c (f x ∷ filter q (map f xs)) (filter q (map f xs))
  one_image true x xs ih = ap (λ (l : List B). f x ∷ l) ih
  one_image false x xs ih = ih

  pub map_filter : (xs : List A) → map f (filter of_image xs) ≡ filter q (map f xs)
  map_filter [] = refl
  map_filter (x ∷ xs) = one_image (q (f x)) x xs (map_filter xs)

  -- what passes a test of its image, and then another test
  pub map_both : (p : A → Bool) (xs : List A) → map f (filter p (filter of_image xs)) ≡ filter q (map f (filter p xs))
  map_both p xs =
      ap (map f) (filter_both p of_image xs ∙ filter_same (λ (x : A). of_image x && p x) (λ (x : A). p x && of_image x) xs (λ x i. and_comm (of_image x) (p x)) ∙ sym (filter_both of_image p xs))
      ∙ map_filter (filter p xs)

-- files that are lent, some of them
one_lent : {X : Type 0} (test : X → Bool) (c : Bool) (x : X) (xs : List X) → test x ≡ true → list_all test xs ≡ true → list_all test (cond c (x ∷ xs) xs) ≡ true
one_lent test true x xs h k = and_from (test x) (list_all test xs) h k
one_lent test false x xs h k = k

pub some_lent : {X : Type 0} (test keep : X → Bool) (xs : List X) → list_all test xs ≡ true → list_all test (filter keep xs) ≡ true
some_lent test keep [] h = refl
some_lent test keep (x ∷ xs) h =
    let p = and_parts (test x) (list_all test xs) h in
    one_lent test (keep x) x (filter keep xs) p.0 (some_lent test keep xs p.1)

-- ---- the run of entries that meet the ranges of the same files

module _ (cmp : List ℕ → List ℕ → Ordering) (r : Readable) (few all : List FileMeta) where
  abbrev pub Agrees : Entry → Type 0
  Agrees e = is_in_none cmp few (user_of e.key) ≡ is_in_none cmp all (user_of e.key)

  keeps_same : (before : Option Entry) (e : Entry) → Agrees e → keeps cmp r few before e ≡ keeps cmp r all before e
  keeps_same before e h =
      ap (λ (none : Bool). not (is_hidden r before e) && not (is_deletion (kind_of e.key) && nat_le (sequence_of e.key) r.floor && list_all (nat_le (sequence_of e.key)) r.listed && none)) h

  kept_same : (before : Option Entry) (es : List Entry) → AllByRecursion Agrees es → kept_after cmp r few before es ≡ kept_after cmp r all before es
  kept_same before [] h = refl
  kept_same before (e ∷ es) h =
      ap (λ (b : Bool). (if b then e ∷ [] else []) ++ kept_after cmp r few (Some e) es) (keeps_same before e h.0)
      ∙ ap (λ (ks : List Entry). (if keeps cmp r all before e then e ∷ [] else []) ++ ks) (kept_same (Some e) es h.1)

  abbrev pub with_files : List FileMeta → List FileMeta → CompactionContext
  with_files deeper grandparents = record { readable = r; deeper = deeper; grandparents = grandparents }

  module _ (g : List FileMeta) where
    abbrev head : Option Entry → Entry → ℕ → List Mark
    head before e n =
        let mark : Mark = record { below = grandparents_below cmp g e.key; kept = n } in
        if is_first before e then mark ∷ [] else []

    heads_same : (before : Option Entry) (n : ℕ) (es : List Entry) → AllByRecursion Agrees es
        → heads_after cmp (with_files few g) before n es ≡ heads_after cmp (with_files all g) before n es
    heads_same before n [] h = refl
    heads_same before n (e ∷ es) h =
        ap (λ (b : Bool). head before e n ++ heads_after cmp (with_files few g) (Some e) (if b then n + 1 else n) es) (keeps_same before e h.0)
        ∙ ap (λ (ms : List Mark). head before e n ++ ms) (heads_same (Some e) (if keeps cmp r all before e then n + 1 else n) es h.1)

    run_same : (es : List Entry) → AllByRecursion Agrees es → run_of cmp (with_files few g) es ≡ run_of cmp (with_files all g) es
    run_same es h =
        ap (λ (ks : List Entry). let run : Run = record { kept = ks; marks = changes (heads_after cmp (with_files few g) None 0 es) } in run) (kept_same None es h)
        ∙ ap (λ (ms : List Mark). let run : Run = record { kept = kept_after cmp r all None es; marks = changes ms } in run) (heads_same None 0 es h)

    abbrev duplicate_or : Bool → Run → Result Run Fault
    duplicate_or distinct run = if distinct then Ok run else Err (fault Duplicate)

    pub run_spared : (inputs : List (List Entry)) (range : KeyRange) → AllByRecursion Agrees (entries_of_lists inputs)
        → range_run cmp (with_files few g) inputs range ≡ range_run cmp (with_files all g) inputs range
    run_spared inputs range h =
        let es : List Entry = entries_in cmp range (merged cmp inputs) in
        let own = all_filter Agrees (λ (e : Entry). is_in_range cmp range (user_of e.key)) (merged cmp inputs) (all_sorted Agrees cmp (entries_of_lists inputs) h) in
        ap (λ (run : Run). duplicate_or (are_distinct es) run) (run_same es own)

-- ---- the entries of an input are in its range

module _ (cmp : List ℕ → List ℕ → Ordering) (total : IsTotalOrder cmp) where
  abbrev Between : List ℕ → List ℕ → Entry → Type 0
  Between first last e = (is_at_most cmp (user_of first) (user_of e.key) ≡ true) × (is_at_most cmp (user_of e.key) (user_of last) ≡ true)

  after_first : (e : Entry) (es : List Entry) → NeverFalls cmp (e ∷ es) → AllByRecursion (λ (f : Entry). is_at_most cmp (user_of e.key) (user_of f.key) ≡ true) (e ∷ es)
  after_first e es falls = (le_refl cmp total (user_of e.key), all_weaker _ _ (λ f h. user_upto cmp total e.key f.key h) es falls.0)

  before_last : (e : Entry) (es : List Entry) → NeverFalls cmp (e ∷ es) → AllByRecursion (λ (f : Entry). is_at_most cmp (user_of f.key) (user_of (last_key e.key es)) ≡ true) (e ∷ es)
  before_last e [] falls = (le_refl cmp total (user_of e.key), tt)
  before_last e (f ∷ fs) falls =
      let rest = before_last f fs falls.1 in
      (le_trans cmp total (user_of e.key) (user_of f.key) (user_of (last_key f.key fs)) (user_upto cmp total e.key f.key falls.0.0) rest.0, rest)

  both_sides : (first last : List ℕ) (es : List Entry) → AllByRecursion (λ (f : Entry). is_at_most cmp (user_of first) (user_of f.key) ≡ true) es
      → AllByRecursion (λ (f : Entry). is_at_most cmp (user_of f.key) (user_of last) ≡ true) es → AllByRecursion (Between first last) es
  both_sides first last [] h k = tt
  both_sides first last (e ∷ es) h k = ((h.0, k.0), both_sides first last es h.1 k.1)

  between : (es : List Entry) → NeverFalls cmp es → AllByRecursion (Between (first_key es) (last_key [] es)) es
  between [] falls = tt
  between (e ∷ es) falls = both_sides e.key (last_key e.key es) (e ∷ es) (after_first e es falls) (before_last e es falls)

  module _ (keys tables : List ℕ) (i : Input) (read : IsRead cmp keys tables i) where
    abbrev meta : FileMeta
    meta = meta_at keys i.file

    input_between : AllByRecursion (Between meta.smallest meta.largest) (entries_at cmp keys tables i)
    input_between =
        let b = bounds_found cmp keys tables i read in
        let falls = table_never_falls cmp total (part_at tables i.table) b.contents b.read in
        subst (λ (es : List Entry). AllByRecursion (Between meta.smallest meta.largest) es) (sym (entries_found cmp keys tables i read b.contents b.read))
        (subst (λ (k : List ℕ). AllByRecursion (Between k meta.largest) b.contents.entries) (sym b.first)
        (subst (λ (k : List ℕ). AllByRecursion (Between (first_key b.contents.entries) k) b.contents.entries) (sym b.last)
        (between b.contents.entries falls)))

-- ---- a merge

module _ (cmp : List ℕ → List ℕ → Ordering) (m : AskedMerge) where
  abbrev metas : List FileMeta
  metas = map (meta_at m.keys) (files_of m.inputs)

  abbrev near : FileMeta → Bool
  near f = overlaps cmp metas f

  -- what is asked, with the files alone that overlap the inputs
  abbrev pub few_of : AskedMerge
  few_of = record m { deeper = near_of cmp m.keys (files_of m.inputs) m.deeper }

  -- the grandparents are those of a level
  pub level_near : (level : ℕ) → metas_of m.keys level few_of.deeper ≡ filter near (metas_of m.keys level m.deeper)
  level_near level = map_both (meta_at m.keys) near (is_of level) m.deeper

  grandparents_few : grandparents_in cmp few_of ≡ grandparents_in cmp m
  grandparents_few =
      ap (λ (fs : List FileMeta). if nat_le m.request.level LAST_INPUT_LEVEL then fs else [])
      (ap (filter near) (level_near (m.request.level + 2)) ∙ filter_twice near (metas_of m.keys (m.request.level + 2) m.deeper))

  none_few : (fs : List File) → pointed_test cmp m.keys m.request m.snapshots fs few_of.deeper None ≡ pointed_test cmp m.keys m.request m.snapshots fs m.deeper None
  none_few [] = refl
  none_few (f ∷ fs) = refl

  -- the tests of a request read no deeper file but the grandparents
  abbrev asked_over : List ℕ → List FileMeta → RequestView
  asked_over key grandparents =
      let r : RequestView = request_with cmp m.keys m.request m.snapshots (files_of m.inputs) m.deeper key in
      record r { picked = record r.picked { grandparents = grandparents } }

  tests_few : (o : Option (List ℕ)) → pointed_test cmp m.keys m.request m.snapshots (files_of m.inputs) few_of.deeper o
      ≡ pointed_test cmp m.keys m.request m.snapshots (files_of m.inputs) m.deeper o
  tests_few (Some key) = ap (λ (g : List FileMeta). request_test cmp (asked_over key g)) grandparents_few
  tests_few None = none_few (files_of m.inputs)

  request_few : request_result few_of cmp ≡ request_result m cmp
  request_few = tests_few (pointer_of cmp m.keys m.request.level (files_of m.inputs))

  abbrev r : Readable
  r = readable_of m.snapshots m.request.last_sequence

  abbrev few : List FileMeta
  few = map (meta_at m.keys) few_of.deeper

  abbrev all : List FileMeta
  all = map (meta_at m.keys) m.deeper

  in_metas : (is : List Input) (q : Input) → IsIn is q → IsIn (map (meta_at m.keys) (files_of is)) (meta_at m.keys q.file)
  in_metas [] q i = absurd i
  in_metas (x ∷ xs) q (inl e) = inl (ap (λ (i : Input). meta_at m.keys i.file) e)
  in_metas (x ∷ xs) q (inr i) = inr (in_metas xs q i)

  module _ (total : IsTotalOrder cmp) where
    -- a file that holds a user key of an input overlaps the inputs
    overlapped : (i : FileMeta) → IsIn metas i → (e : Entry) → Between cmp total i.smallest i.largest e → (f : FileMeta) → holds_user cmp (user_of e.key) f ≡ true → near f ≡ true
    overlapped i inside e b f h =
        let u = user_of e.key in
        let p = and_parts (is_at_most cmp (user_of f.smallest) u) (is_at_most cmp u (user_of f.largest)) h in
        and_from (begins_by cmp metas (user_of f.largest)) (ends_at_or_after cmp metas (user_of f.smallest))
        (any_from (λ (g : FileMeta). is_at_most cmp (user_of g.smallest) (user_of f.largest)) metas i inside (le_trans cmp total (user_of i.smallest) u (user_of f.largest) b.0 p.1))
        (any_from (λ (g : FileMeta). is_at_most cmp (user_of f.smallest) (user_of g.largest)) metas i inside (le_trans cmp total (user_of f.smallest) u (user_of i.largest) p.0 b.1))

    agree : (i : FileMeta) → IsIn metas i → (es : List Entry) → AllByRecursion (Between cmp total i.smallest i.largest) es → AllByRecursion (Agrees cmp r few all) es
    agree i inside [] h = tt
    agree i inside (e ∷ es) h = (
      ap (λ (fs : List FileMeta). is_in_none cmp fs (user_of e.key)) (map_filter (meta_at m.keys) near m.deeper)
          ∙ ap not (any-filter_same (holds_user cmp (user_of e.key)) near true (overlapped i inside e h.0) all),
      agree i inside es h.1,
    )

    agree_all : (is : List Input) → ((q : Input) → IsIn is q → IsIn metas (meta_at m.keys q.file)) → AreRead cmp m.keys m.tables is
        → AllByRecursion (Agrees cmp r few all) (entries_of_lists (map (entries_at cmp m.keys m.tables) is))
    agree_all [] inside h = tt
    agree_all (i ∷ is) inside h =
        all_append (Agrees cmp r few all) (entries_at cmp m.keys m.tables i) (entries_of_lists (map (entries_at cmp m.keys m.tables) is))
        (agree (meta_at m.keys i.file) (inside i (inl refl)) (entries_at cmp m.keys m.tables i) (input_between cmp total m.keys m.tables i h.0))
        (agree_all is (λ q there. inside q (inr there)) h.1)

    abbrev inputs : List (List Entry)
    inputs = map (entries_at cmp m.keys m.tables) m.inputs

    run_few : AreRead cmp m.keys m.tables m.inputs → run_reading few_of cmp ≡ run_reading m cmp
    run_few read =
        run_is cmp few_of read
        ∙ ap (λ (g : List FileMeta). range_run cmp (with_files cmp r few all few g) inputs (range_in m.keys m.range)) grandparents_few
        ∙ run_spared cmp r few all (grandparents_in cmp m) inputs (range_in m.keys m.range) (agree_all m.inputs (in_metas m.inputs) read)
        ∙ sym (run_is cmp m read)

    pub merge_few : AreRead cmp m.keys m.tables m.inputs → merge_reading few_of cmp ≡ merge_reading m cmp
    merge_few read =
        ap (λ (t : Result (Unit {0}) Fault). t >>= λ _. run_reading few_of cmp) request_few
        ∙ ap (λ (run : Result Run Fault). request_result m cmp >>= λ _. run) (run_few read)

-- what is lent with fewer files
pub lent_few : (m : AskedMerge) (keep : File → Bool) (few : List File) → few ≡ filter keep m.deeper → is_lent m ≡ true → is_lent (record m { deeper = few }) ≡ true
lent_few m keep few is h =
    let p = lent_parts m h in
    three_true (are_inputs m.keys m.tables m.inputs) (list_all (has_keys m.keys) few) (is_range m.keys m.range) p.inputs
    (subst (λ (fs : List File). list_all (has_keys m.keys) fs ≡ true) (sym is) (some_lent (has_keys m.keys) keep m.deeper p.deeper)) p.range
