-- The newest visible entry is what a get answers.
use Rattle.std.proofs.Common.{◌≡◌, ℕ, ◌-◌, ◌^◌, ◌<◌, ◌≤◌, min, Bool, true, false, cond, List, [], ◌∷◌, length, get_or, Option, Some, None, Result, Ok, Err, refl, sym, ap, subst, ◌∙◌, inl, inr, arith, eq-or-lt_of_le}
use Rattle.std.specs.Prelude.{◌⊎◌, Contains, AllPairs, nat_lt, nat_le}
use Rattle.std.specs.List.{filter}
use Rattle.std.specs.Option.{option_and_then, is_some}
use Rattle.std.specs.Result.{IsErrAnd, MatchResult, IfOk, IfErr}
use Rattle.std.specs.Str.{bytes_eq}
use Rattle.std.specs.declared.cmp.Ordering.{Ordering}
use Rattle.std.proofs.lemmas.Bool.{cases_lt}
use Rattle.std.proofs.lemmas.Bool.Decides.{Decides-ltb, Decides-and, nat_tests}
use Rattle.std.proofs.lemmas.List.{get_or_default}
use Rattle.std.proofs.lemmas.List.Elements.{All-contains}
use Rattle.std.proofs.lemmas.Slice.Eq.{bytes_eq-Decides}
use Rattle.ikey.specs.Answers.{fault, FailsOrMemory, EqualOrMemory, UnlessMemory}
use Rattle.ikey.specs.fault.Fault.{Fault}
use Rattle.ikey.specs.fault.FaultName.TheVariants.{Memory}
use Rattle.ikey.proofs.Binds.{done, failed}
use Rattle.ikey.proofs.Refusals.{unless_from}
use Rattle.ikey.specs.Key.{IsInternalKey, internal_key, user_of, sequence_of}
use Rattle.ikey.specs.declared.kind.Kind.TheVariants.{Put}
use Rattle.ikey.proofs.Keys.{sequence_of-lt, length-user_of, user_of-internal_key, sequence_of-internal_key}
use Rattle.table.specs.EncodedEntry.{Entry}
use Rattle.edit.specs.Version.{State}
use Rattle.edit.specs.declared.meta.NewFile.{NewFile}
use Rattle.reads.specs.Tables.{NumberedContents, table_of_number, table_entries, all_entries, tables_test}
use Rattle.reads.specs.Gets.{is_visible, newer_entry, newest_entry, value_by, value_in, get_of}
use Rattle.reads.specs.Visible.{VisibleEntry, IsVisible, IsNewest, IsAnswer}
use Rattle.reads.specs.Lawful.{IsLawful, IsFileOf, AreDistinct}
use Rattle.reads.proofs.Members.{first_or_later, later_in, first_in, none_in, in_filter, from_filter, from_flat_map}
use Rattle.reads.proofs.Answers.{entries_are}
use Rattle.reads.proofs.Levels.{all_of, tested}

-- ---- the entry of the greatest sequence

abbrev pub IsTop : List Entry → Option Entry → Type 0
IsTop es None = (e : Entry) → Contains es e → ⊥
IsTop es (Some x) = Contains es x × ((e : Entry) → Contains es e → sequence_of e.key ≤ sequence_of x.key)

top_other : (e : Entry) (es : List Entry) (x : Entry) (b : Bool) → nat_lt (sequence_of e.key) (sequence_of x.key) ≡ b → IsTop es (Some x) → IsTop (e ∷ es) (Some (cond b x e))
top_other e es x true test top =
    let lt : sequence_of e.key < sequence_of x.key = (Decides-ltb (sequence_of e.key) (sequence_of x.key)).0 test in (
      later_in e es x top.0,
      λ f at. elim (first_or_later e es f at) [
        | inl same ↦ let is : sequence_of f.key ≡ sequence_of e.key = ap (λ (y : Entry). sequence_of y.key) same in omega arith
        | inr later ↦ top.1 f later
      ],
    )
top_other e es x false test top = (
  first_in e es,
  λ f at. elim (first_or_later e es f at) [
    | inl same ↦ let is : sequence_of f.key ≡ sequence_of e.key = ap (λ (y : Entry). sequence_of y.key) same in omega arith
    | inr later ↦ let le = top.1 f later in let not_lt : sequence_of x.key ≤ sequence_of e.key = at_most (sequence_of e.key) (sequence_of x.key) test in omega arith
  ],
)
  where
    at_most : (m n : ℕ) → nat_lt m n ≡ false → n ≤ m
    at_most m n h = grind (arith, nat_tests)

top_by : (e : Entry) (es : List Entry) (o : Option Entry) → IsTop es o → IsTop (e ∷ es) (Some (newer_entry e o))
top_by e es None none = (
  first_in e es,
  λ f at. elim (first_or_later e es f at) [
    | inl same ↦ let is : sequence_of f.key ≡ sequence_of e.key = ap (λ (y : Entry). sequence_of y.key) same in omega arith
    | inr later ↦ absurd (none f later)
  ],
)
top_by e es (Some x) top = top_other e es x (nat_lt (sequence_of e.key) (sequence_of x.key)) refl top

pub top : (es : List Entry) → IsTop es (newest_entry es)
top [] = none_in
top (e ∷ es) = top_by e es (newest_entry es) (top es)

-- ---- what is visible

pub visible_decides : (user : List ℕ) (at : ℕ) (e : Entry) → (is_visible user at e ≡ true → IsVisible user at e) × (IsVisible user at e → is_visible user at e ≡ true)
visible_decides user at e = Decides-and (bytes_eq (user_of e.key) user) (nat_le (sequence_of e.key) at) (bytes_eq-Decides (user_of e.key) user) (le_decides (sequence_of e.key) at)
  where
    le_decides : (m n : ℕ) → (nat_le m n ≡ true → m ≤ n) × (m ≤ n → nat_le m n ≡ true)
    le_decides m n = (λ h. grind (arith, nat_tests), λ h. grind (arith, nat_tests))

-- two entries of one user key with one sequence are one entry
pub same_entry : (es : List Entry) (a b : Entry) → AllPairs AreDistinct es → Contains es a → Contains es b → user_of a.key ≡ user_of b.key → sequence_of a.key ≡ sequence_of b.key → a ≡ b
same_entry es a b distinct i j user sequence = by_place (cases_lt i.0 j.0)
  where
    at_j : get_or es j.0 a ≡ b
    at_j = get_or_default es j.0 a b j.1 ∙ j.2

    at_i : get_or es i.0 b ≡ a
    at_i = get_or_default es i.0 b a i.1 ∙ i.2

    apart : (x y : Entry) → x ≡ a → y ≡ b → AreDistinct x y → ⊥
    apart x y is also h = h (ap (λ (e : Entry). user_of e.key) is ∙ user ∙ ap (λ (e : Entry). user_of e.key) (sym also)) (ap (λ (e : Entry). sequence_of e.key) is ∙ sequence ∙ ap (λ (e : Entry). sequence_of e.key) (sym also))

    apart_back : (x y : Entry) → x ≡ b → y ≡ a → AreDistinct x y → ⊥
    apart_back x y is also h =
        h (ap (λ (e : Entry). user_of e.key) is ∙ sym user ∙ ap (λ (e : Entry). user_of e.key) (sym also)) (ap (λ (e : Entry). sequence_of e.key) is ∙ sym sequence ∙ ap (λ (e : Entry). sequence_of e.key) (sym also))

    by_place : (i.0 < j.0) ⊎ (j.0 ≤ i.0) → a ≡ b
    by_place (inl lt) = absurd (apart (get_or es i.0 a) (get_or es j.0 a) i.2 at_j (distinct i.0 j.0 a lt j.1))
    by_place (inr le) =
        elim (eq-or-lt_of_le le) [
          | inl e ↦ sym i.2 ∙ ap (λ (n : ℕ). get_or es n a) (sym e) ∙ at_j
          | inr lt ↦ absurd (apart_back (get_or es j.0 b) (get_or es i.0 b) j.2 at_i (distinct j.0 i.0 b lt i.1))
        ]

abbrev pub visible_value : VisibleEntry → Option (List ℕ)
visible_value s = value_by s.kind s.value

module _ (es : List Entry) (user : List ℕ) (at : ℕ) (distinct : AllPairs AreDistinct es) where
  none_got : (o : Option Entry) → IsTop (filter (is_visible user at) es) o → IsAnswer es user at None → option_and_then value_in o ≡ None
  none_got None top none = refl
  none_got (Some x) top none =
      let kept = from_filter (is_visible user at) es x top.0 in
      absurd (none x kept.0 ((visible_decides user at x).0 kept.1))

  some_got : (o : Option Entry) (s : VisibleEntry) → IsTop (filter (is_visible user at) es) o → IsNewest es user at s → option_and_then value_in o ≡ visible_value s
  some_got None s top answer = absurd (top answer.entry (in_filter (is_visible user at) es answer.entry ((visible_decides user at answer.entry).1 answer.visible) answer.there))
  some_got (Some x) s top answer =
      let kept = from_filter (is_visible user at) es x top.0 in
      let seen : IsVisible user at x = (visible_decides user at x).0 kept.1 in
      let up : sequence_of answer.entry.key ≤ sequence_of x.key = top.1 answer.entry (in_filter (is_visible user at) es answer.entry ((visible_decides user at answer.entry).1 answer.visible) answer.there) in
      let down : sequence_of x.key ≤ s.sequence = answer.most x kept.0 seen in
      let stated : sequence_of answer.entry.key ≡ s.sequence = ap (λ (y : VisibleEntry). y.sequence) answer.is in
      let same : x ≡ answer.entry = same_entry es x answer.entry distinct kept.0 answer.there (seen.0 ∙ sym answer.visible.0) (omega arith) in
      ap value_in same ∙ ap visible_value answer.is

  got : (o : Option VisibleEntry) → IsAnswer es user at o → option_and_then value_in (newest_entry (filter (is_visible user at) es)) ≡ option_and_then visible_value o
  got None answer = none_got (newest_entry (filter (is_visible user at) es)) (top (filter (is_visible user at) es)) answer
  got (Some s) answer = some_got (newest_entry (filter (is_visible user at) es)) s (top (filter (is_visible user at) es)) answer

-- ---- the entries of a lawful version

keys_lawful : (cmp : List ℕ → List ℕ → Ordering) (v : State) (tables : List NumberedContents) → IsLawful cmp v tables → (e : Entry) → Contains (all_entries tables v.files) e → IsInternalKey e.key
keys_lawful cmp v tables lawful e at =
    let from = from_flat_map (λ (f : NewFile). table_entries tables f.meta.number) v.files e at in
    let is : IsFileOf cmp tables from.source.meta = All-contains (λ (f : NewFile). IsFileOf cmp tables f.meta) v.files from.source lawful.files from.there in
    All-contains (λ (x : Entry). IsInternalKey x.key) is.table.entries e is.keys (subst (λ (es : List Entry). Contains es e) (entries_are tables from.source.meta.number is.table is.there) from.held)

-- a sequence that is looked up is at most the greatest there is
widened : (es : List Entry) (user : List ℕ) (at : ℕ) (o : Option VisibleEntry) → ((e : Entry) → Contains es e → IsInternalKey e.key) → IsAnswer es user (min at (2 ^ 56 - 1)) o → IsAnswer es user at o
widened es user at None keys none = λ e there seen. none e there (seen.0, narrowed e there seen.1)
  where
    narrowed : (e : Entry) → Contains es e → sequence_of e.key ≤ at → sequence_of e.key ≤ min at (2 ^ 56 - 1)
    narrowed e there le = let lt = sequence_of-lt e.key (keys e there) in omega arith
widened es user at (Some s) keys answer = record {
  entry = answer.entry;
  there = answer.there;
  visible = (answer.visible.0, let le = answer.visible.1 in omega arith);
  is = answer.is;
  most = λ e there seen. answer.most e there (seen.0, let lt = sequence_of-lt e.key (keys e there) in let le = seen.1 in omega arith);
}

pub get_is : (cmp : List ℕ → List ℕ → Ordering) (v : State) (tables : List NumberedContents) (user : List ℕ) (at : ℕ) (o : Option VisibleEntry) → IsLawful cmp v tables → IsAnswer (all_entries tables v.files) user (min at (2 ^ 56 - 1)) o
    → get_of v tables user at ≡ option_and_then visible_value o
get_is cmp v tables user at o lawful answer =
    got (all_entries tables v.files) user at lawful.sequences_once o (widened (all_entries tables v.files) user at o (keys_lawful cmp v tables lawful) answer)

-- the same by the internal key that is sought
pub get_by : (cmp : List ℕ → List ℕ → Ordering) (v : State) (tables : List NumberedContents) (user : List ℕ) (at : ℕ) (key : List ℕ) (s : ℕ) (o : Option VisibleEntry) → IsLawful cmp v tables → s ≡ min at (2 ^ 56 - 1) → key ≡ internal_key user s Put
    → IsAnswer (all_entries tables v.files) (user_of key) (sequence_of key) o → get_of v tables user at ≡ option_and_then visible_value o
get_by cmp v tables user at key s o lawful is_min made answer =
    let fits : s < 2 ^ 56 = omega arith in
    let user_is : user_of key ≡ user = ap user_of made ∙ user_of-internal_key user s Put in
    let sequence_is : sequence_of key ≡ min at (2 ^ 56 - 1) = ap sequence_of made ∙ sequence_of-internal_key user s Put fits ∙ is_min in
    get_is cmp v tables user at o lawful
    (subst (λ (n : ℕ). IsAnswer (all_entries tables v.files) user n o) sequence_is (subst (λ (u : List ℕ). IsAnswer (all_entries tables v.files) u (sequence_of key) o) user_is answer))

-- no entry has a user key over the limit
pub get_of_long : (cmp : List ℕ → List ℕ → Ordering) (v : State) (tables : List NumberedContents) (user : List ℕ) (at : ℕ) → 65535 < length user → IsLawful cmp v tables → get_of v tables user at ≡ None
get_of_long cmp v tables user at long lawful =
    got (all_entries tables v.files) user at lawful.sequences_once None
    (λ e there seen. let le = length-user_of e.key (keys_lawful cmp v tables lawful e there) in let same : length (user_of e.key) ≡ length user = ap length seen.0 in absurd (omega arith))

-- ---- refusals

-- each file of a lawful version has a table
pub lawful_there : (cmp : List ℕ → List ℕ → Ordering) (v : State) (tables : List NumberedContents) → IsLawful cmp v tables → tables_test tables v.files ≡ Ok tt
lawful_there cmp v tables lawful = ap tested (all_of (λ (f : NewFile). is_some (table_of_number tables f.meta.number)) v.files each)
  where
    each : (f : NewFile) → Contains v.files f → is_some (table_of_number tables f.meta.number) ≡ true
    each f at =
        let is : IsFileOf cmp tables f.meta = All-contains (λ (g : NewFile). IsFileOf cmp tables g.meta) v.files f lawful.files at in
        ap is_some is.there

ok_not_err : {Z : Type 0} (z : Z) (e : Fault) → done z ≡ failed e → ⊥
ok_not_err z e h = absurd cc

-- what a step that isn't refused by its definition hands on is Memory
pub handed_on : {X Y Z : Type 0} (view : X → Y) (r : Result X Fault) (e : Fault) (y : Y) (z : Z) (first : Result Z Fault) → first ≡ done z → IsErrAnd r (λ f. f ≡ e) → FailsOrMemory e first → EqualOrMemory view r (Ok y)
handed_on view (Ok x) e y z first is h given = absurd h
handed_on {Y = Y} view (Err g) e y z first is h given =
    let never : first ≡ failed e → done y ≡ failed e = λ was. absurd (ok_not_err z e (sym is ∙ was)) in
    subst (λ (x : Fault). UnlessMemory x (done y ≡ failed x)) (sym h) (unless_from e (first ≡ failed e) (done y ≡ failed e) never given)

-- what a call gives that is refused as Memory alone
pub given_or_memory : {X : Type 0} (r : Result X Fault) (P Q : X → Type 0) (R : Fault → Type 0) → ((x : X) → P x → Q x) → IfOk r P → IfErr r (λ e. e ≡ fault Memory) → MatchResult r Q (λ e. UnlessMemory e (R e))
given_or_memory (Ok x) P Q R f p m = f x p
given_or_memory (Err e) P Q R f p m = subst (λ (d : Fault). UnlessMemory d (R d)) (sym m) tt
