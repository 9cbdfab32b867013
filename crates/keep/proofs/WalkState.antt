-- How far a walk over the entries of a range has come. What it holds, and what the definitions
-- say of the entries that are left, are together what they say of all.
use Rattle.std.proofs.Common.{◌≡◌, ℕ, ◌+◌, ◌≤◌, Bool, true, false, List, [], ◌∷◌, ◌++◌, length, refl, sym, ap, ◌∙◌, append_assoc, append-nil, arith, length-append}
use Rattle.std.specs.Prelude.{nat_eq, nat_le, ◌&&◌, not, if◌then◌else◌, Option, Some, None}
use Rattle.std.specs.List.{AllByRecursion, list_any}
use Rattle.std.specs.Option.{option_map}
use Rattle.std.specs.Ordering.{is_le}
use Rattle.std.specs.Cmp.{IsTotalOrder}
use Rattle.std.specs.declared.cmp.Ordering.{Ordering}
use Rattle.std.proofs.lemmas.Bool.{eqb-true, false≢true}
use Rattle.ikey.specs.Key.{user_of, sequence_of}
use Rattle.ikey.specs.Comparator.{IsExact}
use Rattle.ikey.specs.Order.{internal_cmp}
use Rattle.reads.specs.EncodedEntry.{Entry}
use Rattle.reads.specs.EntriesFrom.{NeverFalls}
use Rattle.merge.proofs.Orders.{all_weaker}
use Rattle.keep.specs.declared.mark.Mark.{Mark}
use Rattle.keep.specs.WalkedRange.{WalkedRange}
use Rattle.keep.specs.Readable.{Readable}
use Rattle.keep.specs.Versions.{EntryVersion, version_of, newer_of}
use Rattle.keep.specs.DropRule.{is_same_user, is_snapshot_between, is_hidden, is_obsolete, keeps, kept_after, kept}
use Rattle.keep.specs.Marks.{CompactionContext, grandparents_below, is_first, heads_after, changes_after, marks}
use Rattle.keep.specs.Runs.{run_of, is_same_version, are_distinct}
use Rattle.keep.specs.RangeWalk.{is_repeated, is_hidden_by, keeps_after, new_marks, walk_after_head, walk_after}
use Rattle.keep.proofs.ComposedRanges.{all_any, ch}
use Rattle.keep.proofs.Adjacent.{repeats, apart_behind, distinct_apart}
use Rattle.keep.proofs.GrandparentCounts.{below_grows}

-- the version of an entry
abbrev version : Entry → EntryVersion
version e = version_of e.key

-- the last entry's version
abbrev last_of : Option Entry → Option EntryVersion
last_of before = option_map version before

-- the number of grandparents of the mark before, if there is one
abbrev told : Option Entry → ℕ → Option ℕ
told None passed = None
told (Some p) passed = Some passed

-- what is done is that of entries of which these are left
pub record Stands (cmp : List ℕ → List ℕ → Ordering) (b : CompactionContext) (all rest : List Entry) (w : WalkedRange) : Type 0 where
  pub before : Option Entry
  pub last : w.last ≡ last_of before
  pub kept : w.run.kept ++ kept_after cmp b.readable b.deeper before rest ≡ kept cmp b.readable b.deeper all
  pub marks : w.run.marks ++ ch (told before w.passed) (heads_after cmp b before (length w.run.kept) rest) ≡ marks cmp b all
  pub apart : apart_behind before rest ≡ are_distinct all
  pub reached : AllByRecursion (λ e. w.passed ≤ grandparents_below cmp b.grandparents e.key) rest
  pub falls : NeverFalls cmp rest

-- ---- what the code asks of the entry before is what the definitions ask

hidden_by : (r : Readable) (p e : Entry) (same : Bool) → is_same_user p e ≡ same → is_hidden r (Some p) e ≡ is_hidden_by r (if same then Some (sequence_of p.key) else None) e.key
hidden_by r p e true h = ap (λ s. (s && nat_le (sequence_of p.key) r.floor) && not (list_any (is_snapshot_between p e) r.listed)) h
hidden_by r p e false h = ap (λ s. (s && nat_le (sequence_of p.key) r.floor) && not (list_any (is_snapshot_between p e) r.listed)) h

hidden_same : (r : Readable) (before : Option Entry) (e : Entry) → is_hidden r before e ≡ is_hidden_by r (newer_of (last_of before) (user_of e.key)) e.key
hidden_same r None e = refl
hidden_same r (Some p) e = hidden_by r p e (is_same_user p e) refl

keeps_same : (cmp : List ℕ → List ℕ → Ordering) (b : CompactionContext) (before : Option Entry) (e : Entry) → keeps cmp b.readable b.deeper before e ≡ keeps_after cmp b (newer_of (last_of before) (user_of e.key)) e
keeps_same cmp b before e = ap (λ h. not h && not (is_obsolete cmp b.readable b.deeper e)) (hidden_same b.readable before e)

repeats_by : (p e : Entry) (same : Bool) → is_same_user p e ≡ same → is_same_version p e ≡ is_repeated (if same then Some (sequence_of p.key) else None) e.key
repeats_by p e true h = ap (λ s. s && nat_eq (sequence_of p.key) (sequence_of e.key)) h
repeats_by p e false h = ap (λ s. s && nat_eq (sequence_of p.key) (sequence_of e.key)) h

repeats_same : (before : Option Entry) (e : Entry) → repeats before e ≡ is_repeated (newer_of (last_of before) (user_of e.key)) e.key
repeats_same None e = refl
repeats_same (Some p) e = repeats_by p e (is_same_user p e) refl

-- ---- marks

module _ (cmp : List ℕ → List ℕ → Ordering) (b : CompactionContext) where
  abbrev kb : Option Entry → List Entry → List Entry
  kb before es = kept_after cmp b.readable b.deeper before es

  abbrev hb : Option Entry → ℕ → List Entry → List Mark
  hb before n es = heads_after cmp b before n es

  abbrev below : Entry → ℕ
  below e = grandparents_below cmp b.grandparents e.key

  -- the first entry of a user key sets the mark that the definition has there
  changed_by : (m : Mark) (passed : ℕ) (hs : List Mark) (same : Bool) → nat_eq m.below passed ≡ same
      → (if same then changes_after passed hs else m ∷ changes_after m.below hs) ≡ (if not same then m ∷ [] else []) ++ changes_after m.below hs
  changed_by m passed hs true h = ap (λ n. changes_after n hs) (sym (eqb-true m.below passed h))
  changed_by m passed hs false h = refl

  changed : (before : Option Entry) (m : Mark) (passed : ℕ) (hs : List Mark) → ch (told before passed) (m ∷ hs) ≡ new_marks (last_of before) passed m.below m.kept ++ changes_after m.below hs
  changed None m passed hs = refl
  changed (Some p) m passed hs = changed_by m passed hs (nat_eq m.below passed) refl

  -- ---- one entry

  abbrev at : WalkedRange → Entry → Option ℕ
  at w e = newer_of w.last (user_of e.key)

  -- the marks after the head of an entry
  headed_by : (before : Option Entry) (w : WalkedRange) (e : Entry) (n : ℕ) (hs : List Mark) (same : Bool) → (before ≡ None → same ≡ false) → w.last ≡ last_of before → is_first before e ≡ not same
      → w.run.marks ++ ch (told before w.passed) ((if is_first before e then record { below = below e; kept = length w.run.kept } ∷ [] else []) ++ hs)
      ≡ (walk_after_head cmp b (if same then Some n else None) w e.key).run.marks ++ changes_after (walk_after_head cmp b (if same then Some n else None) w e.key).passed hs
  headed_by before w e n hs false none last first =
      let m : Mark = record { below = below e; kept = length w.run.kept } in
      ap (λ s. w.run.marks ++ ch (told before w.passed) ((if s then m ∷ [] else []) ++ hs)) first
      ∙ ap (λ zs. w.run.marks ++ zs) (changed before m w.passed hs)
      ∙ ap (λ l. w.run.marks ++ (new_marks l w.passed m.below m.kept ++ changes_after m.below hs)) (sym last)
      ∙ sym (append_assoc w.run.marks (new_marks w.last w.passed m.below m.kept) (changes_after m.below hs))
  headed_by None w e n hs true none last first = absurd (false≢true (sym (none refl)))
  headed_by (Some p) w e n hs true none last first =
      let m : Mark = record { below = below e; kept = length w.run.kept } in
      ap (λ s. w.run.marks ++ changes_after w.passed ((if s then m ∷ [] else []) ++ hs)) first

  headed_at : (before : Option Entry) (w : WalkedRange) (e : Entry) (hs : List Mark) → w.last ≡ last_of before
      → w.run.marks ++ ch (told before w.passed) ((if is_first before e then record { below = below e; kept = length w.run.kept } ∷ [] else []) ++ hs)
      ≡ (walk_after_head cmp b (newer_of (last_of before) (user_of e.key)) w e.key).run.marks ++ changes_after (walk_after_head cmp b (newer_of (last_of before) (user_of e.key)) w e.key).passed hs
  headed_at None w e hs last = headed_by None w e 0 hs false (λ none. refl) last refl
  headed_at (Some p) w e hs last = headed_by (Some p) w e (sequence_of p.key) hs (is_same_user p e) (λ none. absurd cc) last refl

  headed_kept : (newer : Option ℕ) (w : WalkedRange) (key : List ℕ) → (walk_after_head cmp b newer w key).run.kept ≡ w.run.kept
  headed_kept None w key = refl
  headed_kept (Some n) w key = refl

  -- `passed` lie below each later entry
  headed_reached : (total : IsTotalOrder cmp) (newer : Option ℕ) (w : WalkedRange) (e : Entry) (es : List Entry) → AllByRecursion (λ f. w.passed ≤ below f) es → AllByRecursion (λ f. is_le (internal_cmp cmp e.key f.key) ≡ true) es
      → AllByRecursion (λ f. (walk_after_head cmp b newer w e.key).passed ≤ below f) es
  headed_reached total None w e es h falls = all_weaker (λ (f : Entry). is_le (internal_cmp cmp e.key f.key) ≡ true) (λ f. below e ≤ below f) (λ f le. below_grows cmp total b.grandparents e.key f.key le) es falls
  headed_reached total (Some n) w e es h falls = h

  counted : (k : Bool) (xs : List Entry) (e : Entry) → (if k then length xs + 1 else length xs) ≡ length (xs ++ (if k then e ∷ [] else []))
  counted true xs e = sym (length-append xs (e ∷ []))
  counted false xs e = ap length (sym (append-nil xs))

  pub stands_walked : IsTotalOrder cmp → (all rest : List Entry) (w : WalkedRange) (e : Entry) → Stands cmp b all (e ∷ rest) w → is_repeated (newer_of w.last (user_of e.key)) e.key ≡ false → Stands cmp b all rest (walk_after cmp b w e)
  stands_walked total all rest w e s fresh =
      let newer : Option ℕ = newer_of w.last (user_of e.key) in
      let head : WalkedRange = walk_after_head cmp b newer w e.key in
      let k : Bool = keeps_after cmp b newer e in
      let own : List Entry = if k then e ∷ [] else [] in
      let same : newer_of w.last (user_of e.key) ≡ newer_of (last_of s.before) (user_of e.key) = ap (λ (l : Option EntryVersion). newer_of l (user_of e.key)) s.last in
      let keeping : keeps cmp b.readable b.deeper s.before e ≡ k = keeps_same cmp b s.before e ∙ ap (λ (n : Option ℕ). keeps_after cmp b n e) (sym same) in
      let own_kept : head.run.kept ≡ w.run.kept = headed_kept newer w e.key in
      let count : (if k then length w.run.kept + 1 else length w.run.kept) ≡ length (head.run.kept ++ own) =
      counted k w.run.kept e ∙ ap (λ (xs : List Entry). length (xs ++ own)) (sym own_kept) in
      record {
        before = Some e;
        last = refl;
        kept =
            ap (λ (xs : List Entry). (xs ++ own) ++ kb (Some e) rest) own_kept
            ∙ append_assoc w.run.kept own (kb (Some e) rest)
            ∙ ap (λ c. w.run.kept ++ ((if c then e ∷ [] else []) ++ kb (Some e) rest)) (sym keeping)
            ∙ s.kept;
        marks =
            ap (λ n. head.run.marks ++ changes_after head.passed (hb (Some e) n rest)) (sym count)
            ∙ ap (λ c. head.run.marks ++ changes_after head.passed (hb (Some e) (if c then length w.run.kept + 1 else length w.run.kept) rest)) (sym keeping)
            ∙ ap (λ (n : Option ℕ). (walk_after_head cmp b n w e.key).run.marks ++ changes_after (walk_after_head cmp b n w e.key).passed (hb (Some e) (if keeps cmp b.readable b.deeper s.before e then length w.run.kept + 1 else length w.run.kept) rest)) same
            ∙ sym (headed_at s.before w e (hb (Some e) (if keeps cmp b.readable b.deeper s.before e then length w.run.kept + 1 else length w.run.kept) rest) s.last)
            ∙ s.marks;
        apart =
            ap (λ c. not c && apart_behind (Some e) rest) (sym fresh ∙ ap (λ (n : Option ℕ). is_repeated n e.key) same ∙ sym (repeats_same s.before e))
            ∙ s.apart;
        reached = headed_reached total newer w e rest s.reached.1 s.falls.0;
        falls = s.falls.1;
      }

  pub stands_repeated : (all rest : List Entry) (w : WalkedRange) (e : Entry) → Stands cmp b all (e ∷ rest) w → is_repeated (newer_of w.last (user_of e.key)) e.key ≡ true → are_distinct all ≡ false
  stands_repeated all rest w e s again =
      sym s.apart
      ∙ ap (λ c. not c && apart_behind (Some e) rest) (repeats_same s.before e ∙ ap (λ (l : Option EntryVersion). is_repeated (newer_of l (user_of e.key)) e.key) (sym s.last) ∙ again)

  pub stands_first : IsTotalOrder cmp → (exact : IsExact cmp) → (all : List Entry) → NeverFalls cmp all → Stands cmp b all all (record { run = record { kept = []; marks = [] }; last = None; passed = 0 })
  stands_first total exact all falls = record {
    before = None;
    last = refl;
    kept = refl;
    marks = refl;
    apart = sym (distinct_apart cmp total exact all falls);
    reached = all_any (λ e. 0 ≤ below e) all (λ e. omega arith);
    falls = falls;
  }

  ch_none : (c : Option ℕ) → ch c [] ≡ []
  ch_none None = refl
  ch_none (Some n) = refl

  pub stands_kept : (all : List Entry) (w : WalkedRange) → Stands cmp b all [] w → w.run ≡ run_of cmp b all
  stands_kept all w s =
      let kept_all : w.run.kept ≡ kept cmp b.readable b.deeper all = sym (append-nil w.run.kept) ∙ s.kept in
      let marks_all : w.run.marks ≡ marks cmp b all = sym (ap (λ (ms : List Mark). w.run.marks ++ ms) (ch_none (told s.before w.passed)) ∙ append-nil w.run.marks) ∙ s.marks in
      ap (λ (ks : List Entry). record { kept = ks; marks = w.run.marks }) kept_all ∙ ap (λ (ms : List Mark). record { kept = kept cmp b.readable b.deeper all; marks = ms }) marks_all

  pub stands_distinct : (all : List Entry) (w : WalkedRange) → Stands cmp b all [] w → are_distinct all ≡ true
  stands_distinct all w s = sym s.apart

  pub stands_passed : (all rest : List Entry) (w : WalkedRange) (e : Entry) → Stands cmp b all (e ∷ rest) w → w.passed ≤ below e
  stands_passed all rest w e s = s.reached.0
