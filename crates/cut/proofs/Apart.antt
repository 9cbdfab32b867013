-- All kept entries of a user key go to one output.
use Rattle.std.proofs.Common.{◌≡◌, ℕ, ◌+◌, ◌-◌, Bool, true, false, List, [], ◌∷◌, ◌++◌, length, take, drop, Option, Some, None, refl, sym, ap, subst, ◌∙◌, append_assoc, arith}
use Rattle.std.specs.Prelude.{nat_le, not, flat_map, if◌then◌else◌}
use Rattle.std.specs.List.{AllByRecursion}
use Rattle.std.specs.Cmp.{IsTotalOrder}
use Rattle.std.specs.Ordering.{is_le, ordering_then, nat_cmp}
use Rattle.std.specs.Str.{bytes_eq}
use Rattle.std.specs.declared.cmp.Ordering.{Ordering}
use Rattle.std.specs.declared.cmp.Ordering.TheVariants.{Less, Equal, Greater}
use Rattle.std.proofs.lemmas.Bool.{and_parts, not-true, both_ways, false≢true}
use Rattle.std.proofs.lemmas.Cmp.{tied_itself}
use Rattle.std.proofs.lemmas.List.{take_at, drop_at, length_push, take-append-drop as whole}
use Rattle.std.proofs.lemmas.Slice.Eq.{bytes_eq-Decides}
use Rattle.ikey.specs.Key.{user_of, sequence_of}
use Rattle.ikey.specs.Comparator.{IsExact}
use Rattle.block.specs.EncodedEntry.{Entry}
use Rattle.block.specs.BuilderView.{last_key}
use Rattle.table.specs.declared.options.Options.{Options}
use Rattle.table.specs.DataBlocks.{open_block, flushed}
use Rattle.keep.specs.Union.{key_version_cmp, VersionsRise}
use Rattle.keep.specs.meta.FileMeta.{FileMeta}
use Rattle.keep.specs.declared.mark.Mark.{Mark}
use Rattle.keep.specs.DropRule.{is_same_user, keeps, kept, kept_after}
use Rattle.keep.specs.Marks.{CompactionContext, grandparents_below, heads, heads_after, is_first}
use Rattle.keep.specs.MergedLists.{entries_of_lists}
use Rattle.cut.specs.Stops.{is_stop, stops, stops_after}
use Rattle.cut.specs.Outputs.{AreBelow, UsersRise, WholeLaw, ends_before, outputs, outputs_after, outputs_in, segments}
use Rattle.cut.proofs.Elements.{each, both, front, behind}
use Rattle.cut.proofs.Whole.{all_behind, all_segments, all_two, some_segments}

module _ (cmp : List ℕ → List ℕ → Ordering) (total : IsTotalOrder cmp) (exact : IsExact cmp) where
  -- ---- user keys

  abbrev UpTo : Entry → Entry → Type 0
  UpTo x y = is_le (cmp (user_of x.key) (user_of y.key)) ≡ true

  less_or_same : (a b : List ℕ) (r : Ordering) → cmp a b ≡ r → is_le r ≡ true → (P : Type 0) → (cmp a b ≡ Less → P) → (a ≡ b → P) → P
  less_or_same a b Less e h P less same = less e
  less_or_same a b Equal e h P less same = same (exact a b e)
  less_or_same a b Greater e h P less same = absurd (false≢true h)

  le_less : (a b c : List ℕ) → is_le (cmp a b) ≡ true → cmp b c ≡ Less → cmp a c ≡ Less
  le_less a b c h k = less_or_same a b (cmp a b) refl h (cmp a c ≡ Less) (λ less. total.trans a b c less k) (λ same. ap (λ (x : List ℕ). cmp x c) same ∙ k)

  less_le : (a b c : List ℕ) → cmp a b ≡ Less → is_le (cmp b c) ≡ true → cmp a c ≡ Less
  less_le a b c h k = less_or_same b c (cmp b c) refl k (cmp a c ≡ Less) (λ less. total.trans a b c h less) (λ same. ap (cmp a) (sym same) ∙ h)

  le_le : (a b c : List ℕ) → is_le (cmp a b) ≡ true → is_le (cmp b c) ≡ true → is_le (cmp a c) ≡ true
  le_le a b c h k = less_or_same a b (cmp a b) refl h (is_le (cmp a c) ≡ true) (λ less. ap is_le (less_le a b c less k)) (λ same. ap (λ (x : List ℕ). is_le (cmp x c)) same ∙ k)

  le_itself : (a : List ℕ) → is_le (cmp a a) ≡ true
  le_itself a = ap is_le (tied_itself total a)

  strictly : (a b : List ℕ) → is_le (cmp a b) ≡ true → bytes_eq a b ≡ false → cmp a b ≡ Less
  strictly a b h ne = less_or_same a b (cmp a b) refl h (cmp a b ≡ Less) (λ less. less) (λ same. absurd (both_ways (bytes_eq a b) ne ((bytes_eq-Decides a b).1 same)))

  -- ---- entries whose user keys don't fall

  abbrev Rises : List Entry → Type 0
  Rises [] = Unit {0}
  Rises (e ∷ es) = AllByRecursion (λ f. UpTo e f) es × Rises es

  first_by : (a b : Ordering) → ordering_then a b ≡ Less → is_le a ≡ true
  first_by Less b h = refl
  first_by Equal b h = refl
  first_by Greater b h = absurd (cc)

  rising : (es : List Entry) → VersionsRise cmp es → Rises es
  rising [] h = tt
  rising (e ∷ es) h =
      (each (λ f. key_version_cmp cmp e.key f.key ≡ Less) (λ f. UpTo e f) es (λ f k. first_by (cmp (user_of e.key) (user_of f.key)) (nat_cmp (sequence_of f.key) (sequence_of e.key)) k) h.0, rising es h.1)

  rises_front : (xs ys : List Entry) → Rises (xs ++ ys) → Rises xs
  rises_front [] ys h = tt
  rises_front (x ∷ xs) ys h = (front (λ f. UpTo x f) xs ys h.0, rises_front xs ys h.1)

  rises_behind : (xs ys : List Entry) → Rises (xs ++ ys) → Rises ys
  rises_behind [] ys h = h
  rises_behind (x ∷ xs) ys h = rises_behind xs ys h.1

  -- ---- entries below others

  below_none : (xs : List Entry) → AreBelow cmp xs []
  below_none [] = tt
  below_none (x ∷ xs) = (tt, below_none xs)

  below_two : (xs ys zs : List Entry) → AreBelow cmp xs ys → AreBelow cmp xs zs → AreBelow cmp xs (ys ++ zs)
  below_two [] ys zs h k = tt
  below_two (x ∷ xs) ys zs h k = (both (λ y. cmp (user_of x.key) (user_of y.key) ≡ Less) ys zs h.0 k.0, below_two xs ys zs h.1 k.1)

  -- entries up to a user key that is below another are below all from there on
  below_all : (xs ys : List Entry) (a b : List ℕ) → AllByRecursion (λ x. is_le (cmp (user_of x.key) a) ≡ true) xs → cmp a b ≡ Less → AllByRecursion (λ y. is_le (cmp b (user_of y.key)) ≡ true) ys → AreBelow cmp xs ys
  below_all xs ys a b h less k =
      each (λ x. is_le (cmp (user_of x.key) a) ≡ true) (λ x. AllByRecursion (λ y. cmp (user_of x.key) (user_of y.key) ≡ Less) ys) xs
      (λ x up. each (λ y. is_le (cmp b (user_of y.key)) ≡ true) (λ y. cmp (user_of x.key) (user_of y.key) ≡ Less) ys
      (λ y down. less_le (user_of x.key) b (user_of y.key) (le_less (user_of x.key) a b up less) down) k) h

  -- ---- the last of some entries

  up_to_last : (a : Entry) (bs : List Entry) → Rises (a ∷ bs) → is_le (cmp (user_of a.key) (user_of (last_key a.key bs))) ≡ true
  up_to_last a [] h = le_itself (user_of a.key)
  up_to_last a (b ∷ cs) h = le_le (user_of a.key) (user_of b.key) (user_of (last_key b.key cs)) h.0.0 (up_to_last b cs h.1)

  all_up_to_last : (a : Entry) (bs : List Entry) → Rises (a ∷ bs) → AllByRecursion (λ x. is_le (cmp (user_of x.key) (user_of (last_key a.key bs))) ≡ true) (a ∷ bs)
  all_up_to_last a [] h = (up_to_last a [] h, tt)
  all_up_to_last a (b ∷ cs) h = (up_to_last a (b ∷ cs) h, all_up_to_last b cs h.1)

  last_up_to : (a : Entry) (bs : List Entry) (e : Entry) (es : List Entry) → Rises ((a ∷ bs) ++ e ∷ es) → is_le (cmp (user_of (last_key a.key bs)) (user_of e.key)) ≡ true
  last_up_to a [] e es h = h.0.0
  last_up_to a (b ∷ cs) e es h = last_up_to b cs e es h.1

  from_first : (e : Entry) (es : List Entry) → Rises (e ∷ es) → AllByRecursion (λ f. is_le (cmp (user_of e.key) (user_of f.key)) ≡ true) (e ∷ es)
  from_first e es h = (le_itself (user_of e.key), h.0)

  -- ---- the outputs of a segment

  module _ (o : Options) where
    ended_below : (latest : List Entry) (e : Entry) (es : List Entry) → Rises (latest ++ e ∷ es) → ends_before o latest e ≡ true → AreBelow cmp latest (e ∷ es)
    ended_below [] e es h ends = tt
    ended_below (a ∷ bs) e es h ends =
        let last = last_key a.key bs in
        let tests = and_parts (nat_le o.file_size (flushed o (a ∷ bs))) (not (bytes_eq (user_of last) (user_of e.key))) ends in
        below_all (a ∷ bs) (e ∷ es) (user_of last) (user_of e.key) (all_up_to_last a bs (rises_front (a ∷ bs) (e ∷ es) h))
        (strictly (user_of last) (user_of e.key) (last_up_to a bs e es h) (not-true (bytes_eq (user_of last) (user_of e.key)) tests.1))
        (from_first e es (rises_behind (a ∷ bs) (e ∷ es) h))

    apart_open : (latest : List Entry) → UsersRise cmp (open_block latest)
    apart_open [] = tt
    apart_open (e ∷ es) = (below_none (e ∷ es), tt)

    apart_by : (b : Bool) (latest : List Entry) (e : Entry) (es : List Entry) → ends_before o latest e ≡ b → Rises (latest ++ e ∷ es) → UsersRise cmp (outputs_after o (e ∷ []) es) → UsersRise cmp (outputs_after o (latest ++ e ∷ []) es)
        → UsersRise cmp (if b then latest ∷ outputs_after o (e ∷ []) es else outputs_after o (latest ++ e ∷ []) es)
    apart_by true latest e es ends h ended grown = (subst (AreBelow cmp latest) (sym (all_behind o (e ∷ []) es)) (ended_below latest e es h ends), ended)
    apart_by false latest e es ends h ended grown = grown

    apart_behind : (latest es : List Entry) → Rises (latest ++ es) → UsersRise cmp (outputs_after o latest es)
    apart_behind latest [] h = apart_open latest
    apart_behind latest (e ∷ es) h =
        apart_by (ends_before o latest e) latest e es refl h (apart_behind (e ∷ []) es (rises_behind latest (e ∷ es) h)) (apart_behind (latest ++ e ∷ []) es (subst Rises (sym (append_assoc latest (e ∷ []) es)) h))

    -- ---- the outputs of all segments

    apart_two : (ps qs : List (List Entry)) → UsersRise cmp ps → UsersRise cmp qs → AreBelow cmp (entries_of_lists ps) (entries_of_lists qs) → UsersRise cmp (ps ++ qs)
    apart_two [] qs h k b = k
    apart_two (p ∷ ps) qs h k b =
        let later = λ (x : Entry). AllByRecursion (λ y. cmp (user_of x.key) (user_of y.key) ≡ Less) (entries_of_lists qs) in
        (subst (AreBelow cmp p) (sym (all_two o ps qs)) (below_two p (entries_of_lists ps) (entries_of_lists qs) h.0 (front later p (entries_of_lists ps) b)), apart_two ps qs h.1 k (behind later p (entries_of_lists ps) b))

    -- entries are cut between user keys at places; `first` entries came before these
    abbrev IsCut : ℕ → List ℕ → List Entry → Type 0
    IsCut first [] es = Unit {0}
    IsCut first (place ∷ places) es = AreBelow cmp (take (place - first) es) (drop (place - first) es) × IsCut place places (drop (place - first) es)

    rises_take : (n : ℕ) (es : List Entry) → Rises es → Rises (take n es)
    rises_take n es h = rises_front (take n es) (drop n es) (subst Rises (sym (whole n es)) h)

    rises_drop : (n : ℕ) (es : List Entry) → Rises es → Rises (drop n es)
    rises_drop n es h = rises_behind (take n es) (drop n es) (subst Rises (sym (whole n es)) h)

    apart_segments : (first : ℕ) (places : List ℕ) (es : List Entry) → Rises es → IsCut first places es → UsersRise cmp (flat_map (outputs_in o) (segments first places es))
    apart_segments first [] es h cut = apart_two (outputs_in o es) [] (apart_behind [] es h) tt (below_none (entries_of_lists (outputs_in o es)))
    apart_segments first (place ∷ places) es h cut =
        let n = place - first in
        apart_two (outputs_in o (take n es)) (flat_map (outputs_in o) (segments place places (drop n es))) (apart_behind [] (take n es) (rises_take n es h)) (apart_segments place places (drop n es) (rises_drop n es h) cut.1)
        (subst (λ (xs : List Entry). AreBelow cmp xs (entries_of_lists (flat_map (outputs_in o) (segments place places (drop n es))))) (sym (all_behind o [] (take n es)))
        (subst (AreBelow cmp (take n es)) (sym (all_segments o place places (drop n es))) cut.0))

    -- ---- stops stand between user keys

    module _ (b : CompactionContext) where
      abbrev gs : List FileMeta
      gs = b.grandparents

      kept_one : (P : Entry → Type 0) (e : Entry) (es : List Entry) (k : Bool) → P e → AllByRecursion P es → AllByRecursion P ((if k then e ∷ [] else []) ++ es)
      kept_one P e es true h rest = (h, rest)
      kept_one P e es false h rest = rest

      kept_each : (P : Entry → Type 0) (before : Option Entry) (es : List Entry) → AllByRecursion P es → AllByRecursion P (kept_after cmp b.readable b.deeper before es)
      kept_each P before [] h = tt
      kept_each P before (e ∷ es) h = kept_one P e (kept_after cmp b.readable b.deeper (Some e) es) (keeps cmp b.readable b.deeper before e) h.0 (kept_each P (Some e) es h.1)

      -- the kept entries after one
      abbrev rest : Entry → List Entry → List Entry
      rest e es = kept_after cmp b.readable b.deeper (Some e) es

      -- the stops after an entry, with n kept entries before them
      abbrev stops_on : ℕ → Entry → ℕ → List Entry → List ℕ
      stops_on since e n es = stops_after gs o.file_size since (heads_after cmp b (Some e) n es)

      abbrev CutOn : ℕ → List Entry → Entry → List Entry → Type 0
      CutOn first latest e es = (since : ℕ) → IsCut first (stops_on since e (first + length latest) es) (latest ++ rest e es)

      -- with one entry that is kept, or dropped
      stepped : (k : Bool) (first : ℕ) (latest : List Entry) (e : Entry) (es : List Entry) → CutOn first (latest ++ e ∷ []) e es → CutOn first latest e es
          → (since : ℕ) → IsCut first (stops_on since e (if k then (first + length latest) + 1 else first + length latest) es) (latest ++ ((if k then e ∷ [] else []) ++ rest e es))
      stepped true first latest e es grown same since =
          let more : first + length (latest ++ e ∷ []) ≡ (first + length latest) + 1 = omega (arith, length_push latest e) in
          subst (λ (n : ℕ). IsCut first (stops_on since e n es) (latest ++ e ∷ rest e es)) more
          (subst (IsCut first (stops_on since e (first + length (latest ++ e ∷ [])) es)) (append_assoc latest (e ∷ []) (rest e es)) (grown since))
      stepped false first latest e es grown same since = same since

      up_one : (latest : List Entry) (d e : Entry) → AllByRecursion (λ x. UpTo x d) latest → UpTo d e → AllByRecursion (λ x. UpTo x e) latest
      up_one latest d e h k = each (λ x. UpTo x d) (λ x. UpTo x e) latest (λ x up. le_le (user_of x.key) (user_of d.key) (user_of e.key) up k) h

      up_more : (latest : List Entry) (d e : Entry) → AllByRecursion (λ x. UpTo x d) latest → UpTo d e → AllByRecursion (λ x. UpTo x e) (latest ++ e ∷ [])
      up_more latest d e h k = both (λ x. UpTo x e) latest (e ∷ []) (up_one latest d e h k) (le_itself (user_of e.key), tt)

      at_stop : (first : ℕ) (latest : List Entry) (d e : Entry) (es : List Entry) (places : List ℕ) → AllByRecursion (λ x. UpTo x d) latest → Rises (d ∷ e ∷ es) → is_same_user d e ≡ false
          → IsCut (first + length latest) places (rest d (e ∷ es)) → IsCut first ((first + length latest) ∷ places) (latest ++ rest d (e ∷ es))
      at_stop first latest d e es places up h other cut =
          let n : length latest ≡ (first + length latest) - first = omega arith in
          let taken : take ((first + length latest) - first) (latest ++ rest d (e ∷ es)) ≡ latest = take_at latest (rest d (e ∷ es)) ((first + length latest) - first) n in
          let left : drop ((first + length latest) - first) (latest ++ rest d (e ∷ es)) ≡ rest d (e ∷ es) = drop_at latest (rest d (e ∷ es)) ((first + length latest) - first) n in
          let low : AreBelow cmp latest (rest d (e ∷ es)) =
          below_all latest (rest d (e ∷ es)) (user_of d.key) (user_of e.key) up (strictly (user_of d.key) (user_of e.key) h.0.0 other)
          (kept_each (λ f. is_le (cmp (user_of e.key) (user_of f.key)) ≡ true) (Some d) (e ∷ es) (from_first e es h.1)) in (
            subst (λ (xs : List Entry). AreBelow cmp xs (drop ((first + length latest) - first) (latest ++ rest d (e ∷ es)))) (sym taken) (subst (AreBelow cmp latest) (sym left) low),
            subst (IsCut (first + length latest) places) (sym left) cut,
          )

      -- at an entry: it is the first of its user key or not, and there is a stop or not
      here_by : (head stop k : Bool) (first : ℕ) (latest : List Entry) (d e : Entry) (es : List Entry) (since : ℕ) (m : Mark) → is_first (Some d) e ≡ head → keeps cmp b.readable b.deeper (Some d) e ≡ k → m.kept ≡ first + length latest
          → is_stop gs o.file_size since m ≡ stop → AllByRecursion (λ x. UpTo x d) latest → Rises (d ∷ e ∷ es)
          → ((since : ℕ) → IsCut first (stops_on since e (if k then (first + length latest) + 1 else first + length latest) es) (latest ++ ((if k then e ∷ [] else []) ++ rest e es)))
          → ((since : ℕ) → IsCut (first + length latest) (stops_on since e (if k then (first + length latest) + 1 else first + length latest) es) ((if k then e ∷ [] else []) ++ rest e es))
          → IsCut first (stops_after gs o.file_size since ((if head then m ∷ [] else []) ++ heads_after cmp b (Some e) (if k then (first + length latest) + 1 else first + length latest) es)) (latest ++ ((if k then e ∷ [] else []) ++ rest e es))
      here_by false stop k first latest d e es since m is kept-is place stopped up h on anew = on since
      here_by true false k first latest d e es since m is kept-is place stopped up h on anew = rw stopped (on since)
      here_by true true k first latest d e es since m is kept-is place stopped up h on anew =
          let same : rest d (e ∷ es) ≡ (if k then e ∷ [] else []) ++ rest e es = ap (λ (t : Bool). (if t then e ∷ [] else []) ++ rest e es) kept-is in
          let places = stops_on m.below e (if k then (first + length latest) + 1 else first + length latest) es in
          let cut : IsCut first ((first + length latest) ∷ places) (latest ++ ((if k then e ∷ [] else []) ++ rest e es)) =
          subst (λ (xs : List Entry). IsCut first ((first + length latest) ∷ places) (latest ++ xs)) same
          (at_stop first latest d e es places up h (not-true (is_same_user d e) is) (subst (IsCut (first + length latest) places) (sym same) (anew m.below))) in
          rw stopped (subst (λ (n : ℕ). IsCut first (n ∷ places) (latest ++ ((if k then e ∷ [] else []) ++ rest e es))) (sym place) cut)

      cut_on : (first : ℕ) (latest : List Entry) (d : Entry) (es : List Entry) → AllByRecursion (λ x. UpTo x d) latest → Rises (d ∷ es) → CutOn first latest d es
      cut_on first latest d [] up h since = tt
      cut_on first latest d (e ∷ es) up h since =
          let k = keeps cmp b.readable b.deeper (Some d) e in
          let n = first + length latest in
          let m : Mark = record { below = grandparents_below cmp gs e.key; kept = n } in
          let base : n + 0 ≡ n = omega arith in
          let on = stepped k first latest e es (cut_on first (latest ++ e ∷ []) e es (up_more latest d e up h.0.0) h.1) (cut_on first latest e es (up_one latest d e up h.0.0) h.1) in
          let anew = stepped k n [] e es (cut_on n (e ∷ []) e es (le_itself (user_of e.key), tt) h.1) (cut_on n [] e es tt h.1) in
          here_by (is_first (Some d) e) (is_stop gs o.file_size since m) k first latest d e es since m refl refl refl refl up h on
          (λ s. subst (λ (z : ℕ). IsCut n (stops_on s e (if k then z + 1 else z) es) ((if k then e ∷ [] else []) ++ rest e es)) base (anew s))

      cut_all : (union : List Entry) → Rises union → IsCut 0 (stops gs o.file_size (heads cmp b union)) (kept cmp b.readable b.deeper union)
      cut_all [] h = tt
      cut_all (e ∷ es) h = stepped (keeps cmp b.readable b.deeper None e) 0 [] e es (cut_on 0 (e ∷ []) e es (le_itself (user_of e.key), tt) h) (cut_on 0 [] e es tt h) (grandparents_below cmp gs e.key)

      rises_one : (e : Entry) (es : List Entry) (k : Bool) → AllByRecursion (λ f. UpTo e f) es → Rises es → Rises ((if k then e ∷ [] else []) ++ es)
      rises_one e es true h rising_rest = (h, rising_rest)
      rises_one e es false h rising_rest = rising_rest

      kept_rises : (before : Option Entry) (es : List Entry) → Rises es → Rises (kept_after cmp b.readable b.deeper before es)
      kept_rises before [] h = tt
      kept_rises before (e ∷ es) h = rises_one e (rest e es) (keeps cmp b.readable b.deeper before e) (kept_each (λ f. UpTo e f) (Some e) es h.0) (kept_rises (Some e) es h.1)

      users_apart : (union : List Entry) → VersionsRise cmp union → UsersRise cmp (outputs cmp b o union)
      users_apart union h =
          apart_segments 0 (stops gs o.file_size (heads cmp b union)) (kept cmp b.readable b.deeper union) (kept_rises None union (rising union h)) (cut_all union (rising union h))

pub whole_law : (cmp : List ℕ → List ℕ → Ordering) → IsTotalOrder cmp → IsExact cmp → WholeLaw cmp
whole_law cmp total exact = record {
  all = λ grandparents o run. all_segments o 0 (stops grandparents o.file_size run.marks) run.kept;
  some = λ grandparents o run. some_segments o 0 (stops grandparents o.file_size run.marks) run.kept;
  users = λ b o union h. users_apart cmp total exact o b union h;
}
