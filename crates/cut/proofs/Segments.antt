-- The segments of a union, and its outputs by them.
use Rattle.std.proofs.Common.{◌≡◌, ◌≢◌, ℕ, ◌+◌, ◌-◌, ◌*◌, Bool, true, false, List, [], ◌∷◌, ◌++◌, length, map, drop, Some, None, Option, inl, inr, refl, sym, ap, subst, ◌∙◌, append_assoc, arith}
use Rattle.std.specs.Prelude.{◌⊎◌, nat_lt, if◌then◌else◌, flat_map}
use Rattle.std.specs.Cmp.{IsTotalOrder}
use Rattle.std.specs.List.{AllByRecursion}
use Rattle.std.specs.declared.cmp.Ordering.{Ordering}
use Rattle.std.specs.declared.cmp.Ordering.TheVariants.{Less}
use Rattle.std.proofs.lemmas.List.{append-nil, length-append, take_at, drop_at}
use Rattle.std.proofs.lemmas.Bool.{both_ways, lt-ltb, ltb-true}
use Rattle.std.proofs.lemmas.Slice.Eq.{bytes_eq-Decides}
use Rattle.ikey.specs.Comparator.{IsExact}
use Rattle.ikey.specs.Key.{user_of}
use Rattle.block.specs.EncodedEntry.{Entry}
use Rattle.table.specs.declared.options.Options.{Options}
use Rattle.keep.specs.meta.FileMeta.{FileMeta}
use Rattle.keep.specs.DropRule.{is_same_user, keeps, kept, kept_after}
use Rattle.keep.specs.Marks.{CompactionContext, grandparents_below, heads, heads_after}
use Rattle.keep.specs.Union.{key_version_cmp, VersionsRise}
use Rattle.keep.specs.MergedLists.{entries_of_lists}
use Rattle.cut.specs.Outputs.{outputs, outputs_in, segments, AreOutputs}
use Rattle.cut.specs.Segments.{AreSegments, BeginsSegment, EachReachesNext, ReachesNext, SegmentsLaw}
use Rattle.cut.specs.Stops.{size_between, stops, stops_after}
use Rattle.cut.proofs.SegmentOutputs.{outputs_law}

-- ---- lists

cut_first : (n : ℕ) (xs ys : List Entry) (places : List ℕ) → segments n ((n + length xs) ∷ places) (xs ++ ys) ≡ xs ∷ segments (n + length xs) places ys
cut_first n xs ys places =
    let len : length xs ≡ (n + length xs) - n = omega arith in
    ap (λ (front : List Entry). front ∷ segments (n + length xs) places (drop ((n + length xs) - n) (xs ++ ys))) (take_at xs ys ((n + length xs) - n) len)
    ∙ ap (λ (back : List Entry). xs ∷ segments (n + length xs) places back) (drop_at xs ys ((n + length xs) - n) len)

flat_mapped : (f : List Entry → List (List Entry)) (g : List Entry → List Entry) (ss : List (List Entry)) → flat_map f (map g ss) ≡ flat_map (λ s. f (g s)) ss
flat_mapped f g [] = refl
flat_mapped f g (s ∷ ss) = ap (λ rest. f (g s) ++ rest) (flat_mapped f g ss)

first_same : (x y : Entry) (xs ys : List Entry) → x ∷ xs ≡ y ∷ ys → x ≡ y
first_same x y xs ys e = cc

later_same : (x y : Entry) (xs ys : List Entry) → x ∷ xs ≡ y ∷ ys → xs ≡ ys
later_same x y xs ys e = cc

one_of : (e : Entry) (keep : Bool) (n : ℕ) → (if keep then n + 1 else n) ≡ n + length (if keep then e ∷ [] else [])
one_of e true n = refl
one_of e false n = omega arith

-- ---- whether an entry begins a segment

module _ (cmp : List ℕ → List ℕ → Ordering) (gs : List FileMeta) (size : ℕ) where
  abbrev below : Entry → ℕ
  below e = grandparents_below cmp gs e.key

  abbrev is_past : Entry → Entry → Bool
  is_past first e = nat_lt (10 * size) (size_between gs (below first) (below e))

  same_user : (before e : Entry) → is_same_user before e ≡ true → user_of before.key ≡ user_of e.key
  same_user before e h = (bytes_eq-Decides (user_of before.key) (user_of e.key)).0 h

  other_user : (before e : Entry) → is_same_user before e ≡ false → user_of before.key ≢ user_of e.key
  other_user before e h = λ same. both_ways (is_same_user before e) h ((bytes_eq-Decides (user_of before.key) (user_of e.key)).1 same)

  differs : (before e : Entry) → user_of before.key ≢ user_of e.key → is_same_user before e ≡ false
  differs before e ne = by (is_same_user before e) refl
    where
      by : (s : Bool) → is_same_user before e ≡ s → s ≡ false
      by true h = absurd (ne (same_user before e h))
      by false h = refl

  decided : (first before e : Entry) → BeginsSegment cmp gs size first before e ⊎ (BeginsSegment cmp gs size first before e → ⊥)
  decided first before e = by (is_same_user before e) (is_past first e) refl refl
    where
      by : (s p : Bool) → is_same_user before e ≡ s → is_past first e ≡ p → BeginsSegment cmp gs size first before e ⊎ (BeginsSegment cmp gs size first before e → ⊥)
      by true p h k = inr (λ begins. begins.other (same_user before e h))
      by false true h k = inl (record { other = other_user before e h; passed = ltb-true (10 * size) (size_between gs (below first) (below e)) k })
      by false false h k = inr (λ begins. both_ways (is_past first e) k (lt-ltb (10 * size) (size_between gs (below first) (below e)) begins.passed))

  -- ---- each union has segments

  record Cut (first before : Entry) (es : List Entry) : Type 0 where
    front : List Entry
    others : List (List Entry)
    all : front ++ entries_of_lists others ≡ es
    reaches : ReachesNext cmp gs size first before front (entries_of_lists others)
    each : EachReachesNext cmp gs size others

  cut_of : (first before : Entry) (es : List Entry) → Cut first before es
  cut_of first before [] = record { front = []; others = []; all = refl; reaches = tt; each = tt }
  cut_of first before (e ∷ es) = by (decided first before e) (cut_of e e es) (cut_of first e es)
    where
      by : BeginsSegment cmp gs size first before e ⊎ (BeginsSegment cmp gs size first before e → ⊥) → Cut e e es → Cut first e es → Cut first before (e ∷ es)
      by (inl begins) anew more = record {
        front = [];
        others = (e ∷ anew.front) ∷ anew.others;
        all = ap (λ (xs : List Entry). e ∷ xs) anew.all;
        reaches = begins;
        each = (anew.reaches, anew.each);
      }
      by (inr goes_on) anew more = record {
        front = e ∷ more.front;
        others = more.others;
        all = ap (λ (xs : List Entry). e ∷ xs) more.all;
        reaches = (goes_on, more.reaches);
        each = more.each;
      }

  found : (union : List Entry) → (ss : List (List Entry)) × AreSegments cmp gs size union ss
  found [] = ([], record { all = refl; each = tt })
  found (e ∷ es) =
      let c = cut_of e e es in
      ((e ∷ c.front) ∷ c.others, record { all = ap (λ (xs : List Entry). e ∷ xs) c.all; each = (c.reaches, c.each) })

-- ---- entries in order

module _ (cmp : List ℕ → List ℕ → Ordering) where
  rises_front : (xs ys : List Entry) → VersionsRise cmp (xs ++ ys) → VersionsRise cmp xs
  rises_front [] ys h = tt
  rises_front (x ∷ xs) ys h = (front xs h.0, rises_front xs ys h.1)
    where
      front : (zs : List Entry) → AllByRecursion (λ (f : Entry). key_version_cmp cmp x.key f.key ≡ Less) (zs ++ ys) → AllByRecursion (λ (f : Entry). key_version_cmp cmp x.key f.key ≡ Less) zs
      front [] k = tt
      front (z ∷ zs) k = (k.0, front zs k.1)

  rises_behind : (xs ys : List Entry) → VersionsRise cmp (xs ++ ys) → VersionsRise cmp ys
  rises_behind [] ys h = h
  rises_behind (x ∷ xs) ys h = rises_behind xs ys h.1

-- ---- what is kept

module _ (cmp : List ℕ → List ℕ → Ordering) (b : CompactionContext) (size : ℕ) where
  abbrev gs : List FileMeta
  gs = b.grandparents

  abbrev keep : Option Entry → List Entry → List Entry
  keep before es = kept_after cmp b.readable b.deeper before es

  abbrev is_kept : Option Entry → Entry → Bool
  is_kept before e = keeps cmp b.readable b.deeper before e

  -- an entry before it of another user key hides no entry
  kept_anew : (before e : Entry) → is_same_user before e ≡ false → is_kept (Some before) e ≡ is_kept None e
  kept_anew before e h = rw h refl

  kept_apart : (first before : Entry) (es rest : List Entry) → ReachesNext cmp gs size first before es rest → keep (Some before) (es ++ rest) ≡ keep (Some before) es ++ keep None rest
  kept_apart first before [] [] h = refl
  kept_apart first before [] (f ∷ fs) h = ap (λ (k : Bool). (if k then f ∷ [] else []) ++ keep (Some f) fs) (kept_anew before f (differs cmp gs size before f h.other))
  kept_apart first before (e ∷ es) rest h =
      ap (λ (xs : List Entry). (if is_kept (Some before) e then e ∷ [] else []) ++ xs) (kept_apart first e es rest h.1)
      ∙ sym (append_assoc (if is_kept (Some before) e then e ∷ [] else []) (keep (Some e) es) (keep None rest))

  kept_whole : (first : Entry) (es rest : List Entry) → ReachesNext cmp gs size first first es rest → keep None ((first ∷ es) ++ rest) ≡ keep None (first ∷ es) ++ keep None rest
  kept_whole first es rest h =
      ap (λ (xs : List Entry). (if is_kept None first then first ∷ [] else []) ++ xs) (kept_apart first first es rest h)
      ∙ sym (append_assoc (if is_kept None first then first ∷ [] else []) (keep (Some first) es) (keep None rest))

  kept_each : (ss : List (List Entry)) → EachReachesNext cmp gs size ss → keep None (entries_of_lists ss) ≡ flat_map (λ s. keep None s) ss
  kept_each [] h = refl
  kept_each ([] ∷ ss) h = absurd h
  kept_each ((first ∷ es) ∷ ss) h = kept_whole first es (entries_of_lists ss) h.0 ∙ ap (λ (xs : List Entry). keep None (first ∷ es) ++ xs) (kept_each ss h.1)

  kept_all : (P : Entry → Type 0) (before : Option Entry) (es : List Entry) → AllByRecursion P es → AllByRecursion P (keep before es)
  kept_all P before [] h = tt
  kept_all P before (e ∷ es) h = around (is_kept before e) (kept_all P (Some e) es h.1)
    where
      around : (k : Bool) → AllByRecursion P (keep (Some e) es) → AllByRecursion P ((if k then e ∷ [] else []) ++ keep (Some e) es)
      around true rest = (h.0, rest)
      around false rest = rest

  kept_rises : (before : Option Entry) (es : List Entry) → VersionsRise cmp es → VersionsRise cmp (keep before es)
  kept_rises before [] h = tt
  kept_rises before (e ∷ es) h = around (is_kept before e) (kept_rises (Some e) es h.1)
    where
      around : (k : Bool) → VersionsRise cmp (keep (Some e) es) → VersionsRise cmp ((if k then e ∷ [] else []) ++ keep (Some e) es)
      around true rest = (kept_all (λ (f : Entry). key_version_cmp cmp e.key f.key ≡ Less) (Some e) es h.0, rest)
      around false rest = rest

  -- ---- the stops

  abbrev g : Entry → ℕ
  g e = grandparents_below cmp gs e.key

  -- the stops after the first entry of a segment, with n kept entries before it
  abbrev stops_in : ℕ → List Entry → List ℕ
  stops_in n [] = []
  stops_in n (f ∷ fs) = stops_after gs size (g f) (heads_after cmp b (Some f) (if is_kept None f then n + 1 else n) fs)

  -- with that at this entry
  abbrev stops_at : ℕ → List Entry → List ℕ
  stops_at n [] = []
  stops_at n (f ∷ fs) = n ∷ stops_in n (f ∷ fs)

  no_stop : (first before e : Entry) (n : ℕ) (es : List Entry) → (BeginsSegment cmp gs size first before e → ⊥)
      → stops_after gs size (g first) (heads_after cmp b (Some before) n (e ∷ es)) ≡ stops_after gs size (g first) (heads_after cmp b (Some e) (if is_kept (Some before) e then n + 1 else n) es)
  no_stop first before e n es h = by (is_same_user before e) (is_past cmp gs size first e) refl refl
    where
      by : (s p : Bool) → is_same_user before e ≡ s → is_past cmp gs size first e ≡ p
          → stops_after gs size (g first) (heads_after cmp b (Some before) n (e ∷ es)) ≡ stops_after gs size (g first) (heads_after cmp b (Some e) (if is_kept (Some before) e then n + 1 else n) es)
      by true p s k = rw s refl
      by false true s k = absurd (h (record { other = other_user cmp gs size before e s; passed = ltb-true (10 * size) (size_between gs (g first) (g e)) k }))
      by false false s k = rw (s, k) refl

  a_stop : (first before e : Entry) (n : ℕ) (es : List Entry) → BeginsSegment cmp gs size first before e
      → stops_after gs size (g first) (heads_after cmp b (Some before) n (e ∷ es)) ≡ n ∷ stops_in n (e ∷ es)
  a_stop first before e n es h =
      let s : is_same_user before e ≡ false = differs cmp gs size before e h.other in
      let k : is_past cmp gs size first e ≡ true = lt-ltb (10 * size) (size_between gs (g first) (g e)) h.passed in
      rw (s, k) (ap (λ (keep_it : Bool). n ∷ stops_after gs size (g e) (heads_after cmp b (Some e) (if keep_it then n + 1 else n) es)) refl)

  stops_reach : (first before : Entry) (n : ℕ) (es rest : List Entry) → ReachesNext cmp gs size first before es rest
      → stops_after gs size (g first) (heads_after cmp b (Some before) n (es ++ rest)) ≡ stops_at (n + length (keep (Some before) es)) rest
  stops_reach first before n [] [] h = refl
  stops_reach first before n [] (f ∷ fs) h = a_stop first before f n fs h ∙ ap (λ (k : ℕ). stops_at k (f ∷ fs)) (omega arith)
  stops_reach first before n (e ∷ es) rest h =
      let own : List Entry = if is_kept (Some before) e then e ∷ [] else [] in
      let m : ℕ = if is_kept (Some before) e then n + 1 else n in
      let more : m ≡ n + length own = one_of e (is_kept (Some before) e) n in
      let whole : length (own ++ keep (Some e) es) ≡ length own + length (keep (Some e) es) = length-append own (keep (Some e) es) in
      let count : m + length (keep (Some e) es) ≡ n + length (own ++ keep (Some e) es) = omega (arith, more, whole) in
      no_stop first before e n (es ++ rest) h.0 ∙ stops_reach first e m es rest h.1 ∙ ap (λ (k : ℕ). stops_at k rest) count

  -- ---- the kept entries, cut at the stops

  reached : (n : ℕ) (first : Entry) (es rest : List Entry) → ReachesNext cmp gs size first first es rest
      → segments n (stops_in n ((first ∷ es) ++ rest)) (keep None ((first ∷ es) ++ rest)) ≡ segments n (stops_at (n + length (keep None (first ∷ es))) rest) (keep None (first ∷ es) ++ keep None rest)
  reached n first es rest h =
      let own : List Entry = if is_kept None first then first ∷ [] else [] in
      let m : ℕ = if is_kept None first then n + 1 else n in
      let more : m ≡ n + length own = one_of first (is_kept None first) n in
      let whole : length (own ++ keep (Some first) es) ≡ length own + length (keep (Some first) es) = length-append own (keep (Some first) es) in
      let count : m + length (keep (Some first) es) ≡ n + length (own ++ keep (Some first) es) = omega (arith, more, whole) in
      ap (λ (places : List ℕ). segments n places (keep None ((first ∷ es) ++ rest)))
      (stops_reach first first m es rest h ∙ ap (λ (k : ℕ). stops_at k rest) count)
      ∙ ap (λ (xs : List Entry). segments n (stops_at (n + length (keep None (first ∷ es))) rest) xs) (kept_whole first es rest h)

  cut_each : (n : ℕ) (first : Entry) (es : List Entry) (ss : List (List Entry)) → EachReachesNext cmp gs size ((first ∷ es) ∷ ss)
      → segments n (stops_in n (entries_of_lists ((first ∷ es) ∷ ss))) (keep None (entries_of_lists ((first ∷ es) ∷ ss))) ≡ map (λ s. keep None s) ((first ∷ es) ∷ ss)
  cut_each n first es [] h = reached n first es [] h.0 ∙ ap (λ (xs : List Entry). xs ∷ []) (append-nil (keep None (first ∷ es)))
  cut_each n first es ([] ∷ ss) h = absurd h.1
  cut_each n first es ((f ∷ fs) ∷ ss) h =
      let len : ℕ = n + length (keep None (first ∷ es)) in
      reached n first es (entries_of_lists ((f ∷ fs) ∷ ss)) h.0
      ∙ cut_first n (keep None (first ∷ es)) (keep None (entries_of_lists ((f ∷ fs) ∷ ss))) (stops_in len (entries_of_lists ((f ∷ fs) ∷ ss)))
      ∙ ap (λ (rest : List (List Entry)). keep None (first ∷ es) ∷ rest) (cut_each len f fs ss h.1)

  outputs_each : (o : Options) (ss : List (List Entry)) → o.file_size ≡ size → EachReachesNext cmp gs size ss → outputs cmp b o (entries_of_lists ss) ≡ flat_map (λ s. outputs_in o (keep None s)) ss
  outputs_each o [] e h = refl
  outputs_each o ([] ∷ ss) e h = absurd h
  outputs_each o ((first ∷ es) ∷ ss) e h =
      let all : List Entry = entries_of_lists ((first ∷ es) ∷ ss) in
      ap (λ (n : ℕ). flat_map (outputs_in o) (segments 0 (stops gs n (heads cmp b all)) (keep None all))) e
      ∙ ap (flat_map (outputs_in o)) (cut_each 0 first es ss h)
      ∙ flat_mapped (outputs_in o) (λ s. keep None s) ((first ∷ es) ∷ ss)

  each_output : IsTotalOrder cmp → IsExact cmp → (o : Options) (ss : List (List Entry)) → VersionsRise cmp (entries_of_lists ss)
      → AllByRecursion (λ s. AreOutputs o (keep None s) (outputs_in o (keep None s))) ss
  each_output total exact o [] rises = tt
  each_output total exact o (s ∷ ss) rises = (
    (outputs_law cmp total exact o (keep None s) (outputs_in o (keep None s)) (kept_rises None s (rises_front cmp s (entries_of_lists ss) rises))).1 refl,
    each_output total exact o ss (rises_behind cmp s (entries_of_lists ss) rises),
  )

-- ---- there is one such list

module _ (cmp : List ℕ → List ℕ → Ordering) (gs : List FileMeta) (size : ℕ) where
  -- two ways on in a segment are one
  record Same (xs ys us vs : List Entry) : Type 0 where
    fronts : xs ≡ ys
    rests : us ≡ vs

  same_front : (first before : Entry) (xs ys us vs : List Entry) → xs ++ us ≡ ys ++ vs → ReachesNext cmp gs size first before xs us → ReachesNext cmp gs size first before ys vs → Same xs ys us vs
  same_front first before [] [] us vs e h k = record { fronts = refl; rests = e }
  same_front first before [] (y ∷ ys) [] vs e h k = absurd (cc)
  same_front first before [] (y ∷ ys) (u ∷ us) vs e h k = absurd (k.0 (subst (λ (x : Entry). BeginsSegment cmp gs size first before x) (first_same u y us (ys ++ vs) e) h))
  same_front first before (x ∷ xs) [] us [] e h k = absurd (cc)
  same_front first before (x ∷ xs) [] us (v ∷ vs) e h k = absurd (h.0 (subst (λ (y : Entry). BeginsSegment cmp gs size first before y) (sym (first_same x v (xs ++ us) vs e)) k))
  same_front first before (x ∷ xs) (y ∷ ys) us vs e h k =
      let head : x ≡ y = first_same x y (xs ++ us) (ys ++ vs) e in
      let more = same_front first x xs ys us vs (later_same x y (xs ++ us) (ys ++ vs) e) h.1 (subst (λ (z : Entry). ReachesNext cmp gs size first z ys vs) (sym head) k.1) in
      record { fronts = ap (λ (z : Entry). z ∷ xs) head ∙ ap (λ (zs : List Entry). y ∷ zs) more.fronts; rests = more.rests }

  only : (ss ts : List (List Entry)) → entries_of_lists ss ≡ entries_of_lists ts → EachReachesNext cmp gs size ss → EachReachesNext cmp gs size ts → ss ≡ ts
  only [] [] e h k = refl
  only [] ([] ∷ ts) e h k = absurd k
  only [] ((y ∷ ys) ∷ ts) e h k = absurd (cc)
  only ([] ∷ ss) ts e h k = absurd h
  only ((x ∷ xs) ∷ ss) [] e h k = absurd (cc)
  only ((x ∷ xs) ∷ ss) ([] ∷ ts) e h k = absurd k
  only ((x ∷ xs) ∷ ss) ((y ∷ ys) ∷ ts) e h k =
      let head : x ≡ y = first_same x y (xs ++ entries_of_lists ss) (ys ++ entries_of_lists ts) e in
      let more = same_front x x xs ys (entries_of_lists ss) (entries_of_lists ts) (later_same x y (xs ++ entries_of_lists ss) (ys ++ entries_of_lists ts) e) h.0 (subst (λ (z : Entry). ReachesNext cmp gs size z z ys (entries_of_lists ts)) (sym head) k.0) in
      ap (λ (z : Entry). (z ∷ xs) ∷ ss) head ∙ ap (λ (zs : List Entry). (y ∷ zs) ∷ ss) more.fronts ∙ ap (λ (rest : List (List Entry)). (y ∷ ys) ∷ rest) (only ss ts more.rests h.1 k.1)

pub segments_law : (cmp : List ℕ → List ℕ → Ordering) → IsTotalOrder cmp → IsExact cmp → SegmentsLaw cmp
segments_law cmp total exact = record {
  found = λ gs size union. found cmp gs size union;
  only = λ gs size union ss ts is are. only cmp gs size ss ts (is.all ∙ sym are.all) is.each are.each;
  all_kept = λ b size union ss is. sym (ap (λ (es : List Entry). kept cmp b.readable b.deeper es) is.all) ∙ kept_each cmp b size ss is.each;
  all_outputs = λ b o union ss is. sym (ap (λ (es : List Entry). outputs cmp b o es) is.all) ∙ outputs_each cmp b o.file_size o ss refl is.each;
  each_output = λ b o union ss rises is. each_output cmp b o.file_size total exact o ss (subst (VersionsRise cmp) (sym is.all) rises);
}
