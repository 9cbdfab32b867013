-- The outputs of a segment are those that its definition in parts asks for, and no others.
use Rattle.std.proofs.Common.{◌≡◌, ◌≢◌, ℕ, ◌<◌, Bool, true, false, List, [], ◌∷◌, ◌++◌, length, take, drop, refl, sym, ap, subst, ◌∙◌, inl, inr, append_assoc, arith}
use Rattle.std.specs.Prelude.{nat_le, not}
use Rattle.std.specs.Cmp.{IsTotalOrder}
use Rattle.std.specs.Ordering.{is_le, ordering_then, ordering_reverse, nat_cmp}
use Rattle.std.specs.Str.{bytes_eq}
use Rattle.std.specs.declared.cmp.Ordering.{Ordering}
use Rattle.std.specs.declared.cmp.Ordering.TheVariants.{Less, Equal, Greater}
use Rattle.std.proofs.lemmas.List.{take_at, drop_at, take-append-le, drop-append-le, length-append, length_push, nil_from_length}
use Rattle.std.proofs.lemmas.Bool.{cases_lt, and_parts, and_from, leb-true, le-leb, not-true, both_ways, false≢true}
use Rattle.std.proofs.lemmas.Slice.Eq.{bytes_eq-Decides}
use Rattle.ikey.specs.Key.{user_of, sequence_of}
use Rattle.ikey.specs.Comparator.{IsExact}
use Rattle.block.specs.EncodedEntry.{Entry}
use Rattle.block.specs.BuilderView.{last_key}
use Rattle.table.specs.declared.options.Options.{Options}
use Rattle.table.specs.DataBlocks.{open_block, flushed}
use Rattle.keep.specs.Union.{key_version_cmp, VersionsRise}
use Rattle.cut.specs.Outputs.{ends_before, outputs_after, outputs_in, MayEnd, IsOutput, AreOutputs, OutputsLaw}
use Rattle.cut.proofs.Elements.{each}

unless : (s t : Bool) → (s ≡ true → t ≡ true) → t ≡ false → s ≡ false
unless true t f h = absurd (both_ways t h (f refl))
unless false t f h = refl

some_len : (q : List Entry) → q ≢ [] → 0 < length q
some_len [] h = absurd (h refl)
some_len (e ∷ es) h = omega arith

some_of : (q : List Entry) → 0 < length q → q ≢ []
some_of [] h = absurd (omega arith)
some_of (e ∷ es) h = λ no. absurd (cc)

module _ (cmp : List ℕ → List ℕ → Ordering) (total : IsTotalOrder cmp) (exact : IsExact cmp) (o : Options) where
  first_by : (a b : Ordering) → ordering_then a b ≡ Less → is_le a ≡ true
  first_by Less b h = refl
  first_by Equal b h = refl
  first_by Greater b h = absurd (cc)

  equal_by : (x y : List ℕ) (back : Ordering) → cmp y x ≡ back → is_le back ≡ true → is_le (cmp x y) ≡ true → cmp x y ≡ Equal
  equal_by x y Less e h k = absurd (both_ways (is_le (cmp x y)) (ap is_le (total.antisymm x y ∙ ap ordering_reverse e)) k)
  equal_by x y Equal e h k = total.antisymm x y ∙ ap ordering_reverse e
  equal_by x y Greater e h k = absurd (false≢true h)

  users_up : (a b : List ℕ) → key_version_cmp cmp a b ≡ Less → is_le (cmp (user_of a) (user_of b)) ≡ true
  users_up a b h = first_by (cmp (user_of a) (user_of b)) (nat_cmp (sequence_of b) (sequence_of a)) h

  -- the last of some entries is before the next one
  last_before : (a : Entry) (bs : List Entry) (e : Entry) (es : List Entry) → VersionsRise cmp ((a ∷ bs) ++ e ∷ es) → key_version_cmp cmp (last_key a.key bs) e.key ≡ Less
  last_before a [] e es h = h.0.0
  last_before a (b ∷ cs) e es h = last_before b cs e es h.1

  rises_behind : (xs ys : List Entry) → VersionsRise cmp (xs ++ ys) → VersionsRise cmp ys
  rises_behind [] ys h = h
  rises_behind (x ∷ xs) ys h = rises_behind xs ys h.1

  -- if the next entry is of another user key, all later ones are
  later_differ : (last e f : List ℕ) → key_version_cmp cmp last e ≡ Less → key_version_cmp cmp e f ≡ Less → user_of last ≢ user_of e → user_of f ≢ user_of last
  later_differ last e f le ef ne same =
      let up : is_le (cmp (user_of last) (user_of e)) ≡ true = users_up last e le in
      let back : is_le (cmp (user_of e) (user_of last)) ≡ true = subst (λ (u : List ℕ). is_le (cmp (user_of e) u) ≡ true) same (users_up e f ef) in
      ne (exact (user_of last) (user_of e) (equal_by (user_of last) (user_of e) (cmp (user_of e) (user_of last)) refl back up))

  may_end : (q : List Entry) (e : Entry) (es : List Entry) → VersionsRise cmp (q ++ e ∷ es) → ends_before o q e ≡ true → MayEnd o q (e ∷ es)
  may_end [] e es rises h = absurd (false≢true h)
  may_end (a ∷ bs) e es rises h =
      let last = last_key a.key bs in
      let both = and_parts (nat_le o.file_size (flushed o (a ∷ bs))) (not (bytes_eq (user_of last) (user_of e.key))) h in
      let ne : user_of last ≢ user_of e.key =
      λ same. both_ways (bytes_eq (user_of last) (user_of e.key)) (not-true (bytes_eq (user_of last) (user_of e.key)) both.1) ((bytes_eq-Decides (user_of last) (user_of e.key)).1 same) in
      let behind = rises_behind (a ∷ bs) (e ∷ es) rises in
      record {
        reached = leb-true o.file_size (flushed o (a ∷ bs)) both.0;
        whole = (λ same. ne (sym same), each (λ f. key_version_cmp cmp e.key f.key ≡ Less) (λ f. user_of f.key ≢ user_of last) es (λ f ef. later_differ last e.key f.key (last_before a bs e es rises) ef ne) behind.0);
      }

  ends_only : (q : List Entry) (e : Entry) (es : List Entry) → q ≢ [] → MayEnd o q (e ∷ es) → ends_before o q e ≡ true
  ends_only [] e es some h = absurd (some refl)
  ends_only (a ∷ bs) e es some h =
      let last = last_key a.key bs in
      and_from (nat_le o.file_size (flushed o (a ∷ bs))) (not (bytes_eq (user_of last) (user_of e.key))) (le-leb o.file_size (flushed o (a ∷ bs)) h.reached)
      (ap not (differ (bytes_eq (user_of last) (user_of e.key)) (λ same. h.whole.0 (sym ((bytes_eq-Decides (user_of last) (user_of e.key)).0 same)))))
    where
      differ : (b : Bool) → (b ≡ true → ⊥) → b ≡ false
      differ true f = absurd (f refl)
      differ false f = refl

  -- no shorter beginning may end
  abbrev IsShortest : List Entry → List Entry → Type 0
  IsShortest q rest = (n : ℕ) → 0 < n → n < length q → MayEnd o (take n q) (drop n q ++ rest) → ⊥

  shortest_one : (e : Entry) (rest : List Entry) → IsShortest (e ∷ []) rest
  shortest_one e rest n pos lt h = omega arith

  shortest_push : (q : List Entry) (e : Entry) (es : List Entry) → IsShortest q (e ∷ es) → ends_before o q e ≡ false → IsShortest (q ++ e ∷ []) es
  shortest_push q e es h part n pos lt may =
      elim (cases_lt n (length q)) [
        | inl inside ↦
            let front : take n (q ++ e ∷ []) ≡ take n q = take-append-le n q (e ∷ []) (omega arith) in
            let behind : drop n (q ++ e ∷ []) ++ es ≡ drop n q ++ e ∷ es = ap (λ xs. xs ++ es) (drop-append-le n q (e ∷ []) (omega arith)) ∙ append_assoc (drop n q) (e ∷ []) es in
            h n pos inside (subst (λ (xs : List Entry). MayEnd o (take n q) xs) behind (subst (λ (xs : List Entry). MayEnd o xs (drop n (q ++ e ∷ []) ++ es)) front may))
        | inr past ↦
            let at : length q ≡ n = omega (arith, length_push q e) in
            let front : take n (q ++ e ∷ []) ≡ q = take_at q (e ∷ []) n at in
            let behind : drop n (q ++ e ∷ []) ++ es ≡ e ∷ es = ap (λ xs. xs ++ es) (drop_at q (e ∷ []) n at) in
            let ended : MayEnd o q (e ∷ es) = subst (λ (xs : List Entry). MayEnd o q xs) behind (subst (λ (xs : List Entry). MayEnd o xs (drop n (q ++ e ∷ []) ++ es)) front may) in
            both_ways (ends_before o q e) part (ends_only q e es (some_of q (omega arith)) ended)
      ]

  ends_open : (q : List Entry) → IsShortest q [] → AreOutputs o (q ++ []) (open_block q)
  ends_open [] h = refl
  ends_open (e ∷ es) h = ([], refl, record { some = λ no. absurd (cc); shortest = h; ended = inr refl }, refl)

  ended_is_some : (q : List Entry) (e : Entry) → ends_before o q e ≡ true → q ≢ []
  ended_is_some [] e h = absurd (false≢true h)
  ended_is_some (a ∷ bs) e h = λ no. absurd (cc)

  behind_by : (q : List Entry) (e : Entry) (es : List Entry) (ends : Bool) → ends_before o q e ≡ ends → VersionsRise cmp (q ++ e ∷ es) → IsShortest q (e ∷ es) → AreOutputs o (e ∷ es) (outputs_after o (e ∷ []) es)
      → (ends_before o q e ≡ false → AreOutputs o ((q ++ e ∷ []) ++ es) (outputs_after o (q ++ e ∷ []) es)) → AreOutputs o (q ++ e ∷ es) (outputs_after o q (e ∷ es))
  behind_by q e es true ends rises h ended grown =
      rw ends (e ∷ es, refl, record { some = ended_is_some q e ends; shortest = h; ended = inl (may_end q e es rises ends) }, ended)
  behind_by q e es false part rises h ended grown =
      rw part (subst (λ (xs : List Entry). AreOutputs o xs (outputs_after o (q ++ e ∷ []) es)) (append_assoc q (e ∷ []) es) (grown part))

  are_behind : (q rest : List Entry) → VersionsRise cmp (q ++ rest) → IsShortest q rest → AreOutputs o (q ++ rest) (outputs_after o q rest)
  are_behind q [] rises h = ends_open q h
  are_behind q (e ∷ es) rises h =
      behind_by q e es (ends_before o q e) refl rises h (are_behind (e ∷ []) es (rises_behind q (e ∷ es) rises) (shortest_one e es))
      (λ part. are_behind (q ++ e ∷ []) es (subst (VersionsRise cmp) (sym (append_assoc q (e ∷ []) es)) rises) (shortest_push q e es h part))

  -- ---- and no other parts are

  front_of : (s p rest : List Entry) → s ≡ p ++ rest → take (length p) s ≡ p
  front_of s p rest e = ap (take (length p)) e ∙ take_at p rest (length p) refl

  behind_of : (s p rest : List Entry) → s ≡ p ++ rest → drop (length p) s ≡ rest
  behind_of s p rest e = ap (drop (length p)) e ∙ drop_at p rest (length p) refl

  not_shorter : (s p rest r srest : List Entry) → s ≡ p ++ rest → s ≡ r ++ srest → IsOutput o p rest → IsOutput o r srest → length p < length r → ⊥
  not_shorter s p rest r srest pe re hp hr lt =
      let front : take (length p) r ≡ p = sym (take-append-le (length p) r srest (omega arith)) ∙ ap (take (length p)) (sym re) ∙ front_of s p rest pe in
      let behind : drop (length p) r ++ srest ≡ rest = sym (drop-append-le (length p) r srest (omega arith)) ∙ ap (drop (length p)) (sym re) ∙ behind_of s p rest pe in
      elim hp.ended [
        | inl may ↦ hr.shortest (length p) (some_len p hp.some) lt
            (subst (λ (xs : List Entry). MayEnd o xs (drop (length p) r ++ srest)) (sym front) (subst (λ (xs : List Entry). MayEnd o p xs) (sym behind) may))
        | inr none ↦ omega (arith, ap length pe, ap length re, length-append p rest, length-append r srest, ap length none)
      ]

  same_len : (s p rest r srest : List Entry) → s ≡ p ++ rest → s ≡ r ++ srest → IsOutput o p rest → IsOutput o r srest → length p ≡ length r
  same_len s p rest r srest pe re hp hr =
      elim (cases_lt (length p) (length r)) [
        | inl lt ↦ absurd (not_shorter s p rest r srest pe re hp hr lt)
        | inr le ↦ elim (cases_lt (length r) (length p)) [
          | inl lt ↦ absurd (not_shorter s r srest p rest re pe hr hp lt)
          | inr ge ↦ omega arith
        ]
      ]

  not_none : (s p rest : List Entry) → s ≡ [] → s ≡ p ++ rest → p ≡ []
  not_none s p rest none e = nil_from_length p (omega (arith, ap length none, ap length e, length-append p rest))

  one_cut : (s : List Entry) (ps rs : List (List Entry)) → AreOutputs o s ps → AreOutputs o s rs → ps ≡ rs
  one_cut s [] [] h k = refl
  one_cut s [] (r ∷ rs) h k = absurd (k.2.some (not_none s r k.0 h k.1))
  one_cut s (p ∷ ps) [] h k = absurd (h.2.some (not_none s p h.0 k h.1))
  one_cut s (p ∷ ps) (r ∷ rs) h k =
      let len = same_len s p h.0 r k.0 h.1 k.1 h.2 k.2 in
      let first : p ≡ r = sym (front_of s p h.0 h.1) ∙ ap (λ (n : ℕ). take n s) len ∙ front_of s r k.0 k.1 in
      let rest : h.0 ≡ k.0 = sym (behind_of s p h.0 h.1) ∙ ap (λ (n : ℕ). drop n s) len ∙ behind_of s r k.0 k.1 in
      let others : ps ≡ rs = one_cut k.0 ps rs (subst (λ (x : List Entry). AreOutputs o x ps) rest h.3) k.3 in
      ap (λ (x : List Entry). x ∷ ps) first ∙ ap (λ (x : List (List Entry)). r ∷ x) others

pub outputs_law : (cmp : List ℕ → List ℕ → Ordering) → IsTotalOrder cmp → IsExact cmp → OutputsLaw cmp
outputs_law cmp total exact o segment qs rises =
    let these : AreOutputs o segment (outputs_in o segment) = are_behind cmp total exact o [] segment rises (λ n pos lt h. omega arith) in
    (λ h. one_cut cmp total exact o segment (outputs_in o segment) qs these h, λ e. subst (AreOutputs o segment) e these)
