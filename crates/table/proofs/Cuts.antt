-- The data blocks of a list are those that its definition in parts asks for, and no others.
use Rattle.std.proofs.Common.{◌≡◌, ◌≢◌, ℕ, zero, suc, ◌<◌, Bool, true, false, List, [], ◌∷◌, ◌++◌, length, take, drop, refl, sym, ap, subst, ◌∙◌, inl, inr, append_assoc, arith}
use Rattle.std.proofs.lemmas.List.{take_at, drop_at, take-append-le, length-append, length_push, nil_from_length}
use Rattle.std.proofs.lemmas.Bool.{cases_lt}
use Rattle.block.specs.EncodedEntry.{Entry}
use Rattle.table.specs.declared.options.Options.{Options}
use Rattle.table.specs.DataBlocks.{is_full, open_block, blocks_after, data_blocks, IsDataBlock, AreDataBlocks, DataBlocksLaw}

-- no shorter beginning is full
abbrev IsShortest : Options → List Entry → Type 0
IsShortest o p = (n : ℕ) → n < length p → is_full o (take n p) ≡ false

-- ---- they are such parts

shortest_one : (o : Options) (e : Entry) → IsShortest o (e ∷ [])
shortest_one o e zero lt = refl
shortest_one o e (suc n) lt = absurd (omega arith)

shortest_push : (o : Options) (p : List Entry) (e : Entry) → IsShortest o p → is_full o p ≡ false → IsShortest o (p ++ e ∷ [])
shortest_push o p e h part n lt =
    elim (cases_lt n (length p)) [
      | inl inside ↦ ap (is_full o) (take-append-le n p (e ∷ []) (omega arith)) ∙ h n inside
      | inr past ↦
          let at : length p ≡ n = omega (arith, length_push p e) in
          ap (is_full o) (take_at p (e ∷ []) n at) ∙ part
    ]

full_is_some : (o : Options) (p : List Entry) → is_full o p ≡ true → p ≢ []
full_is_some o [] full = absurd (cc)
full_is_some o (e ∷ es) full = λ no. absurd (cc)

ends_open : (o : Options) (p : List Entry) → IsShortest o p → AreDataBlocks o (p ++ []) (open_block p)
ends_open o [] h = refl
ends_open o (e ∷ es) h = ([], refl, record { some = λ no. absurd (cc); shortest = h; full = inr refl }, refl)

behind_by : (o : Options) (p : List Entry) (e : Entry) (es : List Entry) (full : Bool) → is_full o p ≡ full → IsShortest o p → AreDataBlocks o (e ∷ es) (blocks_after o (e ∷ []) es)
    → (is_full o p ≡ false → AreDataBlocks o ((p ++ e ∷ []) ++ es) (blocks_after o (p ++ e ∷ []) es)) → AreDataBlocks o (p ++ e ∷ es) (blocks_after o p (e ∷ es))
behind_by o p e es true full h flushed grown =
    rw full (e ∷ es, refl, record { some = full_is_some o p full; shortest = h; full = inl full }, flushed)
behind_by o p e es false part h flushed grown =
    rw part (subst (λ (q : List Entry). AreDataBlocks o q (blocks_after o (p ++ e ∷ []) es)) (append_assoc p (e ∷ []) es) (grown part))

are_behind : (o : Options) (p rest : List Entry) → IsShortest o p → AreDataBlocks o (p ++ rest) (blocks_after o p rest)
are_behind o p [] h = ends_open o p h
are_behind o p (e ∷ es) h =
    behind_by o p e es (is_full o p) refl h (are_behind o (e ∷ []) es (shortest_one o e)) (λ part. are_behind o (p ++ e ∷ []) es (shortest_push o p e h part))

-- ---- and no other parts are

front_of : (q p rest : List Entry) → q ≡ p ++ rest → take (length p) q ≡ p
front_of q p rest e = ap (take (length p)) e ∙ take_at p rest (length p) refl

behind_of : (q p rest : List Entry) → q ≡ p ++ rest → drop (length p) q ≡ rest
behind_of q p rest e = ap (drop (length p)) e ∙ drop_at p rest (length p) refl

-- the rest of a list whose first part is no shorter than itself
not_shorter : (o : Options) (q p rest r srest : List Entry) → q ≡ p ++ rest → q ≡ r ++ srest → IsDataBlock o p rest → IsDataBlock o r srest → length p < length r → ⊥
not_shorter o q p rest r srest pe re hp hr lt =
    let front : take (length p) r ≡ p = sym (take-append-le (length p) r srest (omega arith)) ∙ ap (take (length p)) (sym re) ∙ front_of q p rest pe in
    let part : is_full o p ≡ false = ap (is_full o) (sym front) ∙ hr.shortest (length p) lt in
    elim hp.full [
      | inl full ↦ absurd (let no : true ≡ false = sym full ∙ part in cc)
      | inr none ↦ omega (arith, ap length pe, ap length re, length-append p rest, length-append r srest, ap length none)
    ]

same_len : (o : Options) (q p rest r srest : List Entry) → q ≡ p ++ rest → q ≡ r ++ srest → IsDataBlock o p rest → IsDataBlock o r srest → length p ≡ length r
same_len o q p rest r srest pe re hp hr =
    elim (cases_lt (length p) (length r)) [
      | inl lt ↦ absurd (not_shorter o q p rest r srest pe re hp hr lt)
      | inr le ↦ elim (cases_lt (length r) (length p)) [
        | inl lt ↦ absurd (not_shorter o q r srest p rest re pe hr hp lt)
        | inr ge ↦ omega arith
      ]
    ]

not_none : (q p rest : List Entry) → q ≡ [] → q ≡ p ++ rest → p ≡ []
not_none q p rest none e =
    nil_from_length p (omega (arith, ap length none, ap length e, length-append p rest))

one_cut : (o : Options) (q : List Entry) (ps rs : List (List Entry)) → AreDataBlocks o q ps → AreDataBlocks o q rs → ps ≡ rs
one_cut o q [] [] h k = refl
one_cut o q [] (r ∷ rs) h k = absurd (k.2.some (not_none q r k.0 h k.1))
one_cut o q (p ∷ ps) [] h k = absurd (h.2.some (not_none q p h.0 k h.1))
one_cut o q (p ∷ ps) (r ∷ rs) h k =
    let len = same_len o q p h.0 r k.0 h.1 k.1 h.2 k.2 in
    let first : p ≡ r = sym (front_of q p h.0 h.1) ∙ ap (λ (n : ℕ). take n q) len ∙ front_of q r k.0 k.1 in
    let rest : h.0 ≡ k.0 = sym (behind_of q p h.0 h.1) ∙ ap (λ (n : ℕ). drop n q) len ∙ behind_of q r k.0 k.1 in
    let others : ps ≡ rs = one_cut o k.0 ps rs (subst (λ (x : List Entry). AreDataBlocks o x ps) rest h.3) k.3 in
    ap (λ (x : List Entry). x ∷ ps) first ∙ ap (λ (x : List (List Entry)). r ∷ x) others

pub are_data_blocks : (o : Options) (q : List Entry) → AreDataBlocks o q (data_blocks o q)
unfolding data_blocks
are_data_blocks o q = are_behind o [] q (λ n lt. absurd (omega arith))

pub data_blocks_law : DataBlocksLaw
data_blocks_law o q parts = (
  λ h. one_cut o q (data_blocks o q) parts (are_data_blocks o q) h,
  λ e. subst (AreDataBlocks o q) e (are_data_blocks o q),
)
