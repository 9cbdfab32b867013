-- Files in order, those with newer entries first.
use Rattle.std.proofs.Common.{◌≡◌, ℕ, zero, suc, ◌+◌, ◌-◌, ◌<◌, Bool, true, false, cond, List, [], ◌∷◌, length, map, get_or, Option, Some, refl, sym, ap, subst, ◌∙◌, inl, inr, arith}
use Rattle.std.specs.Prelude.{◌⊎◌, Contains, slice_get, nat_eq}
use Rattle.std.specs.Option.{option_map}
use Rattle.std.specs.Cmp.{IsTotalOrder, nat_cmp_is}
use Rattle.std.specs.Ordering.{nat_cmp, ordering_then, is_le, is_lt}
use Rattle.std.specs.declared.cmp.Ordering.{Ordering}
use Rattle.std.specs.declared.cmp.Ordering.TheVariants.{Less, Equal, Greater}
use Rattle.std.proofs.lemmas.Bool.Decides.{Decides-eqb}
use Rattle.std.proofs.lemmas.Cmp.{nat_cmp_total, on_total, back_total, then_total, tied_itself}
use Rattle.std.proofs.lemmas.List.Elements.{Contains-get_or}
use Rattle.ikey.specs.Order.{internal_cmp}
use Rattle.ikey.proofs.Ordered.{internal_cmp-total}
use Rattle.table.specs.EncodedEntry.{Entry}
use Rattle.table.specs.EntriesFrom.{EntriesRise}
use Rattle.edit.specs.declared.meta.NewFile.{NewFile}
use Rattle.reads.specs.declared.level_file.LevelFile.{LevelFile}
use Rattle.reads.specs.Tables.{NumberedContents}
use Rattle.reads.specs.FileChecks.{IsStatedFile, stands_before, rank_of, newest_first_cmp, AreInTurn}
use Rattle.reads.specs.FileList.{level_file_in}
use Rattle.reads.proofs.Members.{first_or_later, first_in, later_in, none_in}
use Rattle.reads.proofs.Answers.{first_or_above, last_place}
use Rattle.reads.proofs.OrderedFiles.{Before, before_decides, at_top, at_depth, top_at, depth_at}
use Rattle.reads.proofs.Pairs.{Pairs}

pub newest_first_cmp-total : {cmp : List ℕ → List ℕ → Ordering} → IsTotalOrder cmp → IsTotalOrder (newest_first_cmp cmp)
newest_first_cmp-total total =
    then_total (on_total (λ (f : NewFile). f.level) nat_cmp_total)
    (then_total (back_total (on_total rank_of nat_cmp_total)) (on_total (λ (f : NewFile). f.meta.smallest) (internal_cmp-total total)))

zero_or_deep : (n : ℕ) → (n ≡ 0) ⊎ (0 < n)
zero_or_deep zero = inl refl
zero_or_deep (suc n) = inr (omega arith)

then_is : (a b : Ordering) → a ≡ Equal → ordering_then a b ≡ b
then_is a b e = ap (λ (o : Ordering). ordering_then o b) e

equal_numbers : (m n : ℕ) → m ≡ n → nat_cmp m n ≡ Equal
equal_numbers m n e = sym (nat_cmp_is m n Equal e)

less_numbers : (m n : ℕ) → m < n → nat_cmp m n ≡ Less
less_numbers m n lt = sym (nat_cmp_is m n Less lt)

top_rank : (f : NewFile) → f.level ≡ 0 → rank_of f ≡ f.meta.number
top_rank f top = ap (λ (b : Bool). cond b f.meta.number 0) ((Decides-eqb f.level 0).1 top)

deep_rank : (f : NewFile) → 0 < f.level → rank_of f ≡ 0
deep_rank f deep = by_test (nat_eq f.level 0) refl
  where
    by_test : (b : Bool) → nat_eq f.level 0 ≡ b → rank_of f ≡ 0
    by_test true e = let zero : f.level ≡ 0 = (Decides-eqb f.level 0).0 e in absurd (omega arith)
    by_test false e = ap (λ (b : Bool). cond b f.meta.number 0) e

module _ (cmp : List ℕ → List ℕ → Ordering) (total : IsTotalOrder cmp) where
  -- the first key of a file isn't above its last one
  abbrev pub IsRange : NewFile → Type 0
  IsRange f = is_le (internal_cmp cmp f.meta.smallest f.meta.largest) ≡ true

  below_last : (es : List Entry) (s l : List ℕ) → EntriesRise cmp es → option_map (λ e. e.key) (slice_get es 0) ≡ Some s → option_map (λ e. e.key) (slice_get es (length es - 1)) ≡ Some l → is_le (internal_cmp cmp s l) ≡ true
  below_last [] s l rising first last = absurd cc
  below_last (d ∷ es) s l rising first last =
      let e = get_or (d ∷ es) (length (d ∷ es) - 1) d in
      let is : e.key ≡ l = last_place cmp total (d ∷ es) l d (omega arith) last in
      let own : is_le (internal_cmp cmp s e.key) ≡ true = elim (first_or_above cmp total (d ∷ es) s e rising first (Contains-get_or (d ∷ es) (length (d ∷ es) - 1) d (omega arith))) [
        | inl same ↦ ap (λ (k : List ℕ). is_le (internal_cmp cmp s k)) same ∙ ap is_le (tied_itself (internal_cmp-total total) s)
        | inr less ↦ ap is_le less
      ] in
      subst (λ (k : List ℕ). is_le (internal_cmp cmp s k) ≡ true) is own

  pub is_range : (tables : List NumberedContents) (next : Option ℕ) (f : NewFile) → IsStatedFile cmp tables next f.meta → IsRange f
  is_range tables next f stated = below_last stated.table.entries f.meta.smallest f.meta.largest stated.rising stated.smallest stated.largest

  -- from a <= b and b < c, a < c
  le_less : (a b c : List ℕ) → is_le (internal_cmp cmp a b) ≡ true → internal_cmp cmp b c ≡ Less → internal_cmp cmp a c ≡ Less
  le_less a b c le less = by_order (internal_cmp cmp a b) refl le
    where
      by_order : (o : Ordering) → internal_cmp cmp a b ≡ o → is_le o ≡ true → internal_cmp cmp a c ≡ Less
      by_order Less e h = (internal_cmp-total total).trans a b c e less
      by_order Equal e h = (internal_cmp-total total).congr a b c e ∙ less
      by_order Greater e h = absurd cc

  -- ---- files in turn

  at_one_level : (f g h : NewFile) → IsRange g → f.level ≡ g.level → g.level ≡ h.level → Before cmp f g → Before cmp g h → Before cmp f h
  at_one_level f g h range same also (inl lt) b = absurd (omega arith)
  at_one_level f g h range same also (inr at) (inl lt) = absurd (omega arith)
  at_one_level f g h range same also (inr at) (inr next) =
      elim (zero_or_deep f.level) [
        | inl top ↦
            let one : g.meta.number < f.meta.number = at_top cmp f g top at.1 in
            let two : h.meta.number < g.meta.number = at_top cmp g h (sym same ∙ top) next.1 in
            inr (same ∙ also, top_at cmp f h top (omega arith))
        | inr deep ↦
            let one : internal_cmp cmp f.meta.largest g.meta.smallest ≡ Less = at_depth cmp f g deep at.1 in
            let two : internal_cmp cmp g.meta.largest h.meta.smallest ≡ Less = at_depth cmp g h (omega arith) next.1 in
            inr (same ∙ also, depth_at cmp f h deep ((internal_cmp-total total).trans f.meta.largest g.meta.smallest h.meta.smallest one (le_less g.meta.smallest g.meta.largest h.meta.smallest range two)))
      ]

  chain : (f g h : NewFile) → IsRange g → Before cmp f g → Before cmp g h → Before cmp f h
  chain f g h range (inl lt) (inl more) = inl (omega arith)
  chain f g h range (inl lt) (inr at) = let same : g.level ≡ h.level = at.0 in inl (omega arith)
  chain f g h range (inr at) (inl lt) = let same : f.level ≡ g.level = at.0 in inl (omega arith)
  chain f g h range (inr at) (inr next) = at_one_level f g h range at.0 next.0 (inr at) (inr next)

  -- each file stands before the one after it
  abbrev Turn : List NewFile → Type 0
  Turn [] = Unit {0}
  Turn (f ∷ []) = Unit {0}
  Turn (f ∷ (g ∷ fs)) = Before cmp f g × Turn (g ∷ fs)

  turn_pairs : (fs : List NewFile) → ((f : NewFile) → Contains fs f → IsRange f) → Turn fs → Pairs (Before cmp) fs
  turn_pairs [] ranges turn = tt
  turn_pairs (f ∷ []) ranges turn = (λ g at. absurd (none_in g at), tt)
  turn_pairs (f ∷ (g ∷ fs)) ranges turn =
      let rest = turn_pairs (g ∷ fs) (λ h at. ranges h (later_in f (g ∷ fs) h at)) turn.1 in (
        λ h at. elim (first_or_later g fs h at) [
          | inl is ↦ subst (Before cmp f) (sym is) turn.0
          | inr later ↦ chain f g h (ranges g (later_in f (g ∷ fs) g (first_in g fs))) turn.0 (rest.0 h later)
        ],
        rest,
      )

  turn_of : (items : List LevelFile) → AreInTurn cmp items → Turn (map level_file_in items)
  turn_of [] h = tt
  turn_of (f ∷ []) h = tt
  turn_of (f ∷ (g ∷ items)) h = (
    (before_decides cmp (level_file_in f) (level_file_in g)).0 (h 0 f (omega arith)),
    turn_of (g ∷ items) (λ k d lt.
        let next : suc k + 1 ≡ suc (k + 1) = omega arith in
        subst (λ (n : ℕ). stands_before cmp (level_file_in (get_or (g ∷ items) k d)) (level_file_in (get_or (f ∷ (g ∷ items)) n d)) ≡ true) next (h (suc k) d (omega arith))),
  )

  pub before_pairs : (items : List LevelFile) → ((f : NewFile) → Contains (map level_file_in items) f → IsRange f) → AreInTurn cmp items → Pairs (Before cmp) (map level_file_in items)
  before_pairs items ranges turn = turn_pairs (map level_file_in items) ranges (turn_of items turn)

  -- ---- files in their order

  -- a file that stands before another comes before it in the order
  pub comes_before : (f g : NewFile) → IsRange f → Before cmp f g → is_lt (newest_first_cmp cmp f g) ≡ true
  comes_before f g range (inl lt) =
      ap (λ (o : Ordering). is_lt (ordering_then o (ordering_then (nat_cmp (rank_of g) (rank_of f)) (internal_cmp cmp f.meta.smallest g.meta.smallest)))) (less_numbers f.level g.level lt)
  comes_before f g range (inr at) = ap is_lt (then_is (nat_cmp f.level g.level) (ordering_then (nat_cmp (rank_of g) (rank_of f)) (internal_cmp cmp f.meta.smallest g.meta.smallest)) (equal_numbers f.level g.level at.0) ∙ by_depth (zero_or_deep f.level))
    where
      by_depth : (f.level ≡ 0) ⊎ (0 < f.level) → ordering_then (nat_cmp (rank_of g) (rank_of f)) (internal_cmp cmp f.meta.smallest g.meta.smallest) ≡ Less
      by_depth (inl top) =
          let lt : g.meta.number < f.meta.number = at_top cmp f g top at.1 in
          let one : rank_of f ≡ f.meta.number = top_rank f top in
          let two : rank_of g ≡ g.meta.number = top_rank g (sym at.0 ∙ top) in
          ap (λ (o : Ordering). ordering_then o (internal_cmp cmp f.meta.smallest g.meta.smallest)) (less_numbers (rank_of g) (rank_of f) (omega arith))
      by_depth (inr deep) =
          let same : f.level ≡ g.level = at.0 in
          let one : rank_of f ≡ 0 = deep_rank f deep in
          let two : rank_of g ≡ 0 = deep_rank g (omega arith) in
          then_is (nat_cmp (rank_of g) (rank_of f)) (internal_cmp cmp f.meta.smallest g.meta.smallest) (equal_numbers (rank_of g) (rank_of f) (two ∙ sym one))
          ∙ le_less f.meta.smallest f.meta.largest g.meta.smallest range (at_depth cmp f g deep at.1)
