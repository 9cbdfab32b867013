-- How outputs are cut, entry by entry and stop by stop.
use Rattle.std.proofs.Common.{◌≡◌, ℕ, zero, suc, ◌+◌, ◌-◌, ◌<◌, ◌≤◌, true, false, List, [], ◌∷◌, ◌++◌, length, take, drop, refl, sym, ap, subst, ◌∙◌, append_assoc, append-nil, arith}
use Rattle.std.specs.Prelude.{Result, Ok, Err, IfOk}
use Rattle.std.specs.List.{AllByRecursion}
use Rattle.std.proofs.lemmas.Bool.{false≢true}
use Rattle.std.proofs.lemmas.List.{drop-drop}
use Rattle.std.proofs.Math.Seq.{take-add}
use Rattle.coding.specs.declared.fault.Fault.{Fault}
use Rattle.block.specs.EncodedEntry.{Entry}
use Rattle.table.specs.declared.options.Options.{Options}
use Rattle.table.specs.DataBlocks.{is_full, open_block, blocks_after, data_blocks}
use Rattle.cut.specs.declared.planned_block.PlannedBlock.{PlannedBlock}
use Rattle.keep.specs.MergedLists.{entries_of_lists}
use Rattle.cut.specs.OutputCuts.{OutputsInProgress, outputs_left}
use Rattle.cut.specs.PlannedBlocks.{block_lists}
use Rattle.cut.specs.OutputInProgress.{entries_in_blocks, HasLen, ArePlanned, ends_by}
use Rattle.cut.specs.Outputs.{ends_before, outputs_after}
use Rattle.cut.proofs.Whole.{all_open, all_by}

module _ (o : Options) where
  -- ---- the entries of data blocks

  behind_all : (latest es : List Entry) → entries_of_lists (blocks_after o latest es) ≡ latest ++ es
  behind_all latest [] = all_open latest ∙ sym (append-nil latest)
  behind_all latest (e ∷ es) = all_by (is_full o latest) latest e es (blocks_after o (e ∷ []) es) (blocks_after o (latest ++ e ∷ []) es) (behind_all (e ∷ []) es) (behind_all (latest ++ e ∷ []) es)

  pub data_blocks_all : (q : List Entry) → entries_of_lists (data_blocks o q) ≡ q
  unfolding data_blocks
  data_blocks_all q = behind_all [] q

  -- planned blocks have the entries of which they are the data blocks
  pub entries_are : (q : List Entry) (blocks : List PlannedBlock) → block_lists blocks ≡ data_blocks o q → entries_in_blocks blocks ≡ q
  entries_are q blocks are = ap entries_of_lists are ∙ data_blocks_all q

  pub planned_are : (q : List Entry) (blocks : List PlannedBlock) → block_lists blocks ≡ data_blocks o q → AllByRecursion (HasLen o) blocks → ArePlanned o blocks
  planned_are q blocks are lens = record { cut = are ∙ ap (data_blocks o) (sym (entries_are q blocks are)); lens = lens }

  -- ---- an output ends

  pub ended_none : (outputs : List (List Entry)) (q : List Entry) (blocks : List PlannedBlock) → block_lists blocks ≡ data_blocks o q → blocks ≡ [] → outputs ≡ outputs ++ outputs_after o q []
  ended_none outputs q blocks are none =
      let no : q ≡ [] = sym (entries_are q blocks are) ∙ ap entries_in_blocks none in
      sym (ap (λ (xs : List Entry). outputs ++ open_block xs) no ∙ append-nil outputs)

  some_open : (q : List Entry) (blocks : List PlannedBlock) → block_lists blocks ≡ data_blocks o q → (blocks ≡ [] → ⊥) → open_block q ≡ q ∷ []
  unfolding data_blocks
  some_open [] [] are some = absurd (some refl)
  some_open [] (b ∷ bs) are some = absurd (let no : block_lists (b ∷ bs) ≡ [] = are in cc)
  some_open (e ∷ es) blocks are some = refl

  pub ended_some : (outputs : List (List Entry)) (q : List Entry) (blocks : List PlannedBlock) → block_lists blocks ≡ data_blocks o q → (blocks ≡ [] → ⊥) → outputs ++ entries_in_blocks blocks ∷ [] ≡ outputs ++ outputs_after o q []
  ended_some outputs q blocks are some =
      ap (λ (xs : List Entry). outputs ++ xs ∷ []) (entries_are q blocks are) ∙ sym (ap (λ (ps : List (List Entry)). outputs ++ ps) (some_open q blocks are some))

  -- the outputs that are ended, with the same options
  pub same_options : {X : Type 0} (blocks_of : X → List PlannedBlock) (after : Options) (xs : List X) → after ≡ o → AllByRecursion (λ x. ArePlanned o (blocks_of x)) xs → AllByRecursion (λ x. ArePlanned after (blocks_of x)) xs
  same_options blocks_of after xs is h = subst (λ (p : Options). AllByRecursion (λ x. ArePlanned p (blocks_of x)) xs) (sym is) h

  pub planned_push : {X : Type 0} (blocks_of : X → List PlannedBlock) (xs : List X) (x : X) → AllByRecursion (λ y. ArePlanned o (blocks_of y)) xs → ArePlanned o (blocks_of x) → AllByRecursion (λ y. ArePlanned o (blocks_of y)) (xs ++ x ∷ [])
  planned_push blocks_of [] x h p = (p, tt)
  planned_push blocks_of (y ∷ ys) x h p = (h.0, planned_push blocks_of ys x h.1 p)

  -- ---- entries more

  ends_open : (latest : List Entry) (e : Entry) → ends_before o latest e ≡ true → open_block latest ≡ latest ∷ []
  ends_open [] e ends = absurd (false≢true ends)
  ends_open (x ∷ xs) e ends = refl

  ends_first : (outputs : List (List Entry)) (latest behind : List Entry) (taken : ℕ) → 0 < taken → 0 < length behind → ends_by o latest behind ≡ true → (rest : List Entry)
      → (outputs ++ outputs_after o latest []) ++ outputs_after o [] (take taken behind ++ rest) ≡ outputs ++ outputs_after o latest (take taken behind ++ rest)
  ends_first outputs latest [] taken any some ends rest = absurd (omega (arith, some))
  ends_first outputs latest (e ∷ es) zero any some ends rest = absurd (omega (arith, any))
  ends_first outputs latest (e ∷ es) (suc n) any some ends rest =
      let last : outputs_after o latest (e ∷ (take n es ++ rest)) ≡ latest ∷ outputs_after o (e ∷ []) (take n es ++ rest) = rw ends refl in
      ap (λ (ps : List (List Entry)). (outputs ++ ps) ++ outputs_after o (e ∷ []) (take n es ++ rest)) (ends_open latest e ends)
      ∙ append_assoc outputs (latest ∷ []) (outputs_after o (e ∷ []) (take n es ++ rest))
      ∙ ap (λ (ps : List (List Entry)). outputs ++ ps) (sym last)
  -- ---- one segment more

-- an output that ends before the next entry, and another one begun there, are as it was
pub ended_then : (s : OutputsInProgress) (taken : ℕ) → 0 < taken → 0 < length s.behind → ends_by s.options s.latest s.behind ≡ true → (rest : List Entry)
    → outputs_left (record { options = s.options; outputs = outputs_left s []; latest = []; behind = s.behind }) (take taken s.behind ++ rest) ≡ outputs_left s (take taken s.behind ++ rest)
ended_then s taken any some ends rest = ends_first s.options s.outputs s.latest s.behind taken any some ends rest

-- what follows from three facts of an answer follows of it
pub from_three : {P Q S T : ℕ → Type 0} (r : Result ℕ Fault) → IfOk r P → IfOk r Q → IfOk r S → ((n : ℕ) → P n → Q n → S n → T n) → IfOk r T
from_three (Ok n) p q s f = f n p q s
from_three (Err e) p q s f = tt

-- ---- the first of a list

pub take_some : (count taken : ℕ) (xs : List Entry) → taken ≤ count → take taken xs ++ take (count - taken) (drop taken xs) ≡ take count xs
take_some count taken xs le = let sum : taken + (count - taken) ≡ count = omega (arith, le) in sym (take-add taken (count - taken) xs) ∙ ap (λ (n : ℕ). take n xs) sum

pub drop_some : (count taken : ℕ) (xs : List Entry) → taken ≤ count → drop (count - taken) (drop taken xs) ≡ drop count xs
drop_some count taken xs le = drop-drop (count - taken) taken xs ∙ (let sum : taken + (count - taken) ≡ count = omega (arith, le) in ap (λ (n : ℕ). drop n xs) sum)

pub drop_none : (count : ℕ) (xs : List Entry) → (0 < count → 0 < length xs → ⊥) → xs ≡ drop count xs
drop_none zero xs none = refl
drop_none (suc n) [] none = refl
drop_none (suc n) (x ∷ xs) none = absurd (none (omega arith) (omega arith))
