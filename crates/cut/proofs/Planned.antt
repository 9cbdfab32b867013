-- The plan that is made is the one that its definition asks for.
use Rattle.std.proofs.Common.{◌≡◌, ◌≢◌, ℕ, ◌+◌, ◌^◌, ◌<◌, ◌≤◌, Bool, true, false, List, [], ◌∷◌, ◌++◌, length, map, Ok, Err, refl, sym, ap, subst, ◌∙◌, inl, inr, arith}
use Rattle.std.specs.Prelude.{nat_le, ◌&&◌}
use Rattle.std.specs.Global.{Vec}
use Rattle.std.specs.List.{AllByRecursion, list_all}
use Rattle.std.specs.declared.cmp.Ordering.{Ordering}
use Rattle.std.proofs.lemmas.Bool.{cases_lt, lt-leb, le-leb, leb-true, lt-ltb, and_parts}
use Rattle.std.proofs.lemmas.List.{length-append, length-map}
use Rattle.std.proofs.lemmas.List.Sums.{sum_by-cons}
use Rattle.coding.specs.Answers.{fault}
use Rattle.coding.specs.declared.fault.FaultName.TheVariants.{TooLarge}
use Rattle.coding.specs.Saturated.{saturated}
use Rattle.block.specs.EncodedEntry.{Entry}
use Rattle.table.specs.declared.options.Options.{Options}
use Rattle.table.specs.DataBlocks.{data_blocks, AreDataBlocks}
use Rattle.table.specs.Table.{index_keys, table}
use Rattle.table.proofs.Cuts.{are_data_blocks}
use Rattle.cut.specs.declared.planned_block.PlannedBlock.{PlannedBlock}
use Rattle.cut.specs.declared.planned_output.PlannedOutput.{PlannedOutput}
use Rattle.cut.specs.PlannedBlocks.{block_lists}
use Rattle.cut.specs.OutputInProgress.{entries_in_blocks, ArePlanned}
use Rattle.cut.specs.Plan.{OutputView, block_ends_from, planned_from, parts, plan_of}
use Rattle.cut.specs.PlanInvariant.{planned_of, HaveEntries, numbered_from, block_count, IsPlannedOutput}
use Rattle.cut.specs.TableLength.{capped_length, table_size}
use Rattle.cut.proofs.TableLengths.{size_is}
use Rattle.ikey.specs.Comparator.{ShortKeys}

-- ---- data blocks have entries

each_some : (o : Options) (q : List Entry) (blocks : List PlannedBlock) → AreDataBlocks o q (block_lists blocks) → AllByRecursion (λ (b : PlannedBlock). b.entries.entries ≢ []) blocks
each_some o q [] h = tt
each_some o q (b ∷ bs) h = (h.2.some, each_some o h.0 bs h.3)

pub planned_some : (o : Options) (blocks : List PlannedBlock) → ArePlanned o blocks → AllByRecursion (λ (b : PlannedBlock). b.entries.entries ≢ []) blocks
planned_some o blocks h = each_some o (entries_in_blocks blocks) blocks (subst (AreDataBlocks o (entries_in_blocks blocks)) (sym h.cut) (are_data_blocks o (entries_in_blocks blocks)))

none_of : (blocks : List PlannedBlock) → entries_in_blocks blocks ≢ [] → blocks ≢ []
none_of blocks some none = some (ap entries_in_blocks none)

-- the entries of all outputs
abbrev pub lists_of : List (Vec PlannedBlock) → List (List Entry)
lists_of ended = map (λ (b : Vec PlannedBlock). entries_in_blocks b.items) ended

pub have_entries : (o : Options) (ended : List (Vec PlannedBlock)) → AllByRecursion (λ (b : Vec PlannedBlock). ArePlanned o b.items) ended → AllByRecursion (λ q. q ≢ []) (lists_of ended) → AllByRecursion (λ (b : Vec PlannedBlock). HaveEntries b.items) ended
have_entries o [] h some = tt
have_entries o (b ∷ bs) h some = (record { any = none_of b.items some.0; some = planned_some o b.items h.0 }, have_entries o bs h.1 some.1)

-- what a plan of outputs is made of: their data blocks
pub record IsMade (o : Options) (ended : List (Vec PlannedBlock)) (outputs : List (List Entry)) : Type 0 where
  pub entries : lists_of ended ≡ outputs
  pub planned : AllByRecursion (λ (b : Vec PlannedBlock). ArePlanned o b.items) ended

-- the tests of a plan
abbrev pub are_small : List PlannedOutput → Bool
are_small outputs = list_all (λ (p : PlannedOutput). nat_le p.len (2 ^ 30)) outputs && nat_le (block_count outputs) (2 ^ 40)

pub count_le : (n : ℕ) → nat_le (saturated n) (2 ^ 40) ≡ nat_le n (2 ^ 40)
count_le n =
    elim (cases_lt (2 ^ 40) n) [
      | inl over ↦ lt-leb (saturated n) (2 ^ 40) (omega arith) ∙ sym (lt-leb n (2 ^ 40) over)
      | inr within ↦ le-leb (saturated n) (2 ^ 40) (omega arith) ∙ sym (le-leb n (2 ^ 40) within)
    ]

-- ---- one output more

pub numbered_push : (size_of : List PlannedBlock → ℕ) (number : ℕ) (ended : List (Vec PlannedBlock)) (b : Vec PlannedBlock)
    → numbered_from size_of number (ended ++ b ∷ []) ≡ numbered_from size_of number ended ++ record { number = number + length ended; blocks = b; len = size_of b.items } ∷ []
numbered_push size_of number [] b = let same : number ≡ number + 0 = omega arith in ap (λ (n : ℕ). record { number = n; blocks = b; len = size_of b.items } ∷ []) same
numbered_push size_of number (x ∷ xs) b =
    let place : number + 1 + length xs ≡ number + length (x ∷ xs) = omega arith in
    ap (λ (ps : List PlannedOutput). record { number = number; blocks = x; len = size_of x.items } ∷ ps) (numbered_push size_of (number + 1) xs b)
    ∙ ap (λ (n : ℕ). (record { number = number; blocks = x; len = size_of x.items } ∷ numbered_from size_of (number + 1) xs) ++ record { number = n; blocks = b; len = size_of b.items } ∷ []) place

module _ (cmp : List ℕ → List ℕ → Ordering) (short_keys : ShortKeys) (o : Options) where
  abbrev T : List Entry → List ℕ
  T q = table cmp short_keys o q

  abbrev size : List PlannedBlock → ℕ
  size blocks = table_size (index_keys cmp short_keys) blocks

  -- ---- the limits

  capped_le : (n : ℕ) → nat_le (capped_length n) (2 ^ 30) ≡ nat_le n (2 ^ 30)
  capped_le n =
      elim (cases_lt (2 ^ 30) n) [
        | inl over ↦ lt-leb (capped_length n) (2 ^ 30) (omega arith) ∙ sym (lt-leb n (2 ^ 30) over)
        | inr within ↦ le-leb (capped_length n) (2 ^ 30) (omega arith) ∙ sym (le-leb n (2 ^ 30) within)
      ]

  small_is : (number : ℕ) (ended : List (Vec PlannedBlock)) → AllByRecursion (λ (b : Vec PlannedBlock). ArePlanned o b.items) ended
      → list_all (λ (p : PlannedOutput). nat_le p.len (2 ^ 30)) (numbered_from size number ended) ≡ list_all (λ q. nat_le (length (T q)) (2 ^ 30)) (lists_of ended)
  small_is number [] h = refl
  small_is number (b ∷ bs) h =
      let one : nat_le (size b.items) (2 ^ 30) ≡ nat_le (length (T (entries_in_blocks b.items))) (2 ^ 30) =
      ap (λ (n : ℕ). nat_le n (2 ^ 30)) (size_is cmp short_keys o b.items h.0) ∙ capped_le (length (T (entries_in_blocks b.items))) in
      ap (λ (x : Bool). x && list_all (λ (p : PlannedOutput). nat_le p.len (2 ^ 30)) (numbered_from size (number + 1) bs)) one
      ∙ ap (λ (x : Bool). nat_le (length (T (entries_in_blocks b.items))) (2 ^ 30) && x) (small_is (number + 1) bs h.1)

  count_is : (number : ℕ) (ended : List (Vec PlannedBlock)) → AllByRecursion (λ (b : Vec PlannedBlock). ArePlanned o b.items) ended → block_count (numbered_from size number ended) ≡ length (parts o (lists_of ended))
  count_is number [] h = refl
  count_is number (b ∷ bs) h =
      let p : PlannedOutput = record { number = number; blocks = b; len = size b.items } in
      let one : length b.items ≡ length (data_blocks o (entries_in_blocks b.items)) = sym (length-map b.items (λ (x : PlannedBlock). x.entries.entries)) ∙ ap length h.0.cut in
      sum_by-cons (λ (x : PlannedOutput). length x.blocks.items) p (numbered_from size (number + 1) bs)
      ∙ omega (arith, one, count_is (number + 1) bs h.1, length-append (data_blocks o (entries_in_blocks b.items)) (parts o (lists_of bs)))

  -- ---- the plan

  -- a length that is small is exact
  exact : (b : Vec PlannedBlock) → ArePlanned o b.items → size b.items ≤ 2 ^ 30 → size b.items ≡ length (T (entries_in_blocks b.items))
  exact b h le = omega (arith, size_is cmp short_keys o b.items h)

  planned_is : (number : ℕ) (ended : List (Vec PlannedBlock)) → AllByRecursion (λ (b : Vec PlannedBlock). ArePlanned o b.items) ended → list_all (λ (p : PlannedOutput). nat_le p.len (2 ^ 30)) (numbered_from size number ended) ≡ true
      → map planned_of (numbered_from size number ended) ≡ planned_from T o number (lists_of ended)
  planned_is number [] h small = refl
  planned_is number (b ∷ bs) h small =
      let both = and_parts (nat_le (size b.items) (2 ^ 30)) (list_all (λ (p : PlannedOutput). nat_le p.len (2 ^ 30)) (numbered_from size (number + 1) bs)) small in
      let q = entries_in_blocks b.items in
      let one : OutputView → List OutputView = λ p. p ∷ map planned_of (numbered_from size (number + 1) bs) in
      ap (λ (n : ℕ). one (record { number = number; entries = q; blocks = block_ends_from 0 (block_lists b.items); length = n })) (exact b h.0 (leb-true (size b.items) (2 ^ 30) both.0))
      ∙ ap (λ (ps : List (List Entry)). one (record { number = number; entries = q; blocks = block_ends_from 0 ps; length = length (T q) })) h.0.cut
      ∙ ap (λ (ps : List OutputView). record { number = number; entries = q; blocks = block_ends_from 0 (data_blocks o q); length = length (T q) } ∷ ps) (planned_is (number + 1) bs h.1 both.1)

  each_is : (number : ℕ) (ended : List (Vec PlannedBlock)) → AllByRecursion (λ (b : Vec PlannedBlock). ArePlanned o b.items) ended → AllByRecursion (λ (b : Vec PlannedBlock). HaveEntries b.items) ended
      → list_all (λ (p : PlannedOutput). nat_le p.len (2 ^ 30)) (numbered_from size number ended) ≡ true → AllByRecursion (IsPlannedOutput T o) (numbered_from size number ended)
  each_is number [] h some small = tt
  each_is number (b ∷ bs) h some small =
      let both = and_parts (nat_le (size b.items) (2 ^ 30)) (list_all (λ (p : PlannedOutput). nat_le p.len (2 ^ 30)) (numbered_from size (number + 1) bs)) small in
      let le = leb-true (size b.items) (2 ^ 30) both.0 in
      (record { planned = h.0; some = some.0; len_is = exact b h.0 le; len_le = le }, each_is (number + 1) bs h.1 some.1 both.1)

  tests : (number : ℕ) (ended : List (Vec PlannedBlock)) (outputs : List (List Entry)) → IsMade o ended outputs
      → (list_all (λ (p : PlannedOutput). nat_le p.len (2 ^ 30)) (numbered_from size number ended) && nat_le (block_count (numbered_from size number ended)) (2 ^ 40))
      ≡ (list_all (λ q. nat_le (length (T q)) (2 ^ 30)) outputs && nat_le (length (parts o outputs)) (2 ^ 40))
  tests number ended outputs h =
      ap (λ (x : Bool). x && nat_le (block_count (numbered_from size number ended)) (2 ^ 40)) (small_is number ended h.planned)
      ∙ ap (λ (n : ℕ). list_all (λ q. nat_le (length (T q)) (2 ^ 30)) (lists_of ended) && nat_le n (2 ^ 40)) (count_is number ended h.planned)
      ∙ ap (λ (qs : List (List Entry)). list_all (λ q. nat_le (length (T q)) (2 ^ 30)) qs && nat_le (length (parts o qs)) (2 ^ 40)) h.entries

  pub plan_large : (number : ℕ) (ended : List (Vec PlannedBlock)) (outputs : List (List Entry)) → IsMade o ended outputs → number + length ended < 2 ^ 64
      → (list_all (λ (p : PlannedOutput). nat_le p.len (2 ^ 30)) (numbered_from size number ended) && nat_le (block_count (numbered_from size number ended)) (2 ^ 40)) ≡ false
      → plan_of T o number outputs ≡ Err (fault TooLarge)
  plan_large number ended outputs h fits large =
      let count : length outputs ≡ length ended = sym (ap length h.entries) ∙ length-map ended (λ (b : Vec PlannedBlock). entries_in_blocks b.items) in
      rw (lt-ltb (number + length outputs) (2 ^ 64) (omega arith), sym (tests number ended outputs h) ∙ large) refl

  pub plan_made : (number : ℕ) (ended : List (Vec PlannedBlock)) (outputs : List (List Entry)) → IsMade o ended outputs → number + length ended < 2 ^ 64
      → (list_all (λ (p : PlannedOutput). nat_le p.len (2 ^ 30)) (numbered_from size number ended) && nat_le (block_count (numbered_from size number ended)) (2 ^ 40)) ≡ true
      → plan_of T o number outputs ≡ Ok (map planned_of (numbered_from size number ended))
  plan_made number ended outputs h fits small =
      let count : length outputs ≡ length ended = sym (ap length h.entries) ∙ length-map ended (λ (b : Vec PlannedBlock). entries_in_blocks b.items) in
      let both = and_parts (list_all (λ (p : PlannedOutput). nat_le p.len (2 ^ 30)) (numbered_from size number ended)) (nat_le (block_count (numbered_from size number ended)) (2 ^ 40)) small in
      let all : map planned_of (numbered_from size number ended) ≡ planned_from T o number outputs = planned_is number ended h.planned both.0 ∙ ap (planned_from T o number) h.entries in
      rw (lt-ltb (number + length outputs) (2 ^ 64) (omega arith), sym (tests number ended outputs h) ∙ small) (ap Ok (sym all))

  pub plan_each : (number : ℕ) (ended : List (Vec PlannedBlock)) (outputs : List (List Entry)) → IsMade o ended outputs → AllByRecursion (λ q. q ≢ []) outputs
      → (list_all (λ (p : PlannedOutput). nat_le p.len (2 ^ 30)) (numbered_from size number ended) && nat_le (block_count (numbered_from size number ended)) (2 ^ 40)) ≡ true
      → AllByRecursion (IsPlannedOutput T o) (numbered_from size number ended)
  plan_each number ended outputs h some small =
      let both = and_parts (list_all (λ (p : PlannedOutput). nat_le p.len (2 ^ 30)) (numbered_from size number ended)) (nat_le (block_count (numbered_from size number ended)) (2 ^ 40)) small in
      each_is number ended h.planned (have_entries o ended h.planned (subst (AllByRecursion (λ q. q ≢ [])) (sym h.entries) some)) both.0

  pub plan_few : (number : ℕ) (ended : List (Vec PlannedBlock))
      → (list_all (λ (p : PlannedOutput). nat_le p.len (2 ^ 30)) (numbered_from size number ended) && nat_le (block_count (numbered_from size number ended)) (2 ^ 40)) ≡ true
      → block_count (numbered_from size number ended) ≤ 2 ^ 40
  plan_few number ended small =
      let both = and_parts (list_all (λ (p : PlannedOutput). nat_le p.len (2 ^ 30)) (numbered_from size number ended)) (nat_le (block_count (numbered_from size number ended)) (2 ^ 40)) small in
      leb-true (block_count (numbered_from size number ended)) (2 ^ 40) both.1
