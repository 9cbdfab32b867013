-- The data blocks of a plan: each has its number, and together they are those of the definition.
use Rattle.std.proofs.Common.{◌≡◌, ◌≢◌, ℕ, zero, suc, ◌+◌, ◌^◌, ◌<◌, ◌≤◌, List, [], ◌∷◌, ◌++◌, length, map, get_or, Result, Ok, Err, refl, sym, ap, subst, ◌∙◌, arith}
use Rattle.std.specs.Prelude.{slice_get, Option, Some, IfOk, IfSome}
use Rattle.std.specs.Global.{Vec}
use Rattle.std.specs.List.{AllByRecursion}
use Rattle.std.specs.Option.{option_map}
use Rattle.std.specs.declared.cmp.Ordering.{Ordering}
use Rattle.std.proofs.lemmas.List.{map-append, length-map}
use Rattle.std.proofs.lemmas.List.Sums.{sum_by-cons}
use Rattle.std.proofs.lemmas.Option.{slice_get-map}
use Rattle.coding.specs.Answers.{EqualOrMemory}
use Rattle.coding.specs.declared.fault.Fault.{Fault}
use Rattle.block.specs.EncodedEntry.{Entry}
use Rattle.block.specs.BlockFormat.{block}
use Rattle.table.specs.declared.options.Options.{Options}
use Rattle.table.specs.DataBlocks.{data_blocks}
use Rattle.table.specs.Table.{table}
use Rattle.table.specs.Trailer.{stored_block}
use Rattle.cut.specs.declared.planned_block.PlannedBlock.{PlannedBlock}
use Rattle.cut.specs.declared.planned_output.PlannedOutput.{PlannedOutput}
use Rattle.cut.specs.BlockNumbers.{planned_blocks}
use Rattle.cut.specs.PlannedBlocks.{block_lists}
use Rattle.cut.specs.OutputInProgress.{entries_in_blocks, HasLen}
use Rattle.cut.specs.Plan.{OutputView, encoded_blocks, jobs, parts}
use Rattle.cut.specs.OutputPlan.{lists_in}
use Rattle.cut.specs.PlanInvariant.{block_count, planned_of, IsPlannedOutput, IsPlan}
use Rattle.cut.specs.PlanTables.{stored_each, stored_one}
use Rattle.cut.specs.TableLength.{lens_of}
use Rattle.cut.proofs.TableLengths.{exact_one, length-table, stored_more}
use Rattle.ikey.specs.Comparator.{ShortKeys}

-- ---- facts of all elements

both : {X : Type 0} (P : X → Type 0) (xs ys : List X) → AllByRecursion P xs → AllByRecursion P ys → AllByRecursion P (xs ++ ys)
both P [] ys h k = k
both P (x ∷ xs) ys h k = (h.0, both P xs ys h.1 k)

pub at : {X : Type 0} (P : X → Type 0) (xs : List X) (i : ℕ) (x : X) → i < length xs → AllByRecursion P xs → get_or xs i x ≡ x → P x
at P [] i x lt h is = absurd (omega arith)
at P (y ∷ ys) zero x lt h is = subst P is h.0
at P (y ∷ ys) (suc i) x lt h is = at P ys i x (omega arith) h.1 is

pub found_holds : {X : Type 0} (P : X → Type 0) (xs : List X) (i : ℕ) (x : X) → slice_get xs i ≡ Some x → AllByRecursion P xs → P x
found_holds P [] i x is h = absurd cc
found_holds P (y ∷ ys) zero x is h = (let same : y ≡ x = cc in subst P same h.0)
found_holds P (y ∷ ys) (suc i) x is h = found_holds P ys i x is h.1

-- ---- the data blocks of a plan

module _ (cmp : List ℕ → List ℕ → Ordering) (short_keys : ShortKeys) (o : Options) where
  abbrev pub T : List Entry → List ℕ
  T q = table cmp short_keys o q

  -- the entries of each output
  abbrev pub lists : List PlannedOutput → List (List Entry)
  lists outputs = map (λ (p : PlannedOutput). entries_in_blocks p.blocks.items) outputs

  lists_seen : (outputs : List PlannedOutput) → lists_in (map planned_of outputs) ≡ lists outputs
  lists_seen [] = refl
  lists_seen (p ∷ ps) = ap (λ (qs : List (List Entry)). entries_in_blocks p.blocks.items ∷ qs) (lists_seen ps)

  parts_are : (outputs : List PlannedOutput) → AllByRecursion (IsPlannedOutput T o) outputs → block_lists (planned_blocks outputs) ≡ parts o (lists outputs)
  parts_are [] h = refl
  parts_are (p ∷ ps) h =
      map-append (λ (b : PlannedBlock). b.entries.entries) p.blocks.items (planned_blocks ps)
      ∙ ap (λ (qs : List (List Entry)). qs ++ block_lists (planned_blocks ps)) h.0.planned.cut
      ∙ ap (λ (qs : List (List Entry)). data_blocks o (entries_in_blocks p.blocks.items) ++ qs) (parts_are ps h.1)

  parts_seen : (outputs : List PlannedOutput) → AllByRecursion (IsPlannedOutput T o) outputs → block_lists (planned_blocks outputs) ≡ parts o (lists_in (map planned_of outputs))
  parts_seen outputs h = parts_are outputs h ∙ sym (ap (parts o) (lists_seen outputs))

  -- there is a job for each data block
  pub jobs_are : (outputs : List PlannedOutput) → AllByRecursion (IsPlannedOutput T o) outputs → length (planned_blocks outputs) ≡ jobs o (lists_in (map planned_of outputs))
  jobs_are outputs h = sym (length-map (planned_blocks outputs) (λ (b : PlannedBlock). b.entries.entries)) ∙ ap length (parts_seen outputs h)

  -- the bytes of all data blocks are those of the definition
  pub encoded_are : (outputs : List PlannedOutput) → AllByRecursion (IsPlannedOutput T o) outputs → stored_each o.restart_interval outputs ≡ encoded_blocks o (lists_in (map planned_of outputs))
  encoded_are outputs h =
      twice (planned_blocks outputs) ∙ ap (map (λ (p : List Entry). stored_block (block o.restart_interval p))) (parts_seen outputs h)
    where
      twice : (bs : List PlannedBlock) → map (stored_one o.restart_interval) bs ≡ map (λ (p : List Entry). stored_block (block o.restart_interval p)) (block_lists bs)
      twice [] = refl
      twice (b ∷ bs) = ap (λ (xs : List (List ℕ)). stored_one o.restart_interval b ∷ xs) (twice bs)

  -- the bytes of the data block of a number
  pub encoded_at : (outputs : List PlannedOutput) (job : ℕ) (b : PlannedBlock) → AllByRecursion (IsPlannedOutput T o) outputs → slice_get (planned_blocks outputs) job ≡ Some b
      → slice_get (encoded_blocks o (lists_in (map planned_of outputs))) job ≡ Some (stored_one o.restart_interval b)
  encoded_at outputs job b h is =
      sym (ap (λ (xs : List (List ℕ)). slice_get xs job) (encoded_are outputs h))
      ∙ slice_get-map (stored_one o.restart_interval) (planned_blocks outputs) job
      ∙ ap (option_map (stored_one o.restart_interval)) is

  -- each output has a data block
  pub outputs_few : (outputs : List PlannedOutput) → AllByRecursion (IsPlannedOutput T o) outputs → length outputs ≤ block_count outputs
  outputs_few [] h = omega arith
  outputs_few (p ∷ ps) h =
      let one = some_block p.blocks.items h.0.some.any in
      let rest = outputs_few ps h.1 in
      let sum = sum_by-cons (λ (x : PlannedOutput). length x.blocks.items) p ps in
      omega (arith, one, rest, sum)
    where
      some_block : (bs : List PlannedBlock) → bs ≢ [] → 1 ≤ length bs
      some_block [] none = absurd (none refl)
      some_block (b ∷ bs) none = omega arith

  -- the output at a place
  pub output_at : (outputs : List PlannedOutput) (ends : List ℕ) (i : ℕ) (p : PlannedOutput) → IsPlan T o outputs ends → i < length outputs → get_or outputs i p ≡ p → IsPlannedOutput T o p
  output_at outputs ends i p h lt is = at (IsPlannedOutput T o) outputs i p lt h.each is

  -- no block of an output is long
  pub block_short : (p : PlannedOutput) → IsPlannedOutput T o p → AllByRecursion (λ (b : PlannedBlock). length (block o.restart_interval b.entries.entries) ≤ 2 ^ 31) p.blocks.items
  block_short p h = by_lens p.blocks.items h.planned.lens (omega (arith, h.len_is, h.len_le, length-table cmp short_keys o p.blocks.items h.planned, stored_more o p.blocks.items h.planned.lens))
    where
      by_lens : (blocks : List PlannedBlock) → AllByRecursion (HasLen o) blocks → lens_of blocks ≤ 2 ^ 30 → AllByRecursion (λ (b : PlannedBlock). length (block o.restart_interval b.entries.entries) ≤ 2 ^ 31) blocks
      by_lens [] h le = tt
      by_lens (b ∷ bs) h le =
          let all = sum_by-cons (λ (x : PlannedBlock). x.len + 5) b bs in
          let one = exact_one o b h.0 (omega arith) in
          (omega (arith, one, all), by_lens bs h.1 (omega arith))

  pub all_short : (outputs : List PlannedOutput) → AllByRecursion (IsPlannedOutput T o) outputs → AllByRecursion (λ (b : PlannedBlock). length (block o.restart_interval b.entries.entries) ≤ 2 ^ 31) (planned_blocks outputs)
  all_short [] h = tt
  all_short (p ∷ ps) h = both (λ (b : PlannedBlock). length (block o.restart_interval b.entries.entries) ≤ 2 ^ 31) p.blocks.items (planned_blocks ps) (block_short p h.0) (all_short ps h.1)

-- ---- what is read of a plan

pub output_here : (outputs : List PlannedOutput) (i : ℕ) (p : PlannedOutput) → i < length outputs → get_or outputs i p ≡ p → slice_get (map planned_of outputs) i ≡ Some (planned_of p)
output_here [] i p lt is = absurd (omega arith)
output_here (x ∷ xs) zero p lt is = ap (λ (y : PlannedOutput). Some (planned_of y)) is
output_here (x ∷ xs) (suc i) p lt is = output_here xs i p (omega arith) is

-- what holds of the output at a place, as contracts say it
pub if_here : (P : OutputView → Type 0) (outputs : List PlannedOutput) (i : ℕ) (p : PlannedOutput) → i < length outputs → get_or outputs i p ≡ p → P (planned_of p) → IfSome (slice_get (map planned_of outputs) i) P
if_here P outputs i p lt is h = subst (λ (found : Option OutputView). IfSome found P) (sym (output_here outputs i p lt is)) h

-- an answer that is the bytes of a data block
pub bytes_are : (r : Result (Vec ℕ) Fault) (bytes : List ℕ) (found : Option (List ℕ)) → EqualOrMemory (λ (v : Vec ℕ). v.items) r (Ok bytes) → found ≡ Some bytes → IfOk r (λ (v : Vec ℕ). found ≡ Some v.items)
bytes_are (Ok v) bytes found answer is = (let same : bytes ≡ v.items = cc in is ∙ ap Some same)
bytes_are (Err e) bytes found answer is = tt
