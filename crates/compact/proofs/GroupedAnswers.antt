-- What a merged request answers: the tables of its plan, all at once or in groups, and its edit.
use Rattle.std.proofs.Common.{◌≡◌, ℕ, zero, suc, ◌+◌, ◌<◌, ◌≤◌, ◌^◌, List, [], ◌∷◌, ◌++◌, length, map, take, drop, get_or, Result, Ok, Err, refl, sym, ap, ◌∙◌, append_assoc, append-nil, arith}
use Rattle.std.specs.Prelude.{flat_map, slice_get, Some, IfOk, IfSome}
use Rattle.std.specs.declared.cmp.Ordering.{Ordering}
use Rattle.std.proofs.lemmas.List.{map-append, drop_more, drop_all}
use Rattle.ikey.specs.Answers.{◌>>=◌, EqualOrMemory}
use Rattle.ikey.specs.fault.Fault.{Fault}
use Rattle.table.specs.EncodedEntry.{Entry}
use Rattle.table.specs.Table.{table}
use Rattle.table.specs.declared.options.Options.{Options}
use Rattle.edit.specs.Edit.{edit_bytes}
use Rattle.ikey.specs.Comparator.{ShortKeys}
use Rattle.keep.specs.Runs.{Run, joined_run}
use Rattle.cut.specs.Groups.{groups_of, plan_groups}
use Rattle.cut.specs.OutputMeta.{IsMetaOf}
use Rattle.cut.specs.OutputPlan.{PlanSeen}
use Rattle.cut.specs.Outputs.{outputs_of}
use Rattle.cut.specs.Plan.{OutputView, plan_of, plan_tables}
use Rattle.cut.specs.declared.output_meta.OutputMeta.{OutputMeta}
use Rattle.cut.proofs.Grouped.{groups_join, groups_mapped}
use Rattle.compact.specs.EditOf.{edit_of}
use Rattle.compact.specs.Request.{RequestView}
use Rattle.compact.specs.GroupedAnswer.{GroupedAnswer, joined_answer, table_sizes}
use Rattle.compact.specs.MergedRequest.{group_tables, runs_answer}
use Rattle.compact.specs.WrittenOutputs.{answer_of, planned_files}
use Rattle.compact.proofs.Joined.{plan_fits}

-- ---- a plan

-- the number after the last output of a plan that was made
pub fits_if : {P : Type 0} (outputs_in : P → List OutputView) (table_of : List Entry → List ℕ) (o : Options) (first : ℕ) (outs : List (List Entry)) (r : Result P Fault)
    → EqualOrMemory outputs_in r (plan_of table_of o first outs) → IfOk r (λ p. first + length (outputs_in p) < 2 ^ 64)
fits_if outputs_in table_of o first outs (Ok p) h = plan_fits table_of o first outs (outputs_in p) h
fits_if outputs_in table_of o first outs (Err e) h = tt

module _ (cmp : List ℕ → List ℕ → Ordering) (short_keys : ShortKeys) where
  seen_twice : (o : Options) (gs : List (List OutputView)) → group_tables cmp short_keys (map (λ outputs. record { options = o; outputs = outputs }) gs) ≡ map (λ (g : List OutputView). plan_tables (table cmp short_keys o) g) gs
  seen_twice o [] = refl
  seen_twice o (g ∷ gs) = ap (λ (ts : List (List (ℕ × List ℕ))). plan_tables (table cmp short_keys o) g ∷ ts) (seen_twice o gs)

  -- the tables of the groups of a plan are the groups of its tables
  pub groups_are : (n : ℕ) (p : PlanSeen) → group_tables cmp short_keys (plan_groups n p) ≡ groups_of n (plan_tables (table cmp short_keys p.options) p.outputs)
  groups_are n p =
      seen_twice p.options (groups_of n p.outputs)
      ∙ sym (groups_mapped (λ (v : OutputView). (v.number, table cmp short_keys p.options v.entries)) n p.outputs)

  module _ (r : RequestView) (runs : List Run) where
    abbrev planning : Result (List OutputView) Fault
    planning = plan_of (table cmp short_keys r.options) r.options r.first_number (outputs_of r.picked.grandparents r.options (joined_run runs))

    module _ (p : PlanSeen) (same : p.options ≡ r.options) (is : planning ≡ Ok p.outputs) where
      -- the answer of a plan
      pub planned_answer : runs_answer cmp short_keys r runs ≡ Ok (answer_of (table cmp short_keys p.options) r p.outputs)
      planned_answer =
          ap (λ (plan : Result (List OutputView) Fault). plan >>= λ outputs. Ok (answer_of (table cmp short_keys r.options) r outputs)) is
          ∙ ap (λ (o : Options). Ok (answer_of (table cmp short_keys o) r p.outputs)) (sym same)

      module _ (n : ℕ) (groups : List PlanSeen) (edit : List ℕ) (dealt : plan_groups n p ≡ groups) (bytes : edit_bytes (edit_of r (planned_files r p.outputs)) ≡ edit) where
        abbrev value : GroupedAnswer
        value = record { groups = group_tables cmp short_keys groups; edit = edit }

        abbrev all : List (ℕ × List ℕ)
        all = plan_tables (table cmp short_keys p.options) p.outputs

        tables_are : value.groups ≡ groups_of n all
        tables_are = ap (group_tables cmp short_keys) (sym dealt) ∙ groups_are n p

        tables_joined : flat_map (λ (group : List (ℕ × List ℕ)). group) value.groups ≡ all
        tables_joined = ap (flat_map (λ (group : List (ℕ × List ℕ)). group)) tables_are ∙ groups_join n all

        -- the groups together are the answer
        pub groups_joined : runs_answer cmp short_keys r runs ≡ Ok (joined_answer value)
        groups_joined =
            planned_answer
            ∙ ap (λ (ts : List (ℕ × List ℕ)). Ok (record { tables = ts; edit = edit_bytes (edit_of r (planned_files r p.outputs)) })) (sym tables_joined)
            ∙ ap (λ (bs : List ℕ). Ok (record { tables = (joined_answer value).tables; edit = bs })) bytes

        -- and they are its tables, dealt out
        pub groups_dealt : value.groups ≡ groups_of n (joined_answer value).tables
        groups_dealt = tables_are ∙ ap (groups_of n) (sym tables_joined)

  -- ---- sizes

  -- the sizes of the tables of plans
  abbrev pub sizes_in : List PlanSeen → List (ℕ × ℕ)
  sizes_in plans = table_sizes (flat_map (λ group. group) (group_tables cmp short_keys plans))

  pub plan_more : (plans : List PlanSeen) (place : ℕ) (p : PlanSeen) (sizes more whole : List (ℕ × ℕ)) → place < length plans → get_or plans place p ≡ p → more ≡ sizes ++ table_sizes (plan_tables (table cmp short_keys p.options) p.outputs)
      → sizes ++ sizes_in (drop place plans) ≡ whole → more ++ sizes_in (drop (place + 1) plans) ≡ whole
  plan_more plans place p sizes more whole lt is pushed so_far =
      let rest : List PlanSeen = drop (place + 1) plans in
      let own : List (ℕ × List ℕ) = plan_tables (table cmp short_keys p.options) p.outputs in
      let front : drop place plans ≡ p ∷ rest = drop_more plans place p lt ∙ ap (λ (x : PlanSeen). x ∷ rest) is in
      ap (λ (ts : List (ℕ × ℕ)). ts ++ sizes_in rest) pushed
      ∙ append_assoc sizes (table_sizes own) (sizes_in rest)
      ∙ ap (λ (ts : List (ℕ × ℕ)). sizes ++ ts) (sym (map-append (λ (t : ℕ × List ℕ). (t.0, length t.1)) own (flat_map (λ group. group) (group_tables cmp short_keys rest))))
      ∙ sym (ap (λ (ps : List PlanSeen). sizes ++ sizes_in ps) front)
      ∙ so_far

  pub plans_done : (plans : List PlanSeen) (place : ℕ) (sizes whole : List (ℕ × ℕ)) → length plans ≤ place → sizes ++ sizes_in (drop place plans) ≡ whole → sizes ≡ whole
  plans_done plans place sizes whole done so_far =
      sym (append-nil sizes) ∙ sym (ap (λ (ps : List PlanSeen). sizes ++ sizes_in ps) (drop_all place plans done)) ∙ so_far

  -- the tables of the plan at a place
  pub tables_at : (plans : List PlanSeen) (place : ℕ) (p : PlanSeen) → place < length plans → get_or plans place p ≡ p → slice_get (group_tables cmp short_keys plans) place ≡ Some (plan_tables (table cmp short_keys p.options) p.outputs)
  tables_at [] place p lt is = absurd (omega arith)
  tables_at (q ∷ qs) zero p lt is = ap (λ (x : PlanSeen). Some (plan_tables (table cmp short_keys x.options) x.outputs)) is
  tables_at (q ∷ qs) (suc place) p lt is = tables_at qs place p (omega arith) is

-- the size of one table more
pub size_more : (table_of : List Entry → List ℕ) (outputs : List OutputView) (place : ℕ) (m : OutputMeta) → place < length outputs
    → IfSome (slice_get outputs place) (λ p. IsMetaOf p m) → IfSome (slice_get outputs place) (λ p. p.length ≡ length (table_of p.entries))
    → table_sizes (plan_tables table_of (take (place + 1) outputs)) ≡ table_sizes (plan_tables table_of (take place outputs)) ++ (m.number, m.len) ∷ []
size_more table_of [] place m lt is sized = absurd (omega (arith, lt))
size_more table_of (p ∷ ps) zero m lt is sized =
    ap (λ (n : ℕ). (n, length (table_of p.entries)) ∷ []) (sym is.number) ∙ ap (λ (n : ℕ). (m.number, n) ∷ []) (sym (is.len ∙ sized))
size_more table_of (p ∷ ps) (suc place) m lt is sized =
    let next : suc place + 1 ≡ suc (place + 1) = omega arith in
    ap (λ (n : ℕ). table_sizes (plan_tables table_of (take n (p ∷ ps)))) next
    ∙ ap (λ (ts : List (ℕ × ℕ)). (p.number, length (table_of p.entries)) ∷ ts) (size_more table_of ps place m (omega (arith, lt)) is sized)

-- ---- the tables of a group
