use Rattle.std.proofs.Common.{◌≡◌, ◌++◌, ℕ, List, Bor, [], vec_len, sym, ap, ◌∙◌, append_assoc, inl, inr, arith}
use Rattle.std.proofs.lemmas.Bool.{eqb-true, eqb-false}
use Rattle.block.specs.EncodedEntry.{restarts_of, restart_bytes}
use Rattle.block.specs.EntriesOfBytes.{entries_of_encoded}
use Rattle.block.specs.BlockFormat.{encoded_entries_from, block}
use Rattle.block.specs.BuilderView.{BlockBuilding}
use Rattle.block.proofs.Built.{restarts_of-written, length-written, finished}
use Rattle.block.proofs.builder.BlockBuilder.push_block.Goals as goal
use Rattle.block.proofs.builder.BlockBuilder.push_block.Goals.{then-is_empty, else-is_empty}

pub push_restarts-requires : goal.push_restarts-requires
push_restarts-requires c =
    let kept = c.self.inside.restarts in
    let written : restarts_of (encoded_entries_from c.self.inside.interval 0 [] (entries_of_encoded [] c.self.inside.bytes.items)) ≡ c.if-is_empty.written.now =
    restarts_of-written c.if-is_empty.written.now c.self.invariant (elim c.if-is_empty.branch [
      | then-is_empty w ↦ inl (omega (arith, eqb-true (vec_len kept) 0 (sym w.if-is_empty.ensures)), ap (λ (b : Bor (List ℕ)). b.now) w.written-is ∙ w.as_slice-written.ensures)
      | else-is_empty w ↦ inr (omega (arith, eqb-false (vec_len kept) 0 (sym w.if-is_empty.ensures)), ap (λ (b : Bor (List ℕ)). b.now) w.written-is ∙ w.as_slice-written-else-is_empty.ensures.value)
    ]) in
    length-written c.if-is_empty.written.now c.self.invariant written

pub returns-clause-ok : goal.returns-clause-ok
returns-clause-ok c =
    let kept = c.self.inside.restarts in
    let written : restarts_of (encoded_entries_from c.self.inside.interval 0 [] (entries_of_encoded [] c.self.inside.bytes.items)) ≡ c.if-is_empty.written.now =
    restarts_of-written c.if-is_empty.written.now c.self.invariant (elim c.if-is_empty.branch [
      | then-is_empty w ↦ inl (omega (arith, eqb-true (vec_len kept) 0 (sym w.if-is_empty.ensures)), ap (λ (b : Bor (List ℕ)). b.now) w.written-is ∙ w.as_slice-written.ensures)
      | else-is_empty w ↦ inr (omega (arith, eqb-false (vec_len kept) 0 (sym w.if-is_empty.ensures)), ap (λ (b : Bor (List ℕ)). b.now) w.written-is ∙ w.as_slice-written-else-is_empty.ensures.value)
    ]) in
    let out : List ℕ = c.args.out.now.items in
    let pieces : List ℕ = c.self.inside.bytes.items in
    let numbers : List ℕ = restart_bytes c.if-is_empty.written.now in
    let begun : c.extend_from_slice.new.self.items ≡ out ++ pieces = c.in_ok-extend_from_slice.ensures.items ∙ ap (λ (x : List ℕ). out ++ x) c.deref.ensures.value in
    let whole : pieces ++ numbers ≡ block c.self.inside.interval (entries_of_encoded [] pieces) = finished c.if-is_empty.written.now c.self.invariant written in
    c.in_default.ensures.ok
    ∙ ap (λ (x : List ℕ). x ++ numbers) begun
    ∙ append_assoc out pieces numbers
    ∙ ap (λ (x : List ℕ). out ++ x) (whole ∙ ap (λ (b : BlockBuilding). block b.interval b.entries) c.self.view_is)
