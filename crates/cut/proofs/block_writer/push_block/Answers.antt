use Rattle.std.proofs.Common.{◌≡◌, ◌++◌, ◌∷◌, [], ◌<◌, ℕ, List, length, vec_len, sym, ap, subst, ◌∙◌, arith}
use Rattle.std.proofs.lemmas.Bool.{eqb-true, eqb-false}
use Rattle.std.proofs.lemmas.List.{nil_from_length}
use Rattle.block.specs.EncodedEntry.{Entry, restarts_of, restart_bytes}
use Rattle.block.specs.BlockFormat.{encoded_entries_from}
use Rattle.table.proofs.Refused.{OnOk-map}
use Rattle.cut.proofs.Appended.{restarts_none, restarts_some, restarts_fit, whole_block}
use Rattle.cut.proofs.block_writer.push_block.Goals as goal
use Rattle.cut.proofs.block_writer.push_block.Goals.{then-is_empty+in_ok-push, else-is_empty}

pub push_restarts-requires : goal.push_restarts-requires
push_restarts-requires c =
    let q : List Entry = c.args.entries.now.entries in
    let r : ℕ = c.args.interval in
    let kept : List ℕ = c.push_entries.new.restarts.items in
    let written : restarts_of (encoded_entries_from r 0 [] q) ≡ c.if-is_empty.restarts.items =
    elim c.if-is_empty.branch [
      | then-is_empty+in_ok-push w ↦
          let none : kept ≡ [] = nil_from_length kept (omega (arith, eqb-true (vec_len c.push_entries.new.restarts) 0 (sym w.if-is_empty.ensures))) in
          restarts_none r q kept c.in_ok-push_entries.ensures.restarts none ∙ ap (λ (xs : List ℕ). xs ++ 0 ∷ []) (sym none) ∙ sym w.in_ok-push.ensures.items ∙ ap (λ v. v.items) (sym w.restarts-is)
      | else-is_empty w ↦
          restarts_some r q kept c.in_ok-push_entries.ensures.restarts (omega (arith, eqb-false (vec_len c.push_entries.new.restarts) 0 (sym w.if-is_empty.ensures))) ∙ ap (λ v. v.items) (sym w.restarts-is)
    ] in
    subst (λ (xs : List ℕ). length xs < 4294967296) (sym c.deref.ensures.value) (restarts_fit r q c.if-is_empty.restarts.items c.requires.fits written)

pub returns-clause-ok : goal.returns-clause-ok
returns-clause-ok c =
    let q : List Entry = c.args.entries.now.entries in
    let r : ℕ = c.args.interval in
    let kept : List ℕ = c.push_entries.new.restarts.items in
    let written : restarts_of (encoded_entries_from r 0 [] q) ≡ c.if-is_empty.restarts.items =
    elim c.if-is_empty.branch [
      | then-is_empty+in_ok-push w ↦
          let none : kept ≡ [] = nil_from_length kept (omega (arith, eqb-true (vec_len c.push_entries.new.restarts) 0 (sym w.if-is_empty.ensures))) in
          restarts_none r q kept c.in_ok-push_entries.ensures.restarts none ∙ ap (λ (xs : List ℕ). xs ++ 0 ∷ []) (sym none) ∙ sym w.in_ok-push.ensures.items ∙ ap (λ v. v.items) (sym w.restarts-is)
      | else-is_empty w ↦
          restarts_some r q kept c.in_ok-push_entries.ensures.restarts (omega (arith, eqb-false (vec_len c.push_entries.new.restarts) 0 (sym w.if-is_empty.ensures))) ∙ ap (λ v. v.items) (sym w.restarts-is)
    ] in
    OnOk-map c.push_restarts.result _ _
    (λ e. e
    ∙ ap (λ (xs : List ℕ). c.push_entries.new.out.items ++ restart_bytes xs) c.deref.ensures.value
    ∙ whole_block r q c.args.out.now.items c.push_entries.new.out.items c.if-is_empty.restarts.items c.in_ok-push_entries.ensures.bytes written)
    c.push_restarts.ensures.ok
