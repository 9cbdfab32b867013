use Rattle.std.proofs.Common.{◌≡◌, ◌-◌, ◌*◌, length, sym, ap, ◌∙◌, arith}
use Rattle.std.proofs.lemmas.List.{take-append-drop}
use Rattle.byteorder.specs.Endian.{little_number}
use Rattle.coding.proofs.Bytes.{IsBytes-drop}
use Rattle.block.proofs.Splits.{split_found, split_count}
use Rattle.block.proofs.sound_block.split.Goals as goal
use Rattle.block.proofs.sound_block.split.Goals.{then-count-eq0-via-then-count-eq0, then-count-eq0-via-else-count-eq0+then-front-count}

pub returns-then-count-eq0-clause-none : goal.returns-then-count-eq0-clause-none
returns-then-count-eq0-clause-none c area restarts s =
    let n = split_count c.args.bytes.now area restarts s in
    let count : c.read_u32-count.result ≡ s.count = c.read_u32-count.ensures ∙ ap (little_number 4) c.split_at.ensures.back ∙ n.0 in
    elim c.then-count-eq0.branch [
      | then-count-eq0-via-then-count-eq0 w ↦ omega (arith, s.some)
      | then-count-eq0-via-else-count-eq0+then-front-count w ↦ omega (arith, n.1)
    ]

pub returns-clause-found : goal.returns-clause-found
returns-clause-found c =
    let tail = c.split_at.result.1.now in
    let fits = IsBytes-drop (length c.args.bytes.now - 4) c.args.bytes.now (λ i. omega (arith, c.type_inv.bytes i)) in
    split_found c.args.bytes.now c.split_at.result.0.now c.split_at.result.1.now c.split_at-2.result.0.now c.split_at-2.result.1.now
    (λ i. rw c.split_at.ensures.back (fits i))
    (rw (c.split_at.ensures.front, c.split_at.ensures.back) (sym (take-append-drop (length c.args.bytes.now - 4) c.args.bytes.now)))
    (omega arith)
    (rw (c.split_at-2.ensures.front, c.split_at-2.ensures.back) (sym (take-append-drop (length c.split_at.result.0.now - c.read_u32-count.result * 4) c.split_at.result.0.now)))
    (omega (arith, c.read_u32-count.ensures))
    (omega (arith, c.read_u32-count.ensures))
