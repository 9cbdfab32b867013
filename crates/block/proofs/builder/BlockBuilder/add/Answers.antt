use Rattle.std.proofs.Common.{◌≡◌, ◌≤◌, ◌+◌, ◌^◌, ◌++◌, ◌∷◌, [], cond, eqb, ℕ, List, length, sym, ap, refl, subst, ◌∙◌, arith}
use Rattle.std.proofs.lemmas.Bool.{eq-eqb, ne_eqb}
use Rattle.std.proofs.lemmas.List.{take_rest, append-nil}
use Rattle.block.specs.EncodedEntry.{encoded_entry_bytes}
use Rattle.block.specs.EntriesOfBytes.{entries_of_encoded}
use Rattle.block.specs.BlockFormat.{block}
use Rattle.block.specs.BuilderView.{BlockBuilding, with_entry}
use Rattle.block.specs.BuilderState.{IsBlockBuilder}
use Rattle.block.proofs.Built.{length-built, since_below, next_piece, next_shared, next_piece_bytes, next_last, next_since, IsKept-next, entries_of_encoded-next}
use Rattle.block.proofs.builder.BlockBuilder.add.Goals as goal
use Rattle.block.proofs.builder.BlockBuilder.add.Goals.{then-self-eq0+in_ok-push, else-self-eq0}

pub overflow_cast-offset : goal.overflow_cast-offset
overflow_cast-offset c = omega (arith, length-built c.self.invariant)

pub next_since-self-inside-requires : goal.next_since-self-inside-requires
next_since-self-inside-requires c =
    let was = c.self.inside in
    let interval_same : c.if-self-eq0.self-inside.interval ≡ was.interval =
    elim c.if-self-eq0.branch [
      | then-self-eq0+in_ok-push w ↦ ap (λ b. b.interval) w.self-inside-is
      | else-self-eq0 w ↦ ap (λ b. b.interval) w.self-inside-is
    ] in
    let since_same : c.if-self-eq0.self-inside.since ≡ was.since =
    elim c.if-self-eq0.branch [
      | then-self-eq0+in_ok-push w ↦ ap (λ b. b.since) w.self-inside-is
      | else-self-eq0 w ↦ ap (λ b. b.since) w.self-inside-is
    ] in
    omega (arith, interval_same, since_same, since_below c.self.invariant)

pub invariant_of-self-2 : goal.invariant_of-self-2
invariant_of-self-2 c =
    let was = c.self.inside in
    let shared = c.shared_len-shared.result in
    let shared_is : shared ≡ next_shared was.since was.last.items c.args.key.now = rw (← c.deref.ensures.value) c.shared_len-shared.ensures.value in
    let rest_is = take_rest c.args.key.now shared in
    let offset : c.len-offset.result ≡ length was.bytes.items = omega arith in
    let interval_same : c.if-self-eq0.self-inside.interval ≡ was.interval =
    elim c.if-self-eq0.branch [
      | then-self-eq0+in_ok-push w ↦ ap (λ b. b.interval) w.self-inside-is
      | else-self-eq0 w ↦ ap (λ b. b.interval) w.self-inside-is
    ] in
    let since_same : c.if-self-eq0.self-inside.since ≡ was.since =
    elim c.if-self-eq0.branch [
      | then-self-eq0+in_ok-push w ↦ ap (λ b. b.since) w.self-inside-is
      | else-self-eq0 w ↦ ap (λ b. b.since) w.self-inside-is
    ] in
    let last_same : c.if-self-eq0.self-inside.last.items ≡ was.last.items =
    elim c.if-self-eq0.branch [
      | then-self-eq0+in_ok-push w ↦ ap (λ b. b.last.items) w.self-inside-is ∙ c.reserve-2.ensures.items
      | else-self-eq0 w ↦ ap (λ b. b.last.items) w.self-inside-is ∙ c.reserve-2.ensures.items
    ] in
    let bytes : c.if-self-eq0.self-inside.bytes.items ≡ c.push_encoded_entry.new.out.items =
    elim c.if-self-eq0.branch [
      | then-self-eq0+in_ok-push w ↦ ap (λ b. b.bytes.items) w.self-inside-is
      | else-self-eq0 w ↦ ap (λ b. b.bytes.items) w.self-inside-is
    ] in
    let pieces : c.if-self-eq0.self-inside.bytes.items ≡ was.bytes.items ++ encoded_entry_bytes (next_piece was.since was.last.items c.args.key.now c.args.value.now) =
    bytes ∙ c.in_ok-push_encoded_entry.ensures.ok ∙ ap (λ (x : List ℕ). was.bytes.items ++ x) (next_piece_bytes was.since was.last.items c.args.key.now c.args.value.now _ shared shared_is rest_is) in
    let restarts : c.if-self-eq0.self-inside.restarts.items ≡ was.restarts.items ++ cond (eqb was.since 0) (length was.bytes.items ∷ []) [] =
    elim c.if-self-eq0.branch [
      | then-self-eq0+in_ok-push w ↦ ap (λ b. b.restarts.items) w.self-inside-is ∙ w.in_ok-push.ensures.items ∙ rw (c.reserve.ensures.items, eq-eqb was.since 0 w.if-self-eq0.true, offset) refl
      | else-self-eq0 w ↦ ap (λ b. b.restarts.items) w.self-inside-is ∙ c.reserve.ensures.items ∙ rw (ne_eqb was.since 0 w.if-self-eq0.false) (sym (append-nil was.restarts.items))
    ] in
    let last : c.extend_from_slice.new.self.items ≡ c.args.key.now =
    c.in_ok-extend_from_slice.ensures.items ∙ rw (c.truncate.ensures.items, last_same) (next_last was.since was.last.items c.args.key.now _ shared shared_is rest_is) in
    let since : c.next_since-self-inside.result ≡ next_since was.interval was.since =
    c.next_since-self-inside.ensures ∙ ap (λ (n : ℕ). next_since n c.if-self-eq0.self-inside.since) interval_same ∙ ap (λ (n : ℕ). next_since was.interval n) since_same in
    let fits = subst (λ (b : BlockBuilding). length (block b.interval (with_entry b.entries c.args.key.now c.args.value.now)) ≤ 2 ^ 31) (sym c.self.view_is) c.requires in
    let kept = IsKept-next c.args.key.now c.args.value.now c.if-self-eq0.self-inside.bytes.items c.if-self-eq0.self-inside.restarts.items c.extend_from_slice.new.self.items c.next_since-self-inside.result c.self.invariant fits pieces restarts last since in
    subst (λ (r : ℕ). IsBlockBuilder r (entries_of_encoded [] c.if-self-eq0.self-inside.bytes.items) c.if-self-eq0.self-inside.bytes.items c.if-self-eq0.self-inside.restarts.items c.extend_from_slice.new.self.items c.next_since-self-inside.result) (sym interval_same) kept.built

pub returns-clause-ok : goal.returns-clause-ok
returns-clause-ok c =
    let was = c.self.inside in
    let shared = c.shared_len-shared.result in
    let shared_is : shared ≡ next_shared was.since was.last.items c.args.key.now = rw (← c.deref.ensures.value) c.shared_len-shared.ensures.value in
    let rest_is = take_rest c.args.key.now shared in
    let interval_same : c.if-self-eq0.self-inside.interval ≡ was.interval =
    elim c.if-self-eq0.branch [
      | then-self-eq0+in_ok-push w ↦ ap (λ b. b.interval) w.self-inside-is
      | else-self-eq0 w ↦ ap (λ b. b.interval) w.self-inside-is
    ] in
    let bytes : c.if-self-eq0.self-inside.bytes.items ≡ c.push_encoded_entry.new.out.items =
    elim c.if-self-eq0.branch [
      | then-self-eq0+in_ok-push w ↦ ap (λ b. b.bytes.items) w.self-inside-is
      | else-self-eq0 w ↦ ap (λ b. b.bytes.items) w.self-inside-is
    ] in
    let pieces : c.if-self-eq0.self-inside.bytes.items ≡ was.bytes.items ++ encoded_entry_bytes (next_piece was.since was.last.items c.args.key.now c.args.value.now) =
    bytes ∙ c.in_ok-push_encoded_entry.ensures.ok ∙ ap (λ (x : List ℕ). was.bytes.items ++ x) (next_piece_bytes was.since was.last.items c.args.key.now c.args.value.now _ shared shared_is rest_is) in
    let fits = subst (λ (b : BlockBuilding). length (block b.interval (with_entry b.entries c.args.key.now c.args.value.now)) ≤ 2 ^ 31) (sym c.self.view_is) c.requires in
    let entries = entries_of_encoded-next c.args.key.now c.args.value.now c.if-self-eq0.self-inside.bytes.items c.self.invariant fits pieces in
    rw (← c.self.view_is, interval_same, entries) refl
