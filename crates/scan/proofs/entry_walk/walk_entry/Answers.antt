use Rattle.std.proofs.Common.{◌≡◌, ℕ, List, [], ◌∷◌, Some, Ok, sym, ap, subst, ◌∙◌, refl}
use Rattle.block.specs.EncodedEntry.{Entry}
use Rattle.table.specs.Key.{user_of}
use Rattle.reads.specs.kind.Kind.TheVariants.{Put, Delete}
use Rattle.scan.specs.Row.{Row}
use Rattle.scan.specs.EntryRows.{entry_rows}
use Rattle.scan.specs.RowParts.{AreTelling}
use Rattle.scan.proofs.EntrySteps.{nothing_told, over_decided, over_told, own_decided, own_rows}
use Rattle.scan.proofs.Told.{handed_begun, refused_first}
use Rattle.scan.proofs.entry_walk.walk_entry.Goals as goal

pub returns-then-is_over-clause-told : goal.returns-then-is_over-clause-told
returns-then-is_over-clause-told g c =
    let e : Entry = record { key = c.args.key.bytes.now; value = c.args.value.now } in
    over_told c.args.at c.args.decided.now e g.T.RowTaker.tells c.args.taker.now c.args.left c.requires (sym c.is_passed_over-is_over.ensures ∙ c.if-is_over.true)

pub returns-then-is_over-clause-decided : goal.returns-then-is_over-clause-decided
returns-then-is_over-clause-decided g c =
    let e : Entry = record { key = c.args.key.bytes.now; value = c.args.value.now } in
    over_decided c.args.at c.args.decided.now e (sym c.is_passed_over-is_over.ensures ∙ c.if-is_over.true)

pub returns-in_err-set-clause-told : goal.returns-in_err-set-clause-told
returns-in_err-set-clause-told g c =
    let tells = g.T.RowTaker.tells in
    let e : Entry = record { key = c.args.key.bytes.now; value = c.args.value.now } in
    let rows = entry_rows c.args.at c.args.decided.now e in
    handed_begun tells rows c.args.taker.now c.args.taker.now c.args.left c.from_residual.result c.in_err-set.field-0.0 c.from_residual.ensures.1 (refused_first tells rows c.args.taker.now c.args.taker.now c.args.left refl)

pub returns-in-Put-clause-told : goal.returns-in-Put-clause-told
returns-in-Put-clause-told g c =
    let tells = g.T.RowTaker.tells in
    let e : Entry = record { key = c.args.key.bytes.now; value = c.args.value.now } in
    let user : c.user-user.result.now ≡ user_of c.args.key.bytes.now = c.user-user.ensures in
    let one : record { key = c.user-user.result.now; value = c.args.value.now } ∷ [] ≡ entry_rows c.args.at c.args.decided.now e =
    ap (λ (k : List ℕ). let r : Row = record { key = k; value = c.args.value.now } in r ∷ []) user ∙ sym (own_rows c.args.at c.args.decided.now e Put (sym c.is_passed_over-is_over.ensures ∙ c.if-is_over.false) (sym c.kind.ensures ∙ c.in-Put.is)) in
    subst (λ (rs : List Row). AreTelling tells rs c.args.taker.now c.args.left c.tell.new.taker (Ok c.tell.result)) one c.tell.ensures

pub returns-in-Put-clause-decided : goal.returns-in-Put-clause-decided
returns-in-Put-clause-decided g c =
    let e : Entry = record { key = c.args.key.bytes.now; value = c.args.value.now } in
    c.in_ok-set.ensures.ok ∙ ap (λ (u : List ℕ). Some u) c.user-user.ensures ∙ own_decided c.args.at c.args.decided.now e (sym c.is_passed_over-is_over.ensures ∙ c.if-is_over.false)

pub returns-in-Delete-clause-told : goal.returns-in-Delete-clause-told
returns-in-Delete-clause-told g c =
    let tells = g.T.RowTaker.tells in
    let e : Entry = record { key = c.args.key.bytes.now; value = c.args.value.now } in
    nothing_told c.args.at c.args.decided.now e tells c.args.taker.now c.args.left c.requires (own_rows c.args.at c.args.decided.now e Delete (sym c.is_passed_over-is_over.ensures ∙ c.if-is_over.false) (sym c.kind.ensures ∙ c.in-Delete.is))

pub returns-in-Delete-clause-decided : goal.returns-in-Delete-clause-decided
returns-in-Delete-clause-decided g c =
    let e : Entry = record { key = c.args.key.bytes.now; value = c.args.value.now } in
    c.in_ok-set.ensures.ok ∙ ap (λ (u : List ℕ). Some u) c.user-user.ensures ∙ own_decided c.args.at c.args.decided.now e (sym c.is_passed_over-is_over.ensures ∙ c.if-is_over.false)
