use Rattle.std.proofs.Common.{◌≡◌, ◌<◌, ◌++◌, ◌∷◌, [], ℕ, List, length, get_or, sym, ap, ◌∙◌, arith}
use Rattle.std.specs.Prelude.{Option}
use Rattle.std.proofs.lemmas.List.{map-append, take_more}
use Rattle.std.proofs.lemmas.List.Elements.{All-nil, All-push, All-same}
use Rattle.reads.specs.Tables.{NumberedContents}
use Rattle.checks.specs.TablePlaces.{HasKept, place_numbers}
use Rattle.checks.proofs.KeptTables.{has_kept}
use Rattle.checks.proofs.table_places.reused_places.Goals as goal

pub loop-number-init : goal.loop-number-init
loop-number-init g c =
    let Kept = HasKept c.args.held.items in
    record {
      ahead = c.in_ok-ahead.ensures.kept;
      kept = All-same Kept c.in_ok-places.places.items [] c.in_ok-places.ensures.items (All-nil Kept);
      numbers = ap place_numbers c.in_ok-places.ensures.items;
    }

pub loop-number-preserved : goal.loop-number-preserved
loop-number-preserved g c =
    let held : List NumberedContents = c.args.held.items in
    let i = c.loop-number.invariant in
    let n : ℕ = get_or c.args.numbers.now c.loop-number.number-index 0 in
    let lt : c.loop-number.number-index < length c.args.numbers.now = omega arith in
    let kept : Option NumberedContents = c.taken-kept.result in
    let placed : List (ℕ × Option NumberedContents) = c.loop-number.places.items in
    let popped = c.taken-kept.ensures.held held i.ahead in
    let pushed : c.push.new.self.items ≡ placed ++ (n, kept) ∷ [] = c.in_ok-push.ensures.items in
    record {
      ahead = popped.0;
      kept = All-same (HasKept held) c.push.new.self.items (placed ++ (n, kept) ∷ []) pushed (All-push (HasKept held) placed (n, kept) i.kept (has_kept held n kept c.taken-kept.ensures.number popped.1));
      numbers =
          ap place_numbers pushed
          ∙ map-append (λ (p : ℕ × Option NumberedContents). p.0) placed ((n, kept) ∷ [])
          ∙ ap (λ (ns : List ℕ). ns ++ n ∷ []) i.numbers
          ∙ sym (take_more c.args.numbers.now c.loop-number.number-index 0 lt);
    }
