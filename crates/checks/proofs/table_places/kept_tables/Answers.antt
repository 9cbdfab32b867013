use Rattle.std.proofs.Common.{◌++◌, ◌∷◌, [], List, Some}
use Rattle.std.specs.Prelude.{Contains}
use Rattle.std.proofs.lemmas.List.Elements.{All-contains_itself, All-nil, All-pop, All-push, All-same}
use Rattle.reads.specs.Tables.{NumberedContents}
use Rattle.checks.proofs.table_places.kept_tables.Goals as goal

pub loop-table-init : goal.loop-table-init
loop-table-init g c =
    let held : List NumberedContents = c.args.held.items in
    record {
      rest = All-contains_itself held;
      kept = All-same (Contains held) c.in_ok-kept.kept.items [] c.in_ok-kept.ensures.items (All-nil (Contains held));
    }

pub loop-table-preserved-in-Continue-branch-3 : goal.loop-table-preserved-in-Continue-branch-3
loop-table-preserved-in-Continue-branch-3 g c =
    let held : List NumberedContents = c.args.held.items in
    let i = c.loop-table.invariant in
    let t : NumberedContents = c.in-Some.table in
    let before : List NumberedContents = c.loop-table.kept.items in
    let popped = All-pop (Contains held) c.loop-table.rest.items c.pop.new.self.items (Some t) c.in-Some.ensures.items i.rest in
    record {
      rest = popped.0;
      kept = All-same (Contains held) c.push.new.self.items (before ++ t ∷ []) c.in_ok-push.ensures.items (All-push (Contains held) before t i.kept popped.1);
    }

pub loop-table-preserved : goal.loop-table-preserved
loop-table-preserved g c =
    let held : List NumberedContents = c.args.held.items in
    let t : NumberedContents = c.in-Some.table in
    let popped = All-pop (Contains held) c.loop-table.rest.items c.pop.new.self.items (Some t) c.in-Some.ensures.items c.loop-table.invariant.rest in
    record { rest = popped.0; kept = c.loop-table.invariant.kept }
