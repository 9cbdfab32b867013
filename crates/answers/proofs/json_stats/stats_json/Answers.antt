use Rattle.std.proofs.Common.{◌≡◌, List, codes, Ok, map, sym, ap, ap₂, ◌∙◌}
use Rattle.serde_json.specs.Data.{Data, Members, array, no_members, object, put}
use Rattle.serde_json.specs.View.{items_of, members_view, view}
use Rattle.serde_json.proofs.Views.{view-Array, view-Object}
use Rattle.table.proofs.Binds.{ok_is}
use Rattle.answers.specs.StatsObject.{level_object}
use Rattle.answers.proofs.json_stats.stats_json.Goals as goal

pub returns : goal.returns
returns c =
    let all = map (level_object c.args.spelling) c.args.stats.now.levels.items in
    let levels : map view c.in_ok-levels.levels.items ≡ all =
    sym (ok_is _ _ c.in_ok-levels.ensures) ∙ ap (map (level_object c.args.spelling)) c.deref.ensures.value in
    let first : members_view c.put.new.map.entries ≡ put (codes "levels") (array (items_of all)) no_members =
    c.in_ok-put.ensures.ok ∙ ap (λ (d : Data). put (codes "levels") d (members_view c.new-members.result.entries)) (view-Array c.in_ok-levels.levels)
    ∙ ap₂ (λ (ls : List Data) (ms : Members). put (codes "levels") (array (items_of ls)) ms) levels (ap members_view c.new-members.ensures.empty) in
    let second = c.in_ok-put-2.ensures.ok ∙ ap₂ (put (codes "logs")) (sym (ok_is _ _ c.in_ok-logs.ensures)) first in
    let third = c.in_ok-put-3.ensures.ok ∙ ap₂ (put (codes "unnamed")) (sym (ok_is _ _ c.in_ok-unnamed.ensures)) second in
    ap (λ (d : Data). Ok d) (sym (view-Object c.put-3.new.map ∙ ap object third))
