use Rattle.std.proofs.Common.{◌≡◌, map, drop}
use Rattle.serde_json.specs.View.{members_view}
use Rattle.answers.specs.Fields.{field_data}
use Rattle.answers.specs.Objects.{members_of, with_fields}
use Rattle.answers.proofs.json_object.members.Given as goal

-- the members so far, with the fields that are left, are all
abbrev pub invariant-loop-name : goal.invariant-loop-name
invariant-loop-name l = with_fields (members_view l.members.entries) (map (field_data l.spelling) (drop l.name-index l.fields)) ≡ members_of (map (field_data l.spelling) l.fields)
