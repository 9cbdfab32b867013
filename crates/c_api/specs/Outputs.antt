-- The bytes of one output.
use Rattle.std.specs.Prelude.{ℕ, Bool, ◌&&◌, if◌then◌else◌, List, map, None, Result, Err}
use Rattle.std.specs.List.{list_all}
use Rattle.ikey.specs.Answers.{◌>>=◌}
use Rattle.ikey.specs.fault.Fault.{Fault}
use Rattle.ikey.specs.fault.FaultName.TheVariants.{Empty, Options}
use Rattle.ikey.specs.Comparator.{KeyOrder, ShortKeys}
use Rattle.table.specs.EncodedEntry.{Entry}
use Rattle.table.specs.EntryTests.{entries_test, is_some_list}
use Rattle.table.specs.Options.{are_in_limits}
use Rattle.table.specs.Table.{table, within_limit}
use Rattle.table.specs.TestResult.{test_result}
use Rattle.table.specs.declared.options.Options as declared
use Rattle.c_api.specs.Codes.{coded}
use Rattle.c_api.specs.Orders.{by_orders}
use Rattle.c_api.specs.Places.{is_within, part_at}
use Rattle.c_api.specs.Requests.{options_of}
use Rattle.c_api.specs.declared.code.TheConstants.{MISUSE}
use Rattle.c_api.specs.declared.output_calls.Entry as host
use Rattle.c_api.specs.declared.request.HostRequest.{HostRequest}

-- whether the key and the value of an entry lie in what is lent
abbrev pub is_entry : List ℕ → List ℕ → host.Entry → Bool
is_entry keys values entry = is_within keys entry.key && is_within values entry.value

-- the entry that lies there
abbrev pub entry_at : List ℕ → List ℕ → host.Entry → Entry
entry_at keys values entry =
    record { key = part_at keys entry.key; value = part_at values entry.value }

-- The table of entries. The first that applies:
-- - Options: an option is outside its limits;
-- - Empty: there is no entry;
-- - of each entry in order Key, TooLarge, Order, as the check of a table has them;
-- - TooLarge: the table would exceed its limit.
abbrev pub output_reading : declared.Options → List Entry → KeyOrder → ShortKeys →
    Result (List ℕ) Fault
output_reading o entries cmp short_keys = do
  _ ← test_result (are_in_limits o) Options
  _ ← test_result (is_some_list entries) Empty
  _ ← entries_test cmp None entries
  within_limit (table cmp short_keys o entries)

-- the same in the request's order; MISUSE if an entry isn't lent
abbrev pub output_answer : HostRequest → List ℕ → List ℕ → List host.Entry → Result (List ℕ) ℕ
output_answer r keys values entries =
    if list_all (is_entry keys values) entries
    then coded (by_orders r.order
    (output_reading (options_of r) (map (entry_at keys values) entries)))
    else Err MISUSE
