-- The outputs of a compaction, as lists of entries. All kept entries of a user key go to one
-- output.
use Rattle.std.specs.Prelude.{◌≡◌, ◌≢◌, ◌⊎◌, ◌↔◌, ℕ, ◌-◌, ◌<◌, ◌≤◌, nat_le, Bool, false, not, ◌&&◌}
use Rattle.std.specs.Prelude.{if◌then◌else◌, List, [], ◌∷◌, ◌++◌, length, take, drop, flat_map}
use Rattle.std.specs.List.{AllByRecursion}
use Rattle.std.specs.Str.{bytes_eq}
use Rattle.std.specs.declared.cmp.Ordering.TheVariants.{Less}
use Rattle.ikey.specs.Key.{user_of}
use Rattle.ikey.specs.Comparator.{KeyOrder}
use Rattle.block.specs.EncodedEntry.{Entry}
use Rattle.block.specs.BuilderView.{last_key}
use Rattle.table.specs.declared.options.Options.{Options}
use Rattle.table.specs.DataBlocks.{open_block, flushed}
use Rattle.keep.specs.MergedLists.{entries_of_lists}
use Rattle.keep.specs.Union.{VersionsRise}
use Rattle.keep.specs.meta.FileMeta.{FileMeta}
use Rattle.split.specs.Boundaries.{IsSplit}
use Rattle.keep.specs.DropRule.{kept}
use Rattle.keep.specs.Marks.{CompactionContext, heads}
use Rattle.keep.specs.Runs.{Run, joined_run, runs_of}
use Rattle.cut.specs.Stops.{stops}

-- the segments of entries between stops, with `from` entries before them
abbrev pub segments : ℕ → List ℕ → List Entry → List (List Entry)
segments from [] es = es ∷ []
segments from (stop ∷ stops) es =
    take (stop - from) es ∷ segments stop stops (drop (stop - from) es)

-- Whether an output of these entries ends before the next one: its flushed blocks have reached the
-- maximal file size, and the next entry has another user key. The open block isn't counted.
abbrev pub ends_before : Options → List Entry → Entry → Bool
ends_before o [] next = false
ends_before o (e ∷ es) next = nat_le o.file_size (flushed o (e ∷ es))
    && not (bytes_eq (user_of (last_key e.key es)) (user_of next.key))

-- the outputs of the rest of a segment, if the open output has the entries `latest`
abbrev pub outputs_after : Options → List Entry → List Entry → List (List Entry)
outputs_after o latest [] = open_block latest
outputs_after o latest (e ∷ es) =
    if ends_before o latest e then latest ∷ outputs_after o (e ∷ []) es
    else outputs_after o (latest ++ e ∷ []) es

-- the outputs of the kept entries of a segment
abbrev pub outputs_in : Options → List Entry → List (List Entry)
outputs_in o segment = outputs_after o [] segment

-- the outputs of kept entries, cut at the stops of their marks and then by size
abbrev pub outputs_of : List FileMeta → Options → Run → List (List Entry)
outputs_of grandparents o run =
    flat_map (outputs_in o) (segments 0 (stops grandparents o.file_size run.marks) run.kept)

-- The outputs of a compaction of the union of its inputs. The stops at the first entries of all
-- user keys cut the union into segments, and the kept entries of each are cut into outputs by size.
abbrev pub outputs : KeyOrder → CompactionContext → Options → List Entry → List (List Entry)
outputs cmp b o union = outputs_of b.grandparents o
    (record { kept = kept cmp b.readable b.deeper union; marks = heads cmp b union })

-- An output of entries q may end before the rest. Its flushed blocks have reached the maximal file
-- size. No entry of the rest has the user key of its last one.
pub record MayEnd (o : Options) (q rest : List Entry) : Type 0 where
  pub reached : o.file_size ≤ flushed o q
  pub whole : AllByRecursion (λ e. user_of e.key ≢ user_of (last_key [] q)) rest

-- q is an output, with the rest of its segment after it. It has an entry, and it is the shortest
-- beginning that may end, or all of the segment.
pub record IsOutput (o : Options) (q rest : List Entry) : Type 0 where
  pub some : q ≢ []
  pub shortest : (n : ℕ) → 0 < n → n < length q → MayEnd o (take n q) (drop n q ++ rest) → ⊥
  pub ended : MayEnd o q rest ⊎ (rest ≡ [])

-- the parts are the outputs of a segment: the first is one, with the entries of the others after it
abbrev pub AreOutputs : Options → List Entry → List (List Entry) → Type 0
AreOutputs o segment [] = segment ≡ []
AreOutputs o segment (q ∷ qs) = (rest : List Entry) × (segment ≡ q ++ rest) × IsOutput o q rest
    × AreOutputs o rest qs

-- the user keys of the first entries are below those of the second
abbrev pub AreBelow : KeyOrder → List Entry → List Entry → Type 0
AreBelow cmp xs ys =
    AllByRecursion (λ x. AllByRecursion (λ y. cmp (user_of x.key) (user_of y.key) ≡ Less) ys) xs

-- the user keys of each part are below those of all later parts, so no user key is in two
abbrev pub UsersRise : KeyOrder → List (List Entry) → Type 0
UsersRise cmp [] = Unit {0}
UsersRise cmp (q ∷ qs) = AreBelow cmp q (entries_of_lists qs) × UsersRise cmp qs

-- Whole: the outputs are the kept entries, cut into parts of which none is empty, and all kept
-- entries of a user key go to one.
pub record WholeLaw (cmp : KeyOrder) : Type 0 where
  pub all : (grandparents : List FileMeta) (o : Options) (run : Run) →
      entries_of_lists (outputs_of grandparents o run) ≡ run.kept
  pub some : (grandparents : List FileMeta) (o : Options) (run : Run) →
      AllByRecursion (λ q. q ≢ []) (outputs_of grandparents o run)
  pub users : (b : CompactionContext) (o : Options) (union : List Entry) → VersionsRise cmp union →
      UsersRise cmp (outputs cmp b o union)

-- a segment whose entries are in order has these outputs and no others
abbrev pub OutputsLaw : KeyOrder → Type 0
OutputsLaw cmp =
    (o : Options) (segment : List Entry) (qs : List (List Entry)) →
    VersionsRise cmp segment → AreOutputs o segment qs ↔ (outputs_in o segment ≡ qs)

-- the runs of the ranges of a split have together the outputs of the union
abbrev pub RangesCutLaw : KeyOrder → Type 0
RangesCutLaw cmp =
    (b : CompactionContext) (o : Options) (boundaries : List (List ℕ)) (union : List Entry) →
    IsSplit cmp boundaries → VersionsRise cmp union →
    outputs_of b.grandparents o (joined_run (runs_of cmp b boundaries union))
    ≡ outputs cmp b o union
