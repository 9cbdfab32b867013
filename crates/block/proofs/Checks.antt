-- A block is its area, its restarts and their number.
use Rattle.std.proofs.Common.{◌≡◌, ℕ, ◌+◌, ◌<◌, Bool, cond, List, [], ◌∷◌, ◌++◌, length, refl, sym, ap, subst, ◌∙◌, arith}
use Rattle.std.specs.List.{flat_map}
use Rattle.byteorder.specs.Endian.{little_bytes}
use Rattle.block.specs.EncodedEntry.{Entry, EncodedEntry, encoded_entry_bytes, restarts_from, restarts_of, block_bytes, BeginsWithRestart, IsBlock}
use Rattle.block.specs.BuilderState.{IsArea, sound_in}
use Rattle.block.specs.BlockParts.{HasBlockParts}
use Rattle.block.specs.EntriesOfBytes.{entries_of_encoded}
use Rattle.block.proofs.Restarts.{words, length-words}
use Rattle.block.proofs.Splits.{one_split}
use Rattle.block.proofs.Walks.{entries_of_area}
use Rattle.block.proofs.Places.{places_of_area}
use Rattle.block.specs.BlockView.{PointsAt}

-- there is a restart
pub some_restart : (ps : List EncodedEntry) → BeginsWithRestart ps → 0 < length (restarts_of ps)
some_restart [] h = omega arith
some_restart (p ∷ ps) h = subst (λ (b : Bool). 0 < length (cond b (0 ∷ []) [] ++ restarts_from (0 + length (encoded_entry_bytes p)) ps)) (sym h) (omega arith)

-- the parts of a block's bytes
record Parted (bytes : List ℕ) (entries : List Entry) : Type 0 where
  area : List ℕ
  restarts : List ℕ
  split : HasBlockParts bytes area restarts
  sound : IsArea area restarts
  same : entries_of_encoded [] area ≡ entries

parted : (bytes : List ℕ) (entries : List Entry) → IsBlock bytes entries → Parted bytes entries
parted bytes entries h =
    let sound : IsArea (flat_map encoded_entry_bytes h.0) (words (restarts_of h.0)) = (h.0, h.1, refl, refl) in
    record {
      area = flat_map encoded_entry_bytes h.0;
      restarts = words (restarts_of h.0);
      split = record { count = length (restarts_of h.0); some = some_restart h.0 h.1.first; fits = h.1.restarts.0; len = length-words (restarts_of h.0); whole = h.2 };
      sound = sound;
      same = entries_of_area (flat_map encoded_entry_bytes h.0) (words (restarts_of h.0)) sound ∙ h.3;
    }

whole_of : (bytes area restarts : List ℕ) → HasBlockParts bytes area restarts → (h : IsArea area restarts) → bytes ≡ block_bytes h.0
whole_of bytes area restarts s h =
    let count : s.count ≡ length (restarts_of h.0) = omega (arith, s.len, ap length h.3, length-words (restarts_of h.0)) in
    s.whole ∙ ap (λ (t : List ℕ). t ++ (restarts ++ little_bytes 4 s.count)) h.2 ∙ ap (λ (t : List ℕ). flat_map encoded_entry_bytes h.0 ++ (t ++ little_bytes 4 s.count)) h.3 ∙ ap (λ (n : ℕ). flat_map encoded_entry_bytes h.0 ++ (words (restarts_of h.0) ++ little_bytes 4 n)) count

pub is_block : (bytes area restarts : List ℕ) → HasBlockParts bytes area restarts → IsArea area restarts → IsBlock bytes (entries_of_encoded [] area)
is_block bytes area restarts s h = (h.0, h.1, whole_of bytes area restarts s h, sym (entries_of_area area restarts h))

pub points_at : (bytes area restarts : List ℕ) → HasBlockParts bytes area restarts → IsArea area restarts → PointsAt bytes (sound_in area restarts).restarts
points_at bytes area restarts s h = (h.0, h.1, whole_of bytes area restarts s h, sym (places_of_area area restarts h))

-- bytes without such parts are no block
pub no_parts : (bytes : List ℕ) (entries : List Entry) → IsBlock bytes entries → ((area restarts : List ℕ) → HasBlockParts bytes area restarts → ⊥) → ⊥
no_parts bytes entries h none = let p = parted bytes entries h in none p.area p.restarts p.split

-- the parts of a block are sound, and have its entries
pub parts_sound : (bytes area restarts : List ℕ) (entries : List Entry) → IsBlock bytes entries → HasBlockParts bytes area restarts → IsArea area restarts × (entries_of_encoded [] area ≡ entries)
parts_sound bytes area restarts entries h s =
    let p = parted bytes entries h in
    let one = one_split bytes p.area p.restarts area restarts p.split s in
    (subst (λ (t : List ℕ). IsArea area t) one.1 (subst (λ (t : List ℕ). IsArea t p.restarts) one.0 p.sound), ap (entries_of_encoded []) (sym one.0) ∙ p.same)
