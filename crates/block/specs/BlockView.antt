-- What a block has: entries, and restarts that point at some of them.
use Rattle.std.specs.Prelude.{◌≡◌, ℕ, ◌+◌, if◌then◌else◌, List, [], ◌∷◌, ◌++◌}
use Rattle.byteorder.specs.Endian.{little_number}
use Rattle.block.specs.EncodedEntry.{Entry, EncodedEntry, block_bytes, AreOfBlock}

-- the entries, and the places among them at which restarts point
pub record BlockView : Type 0 where
  pub entries : List Entry
  pub restarts : List ℕ

-- the places of the encoded entries that restarts point at, the first encoded entry being at place
-- `place`
abbrev pub restart_places_from : ℕ → List EncodedEntry → List ℕ
restart_places_from place [] = []
restart_places_from place (p ∷ ps) = (if p.is_restart then place ∷ [] else [])
    ++ restart_places_from (place + 1) ps

-- the places of a block's restarts; without entries the one restart is at place 0
abbrev pub places_of : List EncodedEntry → List ℕ
places_of [] = 0 ∷ []
places_of (p ∷ ps) = restart_places_from 0 (p ∷ ps)

-- The bytes are a block whose restarts point at the entries at these places.
abbrev pub PointsAt : List ℕ → List ℕ → Type 0
PointsAt bytes places = (ps : List EncodedEntry) × AreOfBlock ps × (bytes ≡ block_bytes ps)
    × (places_of ps ≡ places)

-- the numbers in bytes, four bytes each, the lowest first
abbrev pub numbers_in : List ℕ → List ℕ
numbers_in (a ∷ b ∷ c ∷ d ∷ bytes) = little_number 4 (a ∷ b ∷ c ∷ d ∷ []) ∷ numbers_in bytes
numbers_in _ = []
