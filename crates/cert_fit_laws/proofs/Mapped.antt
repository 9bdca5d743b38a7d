-- A tool of the proof: bodies whose statements have maps that fit their rows.
use Rattle.std.specs.Prelude.{◌≡◌, ℕ, ◌+◌, List, Option}
use Rattle.vlt_core.specs.Core as core
use Rattle.vlt_core.specs.Core.{Form, Block, Stmts, Arms, Func}
use Rattle.vlt_core.specs.KindedBodies.{ends}
use Rattle.cert_rows.specs.Parts.{zero_or}
use Rattle.cert_rows.specs.Values.{maps_part}
use Rattle.cert_format.specs.Notes.{MapNotes, join_of, Note, maps_of}
use Rattle.cert_format.specs.Bodies.{count, count_block, list_notes}
use Rattle.cert_format.specs.Certificate.{body_draft}

module _ (i : Option ℕ) (a : MapNotes) where
  abbrev mutual
    pub HasMaps : ℕ → Form → Type 0
    HasMaps n (core.choose e x y) =
        (zero_or (maps_part i)).Fits (join_of (ends (core.choose e x y)) (a.following n)) × BlockHasMaps (n + 1) x × BlockHasMaps (n + 1 + count_block x) y
    HasMaps n (core.loop e x) = (maps_part i).Fits (a.around n) × (maps_part i).Fits (a.following n) × BlockHasMaps (n + 1) x
    HasMaps n (core.switch v arms end) = (zero_or (maps_part i)).Fits (join_of (ends (core.switch v arms end)) (a.following n)) × ArmsHaveMaps (n + 1) arms
    HasMaps n (core.focus y z x) = BlockHasMaps (n + 1) x
    HasMaps n (core.scope x) = BlockHasMaps (n + 1) x
    HasMaps n _ = Unit {0}

    pub BlockHasMaps : ℕ → Block → Type 0
    BlockHasMaps n (core.block ss bound end) = HaveMaps n ss

    pub HaveMaps : ℕ → Stmts → Type 0
    HaveMaps n core.done = Unit {0}
    HaveMaps n (core.next at s rest) = HasMaps n s × HaveMaps (n + count s) rest

    pub ArmsHaveMaps : ℕ → Arms → Type 0
    ArmsHaveMaps n core.no_arms = Unit {0}
    ArmsHaveMaps n (core.arm c vs b rest) = BlockHasMaps n b × ArmsHaveMaps (n + count_block b) rest

pub record HasNotes (i : Option ℕ) (f : Func) (notes : List Note) : Type 0 where
  pub maps : HaveMaps i (maps_of notes) 0 f.body
  pub listed : notes ≡ list_notes 0 (body_draft f notes)
