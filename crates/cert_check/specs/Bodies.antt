-- Why a body's flow isn't tested; private contracts alone cite this.
use Rattle.std.specs.Prelude.{◌≤◌, ◌^◌, None}
use Rattle.vlt_core.specs.Maps.{HeldMap}
use Rattle.vlt_core.specs.Flow.{Block, size_block}
use Rattle.cert_check.specs.Tests.{block_tests, FirstFails, lost}
use Rattle.cert_check.specs.Notes.{IsOrdered, annotation_of}
use Rattle.cert_check.specs.declared.given.Given.{Given}

pub data IsUnfitFlow (g : Given) (start : HeldMap) (s : Block) : Type 0 where
  disordered : (IsOrdered g → ⊥) → IsUnfitFlow g start s
  many_statements : 2 ^ 62 ≤ size_block s → IsUnfitFlow g start s
  lost_jump : FirstFails (block_tests (annotation_of g) None 0 0 start s) lost → IsUnfitFlow g start s
