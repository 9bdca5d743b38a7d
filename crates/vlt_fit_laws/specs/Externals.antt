-- Programs whose externals are declared in a text.
use Rattle.std.specs.Prelude.{◌≡◌, ℕ, true, List, Some, slice_get}
use Rattle.vlt_syntax.specs.Tree.{Head, Decl}
use Rattle.vlt_core.specs.Core.{Func, Program}
use Rattle.vlt_kinds_types.specs.Files.{file_of}
use Rattle.vlt_kinds_heads.specs.Keys.{Keys}
use Rattle.vlt_kinds_heads.specs.Phase.{core_head}

-- each external has the head of a declaration
pub record HasExternals (ds : List Decl) (p : Program) : Type 0 where
  pub heads : (i : ℕ) (g : Func) → slice_get p.fns i ≡ Some g → g.external ≡ true →
      (h : Head) × (keys : Keys) × (g ≡ core_head (file_of ds) true h keys)
