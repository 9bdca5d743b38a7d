-- Heads in the core, of functions whose bodies may bind more.
use Rattle.std.specs.Prelude.{◌≡◌, ℕ, Bool, true, false, ◌==◌, List, [], ◌++◌, length, codes}
use Rattle.std.specs.Str.{bytes_eq}
use Rattle.vlt_syntax.specs.Tree.{Head}
use Rattle.vlt_syntax.specs.Lists.{Each}
use Rattle.vlt_core.specs.Core.{KeyDecl, VarDecl, Func, Program}
use Rattle.vlt_core.specs.Types.{keys_of_ty}
use Rattle.vlt_core.specs.KindedHeads.{has, new_keys, type_broken, listed_broken, head_broken}
use Rattle.vlt_kinds_types.specs.Files.{File}
use Rattle.vlt_kinds_heads.specs.Keys.{keys_of}
use Rattle.vlt_kinds_heads.specs.Heads.{head_refused}
use Rattle.vlt_kinds_heads.specs.Externals.{external_refused}
use Rattle.vlt_kinds_heads.specs.Phase.{core_head}
use Rattle.vlt_resolve_laws.specs.KindsLaws.Shapes.{Describes, HasHeaders}

-- the function has the head, and keys and variables after those of the head
pub record HasHead (head f : Func) : Type 0 where
  pub external : f.external ≡ head.external
  pub result : f.result ≡ head.result
  pub params : f.params ≡ head.params
  pub clause : f.clause ≡ head.clause
  pub more_keys : List KeyDecl
  pub keys : f.keys ≡ head.keys ++ more_keys
  pub more_vars : List VarDecl
  pub vars : f.vars ≡ head.vars ++ more_vars

-- The types of the further variables break nothing and have no `new` key, and the further keys are listed as they should be.
pub record HasBody (p : Program) (head f : Func) (more_keys : List KeyDecl) (more_vars : List VarDecl) : Type 0 where
  pub types : Each (λ d. type_broken p f d.ty ≡ []) more_vars
  pub keys : listed_broken p f (length head.keys) more_keys ≡ []
  pub apart : (k : ℕ) → has (new_keys f) k ≡ true → Each (λ d. has (keys_of_ty d.ty) k ≡ false) more_vars

-- only a function that is named so is the one that a run begins with
abbrev pub IsMainAlone : Program → ℕ → Head → Type 0
IsMainAlone p g h = (g == p.main) ≡ true → bytes_eq h.name.text (codes "main") ≡ true

abbrev pub HeadsAreKinded : Type 0
HeadsAreKinded = (file : File) (p : Program) (h : Head) (external : Bool) (g : ℕ) (f : Func) → Describes file p → HasHeaders p → head_refused file h ≡ [] →
    (external ≡ true → external_refused file p.types h (keys_of file h) ≡ []) → (head : HasHead (core_head file external h (keys_of file h)) f) →
    HasBody p (core_head file external h (keys_of file h)) f head.more_keys head.more_vars → IsMainAlone p g h → head_broken p g f ≡ []
