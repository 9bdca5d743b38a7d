-- What a certificate asks of a program beside the rules on names and types. Its numbers then are as
-- wide as those of rows.
use Rattle.std.specs.Prelude.{◌≡◌, ◌≤◌, ℕ, suc, ◌+◌, nat_le, nat_lt, Bool, true, length, Option, Some, None, slice_get}
use Rattle.vlt_core.specs.Core as core
use Rattle.vlt_core.specs.Core.{Expr, Form, Block, Stmts, Arms, Mode, kept, taken, given, fresh, up_to, States, Entry, SetDecl, CaseDecl, TypeDecl, Func, Program}
use Rattle.vlt_core.specs.Proper.{AllPass, HasProperBodies}
use Rattle.cert_rows.specs.Parts.{All}
use Rattle.cert_rows.specs.Expressions.{depth, most_expression_depth}
use Rattle.cert_rows.specs.Rows.{is_c_name, is_filled, has_own_links}
use Rattle.cert_format.specs.Drafts.{most_block_depth}
use Rattle.cert_format.specs.Bodies.{length_of}
use Rattle.cert_format.specs.Bounds.{are_bounds_known}
use Rattle.cert_format.specs.Certificate.{main_from, most_declarations}

-- ---- bodies

abbrev pub is_shallow : Expr → Bool
is_shallow e = nat_le (depth e) most_expression_depth

-- a row has the number of a block's statements in 32 bits
abbrev pub most_statements : ℕ
most_statements = 4294967295

-- Of a statement in a block of this depth: its blocks are within the limit, and none has too many
-- statements. A function's own block has depth 1.
abbrev mutual
  pub IsLimited : (deep : ℕ) → Form → Type 0
  IsLimited deep (core.choose e a b) = (nat_lt deep most_block_depth ≡ true) ×
      IsLimitedBlock (suc deep) a × IsLimitedBlock (suc deep) b
  IsLimited deep (core.loop e b) =
      (nat_lt deep most_block_depth ≡ true) × IsLimitedBlock (suc deep) b
  IsLimited deep (core.switch v arms end) =
      (nat_lt deep most_block_depth ≡ true) × AreLimitedArms (suc deep) arms
  IsLimited deep (core.focus y z b) =
      (nat_lt deep most_block_depth ≡ true) × IsLimitedBlock (suc deep) b
  IsLimited deep (core.scope b) =
      (nat_lt deep most_block_depth ≡ true) × IsLimitedBlock (suc deep) b
  IsLimited deep form = Unit {0}

  pub IsLimitedBlock : (deep : ℕ) → Block → Type 0
  IsLimitedBlock deep (core.block ss bound end) =
      (length_of ss ≤ most_statements) × AreLimited deep ss

  pub AreLimited : (deep : ℕ) → Stmts → Type 0
  AreLimited deep core.done = Unit {0}
  AreLimited deep (core.next at s rest) = IsLimited deep s × AreLimited deep rest

  pub AreLimitedArms : (deep : ℕ) → Arms → Type 0
  AreLimitedArms deep core.no_arms = Unit {0}
  AreLimitedArms deep (core.arm c vs b rest) = IsLimitedBlock deep b × AreLimitedArms deep rest

-- ---- declarations

-- States are where the mode has them: on both sides or neither, before alone, or after alone. A bound
-- entry has its bound alone.
abbrev pub IsRuled : Mode → (before after : Option States) → Type 0
IsRuled kept None None = Unit {0}
IsRuled kept (Some a) (Some b) = Unit {0}
IsRuled taken before None = Unit {0}
IsRuled given None after = Unit {0}
IsRuled fresh None after = Unit {0}
IsRuled (up_to b) None None = Unit {0}
IsRuled _ before after = ⊥

abbrev pub IsRuledEntry : Entry → Type 0
IsRuledEntry e = IsRuled e.mode e.before e.after

-- its links are of its own states
pub record IsLimitedSet (d : SetDecl) : Type 0 where
  pub filled : is_filled d.states ≡ true
  pub few : length d.states ≤ 32
  pub few_links : length d.links ≤ 31
  pub own_links : has_own_links d ≡ true

abbrev pub IsLimitedCase : CaseDecl → Type 0
IsLimitedCase c = length c.payload ≤ 8

abbrev pub IsLimitedType : TypeDecl → Type 0
IsLimitedType (core.an_abstract name set) = Unit {0}
IsLimitedType (core.a_struct d) = (length d.header ≤ 16) × (length d.fields ≤ 32)
IsLimitedType (core.a_variant d) =
    (length d.header ≤ 16) × (1 ≤ length d.cases) × (length d.cases ≤ 32) ×
    All IsLimitedCase d.cases

pub record IsLimitedFunc (f : Func) : Type 0 where
  pub params : f.params ≤ 16
  pub keys : length f.keys ≤ 256
  pub vars : length f.vars ≤ 256
  pub clause : All IsRuledEntry f.clause
  -- an external's name is one of C, and it has no statements
  pub name : f.external ≡ true → is_c_name f.name ≡ true
  pub blank : f.external ≡ true → f.body ≡ core.done
  pub few : length_of f.body ≤ most_statements
  pub body : AreLimited 1 f.body

pub record IsLimitedProgram (p : Program) : Type 0 where
  pub few : length p.sets + length p.types + length p.fns ≤ most_declarations
  pub sets : All IsLimitedSet p.sets
  pub types : All IsLimitedType p.types
  pub fns : All IsLimitedFunc p.fns
  -- each bound is a state of the set of its key's type
  pub bounds : (g : ℕ) (f : Func) → slice_get p.fns g ≡ Some f → are_bounds_known p f ≡ true
  pub proper : HasProperBodies p
  pub shallow : AllPass is_shallow p
  pub main : p.main ≡ main_from 0 p.fns
