-- Which declarations are refused, and what the others are.
use Rattle.std.specs.Prelude.{List, Option, Some, None, Result, Ok, Err}
use Rattle.vlt_base.specs.Refusals as refusals
use Rattle.vlt_syntax.specs.Tree.{Decl, Tree}
use Rattle.vlt_kinds_types.specs.declared.names.found.Refusal.{Refusal}
use Rattle.vlt_kinds_types.specs.Names.Refusals.{least}
use Rattle.vlt_kinds_decls.specs.Names.{names_refused}
use Rattle.vlt_kinds_types.specs.Files.{file_of}
use Rattle.vlt_kinds_decls.specs.Decls.{types_refused}
use Rattle.vlt_kinds_decls.specs.Made.{core_types}
use Rattle.vlt_kinds_heads.specs.Phase.{heads_refused, core_heads}
use Rattle.vlt_kinds_types.specs.Kinds.{Kinds}
use Rattle.vlt_kinds.specs.declared.error.KindError.{KindError}
use Rattle.vlt_kinds.specs.declared.error.KindError.TheVariants.{Rule}

abbrev pub kinds_of : List Decl → Kinds
kinds_of ds = record {
  file = file_of ds;
  types = core_types (file_of ds) ds;
  heads = core_heads (file_of ds) ds;
}

abbrev pub unless : {A : Type 0} → Option Refusal → Result A Refusal → Result A Refusal
unless None go = go
unless (Some r) go = Err r

-- Rules on names come first, then those on types, then those on heads; in each phase the least refusal is told.
abbrev pub heads_told : List Decl → Result Kinds Refusal
heads_told ds = unless (least (heads_refused (file_of ds) (core_types (file_of ds) ds) ds)) (Ok (kinds_of ds))

abbrev pub types_told : List Decl → Result Kinds Refusal
types_told ds = unless (least (types_refused (file_of ds) ds)) (heads_told ds)

abbrev pub names_told : List Decl → Result Kinds Refusal
names_told ds = unless (least (names_refused ds)) (types_told ds)

-- the table of a tree, or the refusal
abbrev pub kinds_told : Tree → Result Kinds Refusal
kinds_told t = names_told t.decls

-- a fact for the rule that refuses, and its place
abbrev pub OnRefused : {A : Type 0} → Result A KindError → (Refusal → Type 0) → Type 0
OnRefused r p = refusals.OnRefused (λ (x : Refusal). Rule x.rule x.at) r p
