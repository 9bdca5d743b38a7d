-- The core program of a text's tree, put together from the laws on each of its parts.
use Rattle.std.proofs.Common.{◌≡◌, ℕ, ◌≤◌, List, length}
use Rattle.vlt_syntax.specs.Tree.{Decl}
use Rattle.vlt_syntax.specs.Lists.{Each}
use Rattle.vlt_syntax.specs.Grammar.{IsDecl, language}
use Rattle.vlt_core.specs.Core.{Program}
use Rattle.vlt_core.specs.Lookups.{fields_of}
use Rattle.vlt_core_laws.proofs.Headed.{kinded_parts}
use Rattle.vlt_kinds_types.specs.Files.{file_of}
use Rattle.vlt_kinds_decls.specs.Made.{core_types}
use Rattle.vlt_resolve_laws.specs.KindsLaws.Declared.{HasDeclared, IsPassed}
use Rattle.vlt_sound.specs.Sizes.{HasSizes}
use Rattle.vlt_sound.specs.Narrow.{HasNarrowHeads}
use Rattle.vlt_fit_laws.specs.Externals.{HasExternals}
use Rattle.vlt_resolve_laws.specs.Elaborated.{IsElaborated, ElaboratedProgramsAreKinded, ElaboratedProgramsHaveStates, ElaboratedProgramsHaveArms, ElaboratedProgramsHaveFewVariables, ElaboratedProgramsHaveFewKeys, ElaboratedProgramsHaveFewFunctions, ElaboratedProgramsHaveBlankExternals, ElaboratedProgramsHaveSets, ElaboratedProgramsHaveProperBodies}
use Rattle.vlt_resolve_laws.proofs.Whole.{passed_of}
use Rattle.vlt_fit_laws.specs.Fit.{ProgramsAreFit}
use Rattle.vlt_fit_laws.proofs.Externals.{externals_of, declared_of}

pub record Laws : Type 0 where
  pub kinded : ElaboratedProgramsAreKinded
  pub states : ElaboratedProgramsHaveStates
  pub arms : ElaboratedProgramsHaveArms
  pub proper : ElaboratedProgramsHaveProperBodies
  pub sets : ElaboratedProgramsHaveSets
  pub vars : ElaboratedProgramsHaveFewVariables
  pub keys : ElaboratedProgramsHaveFewKeys
  pub functions : ElaboratedProgramsHaveFewFunctions
  pub blank : ElaboratedProgramsHaveBlankExternals
  pub small : (ds : List Decl) (p : Program) → Each (IsDecl language) ds → p.sets ≡ (file_of ds).sets → HasSizes p
  pub fields : (ds : List Decl) (p : Program) → Each (IsDecl language) ds → p.types ≡ core_types (file_of ds) ds →
      (t : ℕ) → length (fields_of p t) ≤ 32
  pub narrow : (ds : List Decl) (p : Program) → IsPassed ds → HasDeclared ds p → HasExternals ds p → HasNarrowHeads p

pub fit : Laws → ProgramsAreFit
fit laws t kinds p x told gives =
    let e : IsElaborated t kinds p = record { tree = x.tree; ticks = x.ticks; told = told; gives = gives } in
    record {
      kinded = laws.kinded t kinds p e;
      well_formed = record {
        kinded = kinded_parts p (laws.kinded t kinds p e);
        states = laws.states t kinds p e;
        arms = laws.arms t kinds p e;
      };
      sizes = laws.small t.decls p x.tree.0 (laws.sets t kinds p e);
      narrow = laws.narrow t.decls p (passed_of t kinds p e) (declared_of t kinds p e) (externals_of t kinds p e);
      few = record {
        fields = laws.fields t.decls p x.tree.0 (declared_of t kinds p e).types;
        vars = laws.vars t kinds p e;
        keys = laws.keys t kinds p e;
        functions = laws.functions t kinds p e;
      };
      proper = laws.proper t kinds p e x.numbers;
      blank = laws.blank t kinds p e;
    }
