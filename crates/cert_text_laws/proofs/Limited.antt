-- An elaborated program keeps the limits.
use Rattle.std.proofs.Common.{◌≡◌, ℕ, ◌+◌, ◌≤◌, true, List, map, length, Some, Ok, slice_get, sym, ap, ◌∙◌, subst, arith}
use Rattle.std.proofs.lemmas.List.{length-map}
use Rattle.vlt_syntax.specs.Tree.{Tree}
use Rattle.vlt_syntax.specs.Lists.{Each}
use Rattle.vlt_core.specs.Core.{done, Func, Program}
use Rattle.vlt_core.specs.Proper.{HasProperBodies}
use Rattle.vlt_kinds_types.specs.Names.Globals.{globals_of}
use Rattle.vlt_kinds_types.specs.Files.{file_of}
use Rattle.vlt_kinds_types.specs.Kinds.{Kinds}
use Rattle.vlt_kinds.specs.Tables.{kinds_of}
use Rattle.vlt_elaboration.specs.Elaboration.{is_main, elaborated}
use Rattle.vlt_resolve_laws.specs.Elaborated.{IsElaborated}
use Rattle.vlt_resolve_laws.proofs.Made.{told, all_walked}
use Rattle.vlt_resolve_laws.proofs.Whole.{fine_of}
use Rattle.cert_rows.specs.Parts.{All}
use Rattle.cert_format.specs.Bounds.{are_bounds_known}
use Rattle.cert_format.specs.Certificate.{main_from}
use Rattle.cert_fit_laws.specs.Limits.{IsLimitedSet, IsLimitedType, IsLimitedFunc, IsLimitedProgram}
use Rattle.cert_fit_laws.proofs.Listed.{all_at, all_from}
use Rattle.cert_text_laws.proofs.CNames.{IsNamed}
use Rattle.cert_text_laws.proofs.Few.{DeclIsFew}
use Rattle.cert_text_laws.proofs.Shallow.{all_shallow}
use Rattle.cert_text_laws.proofs.Bodies.{most}
use Rattle.cert_text_laws.proofs.Declarations.{sets_limited, types_limited, few_declared}
use Rattle.cert_text_laws.proofs.Functions.{IsSmallFunc, all_limited}
use Rattle.cert_text_laws.proofs.Main.{main_there, main_same}

same_length : (fs hs : List Func) → map is_main fs ≡ map is_main hs → length fs ≡ length hs
same_length fs hs e = sym (length-map fs is_main) ∙ (ap length e ∙ length-map hs is_main)

few_all : (a b c d n : ℕ) → a + b + c ≤ n → n ≤ 4096 → d ≡ c → a + b + d ≤ 4096
few_all a b c d n x y e = omega arith

-- what declarations give
pub record IsSmallProgram (p : Program) : Type 0 where
  few : length p.sets + length p.types + length p.fns ≤ 4096
  sets : All IsLimitedSet p.sets
  types : All IsLimitedType p.types
  pub fns : All IsSmallFunc p.fns
  main : p.main ≡ main_from 0 p.fns

pub small : (t : Tree) (kinds : Kinds) (p : Program) → Each IsNamed t.decls → Each (DeclIsFew most) t.decls → IsElaborated t kinds p → IsSmallProgram p
small t kinds p named few e =
    let x = told t.decls kinds e.told in
    let k = kinds_of t.decls in
    let w = all_walked t p (subst (λ k. elaborated t k ≡ Ok p) (sym x.same) e.gives) in
    let are = all_limited k (globals_of t.decls) t.decls w.fns e.tree.0 few named (fine_of t kinds p e).named w.walked in
    subst IsSmallProgram w.same (record {
      few = few_all _ _ (length k.heads) (length w.fns) (length t.decls) (few_declared (file_of t.decls) t.decls) e.tree.1 (same_length w.fns k.heads are.mains);
      sets = sets_limited t.decls e.tree.0;
      types = types_limited (file_of t.decls) t.decls e.tree.0;
      fns = are.limited;
      main = main_same k.heads w.fns (main_there (file_of t.decls) t.decls x.names) are.mains;
    })

-- what the laws on elaborated programs give of a function
pub record IsBounded (p : Program) : Type 0 where
  pub keys : (g : ℕ) (f : Func) → slice_get p.fns g ≡ Some f → length f.keys ≤ 256
  pub vars : (g : ℕ) (f : Func) → slice_get p.fns g ≡ Some f → length f.vars ≤ 256
  pub blank : (g : ℕ) (f : Func) → slice_get p.fns g ≡ Some f → f.external ≡ true → f.body ≡ done
  pub bounds : (g : ℕ) (f : Func) → slice_get p.fns g ≡ Some f → are_bounds_known p f ≡ true

pub limited : (t : Tree) (kinds : Kinds) (p : Program) → Each IsNamed t.decls → Each (DeclIsFew most) t.decls → IsElaborated t kinds p → HasProperBodies p → IsBounded p → IsLimitedProgram p
limited t kinds p named few e proper bounded =
    let is = small t kinds p named few e in
    record {
      few = is.few;
      sets = is.sets;
      types = is.types;
      fns = all_from IsLimitedFunc p.fns (λ g f at. function g f at (all_at IsSmallFunc p.fns g f is.fns at));
      bounds = bounded.bounds;
      proper = proper;
      shallow = all_shallow t kinds p e;
      main = is.main;
    }
  where
    function : (g : ℕ) (f : Func) → slice_get p.fns g ≡ Some f → IsSmallFunc f → IsLimitedFunc f
    function g f at is = record {
      params = is.params;
      keys = bounded.keys g f at;
      vars = bounded.vars g f at;
      clause = is.clause;
      name = is.name;
      blank = bounded.blank g f at;
      few = is.few;
      body = is.body;
    }
