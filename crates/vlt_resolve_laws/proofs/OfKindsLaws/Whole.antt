-- A function's own row breaks nothing.
use Rattle.std.proofs.Common.{◌≡◌, ℕ, nat_le, Bool, true, false, ◌==◌, if◌then◌else◌, List, [], map, length, refl, sym, ap, ◌∙◌, subst, filter, arith, length-append}
use Rattle.std.proofs.lemmas.Bool.{le-leb}
use Rattle.std.proofs.lemmas.List.{length-map}
use Rattle.vlt_syntax.specs.Tree.{Head}
use Rattle.vlt_syntax.specs.Lists.{Each}
use Rattle.vlt_core.specs.Core.{KeyDecl, Func, Program}
use Rattle.vlt_core.specs.Types.{keys_of_ty}
use Rattle.vlt_core.specs.KindedHeads.{unless, has, new_keys, is_bound_entry, type_broken, listed_broken, external_broken, is_main_head, head_broken}
use Rattle.vlt_core.specs.declared.rules.TheConstants as rule
use Rattle.vlt_kinds_types.specs.Files.{File}
use Rattle.vlt_kinds_heads.specs.Keys.{Keys, keys_of}
use Rattle.vlt_kinds_heads.specs.Heads.{head_refused}
use Rattle.vlt_kinds_heads.specs.Externals.{external_refused}
use Rattle.vlt_kinds_heads.specs.Phase.{key_decl, core_parameter, core_head}
use Rattle.vlt_resolve_laws.specs.KindsLaws.Shapes.{Describes, HasHeaders}
use Rattle.vlt_resolve_laws.proofs.OfKindsLaws.Empty.{none_of_both, holds}
use Rattle.vlt_resolve_laws.specs.KindsLaws.Heads.{HasHead, HasBody, IsMainAlone}
use Rattle.vlt_resolve_laws.proofs.OfKindsLaws.Places.{entries, table, table_is, IsPassed, passed}
use Rattle.vlt_resolve_laws.proofs.OfKindsLaws.Core.{IsFunc, func_of}
use Rattle.vlt_resolve_laws.proofs.OfKindsLaws.Clauses.{variables_unbroken, result_unbroken, keys_unbroken, clause_apart}
use Rattle.vlt_resolve_laws.proofs.OfKindsLaws.Entries.{entries_unbroken, results_unbroken}
use Rattle.vlt_resolve_laws.proofs.OfKindsLaws.Hosts.{main_right, external_unbroken}
use Rattle.vlt_resolve_laws.proofs.OfKindsLaws.Bounded.{few_bounded}

module _ (file : File) (p : Program) (described : Describes file p) (headers : HasHeaders p) (h : Head) (pass : IsPassed file h) (external : Bool) (g : ℕ) (f : Func) where
  func_unbroken : (func : IsFunc file (table file h) h external f) → (external ≡ true → external_refused file p.types h (table file h) ≡ []) → Each (λ d. type_broken p f d.ty ≡ []) func.more_vars
      → listed_broken p f (length (map key_decl (table file h))) func.more_keys ≡ [] → ((k : ℕ) → has (new_keys f) k ≡ true → Each (λ d. has (keys_of_ty d.ty) k ≡ false) func.more_vars)
      → IsMainAlone p g h → head_broken p g f ≡ []
  func_unbroken func host types keys apart main =
      none_of_both _ _
      (none_of_both _ _
      (none_of_both _ _
      (none_of_both _ _
      (none_of_both _ _
      (none_of_both _ _
      (none_of_both _ _
      (none_of_both _ _
      (none_of_both _ _ (holds _ rule.UNKNOWN_NAME few) (variables_unbroken file p described headers h pass external f func types))
      (result_unbroken file p described headers h pass external f func))
      (keys_unbroken file p described headers h pass external f func keys))
      (holds _ rule.CLAUSE_KEY_AGAIN (clause_apart file p described headers h pass external f func)))
      (entries_unbroken file p described headers h pass external f func))
      (results_unbroken file p described headers h pass external f func apart))
      (by_external f.external func.external_is))
      (by_main (g == p.main) refl))
      (holds _ rule.SECOND_BOUND one)
    where
      few : nat_le f.params (length f.vars) ≡ true
      few = le-leb f.params (length f.vars)
          (omega (arith, func.params, ap length func.vars, length-append (map (core_parameter file (table file h)) h.parameters) func.more_vars, length-map h.parameters (core_parameter file (table file h))))

      one : nat_le (length (filter is_bound_entry f.clause)) 1 ≡ true
      one = ap (λ es. nat_le (length (filter is_bound_entry es)) 1) func.clause ∙ few_bounded file (table file h) file.globals (table file h) h.parameters (entries file h) pass.variables

      by_external : (b : Bool) → b ≡ external → (if b then external_broken p f else []) ≡ []
      by_external true is = external_unbroken file p described headers h pass external f func (host (sym is))
      by_external false is = refl

      by_main : (b : Bool) → (g == p.main) ≡ b → (if b then unless (is_main_head f) rule.MAIN_HEAD else []) ≡ []
      by_main true is = holds _ rule.MAIN_HEAD (main_right file p described headers h pass external f func (main is))
      by_main false is = refl

listed_at : (file : File) (p : Program) (h : Head) (external : Bool) (f : Func) (keys : Keys) (more : List KeyDecl) → listed_broken p f (length (core_head file external h keys).keys) more ≡ []
    → listed_broken p f (length (map key_decl keys)) more ≡ []
unfolding core_head
listed_at file p h external f keys more e = e

head_by : (file : File) (p : Program) (described : Describes file p) (headers : HasHeaders p) (h : Head) (pass : IsPassed file h) (external : Bool) (g : ℕ) (f : Func) (keys : Keys) → keys ≡ table file h
    → (external ≡ true → external_refused file p.types h keys ≡ []) → (head : HasHead (core_head file external h keys) f) → HasBody p (core_head file external h keys) f head.more_keys head.more_vars
    → IsMainAlone p g h → head_broken p g f ≡ []
unfolding core_head
head_by file p described headers h pass external g f keys is =
    subst (λ ks. (external ≡ true → external_refused file p.types h ks ≡ []) → (head : HasHead (core_head file external h ks) f) → HasBody p (core_head file external h ks) f head.more_keys head.more_vars
    → IsMainAlone p g h → head_broken p g f ≡ []) (sym is) whole
  where
    whole : (external ≡ true → external_refused file p.types h (table file h) ≡ []) → (head : HasHead (core_head file external h (table file h)) f)
        → HasBody p (core_head file external h (table file h)) f head.more_keys head.more_vars → IsMainAlone p g h → head_broken p g f ≡ []
    whole host head body main = by head body
      where
        by : (head : HasHead (core_head file external h (table file h)) f) → HasBody p (core_head file external h (table file h)) f head.more_keys head.more_vars → head_broken p g f ≡ []
        by head body = func_unbroken file p described headers h pass external g f (func_of file (table file h) h external f head) host body.types (listed_at file p h external f (table file h) head.more_keys body.keys) body.apart main

pub head_unbroken : (file : File) (p : Program) (h : Head) (external : Bool) (g : ℕ) (f : Func) → Describes file p → HasHeaders p → head_refused file h ≡ []
    → (external ≡ true → external_refused file p.types h (keys_of file h) ≡ []) → (head : HasHead (core_head file external h (keys_of file h)) f)
    → HasBody p (core_head file external h (keys_of file h)) f head.more_keys head.more_vars → IsMainAlone p g h → head_broken p g f ≡ []
head_unbroken file p h external g f described headers none host head body main =
    head_by file p described headers h (passed file h none) external g f (keys_of file h) (table_is file h) host head body main
