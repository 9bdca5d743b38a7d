-- Each switch has an arm, where variants have cases.
use Rattle.std.proofs.Common.{◌≡◌, ◌≤◌, ◌<◌, ◌⊎◌, inl, inr, get_or, ℕ, ◌==◌, nat_lt, not, ◌&&◌, if◌then◌else◌, Bool, true, false, true≢false, List, [], ◌∷◌, ◌++◌, length, Option, Some, None, refl, sym, ap, ◌∙◌, subst, slice_get, option_map, arith}
use Rattle.std.specs.List.{list_all, flat_map}
use Rattle.std.proofs.lemmas.Bool.Decides.{nat_tests}
use Rattle.std.proofs.lemmas.Option.{slice_get_cases}
use Rattle.vlt_core.specs.Core.{VariantDecl, Ty, int, bool, tracked, owning, guarded, variant, owning_variant, TypeDecl, an_abstract, a_struct, a_variant, VarDecl, Form, simple, call, choose, loop, switch, focus, scope, return, jump, Block, block, Stmts, done, next, Arms, no_arms, arm, Func, Program}
use Rattle.vlt_core.specs.Lookups.{var_type, cases_in, cases_of}
use Rattle.vlt_core.specs.Types.{decl_of, is_variant}
use Rattle.vlt_core.specs.Kinded.{IsKinded}
use Rattle.vlt_core.specs.KindedHeads.{Rules, unless, when_some, has, are_apart, type_broken, head_broken}
use Rattle.vlt_core.specs.KindedScopes.{Ids, Around, at_block_start, left_behind, use_broken}
use Rattle.vlt_core.specs.KindedStatements.{variant_args, is_variant_type}
use Rattle.vlt_core.specs.KindedBodies.{in_loop, in_focus, with_focus, with_vars, ends, switch_broken, ids_following, ids_following_block, arms_broken, row_broken, form_rows, block_rows, stmts_rows, arms_rows, first_ids}
use Rattle.vlt_core.specs.declared.rules.TheConstants as rule
use Rattle.vlt_core_laws.specs.Arms.{IsSomeArm, HasArms, HasArmsBlock, HasArmsStmts, HasArmsArms}
use Rattle.vlt_core_laws.proofs.Unbroken.{filled_not_empty, some_not_none, left_empty, right_empty, unless_holds, each_left, each_right}
use Rattle.vlt_core_laws.specs.Unbroken.{EachEmpty}
use Rattle.vlt_core_laws.proofs.Headed.{kinded_parts, function_empty, head_empty, each_at}
use Rattle.std.proofs.lemmas.Bool.{and_parts}
use Rattle.cert_fit_laws.proofs.Types.{variant_type, owning_type}

-- ---- the types of variables

types_of_vars : (p : Program) (m : ℕ) (f : Func) → head_broken p m f ≡ [] → flat_map (λ d. type_broken p f d.ty) f.vars ≡ []
types_of_vars p m f e =
    right_empty (unless _ rule.UNKNOWN_NAME) (flat_map (λ d. type_broken p f d.ty) f.vars)
    (left_empty _ _ (left_empty _ _ (left_empty _ _ (left_empty _ _ (left_empty _ _ (left_empty _ _ (left_empty _ _ (left_empty _ _ e))))))))

-- a variable of a variant's type is of a declared variant
abbrev pub IsVariantVar : Program → Option Ty → Type 0
IsVariantVar p (Some (variant t args)) = is_variant (decl_of p t) ≡ true
IsVariantVar p (Some (owning_variant t args)) = is_variant (decl_of p t) ≡ true
IsVariantVar p _ = Unit {0}

module _ (p : Program) (f : Func) where
  variant_vars : flat_map (λ d. type_broken p f d.ty) f.vars ≡ [] → (v : ℕ) → IsVariantVar p (var_type f v)
  variant_vars e v = by (slice_get f.vars v) refl
    where
      typed : (ty : Ty) → type_broken p f ty ≡ [] → IsVariantVar p (Some ty)
      typed int e = tt
      typed bool e = tt
      typed (tracked k t args) e = tt
      typed (owning states t args) e = tt
      typed (guarded k t args) e = tt
      typed (variant t args) e = variant_type p f t args e
      typed (owning_variant t args) e = owning_type p f t args e

      by : (o : Option VarDecl) → slice_get f.vars v ≡ o → IsVariantVar p (option_map (λ d. d.ty) o)
      by None at = tt
      by (Some d) at = typed d.ty (each_at (λ d. type_broken p f d.ty) f.vars v d e at)

-- ---- switches

-- each variant has a case
abbrev pub SomeCases : Program → Type 0
SomeCases p = (t : ℕ) (d : VariantDecl) → slice_get p.types t ≡ Some (a_variant d) → 1 ≤ length d.cases

missing : (f : Func) (ids : Ids) (v : ℕ) → var_type f v ≡ None → use_broken f ids v ≡ [] → ⊥
missing f ids v none e = by (nat_lt v (length f.vars)) refl (slice_get_cases f.vars v).1
  where
    by : (b : Bool) → nat_lt v (length f.vars) ≡ b → ((x : VarDecl) × (v < length f.vars) × (slice_get f.vars v ≡ Some x) × (get_or f.vars v x ≡ x)) ⊎ ((length f.vars ≤ v) × (slice_get f.vars v ≡ None)) → ⊥
    by false is o = filled_not_empty rule.UNKNOWN_NAME [] (subst (λ b. (if b then unless (has ids.vars v) rule.NAME_TAKEN else rule.UNKNOWN_NAME ∷ []) ≡ []) is e)
    by true is o = elim o [ inl x ↦ some_not_none x.0.ty (sym (ap (option_map (λ (d : VarDecl). d.ty)) x.2) ∙ none) | inr x ↦ past x.0 is ]
      where
        past : length f.vars ≤ v → nat_lt v (length f.vars) ≡ true → ⊥
        past far less = grind (arith, nat_tests)

module _ (p : Program) (f : Func) (cases : SomeCases p) (vars : (v : ℕ) → IsVariantVar p (var_type f v)) where
  -- `switch_broken` by its clauses
  abbrev covers : (cs : List ℕ) → ℕ → Bool
  covers cs n = are_apart cs && length cs == n && list_all (λ c. nat_lt c n) cs

  abbrev of_variant : (cs : List ℕ) → Option (ℕ × List ℕ) → Rules
  of_variant cs None = []
  of_variant cs (Some o) = if is_variant (decl_of p o.0) then unless (covers cs (length (cases_of p o.0))) rule.WRONG_SWITCH else []

  no_zero : (n : ℕ) → 1 ≤ n → (are_apart [] && 0 == n) ≡ true → ⊥
  no_zero n some none = grind (arith, nat_tests)

  no_cases : (t : ℕ) → is_variant (decl_of p t) ≡ true → (if is_variant (decl_of p t) then unless (covers [] (length (cases_of p t))) rule.WRONG_SWITCH else []) ≡ [] → ⊥
  no_cases t is e = by (slice_get p.types t) refl is (unless_holds (covers [] (length (cases_of p t))) rule.WRONG_SWITCH (subst (λ b. (if b then unless (covers [] (length (cases_of p t))) rule.WRONG_SWITCH else []) ≡ []) is e))
    where
      by : (o : Option TypeDecl) → slice_get p.types t ≡ o → is_variant o ≡ true → covers [] (length (cases_in o)) ≡ true → ⊥
      by None at is none = true≢false (sym is)
      by (Some (an_abstract name set)) at is none = true≢false (sym is)
      by (Some (a_struct d)) at is none = true≢false (sym is)
      by (Some (a_variant d)) at is none = no_zero (length d.cases) (cases t d at) ((and_parts (are_apart [] && 0 == length d.cases) _ none).0)

  some_arm : (ids : Ids) (v : ℕ) (arms : Arms) → switch_broken p f ids v arms ≡ [] → IsSomeArm arms
  some_arm ids v (arm c vs b rest) e = tt
  some_arm ids v no_arms e = by (var_type f v) refl (vars v) (right_empty (use_broken f ids v ++ when_some (var_type f v) (λ ty. unless (is_variant_type ty) rule.WRONG_SWITCH)) (of_variant [] (variant_args (var_type f v))) e) (right_empty (use_broken f ids v) _ (left_empty _ (of_variant [] (variant_args (var_type f v))) e))
    where
      by : (o : Option Ty) → var_type f v ≡ o → IsVariantVar p o → of_variant [] (variant_args o) ≡ [] → when_some o (λ ty. unless (is_variant_type ty) rule.WRONG_SWITCH) ≡ [] → ⊥
      by None at is none kind = missing f ids v at (left_empty (use_broken f ids v) _ (left_empty _ (of_variant [] (variant_args (var_type f v))) e))
      by (Some int) at is none kind = filled_not_empty rule.WRONG_SWITCH [] kind
      by (Some bool) at is none kind = filled_not_empty rule.WRONG_SWITCH [] kind
      by (Some (tracked k t args)) at is none kind = filled_not_empty rule.WRONG_SWITCH [] kind
      by (Some (owning states t args)) at is none kind = filled_not_empty rule.WRONG_SWITCH [] kind
      by (Some (guarded k t args)) at is none kind = filled_not_empty rule.WRONG_SWITCH [] kind
      by (Some (variant t args)) at is none kind = no_cases t is none
      by (Some (owning_variant t args)) at is none kind = no_cases t is none

  mutual
    armed : (s : Form) (around : Around) (ids : Ids) → row_broken p f around ids s ≡ [] → EachEmpty (form_rows p f around ids s) → HasArms s
    armed (simple s) around ids e rows = tt
    armed (call g target keys args) around ids e rows = tt
    armed (choose x a b) around ids e rows = (
      armed_block a around ids (each_left (block_rows p f around ids a) (block_rows p f around (ids_following_block p f a ids) b) rows),
      armed_block b around (ids_following_block p f a ids) (each_right (block_rows p f around ids a) (block_rows p f around (ids_following_block p f a ids) b) rows),
    )
    armed (loop x b) around ids e rows = armed_block b (in_loop around) ids rows
    armed (switch v arms end) around ids e rows =
        (some_arm ids v arms (left_empty (switch_broken p f ids v arms) (arms_broken p f ids v arms) e), armed_arms arms around ids rows)
    armed (focus y z b) around ids e rows = armed_block b in_focus (with_focus f z ids) rows
    armed (scope b) around ids e rows = armed_block b around ids rows
    armed (return value) around ids e rows = tt
    armed (jump continues) around ids e rows = tt

    armed_block : (b : Block) (around : Around) (ids : Ids) → EachEmpty (block_rows p f around ids b) → HasArmsBlock b
    armed_block (block ss bound end) around ids rows = armed_list ss around (at_block_start ids) false rows

    pub armed_list : (ss : Stmts) (around : Around) (ids : Ids) (ended : Bool) → EachEmpty (stmts_rows p f around ids ended ss) → HasArmsStmts ss
    armed_list done around ids ended rows = tt
    armed_list (next at s rest) around ids ended rows =
        let following = ids_following p f s ids in (
          armed s around ids (right_empty (unless (not ended) rule.AFTER_END) (row_broken p f around ids s) rows.0) (each_left (form_rows p f around ids s) (stmts_rows p f around following (ends s) rest) rows.1),
          armed_list rest around following (ends s) (each_right (form_rows p f around ids s) (stmts_rows p f around following (ends s) rest) rows.1),
        )

    armed_arms : (arms : Arms) (around : Around) (ids : Ids) → EachEmpty (arms_rows p f around ids arms) → HasArmsArms arms
    armed_arms no_arms around ids rows = tt
    armed_arms (arm c vs b rest) around ids rows =
        let following = left_behind ids (ids_following_block p f b (with_vars f vs ids)) in (
          armed_block b around (with_vars f vs ids) (each_left (block_rows p f around (with_vars f vs ids) b) (arms_rows p f around following rest) rows),
          armed_arms rest around following (each_right (block_rows p f around (with_vars f vs ids) b) (arms_rows p f around following rest) rows),
        )

pub have_arms : (p : Program) (g : ℕ) (f : Func) → SomeCases p → (f.external ≡ true → f.body ≡ done) → IsKinded p → slice_get p.fns g ≡ Some f → HasArmsStmts f.body
have_arms p g f cases blank kinded at = by f.external refl
  where
    vars : (v : ℕ) → IsVariantVar p (var_type f v)
    vars = let head = head_empty p g f (kinded_parts p kinded) at in variant_vars p f (types_of_vars p head.0 f head.1)

    by : (b : Bool) → f.external ≡ b → HasArmsStmts f.body
    by true is = subst HasArmsStmts (sym (blank is)) tt
    by false is = armed_list p f cases vars f.body (record { jumps = false; returns = true }) (first_ids p f) false (subst (λ b. EachEmpty (if b then [] else stmts_rows p f (record { jumps = false; returns = true }) (first_ids p f) false f.body)) is (function_empty p g f (kinded_parts p kinded) at).1.1)
