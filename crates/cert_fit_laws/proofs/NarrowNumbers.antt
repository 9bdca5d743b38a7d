-- Numbers that break no rule are below those that are declared.
use Rattle.std.proofs.Common.{◌≡◌, ◌≤◌, ◌<◌, ◌+◌, ◌-◌, inl, inr, ℕ, nat_lt, Bool, true, false, ◌&&◌, if◌then◌else◌, List, [], ◌∷◌, length, Option, Some, None, refl, sym, ap, ◌∙◌, slice_get, option_map, arith}
use Rattle.std.specs.List.{flat_map}
use Rattle.std.proofs.lemmas.List.Concat.{flat_map-cons}
use Rattle.std.proofs.lemmas.Bool.Decides.{nat_tests}
use Rattle.std.proofs.lemmas.Option.{slice_get_cases, slice_get_within}
use Rattle.vlt_core.specs.Core.{Ty, int, bool, tracked, owning, guarded, variant, owning_variant, Tok, a_key, a_var, VarDecl, Func, Program}
use Rattle.vlt_core.specs.Lookups.{var_type, fields_of, cases_of, state_count}
use Rattle.vlt_core.specs.Types.{decl_of, type_in, keys_of_ty}
use Rattle.vlt_core.specs.KindedHeads.{Rules, unless, has, has_set, ty_broken, type_broken}
use Rattle.vlt_core.specs.KindedScopes.{Ids, use_broken, binding_broken, target_broken}
use Rattle.vlt_core.specs.KindedBodies.{token_broken, tokens_broken, same_toks}
use Rattle.vlt_core.specs.Rows.{in_order}
use Rattle.vlt_core.specs.declared.rules.TheConstants as rule
use Rattle.vlt_core_laws.proofs.Unbroken.{left_empty, right_empty, unless_holds}
use Rattle.vlt_core_laws.proofs.Binding.{in_range, on_true, on_false}
use Rattle.cert_rows.specs.Parts.{All}
use Rattle.cert_rows.specs.Values.{token, FitsTy}
use Rattle.cert_fit_laws.proofs.Narrow.{IsId}
use Rattle.cert_fit_laws.proofs.Types.{declared}
use Rattle.cert_fit_laws.proofs.Masked.{IsMaskedTy}

-- what the limits give of the program, and the rules of the function's variables
pub record Bounds (p : Program) (f : Func) : Type 0 where
  pub vars : length f.vars ≤ 256
  pub keys : length f.keys ≤ 256
  pub fns : length p.fns ≤ 4096
  pub fields : (t : ℕ) → length (fields_of p t) ≤ 32
  pub cases : (t : ℕ) → length (cases_of p t) ≤ 32
  pub states : (t : ℕ) → state_count p t ≤ 32
  pub sets : (t : ℕ) → has_set p (decl_of p t) ≡ true
  pub typed : (v : ℕ) (d : VarDecl) → slice_get f.vars v ≡ Some d → type_broken p f d.ty ≡ []

-- ---- numbers

pub few_id : (n m : ℕ) → nat_lt n m ≡ true → m ≤ 4096 → IsId n
few_id n m less few = grind (arith, nat_tests)

pub var_id : (n m : ℕ) → nat_lt n m ≡ true → m ≤ 256 → IsId n
var_id n m less few = grind (arith, nat_tests)

pub part_id : (n m : ℕ) → nat_lt n m ≡ true → m ≤ 32 → IsId n
part_id n m less few = grind (arith, nat_tests)

pub part_byte : (n m : ℕ) → nat_lt n m ≡ true → m ≤ 32 → n ≤ 255
part_byte n m less few = grind (arith, nat_tests)

pub within : {A : Type 0} (xs : List A) (n : ℕ) (x : A) → slice_get xs n ≡ Some x → nat_lt n (length xs) ≡ true
within xs n x at = less n (length xs) (slice_get_within xs n x at)
  where
    less : (n m : ℕ) → n < m → nat_lt n m ≡ true
    less n m below = grind (arith, nat_tests)

pub all_flat : {A : Type 0} (P : A → Type 0) (go : A → Rules) (each : (x : A) → go x ≡ [] → P x) (xs : List A) → flat_map go xs ≡ [] → All P xs
all_flat P go each [] e = tt
all_flat P go each (x ∷ xs) e =
    let both = sym (flat_map-cons go x xs) ∙ e in
    (each x (left_empty (go x) (flat_map go xs) both), all_flat P go each xs (right_empty (go x) (flat_map go xs) both))

pub all_with : {A : Type 0} (P Q R : A → Type 0) (go : (x : A) → P x → Q x → R x) (xs : List A) → All P xs → All Q xs → All R xs
all_with P Q R go [] ps qs = tt
all_with P Q R go (x ∷ xs) ps qs = (go x ps.0 qs.0, all_with P Q R go xs ps.1 qs.1)

-- ---- uses and bindings

module _ (p : Program) (f : Func) (b : Bounds p f) where
  pub use_there : (ids : Ids) (v : ℕ) → use_broken f ids v ≡ [] → nat_lt v (length f.vars) ≡ true
  use_there ids v e = in_range (nat_lt v (length f.vars)) _ e

  pub use_id : (ids : Ids) (v : ℕ) → use_broken f ids v ≡ [] → IsId v
  use_id ids v e = var_id v (length f.vars) (use_there ids v e) b.vars

  pub binding_there : (ids : Ids) (fresh : Option ℕ) (v : ℕ) → binding_broken f ids fresh v ≡ [] → nat_lt v (length f.vars) ≡ true
  binding_there ids fresh v e = in_range (nat_lt v (length f.vars)) _ e

  pub binding_id : (ids : Ids) (fresh : Option ℕ) (v : ℕ) → binding_broken f ids fresh v ≡ [] → IsId v
  binding_id ids fresh v e = var_id v (length f.vars) (binding_there ids fresh v e) b.vars

  pub target_there : (ids : Ids) (v : ℕ) → target_broken f ids v ≡ [] → nat_lt v (length f.vars) ≡ true
  target_there ids v e = by (has ids.vars v) (nat_lt v (length f.vars)) refl e
    where
      by : (a c : Bool) → nat_lt v (length f.vars) ≡ c → (if a && c then [] else binding_broken f ids None v) ≡ [] → c ≡ true
      by true true is e = refl
      by true false is e = sym is ∙ binding_there ids None v e
      by false c is e = sym is ∙ binding_there ids None v e

  pub target_id : (ids : Ids) (v : ℕ) → target_broken f ids v ≡ [] → IsId v
  target_id ids v e = var_id v (length f.vars) (target_there ids v e) b.vars

  pub key_id : (k : ℕ) → unless (nat_lt k (length f.keys)) rule.UNKNOWN_NAME ≡ [] → IsId k
  key_id k e = var_id k (length f.keys) (unless_holds (nat_lt k (length f.keys)) rule.UNKNOWN_NAME e) b.keys

  pub there : (v : ℕ) → nat_lt v (length f.vars) ≡ true → (d : VarDecl) × (slice_get f.vars v ≡ Some d)
  there v less = elim (slice_get_cases f.vars v).1 [ inl x ↦ (x.0, x.2) | inr x ↦ absurd (past x.0 less) ]
    where
      past : length f.vars ≤ v → nat_lt v (length f.vars) ≡ true → ⊥
      past far less = grind (arith, nat_tests)

  -- a variable that is there has a type, which breaks nothing
  pub type_at : (v : ℕ) → nat_lt v (length f.vars) ≡ true → (ty : Ty) × (var_type f v ≡ Some ty) × (type_broken p f ty ≡ [])
  type_at v less = let x = there v less in (x.0.ty, ap (option_map (λ (d : VarDecl). d.ty)) x.1, b.typed v x.0 x.1)

  -- ---- tokens

  token_fits : (t : Tok) → token_broken f t ≡ [] → token.Fits t
  token_fits (a_key k) e =
      let less = unless_holds (nat_lt k (length f.keys)) rule.UNKNOWN_NAME e in
      (low k (length f.keys) less b.keys, on_true (nat_lt k 256) (a_key k) (a_var (k - 256)) (small k (length f.keys) less b.keys))
    where
      low : (k n : ℕ) → nat_lt k n ≡ true → n ≤ 256 → k ≤ 4294967551
      low k n less few = grind (arith, nat_tests)

      small : (k n : ℕ) → nat_lt k n ≡ true → n ≤ 256 → nat_lt k 256 ≡ true
      small k n less few = grind (arith, nat_tests)
  token_fits (a_var v) e =
      let less = unless_holds (nat_lt v (length f.vars)) rule.UNKNOWN_NAME e in
      (low v (length f.vars) less b.vars, on_false (nat_lt (256 + v) 256) (a_key (256 + v)) (a_var (256 + v - 256)) (past v) ∙ ap a_var (back v))
    where
      low : (v n : ℕ) → nat_lt v n ≡ true → n ≤ 256 → 256 + v ≤ 4294967551
      low v n less few = grind (arith, nat_tests)

      past : (v : ℕ) → nat_lt (256 + v) 256 ≡ false
      past v = grind (arith, nat_tests)

      back : (v : ℕ) → 256 + v - 256 ≡ v
      back v = omega arith

  pub tokens_fit : (listed made : List Tok) → tokens_broken f listed made ≡ [] → All token.Fits listed
  tokens_fit listed made e = all_flat token.Fits (token_broken f) token_fits listed (left_empty (flat_map (token_broken f) listed) (unless (same_toks listed (in_order f made)) rule.NAME_TAKEN) e)

-- ---- declared types

module _ (p : Program) (key_broken : ℕ → Rules) (arg_broken : (key type : ℕ) → Rules) where
  module _ (low : (k : ℕ) → key_broken k ≡ [] → IsId k) (few : length p.types ≤ 4096) where
    keys_low : (ty : Ty) → ty_broken p key_broken arg_broken ty ≡ [] → All IsId (keys_of_ty ty)
    keys_low ty e = all_flat IsId key_broken low (keys_of_ty ty) (left_empty (flat_map key_broken (keys_of_ty ty)) _ e)

    type_low : (ty : Ty) (t : ℕ) → type_in ty ≡ Some t → ty_broken p key_broken arg_broken ty ≡ [] → IsId t
    type_low ty t is e = let d = declared p key_broken arg_broken ty t is e in few_id t (length p.types) (within p.types t d.0 d.1) few

    pub ty_fits : (ty : Ty) → ty_broken p key_broken arg_broken ty ≡ [] → IsMaskedTy ty → FitsTy ty
    ty_fits int e m = tt
    ty_fits bool e m = tt
    ty_fits (tracked k t args) e m = let ks = keys_low (tracked k t args) e in (ks.0, type_low (tracked k t args) t refl e, ks.1)
    ty_fits (owning s t args) e m = (m, type_low (owning s t args) t refl e, keys_low (owning s t args) e)
    ty_fits (guarded k t args) e m = let ks = keys_low (guarded k t args) e in (ks.0, type_low (guarded k t args) t refl e, ks.1)
    ty_fits (variant t args) e m = (type_low (variant t args) t refl e, keys_low (variant t args) e)
    ty_fits (owning_variant t args) e m = (type_low (owning_variant t args) t refl e, keys_low (owning_variant t args) e)
