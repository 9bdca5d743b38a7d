-- What is looked up of a moved function, and of types that stand elsewhere.
use mathlib.Core.Path.{fun_ext}
use Rattle.std.proofs.Common.{◌≡◌, ℕ, nat_lt, ◌&&◌, List, ◌++◌, map, filter, Option, Some, None, slice_get, option_map, refl, sym, ap, ap₂, ◌∙◌}
use Rattle.std.proofs.lemmas.Option.{slice_get-map}
use Rattle.std.proofs.lemmas.List.{length-map}
use Rattle.std.specs.List.{range_with_len}
use Rattle.vlt_core.specs.Core.{States, Link, Ty, int, bool, tracked, owning, guarded, variant, owning_variant, FieldDecl, CaseDecl, KeyDecl, VarDecl, a_key, a_var, Func, Program}
use Rattle.vlt_core.specs.Lookups.{var_type, is_owning, owns, is_owning_var, owning_vars, Reference, tracked_in, guarded_in, reference_of, guarded_of, owning_states_in, owning_states, VariantOf, variant_in, variant_of, keys_in, case_keys, cases_in, key_type_in, key_type, states_of_type, states_of_key, states_or_all, every_state, leads_up, up_to_in, key_states_up_to, release_in, release_set, fields_in, field_states_in, permitted_in}
use Rattle.vlt_core.specs.Rows.{tokens_of}
use Rattle.vlt_link_laws.specs.CoreMoves.Moves.{Moves, moved_ty, moved_field, moved_case, moved_key, moved_var, moved_func}
use Rattle.vlt_link_laws.specs.CoreMoves.Keeps.{Keeps}
use Rattle.vlt_link_laws.specs.CoreMoves.Knows.{IsType, IsStruct, IsVariant}

abbrev pub moved_reference : Moves → Reference → Reference
moved_reference m r = record { key = r.key; type = m.types r.type }

abbrev pub moved_variant_of : Moves → VariantOf → VariantOf
moved_variant_of m v = record { type = m.types v.type; args = v.args }

module _ (m : Moves) where
  -- ---- types

  pub same_owner : (ty : Ty) → is_owning (moved_ty m ty) ≡ is_owning ty
  same_owner int = refl
  same_owner bool = refl
  same_owner (tracked k t args) = refl
  same_owner (owning states t args) = refl
  same_owner (guarded k t args) = refl
  same_owner (variant t args) = refl
  same_owner (owning_variant t args) = refl

  pub tracked_moves : (ty : Option Ty) → tracked_in (option_map (moved_ty m) ty) ≡ option_map (moved_reference m) (tracked_in ty)
  tracked_moves None = refl
  tracked_moves (Some int) = refl
  tracked_moves (Some bool) = refl
  tracked_moves (Some (tracked k t args)) = refl
  tracked_moves (Some (owning states t args)) = refl
  tracked_moves (Some (guarded k t args)) = refl
  tracked_moves (Some (variant t args)) = refl
  tracked_moves (Some (owning_variant t args)) = refl

  pub guarded_moves : (ty : Option Ty) → guarded_in (option_map (moved_ty m) ty) ≡ option_map (moved_reference m) (guarded_in ty)
  guarded_moves None = refl
  guarded_moves (Some int) = refl
  guarded_moves (Some bool) = refl
  guarded_moves (Some (tracked k t args)) = refl
  guarded_moves (Some (owning states t args)) = refl
  guarded_moves (Some (guarded k t args)) = refl
  guarded_moves (Some (variant t args)) = refl
  guarded_moves (Some (owning_variant t args)) = refl

  pub variant_moves : (ty : Option Ty) → variant_in (option_map (moved_ty m) ty) ≡ option_map (moved_variant_of m) (variant_in ty)
  variant_moves None = refl
  variant_moves (Some int) = refl
  variant_moves (Some bool) = refl
  variant_moves (Some (tracked k t args)) = refl
  variant_moves (Some (owning states t args)) = refl
  variant_moves (Some (guarded k t args)) = refl
  variant_moves (Some (variant t args)) = refl
  variant_moves (Some (owning_variant t args)) = refl

  pub states_move : (ty : Option Ty) → owning_states_in (option_map (moved_ty m) ty) ≡ owning_states_in ty
  states_move None = refl
  states_move (Some int) = refl
  states_move (Some bool) = refl
  states_move (Some (tracked k t args)) = refl
  states_move (Some (owning states t args)) = refl
  states_move (Some (guarded k t args)) = refl
  states_move (Some (variant t args)) = refl
  states_move (Some (owning_variant t args)) = refl

  -- ---- variables and keys of a function

  pub var_moves : (f : Func) (v : ℕ) → var_type (moved_func m f) v ≡ option_map (moved_ty m) (var_type f v)
  var_moves f v = ap (option_map (λ d. d.ty)) (slice_get-map (moved_var m) f.vars v) ∙ by (slice_get f.vars v)
    where
      by : (o : Option VarDecl) → option_map (λ d. d.ty) (option_map (moved_var m) o) ≡ option_map (moved_ty m) (option_map (λ d. d.ty) o)
      by None = refl
      by (Some d) = refl

  pub reference_moves : (f : Func) (x : ℕ) → reference_of (moved_func m f) x ≡ option_map (moved_reference m) (reference_of f x)
  reference_moves f x = ap tracked_in (var_moves f x) ∙ tracked_moves (var_type f x)

  pub guard_moves : (f : Func) (x : ℕ) → guarded_of (moved_func m f) x ≡ option_map (moved_reference m) (guarded_of f x)
  guard_moves f x = ap guarded_in (var_moves f x) ∙ guarded_moves (var_type f x)

  pub variant_of_moves : (f : Func) (v : ℕ) → variant_of (moved_func m f) v ≡ option_map (moved_variant_of m) (variant_of f v)
  variant_of_moves f v = ap variant_in (var_moves f v) ∙ variant_moves (var_type f v)

  pub same_owning_states : (f : Func) (v : ℕ) → owning_states (moved_func m f) v ≡ owning_states f v
  same_owning_states f v = ap owning_states_in (var_moves f v) ∙ states_move (var_type f v)

  same_owns : (ty : Option Ty) → owns (option_map (moved_ty m) ty) ≡ owns ty
  same_owns None = refl
  same_owns (Some ty) = same_owner ty

  pub same_owning_var : (f : Func) → is_owning_var (moved_func m f) ≡ is_owning_var f
  same_owning_var f = fun_ext (λ v. ap owns (var_moves f v) ∙ same_owns (var_type f v))

  pub same_owning_vars : (f : Func) → owning_vars (moved_func m f) ≡ owning_vars f
  same_owning_vars f = ap₂ (λ test n. filter test (range_with_len 0 n)) (same_owning_var f) (length-map f.vars (moved_var m))

  pub same_tokens : (f : Func) → tokens_of (moved_func m f) ≡ tokens_of f
  same_tokens f = ap₂ (λ n vs. map a_key (range_with_len 0 n) ++ map a_var vs) (length-map f.keys (moved_key m)) (same_owning_vars f)

  pub key_moves : (f : Func) (k : ℕ) → key_type (moved_func m f) k ≡ option_map m.types (key_type f k)
  key_moves f k = ap key_type_in (slice_get-map (moved_key m) f.keys k) ∙ by (slice_get f.keys k)
    where
      by : (o : Option KeyDecl) → key_type_in (option_map (moved_key m) o) ≡ option_map m.types (key_type_in o)
      by None = refl
      by (Some d) = refl

  -- ---- declared types

  module _ (p q : Program) (keeps : Keeps m p q) where
    same_field : (ds : List FieldDecl) (i : ℕ) → field_states_in (slice_get (map (moved_field m) ds) i) ≡ field_states_in (slice_get ds i)
    same_field ds i = ap field_states_in (slice_get-map (moved_field m) ds i) ∙ by (slice_get ds i)
      where
        by : (o : Option FieldDecl) → field_states_in (option_map (moved_field m) o) ≡ field_states_in o
        by None = refl
        by (Some d) = refl

    pub same_permitted : (t i : ℕ) → IsStruct p t → permitted_in q (m.types t) i ≡ permitted_in p t i
    same_permitted t i s =
        ap (λ d. field_states_in (slice_get (fields_in d) i)) (keeps.structs t s.decl s.is) ∙
        (same_field s.decl.fields i ∙ sym (ap (λ d. field_states_in (slice_get (fields_in d) i)) s.is))

    pub same_release : (t : ℕ) → IsStruct p t → release_set q (m.types t) ≡ release_set p t
    same_release t s = ap (release_in q (m.types t)) (keeps.structs t s.decl s.is) ∙ sym (ap (release_in p t) s.is)

    same_keys_in : (args : List ℕ) (ds : List CaseDecl) (c : ℕ) → keys_in args (slice_get (map (moved_case m) ds) c) ≡ keys_in args (slice_get ds c)
    same_keys_in args ds c = ap (keys_in args) (slice_get-map (moved_case m) ds c) ∙ by (slice_get ds c)
      where
        by : (o : Option CaseDecl) → keys_in args (option_map (moved_case m) o) ≡ keys_in args o
        by None = refl
        by (Some d) = refl

    pub same_case_keys : (v : VariantOf) (c : ℕ) → IsVariant p v.type → case_keys q (moved_variant_of m v) c ≡ case_keys p v c
    same_case_keys v c s =
        ap (λ d. keys_in v.args (slice_get (cases_in d) c)) (keeps.variants v.type s.decl s.is) ∙
        (same_keys_in v.args s.decl.cases c ∙ sym (ap (λ d. keys_in v.args (slice_get (cases_in d) c)) s.is))

    -- ---- all states of a key

    module _ (f : Func) (known : (k t : ℕ) → key_type f k ≡ Some t → IsType p t) where
      pub same_key_states : (k : ℕ) → states_of_key q (moved_func m f) k ≡ states_of_key p f k
      same_key_states k = ap (states_of_type q) (key_moves f k) ∙ by (key_type f k) refl
        where
          by : (o : Option ℕ) → key_type f k ≡ o → states_of_type q (option_map m.types o) ≡ states_of_type p o
          by None e = refl
          by (Some t) e = ap (λ n s. nat_lt s n) (keeps.states t (known k t e).decl (known k t e).is)

      -- the states up to one, in the order of the key's type
      pub same_up_to : (k b : ℕ) → key_states_up_to q (moved_func m f) k b ≡ key_states_up_to p f k b
      same_up_to k b = ap (λ t. up_to_in q t b) (key_moves f k) ∙ by (key_type f k) refl
        where
          by : (o : Option ℕ) → key_type f k ≡ o → up_to_in q (option_map m.types o) b ≡ up_to_in p o b
          by None e = refl
          by (Some t) e =
              let d = known k t e in
              ap₂ {C = States} (λ (n : ℕ) (ls : List Link) s. every_state s && (nat_lt s n && leads_up ls 31 s b)) (keeps.states t d.decl d.is) (keeps.links t d.decl d.is)

      pub same_states_or_all : (k : ℕ) (o : Option States) → states_or_all q (moved_func m f) k o ≡ states_or_all p f k o
      same_states_or_all k None = same_key_states k
      same_states_or_all k (Some states) = refl
