-- The facts that follow from the rules on names and types.
use Rattle.std.proofs.Common.{◌≡◌, ℕ, nat_le, map, length, [], Some, refl, slice_get}
use Rattle.vlt_core.specs.Core.{variant, Func, Program}
use Rattle.vlt_core.specs.Types.{header_of}
use Rattle.vlt_core.specs.KindedHeads.{are_apart, head_broken}
use Rattle.vlt_core.specs.declared.rules.TheConstants as rule
use Rattle.vlt_core.specs.Kinded.{IsKinded}
use Rattle.vlt_core.specs.KindedBodies.{body_rows, end_broken}
use Rattle.vlt_core_laws.specs.States.{HasStates}
use Rattle.vlt_sound_worlds.specs.Typed.{IsTyped}
use Rattle.vlt_sound_worlds.proofs.Empty.{both_empty, unless_so}
use Rattle.vlt_sound_worlds.specs.Scoped.{HasKeys}
use Rattle.vlt_sound_statements.specs.Makings.{HasCases}
use Rattle.vlt_sound_calls.specs.Heads.{HasHead}
use Rattle.vlt_sound_statements.specs.Kinded.{BreakNone}
use Rattle.vlt_sound.specs.Sizes.{HasSizes}
use Rattle.vlt_sound.proofs.Rows.{function_kinded}
use Rattle.vlt_sound.proofs.Types.{variant_plain, variant_declared, variant_type}
use Rattle.vlt_sound.proofs.Decls.{part_keys, has_sets, field_kinded, field_plain, payload_kinded, case_key_kinded, limited, first_there}
use Rattle.vlt_sound.proofs.Vars.{head_kinded, entry_key, apart_result, var_kinded, key_within, result_kinded, head_number, own_type, arg_type, new_key, given_type}

module _ (p : Program) (g : ℕ) (f : Func) (kinded : IsKinded p) where
  pub is_typed : HasSizes p → slice_get p.fns g ≡ Some f → IsTyped p f
  is_typed sizes at =
      let head = head_kinded p g f kinded at in
      record {
        limited = limited p kinded sizes;
        sets = has_sets p kinded;
        vars = λ v ty t is declared. (var_kinded p f head v ty is).declared t declared;
        fields = λ t i d at k j. part_keys p (header_of p t) d.ty (field_kinded p kinded t i d at) k j;
        variants = λ v t args is. (variant_plain p t args ((var_kinded p f head v (variant t args) is).shape t refl)).1;
        field_variants = λ t i u d args at is. field_plain p kinded t i u d args at is;
        keys = λ v k t args is. own_type p f head v k t args is;
        heads = λ v t i k u ty is declared at given. arg_type p f head v t i k u ty is declared at given;
      }

  pub has_cases : HasStates p → slice_get p.fns g ≡ Some f → HasCases p f
  has_cases filled at =
      let head = head_kinded p g f kinded at in
      record {
        first = first_there p kinded filled;
        payloads = λ t c i d ty is at.
            let both = payload_kinded p kinded t c i d ty is at in
            (both.0, λ k j. part_keys p (header_of p t) ty both.1 k j);
        keys = λ t c i d k is at. case_key_kinded p kinded t c i d k is at;
        variants = λ v t args ty is of.
            variant_declared p ty t args ((var_kinded p f head v ty is).shape t (variant_type ty t args of)) of;
      }

  pub has_keys : slice_get p.fns g ≡ Some f → HasKeys f
  has_keys at = record { keys = λ v k ty is i. key_within p f (head_kinded p g f kinded at) v k ty is i }

  pub has_head : slice_get p.fns g ≡ Some f → HasHead p f
  has_head at =
      let head = head_kinded p g f kinded at in
      record {
        params = unless_so (nat_le f.params (length f.vars)) rule.UNKNOWN_NAME head.params;
        numbers = λ k e. head_number p f head k e;
        apart = unless_so (are_apart (map (λ e. e.key) f.clause)) rule.CLAUSE_KEY_AGAIN head.apart;
        entries = λ i e at. entry_key p f head i e at;
        new = λ i e at new. new_key p f head i e at new;
        result = λ k i. apart_result p f head k i;
        result_variants = λ t args is. (variant_plain p t args ((result_kinded p f head (variant t args) is).shape t refl)).1;
        given = λ k t of is. given_type p f head k t of is;
      }

  pub body_kinded : slice_get p.fns g ≡ Some f → BreakNone (body_rows p f)
  body_kinded at = (function_kinded p kinded g f at).1

  pub end_kinded : slice_get p.fns g ≡ Some f → end_broken p f ≡ []
  end_kinded at = (both_empty (head_broken p g f) (end_broken p f) (function_kinded p kinded g f at).0).1
