-- The parameters of a glue function: what is reported of them to the host, and the objects of those that own one.
use Rattle.std.proofs.Common.{◌≡◌, ◌<◌, ℕ, suc, ◌+◌, Bool, true, false, if◌then◌else◌, List, [], ◌∷◌, ◌++◌, map, filter, length, Option, Some, slice_get, refl, sym, ap, ◌∙◌, subst, arith}
use Rattle.std.proofs.lemmas.Bool.{true≢false}
use Rattle.std.specs.List.{flat_map, range_with_len}
use Rattle.vlt_core.specs.Core as core
use Rattle.vlt_core.specs.Core.{Ty, Func, Program}
use Rattle.vlt_core.specs.Lookups.{var_type, is_owning_var, owns, is_owning}
use Rattle.vlt_meaning.specs.World as source
use Rattle.vlt_meaning.specs.World.{one, objects_in}
use Rattle.c_syntax.specs.declared.program.CVar.{CVar}
use Rattle.c_meaning.specs.Run as crun
use Rattle.c_lower.specs.Slots.{slot_of, param_slots, sorts_of, vars_at, first_slot}
use Rattle.c_lower.specs.Statements.{is_variant}
use Rattle.c_lower.specs.Glue.{params_of}
use Rattle.c_lower_worlds.specs.Worlds.{c_part, told_by, told_part}
use Rattle.c_lower_worlds.specs.Shapes.{HasShape}
use Rattle.c_lower_worlds.specs.Frames.{StandsFor}
use Rattle.c_lower_runs.proofs.CalleeFrames.{ArgsFit, decl_values, called_frame, callee_stands}
use Rattle.c_lower_runs.proofs.ExternalCalls.{glue_frame}
use Rattle.c_lower_worlds.proofs.MovedObjects.{Refer}
use Rattle.c_lower_runs.proofs.Questions.{Tell, Tells, tells_part}
use Rattle.c_lower_worlds.proofs.VariableSlots.{starts}
use Rattle.c_lower_worlds.proofs.VariableValues.{slot_holds, typed, part_same}

-- no parameter is a variant's
pub record PlainParameters (gf : Func) : Type 0 where
  pub plain : (v : ℕ) (ty : Ty) → v < gf.params → var_type gf v ≡ Some ty → is_variant (Some ty) ≡ false

record Single (p : Program) (types : List ℕ) (ty : Ty) (a : source.Value) : Type 0 where
  part : source.Part
  is : a ≡ one part

single : (p : Program) (types : List ℕ) (ty : Ty) (a : source.Value) → is_variant (Some ty) ≡ false → HasShape p types ty a → Single p types ty a
single p types core.int a e h = record { part = h.part; is = h.is }
single p types core.bool a e h = record { part = h.part; is = h.is }
single p types (core.tracked k t args) a e h = record { part = h.part; is = h.is }
single p types (core.guarded k t args) a e h = record { part = h.part; is = h.is }
single p types (core.owning states t args) a e h = record { part = h.part; is = h.is }
single p types (core.variant t args) a e h = absurd (true≢false e)
single p types (core.owning_variant t args) a e h = absurd (true≢false e)

module _ (p : Program) (types : List ℕ) (gf : Func) (d : ℕ) (keys : ℕ → Option ℕ) (values : List source.Value) (fits : ArgsFit p types gf.vars values) (count : length values ≡ gf.params) (plain : PlainParameters gf) where
  abbrev G : crun.Frame
  G = glue_frame d (param_slots p gf) (decl_values p gf.vars values)

  abbrev callee : source.Frame
  callee = record { depth = d; vars = slice_get values; keys = keys }

  stands : StandsFor p types gf callee (called_frame d (param_slots p gf) (decl_values p gf.vars values))
  stands = callee_stands p types gf d keys values fits count

  record Param (v : ℕ) (a : source.Value) : Type 0 where
    part : source.Part
    is : a ≡ one part
    ty : Ty
    declared : var_type gf v ≡ Some ty
    single : is_variant (Some ty) ≡ false
    shape : HasShape p types ty (one part)
    at : G.vars (slot_of p gf v) ≡ Some (c_part part)

  param : (v : ℕ) (a : source.Value) → v < gf.params → slice_get values v ≡ Some a → Param v a
  param v a below e =
      let t = typed p types gf callee (called_frame d (param_slots p gf) (decl_values p gf.vars values)) v a stands e in
      let no = plain.plain v t.ty below t.declared in
      let x = single p types t.ty a no t.shape in
      record {
        part = x.part;
        is = x.is;
        ty = t.ty;
        declared = t.declared;
        single = no;
        shape = subst (HasShape p types t.ty) x.is t.shape;
        at = slot_holds p types gf callee (called_frame d (param_slots p gf) (decl_values p gf.vars values)) v x.part stands (e ∙ ap (λ a. Some a) x.is);
      }

  -- a parameter that is reported
  told_one : (v : ℕ) (a : source.Value) → (x : Param v a) → Tell (slot_of p gf v) (told_part x.part) G
  told_one v a x = by (var_type gf v) x.declared x.at
    where
      by : (o : Option Ty) → o ≡ Some x.ty → G.vars (first_slot (vars_at (starts p gf v) (sorts_of p o))) ≡ Some (c_part x.part) → Tell (first_slot (vars_at (starts p gf v) (sorts_of p o))) (told_part x.part) G
      by o e at = subst (λ o. G.vars (first_slot (vars_at (starts p gf v) (sorts_of p o))) ≡ Some (c_part x.part) → Tell (first_slot (vars_at (starts p gf v) (sorts_of p o))) (told_part x.part) G) (sym e)
          (tells_part p types x.ty x.part (starts p gf v) G x.single x.shape) at

  tells_from : (rest : List source.Value) (b : ℕ) → ((i : ℕ) (a : source.Value) → slice_get rest i ≡ Some a → slice_get values (b + i) ≡ Some a) → b + length rest ≡ gf.params →
      Tells (slot_of p gf) (range_with_len b (length rest)) (flat_map told_by rest) G
  tells_from [] b h e = tt
  tells_from (a ∷ rest) b h e =
      let same : b + 0 ≡ b = omega arith in
      let x = param b a (omega arith) (ap (slice_get values) (sym same) ∙ h 0 a refl) in
      rw (x.is) (told_one b a x, tells_from rest (b + 1) (λ i c q. ap (slice_get values) (more b i) ∙ h (suc i) c q) (omega arith))
    where
      more : (b i : ℕ) → b + 1 + i ≡ b + suc i
      more b i = omega arith

  zero_more : (i : ℕ) → 0 + i ≡ i
  zero_more i = omega arith

  pub tells : Tells (slot_of p gf) (params_of gf) (flat_map told_by values) G
  tells = subst (λ n. Tells (slot_of p gf) (range_with_len 0 n) (flat_map told_by values) G) count (tells_from values 0 (λ i a e. ap (slice_get values) (zero_more i) ∙ e) (omega (arith, count)))

  -- one word for each
  long_from : (rest : List source.Value) (b : ℕ) → ((i : ℕ) (a : source.Value) → slice_get rest i ≡ Some a → slice_get values (b + i) ≡ Some a) → b + length rest ≡ gf.params →
      length (flat_map told_by rest) ≡ length rest
  long_from [] b h e = refl
  long_from (a ∷ rest) b h e =
      let same : b + 0 ≡ b = omega arith in
      let x = param b a (omega arith) (ap (slice_get values) (sym same) ∙ h 0 a refl) in
      rw (x.is) (ap suc (long_from rest (b + 1) (λ i c q. ap (slice_get values) (more b i) ∙ h (suc i) c q) (omega arith)))
    where
      more : (b i : ℕ) → b + 1 + i ≡ b + suc i
      more b i = omega arith

  pub told_long : length (flat_map told_by values) ≡ gf.params
  told_long = long_from values 0 (λ i a e. ap (slice_get values) (zero_more i) ∙ e) (omega (arith, count)) ∙ count

  -- ---- parameters that own their objects

  owned_one : (ty : Ty) (a : source.Part) → is_variant (Some ty) ≡ false → HasShape p types ty (one a) → (v : CVar) → G.vars v ≡ Some (c_part a) →
      (vs : List CVar) (ns : List ℕ) → Refer vs ns G → Refer (if is_owning ty then v ∷ vs else vs) (objects_in (one a) ++ ns) G
  owned_one core.int a e h v at vs ns r = let q = part_same a h.part h.is ∙ h.shape.is in rw q r
  owned_one core.bool a e h v at vs ns r = let q = part_same a h.part h.is ∙ h.shape.is in rw q r
  owned_one (core.tracked k t args) a e h v at vs ns r = let q = part_same a h.part h.is ∙ h.shape.is in rw q r
  owned_one (core.guarded k t args) a e h v at vs ns r = let q = part_same a h.part h.is ∙ h.shape.is in rw q r
  owned_one (core.owning states t args) a e h v at vs ns r =
      let q = part_same a h.part h.is ∙ h.shape.is in rw q (at ∙ ap (λ a. Some (c_part a)) q, r)
  owned_one (core.variant t args) a e h v at vs ns r = absurd (true≢false e)
  owned_one (core.owning_variant t args) a e h v at vs ns r = absurd (true≢false e)

  owners_from : (rest : List source.Value) (b : ℕ) → ((i : ℕ) (a : source.Value) → slice_get rest i ≡ Some a → slice_get values (b + i) ≡ Some a) → b + length rest ≡ gf.params →
      Refer (map (slot_of p gf) (filter (is_owning_var gf) (range_with_len b (length rest)))) (flat_map objects_in rest) G
  owners_from [] b h e = tt
  owners_from (a ∷ rest) b h e =
      let same : b + 0 ≡ b = omega arith in
      let x = param b a (omega arith) (ap (slice_get values) (sym same) ∙ h 0 a refl) in
      let later = owners_from rest (b + 1) (λ i c q. ap (slice_get values) (more b i) ∙ h (suc i) c q) (omega arith) in
      rw (x.is)
      (subst (λ ns. ns) (ap (λ vs. Refer vs (objects_in (one x.part) ++ flat_map objects_in rest) G) (sym (chosen (owns (var_type gf b)) (is_owning x.ty) (ap owns x.declared))))
      (owned_one x.ty x.part x.single x.shape (slot_of p gf b) x.at (map (slot_of p gf) (filter (is_owning_var gf) (range_with_len (b + 1) (length rest)))) (flat_map objects_in rest) later))
    where
      more : (b i : ℕ) → b + 1 + i ≡ b + suc i
      more b i = omega arith

      chosen : (c o : Bool) → c ≡ o → map (slot_of p gf) (if c then b ∷ filter (is_owning_var gf) (range_with_len (b + 1) (length rest)) else filter (is_owning_var gf) (range_with_len (b + 1) (length rest))) ≡
          (if o then slot_of p gf b ∷ map (slot_of p gf) (filter (is_owning_var gf) (range_with_len (b + 1) (length rest))) else map (slot_of p gf) (filter (is_owning_var gf) (range_with_len (b + 1) (length rest))))
      chosen true true e = refl
      chosen false false e = refl
      chosen true false e = absurd (true≢false e)
      chosen false true e = absurd (true≢false (sym e))

  pub owners : Refer (map (slot_of p gf) (filter (is_owning_var gf) (params_of gf))) (flat_map objects_in values) G
  owners = subst (λ n. Refer (map (slot_of p gf) (filter (is_owning_var gf) (range_with_len 0 n))) (flat_map objects_in values) G) count (owners_from values 0 (λ i a e. ap (slice_get values) (zero_more i) ∙ e) (omega (arith, count)))
