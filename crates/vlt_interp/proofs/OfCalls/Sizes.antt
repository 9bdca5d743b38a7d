-- Room for what a call puts into the tables.
use Rattle.std.proofs.Common.{◌≡◌, ◌≤◌, ◌+◌, ◌*◌, ℕ, [], ◌∷◌, length, Option, None, Some, refl, ap, subst, arith}
use Rattle.std.specs.Vec.{vec_capacity}
use Rattle.std.specs.Option.{option_to_list}
use Rattle.std.proofs.Math.Nat.{mul-le-mul_right, le-mul_of_pos_right}
use Rattle.std.proofs.lemmas.Option.{none-some, same_Some}
use Rattle.vlt_core.specs.Core.{Ty, int, bool, tracked, owning, guarded, variant, owning_variant, Func, Program}
use Rattle.vlt_core.specs.Lookups.{variant_in, cases_of}
use Rattle.vlt_core.specs.Widths.{greatest}
use Rattle.vlt_acts.specs.Frames.Frames.{frame_end}
use Rattle.vlt_externals.specs.Results.Results.{FitCases, FitsResult}
use Rattle.vlt_interp.specs.declared.tasks.task.Run.{Run}
use Rattle.vlt_interp.specs.Tasks.Sizes.{case_parts, cases_in_ty, parts_of, IsWide, frame_slots, line_length}
use Rattle.vlt_interp.specs.Tasks.Own.{IsOf, HasOwn}
use Rattle.vlt_interp.specs.Tasks.Moves.{HasRoom}
use Rattle.vlt_interp.proofs.Likeness.{of_all, own_func}
use Rattle.vlt_interp.proofs.OfTasks.Sizes.{greatest_at}

module _ (p : Program) (g : Func) (of : IsOf p g) where
  pub slots_at : (width : ℕ) → frame_end width 0 g ≤ frame_slots p width
  slots_at width = of_all p (λ f. frame_end width 0 f ≤ frame_slots p width) (λ i f at. greatest_at (frame_end width 0) p.fns i f at) g of (λ h. h)

  pub line_at : line_length g ≤ greatest line_length p.fns
  line_at = of_all p (λ f. line_length f ≤ greatest line_length p.fns) (λ i f at. greatest_at line_length p.fns i f at) g of (λ h. h)

  -- each case of what the function gives fits
  pub result_fits : (width : ℕ) → IsWide p width → FitsResult p g width
  result_fits width wide v is = by g.result refl is
    where
      within : (t : Ty) → g.result ≡ Some t → parts_of p t ≤ width
      within t at =
          let a = greatest_at (parts_of p) (t ∷ []) 0 t refl in
          let most = λ (f : Func). greatest (parts_of p) (option_to_list f.result) in
          let b : most g ≤ greatest most p.fns = of_all p (λ f. most f ≤ greatest most p.fns) (λ i f at. greatest_at most p.fns i f at) g of (λ h. h) in
          let c = subst (λ o. greatest (parts_of p) (option_to_list o) ≤ greatest (λ f. greatest (parts_of p) (option_to_list f.result)) p.fns) at b in
          let d = wide.results in
          omega (arith, a, c, d)

      fit : (t : ℕ) (ty : Ty) → cases_in_ty p ty ≡ cases_of p t → parts_of p ty ≤ width → FitCases p t width
      fit t ty same l c d at =
          let a = greatest_at case_parts (cases_of p t) c d at in
          let b : greatest case_parts (cases_in_ty p ty) ≤ parts_of p ty = omega arith in
          let e = ap (greatest case_parts) same in
          omega (arith, a, b, e, l)

      by : (o : Option Ty) → g.result ≡ o → variant_in o ≡ Some v → FitCases p v.type width
      by None at is = absurd (none-some v is)
      by (Some int) at is = absurd (none-some v is)
      by (Some bool) at is = absurd (none-some v is)
      by (Some (tracked k t args)) at is = absurd (none-some v is)
      by (Some (owning states t args)) at is = absurd (none-some v is)
      by (Some (guarded k t args)) at is = absurd (none-some v is)
      by (Some (variant t args)) at is = subst (λ q. FitCases p q.type width) (same_Some (record { type = t; args = args }) v is) (fit t (variant t args) refl (within (variant t args) at))
      by (Some (owning_variant t args)) at is = subst (λ q. FitCases p q.type width) (same_Some (record { type = t; args = args }) v is) (fit t (owning_variant t args) refl (within (owning_variant t args) at))

  module _ (depth : ℕ) (r : Run) (room : HasRoom p depth r) (own : HasOwn p) where
    pub args_slots : g.params * r.values.width ≤ frame_slots p r.values.width
    args_slots =
        let a = mul-le-mul_right r.values.width (own_func p own g of).params in
        let b = slots_at r.values.width in
        omega (arith, a, b)

    -- for a value more after the arguments
    pub value_room : length r.values.slots.items ≤ depth * frame_slots p r.values.width + g.params * r.values.width → length r.values.slots.items + r.values.width ≤ vec_capacity r.values.slots
    value_room values =
        let a = args_slots in
        let b = le-mul_of_pos_right {m = r.values.width} r.values.width (omega (arith, room.wide.some)) in
        let c : (depth + 1) * frame_slots p r.values.width ≡ depth * frame_slots p r.values.width + frame_slots p r.values.width = omega arith in
        let d = room.values in
        omega (arith, a, b, c, d, values)

    pub line_room : length g.name + g.params * 42 + 2 ≤ vec_capacity r.host.line
    line_room = let a = line_at in let b = room.line in omega (arith, a, b)
