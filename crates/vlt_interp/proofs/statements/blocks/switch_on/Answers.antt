use Rattle.std.proofs.Common.{rules, ◌≡◌, ◌∙◌, ℕ, pos, Some, None, length, refl, sym, ap, subst, arith, SFits, w64, to_z, of_z}
use Rattle.std.proofs.lemmas.Int.{to_z-of_z}
use Rattle.std.proofs.lemmas.List.{length-map}
use Rattle.vlt_core.specs.Core as core
use Rattle.vlt_core.specs.View.{arms_of, arm_of, vars_of, func_of}
use Rattle.vlt_meaning_laws.specs.Machine.Machine.{enter_block}
use Rattle.vlt_acts.specs.Objects.Cases.{OpensArm}
use Rattle.vlt_interp.specs.Tasks.Own.{AreVars}
use Rattle.vlt_interp.proofs.OfTasks.Staying.{keeps_on}
use Rattle.vlt_interp.proofs.OfTasks.Coming.{Came}
use Rattle.vlt_interp.specs.Statements.Arms.{arm_for}
use Rattle.vlt_interp.proofs.OfStatements.Asking.{can_table, can_var, can_vars, room_one}
use Rattle.vlt_interp.proofs.OfStatements.Switching.{arm_has, arm_lacks, arm_vars_are, arm_block_is, wide_at, vars_at, always_found, switch_came}
use Rattle.vlt_interp.proofs.statements.blocks.switch_on.Goals as goal

pub case_number-requires : goal.case_number-requires
case_number-requires c = can_table (core.switch c.args.v.0 (arms_of c.args.arms.now) 0) c.requires.can.rules c.args.run.now c.requires.can.can

pub unreachable-requires : goal.unreachable-requires
unreachable-requires c =
    let fits : SFits w64 c.case_number.result = search rules in
    let number : to_z w64 (of_z w64 c.case_number.result) ≡ c.case_number.result = to_z-of_z w64 c.case_number.result fits in
    always_found c.args.v.0 (arms_of c.args.arms.now) c.requires.can.rules c.args.run.now c.requires.can.can c.case_number.result c.case_number.ensures
    (λ n e. arm_lacks c.args.arms.now n c.arm_of_case.result c.in-None.is (c.arm_of_case.ensures n (number ∙ e)))

pub open_arm-requires-clause-table : goal.open_arm-requires-clause-table
open_arm-requires-clause-table c = can_table (core.switch c.args.v.0 (arms_of c.args.arms.now) 0) c.requires.can.rules c.args.run.now c.requires.can.can

pub open_arm-requires-clause-wide : goal.open_arm-requires-clause-wide
open_arm-requires-clause-wide c =
    let fits : SFits w64 c.case_number.result = search rules in
    let number : to_z w64 (of_z w64 c.case_number.result) ≡ c.case_number.result = to_z-of_z w64 c.case_number.result fits in
    let found : (n : ℕ) → c.case_number.result ≡ pos n → arm_for n (arms_of c.args.arms.now) ≡ Some (arm_of c.in-Some.arm.now) =
    λ n e. arm_has c.args.arms.now n c.arm_of_case.result c.in-Some.arm c.in-Some.is (c.arm_of_case.ensures n (number ∙ e)) in
    let vars : vars_of c.as_slice.result.now ≡ (arm_of c.in-Some.arm.now).1 = arm_vars_are c.in-Some.arm.now c.as_slice.result.now c.as_slice.ensures in
    wide_at c.args.v.0 (arms_of c.args.arms.now) c.requires.can.rules c.args.run.now c.requires.can.can c.case_number.result (arm_of c.in-Some.arm.now) c.case_number.ensures found
    (length c.as_slice.result.now) (sym (length-map c.as_slice.result.now (λ v. v.0)) ∙ ap length vars)

pub open_arm-requires-clause-var : goal.open_arm-requires-clause-var
open_arm-requires-clause-var c = can_var (core.switch c.args.v.0 (arms_of c.args.arms.now) 0) c.requires.can.rules c.args.run.now c.requires.can.can c.args.v.0 c.requires.can.can.own.0

pub open_arm-requires-clause-within : goal.open_arm-requires-clause-within
open_arm-requires-clause-within c =
    let fits : SFits w64 c.case_number.result = search rules in
    let number : to_z w64 (of_z w64 c.case_number.result) ≡ c.case_number.result = to_z-of_z w64 c.case_number.result fits in
    let found : (n : ℕ) → c.case_number.result ≡ pos n → arm_for n (arms_of c.args.arms.now) ≡ Some (arm_of c.in-Some.arm.now) =
    λ n e. arm_has c.args.arms.now n c.arm_of_case.result c.in-Some.arm c.in-Some.is (c.arm_of_case.ensures n (number ∙ e)) in
    let vars : vars_of c.as_slice.result.now ≡ (arm_of c.in-Some.arm.now).1 = arm_vars_are c.in-Some.arm.now c.as_slice.result.now c.as_slice.ensures in
    can_vars (core.switch c.args.v.0 (arms_of c.args.arms.now) 0) c.requires.can.rules c.args.run.now c.requires.can.can c.as_slice.result.now
    (subst (AreVars (func_of c.args.run.now.func.now)) (sym vars) (vars_at c.args.v.0 (arms_of c.args.arms.now) c.requires.can.rules c.args.run.now c.requires.can.can c.case_number.result (arm_of c.in-Some.arm.now) c.case_number.ensures found))

pub open_arm-requires-clause-room : goal.open_arm-requires-clause-room
open_arm-requires-clause-room c = room_one (core.switch c.args.v.0 (arms_of c.args.arms.now) 0) c.requires.can.rules c.args.run.now c.requires.can.can

pub returns : goal.returns
returns c =
    let fits : SFits w64 c.case_number.result = search rules in
    let number : to_z w64 (of_z w64 c.case_number.result) ≡ c.case_number.result = to_z-of_z w64 c.case_number.result fits in
    let found : (n : ℕ) → c.case_number.result ≡ pos n → arm_for n (arms_of c.args.arms.now) ≡ Some (arm_of c.in-Some.arm.now) =
    λ n e. arm_has c.args.arms.now n c.arm_of_case.result c.in-Some.arm c.in-Some.is (c.arm_of_case.ensures n (number ∙ e)) in
    let vars : vars_of c.as_slice.result.now ≡ (arm_of c.in-Some.arm.now).1 = arm_vars_are c.in-Some.arm.now c.as_slice.result.now c.as_slice.ensures in
    let mid = record c.args.run.now { values = c.open_arm.new.values } in
    λ end s b. record {
      keeps = keeps_on c.args.run.now mid c.enter_block.new.run (record {
        sound = c.requires.can.can.ready.room.heap;
        size = record { heap = refl; slots = refl };
        width = c.open_arm.ensures.same.width;
        values = c.open_arm.ensures.same.room;
        tasks = omega arith;
        line = omega arith;
      }) (c.enter_block.ensures s b).keeps;
      comes = λ f ts frame w q. switch_came s c.args.v.0 (arms_of c.args.arms.now) end c.args.run.now mid c.enter_block.new.run c.case_number.result (arm_of c.in-Some.arm.now) c.case_number.ensures found
          (record { func = refl; tasks = refl; at = refl; depth = refl; frame = c.open_arm.ensures.same }) refl refl refl
          (subst (λ vs. OpensArm c.args.v.0 vs c.args.run.now.heap c.args.run.now.values c.open_arm.new.values) vars c.open_arm.ensures.opens) b
          (λ g us after v k. subst (λ x. Came v b b None c.enter_block.new.run (enter_block g x us after v)) (arm_block_is c.in-Some.arm.now) ((c.enter_block.ensures s b).comes g us after v k)) f ts frame w q;
    }
