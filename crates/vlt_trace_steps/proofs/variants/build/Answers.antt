use Rattle.std.proofs.Common.{◌≡◌, ◌==◌, ℕ, true, List, length, map, Ok, refl, sym, ap, ◌∙◌}
use Rattle.std.specs.Option.{option_map}
use Rattle.vlt_core.specs.Lookups.{case_at, case_keys, variant_of}
use Rattle.vlt_core.specs.LookupViews.{variant_view}
use Rattle.vlt_core.specs.View.{operand_of}
use Rattle.vlt_meaning.specs.World as m
use Rattle.vlt_meaning.specs.Found.{or_fault}
use Rattle.vlt_meaning.specs.Externals.{payload_in}
use Rattle.vlt_meaning.specs.Operands.{parts_of, with_case_packed}
use Rattle.vlt_meaning.specs.Step.{Step, fill}
use Rattle.vlt_meaning_laws.specs.Machine.Got.{operands_got}
use Rattle.vlt_trace_worlds.specs.View.{value_view, part_view, frame_view, world_view}
use Rattle.vlt_trace_worlds.specs.Running.{program_in, func_in, setup_in}
use Rattle.vlt_trace_worlds.specs.declared.stops.Halt.TheVariants.{Memory}
use Rattle.vlt_trace_steps.specs.Cases.{case_key_view}
use Rattle.vlt_trace_steps.proofs.Leading.{err_is, no_memory, same_goes, finds_ok, finds_err, gives_ok, gives_err, hands_ok, hands_err}
use Rattle.vlt_trace_steps.proofs.Building.{build_on, build_begins}
use Rattle.vlt_trace_steps.proofs.Cells.{same_count}
use Rattle.vlt_trace_steps.proofs.variants.build.Goals as goal

pub returns-in_err-values : goal.returns-in_err-values
returns-in_err-values c = λ heap depth.
    let p = program_in c.args.at.now in
    let f = func_in c.args.at.now in
    let fr = frame_view c.args.frame.now in
    let w = world_view c.args.world.now in
    let mid = frame_view c.operands.new.frame in
    let v = world_view c.operands.new.world in
    let t = variant_view c.in-Some.t in
    let os = map operand_of c.args.args.now in
    let n = c.args.v.0 in
    let k = c.args.case in
    let there : Ok t ≡ or_fault m.missing (variant_of f n) = ap (or_fault m.missing) (ap (option_map variant_view) (sym c.in-Some.is) ∙ c.variant.ensures) in
    let count : (length os == length (payload_in (case_at p t.type k))) ≡ true = same_count operand_of c.args.args.now (payload_in (case_at p t.type k)) (length c.args.args.now) c.payload_count.result refl c.payload_count.ensures c.if-args-payload_count.false in
    let begun = build_begins (setup_in c.args.at.now heap depth) f n k os fr w t there count in
    same_goes _ _ c.from_residual.result mid v begun
    (gives_err (map value_view) c.operands.result c.in_err-values.field-0.0 (operands_got p f os fr w) mid v (build_on p f n k t) c.from_residual.result mid
    (err_is c.from_residual.result _ c.from_residual.ensures.1) c.in_err-values.was c.operands.ensures)

pub returns-in_err-parts : goal.returns-in_err-parts
returns-in_err-parts c = λ heap depth.
    let p = program_in c.args.at.now in
    let f = func_in c.args.at.now in
    let fr = frame_view c.args.frame.now in
    let w = world_view c.args.world.now in
    let mid = frame_view c.operands.new.frame in
    let v = world_view c.operands.new.world in
    let t = variant_view c.in-Some.t in
    let os = map operand_of c.args.args.now in
    let n = c.args.v.0 in
    let k = c.args.case in
    let there : Ok t ≡ or_fault m.missing (variant_of f n) = ap (or_fault m.missing) (ap (option_map variant_view) (sym c.in-Some.is) ∙ c.variant.ensures) in
    let count : (length os == length (payload_in (case_at p t.type k))) ≡ true = same_count operand_of c.args.args.now (payload_in (case_at p t.type k)) (length c.args.args.now) c.payload_count.result refl c.payload_count.ensures c.if-args-payload_count.false in
    let begun = build_begins (setup_in c.args.at.now heap depth) f n k os fr w t there count in
    let values = map value_view c.in_ok-values.values in
    let taken = begun ∙ gives_ok (map value_view) c.operands.result c.in_ok-values.values (operands_got p f os fr w) mid v (build_on p f n k t) c.in_ok-values.was c.operands.ensures in
    same_goes _ _ c.from_residual-in_err-parts.result mid v taken
    (finds_err (map part_view) c.parts_of.result c.in_err-parts.field-0.0 (parts_of values) v _ c.from_residual-in_err-parts.result mid
    (err_is c.from_residual-in_err-parts.result _ c.from_residual-in_err-parts.ensures.1) c.in_err-parts.was (rw c.as_slice.ensures at c.parts_of.ensures))

pub returns-in_err-listed : goal.returns-in_err-listed
returns-in_err-listed c = λ heap depth. no_memory _ _ _ _ (err_is c.from_residual-in_err-listed.result Memory c.from_residual-in_err-listed.ensures.1)

pub returns-in_err-keys : goal.returns-in_err-keys
returns-in_err-keys c = λ heap depth.
    let p = program_in c.args.at.now in
    let f = func_in c.args.at.now in
    let fr = frame_view c.args.frame.now in
    let w = world_view c.args.world.now in
    let mid = frame_view c.operands.new.frame in
    let v = world_view c.operands.new.world in
    let t = variant_view c.in-Some.t in
    let os = map operand_of c.args.args.now in
    let n = c.args.v.0 in
    let k = c.args.case in
    let there : Ok t ≡ or_fault m.missing (variant_of f n) = ap (or_fault m.missing) (ap (option_map variant_view) (sym c.in-Some.is) ∙ c.variant.ensures) in
    let count : (length os == length (payload_in (case_at p t.type k))) ≡ true = same_count operand_of c.args.args.now (payload_in (case_at p t.type k)) (length c.args.args.now) c.payload_count.result refl c.payload_count.ensures c.if-args-payload_count.false in
    let begun = build_begins (setup_in c.args.at.now heap depth) f n k os fr w t there count in
    let values = map value_view c.in_ok-values.values in
    let taken = begun ∙ gives_ok (map value_view) c.operands.result c.in_ok-values.values (operands_got p f os fr w) mid v (build_on p f n k t) c.in_ok-values.was c.operands.ensures in
    let parts = map part_view c.in_ok-parts.parts in
    let u = world_view c.pack_case.new.world in
    let last : List ℕ → m.World → Step = λ ns w. fill f n (m.of_case k parts ns) mid w in
    let keys : map case_key_view c.as_slice-2.result.now ≡ case_keys p t k = ap (map case_key_view) c.as_slice-2.ensures ∙ c.in_ok-listed.ensures in
    let found = taken ∙ (finds_ok (map part_view) c.parts_of.result c.in_ok-parts.parts (parts_of values) v (λ parts. with_case_packed (case_keys p t k) mid v (λ ns w. fill f n (m.of_case k parts ns) mid w)) c.in_ok-parts.was (rw c.as_slice.ensures at c.parts_of.ensures)
    ∙ ap (λ ks. with_case_packed ks mid v last) (sym keys)) in
    same_goes _ _ c.from_residual-in_err-keys.result mid u found
    (hands_err _ c.pack_case.result c.in_err-keys.field-0.0 _ u c.from_residual-in_err-keys.result mid
    (err_is c.from_residual-in_err-keys.result _ c.from_residual-in_err-keys.ensures.1) c.in_err-keys.was (c.pack_case.ensures last))

pub returns : goal.returns
returns c = λ heap depth.
    let p = program_in c.args.at.now in
    let f = func_in c.args.at.now in
    let fr = frame_view c.args.frame.now in
    let w = world_view c.args.world.now in
    let mid = frame_view c.operands.new.frame in
    let v = world_view c.operands.new.world in
    let t = variant_view c.in-Some.t in
    let os = map operand_of c.args.args.now in
    let n = c.args.v.0 in
    let k = c.args.case in
    let there : Ok t ≡ or_fault m.missing (variant_of f n) = ap (or_fault m.missing) (ap (option_map variant_view) (sym c.in-Some.is) ∙ c.variant.ensures) in
    let count : (length os == length (payload_in (case_at p t.type k))) ≡ true = same_count operand_of c.args.args.now (payload_in (case_at p t.type k)) (length c.args.args.now) c.payload_count.result refl c.payload_count.ensures c.if-args-payload_count.false in
    let begun = build_begins (setup_in c.args.at.now heap depth) f n k os fr w t there count in
    let values = map value_view c.in_ok-values.values in
    let taken = begun ∙ gives_ok (map value_view) c.operands.result c.in_ok-values.values (operands_got p f os fr w) mid v (build_on p f n k t) c.in_ok-values.was c.operands.ensures in
    let parts = map part_view c.in_ok-parts.parts in
    let u = world_view c.pack_case.new.world in
    let last : List ℕ → m.World → Step = λ ns w. fill f n (m.of_case k parts ns) mid w in
    let keys : map case_key_view c.as_slice-2.result.now ≡ case_keys p t k = ap (map case_key_view) c.as_slice-2.ensures ∙ c.in_ok-listed.ensures in
    let found = taken ∙ (finds_ok (map part_view) c.parts_of.result c.in_ok-parts.parts (parts_of values) v (λ parts. with_case_packed (case_keys p t k) mid v (λ ns w. fill f n (m.of_case k parts ns) mid w)) c.in_ok-parts.was (rw c.as_slice.ensures at c.parts_of.ensures)
    ∙ ap (λ ks. with_case_packed ks mid v last) (sym keys)) in
    same_goes _ _ c.fill.result (frame_view c.fill.new.frame) u
    (found ∙ hands_ok _ c.pack_case.result c.in_ok-keys.keys _ u c.in_ok-keys.was (c.pack_case.ensures last))
    (c.fill.ensures u)
