-- All in a body of a text's program has a number.
use Rattle.std.proofs.Common.{◌≡◌, ◌≤◌, ◌<◌, ◌+◌, ◌*◌, ◌^◌, ◌==◌, inl, ℕ, nat_lt, true, false, if◌then◌else◌, [], length, Option, Some, slice_get, refl, subst, arith}
use Rattle.std.proofs.lemmas.Bool.Decides.{nat_tests}
use Rattle.vlt_core.specs.Core as core
use Rattle.vlt_core.specs.Core.{Tok, a_key, a_var, VarDecl, Func, Program}
use Rattle.vlt_core.specs.Bodies.{body_flow, flow_of_stmts}
use Rattle.vlt_core.specs.Instances.{instance, IsOrigin}
use Rattle.vlt_core.specs.Kinded.{HasKindedParts}
use Rattle.vlt_core.specs.KindedBodies.{first_ids, stmts_rows}
use Rattle.vlt_core.specs.KindedHeads.{type_broken}
use Rattle.vlt_core.specs.Maps.{is_tok}
use Rattle.vlt_core_laws.proofs.Headed.{function_empty, head_empty, each_at, ranged_keys}
use Rattle.vlt_core_laws.specs.Unbroken.{EachEmpty}
use Rattle.vlt_faults.specs.Judge.Extents.{last_key, last_var}
use Rattle.vlt_faults.specs.Judge.Faulty.{HasNoNumber, many_statements, many_spots, names_last_key, names_last_var}
use Rattle.vlt_fit_laws.specs.Unfit.{IsStillUnfit, HasUnfitBody}
use Rattle.vlt_fit_laws.specs.Unfit as check
use Rattle.vlt_witness.specs.Unfit as search
use Rattle.cert_fit_laws.specs.Formed.{IsFormed}
use Rattle.cert_fit_laws.specs.Limits.{IsLimitedProgram}
use Rattle.cert_fit_laws.proofs.NarrowNumbers.{Bounds}
use Rattle.cert_fit_laws.proofs.Sizes.{flow_size_block}
use Rattle.cert_fit_laws.proofs.Tables.{sets_there}
use Rattle.cert_format.specs.Bodies.{count_list}
use Rattle.cert_least_laws.proofs.OfBodies.Typed.{types_of_vars}
use Rattle.cert_check_laws.proofs.Sets.{few_states}
use Rattle.cert_text_laws.specs.Texts.{most_of_function, most_weight}
use Rattle.cert_text_laws.specs.Weights.{weight_list}
use Rattle.cert_verify_laws.specs.Causes.{HasFlows}
use Rattle.cert_verify_laws.proofs.Apart.{few_entries, own_entries, few_case_keys}
use Rattle.cert_verify_laws.proofs.RowCounts.{FewListed}
use Rattle.cert_verify_laws.proofs.Rooms.{RoomStmts, stmts_room}
use Rattle.cert_verify_laws.proofs.Small.{is_own}

-- ---- numbers

not_last : (k n : ℕ) → nat_lt k n ≡ true → n ≤ 256 → (4294967295 == k) ≡ false
not_last k n less few = grind (arith, nat_tests)

few_numbers : (n m : ℕ) → n ≡ m → m ≤ most_of_function → 2 ^ 62 ≤ n → ⊥
few_numbers n m same few many = omega (arith, same, few, many)

few_spots : (n w : ℕ) → n ≤ 2048 * w → w ≤ most_weight → 2 ^ 62 ≤ n + 0 → ⊥
few_spots n w few light many = omega (arith, few, light, many)

no_more_spots : (n w : ℕ) → n ≤ 2048 * w → w ≤ most_weight → 2 ^ 64 ≤ n + 0 → ⊥
no_more_spots n w few light many = omega (arith, few, light, many)

not_so_many : (n : ℕ) → n ≤ 256 → 2 ^ 32 < n → ⊥
not_so_many n few many = omega (arith, few, many)

module _ (f : Func) where
  not_last_key : length f.keys ≤ 256 → (u : Tok) → is_own f u ≡ true → is_tok last_key u ≡ false
  not_last_key few (a_key k) own = not_last k (length f.keys) own few
  not_last_key few (a_var v) own = refl

  not_last_var : length f.vars ≤ 256 → (u : Tok) → is_own f u ≡ true → is_tok last_var u ≡ false
  not_last_var few (a_key k) own = refl
  not_last_var few (a_var v) own = not_last v (length f.vars) own few

-- ---- bodies

module _ (p : Program) (kinded : HasKindedParts p) (limited : IsLimitedProgram p) (formed : IsFormed p) where
  listed : FewListed p
  listed = record {
    clauses = λ g h at. let head = head_empty p g h kinded at in few_entries p head.0 h head.1 (formed.few_keys g h at);
    cases = few_case_keys p kinded limited;
  }

  module _ (g : ℕ) (f : Func) (o : Option ℕ) (there : slice_get p.fns g ≡ Some f) (own : f.external ≡ false) (light : weight_list f.body ≤ most_weight) where
    few_keys : length f.keys ≤ 256
    few_keys = formed.few_keys g f there

    few_vars : length f.vars ≤ 256
    few_vars = formed.few_vars g f there

    bounds : Bounds p f
    bounds =
        let head = head_empty p g f kinded there in
        record {
          vars = few_vars;
          keys = few_keys;
          fns = formed.few_functions;
          fields = formed.few_fields;
          cases = formed.few_cases;
          states = λ t. (few_states p formed kinded t).1;
          sets = sets_there p kinded;
          typed = λ v d at. each_at (λ (d : VarDecl). type_broken p f d.ty) f.vars v d (types_of_vars p head.0 f head.1) at;
        }

    rows : EachEmpty (stmts_rows p f (record { jumps = false; returns = true }) (first_ids p f) false f.body)
    rows = subst (λ x. EachEmpty (if x then [] else stmts_rows p f (record { jumps = false; returns = true }) (first_ids p f) false f.body)) own (function_empty p g f kinded there).1.1

    room : (t : Tok) → ((u : Tok) → is_own f u ≡ true → is_tok t u ≡ false) → RoomStmts t (flow_of_stmts p (instance p f o) [] f.body) (weight_list f.body)
    room t other =
        let head = head_empty p g f kinded there in
        stmts_room t p f bounds (ranged_keys p head.0 f head.1) listed (few_entries p head.0 f head.1 few_keys) (own_entries p head.0 f head.1) o other
        f.body (record { jumps = false; returns = true }) (first_ids p f) false [] rows

    with_keys : RoomStmts last_key (flow_of_stmts p (instance p f o) [] f.body) (weight_list f.body)
    with_keys = room last_key (not_last_key f few_keys)

    pub has_numbers : count_list f.body ≤ most_of_function → HasNoNumber (body_flow p (instance p f o)) → ⊥
    has_numbers few (many_statements many) = few_numbers _ _ (flow_size_block p (instance p f o) (core.block f.body [] f.end) []) few many
    has_numbers few (many_spots many) = few_spots _ (weight_list f.body) with_keys.few light many
    has_numbers few (names_last_key names) = names (with_keys.avoids, tt)
    has_numbers few (names_last_var names) = names ((room last_var (not_last_var f few_vars)).avoids, tt)

    pub can_search : HasFlows p → IsOrigin p f o → search.IsUnfit p (instance p f o) → ⊥
    can_search flows origin (search.wide_row wide) = flows.flow g f o there own origin (inl wide)
    can_search flows origin (search.many_keys many) = not_so_many (length f.keys) few_keys many
    can_search flows origin (search.many_vars many) = not_so_many (length f.vars) few_vars many
    can_search flows origin (search.no_start none) = flows.start g f o there own origin none
    can_search flows origin (search.long_switch long) = with_keys.short long
    can_search flows origin (search.many_spots many) = no_more_spots _ (weight_list f.body) with_keys.few light many

-- ---- programs

pub all_fit : (p : Program) → HasKindedParts p → IsLimitedProgram p → IsFormed p → HasFlows p → ((g : ℕ) (f : Func) → slice_get p.fns g ≡ Some f → count_list f.body ≤ most_of_function)
    → ((g : ℕ) (f : Func) → slice_get p.fns g ≡ Some f → weight_list f.body ≤ most_weight) → HasUnfitBody p → ⊥
all_fit p kinded limited formed flows few light u = by u.unfit
  where
    numbered : HasNoNumber (body_flow p (instance p u.func u.origin)) → ⊥
    numbered none = has_numbers p kinded limited formed u.number u.func u.origin u.there u.with_body (light u.number u.func u.there) (few u.number u.func u.there) none

    by : IsStillUnfit p (instance p u.func u.origin) → ⊥
    by (check.wide_row wide) = flows.flow u.number u.func u.origin u.there u.with_body u.is (inl wide)
    by (check.many_statements many) = numbered (many_statements many)
    by (check.no_number none) = numbered none
