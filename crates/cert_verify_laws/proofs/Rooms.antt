-- A body that breaks no rule has few rows and joins for its weight and few arms in a switch, and its rows name tokens of the function alone.
use Rattle.std.proofs.Common.{◌≡◌, ◌≤◌, ◌<◌, ◌+◌, ◌*◌, ◌^◌, ◌==◌, ◌&&◌, ⊎_elim, ℕ, suc, nat_lt, not, Bool, true, false, if◌then◌else◌, List, [], ◌∷◌, ◌++◌, length, Option, Some, None, refl, subst, arith}
use Rattle.std.specs.List.{list_all}
use Rattle.std.proofs.lemmas.Bool.{and_parts}
use Rattle.std.proofs.lemmas.Bool.Decides.{nat_tests}
use Rattle.vlt_core.specs.Core as core
use Rattle.vlt_core.specs.Core.{Tok, Entry, Func, Program}
use Rattle.vlt_core.specs.Bodies.{flow_of, flow_of_block, flow_of_stmts, flow_of_arms}
use Rattle.vlt_core.specs.Faults.{spots, spots_block, spots_stmts, spots_arms}
use Rattle.vlt_core.specs.Flow.{Flow, Block, Stmts, Arms}
use Rattle.vlt_core.specs.Instances.{instance}
use Rattle.vlt_core.specs.Lookups.{var_type, cases_of}
use Rattle.vlt_core.specs.Maps.{Row, is_tok}
use Rattle.vlt_core.specs.Types.{decl_of, is_variant}
use Rattle.vlt_core.specs.KindedHeads.{Rules, unless, when_some, has, are_apart}
use Rattle.vlt_core.specs.KindedScopes.{Ids, Around, at_block_start, left_behind, use_broken}
use Rattle.vlt_core.specs.KindedOperands.{value_broken}
use Rattle.vlt_core.specs.KindedStatements.{variant_args, is_variant_type}
use Rattle.vlt_core.specs.KindedCalls.{return_broken}
use Rattle.vlt_core.specs.KindedBodies.{ends, arm_cases, switch_broken, owning_toks, with_vars, arm_broken, focus_broken, in_loop, in_focus, with_focus, ids_following, ids_following_block, ids_following_stmts, list_broken, arms_broken, row_broken, form_rows, block_rows, stmts_rows, arms_rows}
use Rattle.vlt_core.specs.declared.rules.TheConstants as rule
use Rattle.vlt_core_laws.proofs.Good.{AllRows}
use Rattle.vlt_core_laws.proofs.Ids.{type_keys}
use Rattle.vlt_core_laws.proofs.Unbroken.{left_empty, right_empty, unless_holds, each_left, each_right}
use Rattle.vlt_core_laws.specs.Unbroken.{EachEmpty}
use Rattle.vlt_rows.specs.Unfit.{HasPart, HasPartBlock, HasPartStmts, HasPartArms}
use Rattle.vlt_faults.specs.Judge.Extents.{AvoidsRows, Avoids, AvoidsBlock, AvoidsStmts, AvoidsArms}
use Rattle.vlt_witness.specs.Unfit.{arm_count, HasManyArms, NoRows}
use Rattle.cert_rows.specs.Parts.{All}
use Rattle.cert_fit_laws.proofs.NarrowNumbers.{Bounds, use_there}
use Rattle.cert_fit_laws.proofs.NarrowParts.{Variant, variant_there}
use Rattle.cert_text_laws.specs.Weights.{reads, weight, weight_block, weight_list, weight_arms}
use Rattle.cert_verify_laws.proofs.Small.{is_own, IsOwnRow, Small, left_small, left_few, bound_few, bound_own}
use Rattle.cert_verify_laws.proofs.RowCounts.{FewListed, expr_small, simple_small, call_small, switch_small, arm_small, enter_small, leave_small, return_small}

-- ---- few for a weight

record Room (t : Tok) (s : Flow) (w : ℕ) : Type 0 where
  few : spots s ≤ 2048 * w
  avoids : Avoids t s
  short : HasPart NoRows HasManyArms s → ⊥

-- a block's own tokens are wanted away at its end
record RoomBlock (t : Tok) (s : Block) (w : ℕ) : Type 0 where
  few : spots_block s ≤ 2048 * w + 512
  avoids : AvoidsBlock t s
  short : HasPartBlock NoRows HasManyArms s → ⊥

pub record RoomStmts (t : Tok) (s : Stmts) (w : ℕ) : Type 0 where
  pub few : spots_stmts s ≤ 2048 * w
  pub avoids : AvoidsStmts t s
  pub short : HasPartStmts NoRows HasManyArms s → ⊥

record RoomArms (t : Tok) (s : Arms) (w : ℕ) : Type 0 where
  few : spots_arms s ≤ 2048 * w
  avoids : AvoidsArms t s
  short : HasPartArms NoRows HasManyArms s → ⊥

plain_few : (a n : ℕ) → a ≤ 40 + 2 * n → a ≤ 2048 * (1 + n)
plain_few a n x = omega (arith, x)

called_few : (a n : ℕ) → a ≤ 300 + 2 * n → a ≤ 2048 * (1 + n)
called_few a n x = omega (arith, x)

returned_few : (a n : ℕ) → a ≤ 1100 + 2 * n → a ≤ 2048 * (1 + n)
returned_few a n x = omega (arith, x)

jumped_few : (a : ℕ) → a ≤ 512 → a ≤ 2048 * 1
jumped_few a x = omega (arith, x)

chosen_few : (a r s m u n : ℕ) → a ≤ 2 * r → s ≤ 2048 * m + 512 → u ≤ 2048 * n + 512 → a + (s + (u + 1)) ≤ 2048 * (1 + (r + (m + n)))
chosen_few a r s m u n x y z = omega (arith, x, y, z)

looped_few : (a r s m : ℕ) → a ≤ 2 * r → s ≤ 2048 * m + 512 → 1 + (a + (s + 1)) ≤ 2048 * (1 + (r + m))
looped_few a r s m x y = omega (arith, x, y)

switched_few : (a s m : ℕ) → a ≤ 1 → s ≤ 2048 * m → a + (s + 1) ≤ 2048 * (1 + m)
switched_few a s m x y = omega (arith, x, y)

focused_few : (a s m c : ℕ) → a ≤ 2 → s ≤ 2048 * m + 512 → c ≤ 2 → a + (s + c) ≤ 2048 * (1 + m)
focused_few a s m c x y z = omega (arith, x, y, z)

scoped_few : (s m : ℕ) → s ≤ 2048 * m + 512 → s ≤ 2048 * (1 + m)
scoped_few s m x = omega (arith, x)

block_few : (s m c : ℕ) → s ≤ 2048 * m → c ≤ 512 → s + c ≤ 2048 * m + 512
block_few s m c x y = omega (arith, x, y)

both_few : (a m c n : ℕ) → a ≤ 2048 * m → c ≤ 2048 * n → a + c ≤ 2048 * (m + n)
both_few a m c n x y = omega (arith, x, y)

arm_few : (a v s m u n : ℕ) → a ≤ 16 + v → s ≤ 2048 * m + 512 → u ≤ 2048 * n → a + (s + u) ≤ 2048 * (1 + (v + (m + n)))
arm_few a v s m u n x y z = omega (arith, x, y, z)

none_few : (n : ℕ) → 0 ≤ n
none_few n = omega arith

module _ (t : Tok) (p : Program) (f : Func) (b : Bounds p f) (ranged : (v k : ℕ) → has (type_keys f v) k ≡ true → nat_lt k (length f.keys) ≡ true) (listed : FewListed p)
    (few : length f.clause ≤ 256) (own : All (λ (e : Entry). nat_lt e.key (length f.keys) ≡ true) f.clause) (o : Option ℕ) (other : (u : Tok) → is_own f u ≡ true → is_tok t u ≡ false) where
  abbrev made : Func
  made = instance p f o

  avoid : (rs : List Row) → AllRows (IsOwnRow f) rs → AvoidsRows t rs
  avoid [] all = tt
  avoid (r ∷ rs) all = (other r.tok all.0, avoid rs all.1)

  avoid_small : (n : ℕ) (rs : List Row) → Small f n rs → AvoidsRows t rs
  avoid_small n rs x = avoid rs x.own

  -- ---- arms

  abbrev covers : (cs : List ℕ) → ℕ → Bool
  covers cs n = are_apart cs && length cs == n && list_all (λ c. nat_lt c n) cs

  abbrev of_variant : (cs : List ℕ) → Option (ℕ × List ℕ) → Rules
  of_variant cs None = []
  of_variant cs (Some o) = if is_variant (decl_of p o.0) then unless (covers cs (length (cases_of p o.0))) rule.WRONG_SWITCH else []

  few_arms : (v : ℕ) (cs : List ℕ) → Variant p f b v → of_variant cs (variant_args (var_type f v)) ≡ [] → length cs ≤ 32
  few_arms v cs is e =
      let n = length (cases_of p is.0.0) in
      let chosen = subst (λ c. (if c then unless (covers cs (length (cases_of p is.0.0))) rule.WRONG_SWITCH else []) ≡ []) is.2 (subst (λ o. of_variant cs o ≡ []) is.1 e) in
      let all = unless_holds (covers cs n) rule.WRONG_SWITCH chosen in
      as_many (length cs) n (and_parts (are_apart cs) (length cs == n) (and_parts (are_apart cs && length cs == n) _ all).0).1 (b.cases is.0.0)
    where
      as_many : (a n : ℕ) → (a == n) ≡ true → n ≤ 32 → a ≤ 32
      as_many a n e few = grind (arith, nat_tests)

  arms_counted : (arms : core.Arms) (left : List Tok) (v : ℕ) → arm_count (flow_of_arms p made left v arms) ≡ length (arm_cases arms)
  arms_counted core.no_arms left v = refl
  arms_counted (core.arm c vs u rest) left v = one_more _ _ (arms_counted rest left v)
    where
      one_more : (a b : ℕ) → a ≡ b → 1 + a ≡ suc b
      one_more a b e = omega (arith, e)

  not_many : (n m : ℕ) → n ≡ m → m ≤ 32 → 2 ^ 8 < n → ⊥
  not_many n m e few many = omega (arith, e, few, many)

  mutual
    form_room : (s : core.Form) (around : Around) (ids : Ids) (left : List Tok) → row_broken p f around ids s ≡ [] → EachEmpty (form_rows p f around ids s) → Room t (flow_of p made left s) (weight s)
    form_room (core.simple s) around ids left e rows =
        let x = simple_small p f b ranged listed ids s e in
        record { few = plain_few _ _ x.few; avoids = avoid_small _ _ x; short = λ z. z }
    form_room (core.call c target keys args) around ids left e rows =
        let x = call_small p f b ranged listed ids c target keys args left e in
        record { few = called_few _ _ x.few; avoids = avoid_small _ _ x; short = λ z. z }
    form_room (core.choose y u v) around ids left e rows =
        let following = ids_following_block p f u ids in
        let first_part = left_empty (value_broken p f ids (Some core.bool) y ++ list_broken p f [] ids u) (list_broken p f [] following v) e in
        let x = expr_small p f b ranged listed y in
        let one = block_room u around ids ids [] left (right_empty (value_broken p f ids (Some core.bool) y) (list_broken p f [] ids u) first_part) (each_left (block_rows p f around ids u) (block_rows p f around following v) rows) in
        let two = block_room v around following following [] left (right_empty (value_broken p f ids (Some core.bool) y ++ list_broken p f [] ids u) (list_broken p f [] following v) e) (each_right (block_rows p f around ids u) (block_rows p f around following v) rows) in
        record {
          few = chosen_few _ (reads y) _ (weight_block u) _ (weight_block v) x.few one.few two.few;
          avoids = (avoid_small _ _ x, (one.avoids, two.avoids));
          short = λ z. ⊎_elim (λ none. none) (λ z. ⊎_elim one.short two.short z) z;
        }
    form_room (core.loop y u) around ids left e rows =
        let x = expr_small p f b ranged listed y in
        let one = block_room u (in_loop around) ids ids [] [] (right_empty (value_broken p f ids (Some core.bool) y) (list_broken p f [] ids u) e) rows in
        record {
          few = looped_few _ (reads y) _ (weight_block u) x.few one.few;
          avoids = (avoid_small _ _ x, one.avoids);
          short = λ z. ⊎_elim (λ none. none) one.short z;
        }
    form_room (core.switch v arms end) around ids left e rows =
        let own_part = left_empty (switch_broken p f ids v arms) (arms_broken p f ids v arms) e in
        let first_part = left_empty (use_broken f ids v ++ when_some (var_type f v) (λ ty. unless (is_variant_type ty) rule.WRONG_SWITCH)) (of_variant (arm_cases arms) (variant_args (var_type f v))) own_part in
        let covered = right_empty (use_broken f ids v ++ when_some (var_type f v) (λ ty. unless (is_variant_type ty) rule.WRONG_SWITCH)) (of_variant (arm_cases arms) (variant_args (var_type f v))) own_part in
        let used = left_empty (use_broken f ids v) (when_some (var_type f v) (λ ty. unless (is_variant_type ty) rule.WRONG_SWITCH)) first_part in
        let is = variant_there p f b v rule.WRONG_SWITCH (use_there p f b ids v used) (right_empty (use_broken f ids v) (when_some (var_type f v) (λ ty. unless (is_variant_type ty) rule.WRONG_SWITCH)) first_part) in
        let x = switch_small p f b ranged listed ids v used in
        let all = arms_room v arms around ids left (right_empty (switch_broken p f ids v arms) (arms_broken p f ids v arms) e) rows in
        record {
          few = switched_few _ _ (weight_arms arms) x.few all.few;
          avoids = (avoid_small _ _ x, all.avoids);
          short = λ z. ⊎_elim (λ none. none) (λ z. ⊎_elim (not_many _ _ (arms_counted arms left v) (few_arms v (arm_cases arms) is covered)) all.short z) z;
        }
    form_room (core.focus y z u) around ids left e rows =
        let x = enter_small p f b ranged listed y z left u in
        let q = leave_small p f b ranged listed y z in
        let one = block_room u in_focus (with_focus f z ids) (with_focus f z ids) [] left (right_empty (focus_broken p f ids y z) (list_broken p f [] (with_focus f z ids) u) e) rows in
        record {
          few = focused_few _ _ (weight_block u) _ x.few one.few q.few;
          avoids = (avoid_small _ _ x, (one.avoids, avoid_small _ _ q));
          short = λ w. ⊎_elim (λ none. none) (λ w. ⊎_elim one.short (λ none. none) w) w;
        }
    form_room (core.scope u) around ids left e rows =
        let one = block_room u around ids ids [] left e rows in
        record { few = scoped_few _ (weight_block u) one.few; avoids = one.avoids; short = one.short }
    form_room (core.return value) around ids left e rows =
        let x = return_small p f b ranged listed few own o ids value (right_empty (unless around.returns rule.WRONG_JUMP) (return_broken p f ids f.result value) e) in
        record { few = returned_few _ _ x.few; avoids = avoid_small _ _ x; short = λ z. z }
    form_room (core.jump continues) around ids left e rows =
        let x = left_small f b.keys b.vars left in
        record { few = jumped_few _ (left_few f b.keys b.vars left); avoids = avoid_small _ _ x; short = λ z. z }

    block_room : (u : core.Block) (around : Around) (ids within : Ids) (extra left : List Tok) → list_broken p f extra within u ≡ [] → EachEmpty (block_rows p f around ids u) → RoomBlock t (flow_of_block p made left u) (weight_block u)
    block_room (core.block ss bound end) around ids within extra left e rows =
        let all = stmts_room ss around (at_block_start ids) false (left ++ bound) rows in
        record {
          few = block_few _ (weight_list ss) _ all.few (bound_few f b.keys b.vars bound (extra ++ (ids_following_stmts p f ss (at_block_start within)).bound) e);
          avoids = (all.avoids, avoid _ (bound_own f b.keys b.vars bound (extra ++ (ids_following_stmts p f ss (at_block_start within)).bound) e));
          short = all.short;
        }

    pub stmts_room : (ss : core.Stmts) (around : Around) (ids : Ids) (ended : Bool) (left : List Tok) → EachEmpty (stmts_rows p f around ids ended ss) → RoomStmts t (flow_of_stmts p made left ss) (weight_list ss)
    stmts_room core.done around ids ended left rows = record { few = none_few _; avoids = tt; short = λ z. z }
    stmts_room (core.next at s rest) around ids ended left rows =
        let following = ids_following p f s ids in
        let one = form_room s around ids left (right_empty (unless (not ended) rule.AFTER_END) (row_broken p f around ids s) rows.0) (each_left (form_rows p f around ids s) (stmts_rows p f around following (ends s) rest) rows.1) in
        let all = stmts_room rest around following (ends s) left (each_right (form_rows p f around ids s) (stmts_rows p f around following (ends s) rest) rows.1) in
        record {
          few = both_few _ (weight s) _ (weight_list rest) one.few all.few;
          avoids = (one.avoids, all.avoids);
          short = λ z. ⊎_elim one.short all.short z;
        }

    arms_room : (v : ℕ) (arms : core.Arms) (around : Around) (ids : Ids) (left : List Tok) → arms_broken p f ids v arms ≡ [] → EachEmpty (arms_rows p f around ids arms) → RoomArms t (flow_of_arms p made left v arms) (weight_arms arms)
    arms_room v core.no_arms around ids left e rows = record { few = none_few _; avoids = tt; short = λ z. z }
    arms_room v (core.arm c vs u rest) around ids left e rows =
        let inside = with_vars f vs ids in
        let following = left_behind ids (ids_following_block p f u inside) in
        let first_part = left_empty (arm_broken p f ids v c vs ++ list_broken p f (owning_toks f vs) inside u) (arms_broken p f following v rest) e in
        let x = arm_small p f b ranged listed v c vs in
        let one = block_room u around inside inside (owning_toks f vs) left (right_empty (arm_broken p f ids v c vs) (list_broken p f (owning_toks f vs) inside u) first_part) (each_left (block_rows p f around inside u) (arms_rows p f around following rest) rows) in
        let all = arms_room v rest around following left (right_empty (arm_broken p f ids v c vs ++ list_broken p f (owning_toks f vs) inside u) (arms_broken p f following v rest) e) (each_right (block_rows p f around inside u) (arms_rows p f around following rest) rows) in
        record {
          few = arm_few _ (length vs) _ (weight_block u) _ (weight_arms rest) x.few one.few all.few;
          avoids = ((avoid_small _ _ x, one.avoids), all.avoids);
          short = λ z. ⊎_elim (λ none. none) (λ z. ⊎_elim one.short all.short z) z;
        }
