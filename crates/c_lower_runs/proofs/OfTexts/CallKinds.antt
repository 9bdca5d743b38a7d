-- The code of calls and returns breaks no rule of C.
use Rattle.std.proofs.Common.{◌≡◌, ◌≤◌, ℕ, suc, ◌+◌, Bool, true, false, ◌&&◌, if◌then◌else◌, List, [], ◌∷◌, ◌++◌, map, filter, take, length, Option, Some, None, slice_get, refl, sym, ap, ◌∙◌, subst, arith}
use Rattle.std.proofs.lemmas.Bool.{false≢true}
use Rattle.std.specs.List.{flat_map, enumerate_from}
use Rattle.vlt_core.specs.Core as core
use Rattle.vlt_core.specs.Core.{Ty, VarDecl, Operand, Func, Program, pure, move, pack}
use Rattle.vlt_core.specs.Lookups.{var_type}
use Rattle.vlt_core.specs.Types.{with_keys}
use Rattle.vlt_core.specs.Kinded.{IsKinded}
use Rattle.vlt_core.specs.KindedHeads.{parameters_of, has, new_keys}
use Rattle.vlt_core.specs.KindedScopes.{Ids, use_broken}
use Rattle.vlt_core.specs.KindedOperands.{operand_broken, operands_broken}
use Rattle.vlt_core.specs.KindedCalls.{call_broken, return_broken, returned_broken, new_result_broken, target_alone_broken}
use Rattle.vlt_core.specs.declared.rules.TheConstants as rule
use Rattle.vlt_core_laws.proofs.Unbroken.{filled_not_empty}
use Rattle.c_syntax.specs.declared.program.CResult.{CResult}
use Rattle.c_syntax.specs.declared.program.CResult.TheVariants as result
use Rattle.c_syntax.specs.declared.program.CVar.{CVar}
use Rattle.c_syntax.specs.declared.program.CPrim.TheVariants as prim
use Rattle.c_syntax.specs.C as c
use Rattle.c_syntax.specs.C.{Arg, Stmt}
use Rattle.c_syntax.specs.Unit.{Head}
use Rattle.c_syntax.specs.Text.{max_number}
use Rattle.c_syntax.specs.Canonical.{declaration_of}
use Rattle.c_syntax.specs.Kinds.{Wanted, head_of, param_wanted, type_of}
use Rattle.c_lower.specs.Slots.{Sort, of_number, of_reference, of_owner, slot_sorts, var_sorts, Numbers, first_numbers, past, var_at, vars_at, slot_vars, param_slots}
use Rattle.c_lower.specs.Expressions.{Atom, number, variable, null, atom_expr, atom_arg, first_atom, operand_code, operand_codes}
use Rattle.c_lower.specs.Statements.{runtime_call, runtime_value, count_arg, is_variant, is_alike, is_reference_atom, result_gets, number_vars, reference_vars, results, after_first, call_stmts, call_code, name_of, result_puts, rest_puts, return_stmts, return_code}
use Rattle.c_lower.specs.Lowering.{result_of}
use Rattle.c_lower_worlds.specs.Operators.Codes.{AreUpTo}
use Rattle.c_lower_worlds.specs.Naming.Lists.{Each}
use Rattle.c_lower_worlds.specs.Naming.KindedParts.{is_proper_operand, are_proper_operands, is_proper_return}
use Rattle.c_lower_worlds.proofs.OfNaming.RuleFacts.{both_empty}
use Rattle.c_lower_worlds.proofs.OfNaming.DeclaredVariables.{used_declared}
use Rattle.c_lower_worlds.proofs.OfNaming.NamedCalls.{IsTargetOf, TargetSo}
use Rattle.c_lower_worlds.proofs.OfNaming.KnownCalls.{known_call}
use Rattle.c_lower_worlds.proofs.SameLayouts.{same_laid, keys_laid}
use Rattle.c_lower_runs.proofs.OfTexts.Ruled.{Place, IsVar, IsTyped, AllSuit, IsRuled, AllRuled, IsCallOf}
use Rattle.c_lower_runs.proofs.OfTexts.SlotTypes.{kind_of, var_type_is, VarsFit, AtomsFit, typed_slots_fit, var_atoms, first_fits, first_typed, atom_suits}
use Rattle.c_lower_runs.proofs.OfTexts.ExpressionKinds.{Here, ruled_both, small_numeral}
use Rattle.c_lower_runs.proofs.OfTexts.OperandKinds.{AllAtoms, operand_kinded, operands_kinded}
use Rattle.c_lower_runs.proofs.OfTexts.Lists.{each_passed, filter_long}

-- the head of a function of the program
abbrev pub head_for : Program → (g : ℕ) → Func → Head
head_for p g gf = record { result = result_of gf.result; name = name_of p g; params = map declaration_of (param_slots p gf) }

-- What a body with calls and returns stands in: the heads of all functions are known, and its own result.
pub record Heads (a : Place) (p : Program) (f : Func) : Type 0 where
  pub kinded : IsKinded p
  pub found : (g : ℕ) (gf : Func) → slice_get p.fns g ≡ Some gf → head_of (name_of p g) a.scope.heads ≡ Some (head_for p g gf)
  pub small : (g : ℕ) (gf : Func) → slice_get p.fns g ≡ Some gf → (name_of p g).number ≤ max_number
  pub body : a.scope.name.glue ≡ false
  pub result : a.scope.result ≡ result_of f.result

-- ---- arguments

-- what a function's parameters want
abbrev wants : List CVar → List Wanted
wants vs = map param_wanted (map declaration_of vs)

module _ (a : Place) where
  value_suits : (t : Numbers) (ss rest : List Sort) (xs : List Atom) (args : List Arg) → AtomsFit a ss xs → ((u : Numbers) → AllSuit a (wants (vars_at u rest)) args) → AllSuit a (wants (vars_at t (ss ++ rest))) (map atom_arg xs ++ args)
  value_suits t [] rest [] args h k = k t
  value_suits t [] rest (x ∷ xs) args h k = absurd h
  value_suits t (s ∷ ss) rest [] args h k = absurd h
  value_suits t (s ∷ ss) rest (x ∷ xs) args h k = (atom_suits a (type_of (var_at t s)) x (subst (λ r. IsTyped a r (atom_expr x)) (sym (var_type_is t s)) h.0), value_suits (past t s) ss rest xs args h.1 k)

  args_suit : (p : Program) (keys : List ℕ) (ds : List VarDecl) (t : Numbers) (atoms : List (List Atom)) → AllAtoms a p (map (with_keys keys) (map (λ (d : VarDecl). d.ty) ds)) atoms →
      AllSuit a (wants (vars_at t (var_sorts p ds))) (flat_map (map atom_arg) atoms)
  args_suit p keys [] t [] h = tt
  args_suit p keys [] t (xs ∷ atoms) h = absurd h
  args_suit p keys (d ∷ ds) t [] h = absurd h
  args_suit p keys (d ∷ ds) t (xs ∷ atoms) h =
      value_suits t (slot_sorts p d.ty) (var_sorts p ds) xs (flat_map (map atom_arg) atoms) (subst (λ ss. AtomsFit a ss xs) (sym (keys_laid p keys d.ty).sorts) h.0) (λ u. args_suit p keys ds u atoms h.1)

-- ---- results

-- the first slot of a value has the type of what a function with that result gives
pub record FirstSort (p : Program) (ty : Ty) : Type 0 where
  pub first : Sort
  pub rest : List Sort
  pub is : slot_sorts p ty ≡ first ∷ rest
  pub gives : result_of (Some ty) ≡ kind_of first

pub first_sort : (p : Program) (ty : Ty) → FirstSort p ty
first_sort p core.int = record { first = of_number; rest = []; is = refl; gives = refl }
first_sort p core.bool = record { first = of_number; rest = []; is = refl; gives = refl }
first_sort p (core.tracked k t args) = record { first = of_reference; rest = []; is = refl; gives = refl }
first_sort p (core.owning s t args) = record { first = of_owner; rest = []; is = refl; gives = refl }
first_sort p (core.guarded k t args) = record { first = of_reference; rest = []; is = refl; gives = refl }
first_sort p (core.variant t args) = record { first = of_number; rest = _; is = refl; gives = refl }
first_sort p (core.owning_variant t args) = record { first = of_number; rest = _; is = refl; gives = refl }

each_known : (a : Place) (ss : List Sort) (vs : List CVar) → VarsFit a ss vs → Each (λ v. IsVar a (type_of v) v) vs
each_known a [] [] h = tt
each_known a [] (v ∷ vs) h = absurd h
each_known a (s ∷ ss) [] h = absurd h
each_known a (s ∷ ss) (v ∷ vs) h = (record { known = h.0.known; type = refl }, each_known a ss vs h.1)

vars_long : (a : Place) (ss : List Sort) (vs : List CVar) → VarsFit a ss vs → length vs ≡ length ss
vars_long a [] [] h = refl
vars_long a [] (v ∷ vs) h = absurd h
vars_long a (s ∷ ss) [] h = absurd h
vars_long a (s ∷ ss) (v ∷ vs) h = ap suc (vars_long a ss vs h.1)

after_long : {A : Type 0} (xs : List A) → length (after_first xs) ≤ length xs
after_long [] = omega arith
after_long (x ∷ xs) = omega arith

each_after : {A : Type 0} (P : A → Type 0) (xs : List A) → Each P xs → Each P (after_first xs)
each_after P [] h = tt
each_after P (x ∷ xs) h = h.1

-- what each of a numbered list gives
numbered_ruled : {A : Type 0} (a : Place) (l : Bool) (Q : A → Type 0) (go : ℕ × A → Stmt) (i : ℕ) (xs : List A) → i + length xs ≤ max_number → Each Q xs → ((k : ℕ) (x : A) → k ≤ max_number → Q x → IsRuled a l (go (k, x))) →
    AllRuled a l (map go (enumerate_from i xs))
numbered_ruled a l Q go i [] few h k = tt
numbered_ruled a l Q go i (x ∷ xs) few h k = (k i x (omega (arith, few)) h.0, numbered_ruled a l Q go (i + 1) xs (omega (arith, few)) h.1 k)

not_reference : (v : CVar) → is_alike v.reference false ≡ true → type_of v ≡ result.Number
not_reference v e = by v.reference e
  where
    by : (r : Bool) → is_alike r false ≡ true → (if r then result.Reference else result.Number) ≡ result.Number
    by true e = absurd (false≢true e)
    by false e = refl

a_reference : (v : CVar) → v.reference ≡ true → type_of v ≡ result.Reference
a_reference v e = by v.reference e
  where
    by : (r : Bool) → r ≡ true → (if r then result.Reference else result.Number) ≡ result.Reference
    by true e = refl
    by false e = absurd (false≢true e)

module _ (a : Place) (l : Bool) where
  results_ruled : (vs : List CVar) → length vs ≤ max_number → Each (λ v. IsVar a (type_of v) v) vs → AllRuled a l (results vs)
  results_ruled vs few h =
      ruled_both a l (result_gets prim.GetN (number_vars vs)) (result_gets prim.GetP (reference_vars vs))
      (numbered_ruled a l (IsVar a result.Number) (λ q. runtime_value q.1 prim.GetN (count_arg q.0 ∷ [])) 0 (number_vars vs) (let n = filter_long (λ v. is_alike v.reference false) vs in omega (arith, few, n))
      (each_passed (λ v. IsVar a (type_of v) v) (IsVar a result.Number) (λ v. is_alike v.reference false) vs (λ v e k. record { known = k.known; type = not_reference v e }) h)
      (λ k v small is. (is.known, ((refl, small_numeral k small), tt), sym is.type)))
      (numbered_ruled a l (IsVar a result.Reference) (λ q. runtime_value q.1 prim.GetP (count_arg q.0 ∷ [])) 0 (reference_vars vs) (let n = filter_long (λ (v : CVar). v.reference) vs in omega (arith, few, n))
      (each_passed (λ v. IsVar a (type_of v) v) (IsVar a result.Reference) (λ v. v.reference) vs (λ v e k. record { known = k.known; type = a_reference v e }) h)
      (λ k v small is. (is.known, ((refl, small_numeral k small), tt), sym is.type)))

-- an atom of some type
record IsAtom (a : Place) (x : Atom) : Type 0 where
  type : CResult
  is : IsTyped a type (atom_expr x)

each_atom : (a : Place) (ss : List Sort) (xs : List Atom) → AtomsFit a ss xs → Each (IsAtom a) xs
each_atom a [] [] h = tt
each_atom a [] (x ∷ xs) h = absurd h
each_atom a (s ∷ ss) [] h = absurd h
each_atom a (s ∷ ss) (x ∷ xs) h = (record { type = kind_of s; is = h.0 }, each_atom a ss xs h.1)

atoms_long : (a : Place) (ss : List Sort) (xs : List Atom) → AtomsFit a ss xs → length xs ≡ length ss
atoms_long a [] [] h = refl
atoms_long a [] (x ∷ xs) h = absurd h
atoms_long a (s ∷ ss) [] h = absurd h
atoms_long a (s ∷ ss) (x ∷ xs) h = ap suc (atoms_long a ss xs h.1)

number_atom : (a : Place) (x : Atom) → is_alike (is_reference_atom x) false ≡ true → IsAtom a x → IsTyped a result.Number (atom_expr x)
number_atom a (number z) e h = (refl, h.is.1)
number_atom a (variable v) e h = record { known = h.is.known; type = not_reference v e }
number_atom a null e h = absurd (false≢true e)

reference_atom : (a : Place) (x : Atom) → is_reference_atom x ≡ true → IsAtom a x → IsTyped a result.Reference (atom_expr x)
reference_atom a (number z) e h = absurd (false≢true e)
reference_atom a (variable v) e h = record { known = h.is.known; type = a_reference v e }
reference_atom a null e h = refl

module _ (a : Place) (l : Bool) where
  rest_ruled : (xs : List Atom) → length xs ≤ max_number → Each (IsAtom a) xs → AllRuled a l (rest_puts xs)
  rest_ruled xs few h =
      ruled_both a l (result_puts prim.PutN (filter (λ a. is_alike (is_reference_atom a) false) xs)) (result_puts prim.PutP (filter is_reference_atom xs))
      (numbered_ruled a l (λ x. IsTyped a result.Number (atom_expr x)) (λ q. runtime_call prim.PutN (count_arg q.0 ∷ atom_arg q.1 ∷ [])) 0 (filter (λ a. is_alike (is_reference_atom a) false) xs)
      (let n = filter_long (λ a. is_alike (is_reference_atom a) false) xs in omega (arith, few, n))
      (each_passed (IsAtom a) (λ x. IsTyped a result.Number (atom_expr x)) (λ a. is_alike (is_reference_atom a) false) xs (number_atom a) h)
      (λ k x small is. ((refl, small_numeral k small), (atom_suits a result.Number x is, tt))))
      (numbered_ruled a l (λ x. IsTyped a result.Reference (atom_expr x)) (λ q. runtime_call prim.PutP (count_arg q.0 ∷ atom_arg q.1 ∷ [])) 0 (filter is_reference_atom xs)
      (let n = filter_long is_reference_atom xs in omega (arith, few, n))
      (each_passed (IsAtom a) (λ x. IsTyped a result.Reference (atom_expr x)) is_reference_atom xs (reference_atom a) h)
      (λ k x small is. ((refl, small_numeral k small), (atom_suits a result.Reference x is, tt))))

  -- a value that is given back
  pub given_ruled : (p : Program) (ty : Ty) (xs : List Atom) → length (slot_sorts p ty) ≤ max_number → a.scope.result ≡ result_of (Some ty) → AtomsFit a (slot_sorts p ty) xs → AllRuled a l (return_stmts (Some ty) xs)
  given_ruled p ty xs few result h =
      let s = first_sort p ty in
      ruled_both a l (if is_variant (Some ty) then rest_puts (after_first xs) else []) (c.return (Some (atom_expr (first_atom xs))) ∷ []) (by (is_variant (Some ty)))
      (subst (λ t. IsTyped a t (atom_expr (first_atom xs))) (sym (result ∙ s.gives)) (first_typed a s.first s.rest xs (subst (λ ss. AtomsFit a ss xs) s.is h)), tt)
    where
      by : (b : Bool) → AllRuled a l (if b then rest_puts (after_first xs) else [])
      by true = rest_ruled (after_first xs) (let n = after_long xs in let m = atoms_long a (slot_sorts p ty) xs h in omega (arith, few, n, m)) (each_after (IsAtom a) xs (each_atom a (slot_sorts p ty) xs h))
      by false = tt

module _ (a : Place) (p : Program) (f : Func) (here : Here a p f) (heads : Heads a p f) (ids : Ids) (l : Bool) where
  call_of : (g : ℕ) (gf : Func) (keys : List ℕ) (atoms : List (List Atom)) → slice_get p.fns g ≡ Some gf → AllAtoms a p (map (with_keys keys) (parameters_of gf)) atoms →
      IsCallOf a (name_of p g) (flat_map (map atom_arg) atoms)
  call_of g gf keys atoms at h = record {
    head = head_for p g gf;
    found = heads.found g gf at;
    apart = by (name_of p g).glue heads.body;
    small = heads.small g gf at;
    suit = args_suit a p keys (take gf.params gf.vars) first_numbers atoms h;
  }
    where
      by : (x : Bool) → a.scope.name.glue ≡ false → (x && a.scope.name.glue) ≡ false
      by true e = e
      by false e = refl

  target_kinded : (g : ℕ) (gf : Func) (keys : List ℕ) (v : ℕ) (args : List Arg) → slice_get p.fns g ≡ Some gf → IsTargetOf f ids gf keys v → IsCallOf a (name_of p g) args →
      AllRuled a l (call_stmts p f (c.function (name_of p g) args) (Some v))
  target_kinded g gf keys v args at h call =
      let s = first_sort p h.given in
      let sorts : slot_sorts p h.given ≡ slot_sorts p h.ty = (keys_laid p keys h.given).sorts ∙ sym (same_laid p (with_keys keys h.given) h.ty h.same).sorts in
      let vars = typed_slots_fit a p f v h.ty here.up h.declared in
      let slot = first_fits a s.first s.rest (slot_vars p f v) (subst (λ ss. VarsFit a ss (slot_vars p f v)) (sym sorts ∙ s.is) vars) in
      ((slot.known, call, (head_for p g gf, heads.found g gf at, ap result_of h.result ∙ s.gives ∙ sym slot.type)), by (is_variant (var_type f v)) h.ty vars)
    where
      by : (b : Bool) (ty : Ty) → VarsFit a (slot_sorts p ty) (slot_vars p f v) → AllRuled a l (if b then results (after_first (slot_vars p f v)) else [])
      by true ty vars =
          results_ruled a l (after_first (slot_vars p f v)) (let n = after_long (slot_vars p f v) in let m = vars_long a (slot_sorts p ty) (slot_vars p f v) vars in let few = here.slots ty in omega (arith, few, n, m))
          (each_after (λ v. IsVar a (type_of v) v) (slot_vars p f v) (each_known a (slot_sorts p ty) (slot_vars p f v) vars))
      by false ty vars = tt

  pub call_kinded : (t : Numbers) (g : ℕ) (target : Option ℕ) (keys : List ℕ) (os : List Operand) → are_proper_operands os ≡ true → call_broken p f ids (slice_get p.fns g) target keys os ≡ [] →
      AreUpTo (call_code p f t g target os).most a.most → AllRuled a l (call_code p f t g target os).stmts
  call_kinded t g target keys os proper broken m = by (slice_get p.fns g) refl
    where
      by : (o : Option Func) → slice_get p.fns g ≡ o → AllRuled a l (call_code p f t g target os).stmts
      by None at =
          let e = subst (λ o. call_broken p f ids o target keys os ≡ []) at broken in
          absurd (filled_not_empty rule.UNKNOWN_NAME _ (both_empty _ (rule.UNKNOWN_NAME ∷ operands_broken p f ids [] os) (both_empty _ (target_alone_broken f ids target) e).left).right)
      by (Some gf) at =
          let e = subst (λ o. call_broken p f ids o target keys os ≡ []) at broken in
          let known = known_call p heads.kinded f ids g gf target keys os here.is at e in
          let h = operands_kinded a p f here ids l t (map (with_keys keys) (parameters_of gf)) os proper known.fits m in
          let codes = operand_codes p f t os in
          let args = flat_map (map atom_arg) codes.atoms in
          let call = call_of g gf keys codes.atoms at h.atoms_fit in
          ruled_both a l codes.stmts (call_stmts p f (c.function (name_of p g) args) target) h.stmts_ruled (of_target target known.aimed call)
        where
          of_target : (o : Option ℕ) → TargetSo f ids gf keys o → IsCallOf a (name_of p g) (flat_map (map atom_arg) (operand_codes p f t os).atoms) →
              AllRuled a l (call_stmts p f (c.function (name_of p g) (flat_map (map atom_arg) (operand_codes p f t os).atoms)) o)
          of_target None so call = (call, tt)
          of_target (Some v) so call = target_kinded g gf keys v (flat_map (map atom_arg) (operand_codes p f t os).atoms) at so call

  -- ---- returns

  record IsGivenCode (t : Numbers) (o : Operand) (ty : Ty) : Type 0 where
    stmts : AllRuled a l (operand_code p f t o).stmts
    atoms : AtomsFit a (slot_sorts p ty) (operand_code p f t o).atoms

  new_result : (t : Numbers) (key type : ℕ) (args : List ℕ) (o : Operand) → new_result_broken p f ids type args o ≡ [] → IsGivenCode t o (core.tracked key type args)
  new_result t key type args (pure (core.var x)) e =
      let d = used_declared f ids x (both_empty (use_broken f ids x) _ e).left in record { stmts = tt; atoms = by d.ty d.is }
    where
      never : (rule.WRONG_TYPE ∷ [] ≡ []) → AtomsFit a (of_reference ∷ []) (map variable (slot_vars p f x))
      never q = absurd (filled_not_empty rule.WRONG_TYPE [] q)

      by : (ty : Ty) → var_type f x ≡ Some ty → AtomsFit a (of_reference ∷ []) (map variable (slot_vars p f x))
      by (core.tracked k u others) is = var_atoms a (of_reference ∷ []) (slot_vars p f x) (typed_slots_fit a p f x (core.tracked k u others) here.up is)
      by core.int is = never (rw is at (both_empty (use_broken f ids x) _ e).right)
      by core.bool is = never (rw is at (both_empty (use_broken f ids x) _ e).right)
      by (core.owning s u others) is = never (rw is at (both_empty (use_broken f ids x) _ e).right)
      by (core.guarded k u others) is = never (rw is at (both_empty (use_broken f ids x) _ e).right)
      by (core.variant u others) is = never (rw is at (both_empty (use_broken f ids x) _ e).right)
      by (core.owning_variant u others) is = never (rw is at (both_empty (use_broken f ids x) _ e).right)
  new_result t key type args (pure (core.number z)) e = absurd (filled_not_empty rule.WRONG_TYPE _ e)
  new_result t key type args (pure (core.truth b)) e = absurd (filled_not_empty rule.WRONG_TYPE _ e)
  new_result t key type args (pure (core.field x i)) e = absurd (filled_not_empty rule.WRONG_TYPE _ e)
  new_result t key type args (pure (core.unary o x)) e = absurd (filled_not_empty rule.WRONG_TYPE _ e)
  new_result t key type args (pure (core.binary o x y)) e = absurd (filled_not_empty rule.WRONG_TYPE _ e)
  new_result t key type args (move v) e = absurd (filled_not_empty rule.WRONG_TYPE _ e)
  new_result t key type args (pack x states) e = absurd (filled_not_empty rule.WRONG_TYPE _ e)

  plain_result : (t : Numbers) (ty : Ty) (o : Operand) → is_proper_operand o ≡ true → operand_broken p f ids (Some ty) o ≡ [] → AreUpTo (operand_code p f t o).next a.most → IsGivenCode t o ty
  plain_result t ty o proper e m = let h = operand_kinded a p f here ids l t ty o proper e m in record { stmts = h.stmts; atoms = h.atoms }

  returned : (t : Numbers) (ty : Ty) (o : Operand) → is_proper_operand o ≡ true → returned_broken p f ids ty o ≡ [] → AreUpTo (operand_code p f t o).next a.most → IsGivenCode t o ty
  returned t (core.tracked k u args) o proper e m = by (has (new_keys f) k) e
    where
      by : (b : Bool) → (if b then new_result_broken p f ids u args o else operand_broken p f ids (Some (core.tracked k u args)) o) ≡ [] → IsGivenCode t o (core.tracked k u args)
      by true e = new_result t k u args o e
      by false e = plain_result t (core.tracked k u args) o proper e m
  returned t core.int o proper e m = plain_result t core.int o proper e m
  returned t core.bool o proper e m = plain_result t core.bool o proper e m
  returned t (core.owning s u args) o proper e m = plain_result t (core.owning s u args) o proper e m
  returned t (core.guarded k u args) o proper e m = plain_result t (core.guarded k u args) o proper e m
  returned t (core.variant u args) o proper e m = plain_result t (core.variant u args) o proper e m
  returned t (core.owning_variant u args) o proper e m = plain_result t (core.owning_variant u args) o proper e m

  pub return_kinded : (t : Numbers) (o : Option Operand) → is_proper_return o ≡ true → return_broken p f ids f.result o ≡ [] → AreUpTo (return_code p f t o).most a.most → AllRuled a l (return_code p f t o).stmts
  return_kinded t None proper broken m = by f.result refl
    where
      by : (r : Option Ty) → f.result ≡ r → AllRuled a l (c.return None ∷ [])
      by None e = (heads.result ∙ ap result_of e, tt)
      by (Some ty) e = absurd (filled_not_empty rule.WRONG_RETURN [] (subst (λ r. return_broken p f ids r None ≡ []) e broken))
  return_kinded t (Some o) proper broken m = by f.result refl
    where
      by : (r : Option Ty) → f.result ≡ r → AllRuled a l (return_code p f t (Some o)).stmts
      by None e = absurd (filled_not_empty rule.WRONG_RETURN (operand_broken p f ids None o) (subst (λ r. return_broken p f ids r (Some o) ≡ []) e broken))
      by (Some ty) e =
          let h = returned t ty o proper (subst (λ r. return_broken p f ids r (Some o) ≡ []) e broken) m in
          subst (λ r. AllRuled a l ((operand_code p f t o).stmts ++ return_stmts r (operand_code p f t o).atoms)) (sym e)
          (ruled_both a l (operand_code p f t o).stmts (return_stmts (Some ty) (operand_code p f t o).atoms) h.stmts
          (given_ruled a l p ty (operand_code p f t o).atoms (here.slots ty) (heads.result ∙ ap result_of e) h.atoms))
