-- Each set of states that an elaborated program says has any property that listed ones have.
use Rattle.std.proofs.Common.{◌≡◌, ℕ, ◌==◌, Bool, true, false, true≢false, not, is_some, if◌then◌else◌, List, [], ◌∷◌, ◌++◌, map, length, Option, Some, None, slice_get, option_map, IfSome, refl, sym, ap, ◌∙◌, subst}
use Rattle.std.proofs.lemmas.Option.{none-some, same_Some}
use Rattle.vlt_syntax.specs.Tree as s
use Rattle.vlt_syntax.specs.Tree.{Name, Right, Stmt, Field, Case, HeaderKey, Block, Decl, Tree}
use Rattle.vlt_syntax.specs.Lists.{Each}
use Rattle.vlt_core.specs.Core as core
use Rattle.vlt_core.specs.Core.{States, Ty, VarDecl, FieldDecl, CaseKey, CaseDecl, TypeDecl, Entry, Func, Program}
use Rattle.vlt_core.specs.Lookups as lookups
use Rattle.vlt_core.specs.Lookups.{is_owning, owning_states_in, owning_states, VariantOf, variant_in, fields_in, cases_in, release_in}
use Rattle.vlt_core.specs.Types.{decl_of, is_struct, with_keys}
use Rattle.vlt_kinds_types.specs.Files.{File, file_of, type_named, shape_named, state_names}
use Rattle.vlt_kinds_types.specs.Types.{core_ty}
use Rattle.vlt_kinds_decls.specs.Made.{header_number, core_field, core_struct, core_case, core_variant, core_types_in, core_types}
use Rattle.vlt_kinds_heads.specs.Keys.{keys_of}
use Rattle.vlt_kinds_heads.specs.Phase.{core_head}
use Rattle.vlt_kinds_types.specs.Kinds.{Kinds}
use Rattle.vlt_kinds.specs.Tables.{kinds_of}
use Rattle.vlt_resolve_laws.specs.KindsLaws.Shapes.{Describes}
use Rattle.vlt_resolve_laws.specs.KindsLaws.Said.{TypeSays, DeclsSay, EntrySays}
use Rattle.vlt_resolve_laws.specs.KindsLaws.Declared.{HasDeclared, IsPassed}
use Rattle.vlt_resolve_laws.proofs.OfKindsLaws.Empty.{cons_not_nil, no_right}
use Rattle.vlt_resolve_laws.proofs.OfKindsLaws.Rows.{each_joined, each_at, each_in, each_of_all, describes}
use Rattle.vlt_resolve_laws.proofs.OfKindsLaws.States.{ListedAre}
use Rattle.vlt_resolve_laws.proofs.OfKindsLaws.Filled.{named_says, declarations_say}
use Rattle.vlt_resolve_laws.proofs.OfKindsLaws.HeadStates.{type_says, result_says, head_says}
use Rattle.vlt_resolve_exprs.specs.Types.{then_with, ty_under}
use Rattle.vlt_resolve_exprs.specs.Scopes.{Scope, var_ty, more_var, with_key, with_var}
use Rattle.vlt_resolve_exprs.specs.Exprs.{fields_of, number_of}
use Rattle.vlt_resolve_exprs.specs.Bindings.{with_vars, with_several}
use Rattle.vlt_resolve_calls.specs.Builds as b
use Rattle.vlt_resolve_calls.specs.Builds.{Case as CaseOf, case_at, case_position, payload_in, case_in, case_of_tick, case_refused, build_refused}
use Rattle.vlt_resolve_rights.specs.News.{hides, known_args, args_or_none, with_object, with_hidden}
use Rattle.vlt_elaboration.specs.Around.{Around}
use Rattle.vlt_elaboration.specs.Declarations.{is_known_key, with_bound_key, binds_key, declared_ty, declared_target, declared_became, hidden_became, keyed_became, declare_became, assign_became}
use Rattle.vlt_elaboration.specs.Statements.{owning_types, opened_parts, open_became, opened_became, built_refused, returned_refused, return_refused, returned_build, return_became, simple_refused, simple_became}
use Rattle.vlt_elaboration.specs.Switches.{arm_case, arm_scope, focus_ty, bound_scope}
use Rattle.vlt_elaboration.specs.Elaboration.{body_scope, body_around, stmts_in}
use Rattle.vlt_resolve_laws.proofs.Walking.{IsKept, stmts_kept}
use Rattle.vlt_resolve_laws.specs.Made.{head_made, IsMade}
use Rattle.vlt_resolve_laws.specs.Narrow.{ProgramSays}
use Rattle.vlt_resolve_laws.specs.Elaborated.{IsElaborated}
use Rattle.vlt_resolve_laws.proofs.Starting.{body_is}
use Rattle.vlt_resolve_laws.proofs.Bodies.{made_head}
use Rattle.vlt_resolve_laws.proofs.Made.{HasFunctions, MadeAt, made_at, told}
use Rattle.vlt_resolve_laws.proofs.Whole.{facts_of, passed_of}

-- the fields of a struct, with their types, and the types of a variant's payloads
abbrev FieldSays : (P : States → Type 0) → FieldDecl → Type 0
FieldSays P d = P d.states × TypeSays P d.ty

abbrev PartsSay : (P : States → Type 0) → TypeDecl → Type 0
PartsSay P (core.an_abstract n ss) = Unit {0}
PartsSay P (core.a_struct d) = Each (FieldSays P) d.fields
PartsSay P (core.a_variant d) = Each (λ c. Each (TypeSays P) c.payload) d.cases

-- and the types of variables
abbrev VarsSay : (P : States → Type 0) → List VarDecl → Type 0
VarsSay P = Each (λ d. TypeSays P d.ty)

module _ (ds : List Decl) (p : Program) (described : Describes (file_of ds) p) (P : States → Type 0) (listed : ListedAre (file_of ds) P) where
  abbrev file : File
  file = file_of ds

  abbrev kinds : Kinds
  kinds = kinds_of ds

  -- ---- types

  says_under : (args : List ℕ) (ty : Ty) → TypeSays P ty → TypeSays P (with_keys args ty)
  says_under args core.int say = say
  says_under args core.bool say = say
  says_under args (core.tracked k t a) say = λ states e. absurd (none-some states e)
  says_under args (core.owning s t a) say = say
  says_under args (core.guarded k t a) say = λ states e. absurd (none-some states e)
  says_under args (core.variant t a) say = λ states e. absurd (none-some states e)
  says_under args (core.owning_variant t a) say = λ states e. absurd (none-some states e)

  all_under : (args : List ℕ) (ts : List Ty) → Each (TypeSays P) ts → Each (TypeSays P) (map (ty_under args) ts)
  unfolding ty_under
  all_under args [] e = tt
  all_under args (t ∷ ts) e = (says_under args t e.0, all_under args ts e.1)

  tracked_says : (k t : ℕ) (args : List ℕ) → TypeSays P (core.tracked k t args)
  tracked_says k t args states e = absurd (none-some states e)

  variant_says : (ty : Ty) → is_some (variant_in (Some ty)) ≡ true → TypeSays P ty
  variant_says core.int e = λ states e. absurd (none-some states e)
  variant_says core.bool e = λ states e. absurd (none-some states e)
  variant_says (core.tracked k t a) e = λ states e. absurd (none-some states e)
  variant_says (core.owning s t a) e = absurd (true≢false (sym e))
  variant_says (core.guarded k t a) e = λ states e. absurd (none-some states e)
  variant_says (core.variant t a) e = λ states e. absurd (none-some states e)
  variant_says (core.owning_variant t a) e = λ states e. absurd (none-some states e)

  -- what is so of the variables of a scope stays so
  abbrev KeepsStates : (before after : Scope) → Type 0
  KeepsStates before after = VarsSay P before.vars → VarsSay P after.vars

  one_more : (ds : List VarDecl) (d : VarDecl) → TypeSays P d.ty → VarsSay P ds → VarsSay P (ds ++ d ∷ [])
  one_more ds d say e = each_joined (λ d. TypeSays P d.ty) ds (d ∷ []) e (say, tt)

  vars_say : (scope : Scope) (ns : List Name) (ts : List Ty) → Each (TypeSays P) ts → KeepsStates scope (with_vars scope ns ts)
  vars_say scope [] ts say e = e
  vars_say scope (n ∷ ns) [] say e = e
  vars_say scope (n ∷ ns) (t ∷ ts) say e = vars_say (with_var scope n.text t) ns ts say.1 (one_more scope.vars _ say.0 e)

  several_say : (scope : Scope) (ns : List Name) (ts : List Ty) → Each (TypeSays P) ts → KeepsStates scope (with_several scope ns ts)
  unfolding with_several
  several_say scope ns ts say = by (length ts == length ns)
    where
      by : (q : Bool) → KeepsStates scope (if q then with_vars scope ns ts else scope)
      by true = vars_say scope ns ts say
      by false = λ e. e

  -- ---- declared types

  fields_say : (n : Name) (ps : List HeaderKey) (fs : List Field) → Each (FieldSays P) (map (core_field file ps (state_names file (shape_named file n))) fs)
  unfolding core_field
  fields_say n ps [] = tt
  fields_say n ps (f ∷ fs) = ((named_says file p described P listed n f.states, type_says file p described P listed (header_number ps) f.ty), fields_say n ps fs)

  payload_says : (ps : List HeaderKey) (ts : List s.Ty) → Each (TypeSays P) (map (core_ty file (header_number ps)) ts)
  payload_says ps [] = tt
  payload_says ps (t ∷ ts) = (type_says file p described P listed (header_number ps) t, payload_says ps ts)

  cases_say : (ps : List HeaderKey) (cs : List Case) → Each (λ c. Each (TypeSays P) c.payload) (map (core_case file ps) cs)
  unfolding core_case
  cases_say ps [] = tt
  cases_say ps (c ∷ cs) = (payload_says ps c.payload, cases_say ps cs)

  decl_says : (d : Decl) → Each (PartsSay P) (core_types_in file d)
  unfolding core_struct core_variant
  decl_says (s.stateset n ss at) = tt
  decl_says (s.abstract n ss at) = (tt, tt)
  decl_says (s.struct n ps ss fs r at) = (fields_say n ps fs, tt)
  decl_says (s.variant n ps cs at) = (cases_say ps cs, tt)
  decl_says (s.extern h at) = tt
  decl_says (s.function h b at) = tt

  parts_say : (t : ℕ) (d : TypeDecl) → slice_get kinds.types t ≡ Some d → PartsSay P d
  parts_say t d at = each_at (PartsSay P) (core_types file ds) t d (each_in (PartsSay P) (core_types_in file) ds (each_of_all _ decl_says ds)) at

  fields_at : (t : ℕ) → Each (FieldSays P) (fields_of kinds t)
  fields_at t = by (slice_get kinds.types t) refl
    where
      by : (o : Option TypeDecl) → slice_get kinds.types t ≡ o → Each (FieldSays P) (fields_in o)
      by None at = tt
      by (Some (core.an_abstract n ss)) at = tt
      by (Some (core.a_struct d)) at = parts_say t (core.a_struct d) at
      by (Some (core.a_variant d)) at = tt

  pub cases_say_at : (t : ℕ) → Each (λ c. Each (TypeSays P) c.payload) (b.cases_of kinds t)
  cases_say_at t = by (slice_get kinds.types t) refl
    where
      by : (o : Option TypeDecl) → slice_get kinds.types t ≡ o → Each (λ c. Each (TypeSays P) c.payload) (cases_in o)
      by None at = tt
      by (Some (core.an_abstract n ss)) at = tt
      by (Some (core.a_struct d)) at = tt
      by (Some (core.a_variant d)) at = parts_say t (core.a_variant d) at

  owning_say : (args : List ℕ) (fs : List FieldDecl) → Each (FieldSays P) fs → Each (TypeSays P) (owning_types args fs)
  unfolding ty_under
  owning_say args [] e = tt
  owning_say args (f ∷ fs) e = by (is_owning f.ty) (owning_say args fs e.1)
    where
      by : (q : Bool) → Each (TypeSays P) (owning_types args fs) → Each (TypeSays P) (if q then with_keys args f.ty ∷ owning_types args fs else owning_types args fs)
      by true more = (says_under args f.ty e.0.1, more)
      by false more = more

  -- ---- statements without blocks

  hidden_says : (scope : Scope) (right : Right) (ty : Option Ty) → KeepsStates scope (with_hidden kinds scope right ty)
  unfolding with_hidden
  hidden_says scope (s.make r n is at) ty = by (hides (s.make r n is at) ty)
    where
      object : Ty
      object = core.tracked (length scope.keys) (number_of (type_named file n.name)) (args_or_none (known_args kinds scope n))

      by : (q : Bool) → KeepsStates scope (if q then with_object kinds scope n else scope)
      by true = λ e. one_more scope.vars (record { name = []; ty = object }) (tracked_says (length scope.keys) (number_of (type_named file n.name)) (args_or_none (known_args kinds scope n))) e
      by false = λ e. e
  hidden_says scope (s.value x) ty = λ e. e
  hidden_says scope (s.build x) ty = λ e. e
  hidden_says scope (s.call c) ty = λ e. e
  hidden_says scope (s.input at) ty = λ e. e
  hidden_says scope (s.more at) ty = λ e. e
  hidden_says scope (s.adopt x r at) ty = λ e. e

  bound_says : (scope : Scope) (ty : s.Ty) → KeepsStates scope (with_bound_key kinds scope ty)
  unfolding with_bound_key
  bound_says scope (s.tracked k n at) = by (is_known_key scope k)
    where
      by : (q : Bool) → KeepsStates scope (if q then scope else with_key scope k.text (type_named file n.name))
      by true = λ e. e
      by false = λ e. e
  bound_says scope (s.int at) = λ e. e
  bound_says scope (s.bool at) = λ e. e
  bound_says scope (s.owning ss n at) = λ e. e
  bound_says scope (s.guarded k n) = λ e. e
  bound_says scope (s.plain n) = λ e. e

  declare_says : (scope : Scope) (ty : s.Ty) (x : Name) (right : Right) → KeepsStates scope (declare_became kinds scope ty x right).1
  unfolding declare_became keyed_became hidden_became declared_became declared_ty
  declare_says scope ty x right e =
      let now = with_bound_key kinds scope ty in
      let t = declared_target kinds (binds_key scope ty) now ty in
      one_more (with_hidden kinds now right (Some t.ty)).vars _ (type_says file p described P listed _ ty) (hidden_says now right (Some t.ty) (bound_says scope ty e))

  opened_say : (o : Option Ty) (ws : List Ty) → opened_parts kinds o ≡ Some ws → Each (TypeSays P) ws
  unfolding opened_parts
  opened_say None ws e = absurd (none-some ws e)
  opened_say (Some core.int) ws e = absurd (none-some ws e)
  opened_say (Some core.bool) ws e = absurd (none-some ws e)
  opened_say (Some (core.tracked k t args)) ws e = by (is_struct (slice_get kinds.types t)) e
    where
      by : (q : Bool) → (if q then Some (owning_types args (fields_of kinds t)) else None) ≡ Some ws → Each (TypeSays P) ws
      by true e = subst (Each (TypeSays P)) (same_Some _ ws e) (owning_say args (fields_of kinds t) (fields_at t))
      by false e = absurd (none-some ws e)
  opened_say (Some (core.owning s t args)) ws e = absurd (none-some ws e)
  opened_say (Some (core.guarded k t args)) ws e = absurd (none-some ws e)
  opened_say (Some (core.variant t args)) ws e = absurd (none-some ws e)
  opened_say (Some (core.owning_variant t args)) ws e = absurd (none-some ws e)

  open_says : (scope : Scope) (x : Name) (vs : List Name) (o : Option (List Ty)) → opened_parts kinds (var_ty scope x.text) ≡ o → KeepsStates scope (opened_became scope o x vs).1
  open_says scope x vs None is = λ e. e
  open_says scope x vs (Some ws) is = several_say scope vs ws (opened_say (var_ty scope x.text) ws is)

  built_variant : (scope : Scope) (w : Ty) (x : s.Build) → build_refused kinds scope w x ≡ [] → is_some (variant_in (Some w)) ≡ true
  unfolding build_refused case_of_tick
  built_variant scope w x none = by (variant_in (Some w)) none
    where
      by : (o : Option VariantOf) → case_refused kinds scope (then_with o (λ v. case_in (b.cases_of kinds v.type) v.args x.case)) x ≡ [] → is_some o ≡ true
      by None none = absurd (cons_not_nil _ _ none)
      by (Some v) none = refl

  returned_says : (scope : Scope) (o : Option Ty) (x : s.Build) (at : ℕ) → built_refused kinds scope o x at ≡ [] → KeepsStates scope (returned_build kinds scope o x).1
  unfolding built_refused
  returned_says scope None x at none = λ e. e
  returned_says scope (Some w) x at none = one_more scope.vars _ (variant_says w (built_variant (more_var scope [] w) w x (no_right _ _ none)))

  return_says : (around : Around) (scope : Scope) (r : s.Returned) (at : ℕ) → return_refused kinds around scope r at ≡ [] → KeepsStates scope (return_became kinds around scope r).1
  unfolding return_refused returned_refused return_became
  return_says around scope s.nothing at none = λ e. e
  return_says around scope (s.value x) at none = λ e. e
  return_says around scope (s.build x) at none = returned_says scope around.result x at (no_right _ _ (no_right _ _ none))

  plain_says : (around : Around) (scope : Scope) (x : Stmt) → simple_refused kinds around scope x ≡ [] → KeepsStates scope (simple_became kinds around scope x).1
  unfolding assign_became open_became
  plain_says around scope (s.declare t x right at) none = declare_says scope t x right
  plain_says around scope (s.assign x right at) none = hidden_says scope right (var_ty scope x.text)
  plain_says around scope (s.put x f e at) none = λ e. e
  plain_says around scope (s.call c at) none = λ e. e
  plain_says around scope (s.print e at) none = λ e. e
  plain_says around scope (s.break at) none = λ e. e
  plain_says around scope (s.continue at) none = λ e. e
  plain_says around scope (s.return r at) none = return_says around scope r at.from none
  plain_says around scope (s.release x at) none = λ e. e
  plain_says around scope (s.become x n at) none = λ e. e
  plain_says around scope (s.swap x f v at) none = λ e. e
  plain_says around scope (s.open_into x vs at) none = open_says scope x vs (opened_parts kinds (var_ty scope x.text)) refl
  plain_says around scope (s.block x) none = λ e. e
  plain_says around scope (s.choose i) none = λ e. e
  plain_says around scope (s.loop e x at) none = λ e. e
  plain_says around scope (s.switch x arms at) none = λ e. e
  plain_says around scope (s.focus y k z x at) none = λ e. e

  -- ---- switches and focuses

  focus_says : (scope : Scope) (ty : Option Ty) (k z : Name) → KeepsStates scope (bound_scope scope ty k z)
  focus_says scope ty k z e = one_more scope.vars (record { name = z.text; ty = focus_ty ty (length scope.keys) }) (by ty) e
    where
      by : (ty : Option Ty) → TypeSays P (focus_ty ty (length scope.keys))
      by None = tracked_says (length scope.keys) 0 []
      by (Some core.int) = tracked_says (length scope.keys) 0 []
      by (Some core.bool) = tracked_says (length scope.keys) 0 []
      by (Some (core.tracked k t args)) = tracked_says (length scope.keys) 0 []
      by (Some (core.owning s t args)) = tracked_says (length scope.keys) 0 []
      by (Some (core.guarded k t args)) = tracked_says (length scope.keys) t args
      by (Some (core.variant t args)) = tracked_says (length scope.keys) 0 []
      by (Some (core.owning_variant t args)) = tracked_says (length scope.keys) 0 []

  -- the payload of a case that is known
  payload_known : (ty : Ty) (tick : Name) (c : CaseOf) → case_of_tick kinds ty tick ≡ Some c → Each (TypeSays P) c.payload
  unfolding case_of_tick case_in
  payload_known ty tick c e = of_variant (variant_in (Some ty)) e
    where
      at_number : (t : ℕ) (args : List ℕ) (i : ℕ) (o : Option CaseDecl) → slice_get (b.cases_of kinds t) i ≡ o → Each (TypeSays P) (payload_in args o)
      at_number t args i None is = tt
      at_number t args i (Some d) is = all_under args d.payload (each_at _ (b.cases_of kinds t) i d (cases_say_at t) is)

      of_case : (t : ℕ) (args : List ℕ) (o : Option ℕ) → option_map (case_at (b.cases_of kinds t) args) o ≡ Some c → Each (TypeSays P) c.payload
      of_case t args None e = absurd (none-some c e)
      of_case t args (Some i) e = subst (λ c. Each (TypeSays P) c.payload) (same_Some _ c e) (at_number t args i (slice_get (b.cases_of kinds t) i) refl)

      of_variant : (o : Option VariantOf) → then_with o (λ v. option_map (case_at (b.cases_of kinds v.type) v.args) (case_position (b.cases_of kinds v.type) tick)) ≡ Some c → Each (TypeSays P) c.payload
      of_variant None e = absurd (none-some c e)
      of_variant (Some v) e = of_case v.type v.args (case_position (b.cases_of kinds v.type) tick) e

  arm_says : (scope : Scope) (ty : Option Ty) (tick : Name) (vs : List Name) → KeepsStates scope (arm_scope scope (arm_case kinds ty tick) vs)
  unfolding arm_scope
  arm_says scope None tick vs = λ e. e
  arm_says scope (Some ty) tick vs = by (case_of_tick kinds ty tick) refl
    where
      by : (o : Option CaseOf) → case_of_tick kinds ty tick ≡ o → KeepsStates scope (arm_scope scope o vs)
      by None is = λ e. e
      by (Some c) is = several_say scope vs c.payload (payload_known ty tick c is)

  states_kept : IsKept kinds KeepsStates
  states_kept = record {
    none = λ scope e. e;
    twice = λ a b c x y e. y (x e);
    following = λ scope last x e. x e;
    plain = plain_says;
    focus = λ scope ty y k z none. focus_says scope ty k z;
    arm = λ scope ty tick vs none. arm_says scope ty tick vs;
  }

  -- ---- functions

  variables_say : (head : s.Head) (body : Option Block) (f : Func) → IsMade kinds head body f → VarsSay P f.vars
  variables_say head None f m = subst (λ g. VarsSay P g.vars) (sym m.walked) (head_says file p described P listed true head (keys_of file head)).parameters
  variables_say head (Some body) f m =
      let h = head_made kinds head (Some body) in
      let w = m.walked.1 in
      subst (λ g. VarsSay P g.vars) (sym w.made)
      (stmts_kept kinds KeepsStates states_kept (body_around h) (body_scope h) false (stmts_in body) w.last w.walked
      (subst (λ c. VarsSay P c.vars) (sym (body_is h)) (head_says file p described P listed false head (keys_of file head)).parameters))

  clause_says : (head : s.Head) (body : Option Block) (f : Func) → IsMade kinds head body f → Each (EntrySays P) f.clause
  clause_says head body f m =
      subst (Each (EntrySays P)) (sym (made_head kinds (head_made kinds head body) body f m.walked).clause) (head_says file p described P listed (not (is_some body)) head (keys_of file head)).clause

if_some : (P : States → Type 0) (o : Option States) → ((states : States) → o ≡ Some states → P states) → IfSome o P
if_some P None go = tt
if_some P (Some states) go = go states refl

-- ---- declared types of a program

module _ (ds : List Decl) (p : Program) (passed : IsPassed ds) (has : HasDeclared ds p) (P : States → Type 0) (listed : ListedAre (file_of ds) P) where
  described : Describes (file_of ds) p
  described = describes ds p passed has

  said : DeclsSay P p
  said = declarations_say ds p passed has P listed

  -- what an object may be released in
  released : (t : ℕ) (o : Option TypeDecl) → decl_of p t ≡ o → P (release_in p t o)
  released t None is = said.all t
  released t (Some (core.an_abstract n ss)) is = said.all t
  released t (Some (core.a_struct d)) is = said.said t (core.a_struct d) is
  released t (Some (core.a_variant d)) is = said.all t

  parts_at : (t : ℕ) (d : TypeDecl) → decl_of p t ≡ Some d → PartsSay P d
  parts_at t d is = parts_say ds p described P listed t d (sym (ap (λ ts. slice_get ts t) has.types) ∙ is)

  field_says : (t i : ℕ) (d : FieldDecl) (o : Option TypeDecl) → decl_of p t ≡ o → slice_get (fields_in o) i ≡ Some d → FieldSays P d
  field_says t i d None is at = absurd (none-some d at)
  field_says t i d (Some (core.an_abstract n ss)) is at = absurd (none-some d at)
  field_says t i d (Some (core.a_struct v)) is at = each_at (FieldSays P) v.fields i d (parts_at t (core.a_struct v) is) at
  field_says t i d (Some (core.a_variant v)) is at = absurd (none-some d at)

  -- the types of a case's payload, and the states that it says of keys
  case_says : (t c : ℕ) (d : CaseDecl) (o : Option TypeDecl) → decl_of p t ≡ o → slice_get (cases_in o) c ≡ Some d → Each (TypeSays P) d.payload × Each (λ k. P k.states) d.keys
  case_says t c d None is at = absurd (none-some d at)
  case_says t c d (Some (core.an_abstract n ss)) is at = absurd (none-some d at)
  case_says t c d (Some (core.a_struct v)) is at = absurd (none-some d at)
  case_says t c d (Some (core.a_variant v)) is at = (
    each_at (λ c. Each (TypeSays P) c.payload) v.cases c d (parts_at t (core.a_variant v) is) at,
    each_at (λ c. Each (λ k. P k.states) c.keys) v.cases c d (said.said t (core.a_variant v) is) at,
  )

  pub payload_at : (t c i : ℕ) (d : CaseDecl) (ty : Ty) → lookups.case_at p t c ≡ Some d → slice_get d.payload i ≡ Some ty → TypeSays P ty
  payload_at t c i d ty at there = each_at (TypeSays P) d.payload i ty (case_says t c d (decl_of p t) refl at).0 there

  pub key_at : (t c i : ℕ) (d : CaseDecl) (k : CaseKey) → lookups.case_at p t c ≡ Some d → slice_get d.keys i ≡ Some k → P k.states
  key_at t c i d k at key = each_at (λ k. P k.states) d.keys i k (case_says t c d (decl_of p t) refl at).1 key

  -- ---- functions of a program

  module _ (functions : HasFunctions (kinds_of ds) p) where
    func : (g : ℕ) (f : Func) → slice_get p.fns g ≡ Some f → MadeAt (kinds_of ds) (kinds_of ds).heads g f
    func g f at = made_at (kinds_of ds) (kinds_of ds).heads p.fns functions.made g f at

    owned_says : (f : Func) (v : ℕ) (states : States) → VarsSay P f.vars → owning_states f v ≡ Some states → P states
    owned_says f v states say e = by (slice_get f.vars v) refl e
      where
        by : (o : Option VarDecl) → slice_get f.vars v ≡ o → owning_states_in (option_map (λ d. d.ty) o) ≡ Some states → P states
        by None at e = absurd (none-some states e)
        by (Some d) at e = each_at (λ d. TypeSays P d.ty) f.vars v d say at states e

    entry_at : (g : ℕ) (f : Func) (i : ℕ) (e : Entry) → slice_get p.fns g ≡ Some f → slice_get f.clause i ≡ Some e → EntrySays P e
    entry_at g f i e at entry = let m = func g f at in each_at (EntrySays P) f.clause i e (clause_says ds p described P listed m.head m.body f m.made) entry

    given : (g : ℕ) (f : Func) (ty : Ty) → slice_get p.fns g ≡ Some f → f.result ≡ Some ty → TypeSays P ty
    unfolding core_head
    given g f ty at is =
        let m = func g f at in
        let same = (made_head (kinds_of ds) (head_made (kinds_of ds) m.head m.body) m.body f m.made.walked).result in
        result_says (file_of ds) p described P listed (keys_of (file_of ds) m.head) m.head.result_type ty (sym same ∙ is)

    pub program_says : ProgramSays P p
    program_says = record {
      all = said.all;
      released = λ t. released t (decl_of p t) refl;
      owned = λ g f v states at e. let m = func g f at in owned_says f v states (variables_say ds p described P listed m.head m.body f m.made) e;
      listed = key_at;
      after = λ g f i e at entry. if_some P e.after (entry_at g f i e at entry).after;
      before = λ g f i e at entry. if_some P e.before (entry_at g f i e at entry).before;
      touched = λ t i d at. (field_says t i d (decl_of p t) refl at).0;
      fields = λ t i d at. (field_says t i d (decl_of p t) refl at).1;
      payloads = payload_at;
      results = given;
    }

pub elaborated_says : (t : Tree) (kinds : Kinds) (p : Program) → IsElaborated t kinds p → (P : States → Type 0) → ListedAre (file_of t.decls) P → ProgramSays P p
elaborated_says t kinds p e P listed =
    let same = (told t.decls kinds e.told).same in
    let functions : HasFunctions (kinds_of t.decls) p = subst (λ k. HasFunctions k p) (sym same) (facts_of t kinds p e).functions in
    let declared : HasDeclared t.decls p = record { sets = functions.sets; types = functions.types } in
    program_says t.decls p (passed_of t kinds p e) declared P listed functions
