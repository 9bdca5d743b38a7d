-- A program whose sets of states are masks is one of the code.
use Rattle.std.proofs.Common.{◌≡◌, ◌<◌, ◌≤◌, ◌^◌, ◌==◌, not, ℕ, true, List, [], ◌∷◌, Option, Some, None, IfSome, map, refl, ◌∙◌, arith}
use Rattle.std.specs.Option.{option_map}
use Rattle.std.proofs.lemmas.Bool.Decides.{nat_tests}
use Rattle.vlt_base.specs.States.{has_state}
use Rattle.vlt_base.specs.declared.ids.KeyId.{KeyId}
use Rattle.vlt_base.specs.declared.ids.TypeId.{TypeId}
use Rattle.vlt_base.specs.declared.ids.SetId.{SetId}
use Rattle.vlt_base.specs.declared.ids.VarId.{VarId}
use Rattle.vlt_base.specs.declared.states.StateSet.{StateSet}
use Rattle.vlt_core.specs.Core as s
use Rattle.vlt_core.specs.declared.held.Tok.{Tok}
use Rattle.vlt_core.specs.declared.held.Tok.TheVariants as tok
use Rattle.vlt_core.specs.declared.program.Link.{Link}
use Rattle.vlt_core.specs.declared.program.SetDecl.{SetDecl}
use Rattle.vlt_core.specs.declared.program.FieldDecl.{FieldDecl}
use Rattle.vlt_core.specs.declared.program.CaseDecl.{CaseDecl}
use Rattle.vlt_core.specs.declared.program.TypeDecl.{TypeDecl}
use Rattle.vlt_core.specs.declared.program.TypeDecl.TheVariants as decl
use Rattle.vlt_core.specs.declared.program.Ty.{Ty}
use Rattle.vlt_core.specs.declared.program.Ty.TheVariants as ty
use Rattle.vlt_core.specs.declared.program.Mode.{Mode}
use Rattle.vlt_core.specs.declared.program.Mode.TheVariants as mode
use Rattle.vlt_core.specs.declared.program.Entry.{Entry}
use Rattle.vlt_core.specs.declared.program.KeyDecl.{KeyDecl}
use Rattle.vlt_core.specs.declared.program.VarDecl.{VarDecl}
use Rattle.vlt_core.specs.declared.program.Func.{Func}
use Rattle.vlt_core.specs.declared.program.Program.{Program}
use Rattle.vlt_core.specs.declared.program.Expr.{Expr, roll-Expr}
use Rattle.vlt_core.specs.declared.program.Expr.TheOpen.{Expr-F}
use Rattle.vlt_core.specs.declared.program.Expr.TheFolds.{fold-roll-Expr}
use Rattle.vlt_core.specs.declared.program.Operand.{Operand}
use Rattle.vlt_core.specs.declared.program.Operand.TheVariants as operand
use Rattle.vlt_core.specs.declared.program.Form.{Form, roll-Form, map-Form}
use Rattle.vlt_core.specs.declared.program.Stmt.{Stmt, roll-Stmt}
use Rattle.vlt_core.specs.declared.program.Arm.{Arm, roll-Arm}
use Rattle.vlt_core.specs.declared.program.Block.{Block, roll-Block}
use Rattle.vlt_core.specs.declared.program.Form.TheOpen.{Form-F, Arm-F, Block-F, Stmt-F}
use Rattle.vlt_core.specs.declared.program.Form.TheFolds.{fold-roll-Form, fold-roll-Arm, fold-roll-Block, fold-roll-Stmt}
use Rattle.vlt_core.specs.View.{keys_of, vars_of, states_of, ty_of, link_of, set_of, field_of, case_key_of, case_of, header_of, type_of, mode_of, entry_of, key_of, var_of, tok_of, expr_step, expr_of, operand_of, StmtView, ArmView, form_step, arm_step, block_step, stmt_step, form_of, arm_of, block_of, stmt_of, stmts_of, arms_of, func_of, program_of}
use Rattle.cert_rows.specs.Parts.{All}
use Rattle.cert_rows.specs.Values.{mask_of, mask}
use Rattle.cert_fit_laws.proofs.Masked.{IsMaskedTy, IsMaskedOperand, IsMaskedSimple, IsMasked, IsMaskedBlock, AreMasked, AreMaskedArms, IsMaskedField, IsMaskedKey, IsMaskedCase, IsMaskedType, IsMaskedEntry, IsMaskedFunc, IsMaskedProgram}

-- ---- lists and options

listed : {A B : Type 0} (P : B → Type 0) (g : A → B) → ((y : B) → P y → (x : A) × (g x ≡ y)) → (ys : List B) → All P ys → (xs : List A) × (map g xs ≡ ys)
listed P g one [] are = ([], refl)
listed P g one (y ∷ ys) are =
    let x = one y are.0 in
    let xs = listed P g one ys are.1 in
    (x.0 ∷ xs.0, λ i. x.1 i ∷ xs.1 i)

each : {A B : Type 0} (g : A → B) → ((y : B) → (x : A) × (g x ≡ y)) → (ys : List B) → (xs : List A) × (map g xs ≡ ys)
each g one [] = ([], refl)
each g one (y ∷ ys) =
    let x = one y in
    let xs = each g one ys in
    (x.0 ∷ xs.0, λ i. x.1 i ∷ xs.1 i)

maybe : {A B : Type 0} (P : B → Type 0) (g : A → B) → ((y : B) → P y → (x : A) × (g x ≡ y)) → (o : Option B) → IfSome o P → (q : Option A) × (option_map g q ≡ o)
maybe P g one None is = (None, refl)
maybe P g one (Some y) is = let x = one y is in (Some x.0, λ i. Some (x.1 i))

some_of : {A B : Type 0} (g : A → B) → ((y : B) → (x : A) × (g x ≡ y)) → (o : Option B) → (q : Option A) × (option_map g q ≡ o)
some_of g one None = (None, refl)
some_of g one (Some y) = let x = one y in (Some x.0, λ i. Some (x.1 i))

-- ---- numbers

code_keys : (ks : List ℕ) → (xs : List KeyId) × (keys_of xs ≡ ks)
code_keys = each (λ k. k.0) (λ n. (record { 0 = n }, refl))

code_vars : (vs : List ℕ) → (xs : List VarId) × (vars_of xs ≡ vs)
code_vars = each (λ v. v.0) (λ n. (record { 0 = n }, refl))

code_header : (h : s.Header) → (xs : List (Option TypeId)) × (header_of xs ≡ h)
code_header = each (option_map (λ t. t.0)) (some_of (λ t. t.0) (λ n. (record { 0 = n }, refl)))

code_set_number : (o : Option ℕ) → (x : Option SetId) × (option_map (λ i. i.0) x ≡ o)
code_set_number = some_of (λ i. i.0) (λ n. (record { 0 = n }, refl))

code_type_number : (o : Option ℕ) → (x : Option TypeId) × (option_map (λ t. t.0) x ≡ o)
code_type_number = some_of (λ t. t.0) (λ n. (record { 0 = n }, refl))

code_target : (o : Option ℕ) → (x : Option VarId) × (option_map (λ v. v.0) x ≡ o)
code_target = some_of (λ v. v.0) (λ n. (record { 0 = n }, refl))

code_tok : (t : s.Tok) → (x : Tok) × (tok_of x ≡ t)
code_tok (s.a_key k) = (tok.Key (record { 0 = k }), refl)
code_tok (s.a_var v) = (tok.Var (record { 0 = v }), refl)

code_toks : (ts : List s.Tok) → (xs : List Tok) × (map tok_of xs ≡ ts)
code_toks = each tok_of code_tok

-- ---- sets of states and types

some_bit : (n : ℕ) → not (n == 0) ≡ true → 0 < n
some_bit n is = grind (arith, nat_tests)

few_bits : (n : ℕ) → n ≤ 4294967295 → n < 2 ^ 32
few_bits n few = omega (arith, few)

code_states : (states : s.States) → mask.Fits states → (x : StateSet) × (has_state x ≡ states)
code_states states is = (
  record { mask = mask_of states; filled = some_bit (mask_of states) is.0.1; small = few_bits (mask_of states) is.0.0 },
  is.1,
)

code_side : (o : Option s.States) → IfSome o mask.Fits → (x : Option StateSet) × (states_of x ≡ o)
code_side = maybe mask.Fits has_state code_states

code_ty : (t : s.Ty) → IsMaskedTy t → (x : Ty) × (ty_of x ≡ t)
code_ty s.int is = (ty.Int, refl)
code_ty s.bool is = (ty.Bool, refl)
code_ty (s.tracked k t args) is = let a = code_keys args in (ty.Key (record { 0 = k }) (record { 0 = t }) a.0, λ i. s.tracked k t (a.1 i))
code_ty (s.owning states t args) is =
    let m = code_states states is in
    let a = code_keys args in
    (ty.Own m.0 (record { 0 = t }) a.0, λ i. s.owning (m.1 i) t (a.1 i))
code_ty (s.guarded k t args) is = let a = code_keys args in (ty.Guard (record { 0 = k }) (record { 0 = t }) a.0, λ i. s.guarded k t (a.1 i))
code_ty (s.variant t args) is = let a = code_keys args in (ty.Var (record { 0 = t }) a.0, λ i. s.variant t (a.1 i))
code_ty (s.owning_variant t args) is = let a = code_keys args in (ty.OwnVar (record { 0 = t }) a.0, λ i. s.owning_variant t (a.1 i))

-- ---- declarations

code_link : (l : s.Link) → (x : Link) × (link_of x ≡ l)
code_link l = (record { lower = l.lower; upper = l.upper }, refl)

code_set : (d : s.SetDecl) → (x : SetDecl) × (set_of x ≡ d)
code_set d =
    let states = each (λ n. n) (λ n. (n, refl)) d.states in
    let links = each link_of code_link d.links in
    (record { name = d.name; states = states.0; links = links.0 }, λ i. record { name = d.name; states = states.1 i; links = links.1 i })

code_field : (d : s.FieldDecl) → IsMaskedField d → (x : FieldDecl) × (field_of x ≡ d)
code_field d is =
    let t = code_ty d.ty is.0 in
    let m = code_states d.states is.1 in
    (record { name = d.name; ty = t.0; states = m.0 }, λ i. record { name = d.name; ty = t.1 i; states = m.1 i })

code_case_key : (k : s.CaseKey) → IsMaskedKey k → (x : ℕ × StateSet) × (case_key_of x ≡ k)
code_case_key k is = let m = code_states k.states is in ((k.position, m.0), λ i. record { position = k.position; states = m.1 i })

code_case : (c : s.CaseDecl) → IsMaskedCase c → (x : CaseDecl) × (case_of x ≡ c)
code_case c is =
    let payload = listed IsMaskedTy ty_of code_ty c.payload is.0 in
    let keys = listed IsMaskedKey case_key_of code_case_key c.keys is.1 in
    (record { name = c.name; payload = payload.0; keys = keys.0 }, λ i. record { name = c.name; payload = payload.1 i; keys = keys.1 i })

code_type : (d : s.TypeDecl) → IsMaskedType d → (x : TypeDecl) × (type_of x ≡ d)
code_type (s.an_abstract name set) is = let n = code_set_number set in (decl.Abstract name n.0, λ i. s.an_abstract name (n.1 i))
code_type (s.a_struct d) is =
    let header = code_header d.header in
    let n = code_set_number d.set in
    let m = code_states d.release is.0 in
    let fields = listed IsMaskedField field_of code_field d.fields is.1 in
    (decl.Struct d.name header.0 n.0 m.0 fields.0, λ i. s.a_struct (record { name = d.name; header = header.1 i; set = n.1 i; release = m.1 i; fields = fields.1 i }))
code_type (s.a_variant d) is =
    let header = code_header d.header in
    let cases = listed IsMaskedCase case_of code_case d.cases is in
    (decl.Variant d.name header.0 cases.0, λ i. s.a_variant (record { name = d.name; header = header.1 i; cases = cases.1 i }))

code_mode : (m : s.Mode) → (x : Mode) × (mode_of x ≡ m)
code_mode s.kept = (mode.Kept, refl)
code_mode s.taken = (mode.Taken, refl)
code_mode s.given = (mode.Given, refl)
code_mode s.fresh = (mode.New, refl)
code_mode (s.up_to b) = (mode.Bound b, refl)

code_entry : (e : s.Entry) → IsMaskedEntry e → (x : Entry) × (entry_of x ≡ e)
code_entry e is =
    let m = code_mode e.mode in
    let before = code_side e.before is.0 in
    let after = code_side e.after is.1 in
    (record { mode = m.0; key = record { 0 = e.key }; before = before.0; after = after.0 }, λ i. record { mode = m.1 i; key = e.key; before = before.1 i; after = after.1 i })

code_key : (d : s.KeyDecl) → (x : KeyDecl) × (key_of x ≡ d)
code_key d = let t = code_type_number d.key_type in (record { name = d.name; key_type = t.0 }, λ i. record { name = d.name; key_type = t.1 i })

code_var : (d : s.VarDecl) → IsMaskedTy d.ty → (x : VarDecl) × (var_of x ≡ d)
code_var d is = let t = code_ty d.ty is in (record { name = d.name; ty = t.0 }, λ i. record { name = d.name; ty = t.1 i })

-- ---- expressions and operands

code_expr : (e : s.Expr) → (x : Expr) × (expr_of x ≡ e)
code_expr (s.number z) = (roll-Expr (Expr-F.Number z), fold-roll-Expr s.Expr expr_step (Expr-F.Number z))
code_expr (s.truth b) = (roll-Expr (Expr-F.Bool b), fold-roll-Expr s.Expr expr_step (Expr-F.Bool b))
code_expr (s.var v) = (roll-Expr (Expr-F.Var (record { 0 = v })), fold-roll-Expr s.Expr expr_step (Expr-F.Var (record { 0 = v })))
code_expr (s.field x n) = (roll-Expr (Expr-F.Field (record { 0 = x }) n), fold-roll-Expr s.Expr expr_step (Expr-F.Field (record { 0 = x }) n))
code_expr (s.unary op a) =
    let x = code_expr a in
    (roll-Expr (Expr-F.Un op x.0), fold-roll-Expr s.Expr expr_step (Expr-F.Un op x.0) ∙ (λ i. s.unary op (x.1 i)))
code_expr (s.binary op a b) =
    let x = code_expr a in
    let y = code_expr b in
    (roll-Expr (Expr-F.Bin op x.0 y.0), fold-roll-Expr s.Expr expr_step (Expr-F.Bin op x.0 y.0) ∙ (λ i. s.binary op (x.1 i) (y.1 i)))

code_operand : (o : s.Operand) → IsMaskedOperand o → (x : Operand) × (operand_of x ≡ o)
code_operand (s.pure e) is = let x = code_expr e in (operand.Pure x.0, λ i. s.pure (x.1 i))
code_operand (s.move v) is = (operand.Move (record { 0 = v }), refl)
code_operand (s.pack x states) is = let m = code_states states is in (operand.Pack (record { 0 = x }) m.0, λ i. s.pack x (m.1 i))

code_operands : (os : List s.Operand) → All IsMaskedOperand os → (xs : List Operand) × (map operand_of xs ≡ os)
code_operands = listed IsMaskedOperand operand_of code_operand

-- ---- statements

form_rolled : (y : Form-F Form Arm Block Stmt) → form_of (roll-Form y) ≡ form_step (map-Form Form Arm Block Stmt s.Form ArmView s.Block StmtView form_of arm_of block_of stmt_of y)
form_rolled = fold-roll-Form s.Form ArmView s.Block StmtView form_step arm_step block_step stmt_step

code_simple : (f : s.Simple) → IsMaskedSimple f → (x : Form) × (form_of x ≡ s.simple f)
code_simple (s.set v e) is =
    let x = code_expr e in
    let y = Form-F.Set (record { 0 = v }) x.0 in
    (roll-Form y, form_rolled y ∙ (λ i. s.simple (s.set v (x.1 i))))
code_simple (s.input v more) is = let y = Form-F.Input (record { 0 = v }) more in (roll-Form y, form_rolled y)
code_simple (s.print e) is =
    let x = code_expr e in
    let y = Form-F.Print x.0 in
    (roll-Form y, form_rolled y ∙ (λ i. s.simple (s.print (x.1 i))))
code_simple (s.put x n e) is =
    let z = code_expr e in
    let y = Form-F.Put (record { 0 = x }) n z.0 in
    (roll-Form y, form_rolled y ∙ (λ i. s.simple (s.put x n (z.1 i))))
code_simple (s.make x os) is =
    let zs = code_operands os is in
    let y = Form-F.New (record { 0 = x }) zs.0 in
    (roll-Form y, form_rolled y ∙ (λ i. s.simple (s.make x (zs.1 i))))
code_simple (s.become x state) is = let y = Form-F.Become (record { 0 = x }) state in (roll-Form y, form_rolled y)
code_simple (s.release x) is = let y = Form-F.Release (record { 0 = x }) in (roll-Form y, form_rolled y)
code_simple (s.drop v) is = let y = Form-F.Drop (record { 0 = v }) in (roll-Form y, form_rolled y)
code_simple (s.own v o) is =
    let z = code_operand o is in
    let y = Form-F.Own (record { 0 = v }) z.0 in
    (roll-Form y, form_rolled y ∙ (λ i. s.simple (s.own v (z.1 i))))
code_simple (s.unpack x v) is = let y = Form-F.Unpack (record { 0 = x }) (record { 0 = v }) in (roll-Form y, form_rolled y)
code_simple (s.build v case os) is =
    let zs = code_operands os is in
    let y = Form-F.Build (record { 0 = v }) case zs.0 in
    (roll-Form y, form_rolled y ∙ (λ i. s.simple (s.build v case (zs.1 i))))
code_simple (s.swap x n v) is = let y = Form-F.Swap (record { 0 = x }) n (record { 0 = v }) in (roll-Form y, form_rolled y)
code_simple (s.open_into x vs) is =
    let zs = code_vars vs in
    let y = Form-F.Open (record { 0 = x }) zs.0 in
    (roll-Form y, form_rolled y ∙ (λ i. s.simple (s.open_into x (zs.1 i))))
code_simple (s.adopt y x r) is = let z = Form-F.Adopt (record { 0 = y }) (record { 0 = x }) (record { 0 = r }) in (roll-Form z, form_rolled z)

mutual
  code_form : (f : s.Form) → IsMasked f → (x : Form) × (form_of x ≡ f)
  code_form (s.simple f) is = code_simple f is
  code_form (s.call g target keys os) is =
      let t = code_target target in
      let ks = code_keys keys in
      let zs = code_operands os is in
      let y = Form-F.Call (record { 0 = g }) t.0 ks.0 zs.0 in
      (roll-Form y, form_rolled y ∙ (λ i. s.call g (t.1 i) (ks.1 i) (zs.1 i)))
  code_form (s.choose e a b) is =
      let x = code_expr e in
      let c = code_block a is.0 in
      let d = code_block b is.1 in
      let y = Form-F.If x.0 c.0 d.0 in
      (roll-Form y, form_rolled y ∙ (λ i. s.choose (x.1 i) (c.1 i) (d.1 i)))
  code_form (s.loop e b) is =
      let x = code_expr e in
      let d = code_block b is in
      let y = Form-F.While x.0 d.0 in
      (roll-Form y, form_rolled y ∙ (λ i. s.loop (x.1 i) (d.1 i)))
  code_form (s.switch v arms end) is =
      let xs = code_arms arms is in
      let y = Form-F.Switch (record { 0 = v }) xs.0 end in
      (roll-Form y, form_rolled y ∙ (λ i. s.switch v (xs.1 i) end))
  code_form (s.focus y z b) is =
      let d = code_block b is in
      let x = Form-F.Focus (record { 0 = y }) (record { 0 = z }) d.0 in
      (roll-Form x, form_rolled x ∙ (λ i. s.focus y z (d.1 i)))
  code_form (s.scope b) is =
      let d = code_block b is in
      let y = Form-F.Scope d.0 in
      (roll-Form y, form_rolled y ∙ (λ i. s.scope (d.1 i)))
  code_form (s.return o) is =
      let x = maybe IsMaskedOperand operand_of code_operand o is in
      let y = Form-F.Return x.0 in
      (roll-Form y, form_rolled y ∙ (λ i. s.return (x.1 i)))
  code_form (s.jump continues) is = let y = Form-F.Jump continues in (roll-Form y, form_rolled y)

  code_block : (b : s.Block) → IsMaskedBlock b → (x : Block) × (block_of x ≡ b)
  code_block (s.block ss bound end) is =
      let xs = code_stmts ss is in
      let ts = code_toks bound in
      let y : Block-F Form Arm Block Stmt = record { stmts = xs.0; bound = ts.0; end = end } in
      (roll-Block y, fold-roll-Block s.Form ArmView s.Block StmtView form_step arm_step block_step stmt_step y ∙ (λ i. s.block (xs.1 i) (ts.1 i) end))

  code_stmts : (ss : s.Stmts) → AreMasked ss → (xs : List Stmt) × (stmts_of xs ≡ ss)
  code_stmts s.done is = ([], refl)
  code_stmts (s.next at f rest) is =
      let x = code_form f is.0 in
      let xs = code_stmts rest is.1 in
      let y : Stmt-F Form Arm Block Stmt = record { at = at; form = x.0 } in
      let one : stmt_of (roll-Stmt y) ≡ (at, f) = fold-roll-Stmt s.Form ArmView s.Block StmtView form_step arm_step block_step stmt_step y ∙ (λ i. (at, x.1 i)) in
      (roll-Stmt y ∷ xs.0, λ i. s.next (one i).0 (one i).1 (xs.1 i))

  code_arms : (arms : s.Arms) → AreMaskedArms arms → (xs : List Arm) × (arms_of xs ≡ arms)
  code_arms s.no_arms is = ([], refl)
  code_arms (s.arm c vs b rest) is =
      let ws = code_vars vs in
      let d = code_block b is.0 in
      let xs = code_arms rest is.1 in
      let y : Arm-F Form Arm Block Stmt = record { case = c; vars = ws.0; body = d.0 } in
      let one : arm_of (roll-Arm y) ≡ (c, vs, b) = fold-roll-Arm s.Form ArmView s.Block StmtView form_step arm_step block_step stmt_step y ∙ (λ i. (c, ws.1 i, d.1 i)) in
      (roll-Arm y ∷ xs.0, λ i. s.arm (one i).0 (one i).1 (one i).2 (xs.1 i))

-- ---- functions and programs

code_func : (f : s.Func) → IsMaskedFunc f → (x : Func) × (func_of x ≡ f)
code_func f is =
    let result = maybe IsMaskedTy ty_of code_ty f.result is.result in
    let clause = listed IsMaskedEntry entry_of code_entry f.clause is.clause in
    let keys = each key_of code_key f.keys in
    let vars = listed (λ (d : s.VarDecl). IsMaskedTy d.ty) var_of code_var f.vars is.vars in
    let body = code_stmts f.body is.body in (
      record {
        name = f.name;
        external = f.external;
        result = result.0;
        params = f.params;
        clause = clause.0;
        keys = keys.0;
        vars = vars.0;
        body = body.0;
        end = f.end;
      },
      λ i. record {
        name = f.name;
        external = f.external;
        result = result.1 i;
        params = f.params;
        clause = clause.1 i;
        keys = keys.1 i;
        vars = vars.1 i;
        body = body.1 i;
        end = f.end;
      },
    )

pub code_program : (p : s.Program) → IsMaskedProgram p → (c : Program) × (program_of c ≡ p)
code_program p is =
    let sets = each set_of code_set p.sets in
    let types = listed IsMaskedType type_of code_type p.types is.types in
    let fns = listed IsMaskedFunc func_of code_func p.fns is.fns in (
      record { sets = sets.0; types = types.0; fns = fns.0; main = record { 0 = p.main } },
      λ i. record { sets = sets.1 i; types = types.1 i; fns = fns.1 i; main = p.main },
    )
