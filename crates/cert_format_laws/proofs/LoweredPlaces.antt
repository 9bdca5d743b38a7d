-- The lowering doesn't look at places.
use Rattle.std.proofs.Common.{◌≡◌, refl, ap, ◌∙◌, ℕ, zero, suc, ◌+◌, Bool, true, false, not, List, [], ◌∷◌, ◌++◌, map, filter, length, take, Option, Some, None, slice_get, option_map, if◌then◌else◌}
use Rattle.std.specs.List.{flat_map, enumerate_from}
use Rattle.std.proofs.lemmas.Option.{slice_get-map}
use Rattle.vlt_core.specs.Core as core
use Rattle.vlt_core.specs.Core.{Func, Program, Operand, FieldDecl}
use Rattle.c_syntax.specs.C as c
use Rattle.c_syntax.specs.View.{stmts_made}
use Rattle.c_syntax.specs.declared.program.CVar.{CVar}
use Rattle.c_syntax.specs.declared.program.CName.{CName}
use Rattle.vlt_core.specs.Lookups.{fields_of}
use Rattle.c_syntax.specs.declared.program.CPrim.TheVariants as prim
use Rattle.c_lower.specs.Slots.{Numbers, first_temps, first_numbers, past_all, past, vars_at, cells_at, field_sorts, sorts_of_field, sorts_at, field_cells, cell_counts, slot_of, slot_vars, var_slots, object_type, touched_cells, cell_sorts, of_number, of_reference, var_at}
use Rattle.c_lower.specs.Guards.{whole, unary_guards, unequal, equal}
use Rattle.c_lower.specs.Statements.{StmtCode, stmt_code, in_turn, most_of_both, body_of, runtime_call, runtime_value, count_arg, puts, field_puts, owner_atoms_in, owner_atoms, swap_slots, open_slots, owning_positions, open_fields, case_positions, variant_type, after_first, build_slots, arm_copies, is_alike, is_external_at, name_of, simple_code, call_stmts, call_code, return_stmts, return_code, form_code, block_code, list_code, arms_code}
use Rattle.c_lower.specs.Expressions.{Atom, Code, Codes, variable, atom_arg, first_atom, value_of, copies, reads, into_temp, binary_code, expr_code, operand_code, operand_codes}
use Rattle.c_lower.specs.Glue.{glue_code}
use Rattle.c_lower.specs.Lowering.{func_with, with_body, externals, lowered}
use Rattle.cert_format.specs.Places.{unplaced_form, unplaced_block, unplaced_stmts, unplaced_arms, unplaced_func, unplaced_program}

taken : (n : ℕ) (fs : List Func) → take n (map unplaced_func fs) ≡ map unplaced_func (take n fs)
taken zero fs = refl
taken (suc n) [] = refl
taken (suc n) (f ∷ fs) = ap (λ gs. unplaced_func f ∷ gs) (taken n fs)

one_more : (f : Func) (b : Bool) (gs fs : List Func) → gs ≡ map unplaced_func fs →
    (if b then unplaced_func f ∷ gs else gs) ≡ map unplaced_func (if b then f ∷ fs else fs)
one_more f true gs fs rest = ap (λ hs. unplaced_func f ∷ hs) rest
one_more f false gs fs rest = rest

-- what a test of functions leaves, if it doesn't see their places
picked : (test : Func → Bool) → ((f : Func) → test (unplaced_func f) ≡ test f) → (fs : List Func) →
    filter test (map unplaced_func fs) ≡ map unplaced_func (filter test fs)
picked test blind [] = refl
picked test blind (f ∷ fs) =
    ap (λ b. if b then unplaced_func f ∷ filter test (map unplaced_func fs) else filter test (map unplaced_func fs)) (blind f)
    ∙ one_more f (test f) (filter test (map unplaced_func fs)) (filter test fs) (picked test blind fs)

lengths : (fs : List Func) → length (map unplaced_func fs) ≡ length fs
lengths [] = refl
lengths (f ∷ fs) = ap suc (lengths fs)

external : (o : Option Func) → is_external_at (option_map unplaced_func o) ≡ is_external_at o
external None = refl
external (Some f) = refl

abbrev named : Bool → ℕ → CName
named glue n = record { glue = glue; number = n }

abbrev count_alike : Bool → List Func → ℕ
count_alike glue fs = length (filter (λ f. is_alike glue f.external) fs)

counted : (glue : Bool) (g : ℕ) (fs : List Func) → count_alike glue (take g (map unplaced_func fs)) ≡ count_alike glue (take g fs)
counted glue g fs =
    ap (count_alike glue) (taken g fs)
    ∙ ap length (picked (λ f. is_alike glue f.external) (λ f. refl) (take g fs))
    ∙ lengths (filter (λ f. is_alike glue f.external) (take g fs))

pub names : (p : Program) (g : ℕ) → name_of (unplaced_program p) g ≡ name_of p g
names p g =
    ap (λ b. named b (count_alike b (take g (map unplaced_func p.fns))))
    (ap is_external_at (slice_get-map unplaced_func p.fns g) ∙ external (slice_get p.fns g))
    ∙ ap (named (is_external_at (slice_get p.fns g))) (counted (is_external_at (slice_get p.fns g)) g p.fns)

module _ (p : Program) (f : Func) where
  -- the sorts of a field's slots
  sorted : (d : Option FieldDecl) → sorts_of_field (unplaced_program p) d ≡ sorts_of_field p d
  sorted None = refl
  sorted (Some d) = refl

  field_sorts_at : (type i : ℕ) → sorts_at (unplaced_program p) type i ≡ sorts_at p type i
  field_sorts_at type i = sorted (slice_get (fields_of p type) i)

  cells : (type i b : ℕ) → field_cells (unplaced_program p) type i b ≡ field_cells p type i b
  cells type i b = ap (cells_at b (past_all first_numbers (field_sorts p (take i (fields_of p type))))) (field_sorts_at type i)

  touched : (x i : ℕ) → touched_cells (unplaced_program p) (unplaced_func f) x i ≡ touched_cells p f x i
  touched x i = cells (object_type f x) i (slot_of p f x).number

  exprs : (t : Numbers) (e : core.Expr) → expr_code (unplaced_program p) (unplaced_func f) t e ≡ expr_code p f t e
  exprs t (core.number z) = refl
  exprs t (core.truth b) = refl
  exprs t (core.var v) = refl
  exprs t (core.field x i) =
      ap (λ ss. record {
        stmts = reads (vars_at t ss) (touched_cells (unplaced_program p) (unplaced_func f) x i);
        atoms =
            map variable (vars_at t ss);
        next = past_all t ss;
      }) (field_sorts_at (object_type f x) i)
      ∙ ap (λ cs. record {
        stmts = reads (vars_at t (cell_sorts p f x i)) cs;
        atoms =
            map variable (vars_at t (cell_sorts p f x i));
        next = past_all t (cell_sorts p f x i);
      }) (touched x i)
  exprs t (core.unary o e) = ap (λ code. into_temp (code.stmts ++ unary_guards o (value_of code)) code.next (c.unary o (value_of code))) (exprs t e)
  exprs t (core.binary o a b) =
      ap (λ l. binary_code o l (λ t. expr_code (unplaced_program p) (unplaced_func f) t b)) (exprs t a)
      ∙ ap (binary_code o (expr_code p f t a)) (λ i t. exprs t b i)

  operand : (t : Numbers) (o : Operand) → operand_code (unplaced_program p) (unplaced_func f) t o ≡ operand_code p f t o
  operand t (core.pure e) = exprs t e
  operand t (core.move v) = refl
  operand t (core.pack x states) = refl

  abbrev codes_with : Code → Codes → Codes
  codes_with first rest = record { stmts = first.stmts ++ rest.stmts; atoms = first.atoms ∷ rest.atoms; next = rest.next }

  operands : (t : Numbers) (os : List Operand) → operand_codes (unplaced_program p) (unplaced_func f) t os ≡ operand_codes p f t os
  operands t [] = refl
  operands t (o ∷ os) =
      ap (λ first. codes_with first (operand_codes (unplaced_program p) (unplaced_func f) first.next os)) (operand t o)
      ∙ ap (codes_with (operand_code p f t o)) (operands (operand_code p f t o).next os)

  putting : (type b i : ℕ) (atoms : List (List Atom)) → field_puts (unplaced_program p) type b i atoms ≡ field_puts p type b i atoms
  putting type b i [] = refl
  putting type b i (xs ∷ rest) =
      ap (λ cs. puts cs xs ++ field_puts (unplaced_program p) type b (suc i) rest) (cells type i b)
      ∙ ap (λ ss. puts (field_cells p type i b) xs ++ ss) (putting type b (suc i) rest)

  owning_atoms : (type i : ℕ) (atoms : List (List Atom)) → owner_atoms (unplaced_program p) type i atoms ≡ owner_atoms p type i atoms
  owning_atoms type i [] = refl
  owning_atoms type i (xs ∷ rest) =
      ap (λ ss. owner_atoms_in ss xs ++ owner_atoms (unplaced_program p) type (suc i) rest) (field_sorts_at type i)
      ∙ ap (λ ys. owner_atoms_in (sorts_at p type i) xs ++ ys) (owning_atoms type (suc i) rest)

  opening : (x : ℕ) (is vs : List ℕ) → open_fields (unplaced_program p) (unplaced_func f) x is vs ≡ open_fields p f x is vs
  opening x [] vs = refl
  opening x (i ∷ is) [] = refl
  opening x (i ∷ is) (v ∷ vs) =
      ap (λ cs. open_slots cs (var_slots p f v) ++ open_fields (unplaced_program p) (unplaced_func f) x is vs) (touched x i)
      ∙ ap (λ ss. open_slots (touched_cells p f x i) (var_slots p f v) ++ ss) (opening x is vs)

  simples : (t : Numbers) (s : core.Simple) → simple_code (unplaced_program p) (unplaced_func f) t s ≡ simple_code p f t s
  simples t (core.set v e) = ap (λ x. stmt_code (x.stmts ++ copies (slot_vars p f v) x.atoms) x.next) (exprs t e)
  simples t (core.input v more) = refl
  simples t (core.print e) = ap (λ x. stmt_code (x.stmts ++ runtime_call prim.Print (atom_arg (first_atom x.atoms) ∷ []) ∷ []) x.next) (exprs t e)
  simples t (core.put x i e) =
      ap (λ y. stmt_code (y.stmts ++ puts (touched_cells (unplaced_program p) (unplaced_func f) x i) y.atoms) y.next) (exprs t e)
      ∙ ap (λ cs. let y = expr_code p f t e in stmt_code (y.stmts ++ puts cs y.atoms) y.next) (touched x i)
  simples t (core.make x os) =
      ap (λ args. made args (field_puts (unplaced_program p) type block.number 0 args.atoms)
      (owner_atoms (unplaced_program p) type 0 args.atoms)) (operands t os)
      ∙ ap (λ ps. made all ps (owner_atoms (unplaced_program p) type 0 all.atoms)) (putting type block.number 0 all.atoms)
      ∙ ap (made all (field_puts p type block.number 0 all.atoms)) (owning_atoms type 0 all.atoms)
    where
      block : CVar
      block = slot_of p f x

      type : ℕ
      type = object_type f x

      all : Codes
      all = operand_codes p f t os

      made : Codes → List c.Stmt → List Atom → StmtCode
      made args ps owners =
          stmt_code
          (args.stmts ++ runtime_value block prim.New (count_arg (cell_counts p type).n ∷ count_arg (cell_counts p type).p ∷ [])
          ∷ ps ++ map (λ a. runtime_call prim.Own (atom_arg a ∷ c.variable block ∷ [])) owners)
          args.next
  simples t (core.become x state) = refl
  simples t (core.release x) = refl
  simples t (core.drop v) = refl
  simples t (core.own v o) = ap (λ x. stmt_code (x.stmts ++ copies (slot_vars p f v) x.atoms) x.next) (operand t o)
  simples t (core.unpack x v) = refl
  simples t (core.build v k os) =
      ap (λ args. stmt_code
      (args.stmts ++ c.set (slot_of p f v) (whole k)
      ∷ build_slots 1 (case_positions p (variant_type f v) k) (map first_atom args.atoms) (after_first (var_slots p f v)))
      args.next) (operands t os)
  simples t (core.swap x i v) =
      ap (λ ss. stmt_code (swap_slots (slot_of p f x) (vars_at t ss) (touched_cells (unplaced_program p) (unplaced_func f) x i)
      (var_slots p f v)) (past_all t ss)) (field_sorts_at (object_type f x) i)
      ∙ ap (λ cs. stmt_code (swap_slots (slot_of p f x) (vars_at t (cell_sorts p f x i)) cs (var_slots p f v))
      (past_all t (cell_sorts p f x i))) (touched x i)
  simples t (core.open_into x vs) =
      ap (λ ss. stmt_code (ss ++ runtime_call prim.Release (c.variable (slot_of p f x) ∷ []) ∷ []) t)
      (opening x (owning_positions (fields_of p (object_type f x))) vs)
  simples t (core.adopt y x r) = refl

  abbrev called : CName → Option ℕ → Codes → StmtCode
  called name target args = stmt_code (args.stmts ++ call_stmts p f (c.function name (flat_map (map atom_arg) args.atoms)) target) args.next

  calls : (t : Numbers) (g : ℕ) (target : Option ℕ) (os : List Operand) →
      call_code (unplaced_program p) (unplaced_func f) t g target os ≡ call_code p f t g target os
  calls t g target os = ap (called (name_of (unplaced_program p) g) target) (operands t os) ∙
      ap (λ n. called n target (operand_codes p f t os)) (names p g)

  returns : (t : Numbers) (o : Option Operand) → return_code (unplaced_program p) (unplaced_func f) t o ≡ return_code p f t o
  returns t None = refl
  returns t (Some o) = ap (λ x. stmt_code (x.stmts ++ return_stmts f.result x.atoms) x.next) (operand t o)

  abbrev chosen : Code → StmtCode → StmtCode → StmtCode
  chosen x then_code else_code =
      stmt_code (x.stmts ++ c.choose (unequal (value_of x) (whole 0)) (body_of then_code) (body_of else_code) ∷ [])
      (most_of_both x.next (most_of_both then_code.most else_code.most))

  abbrev looped : Code → StmtCode → StmtCode
  looped x body =
      stmt_code
      (c.loop (stmts_made
      (x.stmts ++ c.when (equal (value_of x) (whole 0)) (c.next c.break c.done) ∷ body.stmts)) ∷ [])
      (most_of_both x.next body.most)

  abbrev switched : Numbers → (v : ℕ) → StmtCode → StmtCode
  switched t v rest = stmt_code (c.set (var_at t of_number) (c.variable (slot_of p f v)) ∷ rest.stmts) rest.most

  abbrev focused : Numbers → (y z : ℕ) → StmtCode → StmtCode
  focused t y z body =
      let object = var_at t of_reference in
      let adopter = var_at (past t of_reference) of_reference in
      stmt_code
      (c.set object (c.variable (slot_of p f y)) ∷ runtime_value adopter prim.Parent (c.variable object ∷ [])
      ∷ runtime_call prim.Disown (c.variable object ∷ []) ∷ c.set (slot_of p f z) (c.variable object)
      ∷ body.stmts ++ runtime_call prim.Own (c.variable object ∷ c.variable adopter ∷ []) ∷ [])
      body.most

  abbrev armed : (v : ℕ) → (case : CVar) → (k : ℕ) → (vs : List ℕ) → StmtCode → StmtCode → StmtCode
  armed v case k vs body rest =
      in_turn
      (stmt_code
      (c.when (equal (c.variable case) (whole k))
      (stmts_made (arm_copies p f v (case_positions p (variant_type f v) k) vs ++ body.stmts)) ∷ [])
      body.most)
      rest

  mutual
    pub codes : (t : Numbers) (s : core.Form) → form_code (unplaced_program p) (unplaced_func f) t (unplaced_form s) ≡ form_code p f t s
    codes t (core.simple s) = simples t s
    codes t (core.call g target keys os) = calls t g target os
    codes t (core.choose e a b) =
        ap (λ x. chosen x (block_code (unplaced_program p) (unplaced_func f) t (unplaced_block a))
        (block_code (unplaced_program p) (unplaced_func f) t (unplaced_block b))) (exprs t e)
        ∙ ap (λ x. chosen (expr_code p f t e) x (block_code (unplaced_program p) (unplaced_func f) t (unplaced_block b))) (block_codes t a)
        ∙ ap (chosen (expr_code p f t e) (block_code p f t a)) (block_codes t b)
    codes t (core.loop e b) =
        ap (λ x. looped x (block_code (unplaced_program p) (unplaced_func f) t (unplaced_block b))) (exprs t e)
        ∙ ap (looped (expr_code p f t e)) (block_codes t b)
    codes t (core.switch v arms end) = ap (switched t v) (arms_codes (past t of_number) v (var_at t of_number) arms)
    codes t (core.focus y z b) = ap (focused t y z) (block_codes (past (past t of_reference) of_reference) b)
    codes t (core.scope b) = block_codes t b
    codes t (core.return value) = returns t value
    codes t (core.jump continues) = refl

    pub block_codes : (t : Numbers) (b : core.Block) → block_code (unplaced_program p) (unplaced_func f) t (unplaced_block b) ≡ block_code p f t b
    block_codes t (core.block ss bound end) = list_codes t ss

    pub list_codes : (t : Numbers) (ss : core.Stmts) → list_code (unplaced_program p) (unplaced_func f) t (unplaced_stmts ss) ≡ list_code p f t ss
    list_codes t core.done = refl
    list_codes t (core.next at s rest) =
        ap (λ x. in_turn x (list_code (unplaced_program p) (unplaced_func f) t (unplaced_stmts rest))) (codes t s)
        ∙ ap (in_turn (form_code p f t s)) (list_codes t rest)

    pub arms_codes : (t : Numbers) (v : ℕ) (case : CVar) (arms : core.Arms) →
        arms_code (unplaced_program p) (unplaced_func f) t v case (unplaced_arms arms) ≡ arms_code p f t v case arms
    arms_codes t v case core.no_arms = refl
    arms_codes t v case (core.arm k vs b rest) =
        ap (λ x. armed v case k vs x (arms_code (unplaced_program p) (unplaced_func f) t v case (unplaced_arms rest))) (block_codes t b)
        ∙ ap (armed v case k vs (block_code p f t b)) (arms_codes t v case rest)

-- ---- programs

abbrev glue_func : Program → ℕ × Func → c.Func
glue_func p q = func_with p q.0 q.1 (glue_code p q.1)

abbrev body_func : Program → ℕ × Func → c.Func
body_func p q = func_with p q.0 q.1 (list_code p q.1 (first_temps p q.1) q.1.body)

all_glue : (p : Program) (n : ℕ) (fs : List Func) → map (glue_func (unplaced_program p))
    (enumerate_from n (map unplaced_func fs)) ≡ map (glue_func p) (enumerate_from n fs)
all_glue p n [] = refl
all_glue p n (f ∷ fs) = ap (λ gs. glue_func p (n, f) ∷ gs) (all_glue p (n + 1) fs)

all_bodies : (p : Program) (n : ℕ) (fs : List Func) →
    map (body_func (unplaced_program p)) (enumerate_from n (map unplaced_func fs)) ≡ map (body_func p) (enumerate_from n fs)
all_bodies p n [] = refl
all_bodies p n (f ∷ fs) =
    ap (λ code. func_with p n f code ∷ map (body_func (unplaced_program p)) (enumerate_from (n + 1) (map unplaced_func fs)))
    (list_codes p f (first_temps p f) f.body)
    ∙ ap (λ gs. body_func p (n, f) ∷ gs) (all_bodies p (n + 1) fs)

abbrev a_program : List c.Func → List c.Func → ℕ → c.Program
a_program glue fns main = record { glue = glue; fns = fns; main = main }

pub lowerings : (p : Program) → lowered (unplaced_program p) ≡ lowered p
lowerings p =
    ap (λ fs. a_program (map (glue_func (unplaced_program p)) (enumerate_from 0 fs)) (lowered (unplaced_program p)).fns
    (lowered (unplaced_program p)).main) (picked (λ f. f.external) (λ f. refl) p.fns)
    ∙ ap (λ gs. a_program gs (lowered (unplaced_program p)).fns (lowered (unplaced_program p)).main) (all_glue p 0 (externals p))
    ∙ ap (λ fs. a_program (lowered p).glue (map (body_func (unplaced_program p)) (enumerate_from 0 fs))
    (lowered (unplaced_program p)).main) (picked (λ f. not f.external) (λ f. refl) p.fns)
    ∙ ap (λ gs. a_program (lowered p).glue gs (lowered (unplaced_program p)).main) (all_bodies p 0 (with_body p))
    ∙ ap (λ n. a_program (lowered p).glue (lowered p).fns n.number) (names p p.main)
