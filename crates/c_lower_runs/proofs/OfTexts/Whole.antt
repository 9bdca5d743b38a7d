-- The C program of a program is a C program.
use Rattle.std.proofs.Common.{◌≡◌, ◌≤◌, ◌<◌, ◌-◌, ℕ, suc, ◌+◌, Bool, true, false, not, if◌then◌else◌, List, [], ◌∷◌, map, take, length, sym, ◌∙◌, subst, arith}
use Rattle.std.proofs.lemmas.List.{length-map}
use Rattle.std.specs.List.{range_with_len}
use Rattle.vlt_base.specs.Limits.{limit_of}
use Rattle.vlt_core.specs.Core.{Func, Program}
use Rattle.vlt_core_laws.proofs.Proper.{proper_arities}
use Rattle.c_syntax.specs.declared.program.CVar.{CVar}
use Rattle.c_syntax.specs.C as c
use Rattle.c_syntax.specs.Unit.{Body}
use Rattle.c_syntax.specs.View.{stmts_made}
use Rattle.c_syntax.specs.Text.{max_number}
use Rattle.c_syntax.specs.Spelling.{spelling}
use Rattle.c_syntax.specs.Canonical.{declaration_of, body_of, unit_of, main_number, AreReadable}
use Rattle.c_syntax.specs.Kinds as kinds
use Rattle.c_lower.specs.Slots.{Numbers, Sort, first_numbers, past_all, vars_at, var_sorts, param_slots, first_temps}
use Rattle.c_lower.specs.Statements.{StmtCode, most_of_both, list_code}
use Rattle.c_lower.specs.Glue.{glue_code}
use Rattle.c_lower.specs.Lowering.{vars_between, func_with, with_body, externals, lowered}
use Rattle.c_lower_worlds.specs.Naming.Lists.{Each}
use Rattle.c_lower_worlds.specs.Frames.{IsBetween}
use Rattle.c_lower_worlds.proofs.VariableSlots.{each_map, slots_between}
use Rattle.c_lower_runs.specs.Lowerable.{IsLowerable}
use Rattle.c_lower_runs.specs.Texts.Printable.{IsPrintable}
use Rattle.c_lower_runs.specs.Texts.Laws.{AreCPrograms}
use Rattle.c_lower_runs.proofs.OfTexts.Sorting.{variables_sorted}
use Rattle.c_lower_runs.proofs.OfTexts.Mains.{main_is, main_at, main_there}
use Rattle.c_lower_runs.proofs.OfTexts.Within.{programs_within}
use Rattle.c_lower_runs.proofs.OfTexts.Ruled.{AreRuled}
use Rattle.c_lower_runs.proofs.OfTexts.SmallNumbers.{names_small}
use Rattle.c_lower_runs.proofs.OfTexts.KindsKept.{place_of, body_ruled, external_ruled}
use Rattle.c_lower_runs.proofs.OfTexts.UnitKinds.{bodies_have_heads, kinds_kept}
use Rattle.c_lower_runs.proofs.OfTexts.TextSizes.{Declares, vars_long, between_long, variables_small, text_small, functions_small}
use Rattle.c_lower_runs.proofs.OfTexts.Readable.{IsSmall, HeadReads, BodyReads, stmts_read, unit_reads}
use Rattle.c_lower_runs.proofs.OfTexts.Lists.{each_both, each_with, each_tested, each_mapped, each_numbered, each_in_range, filter_long, not_true}
use Rattle.c_lower_runs.proofs.OfTexts.SlotTypes.{numbers_long, references_long}

-- ---- declarations

each_declaration : (vs : List CVar) → Each (λ (v : CVar). v.number ≤ max_number) vs → Each IsSmall (map declaration_of vs)
each_declaration [] h = tt
each_declaration (v ∷ vs) h = (h.0, each_declaration vs h.1)

-- the variables of a function of which few are declared
module _ (p : Program) (glue : Bool) (number : ℕ) (f : Func) (code : StmtCode) (few : Declares (limit_of 2) (body_of glue (func_with p number f code))) where
  ss : List Sort
  ss = var_sorts p (take f.params f.vars)

  a : Numbers
  a = past_all first_numbers ss

  b : Numbers
  b = most_of_both (first_temps p f) code.most

  params_few : length (map declaration_of (vars_at first_numbers ss)) ≡ length ss
  params_few = length-map (vars_at first_numbers ss) declaration_of ∙ vars_long first_numbers ss

  vars_few : length (map declaration_of (vars_between a b)) ≡ (b.n - a.n) + (b.p - a.p)
  vars_few = length-map (vars_between a b) declaration_of ∙ between_long a b

  declares : length ss + ((b.n - a.n) + (b.p - a.p)) ≤ limit_of 2
  unfolding ss a b
  declares = subst (λ n. n + ((b.n - a.n) + (b.p - a.p)) ≤ limit_of 2) params_few (subst (λ n. length (map declaration_of (vars_at first_numbers ss)) + n ≤ limit_of 2) vars_few few)

  params_small : Each IsSmall (map declaration_of (param_slots p f))
  unfolding ss a b
  params_small = each_declaration (param_slots p f) (each_map (IsBetween first_numbers a) (λ (v : CVar). v.number ≤ max_number) (param_slots p f) (λ v h. small v.reference v.number h.below) (slots_between first_numbers ss))
    where
      small : (r : Bool) (k : ℕ) → k < (if r then a.p else a.n) → k ≤ max_number
      small true k l = let x = references_long first_numbers ss in let d = declares in omega (arith, l, x, d)
      small false k l = let x = numbers_long first_numbers ss in let d = declares in omega (arith, l, x, d)

  vars_small : Each IsSmall (map declaration_of (vars_between a b))
  unfolding ss a b
  vars_small = each_declaration (vars_between a b)
      (each_both (λ (v : CVar). v.number ≤ max_number) (map (λ i. record { reference = false; number = i }) (range_with_len a.n (b.n - a.n))) (map (λ i. record { reference = true; number = i }) (range_with_len a.p (b.p - a.p)))
      (each_mapped (λ (v : CVar). v.number ≤ max_number) (λ k. k < suc max_number) (λ i. record { reference = false; number = i }) (range_with_len a.n (b.n - a.n)) (λ k h. omega (arith, h))
      (each_in_range (b.n - a.n) a.n (suc max_number) (let x = numbers_long first_numbers ss in let d = declares in omega (arith, x, d))))
      (each_mapped (λ (v : CVar). v.number ≤ max_number) (λ k. k < suc max_number) (λ i. record { reference = true; number = i }) (range_with_len a.p (b.p - a.p)) (λ k h. omega (arith, h))
      (each_in_range (b.p - a.p) a.p (suc max_number) (let x = references_long first_numbers ss in let d = declares in omega (arith, x, d)))))

  func_reads : number ≤ max_number → AreRuled (place_of p glue number f code) false (stmts_made code.stmts) → BodyReads (body_of glue (func_with p number f code))
  unfolding ss a b place_of
  func_reads small ruled = record {
    head = record { name = small; params = params_small };
    vars = vars_small;
    stmts = λ rest r. stmts_read (place_of p glue number f code) (variables_small p glue number f code (limit_of 2) (omega arith) few) false (stmts_made code.stmts) rest ruled r;
  }

each_head : (bs : List Body) → Each BodyReads bs → Each HeadReads (kinds.heads_of bs)
each_head [] h = tt
each_head (b ∷ bs) h = (h.0.head, each_head bs h.1)

-- ---- the whole

module _ (p : Program) (low : IsLowerable p) (print : IsPrintable p) where
  abbrev Reads : Body → Type 0
  Reads b = Declares (limit_of 2) b → BodyReads b

  few_functions : (k : ℕ) → k < length p.fns → k ≤ max_number
  few_functions k l = let n = functions_small p print in omega (arith, l, n)

  glue_read : Each Reads (map (body_of true) (lowered p).glue)
  glue_read =
      each_mapped Reads (λ (f : c.Func). Reads (body_of true f)) (body_of true) (lowered p).glue (λ f h. h)
      (each_numbered (λ (f : c.Func). Reads (body_of true f)) (λ k f. func_with p k f (glue_code p f)) (length p.fns) 0 (externals p) (let n = filter_long (λ (f : Func). f.external) p.fns in omega (arith, n))
      (each_tested (λ f. (k : ℕ) → k < length p.fns → Reads (body_of true (func_with p k f (glue_code p f)))) (λ f. f.external) p.fns
      (λ g f at e k l few. func_reads p true k f (glue_code p f) few (few_functions k l) (external_ruled p low print k g f at e))))

  fns_read : Each Reads (map (body_of false) (lowered p).fns)
  fns_read =
      each_mapped Reads (λ (f : c.Func). Reads (body_of false f)) (body_of false) (lowered p).fns (λ f h. h)
      (each_numbered (λ (f : c.Func). Reads (body_of false f)) (λ k f. func_with p k f (list_code p f (first_temps p f) f.body)) (length p.fns) 0 (with_body p)
      (let n = filter_long (λ (f : Func). not f.external) p.fns in omega (arith, n))
      (each_tested (λ f. (k : ℕ) → k < length p.fns → Reads (body_of false (func_with p k f (list_code p f (first_temps p f) f.body)))) (λ f. not f.external) p.fns
      (λ g f at e k l few. func_reads p false k f (list_code p f (first_temps p f) f.body) few (few_functions k l) (body_ruled p low print k g f at (not_true f.external e)))))

  bodies_read : Each BodyReads (unit_of (lowered p)).bodies
  bodies_read =
      each_with (Declares (limit_of 2)) BodyReads (unit_of (lowered p)).bodies (text_small p print)
      (each_both Reads (map (body_of true) (lowered p).glue) (map (body_of false) (lowered p).fns) glue_read fns_read)

  main_small : (unit_of (lowered p)).main ≤ max_number
  main_small = let h = main_is p low.kinded in subst (λ o. main_number o ≤ max_number) (sym (main_at p h)) (names_small p print p.main)

  all_readable : AreReadable (spelling (unit_of (lowered p)))
  all_readable = unit_reads (unit_of (lowered p)) main_small (subst (Each HeadReads) (bodies_have_heads p) (each_head (unit_of (lowered p)).bodies bodies_read)) bodies_read

pub c_programs : AreCPrograms
c_programs p low print = record {
  main = main_there p low.kinded;
  within = programs_within p (proper_arities p low.operators) print.shallow;
  kinds = kinds_kept p low print;
  readable = all_readable p low print;
  glue_sorted = (variables_sorted p).0;
  fns_sorted = (variables_sorted p).1;
}
