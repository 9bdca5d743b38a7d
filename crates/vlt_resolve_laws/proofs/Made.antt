-- Each function of an elaborated program is made of its head.
use Rattle.std.proofs.Common.{◌≡◌, ℕ, zero, suc, ◌≤◌, nat_lt, false, true≢false, if◌then◌else◌, List, [], ◌∷◌, ◌++◌, length, Option, Some, None, slice_get, Result, Ok, Err, refl, sym, ap, ◌∙◌, subst}
use Rattle.std.proofs.lemmas.Bool.{ltb-false}
use Rattle.std.proofs.lemmas.Option.{none-some, same_Some}
use Rattle.vlt_syntax.specs.Tree as s
use Rattle.vlt_syntax.specs.Tree.{Block, Head, Decl, Tree}
use Rattle.vlt_syntax.specs.Lists.{Each}
use Rattle.vlt_syntax.specs.Grammar.{IsDecl, language}
use Rattle.vlt_core.specs.Core as core
use Rattle.vlt_core.specs.Core.{Func, Program}
use Rattle.vlt_kinds_types.specs.declared.names.found.Refusal.{Refusal}
use Rattle.vlt_kinds_decls.specs.Names.{names_refused}
use Rattle.vlt_kinds_types.specs.Names.Refusals.{refuse_if, of_each, least}
use Rattle.vlt_kinds_types.specs.Files.{file_of}
use Rattle.vlt_kinds_decls.specs.Decls.{types_refused}
use Rattle.vlt_kinds_decls.specs.Made.{core_types}
use Rattle.vlt_kinds_heads.specs.Keys.{keys_of}
use Rattle.vlt_kinds_heads.specs.Heads.{head_refused}
use Rattle.vlt_kinds_heads.specs.Externals.{external_refused}
use Rattle.vlt_kinds_heads.specs.Phase.{extern_refused, heads_refused_in, heads_refused, core_heads_in}
use Rattle.vlt_kinds_types.specs.Kinds.{Kinds}
use Rattle.vlt_kinds.specs.Tables.{kinds_of, unless, heads_told, types_told, names_told}
use Rattle.vlt_resolve_laws.proofs.OfKindsLaws.Empty.{no_left, no_right, not_broken}
use Rattle.vlt_resolve_exprs.specs.declared.limits.TheConstants.{TOO_MANY_VARIABLES, TOO_MANY_KEYS}
use Rattle.vlt_elaboration.specs.Walk.{then_do, walk_stmts}
use Rattle.vlt_elaboration.specs.Elaboration as elab
use Rattle.vlt_elaboration.specs.Elaboration.{body_scope, body_around, stmts_in, end_refused, func_made, walk_body, is_function, walk_function, walk_decls, walk_tree, main_of, Refused, or_refused}
use Rattle.vlt_resolve_laws.proofs.Results.{same_ok, then_ok, unless_ok, least_none}
use Rattle.vlt_resolve_laws.specs.Made.{head_made, HasWalked, IsMade, AreMade}

-- ---- the declarations are refused nothing

pub record IsTold (ds : List Decl) (kinds : Kinds) : Type 0 where
  pub names : names_refused ds ≡ []
  pub types : types_refused (file_of ds) ds ≡ []
  pub heads : heads_refused (file_of ds) (core_types (file_of ds) ds) ds ≡ []
  pub same : kinds_of ds ≡ kinds

unless_told : {A : Type 0} (o : Option Refusal) (go : Result A Refusal) (a : A) → unless o go ≡ Ok a → (o ≡ None) × (go ≡ Ok a)
unless_told None go a e = (refl, e)
unless_told (Some r) go a e = absurd (refused r a e)
  where
    refused : {A : Type 0} (r : Refusal) (a : A) → ◌≡◌ {A = Result A Refusal} (Err r) (Ok a) → ⊥
    refused r a e = cc

pub told : (ds : List Decl) (kinds : Kinds) → names_told ds ≡ Ok kinds → IsTold ds kinds
told ds kinds e =
    let a = unless_told (least (names_refused ds)) (types_told ds) kinds e in
    let b = unless_told (least (types_refused (file_of ds) ds)) (heads_told ds) kinds a.1 in
    let c = unless_told (least (heads_refused (file_of ds) (core_types (file_of ds) ds) ds)) (Ok (kinds_of ds)) kinds b.1 in
    record {
      names = (least_none None (names_refused ds) a.0).1;
      types = (least_none None (types_refused (file_of ds) ds) b.0).1;
      heads = (least_none None (heads_refused (file_of ds) (core_types (file_of ds) ds) ds) c.0).1;
      same = same_ok (kinds_of ds) kinds c.1;
    }

-- ---- the functions

no_heads : (kinds : Kinds) (ds : List Decl) → walk_decls kinds [] ds ≡ Ok []
no_heads kinds [] = refl
no_heads kinds (d ∷ ds) = refl

skipped : (kinds : Kinds) (hs : List Func) (d : Decl) (ds : List Decl) → is_function d ≡ false → walk_decls kinds hs (d ∷ ds) ≡ walk_decls kinds hs ds
skipped kinds [] d ds e = sym (no_heads kinds ds)
skipped kinds (h ∷ hs) d ds e =
    ap (λ b. if b then then_do (walk_function kinds h d) (λ f. then_do (walk_decls kinds hs ds) (λ fs. Ok (f ∷ fs))) else walk_decls kinds (h ∷ hs) ds) e

-- a head that isn't refused has 256 variables at most
head_few : (h : Func) (at : ℕ) → elab.head_refused h at ≡ [] → length h.vars ≤ 256
unfolding elab.head_refused
head_few h at none =
    ltb-false 256 (length h.vars)
    (not_broken (nat_lt 256 (length h.vars)) TOO_MANY_VARIABLES at
    (no_right (refuse_if (nat_lt 256 (length h.keys)) TOO_MANY_KEYS at) (refuse_if (nat_lt 256 (length h.vars)) TOO_MANY_VARIABLES at) none))

-- nor more keys
head_few_keys : (h : Func) (at : ℕ) → elab.head_refused h at ≡ [] → length h.keys ≤ 256
unfolding elab.head_refused
head_few_keys h at none =
    ltb-false 256 (length h.keys)
    (not_broken (nat_lt 256 (length h.keys)) TOO_MANY_KEYS at
    (no_left (refuse_if (nat_lt 256 (length h.keys)) TOO_MANY_KEYS at) (refuse_if (nat_lt 256 (length h.vars)) TOO_MANY_VARIABLES at) none))

module _ (kinds : Kinds) where
  body_made : (h : Func) (b : Block) (f : Func) → walk_body kinds h b ≡ Ok f → HasWalked kinds h b f
  body_made h b f e =
      let y = then_ok (walk_stmts kinds (body_around h) (body_scope h) false (stmts_in b)) _ f e in
      let u = unless_ok (least (end_refused h b)) (Ok (func_made h b y.first)) f y.rest in
      record { last = y.first; walked = y.one; ended = (least_none None (end_refused h b) u.0).1; made = sym (same_ok (func_made h b y.first) f u.1) }

  all_made : (ds : List Decl) (fs : List Func) → Each (IsDecl language) ds → of_each (heads_refused_in kinds.file kinds.types) ds ≡ [] → walk_decls kinds (of_each (core_heads_in kinds.file) ds) ds ≡ Ok fs
      → AreMade kinds (of_each (core_heads_in kinds.file) ds) fs
  unfolding extern_refused
  all_made [] fs is none e = subst (AreMade kinds []) (same_ok [] fs e) tt
  all_made (s.function head b at ∷ ds) fs is none e =
      let h = head_made kinds head (Some b) in
      let hs = of_each (core_heads_in kinds.file) ds in
      let f = then_ok (walk_function kinds h (s.function head b at)) _ fs e in
      let rest = then_ok (walk_decls kinds hs ds) _ fs f.rest in
      let w = unless_ok (least (elab.head_refused h at.from)) (walk_body kinds h b) f.first f.one in
      subst (AreMade kinds (h ∷ hs)) (same_ok (f.first ∷ rest.first) fs rest.rest) (
        (head, Some b, refl, record { passed = no_left _ _ none; hosted = λ e. absurd (true≢false e); few = head_few h at.from (least_none None (elab.head_refused h at.from) w.0).1; few_keys = head_few_keys h at.from (least_none None (elab.head_refused h at.from) w.0).1; walked = (is.0.1, body_made h b f.first w.1) }),
        all_made ds rest.first is.1 (no_right (head_refused kinds.file head) _ none) rest.one,
      )
  all_made (s.extern head at ∷ ds) fs is none e =
      let h = head_made kinds head None in
      let hs = of_each (core_heads_in kinds.file) ds in
      let f = then_ok (walk_function kinds h (s.extern head at)) _ fs e in
      let rest = then_ok (walk_decls kinds hs ds) _ fs f.rest in
      let w = unless_ok (least (elab.head_refused h at.from)) (Ok (record h { body = core.done })) f.first f.one in
      let here = no_left (head_refused kinds.file head ++ external_refused kinds.file kinds.types head (keys_of kinds.file head)) _ none in
      subst (AreMade kinds (h ∷ hs)) (same_ok (f.first ∷ rest.first) fs rest.rest) (
        (head, None, refl, record { passed = no_left _ _ here; hosted = λ e. no_right (head_refused kinds.file head) _ here; few = head_few h at.from (least_none None (elab.head_refused h at.from) w.0).1; few_keys = head_few_keys h at.from (least_none None (elab.head_refused h at.from) w.0).1; walked = sym (same_ok (record h { body = core.done }) f.first w.1) }),
        all_made ds rest.first is.1 (no_right (head_refused kinds.file head ++ external_refused kinds.file kinds.types head (keys_of kinds.file head)) _ none) rest.one,
      )
  all_made (s.stateset n ss at ∷ ds) fs is none e = all_made ds fs is.1 none (sym (skipped kinds (of_each (core_heads_in kinds.file) ds) (s.stateset n ss at) ds refl) ∙ e)
  all_made (s.abstract n ss at ∷ ds) fs is none e = all_made ds fs is.1 none (sym (skipped kinds (of_each (core_heads_in kinds.file) ds) (s.abstract n ss at) ds refl) ∙ e)
  all_made (s.struct n ps ss xs r at ∷ ds) fs is none e = all_made ds fs is.1 none (sym (skipped kinds (of_each (core_heads_in kinds.file) ds) (s.struct n ps ss xs r at) ds refl) ∙ e)
  all_made (s.variant n ps cs at ∷ ds) fs is none e = all_made ds fs is.1 none (sym (skipped kinds (of_each (core_heads_in kinds.file) ds) (s.variant n ps cs at) ds refl) ∙ e)

  -- ---- by number

  pub record MadeAt (hs : List Func) (i : ℕ) (f : Func) : Type 0 where
    pub head : Head
    pub body : Option Block
    pub there : slice_get hs i ≡ Some (head_made kinds head body)
    pub made : IsMade kinds head body f

  pub made_at : (hs fs : List Func) → AreMade kinds hs fs → (i : ℕ) (f : Func) → slice_get fs i ≡ Some f → MadeAt hs i f
  made_at [] [] m i f at = absurd (none-some f at)
  made_at [] (g ∷ fs) m i f at = absurd m
  made_at (h ∷ hs) [] m i f at = absurd m
  made_at (h ∷ hs) (g ∷ fs) m zero f at = record { head = m.0.0; body = m.0.1; there = ap Some m.0.2; made = subst (IsMade kinds m.0.0 m.0.1) (same_Some g f at) m.0.3 }
  made_at (h ∷ hs) (g ∷ fs) m (suc i) f at = let x = made_at hs fs m.1 i f at in record { head = x.head; body = x.body; there = x.there; made = x.made }

  pub record HeadAt (fs : List Func) (i : ℕ) (h : Func) : Type 0 where
    pub func : Func
    pub there : slice_get fs i ≡ Some func
    pub head : Head
    pub body : Option Block
    pub is : h ≡ head_made kinds head body
    pub made : IsMade kinds head body func

  pub head_at : (hs fs : List Func) → AreMade kinds hs fs → (i : ℕ) (h : Func) → slice_get hs i ≡ Some h → HeadAt fs i h
  head_at [] [] m i h at = absurd (none-some h at)
  head_at [] (g ∷ fs) m i h at = absurd m
  head_at (k ∷ hs) [] m i h at = absurd m
  head_at (k ∷ hs) (g ∷ fs) m zero h at = record { func = g; there = refl; head = m.0.0; body = m.0.1; is = sym (same_Some k h at) ∙ m.0.2; made = m.0.3 }
  head_at (k ∷ hs) (g ∷ fs) m (suc i) h at = let x = head_at hs fs m.1 i h at in record { func = x.func; there = x.there; head = x.head; body = x.body; is = x.is; made = x.made }

-- ---- the program

pub told_ok : (r : Result Program Refusal) (p : Program) → or_refused r ≡ Ok p → r ≡ Ok p
told_ok (Ok q) p e = ap Ok (same q p e)
  where
    same : (a b : Program) → ◌≡◌ {A = Result Program Refused} (Ok a) (Ok b) → a ≡ b
    same a b e = cc
told_ok (Err r) p e = absurd (refused (elab.refused_of r) p e)
  where
    refused : (t : Refused) (p : Program) → ◌≡◌ {A = Result Program Refused} (Err t) (Ok p) → ⊥
    refused t p e = cc

pub record HasFunctions (kinds : Kinds) (p : Program) : Type 0 where
  pub sets : p.sets ≡ kinds.file.sets
  pub types : p.types ≡ kinds.types
  pub made : AreMade kinds kinds.heads p.fns

-- the program of declarations, whatever its main is
pub functions_walked : (ds : List Decl) (fs : List Func) (main : ℕ) → Each (IsDecl language) ds → heads_refused (file_of ds) (core_types (file_of ds) ds) ds ≡ []
    → walk_decls (kinds_of ds) (kinds_of ds).heads ds ≡ Ok fs → HasFunctions (kinds_of ds) (record { sets = (file_of ds).sets; types = (kinds_of ds).types; fns = fs; main = main })
unfolding heads_refused
functions_walked ds fs main is none e = record { sets = refl; types = refl; made = all_made (kinds_of ds) ds fs is none e }

pub record HasWalkedAll (t : Tree) (p : Program) : Type 0 where
  pub fns : List Func
  pub walked : walk_decls (kinds_of t.decls) (kinds_of t.decls).heads t.decls ≡ Ok fns
  pub same : record { sets = (file_of t.decls).sets; types = (kinds_of t.decls).types; fns = fns; main = main_of (kinds_of t.decls).heads } ≡ p

pub all_walked : (t : Tree) (p : Program) → elab.elaborated t (kinds_of t.decls) ≡ Ok p → HasWalkedAll t p
all_walked t p e =
    let fs = then_ok (walk_decls (kinds_of t.decls) (kinds_of t.decls).heads t.decls) _ p (told_ok (walk_tree t (kinds_of t.decls)) p e) in
    record { fns = fs.first; walked = fs.one; same = same_ok _ p fs.rest }

pub functions_made : (t : Tree) (p : Program) → Each (IsDecl language) t.decls → heads_refused (file_of t.decls) (core_types (file_of t.decls) t.decls) t.decls ≡ []
    → elab.elaborated t (kinds_of t.decls) ≡ Ok p → HasFunctions (kinds_of t.decls) p
functions_made t p is none e =
    let w = all_walked t p e in
    subst (HasFunctions (kinds_of t.decls)) w.same (functions_walked t.decls w.fns (main_of (kinds_of t.decls).heads) is none w.walked)
