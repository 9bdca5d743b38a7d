-- The functions of an elaborated program keep the limits, and come in the order of their heads.
use Rattle.std.proofs.Common.{◌≡◌, ℕ, ◌+◌, ◌*◌, ◌-◌, ◌≤◌, Bool, true, false, if◌then◌else◌, List, [], ◌∷◌, ◌++◌, map, length, Option, Some, None, Ok, refl, sym, ap, ◌∙◌, subst, arith}
use Rattle.std.specs.List.{list_all}
use Rattle.std.specs.Char.{is_ascii}
use Rattle.std.proofs.lemmas.Bool.{not-false}
use Rattle.std.proofs.lemmas.List.{length-append}
use Rattle.vlt_tokens.specs.declared.token.Mark.TheVariants as mark
use Rattle.vlt_syntax.specs.Tokens.{sign}
use Rattle.vlt_syntax.specs.Tree as s
use Rattle.vlt_syntax.specs.Tree.{States, Entry, Block, Head, Decl}
use Rattle.vlt_syntax.specs.Lists.{Each}
use Rattle.vlt_syntax.specs.Grammar.{IsBlock, IsDecl, language}
use Rattle.vlt_core.specs.Core as core
use Rattle.vlt_core.specs.Core.{Func}
use Rattle.vlt_core.specs.declared.rules.TheConstants as rule
use Rattle.vlt_kinds_decls.specs.Names.{decl_refused, name_beyond_ascii}
use Rattle.vlt_kinds_types.specs.Names.Globals.{Globals}
use Rattle.vlt_kinds_types.specs.Names.Refusals.{of_each, least}
use Rattle.vlt_kinds_types.specs.Files.{File}
use Rattle.vlt_kinds_heads.specs.Places.{clause_in, entry_key}
use Rattle.vlt_kinds_heads.specs.Keys.{Keys, facts_of, keys_of}
use Rattle.vlt_kinds_heads.specs.Phase.{states_named, typed_states, core_entry_in, core_entry, core_head, core_heads_in}
use Rattle.vlt_kinds_types.specs.Kinds.{Kinds}
use Rattle.vlt_resolve_laws.proofs.OfKindsLaws.Empty.{no_left, no_right, not_broken}
use Rattle.vlt_elaboration.specs.Walk.{then_do, walk_stmts}
use Rattle.vlt_elaboration.specs.Elaboration as elab
use Rattle.vlt_elaboration.specs.Elaboration.{body_scope, body_around, stmts_in, end_refused, last_return, func_made, walk_body, is_function, walk_function, walk_decls, is_main}
use Rattle.vlt_resolve_laws.proofs.Results.{same_ok, then_ok, unless_ok}
use Rattle.cert_rows.specs.Rows.{is_c_name}
use Rattle.cert_fit_laws.specs.Limits.{IsRuled, IsRuledEntry, most_statements, AreLimited}
use Rattle.cert_rows.specs.Parts.{All}
use Rattle.cert_format.specs.Bodies.{length_of, count_list}
use Rattle.cert_text_laws.specs.Texts.{most_of_function, most_weight}
use Rattle.cert_text_laws.specs.Weights.{weight_list}
use Rattle.cert_text_laws.proofs.CNames.{IsNamed}
use Rattle.cert_text_laws.proofs.Few.{count_of, BlockIsFew, IsShortBlock, DeclIsFew}
use Rattle.cert_text_laws.proofs.Bodies.{most, length_made, joined_limited, stmts_limited, last_limited}
use Rattle.cert_text_laws.proofs.Shorter.{one}
use Rattle.cert_text_laws.proofs.Totals.{total_block}
use Rattle.cert_text_laws.proofs.Weighing.{stmts_light, body_light}
use Rattle.cert_text_laws.proofs.Whole.{stmts_few, body_few}

-- ---- entries

kept_ruled : (known : Option (List (List ℕ))) (ss : Option States) → IsRuled core.kept (states_named known ss) (states_named known ss)
kept_ruled known None = tt
kept_ruled known (Some ss) = tt

in_ruled : (keys : Keys) (known : Option (List (List ℕ))) (e : Entry) → IsRuledEntry (core_entry_in keys known e)
in_ruled keys known (s.held k) = kept_ruled known k.states
in_ruled keys known (s.changed k before after) = tt
in_ruled keys known (s.bound k v b) = tt
in_ruled keys known (s.taken k at) = tt
in_ruled keys known (s.given k at) = tt
in_ruled keys known (s.fresh k at) = tt

entries_ruled : (file : File) (keys : Keys) (es : List Entry) → All IsRuledEntry (map (core_entry file keys) es)
unfolding core_entry
entries_ruled file keys [] = tt
entries_ruled file keys (e ∷ es) = (in_ruled keys (typed_states file (facts_of keys (entry_key e).text).typing) e, entries_ruled file keys es)

-- ---- heads

pub record IsLimitedHead (external : Bool) (h : Head) (f : Func) : Type 0 where
  pub params : f.params ≤ 16
  pub clause : All IsRuledEntry f.clause
  pub outside : f.external ≡ external
  pub named : f.name ≡ h.name.text

head_limited : (file : File) (external : Bool) (h : Head) (keys : Keys) → length h.parameters ≤ 16 → IsLimitedHead external h (core_head file external h keys)
unfolding core_head
head_limited file external h keys few = record { params = few; clause = entries_ruled file keys (clause_in h.clause); outside = refl; named = refl }

-- ---- functions

true_not_false : true ≡ false → ⊥
true_not_false e = cc

-- of the limits of a function all but how many keys and variables it has
pub record IsSmallFunc (f : Func) : Type 0 where
  pub params : f.params ≤ 16
  pub clause : All IsRuledEntry f.clause
  pub name : f.external ≡ true → is_c_name f.name ≡ true
  pub few : length_of f.body ≤ most_statements
  pub body : AreLimited 1 f.body
  pub total : count_list f.body ≤ most_of_function
  pub light : weight_list f.body ≤ most_weight

-- what a function has of its head
pub record IsOfHead (h f : Func) : Type 0 where
  pub name : f.name ≡ h.name
  pub external : f.external ≡ h.external

body_limited : (kinds : Kinds) (head : Head) (h : Func) (b : Block) (f : Func) → IsLimitedHead false head h → IsBlock language language.depth b → BlockIsFew most b → total_block b ≤ 2 * most → IsShortBlock most b → walk_body kinds h b ≡ Ok f
    → IsSmallFunc f × IsOfHead h f
body_limited kinds head h (s.braced ss at) f is g few total short e =
    let b = s.braced ss at in
    let y = then_ok (walk_stmts kinds (body_around h) (body_scope h) false (stmts_in b)) _ f e in
    let u = unless_ok (least (end_refused h b)) (Ok (func_made h b y.first)) f y.rest in
    let q = stmts_limited kinds (body_around h) (body_scope h) 1 (language.depth - 1) false ss y.first refl g.1 few.1 y.one in
    let last = last_limited 1 b in
    subst (λ k. IsSmallFunc k × IsOfHead h k) (same_ok (func_made h b y.first) f u.1) (
      record {
        params = is.params;
        clause = is.clause;
        name = λ e. absurd (true_not_false (sym e ∙ is.outside));
        few = subst (λ m. m ≤ most_statements) (sym (length_made (y.first.0 ++ last_return b)))
            (sum (count_of ss) (length (y.first.0 ++ last_return b)) (length y.first.0) (length (last_return b)) (length-append y.first.0 (last_return b)) few.0 q.few last.1);
        body = joined_limited 1 y.first.0 (last_return b) q.limited last.0;
        total = body_few ss b y.first.0 (2 * most) (stmts_few kinds (body_around h) (body_scope h) false ss y.first y.one) total;
        light = body_light ss b y.first.0 most (stmts_light kinds (body_around h) (body_scope h) false ss y.first y.one (sign mark.CloseBrace ∷ short.0)) (one short.1);
      },
      record { name = refl; external = refl },
    )
  where
    sum : (n a b c : ℕ) → a ≡ b + c → n ≤ 262144 → b ≤ 2 * n → c ≤ 1 → a ≤ 4294967295
    sum n a b c x y z w = omega (arith, x, y, z, w)

extern_limited : (head : Head) (h f : Func) → IsLimitedHead true head h → is_c_name head.name.text ≡ true → record h { body = core.done } ≡ f → IsSmallFunc f × IsOfHead h f
extern_limited head h f is named e =
    subst (λ k. IsSmallFunc k × IsOfHead h k) e (
      record {
        params = is.params;
        clause = is.clause;
        name = λ e. ap is_c_name is.named ∙ named;
        few = none;
        body = tt;
        total = none_at_all;
        light = no_weight;
      },
      record { name = refl; external = refl },
    )
  where
    none : 0 ≤ 4294967295
    none = omega arith

    none_at_all : 0 ≤ 524289
    none_at_all = omega arith

    no_weight : 0 ≤ 786433
    no_weight = omega arith

-- ---- all of them

pub record AreOfHeads (hs fs : List Func) : Type 0 where
  pub limited : All IsSmallFunc fs
  pub mains : map is_main fs ≡ map is_main hs

none_of : AreOfHeads [] []
none_of = record { limited = tt; mains = refl }

main_of_head : (h f : Func) → IsOfHead h f → is_main f ≡ is_main h
main_of_head h f is = rw is.name rw is.external refl

with_one : (h f : Func) (hs fs : List Func) → IsSmallFunc f × IsOfHead h f → AreOfHeads hs fs → AreOfHeads (h ∷ hs) (f ∷ fs)
with_one h f hs fs one more = record {
  limited = (one.0, more.limited);
  mains = ap (λ b. b ∷ map is_main fs) (main_of_head h f one.1) ∙ ap (λ bs. is_main h ∷ bs) more.mains;
}

no_heads : (kinds : Kinds) (ds : List Decl) → walk_decls kinds [] ds ≡ Ok []
no_heads kinds [] = refl
no_heads kinds (d ∷ ds) = refl

skipped : (kinds : Kinds) (hs : List Func) (d : Decl) (ds : List Decl) → is_function d ≡ false → walk_decls kinds hs (d ∷ ds) ≡ walk_decls kinds hs ds
skipped kinds [] d ds e = sym (no_heads kinds ds)
skipped kinds (h ∷ hs) d ds e =
    ap (λ b. if b then then_do (walk_function kinds h d) (λ f. then_do (walk_decls kinds hs ds) (λ fs. Ok (f ∷ fs))) else walk_decls kinds (h ∷ hs) ds) e

-- the name of an external that isn't refused is ASCII
ascii_name : (known : Globals) (h : Head) → name_beyond_ascii h ≡ [] → list_all is_ascii h.name.text ≡ true
unfolding name_beyond_ascii
ascii_name known h none = not-false _ (not_broken _ rule.EXTERN_NOT_ASCII h.name.at.from none)

module _ (kinds : Kinds) (known : Globals) where
  abbrev Heads : List Decl → List Func
  Heads ds = of_each (core_heads_in kinds.file) ds

  pub all_limited : (ds : List Decl) (fs : List Func) → Each (IsDecl language) ds → Each (DeclIsFew most) ds → Each IsNamed ds → of_each (decl_refused known) ds ≡ [] → walk_decls kinds (Heads ds) ds ≡ Ok fs → AreOfHeads (Heads ds) fs
  all_limited [] fs is few named none e = subst (AreOfHeads []) (same_ok [] fs e) none_of
  all_limited (s.function head b at ∷ ds) fs is few named none e =
      let h = core_head kinds.file false head (keys_of kinds.file head) in
      let f = then_ok (walk_function kinds h (s.function head b at)) _ fs e in
      let rest = then_ok (walk_decls kinds (Heads ds) ds) _ fs f.rest in
      let w = unless_ok (least (elab.head_refused h at.from)) (walk_body kinds h b) f.first f.one in
      subst (AreOfHeads (h ∷ Heads ds)) (same_ok (f.first ∷ rest.first) fs rest.rest)
      (with_one h f.first (Heads ds) rest.first
      (body_limited kinds head h b f.first (head_limited kinds.file false head (keys_of kinds.file head) is.0.0.few) is.0.1 few.0.0 few.0.1 few.0.2 w.1)
      (all_limited ds rest.first is.1 few.1 named.1 none rest.one))
  all_limited (s.extern head at ∷ ds) fs is few named none e =
      let h = core_head kinds.file true head (keys_of kinds.file head) in
      let f = then_ok (walk_function kinds h (s.extern head at)) _ fs e in
      let rest = then_ok (walk_decls kinds (Heads ds) ds) _ fs f.rest in
      let w = unless_ok (least (elab.head_refused h at.from)) (Ok (record h { body = core.done })) f.first f.one in
      let ascii = ascii_name known head (no_left (name_beyond_ascii head) _ none) in
      subst (AreOfHeads (h ∷ Heads ds)) (same_ok (f.first ∷ rest.first) fs rest.rest)
      (with_one h f.first (Heads ds) rest.first
      (extern_limited head h f.first (head_limited kinds.file true head (keys_of kinds.file head) is.0.few) (named.0 ascii) (same_ok (record h { body = core.done }) f.first w.1))
      (all_limited ds rest.first is.1 few.1 named.1 (no_right (name_beyond_ascii head) _ none) rest.one))
  all_limited (s.stateset n ss at ∷ ds) fs is few named none e =
      all_limited ds fs is.1 few.1 named.1 (no_right (decl_refused known (s.stateset n ss at)) _ none) (sym (skipped kinds (Heads ds) (s.stateset n ss at) ds refl) ∙ e)
  all_limited (s.abstract n ss at ∷ ds) fs is few named none e =
      all_limited ds fs is.1 few.1 named.1 (no_right (decl_refused known (s.abstract n ss at)) _ none) (sym (skipped kinds (Heads ds) (s.abstract n ss at) ds refl) ∙ e)
  all_limited (s.struct n ps ss xs r at ∷ ds) fs is few named none e =
      all_limited ds fs is.1 few.1 named.1 (no_right (decl_refused known (s.struct n ps ss xs r at)) _ none) (sym (skipped kinds (Heads ds) (s.struct n ps ss xs r at) ds refl) ∙ e)
  all_limited (s.variant n ps cs at ∷ ds) fs is few named none e =
      all_limited ds fs is.1 few.1 named.1 (no_right (decl_refused known (s.variant n ps cs at)) _ none) (sym (skipped kinds (Heads ds) (s.variant n ps cs at) ds refl) ∙ e)
