-- One function more.
use Rattle.std.proofs.Common.{◌≡◌, ◌<◌, ◌+◌, ◌∙◌, ℕ, true, if◌then◌else◌, List, [], ◌∷◌, ◌++◌, map, length, drop, get_or, Result, Ok, Err, refl, append_assoc, sym, ap, subst}
use Rattle.std.proofs.lemmas.List.{drop_more, map-append, length-append}
use Rattle.vlt_kinds_types.specs.declared.names.found.Refusal.{Refusal}
use Rattle.vlt_syntax.specs.Tree.{Decl}
use Rattle.vlt_syntax.specs.declared.tree.Decl as code
use Rattle.vlt_syntax.specs.View.{decl_of}
use Rattle.vlt_core.specs.Core.{Func}
use Rattle.vlt_core.specs.declared.program.Func as made
use Rattle.vlt_core.specs.View.{func_of}
use Rattle.vlt_kinds_types.specs.Kinds.{Kinds}
use Rattle.vlt_elaboration.specs.Walk.{then_do}
use Rattle.vlt_elaboration.specs.Elaboration.{walk_decls, walk_function, is_function}

-- what was made before, and then these
abbrev pub after_funcs : List Func → Result (List Func) Refusal → Result (List Func) Refusal
after_funcs made x = then_do x (λ fs. Ok (made ++ fs))

pub after_more_funcs : (x : Result (List Func) Refusal) (made : List Func) (f : Func) → after_funcs made (then_do x (λ fs. Ok (f ∷ fs))) ≡ after_funcs (made ++ f ∷ []) x
after_more_funcs (Ok fs) made f = rw append_assoc refl
after_more_funcs (Err r) made f = refl

one_more : (k : Kinds) (hs : List Func) (ds : List Decl) (h : Func) (d : Decl) (f : Func) (before : List Func)
    → is_function d ≡ true → walk_function k h d ≡ Ok f
    → after_funcs before (walk_decls k (h ∷ hs) (d ∷ ds)) ≡ after_funcs (before ++ f ∷ []) (walk_decls k hs ds)
one_more k hs ds h d f before is makes =
    ap (λ b. after_funcs before (if b then then_do (walk_function k h d) (λ g. then_do (walk_decls k hs ds) (λ fs. Ok (g ∷ fs))) else walk_decls k (h ∷ hs) ds)) is
    ∙ ap (λ r. after_funcs before (then_do r (λ g. then_do (walk_decls k hs ds) (λ fs. Ok (g ∷ fs))))) makes
    ∙ after_more_funcs (walk_decls k hs ds) before f

pub next_function : (k : Kinds) (heads : List made.Func) (decls : List code.Decl) (n i : ℕ) (h : made.Func) (d : code.Decl) (f : Func)
    (before : List Func) → n < length heads → h ≡ get_or heads n h → i < length decls → d ≡ get_or decls i d
    → is_function (decl_of d) ≡ true → walk_function k (func_of h) (decl_of d) ≡ Ok f
    → after_funcs before (walk_decls k (map func_of (drop n heads)) (map decl_of (drop i decls)))
    ≡ after_funcs (before ++ f ∷ []) (walk_decls k (map func_of (drop (n + 1) heads)) (map decl_of (drop (i + 1) decls)))
next_function k heads decls n i h d f before some h-is more d-is is makes =
    ap (λ hs. after_funcs before (walk_decls k (map func_of hs) (map decl_of (drop i decls)))) (drop_more heads n h some ∙ ap (λ x. x ∷ drop (n + 1) heads) (sym h-is))
    ∙ ap (λ ds. after_funcs before (walk_decls k (map func_of (h ∷ drop (n + 1) heads)) (map decl_of ds))) (drop_more decls i d more ∙ ap (λ x. x ∷ drop (i + 1) decls) (sym d-is))
    ∙ one_more k (map func_of (drop (n + 1) heads)) (map decl_of (drop (i + 1) decls)) (func_of h) (decl_of d) f before is makes

pub next_walked : (k : Kinds) (heads table : List made.Func) (decls : List code.Decl) (number i : ℕ) (h : made.Func) (d : code.Decl) (f : made.Func)
    (before after : List made.Func) → table ≡ heads → number ≡ length before → number < length table → h ≡ get_or table number h
    → i < length decls → d ≡ get_or decls i d → is_function (decl_of d) ≡ true → walk_function k (func_of h) (decl_of d) ≡ Ok (func_of f)
    → after ≡ before ++ f ∷ []
    → after_funcs (map func_of before) (walk_decls k (map func_of (drop (length before) heads)) (map decl_of (drop i decls)))
    ≡ after_funcs (map func_of after) (walk_decls k (map func_of (drop (length after) heads)) (map decl_of (drop (i + 1) decls)))
next_walked k heads table decls number i h d f before after all n some h-is more d-is is makes grown =
    next_function k heads decls (length before) i h d (func_of f) (map func_of before)
    (subst (λ m. m < length heads) n (subst (λ xs. number < length xs) all some))
    (h-is ∙ ap (λ xs. get_or xs number h) all ∙ ap (λ m. get_or heads m h) n)
    more d-is is makes
    ∙ ap (λ ms. after_funcs ms (walk_decls k (map func_of (drop (length before + 1) heads)) (map decl_of (drop (i + 1) decls)))) (sym (map-append func_of before (f ∷ [])))
    ∙ ap (λ m. after_funcs (map func_of (before ++ f ∷ [])) (walk_decls k (map func_of (drop m heads)) (map decl_of (drop (i + 1) decls)))) (sym (length-append before (f ∷ [])))
    ∙ ap (λ xs. after_funcs (map func_of xs) (walk_decls k (map func_of (drop (length xs) heads)) (map decl_of (drop (i + 1) decls)))) (sym grown)
