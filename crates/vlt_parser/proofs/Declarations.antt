-- What the automaton does with declarations.
use Rattle.std.proofs.Common.{◌≡◌, ◌≤◌, ◌-◌, ◌+◌, ◌==◌, ◌<◌, if◌then◌else◌, length, ℕ, zero, suc, Bool, true, false, List, [], ◌∷◌, ◌++◌, Some, ◌⊎◌, inl, inr, Err, refl, sym, ap, subst, ◌∙◌, arith, append_assoc}
use Rattle.std.proofs.lemmas.Bool.{true≢false, eq-eqb, ne_eqb}
use Rattle.vlt_tokens.specs.declared.token.Word.{Word}
use Rattle.vlt_tokens.specs.declared.token.Word.TheVariants as word
use Rattle.vlt_tokens.specs.declared.token.Mark.TheVariants as mark
use Rattle.vlt_syntax.specs.Tokens as t
use Rattle.vlt_syntax.specs.Tokens.{Token}
use Rattle.vlt_automaton.specs.Language as m
use Rattle.vlt_syntax.specs.Grammar.{language}
use Rattle.vlt_automaton.specs.Language.{Symbol, Reaction, Left, Located, run, with_after, go_on_with}
use Rattle.vlt_automaton.proofs.Sameness.{same_word-refl}
use Rattle.vlt_tokens.specs.declared.token.Token.{Token as CodeToken}
use Rattle.vlt_parser_exprs.specs.declared.lists.Most.{Most}
use Rattle.vlt_parser_exprs.specs.declared.error.ParseError.{ParseError}
use Rattle.vlt_parser_exprs.specs.declared.error.ParseError.TheVariants.{Limit}
use Rattle.vlt_parser_exprs.proofs.Runs.{fails_with, settled_followed, result_type_takes, skips_followed}
use Rattle.vlt_parser_exprs.specs.Ahead.{lexemes_from, Begins, refusal, IsFull, Fails, LacksKeyword}
use Rattle.vlt_parser.specs.Declarations.{takes, can_begin, fields_left, decls_left}

-- a token begins something or is refused
abbrev pub CanBegin : (Token → Reaction) → List Located → Type 0
CanBegin start [] = ⊥
CanBegin start (x ∷ xs) = (symbols : List Symbol) × (start x.token ≡ m.take symbols)

abbrev pub CannotBegin : (Token → Reaction) → List Located → Type 0
CannotBegin start [] = Unit {0}
CannotBegin start (x ∷ xs) = start x.token ≡ m.refuse

abbrev IsTakenOrRefused : Reaction → Type 0
IsTakenOrRefused r = (r ≡ m.refuse) ⊎ ((ys : List Symbol) × (r ≡ m.take ys))

ty_shape : (x : Token) → IsTakenOrRefused (m.start_ty x)
ty_shape (t.keyword word.Int) = inr (_, refl)
ty_shape (t.keyword word.Bool) = inr (_, refl)
ty_shape (t.keyword word.Tracked) = inr (_, refl)
ty_shape (t.name text) = inr (_, refl)
ty_shape _ = inl refl

followed_shape : (r : Reaction) (ys : List Symbol) → IsTakenOrRefused r → IsTakenOrRefused (with_after r ys)
followed_shape r ys (inl e) = inl (rw e refl)
followed_shape r ys (inr (xs, e)) = inr (xs ++ ys, rw e refl)

result_type_shape : (x : Token) → IsTakenOrRefused (m.start_result_type x)
result_type_shape x = by_word (m.is_keyword word.Void x)
  where
    by_word : (b : Bool) → IsTakenOrRefused (if b then m.take [] else m.start_ty x)
    by_word true = inr ([], refl)
    by_word false = ty_shape x

decl_shape : (x : Token) → IsTakenOrRefused (m.start_decl x)
decl_shape (t.keyword word.Stateset) = inr (_, refl)
decl_shape (t.keyword word.Abstract) = inr (_, refl)
decl_shape (t.keyword word.Struct) = inr (_, refl)
decl_shape (t.keyword word.Variant) = inr (_, refl)
decl_shape (t.keyword word.Extern) = inr (_, refl)
decl_shape x = followed_shape (m.start_head x) (m.block language.depth ∷ []) (followed_shape (m.start_result_type x) m.head_rest (result_type_shape x))

can : (start : Token → Reaction) → ((x : Token) → IsTakenOrRefused (start x)) → (ts : List Located) → can_begin start ts ≡ true → CanBegin start ts
can start shape [] is = absurd cc
can start shape (x ∷ xs) is = by_shape (shape x.token)
  where
    by_shape : IsTakenOrRefused (start x.token) → (symbols : List Symbol) × (start x.token ≡ m.take symbols)
    by_shape (inl e) = absurd (true≢false (sym is ∙ ap takes e))
    by_shape (inr taken) = taken

cannot : (start : Token → Reaction) → ((x : Token) → IsTakenOrRefused (start x)) → (ts : List Located) → can_begin start ts ≡ false → CannotBegin start ts
cannot start shape [] is = tt
cannot start shape (x ∷ xs) is = by_shape (shape x.token)
  where
    by_shape : IsTakenOrRefused (start x.token) → start x.token ≡ m.refuse
    by_shape (inl e) = e
    by_shape (inr taken) = absurd (true≢false (sym (ap takes taken.1) ∙ is))

pub ty_can : (ts : List Located) → can_begin m.start_ty ts ≡ true → CanBegin m.start_ty ts
ty_can = can m.start_ty ty_shape

pub decl_can : (ts : List Located) → can_begin m.start_decl ts ≡ true → CanBegin m.start_decl ts
decl_can = can m.start_decl decl_shape

-- what is no declaration by its word begins one where a type begins
pub other_begins : (x : Token) (ts rest : List Located) → m.start_decl x ≡ with_after (with_after (m.start_ty x) m.head_rest) (m.block language.depth ∷ []) → Begins x ts rest
    → can_begin m.start_decl ts ≡ can_begin m.start_ty ts
other_begins x ts rest is b = rw b.is (rw is (takes_followed (with_after (m.start_ty x) m.head_rest) _ ∙ takes_followed (m.start_ty x) m.head_rest))
  where
    takes_followed : (r : Reaction) (ys : List Symbol) → takes (with_after r ys) ≡ takes r
    takes_followed (m.take xs) ys = refl
    takes_followed m.skip ys = refl
    takes_followed m.refuse ys = refl
    takes_followed (m.exceed n) ys = refl

-- ---- fields

pub fields_end : (left : Left) (s : List Symbol) (ts : List Located) → can_begin m.start_ty ts ≡ false → run (m.fields left ∷ s) ts ≡ run (m.after_fields ∷ s) ts
fields_end left s [] none = refl
fields_end left s (x ∷ xs) none = rw (cannot m.start_ty ty_shape (x ∷ xs) none) refl

pub fields_one : (n next : ℕ) (s : List Symbol) (ts : List Located) → CanBegin m.start_ty ts → next ≡ n + 1 → next ≤ language.fields
    → run (m.fields (fields_left n) ∷ s) ts ≡ run (m.thing m.a_ty ∷ m.name ∷ m.at_states ∷ m.sign mark.Semicolon ∷ m.fields (fields_left next) ∷ s) ts
fields_one n next s [] can is within = absurd can
fields_one n next s (x ∷ xs) can is within =
    let some : (language.fields - n == 0) ≡ false = ne_eqb (language.fields - n) 0 (λ none. omega (arith, within, none, is)) in
    let one_less : language.fields - n - 1 ≡ language.fields - next = omega (arith, is) in
    rw can.1 (rw some (rw one_less (ap (m.run_over xs) (append_assoc can.0 (m.name ∷ m.at_states ∷ m.sign mark.Semicolon ∷ m.fields (fields_left next) ∷ []) s))))

pub fields_full : (n : ℕ) (s : List Symbol) (ts : List Located) → CanBegin m.start_ty ts → language.fields ≤ n → run (m.fields (fields_left n) ∷ s) ts ≡ Err (m.over_limit 6)
fields_full n s [] can full = absurd can
fields_full n s (x ∷ xs) can full =
    let none : (language.fields - n == 0) ≡ true = eq-eqb (language.fields - n) 0 (omega (arith, full)) in
    rw can.1 (rw none refl)

pub fields_over : (most : Most) (n : ℕ) (e : ParseError) (s : List Symbol) (ts : List Located) → most.limit ≡ 6 → most.count ≡ language.fields → IsFull (Some most) n e → CanBegin m.start_ty ts
    → Fails (run (m.fields (fields_left n) ∷ s) ts) e
fields_over most n e s ts limit count full can =
    rw full.1 (fails_with _ (Limit most.limit) (m.over_limit most.limit) refl (rw limit (fields_full n s ts can (subst (λ c. c ≤ n) count full.0))))

pub release_some : (s : List Symbol) (ts rest : List Located) → Begins (t.keyword word.Release) ts rest → run (m.after_fields ∷ s) ts ≡ run (m.states ∷ m.sign mark.Semicolon ∷ m.sign mark.CloseBrace ∷ s) rest
release_some s ts rest b = rw b.is refl

pub release_none : (s : List Symbol) (ts : List Located) → LacksKeyword word.Release ts → run (m.after_fields ∷ s) ts ≡ run (m.sign mark.CloseBrace ∷ s) ts
release_none s [] lacks = refl
release_none s (x ∷ xs) lacks = rw lacks refl

-- ---- declarations

pub decl_word : (w : Word) (xs s : List Symbol) (ts rest : List Located) → m.start_decl (t.keyword w) ≡ m.take xs → Begins (t.keyword w) ts rest → run (m.thing m.a_decl ∷ s) ts ≡ run (m.keyword w ∷ xs ++ s) ts
decl_word w xs s ts rest is b = rw b.is (rw is (rw (same_word-refl w) refl))

-- a declaration that none of the words begins
pub decl_other : (x : Token) (s : List Symbol) (ts rest : List Located) → m.start_decl x ≡ with_after (m.start_head x) (m.block language.depth ∷ []) → Begins x ts rest
    → run (m.thing m.a_decl ∷ s) ts ≡ run (m.head ∷ m.block language.depth ∷ s) ts
decl_other x s ts rest is b =
    rw b.is (rw is (ap (go_on_with (m.run_over rest) b.at) (settled_followed (m.start_head x) (m.block language.depth ∷ []) s _ _ (skips_followed (m.start_result_type x) m.head_rest ∙ result_type_takes x))))

pub decls_one : (n next : ℕ) (s : List Symbol) (ts : List Located) → CanBegin m.start_decl ts → next ≡ n + 1 → next ≤ language.decls
    → run (m.decls (decls_left n) ∷ s) ts ≡ run (m.thing m.a_decl ∷ m.decls (decls_left next) ∷ s) ts
decls_one n next s [] can is within = absurd can
decls_one n next s (x ∷ xs) can is within =
    let some : (language.decls - n == 0) ≡ false = ne_eqb (language.decls - n) 0 (λ none. omega (arith, within, none, is)) in
    let one_less : language.decls - n - 1 ≡ language.decls - next = omega (arith, is) in
    rw can.1 (rw some (rw one_less (ap (m.run_over xs) (append_assoc can.0 (m.decls (decls_left next) ∷ []) s))))

pub decls_full : (n : ℕ) (s : List Symbol) (ts : List Located) → CanBegin m.start_decl ts → language.decls ≤ n → run (m.decls (decls_left n) ∷ s) ts ≡ Err (m.over_limit 4)
decls_full n s [] can full = absurd can
decls_full n s (x ∷ xs) can full =
    let none : (language.decls - n == 0) ≡ true = eq-eqb (language.decls - n) 0 (omega (arith, full)) in
    rw can.1 (rw none refl)

-- a position before the end of the tokens
pub some_ahead : (tokens : List CodeToken) (at : ℕ) → at < length tokens → (x : Located) × ((xs : List Located) × (lexemes_from tokens at ≡ x ∷ xs))
some_ahead [] at within = absurd (omega (arith, within))
some_ahead (y ∷ ys) zero within = (_, (_, refl))
some_ahead (y ∷ ys) (suc at) within = some_ahead ys at (omega (arith, within))

-- some token comes that begins none
pub decls_stop : (n : ℕ) (ts : List Located) → ((x : Located) × ((xs : List Located) × (ts ≡ x ∷ xs))) → can_begin m.start_decl ts ≡ false → Fails (run (m.decls (decls_left n) ∷ []) ts) (refusal ts)
decls_stop n [] some none = absurd cc
decls_stop n (x ∷ xs) some none =
    fails_with (run (m.decls (decls_left n) ∷ []) (x ∷ xs)) (refusal (x ∷ xs)) (m.unexpected_at x.at) refl (rw (cannot m.start_decl decl_shape (x ∷ xs) none) refl)

pub decls_over : (most : Most) (n : ℕ) (e : ParseError) (s : List Symbol) (ts : List Located) → most.limit ≡ 4 → most.count ≡ language.decls → IsFull (Some most) n e → CanBegin m.start_decl ts
    → Fails (run (m.decls (decls_left n) ∷ s) ts) e
decls_over most n e s ts limit count full can =
    rw full.1 (fails_with _ (Limit most.limit) (m.over_limit most.limit) refl (rw limit (decls_full n s ts can (subst (λ c. c ≤ n) count full.0))))
