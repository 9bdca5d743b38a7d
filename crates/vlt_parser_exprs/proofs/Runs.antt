-- What the automaton does with a symbol, told by what comes.
use Rattle.std.proofs.Common.{◌≡◌, ◌-◌, ◌+◌, ◌==◌, nat_lt, if◌then◌else◌, ℕ, zero, suc, Bool, true, false, List, [], ◌∷◌, ◌++◌, Option, Some, None, Result, Ok, Err, refl, sym, ap, ◌∙◌, arith, append_assoc}
use Rattle.std.proofs.lemmas.Bool.{eq-eqb, ne_eqb}
use Rattle.vlt_tokens.specs.declared.token.Mark.{Mark}
use Rattle.vlt_tokens.specs.declared.token.Word.{Word}
use Rattle.vlt_tokens.specs.declared.token.Word.TheVariants as word
use Rattle.vlt_tokens.specs.declared.token.Mark.TheVariants as mark
use Rattle.vlt_syntax.specs.Tokens as t
use Rattle.vlt_syntax.specs.Tokens.{Token}
use Rattle.vlt_automaton.specs.Language as m
use Rattle.vlt_syntax.specs.Grammar.{language}
use Rattle.vlt_automaton.specs.Language.{Symbol, Reaction, Thing, Pending, Left, Located, run, with_after, next_after, go_on_with, reaction_after, may_skip, depth_read, on_sign}
use Rattle.vlt_automaton.proofs.Sameness.{same_mark-refl}
use Rattle.vlt_tokens.specs.declared.token.Token.{Token as CodeToken}
use Rattle.vlt_parser_exprs.specs.declared.lists.Most.{Most}
use Rattle.vlt_parser_exprs.specs.declared.error.ParseError.{ParseError}
use Rattle.vlt_parser_exprs.specs.declared.error.ParseError.TheVariants.{Limit}
use Rattle.vlt_parser_exprs.specs.Reading.{IsWithin}
use Rattle.vlt_parser_exprs.specs.Ahead.{lexemes_from, Begins, LacksSign, refusal, left_of, IsFull, Follows, Fails, refusal_of}

pub fails_with : (v : m.Verdict) (e : ParseError) (f : m.Refusal) → refusal_of e ≡ Some f → v ≡ Err f → Fails v e
fails_with v e f told is g tells = is ∙ ap Err (some_is f g (sym told ∙ tells))
  where
    some_is : (f g : m.Refusal) → Some f ≡ Some g → f ≡ g
    some_is f g e = cc

-- a stack that leads to another
pub fails_from : (v w : m.Verdict) (e : ParseError) → v ≡ w → Fails w e → Fails v e
fails_from v w e same fails = λ f told. same ∙ fails f told

-- a part that others stand for, from further on
pub instead : {A : Type 0} (xs ys : List Symbol) (next : A → ℕ) (tokens : List CodeToken) (at here : ℕ) (r : Result A ParseError)
    → ((s : List Symbol) → run (xs ++ s) (lexemes_from tokens at) ≡ run (ys ++ s) (lexemes_from tokens here)) → Follows ys next tokens here r → Follows xs next tokens at r
instead xs ys next tokens at here (Ok x) same follows = λ s. same s ∙ follows s
instead xs ys next tokens at here (Err e) same follows = λ s f told. same s ∙ follows s f told

abbrev pub is_skip : Reaction → Bool
is_skip m.skip = true
is_skip _ = false

pub skips_followed : (r : Reaction) (xs : List Symbol) → is_skip (with_after r xs) ≡ is_skip r
skips_followed (m.take ys) xs = refl
skips_followed m.skip xs = refl
skips_followed m.refuse xs = refl
skips_followed (m.exceed n) xs = refl

pub settled_followed : (r : Reaction) (rest s : List Symbol) (a b : Unit {0} → m.Next) → is_skip r ≡ false → next_after (with_after r rest) s a ≡ next_after r (rest ++ s) b
settled_followed (m.take xs) rest s a b e = ap m.to (append_assoc xs rest s)
settled_followed m.skip rest s a b e = absurd cc
settled_followed m.refuse rest s a b e = refl
settled_followed (m.exceed n) rest s a b e = refl

pub settled_alike : (r : Reaction) (s : List Symbol) (a b : Unit {0} → m.Next) → is_skip r ≡ false → next_after r s a ≡ next_after r s b
settled_alike (m.take xs) s a b e = refl
settled_alike m.skip s a b e = absurd cc
settled_alike m.refuse s a b e = refl
settled_alike (m.exceed n) s a b e = refl

-- a symbol that begins as another does, and then has these
pub begins : (y z : Symbol) (rest : List Symbol) → may_skip y ≡ false → may_skip z ≡ false
    → ((x : Token) → reaction_after 0 y x ≡ with_after (reaction_after 0 z x) rest) → ((x : Token) → is_skip (reaction_after 0 z x) ≡ false)
    → (s : List Symbol) (ts : List Located) → run (y ∷ s) ts ≡ run (z ∷ rest ++ s) ts
begins y z rest at_y at_z same takes s [] = rw (at_y, at_z) refl
begins y z rest at_y at_z same takes s (x ∷ xs) =
    rw (same x.token) (ap (go_on_with (m.run_over xs) x.at) (settled_followed (reaction_after 0 z x.token) rest s _ _ (takes x.token)))

-- a symbol that begins with a sign, and that comes
pub sign_taken : (y : Symbol) (opening : Mark) (xs : List Symbol) (other : Token → Reaction) → ((x : Token) → reaction_after 0 y x ≡ on_sign opening x (m.take xs) (other x))
    → (s : List Symbol) (ts rest : List Located) → Begins (t.sign opening) ts rest → run (y ∷ s) ts ≡ run (xs ++ s) rest
sign_taken y opening xs other same s ts rest b = rw b.is (rw (same (t.sign opening)) (rw (same_mark-refl opening) refl))

-- a symbol that may be skipped, and whose sign doesn't come
pub sign_skipped : (y : Symbol) (opening : Mark) (then_this : Reaction) → ((x : Token) → reaction_after 0 y x ≡ on_sign opening x then_this m.skip) → may_skip y ≡ true → depth_read y ≡ 0
    → (s : List Symbol) (ts : List Located) → LacksSign opening ts → run (y ∷ s) ts ≡ run s ts
sign_skipped y opening then_this same may none s [] lacks = rw may refl
sign_skipped y opening then_this same may none s (x ∷ xs) lacks = rw (same x.token) (rw lacks (rw none refl))

-- ---- lists

pub further_closed : (k : Thing) (closing : Mark) (left : Option Left) (s : List Symbol) (ts rest : List Located)
    → Begins (t.sign closing) ts rest → run (m.further k closing left ∷ s) ts ≡ run s rest
further_closed k closing left s ts rest = sign_taken (m.further k closing left) closing [] (λ x. on_sign mark.Comma x (m.one_more k closing left) m.refuse) (λ x. refl) s ts rest

pub further_one : (k : Thing) (closing : Mark) (most : Option Most) (n next : ℕ) (s : List Symbol) (ts rest : List Located)
    → LacksSign closing ts → Begins (t.sign mark.Comma) ts rest → next ≡ n + 1 → IsWithin most next
    → run (m.further k closing (left_of most n) ∷ s) ts ≡ run (m.thing k ∷ m.further k closing (left_of most next) ∷ s) rest
further_one k closing None n next s ts rest lacks b is within = rw b.is (rw (rw b.is at lacks) refl)
further_one k closing (Some most) n next s ts rest lacks b is within =
    let some : (most.count - n == 0) ≡ false = ne_eqb (most.count - n) 0 (λ none. omega (arith, within, none, is)) in
    let one_less : most.count - n - 1 ≡ most.count - next = omega (arith, is) in
    rw b.is (rw (rw b.is at lacks) (rw some (rw one_less refl)))

pub further_full : (k : Thing) (closing : Mark) (most : Option Most) (n : ℕ) (e : ParseError) (s : List Symbol) (ts rest : List Located)
    → LacksSign closing ts → Begins (t.sign mark.Comma) ts rest → IsFull most n e → Fails (run (m.further k closing (left_of most n) ∷ s) ts) e
further_full k closing None n e s ts rest lacks b full = absurd full
further_full k closing (Some most) n e s ts rest lacks b full =
    let none : (most.count - n == 0) ≡ true = eq-eqb (most.count - n) 0 (omega (arith, full.0)) in
    rw full.1 (fails_with (run (m.further k closing (left_of (Some most) n) ∷ s) ts) (Limit most.limit) (m.over_limit most.limit) refl (rw b.is (rw (rw b.is at lacks) (rw none refl))))

pub further_refused : (k : Thing) (closing : Mark) (left : Option Left) (s : List Symbol) (ts : List Located)
    → LacksSign closing ts → LacksSign mark.Comma ts → Fails (run (m.further k closing left ∷ s) ts) (refusal ts)
further_refused k closing left s [] lacks other = fails_with _ (refusal []) m.ended refl refl
further_refused k closing left s (x ∷ xs) lacks other = fails_with _ (refusal (x ∷ xs)) (m.unexpected_at x.at) refl (rw lacks (rw other refl))

pub name_takes : (x : Token) → is_skip (m.start_name x) ≡ false
name_takes (t.name text) = refl
name_takes _ = refl

pub tick_takes : (x : Token) → is_skip (m.start_tick x) ≡ false
tick_takes (t.tick text) = refl
tick_takes _ = refl

pub ty_takes : (x : Token) → is_skip (m.start_ty x) ≡ false
ty_takes (t.keyword word.Int) = refl
ty_takes (t.keyword word.Bool) = refl
ty_takes (t.keyword word.Tracked) = refl
ty_takes (t.name text) = refl
ty_takes _ = refl

pub entry_takes : (x : Token) → is_skip (m.start_entry x) ≡ false
entry_takes (t.sign mark.Minus) = refl
entry_takes (t.sign mark.Plus) = refl
entry_takes (t.keyword word.New) = refl
entry_takes (t.name text) = refl
entry_takes _ = refl

-- a sign or a keyword, or else another thing
if_takes : (b : Bool) (r other : Reaction) → is_skip r ≡ false → is_skip other ≡ false → is_skip (if b then r else other) ≡ false
if_takes true r other e f = e
if_takes false r other e f = f

pub states_takes : (x : Token) → is_skip (m.start_states x) ≡ false
states_takes x = if_takes (m.is_sign mark.OpenBrace x) _ _ refl (name_takes x)

deeper_takes : (depth room : ℕ) (xs : List Symbol) → is_skip (m.if_deeper depth room xs) ≡ false
deeper_takes depth room xs = by_cases (nat_lt depth room)
  where
    by_cases : (b : Bool) → is_skip (if b then m.take xs else m.exceed m.depth_limit) ≡ false
    by_cases true = refl
    by_cases false = refl

pub operand_takes : (room : ℕ) (fs : List Pending) (x : Token) → is_skip (m.start_operand room fs x) ≡ false
operand_takes room fs (t.number z) = refl
operand_takes room fs (t.keyword word.True) = refl
operand_takes room fs (t.keyword word.False) = refl
operand_takes room fs (t.name text) = refl
operand_takes room fs (t.sign mark.OpenParen) = deeper_takes 1 room _
operand_takes room fs (t.sign mark.Minus) = deeper_takes 1 room _
operand_takes room fs (t.sign mark.Not) = deeper_takes 1 room _
operand_takes room fs _ = refl

pub result_type_takes : (x : Token) → is_skip (m.start_result_type x) ≡ false
result_type_takes x = if_takes (m.is_keyword word.Void x) _ _ refl (ty_takes x)

enter_takes : (room : ℕ) (xs : List Symbol) → is_skip (m.enter room xs) ≡ false
enter_takes zero xs = refl
enter_takes (suc room) xs = refl

pub simple_takes : (x : Token) → is_skip (m.start_simple x) ≡ false
simple_takes (t.keyword word.Print) = refl
simple_takes (t.keyword word.Return) = refl
simple_takes (t.keyword word.Break) = refl
simple_takes (t.keyword word.Continue) = refl
simple_takes (t.keyword word.Release) = refl
simple_takes (t.keyword word.Become) = refl
simple_takes (t.keyword word.Swap) = refl
simple_takes (t.keyword word.Open) = refl
simple_takes (t.name text) = refl
simple_takes x = skips_followed (m.start_ty x) m.declaration_tail ∙ ty_takes x

pub stmt_takes : (room : ℕ) (x : Token) → is_skip (m.start_stmt room x) ≡ false
stmt_takes room (t.sign mark.OpenBrace) = enter_takes room _
stmt_takes room (t.keyword word.If) = enter_takes room _
stmt_takes room (t.keyword word.While) = enter_takes room _
stmt_takes room (t.keyword word.Switch) = enter_takes room _
stmt_takes room (t.keyword word.Focus) = enter_takes room _
stmt_takes room x = simple_takes x

pub decl_takes : (x : Token) → is_skip (m.start_decl x) ≡ false
decl_takes (t.keyword word.Stateset) = refl
decl_takes (t.keyword word.Abstract) = refl
decl_takes (t.keyword word.Struct) = refl
decl_takes (t.keyword word.Variant) = refl
decl_takes (t.keyword word.Extern) = refl
decl_takes x = skips_followed (m.start_head x) (m.block language.depth ∷ []) ∙ skips_followed (m.start_result_type x) m.head_rest ∙ result_type_takes x

pub thing_takes : (k : Thing) (x : Token) → is_skip (m.start_thing k x) ≡ false
thing_takes m.a_name x = name_takes x
thing_takes m.a_param x = skips_followed (m.start_name x) _ ∙ name_takes x
thing_takes m.a_ty x = ty_takes x
thing_takes m.a_key x = skips_followed (m.start_name x) _ ∙ name_takes x
thing_takes m.a_case x = skips_followed (m.start_tick x) _ ∙ tick_takes x
thing_takes m.a_parameter x = skips_followed (m.start_ty x) _ ∙ ty_takes x
thing_takes m.an_entry x = entry_takes x
thing_takes m.an_expr x = skips_followed (m.start_operand language.depth m.whole_expr x) _ ∙ operand_takes language.depth m.whole_expr x
thing_takes m.an_init x = skips_followed (m.start_name x) _ ∙ name_takes x
thing_takes m.a_result_type x = result_type_takes x
thing_takes m.a_simple x = simple_takes x
thing_takes (m.a_stmt room) x = stmt_takes room x
thing_takes m.a_decl x = decl_takes x

pub listed_closed : (k : Thing) (closing : Mark) (left : Option Left) (s : List Symbol) (ts rest : List Located)
    → Begins (t.sign closing) ts rest → run (m.listed k closing left ∷ s) ts ≡ run s rest
listed_closed k closing left s ts rest = sign_taken (m.listed k closing left) closing [] (λ x. with_after (m.start_thing k x) (m.further k closing (m.less left) ∷ [])) (λ x. refl) s ts rest

-- a limit with one less
less_one : (most : Option Most) → m.less (left_of most 0) ≡ left_of most 1
less_one None = refl
less_one (Some most) = ap (λ more. Some (record { limit = most.limit; more = more })) (omega arith)

pub listed_some : (k : Thing) (closing : Mark) (most : Option Most) (s : List Symbol) (ts : List Located)
    → LacksSign closing ts → run (m.listed k closing (left_of most 0) ∷ s) ts ≡ run (m.thing k ∷ m.further k closing (left_of most 1) ∷ s) ts
listed_some k closing most s [] lacks = refl
listed_some k closing most s (x ∷ xs) lacks =
    rw lacks (rw (less_one most) (ap (go_on_with (m.run_over xs) x.at) (settled_followed (m.start_thing k x.token) (m.further k closing (left_of most 1) ∷ []) s _ _ (thing_takes k x.token))))

pub enclosed_some : (k : Thing) (opening closing : Mark) (most : Option Most) (s : List Symbol) (ts rest : List Located)
    → Begins (t.sign opening) ts rest → run (m.enclosed k opening closing (left_of most 0) ∷ s) ts ≡ run (m.thing k ∷ m.further k closing (left_of most 1) ∷ s) rest
enclosed_some k opening closing most s ts rest b =
    sign_taken (m.enclosed k opening closing (left_of most 0)) opening (m.thing k ∷ m.further k closing (m.less (left_of most 0)) ∷ []) (λ x. m.skip) (λ x. refl) s ts rest b
    ∙ ap (λ l. run (m.thing k ∷ m.further k closing l ∷ s) rest) (less_one most)

pub enclosed_none : (k : Thing) (opening closing : Mark) (left : Option Left) (s : List Symbol) (ts : List Located)
    → LacksSign opening ts → run (m.enclosed k opening closing left ∷ s) ts ≡ run s ts
enclosed_none k opening closing left s ts = sign_skipped (m.enclosed k opening closing left) opening (m.take (m.thing k ∷ m.further k closing (m.less left) ∷ [])) (λ x. refl) refl refl s ts

-- ---- types

pub marked_some : (opening : Mark) (s : List Symbol) (ts rest : List Located) → Begins (t.sign opening) ts rest → run (m.marked_name opening ∷ s) ts ≡ run (m.name ∷ s) rest
marked_some opening s ts rest = sign_taken (m.marked_name opening) opening (m.name ∷ []) (λ x. m.skip) (λ x. refl) s ts rest

pub marked_none : (opening : Mark) (s : List Symbol) (ts : List Located) → LacksSign opening ts → run (m.marked_name opening ∷ s) ts ≡ run s ts
marked_none opening s ts = sign_skipped (m.marked_name opening) opening (m.take (m.name ∷ [])) (λ x. refl) refl refl s ts

pub states_several : (s : List Symbol) (ts rest : List Located) → Begins (t.sign mark.OpenBrace) ts rest → run (m.states ∷ s) ts ≡ run (m.name ∷ m.further m.a_name mark.CloseBrace None ∷ s) rest
states_several s ts rest = sign_taken m.states mark.OpenBrace (m.name ∷ m.further m.a_name mark.CloseBrace None ∷ []) m.start_name (λ x. refl) s ts rest

pub states_one : (s : List Symbol) (ts : List Located) → LacksSign mark.OpenBrace ts → run (m.states ∷ s) ts ≡ run (m.name ∷ s) ts
states_one s [] lacks = refl
states_one s (x ∷ xs) lacks = rw lacks (ap (go_on_with (m.run_over xs) x.at) (settled_alike (m.start_name x.token) s _ _ (name_takes x.token)))

pub at_states_some : (s : List Symbol) (ts rest : List Located) → Begins (t.sign mark.At) ts rest → run (m.at_states ∷ s) ts ≡ run (m.states ∷ s) rest
at_states_some s ts rest = sign_taken m.at_states mark.At (m.states ∷ []) (λ x. m.skip) (λ x. refl) s ts rest

pub at_states_none : (s : List Symbol) (ts : List Located) → LacksSign mark.At ts → run (m.at_states ∷ s) ts ≡ run s ts
at_states_none s ts = sign_skipped m.at_states mark.At (m.take (m.states ∷ [])) (λ x. refl) refl refl s ts

pub key_is : (s : List Symbol) (ts : List Located) → run (m.thing m.a_key ∷ s) ts ≡ run (m.name ∷ m.at_states ∷ s) ts
key_is s ts = begins (m.thing m.a_key) m.name (m.at_states ∷ []) refl refl (λ x. refl) name_takes s ts

pub named_is : (s : List Symbol) (ts : List Located) → run (m.named ∷ s) ts ≡ run (m.name ∷ m.enclosed m.a_name mark.Less mark.Greater None ∷ s) ts
named_is s ts = begins m.named m.name m.named_rest refl refl (λ x. refl) name_takes s ts

pub tracked_keyed : (s : List Symbol) (ts rest : List Located) → Begins (t.sign mark.OpenParen) ts rest → run (m.after_tracked ∷ s) ts ≡ run (m.name ∷ m.sign mark.CloseParen ∷ m.named ∷ s) rest
tracked_keyed s ts rest = sign_taken m.after_tracked mark.OpenParen (m.name ∷ m.sign mark.CloseParen ∷ m.named ∷ [])
    (λ x. on_sign mark.At x (m.take (m.states ∷ m.named ∷ [])) (with_after (m.start_name x) m.named_rest)) (λ x. refl) s ts rest

pub tracked_plain : (s : List Symbol) (ts : List Located) → LacksSign mark.OpenParen ts → run (m.after_tracked ∷ s) ts ≡ run (m.at_states ∷ m.named ∷ s) ts
tracked_plain s [] lacks = refl
tracked_plain s (x ∷ xs) lacks = rw lacks (by_at (m.is_sign mark.At x.token))
  where
    by_at : (b : Bool) → go_on_with (m.run_over xs) x.at (next_after (if b then m.take (m.states ∷ m.named ∷ []) else with_after (m.start_name x.token) m.named_rest) s (λ u. m.step_after 0 s x.token))
        ≡ go_on_with (m.run_over xs) x.at (next_after (if b then m.take (m.states ∷ []) else m.skip) (m.named ∷ s) (λ u. m.step_after 0 (m.named ∷ s) x.token))
    by_at true = refl
    by_at false = ap (go_on_with (m.run_over xs) x.at) (settled_alike (with_after (m.start_name x.token) m.named_rest) s _ _ (skips_followed (m.start_name x.token) m.named_rest ∙ name_takes x.token))

pub type_name_guards : (s : List Symbol) (ts rest : List Located) → Begins (t.sign mark.Colon) ts rest → run (m.after_type_name ∷ s) ts ≡ run (m.named ∷ s) rest
type_name_guards s ts rest = sign_taken m.after_type_name mark.Colon (m.named ∷ []) (λ x. on_sign mark.Less x (m.take (m.name ∷ m.further m.a_name mark.Greater None ∷ [])) m.skip) (λ x. refl) s ts rest

pub type_name_plain : (s : List Symbol) (ts : List Located) → LacksSign mark.Colon ts → run (m.after_type_name ∷ s) ts ≡ run (m.enclosed m.a_name mark.Less mark.Greater None ∷ s) ts
type_name_plain s [] lacks = refl
type_name_plain s (x ∷ xs) lacks = rw lacks refl

pub ty_word : (w : Word) (xs : List Symbol) (s : List Symbol) (ts rest : List Located) → m.start_ty (t.keyword w) ≡ m.take xs → Begins (t.keyword w) ts rest → run (m.thing m.a_ty ∷ s) ts ≡ run (xs ++ s) rest
ty_word w xs s ts rest is b = rw b.is (rw is refl)

pub ty_named : (text : List ℕ) (s : List Symbol) (ts rest : List Located) → Begins (t.name text) ts rest → run (m.thing m.a_ty ∷ s) ts ≡ run (m.name ∷ m.after_type_name ∷ s) ts
ty_named text s ts rest b = rw b.is refl

-- a bound that nothing was taken from
pub bounded : (most : Most) (limit count : ℕ) → most.limit ≡ limit → most.count ≡ count → left_of (Some most) 0 ≡ Some (record { limit = limit; more = count })
bounded most limit count is_limit is_count = rw (is_limit, is_count) (ap (λ more. Some (record { limit = limit; more = more })) (omega arith))

-- one where the first thing is taken
pub bounded_below : (most : Most) (limit count : ℕ) → most.limit ≡ limit → most.count ≡ count → left_of (Some most) 1 ≡ Some (record { limit = limit; more = count - 1 })
bounded_below most limit count is_limit is_count = rw (is_limit, is_count) refl
