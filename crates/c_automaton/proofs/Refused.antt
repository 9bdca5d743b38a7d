-- The automaton refuses as the grammar does.
use Rattle.std.proofs.Common.{◌≡◌, ℕ, suc, ◌+◌, ◌-◌, ◌<◌, ◌≤◌, nat_le, Bool, true, false, if◌then◌else◌, List, [], ◌∷◌, ◌++◌, length, take, Some, inl, inr, refl, sym, ap, subst, ◌∙◌, arith}
use Rattle.std.specs.Prelude.{Ok, Err, slice_get}
use Rattle.std.proofs.lemmas.Bool.Decides.{nat_tests}
use Rattle.vlt_base.specs.declared.limits.TheConstants.{C_BLOCK_DEPTH, C_EXPRESSION_DEPTH}
use Rattle.c_syntax.specs.Tokens.{Token}
use Rattle.c_syntax.specs.Text.{Lexeme}
use Rattle.c_syntax.specs.Grammar.{Bounds, language}
use Rattle.c_syntax.specs.Reading.{tokens_in, places_in, Continues, any_size, within_limits, within_blocks, within_expressions, IsLastOf}
use Rattle.c_automaton.specs.Refusals.{Refusal, unexpected_at, cut_short, over_limit, IsRefusal}
use Rattle.c_automaton.specs.Automaton.{Symbol, Next, to, unexpected, over, step, may_end, Verdict, onward, run, start}
use Rattle.c_automaton.specs.Laws.{RefusesAsTheGrammar}
use Rattle.c_automaton.proofs.After.{bind, after}
use Rattle.c_automaton.proofs.Units.{unit_taken}
use Rattle.c_automaton.proofs.Whole.{between, goes_on}
use Rattle.c_automaton.proofs.Steps.{refused_always, one_way, IsWider, wider_after, IsOver, blocks_of, expressions_of, Exceeds, over_step}

-- ---- where the automaton stops

-- it takes the tokens before this one, after which it comes to that
pub record StopsAt (b : Bounds) (ys : List Symbol) (ls : List Lexeme) (n : Next) (at : ℕ) : Type 0 where
  pub index : ℕ
  pub inside : index < length (tokens_in ls)
  pub place : slice_get (places_in ls) index ≡ Some at
  pub stack : List Symbol
  pub taken : after b (take index (tokens_in ls)) ys ≡ to stack
  pub token : Token
  pub split : take (suc index) (tokens_in ls) ≡ take index (tokens_in ls) ++ token ∷ []
  pub stops : step b stack token ≡ n

-- it takes all, and may not end
pub record Ends (b : Bounds) (ys : List Symbol) (ls : List Lexeme) : Type 0 where
  pub stack : List Symbol
  pub taken : after b (tokens_in ls) ys ≡ to stack
  pub opening : may_end stack ≡ false

abbrev Reason : Bounds → List Symbol → List Lexeme → Refusal → Type 0
Reason b ys ls (unexpected_at at) = StopsAt b ys ls unexpected at
Reason b ys ls cut_short = Ends b ys ls
Reason b ys ls (over_limit n) = (at : ℕ) × StopsAt b ys ls (over n) at

one_more : (n : ℕ) (ls : List Lexeme) → n < length (tokens_in ls) → suc n < suc (length (tokens_in ls))
one_more n ls h = omega (arith, h)

later : (b : Bounds) (ys zs : List Symbol) (x : Lexeme) (ls : List Lexeme) (n : Next) (at : ℕ) → step b ys x.token ≡ to zs → StopsAt b zs ls n at → StopsAt b ys (x ∷ ls) n at
later b ys zs x ls n at e h = record {
  index = suc h.index;
  inside = one_more h.index ls h.inside;
  place = h.place;
  stack = h.stack;
  taken = ap (bind (after b (take h.index (tokens_in ls)))) e ∙ h.taken;
  token = h.token;
  split = ap (λ ts. x.token ∷ ts) h.split;
  stops = h.stops;
}

at_once : (b : Bounds) (ys : List Symbol) (x : Lexeme) (ls : List Lexeme) (n : Next) → step b ys x.token ≡ n → StopsAt b ys (x ∷ ls) n x.at
at_once b ys x ls n e = record { index = 0; inside = omega arith; place = refl; stack = ys; taken = refl; token = x.token; split = refl; stops = e }

abbrev refused : Refusal → Verdict
refused e = Err e

told : (e f : Refusal) → refused e ≡ refused f → e ≡ f
told e f h = cc

abbrev taken_all : Verdict
taken_all = Ok tt

ended : (d : Bool) (f : Refusal) → (if d then taken_all else refused cut_short) ≡ refused f → (cut_short ≡ f) × (d ≡ false)
ended true f e = absurd cc
ended false f e = (told cut_short f e, refl)

moved : (b : Bounds) (ys zs : List Symbol) (x : Lexeme) (ls : List Lexeme) (f : Refusal) → step b ys x.token ≡ to zs → Reason b zs ls f → Reason b ys (x ∷ ls) f
moved b ys zs x ls (unexpected_at at) e r = later b ys zs x ls unexpected at e r
moved b ys zs x ls cut_short e r = record { stack = r.stack; taken = ap (bind (after b (tokens_in ls))) e ∙ r.taken; opening = r.opening }
moved b ys zs x ls (over_limit n) e r = (r.0, later b ys zs x ls (over n) r.0 e r.1)

stepped : (b : Bounds) (ys : List Symbol) (x : Lexeme) (ls : List Lexeme) (n : Next) (f : Refusal) → step b ys x.token ≡ n → ((zs : List Symbol) → run b zs ls ≡ Err f → Reason b zs ls f)
    → onward (λ zs. run b zs ls) x.at n ≡ Err f → Reason b ys (x ∷ ls) f
stepped b ys x ls (to zs) f e go h = moved b ys zs x ls f e (go zs h)
stepped b ys x ls unexpected f e go h = subst (Reason b ys (x ∷ ls)) (told (unexpected_at x.at) f h) (at_once b ys x ls unexpected e)
stepped b ys x ls (over n) f e go h = subst (Reason b ys (x ∷ ls)) (told (over_limit n) f h) (x.at, at_once b ys x ls (over n) e)

reason : (b : Bounds) (ys : List Symbol) (ls : List Lexeme) (f : Refusal) → run b ys ls ≡ Err f → Reason b ys ls f
reason b ys [] f h =
    let q = ended (may_end ys) f h in
    subst (Reason b ys []) q.0 (record { stack = ys; taken = refl; opening = q.1 })
reason b ys (x ∷ ls) f h = stepped b ys x ls (step b ys x.token) f refl (λ zs e. reason b zs ls f e) h

-- ---- texts that go on after a token

-- where more is taken, so is what comes first
pub record Parted (b : Bounds) (xs zs : List Token) (ys last : List Symbol) : Type 0 where
  pub middle : List Symbol
  pub first : after b xs ys ≡ to middle
  pub second : after b zs middle ≡ to last

pub parted : (b : Bounds) (xs zs : List Token) (ys last : List Symbol) → after b (xs ++ zs) ys ≡ to last → Parted b xs zs ys last
parted b [] zs ys last e = record { middle = ys; first = refl; second = e }
parted b (x ∷ xs) zs ys last e =
    let m = between (after b (xs ++ zs)) (step b ys x) last e in
    let q = parted b xs zs m.middle last m.second in
    record { middle = q.middle; first = ap (bind (after b xs)) m.first ∙ q.first; second = q.second }

-- a text within these bounds has the automaton step over the token
pub record StepsOver (asked : Bounds → Type 0) (ys : List Symbol) (x : Token) : Type 0 where
  pub bounds : Bounds
  pub is_asked : asked bounds
  pub stack : List Symbol
  pub steps : step bounds ys x ≡ to stack

steps_over : (asked : Bounds → Type 0) (ls : List Lexeme) (n : Next) (at : ℕ) (h : StopsAt language start ls n at) → Continues asked (take (suc h.index) (tokens_in ls)) → StepsOver asked h.stack h.token
steps_over asked ls n at h c =
    let front : List Token = take h.index (tokens_in ls) in
    let all = unit_taken c.bounds c.unit c.within in
    let whole : after c.bounds ((front ++ h.token ∷ []) ++ c.more) start ≡ to all.last =
    subst (λ ts. after c.bounds (ts ++ c.more) start ≡ to all.last) h.split (subst (λ ts. after c.bounds ts start ≡ to all.last) c.spelled all.taken) in
    let outer = parted c.bounds (front ++ h.token ∷ []) c.more start all.last whole in
    let inner = parted c.bounds front (h.token ∷ []) start outer.middle outer.first in
    let last = between (after c.bounds []) (step c.bounds inner.middle h.token) outer.middle inner.second in
    let same = one_way language c.bounds front start h.stack inner.middle h.taken inner.first in
    record {
      bounds = c.bounds;
      is_asked = c.is_asked;
      stack = last.middle;
      steps = subst (λ s. step c.bounds s h.token ≡ to last.middle) (sym same) last.first;
    }

pub continues : (asked : Bounds → Type 0) (b : Bounds) (ts : List Token) (zs : List Symbol) → asked b → 1 ≤ b.expressions → after b ts start ≡ to zs → Continues asked ts
continues asked b ts zs is some e =
    let q = goes_on b ts zs some e in
    record { bounds = b; is_asked = is; unit = q.unit; within = q.within; more = q.more; spelled = q.spelled }

pub some_depth : 1 ≤ language.expressions
some_depth = omega arith

last_of : (ls : List Lexeme) (n : Next) (at : ℕ) (h : StopsAt language start ls n at) → (Continues within_limits (take (suc h.index) (tokens_in ls)) → ⊥) → IsLastOf (tokens_in ls) h.index
last_of ls n at h none = record {
  inside = h.inside;
  before = continues within_limits language (take h.index (tokens_in ls)) h.stack refl some_depth h.taken;
  following = none;
}

-- ---- the three refusals

not_to : (zs : List Symbol) → unexpected ≡ to zs → ⊥
not_to zs e = cc

weaker : (ts : List Token) → Continues within_limits ts → Continues any_size ts
weaker ts c = record { bounds = c.bounds; is_asked = tt; unit = c.unit; within = c.within; more = c.more; spelled = c.spelled }

unexpected_refused : (ls : List Lexeme) (at : ℕ) → StopsAt language start ls unexpected at → IsRefusal ls (unexpected_at at)
unexpected_refused ls at h =
    let none : Continues any_size (take (suc h.index) (tokens_in ls)) → ⊥ = λ c.
    let q = steps_over any_size ls unexpected at h c in
    not_to q.stack (sym (refused_always language q.bounds h.stack h.token h.stops) ∙ q.steps) in
    (h.index, h.place, record { last = last_of ls unexpected at h (λ c. none (weaker (take (suc h.index) (tokens_in ls)) c)); none = none })

cut_refused : (ls : List Lexeme) → Ends language start ls → IsRefusal ls cut_short
cut_refused ls h = record {
  some = continues within_limits language (tokens_in ls) h.stack refl some_depth h.taken;
  none = λ b u within spelled.
      let all = unit_taken b u within in
      let same = one_way language b (tokens_in ls) start h.stack all.last h.taken (subst (λ ts. after b ts start ≡ to all.last) spelled all.taken) in
      differ (may_end all.last) (sym all.ends) (sym (ap may_end same) ∙ h.opening);
}
  where
    differ : (d : Bool) → true ≡ d → d ≡ false → ⊥
    differ d e g = cc

-- where a test fails, the token isn't stepped over
over_no : (d : Bool) (n : ℕ) (zs us : List Symbol) → d ≡ false → (if d then to zs else over n) ≡ to us → ⊥
over_no true n zs us e g = cc
over_no false n zs us e g = cc

narrower : (m j k : ℕ) → k ≤ j → nat_le m (j - 1) ≡ false → nat_le m (k - 1) ≡ false
narrower m j k h e = grind (arith, nat_tests)

no_more : (depth_of : Bounds → ℕ) (d : Bounds) → d ≡ language → depth_of d ≤ depth_of language
no_more depth_of d is = let same = ap depth_of is in omega (arith, same)

not_within : (depth_of : Bounds → ℕ) (limit : ℕ) (kept : Bounds → Type 0) → ((d : Bounds) → kept d → depth_of d ≤ depth_of language)
    → (ls : List Lexeme) (n : Next) (at : ℕ) (h : StopsAt language start ls n at) → IsOver depth_of limit (λ d. step d h.stack h.token) language
    → Continues kept (take (suc h.index) (tokens_in ls)) → ⊥
not_within depth_of limit kept small ls n at h o c =
    let q = steps_over kept ls n at h c in
    over_no (nat_le o.depth (depth_of q.bounds - 1)) limit o.stack q.stack (narrower o.depth (depth_of language) (depth_of q.bounds) (small q.bounds q.is_asked) o.exceeds) (sym (o.goes q.bounds) ∙ q.steps)

-- so much more of both
abbrev far : ℕ → Bounds
far k = record { blocks = suc (k + language.blocks); expressions = suc (k + language.expressions) }

far_is_wider : (k : ℕ) → IsWider language (far k)
far_is_wider k = record { blocks = omega arith; expressions = omega arith }

fits_far : (k n : ℕ) → nat_le k (suc (k + n) - 1) ≡ true
fits_far k n = grind (arith, nat_tests)

same_stack : (ys zs : List Symbol) → to ys ≡ to zs → ys ≡ zs
same_stack ys zs e = cc

pub joined : (b : Bounds) (xs : List Token) (x : Token) (ys zs us : List Symbol) → after b xs ys ≡ to zs → step b zs x ≡ to us → after b (xs ++ x ∷ []) ys ≡ to us
joined b [] x ys zs us e g = subst (λ s. bind (after b []) (step b s x) ≡ to us) (sym (same_stack ys zs e)) (ap (bind (after b [])) g)
joined b (y ∷ xs) x ys zs us e g =
    let m = between (after b xs) (step b ys y) zs e in
    ap (bind (after b (xs ++ x ∷ []))) m.first ∙ joined b xs x m.middle zs us m.second g

some_text : (depth_of : Bounds → ℕ) (limit : ℕ) → ((k : ℕ) → nat_le k (depth_of (far k) - 1) ≡ true)
    → (ls : List Lexeme) (n : Next) (at : ℕ) (h : StopsAt language start ls n at) → IsOver depth_of limit (λ d. step d h.stack h.token) language
    → Continues any_size (take (suc h.index) (tokens_in ls))
some_text depth_of limit fits ls n at h o =
    let front : List Token = take h.index (tokens_in ls) in
    let d : Bounds = far o.depth in
    let first : after d front start ≡ to h.stack = wider_after language d front start h.stack (far_is_wider o.depth) h.taken in
    let second : step d h.stack h.token ≡ to o.stack = o.goes d ∙ ap (λ b. if b then to o.stack else over limit) (fits o.depth) in
    continues any_size d (take (suc h.index) (tokens_in ls)) o.stack tt (omega arith)
    (subst (λ ts. after d ts start ≡ to o.stack) (sym h.split) (joined d front h.token start h.stack o.stack first second))

over_refused : (ls : List Lexeme) (n at : ℕ) (h : StopsAt language start ls (over n) at) → Exceeds (λ d. step d h.stack h.token) language n → IsRefusal ls (over_limit n)
over_refused ls n at h (inl q) =
    let none : Continues within_blocks (take (suc h.index) (tokens_in ls)) → ⊥ = not_within blocks_of C_BLOCK_DEPTH within_blocks (λ d is. is) ls (over n) at h q.1 in
    let following : Continues within_limits (take (suc h.index) (tokens_in ls)) → ⊥ = not_within blocks_of C_BLOCK_DEPTH within_limits (λ d is. no_more blocks_of d is) ls (over n) at h q.1 in
    (h.index, inl (q.0, record { last = last_of ls (over n) at h following; some = some_text blocks_of C_BLOCK_DEPTH (λ k. fits_far k language.blocks) ls (over n) at h q.1; none = none }))
over_refused ls n at h (inr q) =
    let none : Continues within_expressions (take (suc h.index) (tokens_in ls)) → ⊥ = not_within expressions_of C_EXPRESSION_DEPTH within_expressions (λ d is. is) ls (over n) at h q.1 in
    let following : Continues within_limits (take (suc h.index) (tokens_in ls)) → ⊥ = not_within expressions_of C_EXPRESSION_DEPTH within_limits (λ d is. no_more expressions_of d is) ls (over n) at h q.1 in
    (h.index, inr (q.0, record { last = last_of ls (over n) at h following; some = some_text expressions_of C_EXPRESSION_DEPTH (λ k. fits_far k language.expressions) ls (over n) at h q.1; none = none }))

refused_as_told : (ls : List Lexeme) (f : Refusal) → Reason language start ls f → IsRefusal ls f
refused_as_told ls (unexpected_at at) r = unexpected_refused ls at r
refused_as_told ls cut_short r = cut_refused ls r
refused_as_told ls (over_limit n) r = over_refused ls n r.0 r.1 (over_step language n r.1.stack r.1.token r.1.stops)

pub refuses_as_the_grammar : RefusesAsTheGrammar
refuses_as_the_grammar ls f e = refused_as_told ls f (reason language start ls f e)
