-- The states of a set, read one by one.
use Rattle.std.proofs.Common.{◌≡◌, ◌+◌, ◌-◌, ◌≤◌, ◌==◌, ℕ, Bool, true, false, List, [], ◌∷◌, ◌++◌, Err, refl, sym, ap, ◌∙◌, subst, arith, append_assoc, length, map, length-append}
use Rattle.std.proofs.lemmas.Bool.{eq-eqb, ne_eqb}
use Rattle.std.proofs.lemmas.List.{length-map}
use Rattle.vlt_tokens.specs.declared.token.Mark.TheVariants as mark
use Rattle.vlt_tokens.specs.declared.token.Token.{Token as CodeToken}
use Rattle.vlt_syntax.specs.Tokens as t
use Rattle.vlt_syntax.specs.Tokens.{Token}
use Rattle.vlt_syntax.specs.Tree.{Name, SetState}
use Rattle.vlt_syntax.specs.Spelling.{name_then, state_sign, further_states_then, set_states_then}
use Rattle.vlt_syntax.specs.Grammar.{BeginsChain, language}
use Rattle.vlt_syntax.specs.Places.{name_at, set_state_at}
use Rattle.vlt_automaton.specs.Language as m
use Rattle.vlt_automaton.specs.Language.{Symbol, Located, run, on_sign}
use Rattle.vlt_parser_exprs.specs.Ahead.{Begins, LacksSign, Fails, refusal}
use Rattle.vlt_parser_exprs.specs.Reading.{Stands}
use Rattle.vlt_parser_exprs.specs.declared.error.ParseError.{ParseError}
use Rattle.vlt_parser_exprs.specs.declared.error.ParseError.TheVariants.{Limit}
use Rattle.vlt_parser_exprs.proofs.Runs.{fails_with, sign_taken}
use Rattle.vlt_parser.specs.Declarations.{states_left}

-- ---- what is spelled

abbrev pub state : Bool → Name → SetState
state above n = record { name = n; above = above }

-- the rest of the set is spelled from the second on, the whole from the first
abbrev pub StatesGoOn : (start : List Token) (items : List SetState) (above : Bool) (here : List Token) → Type 0
StatesGoOn start items above here =
    (n : Name) (xs : List SetState) (rest : List Token) → here ≡ name_then n (further_states_then xs rest) → start ≡ set_states_then (items ++ state above n ∷ xs) rest

-- one more state and the sign before the next were read
pub states_go_on : (start : List Token) (all items : List SetState) (above link : Bool) (item : Name) (here following next : List Token)
    → all ≡ items ++ state above item ∷ [] → StatesGoOn start items above here → here ≡ name_then item following → following ≡ t.sign (state_sign link) ∷ next → StatesGoOn start all link next
states_go_on start all items above link item here following next grown before is_item is_link n xs rest is =
    before item (state link n ∷ xs) rest (is_item ∙ ap (name_then item) (is_link ∙ ap (λ ts. t.sign (state_sign link) ∷ ts) is))
    ∙ ap (λ ys. set_states_then ys rest) (sym (append_assoc items (state above item ∷ []) (state link n ∷ xs)) ∙ ap (λ ys. ys ++ state link n ∷ xs) (sym grown))

-- the last state and the closing brace were read
pub states_closed : (start : List Token) (all items : List SetState) (above : Bool) (item : Name) (here following rest : List Token)
    → all ≡ items ++ state above item ∷ [] → StatesGoOn start items above here → here ≡ name_then item following → following ≡ t.sign mark.CloseBrace ∷ rest → start ≡ set_states_then all rest
states_closed start all items above item here following rest grown before is_item is_closing =
    before item [] rest (is_item ∙ ap (name_then item) is_closing) ∙ ap (λ ys. set_states_then ys rest) (sym grown)

-- ---- the first begins a chain

abbrev pub BeginsOn : (items : List SetState) (above : Bool) → Type 0
BeginsOn items above = (n : Name) (xs : List SetState) → BeginsChain (items ++ state above n ∷ xs)

pub begins_on : (all items : List SetState) (above link : Bool) (item : Name) → all ≡ items ++ state above item ∷ [] → BeginsOn items above → BeginsOn all link
begins_on all items above link item grown before n xs =
    subst BeginsChain (sym (append_assoc items (state above item ∷ []) (state link n ∷ xs)) ∙ ap (λ ys. ys ++ state link n ∷ xs) (sym grown)) (before item (state link n ∷ xs))

pub begins_whole : (all items : List SetState) (above : Bool) (item : Name) → all ≡ items ++ state above item ∷ [] → BeginsOn items above → BeginsChain all
begins_whole all items above item grown before = subst BeginsChain (sym grown) (before item [])

-- ---- places

pub state_stands : (tokens : List CodeToken) (above : Bool) (n : Name) (here following : ℕ) → Stands name_at tokens here n following → Stands set_state_at tokens here (state above n) following
state_stands tokens above n here following is = ap (λ x. (state above x.0, x.1)) is

-- ---- how many there are

pub few_pushed : {X Y : Type 0} (view : X → Y) (all items : List X) (item : X) (most : ℕ) → all ≡ items ++ item ∷ [] → length items + 1 ≤ most → length (map view all) ≤ most
few_pushed view all items item most grown few = rw (length-map all view) (rw grown (rw (length-append items (item ∷ [])) few))

-- ---- what the automaton does

pub states_end : (n : ℕ) (s : List Symbol) (ts rest : List Located) → Begins (t.sign mark.CloseBrace) ts rest → run (m.further_states (states_left n) ∷ s) ts ≡ run s rest
states_end n s ts rest =
    sign_taken (m.further_states (states_left n)) mark.CloseBrace []
    (λ x. on_sign mark.Comma x (m.one_more_state (states_left n)) (on_sign mark.Less x (m.one_more_state (states_left n)) m.refuse)) (λ x. refl) s ts rest

pub state_more : (above : Bool) (n next : ℕ) (s : List Symbol) (ts rest : List Located) → Begins (t.sign (state_sign above)) ts rest → next ≡ n + 1 → next ≤ language.states
    → run (m.further_states (states_left n) ∷ s) ts ≡ run (m.name ∷ m.further_states (states_left next) ∷ s) rest
state_more true n next s ts rest b is within =
    let some : (language.states - n == 0) ≡ false = ne_eqb (language.states - n) 0 (λ none. omega (arith, within, none, is)) in
    let one_less : language.states - n - 1 ≡ language.states - next = omega (arith, is) in
    rw b.is (rw some (rw one_less refl))
state_more false n next s ts rest b is within =
    let some : (language.states - n == 0) ≡ false = ne_eqb (language.states - n) 0 (λ none. omega (arith, within, none, is)) in
    let one_less : language.states - n - 1 ≡ language.states - next = omega (arith, is) in
    rw b.is (rw some (rw one_less refl))

pub states_full : (above : Bool) (n : ℕ) (e : ParseError) (s : List Symbol) (ts rest : List Located) → Begins (t.sign (state_sign above)) ts rest → language.states ≤ n → e ≡ Limit 5
    → Fails (run (m.further_states (states_left n) ∷ s) ts) e
states_full above n e s ts rest b full is = rw is (fails_with (run (m.further_states (states_left n) ∷ s) ts) (Limit 5) (m.over_limit 5) refl (over above b)) where
  none : (language.states - n == 0) ≡ true
  none = eq-eqb (language.states - n) 0 (omega (arith, full))

  over : (above : Bool) → Begins (t.sign (state_sign above)) ts rest → run (m.further_states (states_left n) ∷ s) ts ≡ Err (m.over_limit 5)
  over true b = rw b.is (rw none refl)
  over false b = rw b.is (rw none refl)

pub states_refused : (n : ℕ) (s : List Symbol) (ts : List Located) → LacksSign mark.CloseBrace ts → LacksSign mark.Comma ts → LacksSign mark.Less ts
    → Fails (run (m.further_states (states_left n) ∷ s) ts) (refusal ts)
states_refused n s [] lacks comma less = fails_with _ (refusal []) m.ended refl refl
states_refused n s (x ∷ xs) lacks comma less = fails_with _ (refusal (x ∷ xs)) (m.unexpected_at x.at) refl (rw lacks (rw comma (rw less refl)))
