-- The joined program is elaborated, and accepted where its views are.
use Rattle.std.proofs.Common.{◌≡◌, ◌⊎◌, inl, inr, ⊎_elim, ℕ, false, List, [], ◌∷◌, Option, Some, None, slice_get, Ok, refl, sym, ap, ap₂, ◌∙◌, subst}
use Rattle.std.proofs.lemmas.Option.{none-some, same_Some}
use Rattle.vlt_syntax.specs.Tree as s
use Rattle.vlt_syntax.specs.Tree.{Decl}
use Rattle.vlt_syntax.specs.Lists.{Each}
use Rattle.vlt_core.specs.Core.{Func, Program}
use Rattle.vlt_core.specs.Instances.{instance, IsOrigin}
use Rattle.vlt_core.specs.Derives.{IsAcceptedFunc, IsAccepted}
use Rattle.vlt_core.specs.Kinded.{function_rows}
use Rattle.vlt_core_laws.proofs.Unbroken.{each_of_first}
use Rattle.vlt_link_laws.specs.CoreMoves.Keeps.{HasClauseOf, Keeps}
use Rattle.vlt_link_laws.proofs.OfCoreMoves.Rowed.{rows_know}
use Rattle.vlt_link_laws.proofs.OfCoreMoves.Flows.{still_accepted}
use Rattle.vlt_kinds_types.specs.Names.Globals.{globals_of}
use Rattle.vlt_kinds_decls.specs.Names as nam
use Rattle.vlt_kinds_types.specs.Names.Refusals.{of_each}
use Rattle.vlt_kinds_types.specs.Files.{file_of}
use Rattle.vlt_kinds_decls.specs.Decls.{type_refused}
use Rattle.vlt_kinds_heads.specs.Phase.{heads_refused_in}
use Rattle.vlt_kinds_types.specs.Kinds.{Kinds}
use Rattle.vlt_kinds.specs.Tables.{kinds_of}
use Rattle.vlt_elaboration.specs.Elaboration.{walk_decls}
use Rattle.vlt_link_laws.specs.Moves.Joins.{Joins, befores, afters, moves_of}
use Rattle.vlt_link_laws.specs.Moves.Sees.{Sees}
use Rattle.vlt_link_laws.proofs.Given.{IfSome, none_each, each_both, each_map, each_before}
use Rattle.vlt_link_laws.proofs.Known.{FineDecl}
use Rattle.vlt_link_laws.proofs.Seen.{own, same_cases, keeps_program}
use Rattle.vlt_link_laws.proofs.External.{hosted}
use Rattle.vlt_link_laws.proofs.Headed.{head_there}
use Rattle.vlt_link_laws.proofs.Walked.{IsOf, Becomes, walked, goes, each_get, clause_at}
use Rattle.vlt_link_laws.proofs.Parts.{IsFreeDecl, HostStays, IsSame, program_of, IsPart, Covers}
use Rattle.vlt_link_laws.proofs.Seeing as see
use Rattle.vlt_link_laws.proofs.Seeing.{Seeing}
use Rattle.vlt_link_laws.proofs.Fine.{ComesFrom, OwnStates, named_fine, typed_fine, headed_fine, becomes_moves}

-- each instance of the function is accepted
abbrev pub AreAccepted : Program → Func → Type 0
AreAccepted p f = (o : Option ℕ) → IsOrigin p f o → IsAcceptedFunc p (instance p f o)

-- nothing is refused in the declaration, and it becomes a function of which the fact holds
pub record IsDone (ds : List Decl) (Q : Func → Type 0) (d : Decl) : Type 0 where
  pub named : nam.decl_refused (globals_of ds) d ≡ []
  pub typed : type_refused (file_of ds) d ≡ []
  pub headed : heads_refused_in (file_of ds) (kinds_of ds).types d ≡ []
  pub becomes : Becomes (kinds_of ds) Q d

module _ (js : Joins) (fs : List Func) (main : ℕ) (part : IsPart js fs main) where
  pub seeing : Seeing js
  seeing = record { fits = part.fits; joined = part.joined; named = part.named; typed = part.typed; headed = part.headed }

  abbrev all_fine : Each (λ j. IfSome (FineDecl (file_of (befores js))) j.before) js
  all_fine = see.all_fine js seeing

  abbrev all_heads : Each (λ j. IfSome (λ d. heads_refused_in (file_of (befores js)) (kinds_of (befores js)).types d ≡ []) j.before) js
  all_heads = see.all_heads js seeing

  abbrev pub sees : Sees (moves_of js) (kinds_of (befores js)) (kinds_of (afters js))
  sees = see.sees js seeing

  all_become : Each (λ j. IfSome (Becomes (kinds_of (befores js)) (IsOf (kinds_of (befores js)) fs)) j.before) js
  all_become = each_before (Becomes (kinds_of (befores js)) (IsOf (kinds_of (befores js)) fs)) js (walked (kinds_of (befores js)) (befores js) fs part.walked).0

  own_states : (d : Decl) → FineDecl (file_of (befores js)) d → OwnStates (moves_of js) (kinds_of (befores js)) (kinds_of (afters js)) sees d
  own_states (s.stateset n ss at) fine = tt
  own_states (s.abstract n ss at) fine = tt
  own_states (s.struct n ps ss gs r at) fine = own js part.fits part.joined all_fine n fine.known fine.is
  own_states (s.variant n ps cs at) fine = tt
  own_states (s.extern h at) fine = tt
  own_states (s.function h x at) fine = tt

  done : (d : Decl) → FineDecl (file_of (befores js)) d → heads_refused_in (file_of (befores js)) (kinds_of (befores js)).types d ≡ [] → Becomes (kinds_of (befores js)) (IsOf (kinds_of (befores js)) fs) d →
      IsFreeDecl (kinds_of (befores js)) (kinds_of (afters js)) d → HostStays (moves_of js) (kinds_of (befores js)) (kinds_of (afters js)) d → IsDone (afters js) (ComesFrom (moves_of js) fs) d
  done d fine headed becomes free stays = record {
    named = named_fine (moves_of js) (kinds_of (befores js)) (kinds_of (afters js)) sees d free fine.named;
    typed = typed_fine (moves_of js) (kinds_of (befores js)) (kinds_of (afters js)) sees d (own_states d fine) fine.typed;
    headed = headed_fine (moves_of js) (kinds_of (befores js)) (kinds_of (afters js)) sees d free (hosted (moves_of js) (kinds_of (befores js)) (kinds_of (afters js)) sees (same_cases js part.fits part.joined all_fine) d headed stays) headed;
    becomes = becomes_moves (moves_of js) (kinds_of (befores js)) (kinds_of (afters js)) sees fs d free headed becomes;
  }

  abbrev HeadsIn : Option Decl → Type 0
  HeadsIn o = IfSome (λ d. heads_refused_in (file_of (befores js)) (kinds_of (befores js)).types d ≡ []) o

  abbrev FuncIn : Option Decl → Type 0
  FuncIn o = IfSome (Becomes (kinds_of (befores js)) (IsOf (kinds_of (befores js)) fs)) o

  abbrev Known : Option Decl → Type 0
  Known o = IfSome (FineDecl (file_of (befores js))) o × HeadsIn o × FuncIn o

  abbrev Bound : Option Decl → Decl → Type 0
  Bound o e = (o ≡ Some e → IsFreeDecl (kinds_of (befores js)) (kinds_of (afters js)) e) × (o ≡ Some e → HostStays (moves_of js) (kinds_of (befores js)) (kinds_of (afters js)) e)

  -- each declaration that is the same in the view
  pub all_done : Each (λ j. IsSame j → IsDone (afters js) (ComesFrom (moves_of js) fs) j.after) js
  all_done =
      each_both {P = λ j. Known j.before} {Q = λ j. Bound j.before j.after} {R = λ j. IsSame j → IsDone (afters js) (ComesFrom (moves_of js) fs) j.after} (λ j x y. one j.before j.after x y) js
      (each_both {P = λ j. IfSome (FineDecl (file_of (befores js))) j.before} {Q = λ j. HeadsIn j.before × FuncIn j.before} {R = λ j. Known j.before} (λ j x y. (x, y.0, y.1)) js all_fine
      (each_both {P = λ j. HeadsIn j.before} {Q = λ j. FuncIn j.before} {R = λ j. HeadsIn j.before × FuncIn j.before} (λ j x y. (x, y)) js all_heads all_become))
      (each_both {P = λ j. IsSame j → IsFreeDecl (kinds_of (befores js)) (kinds_of (afters js)) j.after} {Q = λ j. IsSame j → HostStays (moves_of js) (kinds_of (befores js)) (kinds_of (afters js)) j.after} {R = λ j. Bound j.before j.after} (λ j x y. (x, y)) js part.free part.hosted)
    where
      one : (o : Option Decl) (e : Decl) → Known o → Bound o e → o ≡ Some e → IsDone (afters js) (ComesFrom (moves_of js) fs) e
      one None e x y same = absurd (none-some e same)
      one (Some d) e x y same = let is = same_Some d e same in
          done e (subst (FineDecl (file_of (befores js))) is x.0) (subst (λ d. heads_refused_in (file_of (befores js)) (kinds_of (befores js)).types d ≡ []) is x.1) (subst (Becomes (kinds_of (befores js)) (IsOf (kinds_of (befores js)) fs)) is x.2) (y.0 same) (y.1 same)

  -- ---- rows

  module _ (gs : List Func) (k : ℕ) (goes : walk_decls (kinds_of (afters js)) (kinds_of (afters js)).heads (afters js) ≡ Ok gs) where
    functions : (g : ℕ) (h : Func) → slice_get fs g ≡ Some h → HasClauseOf gs ((moves_of js).functions g) h
    functions g h e =
        let c = clause_at fs (kinds_of (befores js)).heads (walked (kinds_of (befores js)) (befores js) fs part.walked).1 g h e in
        let r = head_there js part.fits part.joined all_fine (kinds_of (befores js)).types all_heads g c.0 c.1 in
        let d = clause_at (kinds_of (afters js)).heads gs (sym (walked (kinds_of (afters js)) (afters js) gs goes).1) ((moves_of js).functions g) r.head r.there in
        record { func = d.0; there = d.1; clause = d.2 ∙ (r.clause ∙ c.2) }

    keeps : Keeps (moves_of js) (program_of (befores js) fs main) (program_of (afters js) gs k)
    keeps = keeps_program js part.fits part.joined all_fine fs gs main k functions

    pub accepted_there : (f : Func) → f.external ≡ false → ComesFrom (moves_of js) fs f → AreAccepted (program_of (afters js) gs k) f
    accepted_there f body x =
        let inside = sym (ap (λ g. g.external) x.1) ∙ body in
        subst (AreAccepted (program_of (afters js) gs k)) (sym x.1)
        (still_accepted (moves_of js) (program_of (befores js) fs main) (program_of (afters js) gs k) keeps x.0
        (rows_know (program_of (befores js) fs main) x.2 x.0 (each_of_first 0 (function_rows (program_of (befores js) fs main) (x.2, x.0)) (part.unbroken x.2 x.0 x.3)) inside)
        (λ o origin. part.accepted x.2 x.0 o x.3 inside origin))

-- ---- both views

pub same_afters : (js ks : Joins) → Covers js ks → afters js ≡ afters ks
same_afters [] [] c = refl
same_afters [] (k ∷ ks) c = absurd c
same_afters (j ∷ js) [] c = absurd c
same_afters (j ∷ js) (k ∷ ks) c = ap₂ (λ d ds. d ∷ ds) c.0 (same_afters js ks c.2)

cover_each : (P : Decl → Type 0) (js ks : Joins) → Covers js ks → Each (λ j. IsSame j → P j.after) js → Each (λ j. IsSame j → P j.after) ks → Each P (afters js)
cover_each P [] [] c xs ys = tt
cover_each P [] (k ∷ ks) c xs ys = absurd c
cover_each P (j ∷ js) [] c xs ys = absurd c
cover_each P (j ∷ js) (k ∷ ks) c xs ys = (⊎_elim xs.0 (λ same. subst P (sym c.0) (ys.0 same)) c.1, cover_each P js ks c.2 xs.1 ys.1)

becomes_map : (k : Kinds) (P Q : Func → Type 0) → ((f : Func) → P f → Q f) → (d : Decl) → Becomes k P d → Becomes k Q d
becomes_map k P Q go (s.stateset n ss at) x = tt
becomes_map k P Q go (s.abstract n ss at) x = tt
becomes_map k P Q go (s.struct n ps ss gs r at) x = tt
becomes_map k P Q go (s.variant n ps cs at) x = tt
becomes_map k P Q go (s.extern h at) x = (x.0, x.1, go x.0 x.2)
becomes_map k P Q go (s.function h y at) x = (x.0, x.1, go x.0 x.2)

done_map : (ds : List Decl) (P Q : Func → Type 0) → ((f : Func) → P f → Q f) → (d : Decl) → IsDone ds P d → IsDone ds Q d
done_map ds P Q go d x = record { named = x.named; typed = x.typed; headed = x.headed; becomes = becomes_map (kinds_of ds) P Q go d x.becomes }

-- what the joined program is
pub record IsJoinedProgram (es : List Decl) (main : ℕ) : Type 0 where
  pub named : of_each (nam.decl_refused (globals_of es)) es ≡ []
  pub typed : of_each (type_refused (file_of es)) es ≡ []
  pub headed : of_each (heads_refused_in (file_of es) (kinds_of es).types) es ≡ []
  pub fns : List Func
  pub walked : walk_decls (kinds_of es) (kinds_of es).heads es ≡ Ok fns
  pub accepted : IsAccepted (program_of es fns main)

abbrev From : (js ks : Joins) (fs gs : List Func) → Func → Type 0
From js ks fs gs f = ComesFrom (moves_of js) fs f ⊎ ComesFrom (moves_of ks) gs f

pub linked : (js ks : Joins) → Covers js ks → (fs gs : List Func) (i k : ℕ) → IsPart js fs i → IsPart ks gs k → (main : ℕ) → IsJoinedProgram (afters js) main
linked js ks covers fs gs i k first second main =
    let g = goes (kinds_of (afters js)) (From js ks fs gs) (afters js) (each_map {P = IsDone (afters js) (From js ks fs gs)} {R = Becomes (kinds_of (afters js)) (From js ks fs gs)} (λ d x. x.becomes) (afters js) all) in
    record {
      named = none_each (nam.decl_refused (globals_of (afters js))) (afters js) (each_map {P = IsDone (afters js) (From js ks fs gs)} {R = λ d. nam.decl_refused (globals_of (afters js)) d ≡ []} (λ d x. x.named) (afters js) all);
      typed = none_each (type_refused (file_of (afters js))) (afters js) (each_map {P = IsDone (afters js) (From js ks fs gs)} {R = λ d. type_refused (file_of (afters js)) d ≡ []} (λ d x. x.typed) (afters js) all);
      headed = none_each (heads_refused_in (file_of (afters js)) (kinds_of (afters js)).types) (afters js) (each_map {P = IsDone (afters js) (From js ks fs gs)} {R = λ d. heads_refused_in (file_of (afters js)) (kinds_of (afters js)).types d ≡ []} (λ d x. x.headed) (afters js) all);
      fns = g.0;
      walked = g.1;
      accepted = λ n f o there body origin. accept g.0 g.1 f body (each_get (From js ks fs gs) g.0 g.2 n f there) o origin;
    }
  where
    same : afters ks ≡ afters js
    same = sym (same_afters js ks covers)

    there : Each (λ j. IsSame j → IsDone (afters js) (ComesFrom (moves_of ks) gs) j.after) ks
    there = subst (λ es. Each (λ j. IsSame j → IsDone es (ComesFrom (moves_of ks) gs) j.after) ks) same (all_done ks gs k second)

    all : Each (IsDone (afters js) (From js ks fs gs)) (afters js)
    all = cover_each (IsDone (afters js) (From js ks fs gs)) js ks covers
        (each_map {P = λ j. IsSame j → IsDone (afters js) (ComesFrom (moves_of js) fs) j.after} {R = λ j. IsSame j → IsDone (afters js) (From js ks fs gs) j.after} (λ j x is. done_map (afters js) (ComesFrom (moves_of js) fs) (From js ks fs gs) (λ f y. inl y) j.after (x is)) js (all_done js fs i first))
        (each_map {P = λ j. IsSame j → IsDone (afters js) (ComesFrom (moves_of ks) gs) j.after} {R = λ j. IsSame j → IsDone (afters js) (From js ks fs gs) j.after} (λ j x is. done_map (afters js) (ComesFrom (moves_of ks) gs) (From js ks fs gs) (λ f y. inr y) j.after (x is)) ks there)

    second_accepts : (hs : List Func) → walk_decls (kinds_of (afters js)) (kinds_of (afters js)).heads (afters js) ≡ Ok hs → (f : Func) → f.external ≡ false → ComesFrom (moves_of ks) gs f → AreAccepted (program_of (afters js) hs main) f
    second_accepts = subst (λ es. (hs : List Func) → walk_decls (kinds_of es) (kinds_of es).heads es ≡ Ok hs → (f : Func) → f.external ≡ false → ComesFrom (moves_of ks) gs f → AreAccepted (program_of es hs main) f) same
        (λ hs e f body x. accepted_there ks gs k second hs main e f body x)

    accept : (hs : List Func) → walk_decls (kinds_of (afters js)) (kinds_of (afters js)).heads (afters js) ≡ Ok hs → (f : Func) → f.external ≡ false → (From js ks fs gs) f → AreAccepted (program_of (afters js) hs main) f
    accept hs e f body (inl x) = accepted_there js fs i first hs main e f body x
    accept hs e f body (inr x) = second_accepts hs e f body x
