-- Two views that pass, whose names don't clash, are accepted as one.
use Rattle.std.proofs.Common.{◌≡◌, ◌⊎◌, inl, inr, ◌≤◌, ℕ, Bool, true, false, List, [], ◌∷◌, ◌++◌, map, length, Some, None, slice_get, unwrap_or, Ok, sym, ◌∙◌, subst}
use Rattle.std.proofs.lemmas.List.{map-append}
use Rattle.std.specs.List.{find}
use Rattle.vlt_base.specs.Limits.{limit_of}
use Rattle.vlt_base.specs.declared.limits.TheConstants.{DECLARATIONS}
use Rattle.vlt_syntax.specs.Tree as s
use Rattle.vlt_syntax.specs.Tree.{Decl, Tree}
use Rattle.vlt_syntax.specs.Lists.{Each}
use Rattle.vlt_syntax.specs.Grammar.{IsDecl, language}
use Rattle.vlt_core.specs.Core.{Func}
use Rattle.vlt_core.specs.Lookups.{cases_in}
use Rattle.vlt_core.specs.Derives.{IsAccepted}
use Rattle.vlt_core.specs.Kinded.{first_broken, function_rows, HasKindedParts}
use Rattle.vlt_link_laws.specs.CoreMoves.Moves.{moved_case}
use Rattle.vlt_kinds_types.specs.Names.Globals.{globals_of, decl_name}
use Rattle.vlt_kinds_decls.specs.Names as nam
use Rattle.vlt_kinds_types.specs.Names.Refusals.{of_each}
use Rattle.vlt_kinds_types.specs.Files.{file_of}
use Rattle.vlt_kinds_decls.specs.Decls.{type_refused}
use Rattle.vlt_kinds_heads.specs.Phase.{heads_refused_in}
use Rattle.vlt_kinds.specs.Tables.{kinds_of}
use Rattle.vlt_elaboration.specs.Elaboration.{walk_decls, main_of}
use Rattle.vlt_syntax_copies.specs.Raised.{raised}
use Rattle.vlt_iface.specs.declared.places.TheConstants.{RAISE}
use Rattle.vlt_iface.specs.View.{gives, with_given, others, view_decls, origins_in, viewed, joined}
use Rattle.vlt_iface.specs.Rules.{body_refused}
use Rattle.vlt_iface.specs.Clash.{clashing, decl_bound}
use Rattle.vlt_iface.proofs.Raising.{texts}
use Rattle.vlt_link_laws.specs.Moves.Joins.{Joins, befores, afters, moves_of}
use Rattle.vlt_link_laws.specs.Moves.Sees.{Sees, IsFree}
use Rattle.vlt_views.specs.Hidden.{hidden_names, own_refused_in, own_refused}
use Rattle.vlt_link_laws.proofs.Parts.{IsFreeDecl, HostStays, IsSame, Covers, IsLinked, program_of}
use Rattle.vlt_link_laws.proofs.Sides.{first_joins, second_joins, IsApart, IsView}
use Rattle.vlt_views.specs.Views.{view_elaborated}
use Rattle.vlt_fit_laws.specs.Fit.{IsTextTree}
use Rattle.vlt_link_laws.specs.Link.{IsPassed, IsAcceptedText}
use Rattle.vlt_link_laws.proofs.Joining.{joined_text}
use Rattle.vlt_link_laws.proofs.Given.{each_map, each_both, each_none}
use Rattle.vlt_link_laws.proofs.Viewing.{found_is, first_is_view, second_is_view, first_is_joined, first_fits, second_fits, views_cover}
use Rattle.vlt_link_laws.proofs.Seen.{same_cases}
use Rattle.vlt_link_laws.proofs.Seeing as see
use Rattle.vlt_link_laws.proofs.Seeing.{Seeing}
use Rattle.vlt_link_laws.proofs.Linked.{same_afters}
use Rattle.vlt_link_laws.proofs.Apart.{apart_modules, each_others, each_found}
use Rattle.vlt_link_laws.proofs.Again.{Text, Other, name_texts}
use Rattle.vlt_link_laws.proofs.Modules.{are_joined, given_new, same_new, new_alone, new_before, declarations_link}
use Rattle.vlt_link_laws.proofs.Telling.{ViewFine, view_fine, ViewWalked, view_walked, wanted_main, unbroken, Given, is_given}
use Rattle.vlt_link_laws.proofs.Placed.{Found, Shared, all_first, all_second}
use Rattle.vlt_link_laws.proofs.Freed.{Unknown, first_free, second_free, first_shared, second_shared, free_decl, unknown, of_texts, to_texts}
use Rattle.vlt_link_laws.proofs.Texts.{raised_are}
use Rattle.vlt_link_laws.proofs.Kinding.{kinded_part}
use Rattle.vlt_link_laws.proofs.Clashing.{bound_far, are_apart, first_clash, second_clash}
use Rattle.vlt_link_laws.proofs.Abstracts.{Veiled, sorted, both_abstract, own_abstract}
use Rattle.vlt_link_laws.proofs.Hosting.{Sorted, own_stays, shared_stays}
use Rattle.vlt_link_laws.proofs.Veils.{no_extern, first_veils, second_veils, own_others}

-- ---- facts of declarations in a view

each_left : {X : Type 0} (P : X → Type 0) (xs ys : List X) → Each P (xs ++ ys) → Each P xs
each_left P [] ys all = tt
each_left P (x ∷ xs) ys all = (all.0, each_left P xs ys all.1)

each_right : {X : Type 0} (P : X → Type 0) (xs ys : List X) → Each P (xs ++ ys) → Each P ys
each_right P [] ys all = all
each_right P (x ∷ xs) ys all = each_right P xs ys all.1

-- what no module gives stands there as it is
with_none : (R : Decl → Type 0) (us is : List Decl) → Each R (with_given is us) → Each (λ i. find (gives i) us ≡ None → R i) is
with_none R us [] all = tt
with_none R us (i ∷ is) all = ((λ none. subst (λ o. R (unwrap_or o i)) none all.0), with_none R us is all.1)

-- ---- hosts

cover_turn : (js ks : Joins) → Covers js ks → Covers ks js
cover_turn [] [] c = tt
cover_turn [] (k ∷ ks) c = absurd c
cover_turn (j ∷ js) [] c = absurd c
cover_turn (j ∷ js) (k ∷ ks) c = (sym c.0, turn c.1, cover_turn js ks c.2)
  where
    turn : IsSame j ⊎ IsSame k → IsSame k ⊎ IsSame j
    turn (inl x) = inr x
    turn (inr x) = inl x

sorted_kinds : (ds : List Decl) → Sorted (kinds_of ds)
sorted_kinds ds t x e = sorted (globals_of ds) (file_of ds) ds t x e

abbrev Headed : List Decl → Decl → Type 0
Headed ds d = heads_refused_in (file_of ds) (kinds_of ds).types d ≡ []

abbrev Hosts : Joins → Decl → Type 0
Hosts js d = HostStays (moves_of js) (kinds_of (befores js)) (kinds_of (afters js)) d

shared_host : (js ks : Joins) → Covers js ks → Seeing js → Seeing ks → (d : Decl) → Headed (befores js) d → Headed (befores ks) d → Hosts js d
shared_host js ks covers x y d one two =
    let same = same_afters js ks covers in
    shared_stays (moves_of js) (kinds_of (befores js)) (kinds_of (afters js)) (see.sees js x) (sorted_kinds (befores js)) (sorted_kinds (afters js))
    (moves_of ks) (kinds_of (befores ks)) (subst (λ es. Sees (moves_of ks) (kinds_of (befores ks)) (kinds_of es)) (sym same) (see.sees ks y)) (sorted_kinds (befores ks))
    (same_cases js x.fits x.joined (see.all_fine js x))
    (subst (λ es. (t : ℕ) → cases_in (slice_get (kinds_of es).types ((moves_of ks).types t)) ≡ map (moved_case (moves_of ks)) (cases_in (slice_get (kinds_of (befores ks)).types t))) (sym same)
    (same_cases ks y.fits y.joined (see.all_fine ks y)))
    (λ t u. both_abstract js ks covers x.joined y.joined (file_of (befores js)) (file_of (befores ks)) (file_of (afters js)) t u)
    d one two

own_host : (js : Joins) (hidden : List Text) → Seeing js → Each (λ j. Veiled hidden j.before j.after) js → (d : Decl) → Headed (befores js) d →
    own_refused_in hidden (kinds_of (befores js)).types (file_of (befores js)) 1 d ≡ [] → Hosts js d
own_host js hidden x veils d headed own =
    own_stays (moves_of js) (kinds_of (befores js)) (kinds_of (afters js)) (see.sees js x) (sorted_kinds (befores js)) (sorted_kinds (afters js)) hidden
    (own_abstract hidden (file_of (befores js)) (file_of (afters js)) js x.fits veils) d headed own

given_host : (js : Joins) (i d : Decl) → gives i d ≡ true → Hosts js d
given_host js i (s.stateset n ss at) g = tt
given_host js i (s.abstract n ss at) g = tt
given_host js i (s.struct n ps ss fs r at) g = tt
given_host js i (s.variant n ps cs at) g = tt
given_host js i (s.extern h at) g = absurd (no_extern i h at g)
given_host js i (s.function h x at) g = tt

-- ---- a view that passes

pub record Facts (ds : List Decl) (fs : List Func) (main : ℕ) : Type 0 where
  pub named : of_each (nam.decl_refused (globals_of ds)) ds ≡ []
  pub typed : of_each (type_refused (file_of ds)) ds ≡ []
  pub headed : of_each (heads_refused_in (file_of ds) (kinds_of ds).types) ds ≡ []
  pub walked : walk_decls (kinds_of ds) (kinds_of ds).heads ds ≡ Ok fs
  pub unbroken : (n : ℕ) (f : Func) → slice_get fs n ≡ Some f → first_broken 0 (function_rows (program_of ds fs main) (n, f)) ≡ None
  pub accepted : IsAccepted (program_of ds fs main)

module _ (i m : Tree) (text_i : IsTextTree i) (text_m : IsTextTree m) (with_main : Bool) (passed : IsPassed i m with_main) where
  abbrev decls : List Decl
  decls = view_decls i.decls (map (raised RAISE) m.decls)

  abbrev origins : List ℕ
  origins = origins_in i.decls (map (raised RAISE) m.decls)

  fine : ViewFine origins decls × (kinds_of decls ≡ passed.kinds)
  fine = view_fine origins decls passed.kinds passed.told

  walked : ViewWalked decls with_main passed.program
  walked = view_walked (viewed i m) with_main passed.program (subst (λ k. view_elaborated (viewed i m) k with_main ≡ Ok passed.program) (sym fine.1) passed.gives)

  facts : Facts decls walked.fns (main_of (kinds_of decls).heads)
  facts = record {
    named = fine.0.named;
    typed = fine.0.typed;
    headed = fine.0.headed;
    walked = walked.walked;
    unbroken = unbroken (program_of decls walked.fns (main_of (kinds_of decls).heads)) (subst HasKindedParts (sym walked.is) (kinded_part i m text_i text_m with_main passed.kinds passed.program passed.told passed.gives));
    accepted = subst IsAccepted (sym walked.is) passed.accepted;
  }

-- ---- both views

module _ (i f g : Tree) (text_i : IsTextTree i) (text_f : IsTextTree f) (text_g : IsTextTree g) (first : IsPassed i f false) (second : IsPassed i g true) (clear : clashing f g ≡ []) where
  abbrev is : List Decl
  is = i.decls

  abbrev ms : List Decl
  ms = map (raised RAISE) f.decls

  abbrev ns : List Decl
  ns = map (raised RAISE) g.decls

  abbrev js : Joins
  js = first_joins is ms ns

  abbrev ks : Joins
  ks = second_joins is ms ns

  one : Given i f
  one = is_given i f first.given

  two : Given i g
  two = is_given i g second.given

  apart : IsApart is ms ns
  apart = apart_modules is ms ns (are_apart f g (second_clash f g clear))

  covers : Covers js ks
  covers = views_cover is ms ns

  same_first : befores js ≡ view_decls is ms
  same_first = first_is_view is ms ns

  same_second : befores ks ≡ view_decls is ns
  same_second = second_is_view is ms ns apart.rest

  first_after : afters js ≡ view_decls is (ms ++ ns)
  first_after = first_is_joined is ms ns

  second_after : afters ks ≡ view_decls is (ms ++ ns)
  second_after = sym (same_afters js ks covers) ∙ first_after

  abbrev first_fns : List Func
  first_fns = (walked i f text_i text_f false first).fns

  abbrev first_main : ℕ
  first_main = main_of (kinds_of (view_decls is ms)).heads

  abbrev second_fns : List Func
  second_fns = (walked i g text_i text_g true second).fns

  abbrev second_main : ℕ
  second_main = main_of (kinds_of (view_decls is ns)).heads

  first_facts : Facts (befores js) first_fns first_main
  first_facts = subst (λ ds. Facts ds first_fns first_main) (sym same_first) (facts i f text_i text_f false first)

  second_facts : Facts (befores ks) second_fns second_main
  second_facts = subst (λ ds. Facts ds second_fns second_main) (sym same_second) (facts i g text_i text_g true second)

  first_seen : Seeing js
  first_seen =
      let fits = first_fits is ms ns two.given in
      record {
        fits = fits;
        joined = are_joined js fits (given_new ms ms ns is _ (same_new (others is [] ms) _ (new_alone (others is ms ns))));
        named = first_facts.named;
        typed = first_facts.typed;
        headed = first_facts.headed;
      }

  second_seen : Seeing ks
  second_seen =
      let fits = second_fits is ms ns one.given apart.once in
      record {
        fits = fits;
        joined = are_joined ks fits (given_new ns ms ns is _ (new_before (others is [] ms) (others is ms ns) apart.names));
        named = second_facts.named;
        typed = second_facts.typed;
        headed = second_facts.headed;
      }

  -- ---- what they bind is free

  bodiless : Each (λ d. body_refused d ≡ []) is
  bodiless = each_none body_refused is one.bodies

  -- all that is known of a declaration of the interface in a view
  abbrev Quiet : List Decl → Decl → Type 0
  Quiet ds d = (nam.decl_refused (globals_of ds) d ≡ []) × Headed ds d

  quiet : (us : List Decl) (ds : List Decl) → of_each (nam.decl_refused (globals_of ds)) (view_decls is us) ≡ [] → of_each (heads_refused_in (file_of ds) (kinds_of ds).types) (view_decls is us) ≡ [] →
      Each (Quiet ds) (view_decls is us)
  quiet us ds named headed =
      each_both {P = λ d. nam.decl_refused (globals_of ds) d ≡ []} {Q = Headed ds} {R = Quiet ds} (λ d x y. (x, y)) (view_decls is us)
      (each_none (nam.decl_refused (globals_of ds)) (view_decls is us) named) (each_none (heads_refused_in (file_of ds) (kinds_of ds).types) (view_decls is us) headed)

  -- in the first view, and in the second
  first_quiet : Each (Quiet (view_decls is ms)) (view_decls is ms)
  first_quiet = quiet ms (view_decls is ms) (facts i f text_i text_f false first).named (facts i f text_i text_f false first).headed

  second_quiet : Each (Quiet (view_decls is ns)) (view_decls is ns)
  second_quiet = quiet ns (view_decls is ns) (facts i g text_i text_g true second).named (facts i g text_i text_g true second).headed

  -- what an interface's declaration binds is free in a view where it stands as it is
  unknowns : (us ds : List Decl) → Each (Quiet ds) (view_decls is us) → Each (λ d. find (gives d) us ≡ None → Each (Unknown (globals_of ds)) (texts (decl_bound d))) is
  unknowns us ds all =
      each_both {P = λ d. body_refused d ≡ []} {Q = λ d. find (gives d) us ≡ None → Quiet ds d} {R = λ d. find (gives d) us ≡ None → Each (Unknown (globals_of ds)) (texts (decl_bound d))}
      (λ d x y none. unknown (file_of ds) (kinds_of ds).types d x (y none).0 (y none).1) is bodiless
      (with_none (Quiet ds) us is (each_left (Quiet ds) (with_given is us) (others is [] us) all))

  abbrev FreeFirst : Decl → Type 0
  FreeFirst = IsFreeDecl (kinds_of (view_decls is ms)) (kinds_of (view_decls is (ms ++ ns)))

  abbrev FreeSecond : Decl → Type 0
  FreeSecond = IsFreeDecl (kinds_of (view_decls is ns)) (kinds_of (view_decls is (ms ++ ns)))

  abbrev NotThere : List Decl → Text → Type 0
  NotThere us t = Each (Other t) (name_texts us)

  -- also not among those that aren't placed
  not_others : (before us : List Decl) (t : Text) → NotThere us t → NotThere (others is before us) t
  not_others before us t h =
      to_texts (λ d. (s_name d)) (Other t) (others is before us) (each_others (λ d. Other t (s_name d)) is before us (of_texts (λ d. s_name d) (Other t) us h))
    where
      s_name : Decl → Text
      s_name d = (decl_name d).text

  first_own : Each FreeFirst ms
  first_own =
      each_both {P = IsDecl language} {Q = λ d. Each (NotThere ns) (texts (decl_bound d))} {R = FreeFirst}
      (λ d x y. free_decl (kinds_of (view_decls is ms)) (kinds_of (view_decls is (ms ++ ns))) language d x
      (each_map {P = NotThere ns} {R = IsFree (kinds_of (view_decls is ms)) (kinds_of (view_decls is (ms ++ ns)))} (λ t h. first_free is ms ns apart.rest t (not_others ms ns t h)) (texts (decl_bound d)) y)) ms
      (raised_are f.decls text_f.tree.0) (bound_far f g (second_clash f g clear))

  second_own : Each FreeSecond ns
  second_own =
      each_both {P = IsDecl language} {Q = λ d. Each (NotThere ms) (texts (decl_bound d))} {R = FreeSecond}
      (λ d x y. free_decl (kinds_of (view_decls is ns)) (kinds_of (view_decls is (ms ++ ns))) language d x
      (each_map {P = NotThere ms} {R = IsFree (kinds_of (view_decls is ns)) (kinds_of (view_decls is (ms ++ ns)))} (λ t h. second_free is ms ns apart.rest t (not_others [] ms t h)) (texts (decl_bound d)) y)) ns
      (raised_are g.decls text_g.tree.0) (bound_far g f (first_clash f g clear))

  first_between : Each (Shared FreeFirst ms ns) is
  first_between =
      each_both {P = IsDecl language} {Q = λ d. find (gives d) ns ≡ None → Each (Unknown (globals_of (view_decls is ns))) (texts (decl_bound d))} {R = Shared FreeFirst ms ns}
      (λ d x y none none2. free_decl (kinds_of (view_decls is ms)) (kinds_of (view_decls is (ms ++ ns))) language d x
      (each_map {P = Unknown (globals_of (view_decls is ns))} {R = IsFree (kinds_of (view_decls is ms)) (kinds_of (view_decls is (ms ++ ns)))} (λ t h. first_shared is ms ns apart.rest t h) (texts (decl_bound d)) (y none2))) is
      text_i.tree.0 (unknowns ns (view_decls is ns) second_quiet)

  second_between : Each (Shared FreeSecond ms ns) is
  second_between =
      each_both {P = IsDecl language} {Q = λ d. find (gives d) ms ≡ None → Each (Unknown (globals_of (view_decls is ms))) (texts (decl_bound d))} {R = Shared FreeSecond ms ns}
      (λ d x y none none2. free_decl (kinds_of (view_decls is ns)) (kinds_of (view_decls is (ms ++ ns))) language d x
      (each_map {P = Unknown (globals_of (view_decls is ms))} {R = IsFree (kinds_of (view_decls is ns)) (kinds_of (view_decls is (ms ++ ns)))} (λ t h. second_shared is ms ns apart.rest t h) (texts (decl_bound d)) (y none))) is
      text_i.tree.0 (unknowns ms (view_decls is ms) first_quiet)

  found_in : (R : Decl → Type 0) (us : List Decl) → Each R us → Found R us
  found_in R us all i d e = each_found R (gives i) us all d e

  first_frees : Each (λ j. IsSame j → IsFreeDecl (kinds_of (befores js)) (kinds_of (afters js)) j.after) js
  first_frees =
      subst (λ es. Each (λ j. IsSame j → IsFreeDecl (kinds_of (befores js)) (kinds_of es) j.after) js) (sym first_after)
      (subst (λ ds. Each (λ j. IsSame j → IsFreeDecl (kinds_of ds) (kinds_of (view_decls is (ms ++ ns))) j.after) js) (sym same_first)
      (all_first FreeFirst is ms ns (others is [] ms) (others is ms ns) (found_in FreeFirst ms first_own) first_between (each_others FreeFirst is [] ms first_own)))

  second_frees : Each (λ j. IsSame j → IsFreeDecl (kinds_of (befores ks)) (kinds_of (afters ks)) j.after) ks
  second_frees =
      subst (λ es. Each (λ j. IsSame j → IsFreeDecl (kinds_of (befores ks)) (kinds_of es) j.after) ks) (sym second_after)
      (subst (λ ds. Each (λ j. IsSame j → IsFreeDecl (kinds_of ds) (kinds_of (view_decls is (ms ++ ns))) j.after) ks) (sym same_second)
      (all_second FreeSecond is ms ns (others is [] ms) (others is ms ns) (found_in FreeSecond ns second_own) second_between apart.once (each_others FreeSecond is ms ns second_own)))

  -- ---- what their externals give as abstract stays so

  heads_in : (us ds : List Decl) → view_decls is us ≡ ds → of_each (heads_refused_in (file_of (view_decls is us)) (kinds_of (view_decls is us)).types) (view_decls is us) ≡ [] → Each (Headed ds) (view_decls is us)
  heads_in us ds same headed =
      subst (λ ds. Each (Headed ds) (view_decls is us)) same (each_none (heads_refused_in (file_of (view_decls is us)) (kinds_of (view_decls is us)).types) (view_decls is us) headed)

  first_heads : Each (Headed (befores js)) (view_decls is ms)
  first_heads = heads_in ms (befores js) (sym same_first) (facts i f text_i text_f false first).headed

  second_heads : Each (Headed (befores ks)) (view_decls is ns)
  second_heads = heads_in ns (befores ks) (sym same_second) (facts i g text_i text_g true second).headed

  -- those of the interface, by both views
  left_heads : (us ds : List Decl) → Each (Headed ds) (view_decls is us) → Each (λ d. find (gives d) us ≡ None → Headed ds d) is
  left_heads us ds all = with_none (Headed ds) us is (each_left (Headed ds) (with_given is us) (others is [] us) all)

  first_shares : Each (Shared (Hosts js) ms ns) is
  first_shares =
      each_both {P = λ d. find (gives d) ms ≡ None → Headed (befores js) d} {Q = λ d. find (gives d) ns ≡ None → Headed (befores ks) d} {R = Shared (Hosts js) ms ns}
      (λ d x y none none2. shared_host js ks covers first_seen second_seen d (x none) (y none2)) is (left_heads ms (befores js) first_heads) (left_heads ns (befores ks) second_heads)

  second_shares : Each (Shared (Hosts ks) ms ns) is
  second_shares =
      each_both {P = λ d. find (gives d) ms ≡ None → Headed (befores js) d} {Q = λ d. find (gives d) ns ≡ None → Headed (befores ks) d} {R = Shared (Hosts ks) ms ns}
      (λ d x y none none2. shared_host ks js (cover_turn js ks covers) second_seen first_seen d (y none2) (x none)) is (left_heads ms (befores js) first_heads) (left_heads ns (befores ks) second_heads)

  -- a module's own, by rule 50
  abbrev Own : List Text → List Decl → Decl → Type 0
  Own hidden ds d = own_refused_in hidden (kinds_of ds).types (file_of ds) 1 d ≡ []

  owns : (us ds : List Decl) → view_decls is us ≡ ds → own_refused (hidden_names (origins_in is us) (view_decls is us)) (kinds_of (view_decls is us)).types (file_of (view_decls is us)) (origins_in is us) (view_decls is us) ≡ [] →
      Each (Own (hidden_names (origins_in is us) (view_decls is us)) ds) (others is [] us)
  owns us ds same none =
      subst (λ ds. Each (Own (hidden_names (origins_in is us) (view_decls is us)) ds) (others is [] us)) same
      (own_others (hidden_names (origins_in is us) (view_decls is us)) (kinds_of (view_decls is us)).types (file_of (view_decls is us)) is us none)

  first_owns : Each (Hosts js) (others is [] ms)
  first_owns =
      let hidden = hidden_names (origins_in is ms) (view_decls is ms) in
      each_both {P = Headed (befores js)} {Q = Own hidden (befores js)} {R = Hosts js} (λ d x y. own_host js hidden first_seen (first_veils is ms ns) d x y) (others is [] ms)
      (each_right (Headed (befores js)) (with_given is ms) (others is [] ms) first_heads) (owns ms (befores js) (sym same_first) (fine i f text_i text_f false first).0.own)

  second_owns : Each (Hosts ks) (others is ms ns)
  second_owns =
      let hidden = hidden_names (origins_in is ns) (view_decls is ns) in
      subst (Each (Hosts ks)) (sym apart.rest)
      (each_both {P = Headed (befores ks)} {Q = Own hidden (befores ks)} {R = Hosts ks} (λ d x y. own_host ks hidden second_seen (second_veils is ms ns) d x y) (others is [] ns)
      (each_right (Headed (befores ks)) (with_given is ns) (others is [] ns) second_heads) (owns ns (befores ks) (sym same_second) (fine i g text_i text_g true second).0.own))

  found_host : (qs : Joins) (us : List Decl) → Found (Hosts qs) us
  found_host qs us i d e = given_host qs i d (found_is (gives i) us d e)

  first_hosts : Each (λ j. IsSame j → Hosts js j.after) js
  first_hosts = all_first (Hosts js) is ms ns (others is [] ms) (others is ms ns) (found_host js ms) first_shares first_owns

  second_hosts : Each (λ j. IsSame j → Hosts ks j.after) ks
  second_hosts = all_second (Hosts ks) is ms ns (others is [] ms) (others is ms ns) (found_host ks ns) second_shares apart.once second_owns

  -- ---- together

  first_view : IsView js first_fns first_main
  first_view = record {
    named = first_facts.named;
    typed = first_facts.typed;
    headed = first_facts.headed;
    walked = first_facts.walked;
    unbroken = first_facts.unbroken;
    accepted = first_facts.accepted;
    free = first_frees;
    hosted = first_hosts;
  }

  second_view : IsView ks second_fns second_main
  second_view = record {
    named = second_facts.named;
    typed = second_facts.typed;
    headed = second_facts.headed;
    walked = second_facts.walked;
    unbroken = second_facts.unbroken;
    accepted = second_facts.accepted;
    free = second_frees;
    hosted = second_hosts;
  }

  linked : IsLinked (joined i f g).decls
  linked =
      subst (λ us. IsLinked (view_decls is us)) (sym (map-append (raised RAISE) f.decls g.decls))
      (declarations_link is ms ns one.given two.given apart first_fns second_fns first_main second_main first_view second_view
      (wanted_main (view_decls is ns) (walked i g text_i text_g true second).main) (fine i f text_i text_f false first).0.again (fine i g text_i text_g true second).0.again)

  module _ (few : length (joined i f g).decls ≤ limit_of DECLARATIONS) where
    pub accepted_link : IsAcceptedText (joined i f g)
    accepted_link = record {
      text = joined_text i f g text_i text_f text_g few;
      kinds = kinds_of (joined i f g).decls;
      told = linked.kinds;
      program = linked.program;
      gives = linked.is;
      accepted = linked.accepted;
    }
