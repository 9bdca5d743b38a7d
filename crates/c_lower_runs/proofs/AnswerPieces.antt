-- The payloads of an answer's case: numbers go into their slots first, and then the new objects.
use Rattle.std.proofs.Common.{◌≡◌, ◌⊎◌, inl, inr, ℕ, Bool, true, false, if◌then◌else◌, ℤ, List, [], ◌∷◌, ◌++◌, length, Some, refl, sym, ◌∙◌, arith}
use Rattle.std.specs.List.{flat_map, zip}
use Rattle.vlt_ops.specs.Operator.{is_in_range}
use Rattle.vlt_core.specs.Core as core
use Rattle.vlt_core.specs.Core.{Ty, Program}
use Rattle.vlt_core.specs.Lookups.{fields_of, is_owning}
use Rattle.vlt_meaning.specs.World as source
use Rattle.vlt_meaning.specs.World.{Part, loose}
use Rattle.vlt_meaning.specs.HostAnswers.{Piece, plain, new_in}
use Rattle.vlt_meaning.specs.Externals as ext
use Rattle.vlt_meaning.specs.Externals.{from_host}
use Rattle.vlt_meaning.specs.Step as step
use Rattle.c_syntax.specs.declared.program.CVar.{CVar}
use Rattle.c_syntax.specs.C.{Stmt}
use Rattle.c_meaning.specs.World as cw
use Rattle.c_meaning.specs.Run as crun
use Rattle.c_meaning.specs.Run.{goes, stops}
use Rattle.c_lower.specs.Glue.{new_object}
use Rattle.c_lower_worlds.specs.Worlds.{Registers, c_world, c_part}
use Rattle.c_lower_worlds.specs.Given.{IsFed}
use Rattle.c_lower_worlds.specs.Shapes.{types_of, AreShaped, HavePayloadShapes}
use Rattle.c_lower_worlds.specs.Naming.Lists.{Each}
use Rattle.c_lower_runs.proofs.HostObjects.{more_later, last_type, host_shaped, new_goes, new_stops}
use Rattle.c_lower_worlds.proofs.FrameChanges.{var_kept, var_set}
use Rattle.c_lower_worlds.proofs.MovedObjects.{loose_free}
use Rattle.c_lower_runs.proofs.AnswerReading as reading
use Rattle.c_lower_worlds.proofs.StatementLists.{Runs, runs_then, stops_there}
use Rattle.c_lower_worlds.proofs.LaterShapes.{Later}
use Rattle.c_lower_worlds.proofs.VariableSlots.{Apart, AllApart, apart_back, each_map}

-- what an answer gives for types of payloads
abbrev pub PiecesFit : Program → List Ty → List Piece → Type 0
PiecesFit p [] [] = Unit {0}
PiecesFit p (core.int ∷ ts) (plain z ∷ rest) = (is_in_range z ≡ true) × PiecesFit p ts rest
PiecesFit p (core.bool ∷ ts) (plain z ∷ rest) = (is_in_range z ≡ true) × PiecesFit p ts rest
PiecesFit p (core.owning states t args ∷ ts) (new_in s ∷ rest) = (fields_of p t ≡ []) × PiecesFit p ts rest
PiecesFit p _ _ = ⊥

-- numbers are in their slots
abbrev pub NumbersStand : List CVar → List Piece → crun.Frame → Type 0
NumbersStand (v ∷ vs) (plain z ∷ rest) f = (f.vars v ≡ Some (cw.number z)) × NumbersStand vs rest f
NumbersStand (v ∷ vs) (new_in s ∷ rest) f = NumbersStand vs rest f
NumbersStand _ _ f = Unit {0}

-- parts in their slots
abbrev pub PartsStand : List CVar → List Part → crun.Frame → Type 0
PartsStand [] [] f = Unit {0}
PartsStand (v ∷ vs) (a ∷ parts) f = (f.vars v ≡ Some (c_part a)) × PartsStand vs parts f
PartsStand _ _ f = ⊥

numbers_kept : (vs : List CVar) (pieces : List Piece) (f g : crun.Frame) → Each (λ v. f.vars v ≡ g.vars v) vs → NumbersStand vs pieces f → NumbersStand vs pieces g
numbers_kept [] pieces f g e h = tt
numbers_kept (v ∷ vs) [] f g e h = tt
numbers_kept (v ∷ vs) (plain z ∷ rest) f g e h = (sym e.0 ∙ h.0, numbers_kept vs rest f g e.1 h.1)
numbers_kept (v ∷ vs) (new_in s ∷ rest) f g e h = numbers_kept vs rest f g e.1 h

module _ (R : crun.Setup) (cm : crun.Meaning) where
  -- the numbers' frame: other variables are kept
  pub pieces_kept : (vs : List CVar) (ts : List Ty) (pieces : List Piece) (f : crun.Frame) (u : CVar) → Each (Apart u) vs → (reading.with_pieces R cm (zip vs ts) pieces f).vars u ≡ f.vars u
  pieces_kept [] ts pieces f u h = refl
  pieces_kept (v ∷ vs) [] pieces f u h = refl
  pieces_kept (v ∷ vs) (t ∷ ts) [] f u h = refl
  pieces_kept (v ∷ vs) (t ∷ ts) (plain z ∷ rest) f u h = pieces_kept vs ts rest (crun.with_var v (cw.number z) f) u h.1 ∙ var_kept v (cw.number z) u f h.0
  pieces_kept (v ∷ vs) (t ∷ ts) (new_in s ∷ rest) f u h = pieces_kept vs ts rest f u h.1

  pub numbers_stand : (p : Program) (vs : List CVar) (ts : List Ty) (pieces : List Piece) (f : crun.Frame) → AllApart vs → PiecesFit p ts pieces → NumbersStand vs pieces (reading.with_pieces R cm (zip vs ts) pieces f)
  numbers_stand p [] ts pieces f a h = tt
  numbers_stand p (v ∷ vs) ts [] f a h = tt
  numbers_stand p (v ∷ vs) [] (x ∷ rest) f a h = absurd h
  numbers_stand p (v ∷ vs) (core.int ∷ ts) (plain z ∷ rest) f a h =
      (pieces_kept vs ts rest (crun.with_var v (cw.number z) f) v a.0 ∙ var_set v (cw.number z) f, numbers_stand p vs ts rest (crun.with_var v (cw.number z) f) a.1 h.1)
  numbers_stand p (v ∷ vs) (core.bool ∷ ts) (plain z ∷ rest) f a h =
      (pieces_kept vs ts rest (crun.with_var v (cw.number z) f) v a.0 ∙ var_set v (cw.number z) f, numbers_stand p vs ts rest (crun.with_var v (cw.number z) f) a.1 h.1)
  numbers_stand p (v ∷ vs) (core.owning states t args ∷ ts) (new_in s ∷ rest) f a h = numbers_stand p vs ts rest f a.1 h.1
  numbers_stand p (v ∷ vs) (core.int ∷ ts) (new_in s ∷ rest) f a h = absurd h
  numbers_stand p (v ∷ vs) (core.bool ∷ ts) (new_in s ∷ rest) f a h = absurd h
  numbers_stand p (v ∷ vs) (core.owning states t args ∷ ts) (plain z ∷ rest) f a h = absurd h
  numbers_stand p (v ∷ vs) (core.tracked k t args ∷ ts) (x ∷ rest) f a h = absurd h
  numbers_stand p (v ∷ vs) (core.guarded k t args ∷ ts) (x ∷ rest) f a h = absurd h
  numbers_stand p (v ∷ vs) (core.variant t args ∷ ts) (x ∷ rest) f a h = absurd h
  numbers_stand p (v ∷ vs) (core.owning_variant t args ∷ ts) (x ∷ rest) f a h = absurd h

module _ (p : Program) (R : crun.Setup) (cm : crun.Meaning) (regs : Registers) where
  abbrev object_code : List CVar → List Ty → List Stmt
  object_code vs ts = flat_map (λ x. if is_owning x.1 then new_object x.0 else []) (zip vs ts)

  abbrev Cont : Type 0
  Cont = List Part → source.World → step.Step

  pub record AllMade (vs : List CVar) (ts : List Ty) (pieces : List Piece) (f : crun.Frame) (w : source.World) : Type 0 where
    pub parts : List Part
    pub w2 : source.World
    pub to : crun.Frame
    pub is : (go : Cont) → ext.with_pieces R.heap ts pieces w go ≡ go parts w2
    pub runs : Runs R cm (object_code vs ts) f (c_world p regs w) (goes to (c_world p regs w2))
    pub stand : PartsStand vs parts to
    pub kept : (u : CVar) → Each (Apart u) vs → to.vars u ≡ f.vars u
    pub depth : to.depth ≡ f.depth
    pub is_glue : to.is_glue ≡ f.is_glue
    pub shapes : HavePayloadShapes (types_of w2.objects) ts parts
    pub later : Later (types_of w.objects) (types_of w2.objects)
    pub shaped : AreShaped p w2.objects
    pub fuel : w2.fuel ≡ w.fuel
    pub fed : IsFed w.input w.answers → IsFed w2.input w2.answers

  pub record HeapEnded (vs : List CVar) (ts : List Ty) (pieces : List Piece) (f : crun.Frame) (w : source.World) : Type 0 where
    pub w2 : source.World
    pub is : (go : Cont) → ext.with_pieces R.heap ts pieces w go ≡ step.ends source.heap_end w2
    pub runs : Runs R cm (object_code vs ts) f (c_world p regs w) (stops cw.heap_end (c_world p regs w2))

  later_more : (a b c : List ℕ) → Later a b → Later b c → Later a c
  later_more a b c x y = record { at = λ n t e. y.at n t (x.at n t e) }

  number_made : (ty : Ty) (v : CVar) (vs : List CVar) (ts : List Ty) (z : ℤ) (rest : List Piece) (f : crun.Frame) (w : source.World) → is_owning ty ≡ false →
      ((ts : List ℕ) → Rattle.c_lower_worlds.specs.Shapes.HasPayloadShape ts ty (source.number z)) → f.vars v ≡ Some (cw.number z) → Each (Apart v) vs →
      AllMade vs ts rest f w ⊎ HeapEnded vs ts rest f w → AllMade (v ∷ vs) (ty ∷ ts) (plain z ∷ rest) f w ⊎ HeapEnded (v ∷ vs) (ty ∷ ts) (plain z ∷ rest) f w
  unfolding ext.with_pieces
  number_made ty v vs ts z rest f w not_own shape at apart (inr h) = inr (record { w2 = h.w2; is = λ go. h.is (λ parts w. go (source.number z ∷ parts) w); runs = rw not_own h.runs })
  number_made ty v vs ts z rest f w not_own shape at apart (inl h) = inl (record {
    parts = source.number z ∷ h.parts;
    w2 = h.w2;
    to = h.to;
    is = λ go. h.is (λ parts w. go (source.number z ∷ parts) w);
    runs = rw not_own h.runs;
    stand = (h.kept v apart ∙ at, h.stand);
    kept = λ u e. h.kept u e.1;
    depth = h.depth;
    is_glue = h.is_glue;
    shapes = (shape (types_of h.w2.objects), h.shapes);
    later = h.later;
    shaped = h.shaped;
    fuel = h.fuel;
    fed = h.fed;
  })

  object_made : (states : core.States) (t : ℕ) (args : List ℕ) (v : CVar) (vs : List CVar) (ts : List Ty) (s : ℕ) (rest : List Piece) (f : crun.Frame) (w : source.World) →
      AreShaped p w.objects → fields_of p t ≡ [] → Each (Apart v) vs → (b : Bool) → source.is_full R.heap w.objects ≡ b →
      (b ≡ false → AllMade vs ts rest (crun.with_var v (cw.reference (Some (length w.objects))) f) (step.with_objects w (w.objects ++ from_host t s loose ∷ [])) ⊎
      HeapEnded vs ts rest (crun.with_var v (cw.reference (Some (length w.objects))) f) (step.with_objects w (w.objects ++ from_host t s loose ∷ []))) →
      AllMade (v ∷ vs) (core.owning states t args ∷ ts) (new_in s ∷ rest) f w ⊎ HeapEnded (v ∷ vs) (core.owning states t args ∷ ts) (new_in s ∷ rest) f w
  unfolding ext.with_pieces step.with_made
  object_made states t args v vs ts s rest f w shaped abstract apart true full later =
      inr (record { w2 = w; is = λ go. rw full refl; runs = stops_there R cm (new_object v) (object_code vs ts) f (c_world p regs w) (c_world p regs w) cw.heap_end (new_stops p R cm v f w regs full) })
  object_made states t args v vs ts s rest f w shaped abstract apart false room later = by (later refl)
    where
      w2 : source.World
      w2 = step.with_objects w (w.objects ++ from_host t s loose ∷ [])

      g : crun.Frame
      g = crun.with_var v (cw.reference (Some (length w.objects))) f

      first : Runs R cm (new_object v) f (c_world p regs w) (goes g (c_world p regs w2))
      first = new_goes p R cm v t s loose f w regs (loose_free loose refl) room

      by : AllMade vs ts rest g w2 ⊎ HeapEnded vs ts rest g w2 → AllMade (v ∷ vs) (core.owning states t args ∷ ts) (new_in s ∷ rest) f w ⊎ HeapEnded (v ∷ vs) (core.owning states t args ∷ ts) (new_in s ∷ rest) f w
      by (inr h) = inr (record {
        w2 = h.w2;
        is = λ go. rw room (h.is (λ parts w3. go (source.owned (length w.objects) ∷ parts) w3));
        runs = runs_then R cm (new_object v) (object_code vs ts) f g (c_world p regs w) (c_world p regs w2) (stops cw.heap_end (c_world p regs h.w2)) first h.runs;
      })
      by (inl h) = inl (record {
        parts = source.owned (length w.objects) ∷ h.parts;
        w2 = h.w2;
        to = h.to;
        is = λ go. rw room (h.is (λ parts w3. go (source.owned (length w.objects) ∷ parts) w3));
        runs = runs_then R cm (new_object v) (object_code vs ts) f g (c_world p regs w) (c_world p regs w2) (goes h.to (c_world p regs h.w2)) first h.runs;
        stand = (h.kept v apart ∙ var_set v (cw.reference (Some (length w.objects))) f, h.stand);
        kept = λ u e. h.kept u e.1 ∙ var_kept v (cw.reference (Some (length w.objects))) u f e.0;
        depth = h.depth;
        is_glue = h.is_glue;
        shapes = (record { object = length w.objects; is = refl; of = h.later.at (length w.objects) t (last_type w.objects (from_host t s loose)) }, h.shapes);
        later = later_more (types_of w.objects) (types_of w2.objects) (types_of h.w2.objects) (more_later w.objects (from_host t s loose)) h.later;
        shaped = h.shaped;
        fuel = h.fuel;
        fed = h.fed;
      })

  pub pieces_made : (vs : List CVar) (ts : List Ty) (pieces : List Piece) (f : crun.Frame) (w : source.World) → length vs ≡ length ts → AllApart vs → PiecesFit p ts pieces → NumbersStand vs pieces f →
      AreShaped p w.objects → AllMade vs ts pieces f w ⊎ HeapEnded vs ts pieces f w
  unfolding ext.with_pieces
  pieces_made [] [] [] f w l a fit stand shaped = inl (record {
    parts = [];
    w2 = w;
    to = f;
    is = λ go. refl;
    runs = λ n. refl;
    stand = tt;
    kept = λ u e. refl;
    depth = refl;
    is_glue = refl;
    shapes = tt;
    later = record { at = λ n t e. e };
    shaped = shaped;
    fuel = refl;
    fed = λ x. x;
  })
  pieces_made (v ∷ vs) (core.int ∷ ts) (plain z ∷ rest) f w l a fit stand shaped =
      number_made core.int v vs ts z rest f w refl (λ ts. record { number = z; is = refl; range = fit.0 }) stand.0 a.0 (pieces_made vs ts rest f w (omega arith) a.1 fit.1 stand.1 shaped)
  pieces_made (v ∷ vs) (core.bool ∷ ts) (plain z ∷ rest) f w l a fit stand shaped =
      number_made core.bool v vs ts z rest f w refl (λ ts. record { number = z; is = refl; range = fit.0 }) stand.0 a.0 (pieces_made vs ts rest f w (omega arith) a.1 fit.1 stand.1 shaped)
  pieces_made (v ∷ vs) (core.owning states t args ∷ ts) (new_in s ∷ rest) f w l a fit stand shaped =
      object_made states t args v vs ts s rest f w shaped fit.0 a.0 (source.is_full R.heap w.objects) refl (λ room.
      pieces_made vs ts rest (crun.with_var v (cw.reference (Some (length w.objects))) f) (step.with_objects w (w.objects ++ from_host t s loose ∷ [])) (omega arith) a.1 fit.1
      (numbers_kept vs rest f (crun.with_var v (cw.reference (Some (length w.objects))) f)
      (each_map (Apart v) (λ u. f.vars u ≡ (crun.with_var v (cw.reference (Some (length w.objects))) f).vars u) vs (λ u e. sym (var_kept v (cw.reference (Some (length w.objects))) u f (apart_back v u e))) a.0) stand)
      (host_shaped p w.objects t s loose fit.0 shaped))
  pieces_made [] (t ∷ ts) pieces f w l a fit stand shaped = absurd (omega arith)
  pieces_made (v ∷ vs) [] pieces f w l a fit stand shaped = absurd (omega arith)
  pieces_made [] [] (x ∷ rest) f w l a fit stand shaped = absurd fit
  pieces_made (v ∷ vs) (t ∷ ts) [] f w l a fit stand shaped = absurd (no_pieces t ts fit)
    where
      no_pieces : (t : Ty) (ts : List Ty) → PiecesFit p (t ∷ ts) [] → ⊥
      no_pieces core.int ts h = h
      no_pieces core.bool ts h = h
      no_pieces (core.tracked k t args) ts h = h
      no_pieces (core.owning states t args) ts h = h
      no_pieces (core.guarded k t args) ts h = h
      no_pieces (core.variant t args) ts h = h
      no_pieces (core.owning_variant t args) ts h = h
  pieces_made (v ∷ vs) (core.int ∷ ts) (new_in s ∷ rest) f w l a fit stand shaped = absurd fit
  pieces_made (v ∷ vs) (core.bool ∷ ts) (new_in s ∷ rest) f w l a fit stand shaped = absurd fit
  pieces_made (v ∷ vs) (core.owning states t args ∷ ts) (plain z ∷ rest) f w l a fit stand shaped = absurd fit
  pieces_made (v ∷ vs) (core.tracked k t args ∷ ts) (x ∷ rest) f w l a fit stand shaped = absurd fit
  pieces_made (v ∷ vs) (core.guarded k t args ∷ ts) (x ∷ rest) f w l a fit stand shaped = absurd fit
  pieces_made (v ∷ vs) (core.variant t args ∷ ts) (x ∷ rest) f w l a fit stand shaped = absurd fit
  pieces_made (v ∷ vs) (core.owning_variant t args ∷ ts) (x ∷ rest) f w l a fit stand shaped = absurd fit
