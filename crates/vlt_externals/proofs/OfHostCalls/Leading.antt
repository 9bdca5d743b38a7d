-- What holds of the step that a call of an external leads to, from what holds of where its parts come to.
use Rattle.std.proofs.Common.{◌≡◌, ℕ, ◌+◌, ℤ, Bool, true, false, if◌then◌else◌, List, [], ◌∷◌, ◌++◌, length, Option, None, Some, Ok, Err, refl, ◌∙◌, sym, slice_get}
use Rattle.std.specs.List.{flat_map}
use Rattle.vlt_core.specs.Core.{Ty, Func, Program}
use Rattle.vlt_core.specs.Lookups.{VariantOf, variant_in, case_at, case_keys}
use Rattle.vlt_meaning.specs.World.{Part, number, reference, owned, objects_in, Value, one, of_case, held, loose, out, is_at, is_loose, Object as Thing, is_full, Event, called, World, Frame, Outcome, heap_end, answers_end, fault, missing, no_value, not_empty, is_fault}
use Rattle.vlt_meaning.specs.Found.{Found, ◌>>=◌, or_fault}
use Rattle.vlt_meaning.specs.Step.{Step, goes, ends, with_found, where_so, with_objects, with_event, first_answer, with_answer, with_moved, with_made, with_var, with_key, fill, is_fillable, deliver}
use Rattle.vlt_meaning.specs.Calls.{entries_after, passed_objects, Binding}
use Rattle.vlt_meaning.specs.HostAnswers.{Piece, plain, new_in, Result as Given, nothing, piece, case_with}
use Rattle.vlt_meaning.specs.Externals.{awaited_keys, named_objects, taken_objects, from_host, type_in, payload_in, new_key, objects_of_keys, keys_of_case, Fitting, fitting, or_bad, with_answered, with_pieces, with_fresh, with_result, call_external}
use Rattle.vlt_meaning_laws.proofs.Keeping.{err-ok}
use Rattle.vlt_acts.proofs.OfValues.Touching.{OrFault, then_fault, some_fault}
use Rattle.vlt_acts.proofs.OfObjects.Going.{moved_fault}
use Rattle.vlt_externals.specs.Sent.{taken_out, owned_out}
use Rattle.vlt_externals.specs.Results.Results.{pieces_made, variant_made, Made, fresh_made, result_made}
use Rattle.vlt_externals.specs.HostCalls.Heeded.{made_of_answer}

-- what is found is gone on from, with these objects; else the run ends, whatever objects there are
abbrev pub Leads : {A : Type 0} → (Step → Type 0) → (A → World → Step) → World → Found (A × List Thing) → Type 0
Leads P go w (Ok q) = P (go q.0 (with_objects w q.1))
Leads P go w (Err o) = (objects : List Thing) → P (ends o (with_objects w objects))

abbrev pub LeadsOn : (Step → Type 0) → (Option Value → Frame → World → Step) → World → Found Made → Type 0
LeadsOn P go w (Ok m) = P (go m.value m.frame (with_objects w m.objects))
LeadsOn P go w (Err o) = (objects : List Thing) → P (ends o (with_objects w objects))

-- a part is made, unless the heap is full
abbrev made_if : (full : Bool) → Part → List Thing → Found (Part × List Thing)
made_if full p objects = if full then Err heap_end else Ok (p, objects)

abbrev as_single : Found (Part × List Thing) → Found (Value × List Thing)
as_single x = x >>= (λ q. Ok (one q.0, q.1))

abbrev as_case : (case : ℕ) → (keys : List ℕ) → Found (List Part × List Thing) → Found (Value × List Thing)
as_case c ns x = x >>= (λ q. Ok (of_case c q.0 ns, q.1))

abbrev as_made : Frame → Found (Value × List Thing) → Found Made
as_made frame x = x >>= (λ q. Ok (record { value = Some q.0; frame = frame; objects = q.1 }))

-- the objects that keys name are there, or the run goes wrong
pub named_fault : (keys : List ℕ) (frame : Frame) (js : List ℕ) → OrFault (named_objects keys frame js)
named_fault keys frame [] = tt
named_fault keys frame (j ∷ js) =
    then_fault (or_fault missing (slice_get keys j)) _ (some_fault missing (slice_get keys j)) (λ k.
    then_fault (or_fault no_value (frame.keys k)) _ (some_fault no_value (frame.keys k)) (λ n.
    then_fault (named_objects keys frame js) _ (named_fault keys frame js) (λ ns. tt)))

-- an event was written and an answer taken, and these are the objects
abbrev pub answered : Event → World → (rest : List (List ℤ)) → List Thing → World
answered e w rest objects = record (with_event w e) { answers = rest; taken = w.taken + 1; objects = objects }

-- ---- the parts of a call

module _ (b : ℕ) (p : Program) (f : Func) (target : Option ℕ) (keys : List ℕ) (g : Func) (args : List Value) (frame : Frame) (zs : List ℤ) where
  abbrev pub then_heed : World → Step
  then_heed w = with_found (or_bad w.taken (fitting p g keys frame zs w.objects)) w (λ q.
      with_result b p g keys q.answer.states q.answer.result frame (with_objects w (with_answered p g keys frame q.answer q.objects)) (deliver f target))

  abbrev pub then_hand : World → Step
  then_hand w = with_moved is_loose out (flat_map objects_in args) w then_heed

  abbrev pub then_take : World → Step
  then_take w = with_moved (is_at frame.depth) out (taken_objects keys frame g.clause) w then_hand

module _ (P : Step → Type 0) where
  -- ---- what is made

  pub pieces_lead : (b : ℕ) (ts : List Ty) (xs : List Piece) (w : World) (go : List Part → World → Step) → Leads P go w (pieces_made b ts xs w.objects) → P (with_pieces b ts xs w go)
  unfolding with_pieces with_made
  pieces_lead b [] xs w go k = k
  pieces_lead b (t ∷ ts) [] w go k = k
  pieces_lead b (t ∷ ts) (plain z ∷ xs) w go k =
      pieces_lead b ts xs w (λ parts w. go (number z ∷ parts) w) (more (pieces_made b ts xs w.objects) k)
    where
      more : (x : Found (List Part × List Thing)) → Leads P go w (x >>= (λ r. Ok (number z ∷ r.0, r.1))) → Leads P (λ parts w. go (number z ∷ parts) w) w x
      more (Ok r) k = k
      more (Err o) k = k
  pieces_lead b (t ∷ ts) (new_in s ∷ xs) w go k = by (pieces_lead b ts xs) (is_full b w.objects) k
    where
      more : (x : Found (List Part × List Thing)) → Leads P go w (x >>= (λ r. Ok (owned (length w.objects) ∷ r.0, r.1))) → Leads P (λ parts w2. go (owned (length w.objects) ∷ parts) w2) (with_objects w (w.objects ++ from_host (type_in (Some t)) s loose ∷ [])) x
      more (Ok r) k = k
      more (Err o) k = k

      by : ((w : World) (go : List Part → World → Step) → Leads P go w (pieces_made b ts xs w.objects) → P (with_pieces b ts xs w go)) → (full : Bool)
          → Leads P go w (made_if full (owned (length w.objects)) (w.objects ++ from_host (type_in (Some t)) s loose ∷ []) >>= (λ q. pieces_made b ts xs q.1 >>= (λ r. Ok (q.0 ∷ r.0, r.1))))
          → P (if full then ends heap_end w else with_pieces b ts xs (with_objects w (w.objects ++ from_host (type_in (Some t)) s loose ∷ [])) (λ parts w2. go (owned (length w.objects) ∷ parts) w2))
      by again true k = k w.objects
      by again false k =
          again (with_objects w (w.objects ++ from_host (type_in (Some t)) s loose ∷ [])) (λ parts w2. go (owned (length w.objects) ∷ parts) w2) (more (pieces_made b ts xs (w.objects ++ from_host (type_in (Some t)) s loose ∷ [])) k)

  fresh_leads : (b t : ℕ) (o : Option Binding) (frame : Frame) (w : World) (go : Option Value → Frame → World → Step) → LeadsOn P go w (fresh_made b t o frame w.objects) → P (with_fresh b t o frame w go)
  unfolding with_fresh with_made
  fresh_leads b t None frame w go k = k
  fresh_leads b t (Some n) frame w go k = by (is_full b w.objects) k
    where
      by : (full : Bool) → LeadsOn P go w (if full then Err heap_end else Ok (record { value = Some (one (reference (length w.objects))); frame = with_key n.key (length w.objects) frame; objects = w.objects ++ from_host t n.number (held frame.depth n.key) ∷ [] }))
          → P (if full then ends heap_end w else go (Some (one (reference (length w.objects)))) (with_key n.key (length w.objects) frame) (with_objects w (w.objects ++ from_host t n.number (held frame.depth n.key) ∷ [])))
      by true k = k w.objects
      by false k = k

  pub result_leads : (b : ℕ) (p : Program) (g : Func) (keys states : List ℕ) (given : Given) (frame : Frame) (w : World) (go : Option Value → Frame → World → Step) → LeadsOn P go w (result_made b p g keys states given frame w.objects)
      → P (with_result b p g keys states given frame w go)
  unfolding with_result with_made with_found
  result_leads b p g keys states nothing frame w go k = fresh_leads b (type_in g.result) (new_key keys (entries_after g) states) frame w go k
  result_leads b p g keys states (piece (plain z)) frame w go k = k
  result_leads b p g keys states (piece (new_in s)) frame w go k = by (is_full b w.objects) k
    where
      by : (full : Bool) → LeadsOn P go w (as_made frame (as_single (made_if full (owned (length w.objects)) (w.objects ++ from_host (type_in g.result) s loose ∷ []))))
          → P (if full then ends heap_end w else go (Some (one (owned (length w.objects)))) frame (with_objects w (w.objects ++ from_host (type_in g.result) s loose ∷ [])))
      by true k = k w.objects
      by false k = k
  result_leads b p g keys states (case_with c ss xs) frame w go k = by (variant_in g.result) k
    where
      more : (v : VariantOf) (x : Found (List Part × List Thing))
          → LeadsOn P go w (as_made frame (as_case c (objects_of_keys keys frame (case_keys p v c)) x))
          → Leads P (λ parts w. go (Some (of_case c parts (objects_of_keys keys frame (case_keys p v c)))) frame w) w x
      more v (Ok q) k = k
      more v (Err o) k = k

      by : (o : Option VariantOf) → LeadsOn P go w (or_fault missing o >>= (λ v. as_made frame (variant_made b p v keys frame (case_with c ss xs) w.objects)))
          → P (with_found (or_fault missing o) w (λ v. with_pieces b (payload_in (case_at p v.type c)) xs w (λ parts w. go (Some (of_case c parts (objects_of_keys keys frame (keys_of_case p o (case_with c ss xs))))) frame w)))
      by None k = k w.objects
      by (Some v) k =
          pieces_lead b (payload_in (case_at p v.type c)) xs w (λ parts w. go (Some (of_case c parts (objects_of_keys keys frame (case_keys p v c)))) frame w) (more v (pieces_made b (payload_in (case_at p v.type c)) xs w.objects) k)

  -- ---- what an answer says

  pub heeded_leads : (b : ℕ) (p : Program) (g : Func) (keys : List ℕ) (n : ℕ) (frame : Frame) (zs : List ℤ) (w : World) (go : Option Value → Frame → World → Step) → LeadsOn P go w (made_of_answer b p g keys n frame zs w.objects)
      → P (with_found (or_bad n (fitting p g keys frame zs w.objects)) w (λ q. with_result b p g keys q.answer.states q.answer.result frame (with_objects w (with_answered p g keys frame q.answer q.objects)) go))
  unfolding with_found
  heeded_leads b p g keys n frame zs w go k = by (or_bad n (fitting p g keys frame zs w.objects)) k
    where
      same : (q : Fitting) (x : Found Made) → LeadsOn P go w x → LeadsOn P go (with_objects w (with_answered p g keys frame q.answer q.objects)) x
      same q (Ok m) k = k
      same q (Err o) k = k

      by : (x : Found Fitting) → LeadsOn P go w (x >>= (λ q. result_made b p g keys q.answer.states q.answer.result frame (with_answered p g keys frame q.answer q.objects)))
          → P (with_found x w (λ q. with_result b p g keys q.answer.states q.answer.result frame (with_objects w (with_answered p g keys frame q.answer q.objects)) go))
      by (Ok q) k =
          result_leads b p g keys q.answer.states q.answer.result frame (with_objects w (with_answered p g keys frame q.answer q.objects)) go
          (same q (result_made b p g keys q.answer.states q.answer.result frame (with_answered p g keys frame q.answer q.objects)) k)
      by (Err o) k = k w.objects

  module _ (bad : (o : Outcome) (v : World) → is_fault o ≡ true → P (ends o v)) where
    -- ---- what is given to the variable

    found_leads : {A : Type 0} (x : Found A) (w : World) (go : A → Step) → OrFault x → ((a : A) → x ≡ Ok a → P (go a)) → P (with_found x w go)
    unfolding with_found
    found_leads (Ok a) w go fine rest = rest a refl
    found_leads (Err o) w go fine rest = bad o w fine

    pub delivered_leads : (f : Func) (target : Option ℕ) (a : Option Value) (frame : Frame) (w : World) → (target ≡ None → P (goes frame w)) → ((v : ℕ) (x : Value) → target ≡ Some v → a ≡ Some x → P (goes (with_var v (Some x) frame) w)) → P (deliver f target a frame w)
    unfolding deliver with_found fill where_so
    delivered_leads f None a frame w none some = none refl
    delivered_leads f (Some v) None frame w none some = bad (fault no_value None) w refl
    delivered_leads f (Some v) (Some x) frame w none some = by (is_fillable f v frame)
      where
        by : (t : Bool) → P (where_so t not_empty None w (λ w. goes (with_var v (Some x) frame) w))
        by true = some v x refl refl
        by false = bad (fault not_empty None) w refl

    -- ---- the whole call

    module _ (b : ℕ) (p : Program) (f : Func) (target : Option ℕ) (keys : List ℕ) (g : Func) (args : List Value) (frame : Frame) (w : World) (fine : OrFault (passed_objects p g keys frame w.objects g.clause)) where
      -- the objects that the clause wants aren't there
      pub wrong_leads : (o : Outcome) → passed_objects p g keys frame w.objects g.clause ≡ Err o → P (call_external b p f target keys g args frame w)
      unfolding call_external
      wrong_leads o is = found_leads (passed_objects p g keys frame w.objects g.clause) w _ fine (λ ns found. absurd (err-ok (sym is ∙ found)))

      pub external_leads : (w.answers ≡ [] → P (ends answers_end (with_event w (called g.name args))))
          → ((zs : List ℤ) (rest : List (List ℤ)) (first second : List Thing) → w.answers ≡ zs ∷ rest → taken_out keys g.clause frame w.objects ≡ Ok first → owned_out args first ≡ Ok second
          → LeadsOn P (deliver f target) (answered (called g.name args) w rest second) (made_of_answer b p g keys (w.taken + 1) frame zs second))
          → P (call_external b p f target keys g args frame w)
      unfolding call_external with_answer first_answer with_moved
      external_leads none some =
          found_leads (passed_objects p g keys frame w.objects g.clause) w _ fine (λ ns is.
          found_leads (named_objects keys frame (awaited_keys p g)) w _ (named_fault keys frame (awaited_keys p g)) (λ ms named.
          by w.answers refl))
        where
          last : (zs : List ℤ) (rest : List (List ℤ)) → w.answers ≡ zs ∷ rest → (first second : List Thing) → taken_out keys g.clause frame w.objects ≡ Ok first → owned_out args first ≡ Ok second
              → P (with_found (or_bad (w.taken + 1) (fitting p g keys frame zs second)) (answered (called g.name args) w rest second) (λ q. with_result b p g keys q.answer.states q.answer.result frame (with_objects (answered (called g.name args) w rest second) (with_answered p g keys frame q.answer q.objects)) (deliver f target)))
          last zs rest at first second taken handed = heeded_leads b p g keys (w.taken + 1) frame zs (answered (called g.name args) w rest second) (deliver f target) (some zs rest first second at taken handed)

          by : (x : List (List ℤ)) → w.answers ≡ x
              → P (first_answer x (with_event w (called g.name args)) (λ numbers w.
              with_moved (is_at frame.depth) out (taken_objects keys frame g.clause) w (λ w.
              with_moved is_loose out (flat_map objects_in args) w (λ w.
              with_found (or_bad w.taken (fitting p g keys frame numbers w.objects)) w (λ q.
              with_result b p g keys q.answer.states q.answer.result frame (with_objects w (with_answered p g keys frame q.answer q.objects)) (deliver f target))))))
          by [] at = none at
          by (zs ∷ rest) at =
              found_leads (taken_out keys g.clause frame w.objects) (answered (called g.name args) w rest w.objects) _ (moved_fault (is_at frame.depth) out (taken_objects keys frame g.clause) w.objects) (λ first taken.
              found_leads (owned_out args first) (answered (called g.name args) w rest first) _ (moved_fault is_loose out (flat_map objects_in args) first) (λ second handed.
              last zs rest at first second taken handed))
