-- Worked bodies: the places of their points.
use Rattle.std.proofs.Common.{◌≡◌, false, refl, [], ◌∷◌}
use Rattle.vlt_core.specs.Flow.{step, choose, loop, switch, return, jump, Block, block, done, next, no_arms, arm}
use Rattle.vlt_points_laws.specs.Points.{places_block}

-- 1: s;  2: if (..) { 3: s; 4: } else { 5: }  6: return; with the function's brace at 7, to which nothing comes
abbrev pub branches : Block
branches = block (next 1 (step []) (next 2 (choose [] (block (next 3 (step []) done) [] 4) (block done [] 5)) (next 6 (return []) done))) [] 7

pub sample_branches : places_block branches ≡ 1 ∷ 2 ∷ 3 ∷ 4 ∷ 5 ∷ 6 ∷ []
sample_branches = refl

-- an else that is missing ends where its then ends: 2: if (..) { 3: return; 4: }  6: return;
abbrev pub missing : Block
missing = block (next 2 (choose [] (block (next 3 (return []) done) [] 4) (block done [] 4)) (next 6 (return []) done)) [] 7

pub sample_missing : places_block missing ≡ 2 ∷ 3 ∷ 4 ∷ 6 ∷ []
sample_missing = refl

-- 1: while (..) { 2: switch (..) { case: { 3: break; 4: } case: { 5: s; 6: } 7: } 8: }  9: return;
abbrev pub loops : Block
loops = block (next 1 (loop [] (block (next 2 (switch [] (arm [] (block (next 3 (jump false []) done) [] 4) (arm [] (block (next 5 (step []) done) [] 6) no_arms)) 7) done) [] 8)) (next 9 (return []) done)) [] 10

pub sample_loops : places_block loops ≡ 1 ∷ 2 ∷ 3 ∷ 5 ∷ 6 ∷ 8 ∷ 9 ∷ []
sample_loops = refl
