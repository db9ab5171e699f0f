-- The topmost of several refusals, taken apart and put together.
use Rattle.std.proofs.Common.{◌≡◌, ℕ, Bool, true, false, cond, List, [], ◌∷◌, ◌++◌, Some, None, refl, ap, ◌∙◌, arith}
use Rattle.cards.specs.declared.refusals.Refusal.{Refusal}
use Rattle.cards.specs.Refusals.{topmost}

-- nothing is refused: the first condition fails, and so do the others
pub none_parts : (refusal : Refusal) (b : Bool) (rows : List (Refusal × Bool)) → topmost ((refusal, b) ∷ rows) ≡ None → (b ≡ false) × (topmost rows ≡ None)
none_parts refusal true rows e = let z : ◌≡◌ {A = ℕ} 0 1 = cc in absurd (omega arith)
none_parts refusal false rows e = (refl, e)

pub none_from : (refusal : Refusal) (b : Bool) (rows : List (Refusal × Bool)) → b ≡ false → topmost rows ≡ None → topmost ((refusal, b) ∷ rows) ≡ None
none_from refusal b rows e h = ap (λ t. cond t (Some refusal) (topmost rows)) e ∙ h

pub topmost_past : (rows more : List (Refusal × Bool)) → topmost rows ≡ None → topmost (rows ++ more) ≡ topmost more
topmost_past [] more e = refl
topmost_past (row ∷ rows) more e =
    let parts = none_parts row.0 row.1 rows e in
    ap (λ b. cond b (Some row.0) (topmost (rows ++ more))) parts.0 ∙ topmost_past rows more parts.1

early : (refusal found : Refusal) (b : Bool) (rows more : List (Refusal × Bool)) → (topmost rows ≡ Some found → topmost (rows ++ more) ≡ Some found) → topmost ((refusal, b) ∷ rows) ≡ Some found → topmost ((refusal, b) ∷ (rows ++ more)) ≡ Some found
early refusal found true rows more deeper e = e
early refusal found false rows more deeper e = deeper e

pub topmost_early : (rows more : List (Refusal × Bool)) (found : Refusal) → topmost rows ≡ Some found → topmost (rows ++ more) ≡ Some found
topmost_early [] more found e = let z : ◌≡◌ {A = ℕ} 0 1 = cc in absurd (omega arith)
topmost_early (row ∷ rows) more found e = early row.0 found row.1 rows more (topmost_early rows more found) e
