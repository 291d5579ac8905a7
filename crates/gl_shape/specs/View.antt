-- What the code's answers stand for.
use Rattle.std.specs.Prelude.{◌≡◌, ◌++◌, [], Result, Ok, Err}
use Rattle.gl_base.specs.Texts.{Text}
use Rattle.gl_meaning.specs.Walk.{Found}
use Rattle.gl_shape.specs.declared.fault.PlaceFault.{PlaceFault}
use Rattle.gl_shape.specs.declared.fault.PlaceFault.TheVariants as v

-- The answer is what is found: a value, or the first faulty place. Where memory is wanting nothing is said.
abbrev pub Tells : {X A : Type 0} → (X → A) → Result X PlaceFault → Found A → Type 0
Tells view (Ok x) found = found ≡ Ok (view x)
Tells view (Err (v.At p)) found = found ≡ Err p
Tells view (Err v.Memory) found = Unit {0}

abbrev pub IsHere : PlaceFault → Type 0
IsHere (v.At p) = p ≡ []
IsHere v.Memory = ⊥

-- The fault is that one a step further down, or memory is wanting.
abbrev pub IsFaultUnder : {X : Type 0} → Text → Text → Result X PlaceFault → Type 0
IsFaultUnder step p (Ok x) = ⊥
IsFaultUnder step p (Err (v.At q)) = q ≡ step ++ p
IsFaultUnder step p (Err v.Memory) = Unit {0}

-- the new answer is the old one, where that was found a step further down
abbrev pub IsUnder : {X : Type 0} → Text → Result X PlaceFault → Result X PlaceFault → Type 0
IsUnder step (Ok x) new = new ≡ Ok x
IsUnder step (Err (v.At p)) new = IsFaultUnder step p new
IsUnder step (Err v.Memory) new = new ≡ Err v.Memory
