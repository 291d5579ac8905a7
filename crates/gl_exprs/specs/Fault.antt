-- What a fault of the parser says of the reading.
use Rattle.std.specs.Prelude.{ℕ, ◌≡◌, ◌≤◌, Option, None, Result, Ok, Err}
use Rattle.gl_exprs.specs.declared.fault.Misread.{Misread}
use Rattle.gl_exprs.specs.declared.fault.Misread.TheVariants as m
use Rattle.gl_exprs.specs.declared.fault.ParseFault.{ParseFault}
use Rattle.gl_exprs.specs.declared.fault.ParseFault.TheVariants as v

-- nothing can be read there; nothing follows where memory is wanting
abbrev pub Fails : {A : Type 0} → Misread → Option A → Type 0
Fails m.NotSpelled read = read ≡ None
Fails m.Memory read = Unit {0}

-- the place that a fault names is within the text, or at its end
abbrev pub IsWithin : ℕ → ParseFault → Type 0
IsWithin size (v.NotInGrammar offset) = offset ≤ size
IsWithin size v.Memory = Unit {0}

-- the fault names this place
abbrev pub Names : ℕ → ParseFault → Type 0
Names place (v.NotInGrammar offset) = offset ≡ place
Names place v.Memory = Unit {0}

-- the whole text spells nothing of the kind; nothing follows where memory is wanting
abbrev pub Refuses : {A : Type 0} → ParseFault → Option A → Type 0
Refuses (v.NotInGrammar offset) read = read ≡ None
Refuses v.Memory read = Unit {0}

-- The answer tells what is spelled: it is that, and where it is not in the grammar there is nothing of the kind.
abbrev pub Tells : {X T : Type 0} → (X → T) → (T → Type 0) → Result X ParseFault → Type 0
Tells view IsSpelled (Ok x) = IsSpelled (view x)
Tells view IsSpelled (Err (v.NotInGrammar offset)) = (tree : _) → IsSpelled tree → ⊥
Tells view IsSpelled (Err v.Memory) = Unit {0}
