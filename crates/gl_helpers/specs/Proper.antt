-- Arguments that are proper.
use Rattle.std.specs.Prelude.{List}
use Rattle.std.specs.List.{AllByRecursion}
use Rattle.gl_base.specs.Texts.{Text}
use Rattle.gl_value.specs.Value.{Value}
use Rattle.gl_value.specs.Proper.{IsProper}

-- each argument is proper
abbrev pub AllProper : {O : Type 0} → List (Value O) → Type 0
AllProper vs = AllByRecursion IsProper vs

-- each named argument is proper
abbrev pub NamedProper : {O : Type 0} → List (Text × Value O) → Type 0
NamedProper es = AllByRecursion (λ e. IsProper e.1) es
