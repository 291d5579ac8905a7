-- What a look-up of a property finds: a value that the value lends, or else a count or undefined.
use Rattle.std.specs.Prelude.{ℕ, Option, Some, None}
use Rattle.gl_value.specs.Value as v
use Rattle.gl_value.specs.View.{view}
use Rattle.gl_value.specs.declared.property.Found.{Found}
use Rattle.gl_value.specs.declared.property.Found.TheVariants as code

abbrev pub seen_found : Found → v.Value ℕ
seen_found code.Undefined = v.undefined
seen_found (code.Count n) = v.integer n
seen_found (code.Lent r) = view r.now

-- a value that may be missing
abbrev pub or_undefined : {O : Type 0} → Option (v.Value O) → v.Value O
or_undefined (Some x) = x
or_undefined None = v.undefined
