-- Which values a JSON scalar stands for, and which values keep the bounds.
use Rattle.std.specs.Prelude.{ℤ, pos, negsuc, ◌≤ℤ◌, Bool, ◌&&◌, int_le, Option, Some, None, option_and_then, if◌then◌else◌}
use Rattle.std.specs.Str.{chars}
use Rattle.gl_value.specs.Value.{Value, null, boolean, integer, text}
use Rattle.serde_json.specs.Data as json
use Rattle.serde_json.specs.Find.{as_i64}

-- the greatest and the least integer
abbrev pub greatest : ℤ
greatest = pos 9007199254740991

abbrev pub least : ℤ
least = negsuc 9007199254740990

-- an integer that a value can hold
abbrev pub is_within : ℤ → Bool
is_within z = int_le least z && int_le z greatest

abbrev pub whole_of : {O : Type 0} → json.Num → Option (Value O)
whole_of n = option_and_then (λ z. if is_within z then Some (integer z) else None) (as_i64 n)

-- the value of null, a Boolean, an integer within the bounds, or a text; nothing for all other JSON
abbrev pub scalar_of : {O : Type 0} → json.Data → Option (Value O)
scalar_of json.null = Some null
scalar_of (json.boolean b) = Some (boolean b)
scalar_of (json.number n) = whole_of n
scalar_of (json.string s) = Some (text (chars s))
scalar_of (json.array ds) = None
scalar_of (json.object ms) = None

-- its integer keeps the bounds
abbrev pub IsProper : {O : Type 0} → Value O → Type 0
IsProper (integer z) = (least ≤ℤ z) × (z ≤ℤ greatest)
IsProper v = Unit {0}
