-- Which values are proper: their integers keep the bounds, the keys of their records rise, and nothing is nested deeper than 100.
use Rattle.std.specs.Prelude.{◌≤◌, ◌≤ℤ◌, IsTrue}
use Rattle.gl_base.specs.Texts.{Text, text_less}
use Rattle.gl_value.specs.Value.{Value, integer, list, pairs, action, Values, no_values, value, Members, no_members, member, depth}
use Rattle.gl_value.specs.Scalar.{least, greatest}

-- the key is less, by bytes, than the first of the members
abbrev pub IsBefore : {O : Type 0} → Text → Members O → Type 0
IsBefore k no_members = Unit {0}
IsBefore k (member l v ms) = IsTrue (text_less k l)

-- each integer is within the bounds, and the keys of each record rise
abbrev mutual
  pub Keeps : {O : Type 0} → Value O → Type 0
  Keeps (integer z) = (least ≤ℤ z) × (z ≤ℤ greatest)
  Keeps (list vs) = KeepAll vs
  Keeps (pairs ms) = KeepMembers ms
  Keeps (action o n vs) = KeepAll vs
  Keeps v = Unit {0}

  pub KeepAll : {O : Type 0} → Values O → Type 0
  KeepAll no_values = Unit {0}
  KeepAll (value v vs) = Keeps v × KeepAll vs

  pub KeepMembers : {O : Type 0} → Members O → Type 0
  KeepMembers no_members = Unit {0}
  KeepMembers (member k v ms) = IsBefore k ms × Keeps v × KeepMembers ms

abbrev pub IsProper : {O : Type 0} → Value O → Type 0
IsProper v = (depth v ≤ 100) × Keeps v
