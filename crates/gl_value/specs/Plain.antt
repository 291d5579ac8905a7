-- Plain forms, pair by pair, and the values that are their own.
use Rattle.std.specs.Prelude.{Bool, true, false, ◌&&◌}
use Rattle.gl_base.specs.Texts.{Text}
use Rattle.gl_value.specs.Value.{Value, list, pairs, action, Values, no_values, value, Members, no_members, member, plain}

-- a key with the plain form of its value
abbrev pub plain_pair : {O P : Type 0} → Text × Value O → Text × Value P
plain_pair p = (p.0, plain p.1)

-- no action occurs in the value
abbrev mutual
  pub is_plain : {O : Type 0} → Value O → Bool
  is_plain (list vs) = are_plain vs
  is_plain (pairs ms) = have_plain ms
  is_plain (action o n vs) = false
  is_plain _ = true

  pub are_plain : {O : Type 0} → Values O → Bool
  are_plain no_values = true
  are_plain (value v vs) = is_plain v && are_plain vs

  pub have_plain : {O : Type 0} → Members O → Bool
  have_plain no_members = true
  have_plain (member k v ms) = is_plain v && have_plain ms
