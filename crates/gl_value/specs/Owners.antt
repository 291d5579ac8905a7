-- Values with other owners of their actions.
use Rattle.std.specs.Prelude.{◌≡◌, ◌⊎◌}
use Rattle.gl_value.specs.Value.{Value, undefined, null, boolean, integer, text, list, pairs, action, Values, no_values, value, Members, no_members, member}

-- the value with f of each owner in its place
abbrev mutual
  pub with_owners : {O P : Type 0} → (O → P) → Value O → Value P
  with_owners f undefined = undefined
  with_owners f null = null
  with_owners f (boolean b) = boolean b
  with_owners f (integer i) = integer i
  with_owners f (text s) = text s
  with_owners f (list vs) = list (values_with f vs)
  with_owners f (pairs ms) = pairs (members_with f ms)
  with_owners f (action o n vs) = action (f o) n (values_with f vs)

  pub values_with : {O P : Type 0} → (O → P) → Values O → Values P
  values_with f no_values = no_values
  values_with f (value v vs) = value (with_owners f v) (values_with f vs)

  pub members_with : {O P : Type 0} → (O → P) → Members O → Members P
  members_with f no_members = no_members
  members_with f (member k v ms) = member k (with_owners f v) (members_with f ms)

-- o owns an action that occurs in the value
abbrev mutual
  pub Owns : {O : Type 0} → O → Value O → Type 0
  Owns o (list vs) = OwnsIn o vs
  Owns o (pairs ms) = OwnsAmong o ms
  Owns o (action p n vs) = (o ≡ p) ⊎ OwnsIn o vs
  Owns o v = ⊥

  pub OwnsIn : {O : Type 0} → O → Values O → Type 0
  OwnsIn o no_values = ⊥
  OwnsIn o (value v vs) = Owns o v ⊎ OwnsIn o vs

  pub OwnsAmong : {O : Type 0} → O → Members O → Type 0
  OwnsAmong o no_members = ⊥
  OwnsAmong o (member k v ms) = Owns o v ⊎ OwnsAmong o ms

-- f is one-to-one on the owners that occur in the two values
abbrev pub IsOneToOne : {O P : Type 0} → (O → P) → Value O → Value O → Type 0
IsOneToOne {O} f v w = (o p : O) → Owns o v → Owns p w → f o ≡ f p → o ≡ p
