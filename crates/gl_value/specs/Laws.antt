-- The laws of the rules on values. `src/laws.rt` proves each.
use Rattle.std.specs.Prelude.{◌≡◌, ℕ, Bool}
use Rattle.std.specs.Bool.{Decides}
use Rattle.gl_base.specs.Texts.{Text}
use Rattle.gl_value.specs.Value.{Value, depth, truthy, same, text_of, plain, attribute_text, property, key_of}
use Rattle.gl_value.specs.Owners.{with_owners, IsOneToOne}

-- the test decides whether two things are equal
abbrev pub DecidesEqual : {O : Type 0} → (O → O → Bool) → Type 0
DecidesEqual {O} eq = (x y : O) → Decides (eq x y) (x ≡ y)

-- Two values are the same just where they are equal, for any test that decides whether two owners are equal.
abbrev pub SameDecides : Type 0 → Type 0
SameDecides O = (eq : O → O → Bool) → DecidesEqual eq → DecidesEqual (same eq)

-- Whoever owns its actions, a value has the same truth, text, attribute and depth ..
abbrev pub RulesLeaveOwners : Type 0 → Type 0 → Type 0
RulesLeaveOwners O P = (f : O → P) (v : Value O)
    → (truthy (with_owners f v) ≡ truthy v)
    × (text_of (with_owners f v) ≡ text_of v)
    × (attribute_text (with_owners f v) ≡ attribute_text v)
    × (depth (with_owners f v) ≡ depth v)

-- .. and the same plain form and the same keys, which have any type of owner.
abbrev pub PlainLeavesOwners : Type 0 → Type 0 → Type 0 → Type 0
PlainLeavesOwners O P Q = (f : O → P) (v : Value O)
    → (plain {P = Q} (with_owners f v) ≡ plain {P = Q} v)
    × ((k : Text) (i : ℕ) → key_of {P = Q} k i (with_owners f v) ≡ key_of {P = Q} k i v)

-- A property of the value with other owners is the property with these owners.
abbrev pub PropertyKeepsOwners : Type 0 → Type 0 → Type 0
PropertyKeepsOwners O P = (f : O → P) (k : Text) (v : Value O) → property k (with_owners f v) ≡ with_owners f (property k v)

-- Two values are the same just where they are so with other owners, given one-to-one to those that occur.
abbrev pub SameLeavesOwners : Type 0 → Type 0 → Type 0
SameLeavesOwners O P = (eq : O → O → Bool) (eqv : P → P → Bool) → DecidesEqual eq → DecidesEqual eqv
    → (f : O → P) (v w : Value O) → IsOneToOne f v w → same eqv (with_owners f v) (with_owners f w) ≡ same eq v w
