-- How JSON is read into values. An object's members stand in the byte order of their keys.
use Rattle.std.specs.Prelude.{ℕ, nat_lt, ◌-◌, ℤ, pos, List, [], ◌∷◌, Bool, true, ◌&&◌, Option, Some, None, is_none, Result, Ok, Err, if◌then◌else◌, unwrap_or}
use Rattle.std.specs.Option.{option_or}
use Rattle.std.specs.Str.{chars}
use Rattle.gl_base.specs.Texts.{Text}
use Rattle.gl_value.specs.Value.{Value, null, boolean, integer, text, list, pairs, values_of, pairs_of}
use Rattle.gl_value.specs.Scalar.{is_within}
use Rattle.serde_json.specs.Data as json
use Rattle.serde_json.specs.Find.{as_integer}

-- why a number is no integer of a value: it isn't whole, or it is beyond the bounds
pub data Bad : Type 0 where
  not_whole : Bad
  too_large : Bad

-- why JSON is no value: a number is bad, or it is nested deeper than 100
pub data Fault : Type 0 where
  bad_number : Bad → Fault
  too_deep : Fault

abbrev pub integer_fault : Option ℤ → Option Bad
integer_fault None = Some not_whole
integer_fault (Some z) = if is_within z then None else Some too_large

abbrev pub number_fault : json.Num → Option Bad
number_fault n = integer_fault (as_integer n)

-- what is wrong with the first bad number, in the order of indexes and keys
abbrev mutual
  pub first_bad : json.Data → Option Bad
  first_bad json.null = None
  first_bad (json.boolean b) = None
  first_bad (json.number n) = number_fault n
  first_bad (json.string s) = None
  first_bad (json.array ds) = first_bad_item ds
  first_bad (json.object ms) = first_bad_member ms

  pub first_bad_item : json.Items → Option Bad
  first_bad_item json.no_items = None
  first_bad_item (json.item d ds) = option_or (first_bad d) (first_bad_item ds)

  pub first_bad_member : json.Members → Option Bad
  first_bad_member json.no_members = None
  first_bad_member (json.member k d ms) = option_or (first_bad d) (first_bad_member ms)

-- no number is bad, and it is nested at most so deep
abbrev mutual
  pub fits : ℕ → json.Data → Bool
  fits most json.null = true
  fits most (json.boolean b) = true
  fits most (json.number n) = is_none (number_fault n)
  fits most (json.string s) = true
  fits most (json.array ds) = nat_lt 0 most && items_fit (most - 1) ds
  fits most (json.object ms) = nat_lt 0 most && members_fit (most - 1) ms

  pub items_fit : ℕ → json.Items → Bool
  items_fit most json.no_items = true
  items_fit most (json.item d ds) = fits most d && items_fit most ds

  pub members_fit : ℕ → json.Members → Bool
  members_fit most json.no_members = true
  members_fit most (json.member k d ms) = fits most d && members_fit most ms

-- the value of JSON that has no bad number
abbrev mutual
  pub value_of : {O : Type 0} → json.Data → Value O
  value_of json.null = null
  value_of (json.boolean b) = boolean b
  value_of (json.number n) = integer (unwrap_or (as_integer n) (pos 0))
  value_of (json.string s) = text (chars s)
  value_of (json.array ds) = list (values_of (items_of ds))
  value_of (json.object ms) = pairs (pairs_of (members_of ms))

  pub items_of : {O : Type 0} → json.Items → List (Value O)
  items_of json.no_items = []
  items_of (json.item d ds) = value_of d ∷ items_of ds

  pub members_of : {O : Type 0} → json.Members → List (Text × Value O)
  members_of json.no_members = []
  members_of (json.member k d ms) = (chars k, value_of d) ∷ members_of ms

-- the value, or why there is none: first a bad number, and else the depth
abbrev pub reading : {O : Type 0} → Option Bad → ℕ → Value O → Result (Value O) Fault
reading (Some bad) depth v = Err (bad_number bad)
reading None depth v = if nat_lt 100 depth then Err too_deep else Ok v

abbrev pub from_json : {O : Type 0} → json.Data → Result (Value O) Fault
from_json d = reading (first_bad d) (json.depth d) (value_of d)
