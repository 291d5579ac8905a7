-- What each helper gives, for any type of owner.
--
-- A missing argument is undefined and a surplus one is ignored. A result that is nested deeper than 100 is undefined.
use Rattle.std.specs.Prelude.{nat_lt, ℕ, suc, ℤ, pos, negsuc, ◌+ℤ◌, ◌-ℤ◌, ◌*ℤ◌, int_lt, List, [], ◌∷◌, ◌++◌, map, filter, flat_map, reverse, Bool, true, false, ◌&&◌, not, if◌then◌else◌, codes, Option, Some, None}
use Rattle.std.specs.List.{list_any}
use Rattle.std.specs.Str.{bytes_eq}
use Rattle.std.specs.Bool.{beq}
use Rattle.std.specs.Int.{int_min, int_max}
use Rattle.std.specs.Ordering.{int_eq}
use Rattle.gl_base.specs.Texts.{Text, text_less}
use Rattle.gl_base.specs.Names.{at_place}
use Rattle.gl_value.specs.Signs.{full_stop}
use Rattle.gl_value.specs.Value.{Value, undefined, boolean, integer, text, list, pairs, action, Members, no_members, member, values_of, list_of, depth, truthy, same, text_of, property, properties, split}

-- The helpers, in the order of their numbers from 0.
pub data Helper : Type 0 where
  if_helper : Helper
  unless_helper : Helper
  concat_helper : Helper
  array_helper : Helper
  hash_helper : Helper
  get_helper : Helper
  fn_helper : Helper
  add_helper : Helper
  sub_helper : Helper
  mul_helper : Helper
  min_helper : Helper
  max_helper : Helper
  eq_helper : Helper
  ne_helper : Helper
  not_helper : Helper
  and_helper : Helper
  or_helper : Helper
  lt_helper : Helper
  lte_helper : Helper
  gt_helper : Helper
  gte_helper : Helper
  length_helper : Helper
  append_helper : Helper
  remove_at_helper : Helper
  put_helper : Helper
  slice_helper : Helper
  reverse_helper : Helper
  includes_helper : Helper
  where_helper : Helper
  remove_where_helper : Helper
  update_where_helper : Helper
  pluck_helper : Helper
  join_helper : Helper

-- The names under which they are called, in the same order: the place of a row is the number of its helper.
abbrev pub helper_table : List (Text × Helper)
helper_table =
    (codes "if", if_helper)
    ∷ (codes "unless", unless_helper)
    ∷ (codes "concat", concat_helper)
    ∷ (codes "array", array_helper)
    ∷ (codes "hash", hash_helper)
    ∷ (codes "get", get_helper)
    ∷ (codes "fn", fn_helper)
    ∷ (codes "add", add_helper)
    ∷ (codes "sub", sub_helper)
    ∷ (codes "mul", mul_helper)
    ∷ (codes "min", min_helper)
    ∷ (codes "max", max_helper)
    ∷ (codes "eq", eq_helper)
    ∷ (codes "ne", ne_helper)
    ∷ (codes "not", not_helper)
    ∷ (codes "and", and_helper)
    ∷ (codes "or", or_helper)
    ∷ (codes "lt", lt_helper)
    ∷ (codes "lte", lte_helper)
    ∷ (codes "gt", gt_helper)
    ∷ (codes "gte", gte_helper)
    ∷ (codes "length", length_helper)
    ∷ (codes "append", append_helper)
    ∷ (codes "removeAt", remove_at_helper)
    ∷ (codes "put", put_helper)
    ∷ (codes "slice", slice_helper)
    ∷ (codes "reverse", reverse_helper)
    ∷ (codes "includes", includes_helper)
    ∷ (codes "where", where_helper)
    ∷ (codes "removeWhere", remove_where_helper)
    ∷ (codes "updateWhere", update_where_helper)
    ∷ (codes "pluck", pluck_helper)
    ∷ (codes "join", join_helper)
    ∷ []

-- the helper with a number
abbrev pub helper_numbered : ℕ → Option Helper
helper_numbered n = at_place None n (map (λ row. Some row.1) helper_table)

-- What a value is as a number: an integer itself, true is 1, all else is 0.
abbrev pub number_of : {O : Type 0} → Value O → ℤ
number_of (integer i) = i
number_of (boolean true) = pos 1
number_of _ = pos 0

-- What a value is as a list: the items of a list, else none.
abbrev pub items_in : {O : Type 0} → Value O → List (Value O)
items_in (list vs) = list_of vs
items_in _ = []

-- What a value is as a record: the members of a record, else none.
abbrev pub members_in : {O : Type 0} → Value O → Members O
members_in (pairs ms) = ms
members_in _ = no_members

abbrev pub is_record : {O : Type 0} → Value O → Bool
is_record (pairs ms) = true
is_record _ = false

-- an integer within plus or minus 9007199254740991: the nearest bound stands for what is beyond
abbrev pub clamp : ℤ → ℤ
clamp z = int_max (negsuc 9007199254740990) (int_min (pos 9007199254740991) z)

-- a value that is nested deeper than 100 is undefined
abbrev pub not_deep : {O : Type 0} → Value O → Value O
not_deep v = if nat_lt 100 (depth v) then undefined else v

-- whether a value is less: by bytes where both are texts, else as numbers
abbrev pub is_less : {O : Type 0} → Value O → Value O → Bool
is_less (text s) (text t) = text_less s t
is_less v w = int_lt (number_of v) (number_of w)

-- The members, which are in the order of their keys, with x at the key k: in the place of the member of that key, or else in
-- the key's place.
abbrev pub put_member : {O : Type 0} → Text → Value O → Members O → Members O
put_member k x no_members = member k x no_members
put_member k x (member l y ms) =
    if bytes_eq k l then member k x ms else
    (if text_less k l then member k x (member l y ms) else member l y (put_member k x ms))

-- the members with each of these put in, one after another
abbrev pub members_of : {O : Type 0} → Members O → List (Text × Value O) → Members O
members_of ms [] = ms
members_of ms (e ∷ es) = members_of (put_member e.0 e.1 ms) es

-- the action with further fixed arguments after its own
abbrev pub more_fixed : {O : Type 0} → Value O → List (Value O) → Value O
more_fixed (action o n vs) ws = action o n (values_of (list_of vs ++ ws))
more_fixed _ ws = undefined

abbrev pub rest_of : {A : Type 0} → List A → List A
rest_of [] = []
rest_of (x ∷ xs) = xs

-- the first value with this truth, else the last one; `last` is the one before them
abbrev pub first_with : {O : Type 0} → Bool → Value O → List (Value O) → Value O
first_with truth last [] = last
first_with truth last (v ∷ vs) = if beq (truthy v) truth then v else first_with truth v vs

abbrev pub length_value : {O : Type 0} → Value O → Value O
length_value (list vs) = property (codes "length") (list vs)
length_value (text t) = property (codes "length") (text t)
length_value _ = integer (pos 0)

-- the items whose place passes the test, where the first item has the place i
abbrev pub at_places : {A : Type 0} → (ℤ → Bool) → ℕ → List A → List A
at_places test i [] = []
at_places test i (x ∷ xs) = if test (pos i) then x ∷ at_places test (suc i) xs else at_places test (suc i) xs

-- whether a place is before the end that a value says; undefined says no end
abbrev pub is_before : {O : Type 0} → ℤ → Value O → Bool
is_before i undefined = true
is_before i v = int_lt i (number_of v)

-- the texts with a text between each two
abbrev pub joined_by : Text → List Text → Text
joined_by s [] = []
joined_by s (t ∷ ts) = t ++ flat_map (λ u. s ++ u) ts

-- The values of the helpers, given a test of equal owners, the positional arguments and the named ones.
module _ {O : Type 0} (eq : O → O → Bool) (args : List (Value O)) (names : List (Text × Value O)) where
  -- the positional argument at a place, from 0
  abbrev pub argument : ℕ → Value O
  argument i = at_place undefined i args

  -- whether the value's property named by the second argument is the same as the third
  abbrev pub has_property : Value O → Bool
  has_property v = same eq (property (text_of (argument 1)) v) (argument 2)

  -- a record that has the property, with the fifth argument at the key that the fourth names; any other value as it is
  abbrev pub updated : Value O → Value O
  updated v = if is_record v && has_property v then not_deep (pairs (put_member (text_of (argument 3)) (argument 4) (members_in v))) else v

  abbrev pub raw_value : Helper → Value O
  -- `if c a b`: a where c is true, else b; for `unless` the other way round
  raw_value if_helper = if truthy (argument 0) then argument 1 else argument 2
  raw_value unless_helper = if truthy (argument 0) then argument 2 else argument 1
  -- `concat x..`: the texts joined
  raw_value concat_helper = text (flat_map text_of args)
  -- `array x..`: the list of the positional arguments
  raw_value array_helper = list (values_of args)
  -- `hash k=x..`: the record of the named ones; the last of a name wins
  raw_value hash_helper = pairs (members_of no_members names)
  -- `get v p`: the property of v along the text of p split at `.`
  raw_value get_helper = properties (split full_stop (text_of (argument 1))) (argument 0)
  -- `fn f x..`: the action f with x.. after its fixed arguments; undefined where f is no action
  raw_value fn_helper = more_fixed (argument 0) (rest_of args)
  -- `add a b`, `sub a b`, `mul a b`: of the two as numbers, clamped
  raw_value add_helper = integer (clamp (number_of (argument 0) +ℤ number_of (argument 1)))
  raw_value sub_helper = integer (clamp (number_of (argument 0) -ℤ number_of (argument 1)))
  raw_value mul_helper = integer (clamp (number_of (argument 0) *ℤ number_of (argument 1)))
  -- `min a b`, `max a b`: of the two as numbers
  raw_value min_helper = integer (int_min (number_of (argument 0)) (number_of (argument 1)))
  raw_value max_helper = integer (int_max (number_of (argument 0)) (number_of (argument 1)))
  -- `eq a b`, `ne a b`: whether they are the same, aren't the same
  raw_value eq_helper = boolean (same eq (argument 0) (argument 1))
  raw_value ne_helper = boolean (not (same eq (argument 0) (argument 1)))
  -- `not a`: whether a is false
  raw_value not_helper = boolean (not (truthy (argument 0)))
  -- `and x..`: the first that is false, else the last; `or x..`: the first that is true, else the last; undefined without arguments
  raw_value and_helper = first_with false undefined args
  raw_value or_helper = first_with true undefined args
  -- `lt a b`, `lte a b`, `gt a b`, `gte a b`: by bytes where both are texts, else as numbers
  raw_value lt_helper = boolean (is_less (argument 0) (argument 1))
  raw_value lte_helper = boolean (not (is_less (argument 1) (argument 0)))
  raw_value gt_helper = boolean (is_less (argument 1) (argument 0))
  raw_value gte_helper = boolean (not (is_less (argument 0) (argument 1)))
  -- `length v`: the count of a list's items or a text's characters, else 0
  raw_value length_helper = length_value (argument 0)
  -- `append l x`: the items of l, then x
  raw_value append_helper = list (values_of (items_in (argument 0) ++ argument 1 ∷ []))
  -- `removeAt l i`: the items of l without the one at i
  raw_value remove_at_helper = list (values_of (at_places (λ p. not (int_eq p (number_of (argument 1)))) 0 (items_in (argument 0))))
  -- `put r k x`: the members of r with x at the text of k
  raw_value put_helper = pairs (put_member (text_of (argument 1)) (argument 2) (members_in (argument 0)))
  -- `slice l i j`: the items of l at places from i to before j; to the end where j is undefined
  raw_value slice_helper = list (values_of (at_places (λ p. not (int_lt p (number_of (argument 1))) && is_before p (argument 2)) 0 (items_in (argument 0))))
  -- `reverse l`: the items of l from back to front
  raw_value reverse_helper = list (values_of (reverse (items_in (argument 0))))
  -- `includes l x`: whether some item of l is the same as x
  raw_value includes_helper = boolean (list_any (λ v. same eq v (argument 1)) (items_in (argument 0)))
  -- `where l k x`, `removeWhere l k x`: the items of l whose property k is the same as x; those whose isn't
  raw_value where_helper = list (values_of (filter has_property (items_in (argument 0))))
  raw_value remove_where_helper = list (values_of (filter (λ v. not (has_property v)) (items_in (argument 0))))
  -- `updateWhere l k x f y`: the items of l, with what `put item f y` gives for each record whose property k is the same as x
  raw_value update_where_helper = list (values_of (map updated (items_in (argument 0))))
  -- `pluck l k`: the property k of each item of l
  raw_value pluck_helper = list (values_of (map (property (text_of (argument 1))) (items_in (argument 0))))
  -- `join l s`: the texts of the items of l, with the text of s between each two
  raw_value join_helper = text (joined_by (text_of (argument 1)) (map text_of (items_in (argument 0))))

  abbrev pub helper_value : Helper → Value O
  helper_value h = not_deep (raw_value h)
