-- Values, for any type of owner of an action, and the rules on them.
use Rattle.std.specs.Prelude.{nat_eq, ℕ, zero, suc, min, max, ℤ, pos, List, [], ◌∷◌, ◌++◌, filter, flat_map, length, Bool, true, false, ◌&&◌, not, if◌then◌else◌, codes, decimal, Option, Some, None}
use Rattle.std.specs.Str.{bytes_eq}
use Rattle.std.specs.Ordering.{int_eq}
use Rattle.std.specs.Bool.{beq}
use Rattle.std.specs.Fmt.{signed_decimal}
use Rattle.gl_base.specs.Texts.{Text}
use Rattle.gl_value.specs.Signs.{full_stop}

mutual
  pub data Value (O : Type 0) : Type 0 where
    undefined : Value O
    null : Value O
    boolean : Bool → Value O
    integer : ℤ → Value O
    text : Text → Value O
    list : Values O → Value O
    pairs : Members O → Value O
    action : O → Text → Values O → Value O

  pub data Values (O : Type 0) : Type 0 where
    no_values : Values O
    value : Value O → Values O → Values O

  pub data Members (O : Type 0) : Type 0 where
    no_members : Members O
    member : Text → Value O → Members O → Members O

abbrev pub values_of : {O : Type 0} → List (Value O) → Values O
values_of [] = no_values
values_of (v ∷ vs) = value v (values_of vs)

abbrev pub list_of : {O : Type 0} → Values O → List (Value O)
list_of no_values = []
list_of (value v vs) = v ∷ list_of vs

-- the members that a list of keys with values makes, and back
abbrev pub pairs_of : {O : Type 0} → List (Text × Value O) → Members O
pairs_of [] = no_members
pairs_of (p ∷ ps) = member p.0 p.1 (pairs_of ps)

abbrev pub pair_list : {O : Type 0} → Members O → List (Text × Value O)
pair_list no_members = []
pair_list (member k v ms) = (k, v) ∷ pair_list ms

-- a scalar has depth 0, a list or record one more than its deepest member; an action counts as the list of its arguments
abbrev mutual
  pub depth : {O : Type 0} → Value O → ℕ
  depth (list vs) = suc (values_depth vs)
  depth (pairs ms) = suc (members_depth ms)
  depth (action o n vs) = suc (values_depth vs)
  depth _ = 0

  pub values_depth : {O : Type 0} → Values O → ℕ
  values_depth no_values = 0
  values_depth (value v vs) = max (depth v) (values_depth vs)

  pub members_depth : {O : Type 0} → Members O → ℕ
  members_depth no_members = 0
  members_depth (member k v ms) = max (depth v) (members_depth ms)

abbrev pub is_empty : {A : Type 0} → List A → Bool
is_empty [] = true
is_empty (x ∷ xs) = false

abbrev pub has_none : {O : Type 0} → Values O → Bool
has_none no_values = true
has_none (value v vs) = false

-- false, undefined, null, 0, the empty text and the empty list are false
abbrev pub truthy : {O : Type 0} → Value O → Bool
truthy undefined = false
truthy null = false
truthy (boolean b) = b
truthy (integer (pos zero)) = false
truthy (text t) = not (is_empty t)
truthy (list vs) = not (has_none vs)
truthy _ = true

-- the two values have equal contents, with `eq` to compare two owners
abbrev mutual
  pub same : {O : Type 0} → (O → O → Bool) → Value O → Value O → Bool
  same eq undefined undefined = true
  same eq null null = true
  same eq (boolean b) (boolean c) = beq b c
  same eq (integer i) (integer j) = int_eq i j
  same eq (text s) (text t) = bytes_eq s t
  same eq (list vs) (list ws) = same_values eq vs ws
  same eq (pairs ms) (pairs ns) = same_members eq ms ns
  same eq (action o n vs) (action p m ws) = (eq o p && bytes_eq n m) && same_values eq vs ws
  same eq _ _ = false

  pub same_values : {O : Type 0} → (O → O → Bool) → Values O → Values O → Bool
  same_values eq no_values no_values = true
  same_values eq (value v vs) (value w ws) = same eq v w && same_values eq vs ws
  same_values eq _ _ = false

  pub same_members : {O : Type 0} → (O → O → Bool) → Members O → Members O → Bool
  same_members eq no_members no_members = true
  same_members eq (member k v ms) (member l w ns) = (bytes_eq k l && same eq v w) && same_members eq ms ns
  same_members eq _ _ = false

abbrev pub comma_if : Bool → Text
comma_if later = if later then codes "," else []

abbrev mutual
  pub text_of : {O : Type 0} → Value O → Text
  text_of undefined = []
  text_of null = []
  text_of (boolean b) = if b then codes "true" else codes "false"
  text_of (integer i) = signed_decimal i
  text_of (text s) = s
  text_of (list vs) = texts_of false vs
  text_of (pairs ms) = codes "[object Object]"
  text_of (action o n vs) = codes "[action " ++ (n ++ codes "]")

  -- the texts of the items, with a comma before each but the first
  pub texts_of : {O : Type 0} → Bool → Values O → Text
  texts_of later no_values = []
  texts_of later (value v vs) = comma_if later ++ (text_of v ++ texts_of true vs)

-- the plain form: undefined in place of each action, so that it has any type of owner
abbrev mutual
  pub plain : {O P : Type 0} → Value O → Value P
  plain (list vs) = list (plain_values vs)
  plain (pairs ms) = pairs (plain_members ms)
  plain (action o n vs) = undefined
  plain undefined = undefined
  plain null = null
  plain (boolean b) = boolean b
  plain (integer i) = integer i
  plain (text s) = text s

  pub plain_values : {O P : Type 0} → Values O → Values P
  plain_values no_values = no_values
  plain_values (value v vs) = value (plain v) (plain_values vs)

  pub plain_members : {O P : Type 0} → Members O → Members P
  plain_members no_members = no_members
  plain_members (member k v ms) = member k (plain v) (plain_members ms)

-- the text of an attribute, or none where it is left out
abbrev pub attribute_text : {O : Type 0} → Value O → Option Text
attribute_text undefined = None
attribute_text null = None
attribute_text (boolean false) = None
attribute_text (boolean true) = Some []
attribute_text (action o n vs) = None
attribute_text v = Some (text_of v)

abbrev pub is_missing : {O : Type 0} → Value O → Bool
is_missing undefined = true
is_missing null = true
is_missing _ = false

-- the parts that are neither undefined nor null, joined; null where there is none
abbrev pub join_kept : {O : Type 0} → List (Value O) → Value O
join_kept [] = null
join_kept (v ∷ vs) = text (flat_map text_of (v ∷ vs))

abbrev pub join_values : {O : Type 0} → List (Value O) → Value O
join_values vs = join_kept (filter (λ v. not (is_missing v)) vs)

-- a count or an index, at most the greatest integer
abbrev pub count_value : {O : Type 0} → ℕ → Value O
count_value n = integer (pos (min n 9007199254740991))

abbrev pub values_count : {O : Type 0} → Values O → ℕ
values_count no_values = 0
values_count (value v vs) = suc (values_count vs)

abbrev pub member_at : {O : Type 0} → Text → Members O → Value O
member_at k no_members = undefined
member_at k (member l v ms) = if bytes_eq k l then v else member_at k ms

-- the item whose index is written so, where the first index is i
abbrev pub item_at : {O : Type 0} → Text → ℕ → Values O → Value O
item_at k i no_values = undefined
item_at k i (value v vs) = if bytes_eq k (decimal (min i 9007199254740991)) then v else item_at k (suc i) vs

abbrev pub property : {O : Type 0} → Text → Value O → Value O
property k (pairs ms) = member_at k ms
property k (list vs) = if bytes_eq k (codes "length") then count_value (values_count vs) else item_at k 0 vs
property k (text t) = if bytes_eq k (codes "length") then count_value (length t) else undefined
property k _ = undefined

abbrev pub properties : {O : Type 0} → List Text → Value O → Value O
properties [] v = v
properties (k ∷ ks) v = properties ks (property k v)

-- the pieces of a text between the characters c
abbrev pub before_first : ℕ → List Text → List Text
before_first x [] = (x ∷ []) ∷ []
before_first x (t ∷ ts) = (x ∷ t) ∷ ts

abbrev pub split : ℕ → Text → List Text
split c [] = [] ∷ []
split c (x ∷ xs) = if nat_eq x c then [] ∷ split c xs else before_first x (split c xs)

-- the key of an item: its index, its plain form, or the plain form of a property
abbrev pub key_of : {O P : Type 0} → Text → ℕ → Value O → Value P
key_of k i v = if bytes_eq k (codes "@index") then count_value i else (if bytes_eq k (codes "@identity") then plain v else plain (properties (split full_stop k) v))
