-- What references are, and what each means over the present cells and items.
use Rattle.std.specs.Prelude.{◌≡◌, ℕ, zero, suc, ◌<◌, ◌++◌, ltb, eqb, nat_eq, List, [], ◌∷◌, map, flat_map, take, drop, Bool, true, false, not, cond, if◌then◌else◌, Option, Some, None, option_map, unwrap_or, slice_get, IsSome, is_some}
use Rattle.std.specs.List.{list_any}
use Rattle.gl_base.specs.Texts.{Text}
use Rattle.gl_value.specs.Value.{Value, undefined, truthy, property, join_values}
use Rattle.gl_value.specs.Helpers.{helper_value, helper_numbered}
use Rattle.gl_arena.specs.Id.{Id, same_id}

-- a value whose actions' owners are numbers
abbrev pub V : Type 0
V = Value ℕ

-- references by name
abbrev pub NamedIds : Type 0
NamedIds = List (Text × Id)

-- A constant has a value. A cell, or an item (true), has a dirtyable tag and a value; as a source it is known by its
-- tag. The others are computed from the references that they read: a property, a call of the helper with a number, the
-- join of several values, and the form that only reads.
pub data Form : Type 0 where
  constant_form : V → Form
  source_form : Bool → Id → V → Form
  prop_form : Id → Text → Form
  call_form : ℕ → List Id → NamedIds → Form
  cat_form : List Id → Form
  all_form : List Id → Form

-- a value with the tags of the sources that were read for it
pub record Pair : Type 0 where
  pub value : V
  pub sources : List Id

abbrev pub blank : Pair
blank = record { value = undefined; sources = [] }

abbrev pub ids_of : NamedIds → List Id
ids_of named = map (λ n. n.1) named

-- the references that a form names
abbrev pub parts : Form → List Id
parts (constant_form v) = []
parts (source_form k t v) = []
parts (prop_form r name) = r ∷ []
parts (call_form h ids named) = ids ++ ids_of named
parts (cat_form ids) = ids
parts (all_form ids) = ids

abbrev pub branch : Bool → List Id → List Id
branch true rest = take 1 rest
branch false rest = take 1 (drop 1 rest)

abbrev pub flipped : Bool → Bool → Bool
flipped true b = b
flipped false b = not b

-- the condition, and the branch that it takes: the first where it is true, or for `unless` where it is false
abbrev pub chosen : (Id → V) → Bool → List Id → List Id
chosen f way [] = []
chosen f way (a ∷ rest) = a ∷ branch (flipped way (truthy (f a))) rest

-- `if` and `unless` have the numbers 0 and 1 in the table of helpers; all others read all their arguments
abbrev pub is_choice : ℕ → Bool
is_choice h = ltb h 2

-- what is read, in order, where parts have these values
abbrev pub reads : (Id → V) → Form → List Id
reads f (call_form h ids named) = if is_choice h then chosen f (eqb h 0) ids else ids ++ ids_of named
reads f g = parts g

-- what a helper gives
abbrev pub called : ℕ → List V → List (Text × V) → V
called h vs ns = unwrap_or (option_map (helper_value nat_eq vs ns) (helper_numbered h)) undefined

-- the value of a branch, undefined where there is none
abbrev pub value_or : (Id → V) → Option Id → V
value_or f None = undefined
value_or f (Some q) = f q

-- what a form gives where parts have these values
abbrev pub value_by : (Id → V) → Form → V
value_by f (constant_form v) = v
value_by f (source_form k t v) = v
value_by f (prop_form r name) = property name (f r)
value_by f (call_form h ids named) =
    if is_choice h then value_or f (slice_get (chosen f (eqb h 0) ids) 1) else called h (map f ids) (map (λ n. (n.0, f n.1)) named)
value_by f (cat_form ids) = join_values (map f ids)
value_by f (all_form ids) = undefined

abbrev pub own_sources : Form → List Id
own_sources (source_form k t v) = t ∷ []
own_sources g = []

-- what a form means where parts mean this
abbrev pub pair_by : (Id → Pair) → Form → Pair
pair_by f g = record {
  value = value_by (λ q. (f q).value) g;
  sources = own_sources g ++ flat_map (λ q. (f q).sources) (reads (λ q. (f q).value) g);
}

abbrev pub Look : Type 0
Look = Id → Option Form

abbrev pub form_or : Option Form → Form
form_or None = constant_form undefined
form_or (Some g) = g

-- an id that isn't live means nothing
abbrev pub form_at : Look → Id → Form
form_at l i = form_or (l i)

-- only what was made before i is read for it
abbrev pub below : (Id → Pair) → Id → Id → Pair
below f i k = cond (ltb k.1 i.1) (f k) blank

abbrev pub meaning_to : ℕ → Look → Id → Pair
meaning_to zero l i = blank
meaning_to (suc n) l i = pair_by (below (meaning_to n l) i) (form_at l i)

-- what a reference means
unfoldable pub meaning : Look → Id → Pair
meaning l i = meaning_to (suc i.1) l i

-- the same value, and the same sources, each perhaps more than once
pub record Like (p q : Pair) : Type 0 where
  pub value : p.value ≡ q.value
  pub sources : (t : Id → Bool) → list_any t p.sources ≡ list_any t q.sources

abbrev pub Each : (Id → Type 0) → List Id → Type 0
Each P [] = Unit {0}
Each P (x ∷ xs) = P x × Each P xs

-- each form reads live ids alone, which were made before it
abbrev pub AreLower : Look → Type 0
AreLower l = (i : Id) (g : Form) → l i ≡ Some g → Each (λ q. (q.1 < i.1) × IsSome (l q)) (parts g)

-- the number of a call is that of a helper
abbrev pub is_known : Form → Bool
is_known (call_form h ids named) = is_some (helper_numbered h)
is_known g = true

abbrev pub AreKnown : Look → Type 0
AreKnown l = (i : Id) (g : Form) → l i ≡ Some g → is_known g ≡ true

-- no live form names it
abbrev pub IsUnread : Look → Id → Type 0
IsUnread l c = (i : Id) (g : Form) → l i ≡ Some g → list_any (same_id c) (parts g) ≡ false

-- q is read for i, directly or through others, as the cells and items are now
pub data IsReadFor (l : Look) (i : Id) : Id → Type 0 where
  itself : IsReadFor l i i
  through : (k q : Id) → IsReadFor l i k → list_any (same_id q) (reads (λ x. (meaning l x).value) (form_at l k)) ≡ true → IsReadFor l i q
