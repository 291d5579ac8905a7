-- The attributes and the modifiers of an element.
use Rattle.std.specs.Prelude.{ℕ, suc, List, [], ◌∷◌, ◌++◌, map, filter, filter_map, Bool, true, false, ◌||◌, not, if◌then◌else◌, Option, Some, None, codes}
use Rattle.std.specs.Str.{bytes_eq}
use Rattle.gl_base.specs.Texts.{Text}
use Rattle.gl_value.specs.Value.{attribute_text, is_empty}
use Rattle.gl_ast.specs.Template.{Exprs, NamedExprs, AttrValue, fixed, live, Part, attribute, modifier, spread}
use Rattle.gl_meaning.specs.App.{App}
use Rattle.gl_meaning.specs.Path.{modifier_at, Path}
use Rattle.gl_meaning.specs.Signs.{blank}
use Rattle.gl_meaning.specs.Scope.{Pair, NamedPairs, Scope, scope, Passed, nothing_passed, passed, passed_of}
use Rattle.gl_meaning.specs.Eval.{Store, eval_all, eval_named, eval_value}

-- an element's attributes in order; one that is left out has no text and keeps its place
abbrev pub Attrs : Type 0
Attrs = List (Text × Option Text)

-- a modifier of an element, with what its arguments are
pub record Modifier : Type 0 where
  pub path : Path
  pub name : Text
  pub args : List Pair
  pub names : NamedPairs

-- Parts with the scopes that wrote them
--
-- A scope S is that of the meaning, or what another model of templates has for one: the rules of parts don't look into it.

-- a part of an element, with the scope of the template that wrote it
pub record Written (S : Type 0) : Type 0 where
  pub part : Part
  pub by : S

-- The parts in written order, with other parts in the place of `...attributes`.
abbrev pub spread_in : {S : Type 0} → List (Written S) → S → List Part → List (Written S)
spread_in for s [] = []
spread_in for s (spread ∷ ps) = for ++ spread_in for s ps
spread_in for s (p ∷ ps) = record { part = p; by = s } ∷ spread_in for s ps

-- What `...attributes` stands for: the parts that the invocation wrote on the component. Where `...attributes` is among these, it
-- stands for what the invocation further out passed, so this recurses over the chain of the scopes that wrote.
abbrev pub passed_parts : Passed → List (Written Scope)
passed_parts nothing_passed = []
passed_parts (passed ps bs (scope t a l w)) = spread_in (passed_parts w) (scope t a l w) ps

abbrev pub written_parts : Scope → List Part → List (Written Scope)
written_parts s ps = spread_in (passed_parts (passed_of s)) s ps

-- Attributes

pub record WrittenValue (S : Type 0) : Type 0 where
  pub name : Text
  pub value : AttrValue
  pub by : S

abbrev pub attribute_in : {S : Type 0} → S → Part → Option (WrittenValue S)
attribute_in s (attribute n v) = Some (record { name = n; value = v; by = s })
attribute_in s _ = None

abbrev pub attributes_in : {S : Type 0} → List (Written S) → List (WrittenValue S)
attributes_in ws = filter_map (λ w. attribute_in w.by w.part) ws

-- Several attributes of one name are one attribute, in the place of the first.
abbrev pub distinct_names : {S : Type 0} → List (WrittenValue S) → List Text
distinct_names [] = []
distinct_names (w ∷ ws) = w.name ∷ filter (λ n. not (bytes_eq w.name n)) (distinct_names ws)

abbrev pub last_only : {A : Type 0} → List A → List A
last_only [] = []
last_only (x ∷ []) = x ∷ []
last_only (x ∷ y ∷ xs) = last_only (y ∷ xs)

-- The values that the attribute of a name takes: all of that name for `class`, for any other name the last.
abbrev pub taken_values : {S : Type 0} → Text → List (WrittenValue S) → List (WrittenValue S)
taken_values n ws =
    let group = filter (λ w. bytes_eq n w.name) ws in
    if bytes_eq n (codes "class") then group else last_only group

abbrev pub is_live : AttrValue → Bool
is_live (fixed t) = false
is_live (live e) = true

abbrev pub some_live : {S : Type 0} → List (WrittenValue S) → Bool
some_live [] = false
some_live (w ∷ ws) = is_live w.value || some_live ws

-- the texts with one blank between each two
abbrev pub spaced : List Text → Text
spaced [] = []
spaced (t ∷ []) = t
spaced (t ∷ u ∷ ts) = t ++ blank ∷ spaced (u ∷ ts)

-- the non-empty texts with one blank between; no text where there is none at all
abbrev pub joined_texts : List Text → Option Text
joined_texts [] = None
joined_texts (t ∷ ts) = Some (spaced (filter (λ u. not (is_empty u)) (t ∷ ts)))

-- The text of an attribute from the values that it takes: of those that aren't left out the non-empty ones, with one blank between.
-- It is left out where all are. Of one value it is just that value's text.
abbrev pub attribute_value : List Pair → Option Text
attribute_value ps = joined_texts (filter_map (λ p. attribute_text p.value) ps)

-- the attributes, from what each name's attribute takes
abbrev pub attrs_from : {S : Type 0} → List (WrittenValue S) → (Text → List Pair) → Attrs
attrs_from ws pairs = map (λ n. (n, attribute_value (pairs n))) (distinct_names ws)

-- Modifiers

pub record WrittenModifier (S : Type 0) : Type 0 where
  pub name : Text
  pub args : Exprs
  pub names : NamedExprs
  pub by : S

abbrev pub modifier_in : {S : Type 0} → S → Part → Option (WrittenModifier S)
modifier_in s (modifier n es ns) = Some (record { name = n; args = es; names = ns; by = s })
modifier_in s _ = None

abbrev pub modifiers_in : {S : Type 0} → List (Written S) → List (WrittenModifier S)
modifiers_in ws = filter_map (λ w. modifier_in w.by w.part) ws

-- Both over a store

module _ (app : App) (store : Store) where
  abbrev pub taken_pairs : List (WrittenValue Scope) → Text → List Pair
  taken_pairs ws n = map (λ w. eval_value app store w.by w.value) (taken_values n ws)

  -- the modifier with the number i of the element at a path
  abbrev pub modifier_of : Path → ℕ → WrittenModifier Scope → Modifier
  modifier_of p i w = record {
    path = modifier_at i ∷ p;
    name = w.name;
    args = eval_all app store w.by w.args;
    names = eval_named app store w.by w.names;
  }

  -- the modifiers of the element; the first of these has the number i
  abbrev pub modifiers_of : Path → ℕ → List (WrittenModifier Scope) → List Modifier
  modifiers_of p i [] = []
  modifiers_of p i (w ∷ ws) = modifier_of p i w ∷ modifiers_of p (suc i) ws
