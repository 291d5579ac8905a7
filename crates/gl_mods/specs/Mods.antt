-- Installed modifiers.
use Rattle.std.specs.Prelude.{◌≡◌, ℕ, ◌+◌, ◌<◌, ◌==◌, ◌&&◌, List, [], ◌∷◌, ◌++◌, filter, filter_map, is_some, false, Option, Some, None, option_map, if◌then◌else◌, IsSome, refl}
use Rattle.std.specs.Str.{bytes_eq}
use Rattle.std.specs.Coded.{Coded, code_by, coded×, coded_ℕ, coded_list}
use Rattle.gl_base.specs.Texts.{Text}
use Rattle.gl_base.specs.Names.{at_place}
use Rattle.gl_value.specs.Value.{Value, undefined, text_of}
use Rattle.gl_value.specs.Code.{value_code}
use Rattle.gl_arena.specs.Id.{Id, same_id}
use Rattle.gl_arena.specs.Arena.{Arena, arena_code, named, by_stamp, IsStamped, IsOwn, Sets, Gives}

-- values by position, and by name
abbrev pub Args : Type 0
Args = List (Value ℕ)

abbrev pub NamedArgs : Type 0
NamedArgs = List (Text × Value ℕ)

-- A modifier of a node: its place among the modifiers of that node, the number of its name, and the values of its
-- arguments at the last rendering.
pub record Installed : Type 0 where
  pub node : Id
  pub place : ℕ
  pub name : ℕ
  pub args : Args
  pub named : NamedArgs

-- the number of `on`, the modifier that listens; those of a manifest have the numbers from 1 on
abbrev pub on_number : ℕ
on_number = 0

-- the value of a positional argument; a missing one is undefined
abbrev pub argument : ℕ → Installed → Value ℕ
argument i m = at_place undefined i m.args

-- `on` listens for the event whose name is its first argument's text. Its second argument is what an event calls.
abbrev pub listener : Text → Installed → Option (Value ℕ)
listener event m = if (m.name == on_number) && bytes_eq (text_of (argument 0 m)) event then Some (argument 1 m) else None

abbrev pub listeners : Text → List Installed → List (Value ℕ)
listeners event ms = filter_map (listener event) ms

-- Which modifier each id names, and how many ids were given; the ids of each node, in the order of their installs; and
-- the ids of the installs and of the refreshes since the last commit, in the order of the calls.
pub record Mods : Type 0 where
  pub table : Arena Installed
  pub nodes : List (Id × List Id)
  pub installs : List Id
  pub updates : List Id

abbrev pub ids_at : Id → List (Id × List Id) → List Id
ids_at n [] = []
ids_at n (e ∷ es) = if same_id n e.0 then e.1 else ids_at n es

-- the ids of a node's modifiers, in order
abbrev pub ids_on : Mods → Id → List Id
ids_on m n = ids_at n m.nodes

-- the modifiers of a node, in order
abbrev pub mods_on : Mods → Id → List Installed
mods_on m n = filter_map (named m.table) (ids_on m n)

-- the ids that live
abbrev pub living : Arena Installed → List Id → List Id
living a ids = filter (λ i. is_some (named a i)) ids

-- What the calls do.

-- one more id at the end of those of a node
abbrev pub with_id : Id → Id → (Id → List Id) → Id → List Id
with_id node id on n = if same_id n node then on n ++ id ∷ [] else on n

-- no id on a node
abbrev pub without_node : Id → (Id → List Id) → Id → List Id
without_node node on n = if same_id n node then [] else on n

-- the modifier, where it isn't of that node
abbrev pub off_node : Id → Option Installed → Option Installed
off_node node None = None
off_node node (Some m) = if same_id m.node node then None else Some m

-- other values of the arguments
abbrev pub with_values : Args → NamedArgs → Installed → Installed
with_values args values m = record { node = m.node; place = m.place; name = m.name; args = args; named = values }

-- A modifier is installed under an id that was never given before: its stamp is the count before. It is the last of its
-- node, and the last install.
pub record Installs (old new : Mods) (id : Id) (m : Installed) : Type 0 where
  pub gives : Gives old.table new.table id m
  pub stamps : Sets old.table new.table old.table.made (Some m)
  pub own : IsOwn new.table id
  pub on : (n : Id) → ids_on new n ≡ with_id m.node id (ids_on old) n
  pub installs : new.installs ≡ old.installs ++ id ∷ []
  pub updates : new.updates ≡ old.updates

-- Nothing changed, but that an id may have been given in vain.
pub record IsSame (old new : Mods) : Type 0 where
  pub names : (i : Id) → named new.table i ≡ named old.table i
  pub stamps : (s : ℕ) → by_stamp new.table s ≡ by_stamp old.table s
  pub own : (i : Id) → IsOwn old.table i → IsOwn new.table i
  pub on : (n : Id) → ids_on new n ≡ ids_on old n
  pub installs : new.installs ≡ old.installs
  pub updates : new.updates ≡ old.updates

-- A modifier has other values. It is the last update.
pub record Refreshes (old new : Mods) (id : Id) (args : Args) (values : NamedArgs) : Type 0 where
  pub here : named new.table id ≡ option_map (with_values args values) (named old.table id)
  pub others : (i : Id) → same_id i id ≡ false → named new.table i ≡ named old.table i
  pub stamps : Sets old.table new.table id.1 (option_map (with_values args values) (by_stamp old.table id.1))
  pub made : new.table.made ≡ old.table.made
  pub nodes : new.nodes ≡ old.nodes
  pub installs : new.installs ≡ old.installs
  pub updates : new.updates ≡ old.updates ++ id ∷ []

-- The modifiers of a node are gone, also from the two lists, and all others stay.
pub record Drops (old new : Mods) (node : Id) : Type 0 where
  pub names : (i : Id) → named new.table i ≡ off_node node (named old.table i)
  pub stamps : (s : ℕ) → by_stamp new.table s ≡ off_node node (by_stamp old.table s)
  pub own : (i : Id) → IsOwn old.table i → IsOwn new.table i
  pub made : new.table.made ≡ old.table.made
  pub on : (n : Id) → ids_on new n ≡ without_node node (ids_on old) n
  pub installs : new.installs ≡ filter (λ i. is_some (off_node node (named old.table i))) old.installs
  pub updates : new.updates ≡ filter (λ i. is_some (off_node node (named old.table i))) old.updates

-- how often an id stands in a list
unfoldable pub hit : Id → Id → ℕ
hit x i = if same_id x i then 1 else 0

abbrev pub times : Id → List Id → ℕ
times x [] = 0
times x (i ∷ is) = hit x i + times x is

-- 1 for a modifier of that node, and else 0
abbrev pub count_at : Id → Option Installed → ℕ
count_at n None = 0
count_at n (Some m) = hit m.node n

-- A node's ids are those of its modifiers, each once. The ids of the two lists live. Each of these ids was given.
pub record IsSound (m : Mods) : Type 0 where
  pub stamps : IsStamped m.table
  pub on : (n i : Id) → times i (ids_on m n) ≡ count_at n (named m.table i)
  pub own : (n i : Id) → 0 < times i (ids_on m n) → IsOwn m.table i
  pub installs : (i : Id) → 0 < times i m.installs → IsSome (named m.table i) × IsOwn m.table i
  pub updates : (i : Id) → 0 < times i m.updates → IsSome (named m.table i) × IsOwn m.table i

-- Codes.

abbrev pub id_code : Coded Id
id_code = coded× coded_ℕ coded_ℕ

abbrev pub ids_code : Coded (List Id)
ids_code = coded_list id_code

abbrev pub installed_code : Coded Installed
installed_code =
    code_by (Id × (ℕ × (ℕ × (Args × NamedArgs)))) (coded× id_code (coded× coded_ℕ (coded× coded_ℕ (coded× (coded_list value_code) (coded_list (coded× (coded_list coded_ℕ) value_code))))))
    (λ m. (m.node, (m.place, (m.name, (m.args, m.named))))) (λ p. record { node = p.0; place = p.1.0; name = p.1.1.0; args = p.1.1.1.0; named = p.1.1.1.1 }) (λ _. refl)

abbrev pub mods_code : Coded Mods
mods_code =
    code_by (Arena Installed × (List (Id × List Id) × (List Id × List Id))) (coded× (arena_code installed_code) (coded× (coded_list (coded× id_code ids_code)) (coded× ids_code ids_code)))
    (λ m. (m.table, (m.nodes, (m.installs, m.updates)))) (λ p. record { table = p.0; nodes = p.1.0; installs = p.1.1.0; updates = p.1.1.1 }) (λ _. refl)
