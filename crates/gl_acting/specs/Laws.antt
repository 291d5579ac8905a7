-- What actions read of a machine by numbers that follows a session.
use Rattle.std.specs.Prelude.{◌≡◌, ℕ, List, [], map, flat_map, Bool, false, Option, Some, codes, unwrap_or}
use Rattle.std.specs.Str.{bytes_eq}
use Rattle.gl_base.specs.Texts.{Text}
use Rattle.gl_value.specs.Owners.{with_owners}
use Rattle.gl_meaning.specs.App.{App}
use Rattle.gl_meaning.specs.Path.{Path, V, at_path}
use Rattle.gl_meaning.specs.Scope.{arguments_of}
use Rattle.gl_meaning.specs.Eval.{class_at, cell_value, field_member, member_of, values_in}
use Rattle.gl_meaning.specs.Known.{Among}
use Rattle.gl_meaning.specs.Parts.{Modifier}
use Rattle.gl_meaning.specs.Changes.{instances, modifiers_on, pieces, scopes}
use Rattle.gl_meaning.specs.Actions.{at_node, no_scope, paths_numbered}
use Rattle.gl_meaning.specs.Session as session
use Rattle.gl_plain.specs.Ids.{instance_id, modifier_id}
use Rattle.gl_plain.specs.State.{Names, Inst, cell_ref, instance_row, modifier_row, Thing, State, pair_of}
use Rattle.gl_plain.specs.Live.{Live}
use Rattle.gl_naming.specs.Ties.{numbers, owner_key, owners_in}
use Rattle.gl_follows.specs.Turns.{FollowsBy}
use Rattle.gl_acting.specs.Found.{instance_in}
use Rattle.gl_acting.specs.Heard.{spots_in}

-- An instance with its number: its path is the name of the number and one of the rendering's, and it is kept as it is. With the names of
-- owners, its cells hold what the session's store has, and its arguments have the values that they have in the rendering.
pub record InstanceIs (app : App) (s : session.State) (st : State) (l : Live) (f : FollowsBy app s st l) (k : ℕ) (i : Inst) (args : Names) : Type 0 where
  pub id : i.id ≡ k
  pub among : Among i.id (numbers (owners_in l))
  pub named : f.named.owner (owner_key i.id) ≡ i.path
  pub rendered : Among i.path (instances s.rendering)
  pub kept : st.look (instance_id i.id) ≡ Some (instance_row i)
  pub cells : (x : Text) → member_of (class_at app i.path) x ≡ field_member → with_owners f.named.owner (pair_of st.look (cell_ref i x)).value ≡ cell_value app s.store i.path x
  pub arguments : map {B = Text × V} (λ n. (n.0, with_owners f.named.owner (pair_of st.look n.1).value)) args
      ≡ map {B = Text × V} (λ n. (n.0, n.1.value)) (arguments_of (unwrap_or (at_path i.path (scopes s.rendering)) no_scope))

abbrev pub InstanceHas : Type 0
InstanceHas =
    (app : App) (s : session.State) (st : State) (l : Live) (f : FollowsBy app s st l) (k : ℕ) (i : Inst) (args : Names)
    → instance_in k l ≡ Some (i, args) → InstanceIs app s st l f k i args

-- What a listener is told by: whether the modifier's name is `on`, and the values of its positional arguments.
abbrev pub Told : Type 0
Told = Bool × List V

-- of a modifier of the rendering,
abbrev pub told_modifier : Modifier → Told
told_modifier m = (bytes_eq m.name (codes "on"), values_in m.args)

-- and of what is kept of one, with the names of owners
abbrev pub told_row : (Path → Path) → Option Thing → Told
told_row owner (Some (modifier_row x)) = (bytes_eq x.name (codes "on"), map (with_owners owner) x.args)
told_row owner _ = (false, [])

-- The modifiers of the elements with a number are kept as they stand in the rendering on the nodes with that number, in order.
abbrev pub ModsAre : Type 0
ModsAre =
    (app : App) (s : session.State) (st : State) (l : Live) (f : FollowsBy app s st l) (k : ℕ)
    → map (λ z. told_row f.named.owner (st.look (modifier_id z.id))) (spots_in k l)
    ≡ map told_modifier (flat_map (λ p. flat_map modifiers_on (at_node p (pieces s.rendering))) (paths_numbered k s.numbers.of))
