-- A machine that names by numbers, beside a session.
use Rattle.std.specs.Prelude.{◌≡◌, ◌+◌, [], map, filter, filter_map, length, false, true, not, if◌then◌else◌, Option, Some, None}
use Rattle.gl_meaning.specs.App.{App, Event}
use Rattle.gl_meaning.specs.Path.{has_path}
use Rattle.gl_meaning.specs.Changes.{stale}
use Rattle.gl_meaning.specs.Print.{modifier_paths}
use Rattle.gl_meaning.specs.Session as session
use Rattle.gl_meaning.specs.Session.{Turn, applied, step}
use Rattle.gl_plain.specs.Ids.{a_node, kind_eq}
use Rattle.gl_plain.specs.State.{State}
use Rattle.gl_plain.specs.Live.{Live, is_deep}
use Rattle.gl_plain.specs.Turns.{blank}
use Rattle.gl_plain.specs.Drawn.{drawn_app}
use Rattle.gl_naming.specs.Renamed.{there_with}
use Rattle.gl_naming.specs.Named.{Named, Given}
use Rattle.gl_turns.specs.Places.{modifier_in, places}
use Rattle.gl_turns.specs.Numbers.{numbers_of}
use Rattle.gl_kept.specs.Kept.{Kept}

-- a machine that keeps nothing: the root of the nodes has the number 0, so the first node of a page gets 1
abbrev pub rooted : State
rooted = record blank { next = λ k. if kind_eq k a_node then 1 else 0 }

-- A machine by numbers follows a state of a session: with some names of owners and sources it stands for the cells and shows the
-- rendering, each node of its tree has the number that its path has, and it keeps just what its tree names.
pub record FollowsBy (app : App) (s : session.State) (st : State) (l : Live) : Type 0 where
  pub named : Named app s.store s.store st l
  pub given : Given app st l
  pub rendering : drawn_app app (λ q. there_with named.owner named.source (st.look q)) l ≡ s.rendering
  pub numbers : numbers_of st l ≡ s.numbers
  pub kept : Kept app st l

-- A turn of a machine by numbers, from where it followed s: it follows the state after the session's turn, no component stands too deep, it
-- evaluated as many positions and made as many nodes as the turn's work says, installed exactly the modifiers whose path is new, and
-- updated exactly those that are stale.
pub record TurnBy (app : App) (s : session.State) (e : Option Event) (t : Turn) (st : State) (l : Live) : Type 0 where
  pub follows : FollowsBy app t.state st l
  pub shallow : is_deep l ≡ false
  pub evaluated : length st.evaluated ≡ t.work.evaluated
  pub made : st.next a_node ≡ s.numbers.next + t.work.made
  pub installs : st.installs ≡ map (λ z. z.1) (filter (λ z. not (has_path z.0 (modifier_paths s.rendering))) (filter_map modifier_in (places [] l)))
  pub updates : st.updates ≡ map (λ z. z.1) (filter (λ z. stale s.rendering t.state.rendering (applied app s e).sets z.0) (filter_map modifier_in (places [] l)))

-- what the machine keeps after the session's next turn, or where there is none since a component would stand too deep
pub record StepsBy (app : App) (s : session.State) (e : Option Event) (st : State) (l : Live) : Type 0 where
  pub turned : (t : Turn) → step app s e ≡ Some t → TurnBy app s e t st l
  pub stopped : step app s e ≡ None → is_deep l ≡ true
