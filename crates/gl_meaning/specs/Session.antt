-- Turns.
use Rattle.std.specs.Prelude.{ℕ, suc, List, [], ◌∷◌, ◌++◌, flat_map, if◌then◌else◌, Option, Some, None, codes, decimal}
use Rattle.gl_base.specs.Texts.{Text}
use Rattle.gl_meaning.specs.App.{App, Event}
use Rattle.gl_meaning.specs.Eval.{Store}
use Rattle.gl_meaning.specs.Render.{Forest, no_pieces, draw, fits}
use Rattle.gl_meaning.specs.Changes.{settle, Numbers, number}
use Rattle.gl_meaning.specs.Actions.{lay, Applied, nothing_applied, apply}
use Rattle.gl_meaning.specs.Print.{line, head_line, missing_lines, tree_lines, log}
use Rattle.gl_meaning.specs.Work.{Work, work, asked}

-- What stands between two turns: the cells, the last rendering, the numbers of its nodes, and the number of the next turn. By
-- `laws::session_states` the rendering is that of the cells.
pub record State : Type 0 where
  pub store : Store
  pub rendering : Forest
  pub numbers : Numbers
  pub turn : ℕ

-- before turn 0: no cell is set, nothing is rendered, and the first number is 1
abbrev pub first_state : State
first_state = record { store = []; rendering = no_pieces; numbers = record { of = []; next = 1 }; turn = 0 }

-- what a turn writes, its work, the questions that it may ask, and the state after it
pub record Turn : Type 0 where
  pub text : Text
  pub work : Work
  pub asked : ℕ
  pub state : State

-- what the turn's event sets; turn 0 has no event
abbrev pub applied : App → State → Option Event → Applied
applied app s None = nothing_applied
applied app s (Some e) = apply app s.store s.rendering s.numbers e

-- A turn, from what its event applies and the new rendering: the head, the `no node` lines, the tree and the log.
abbrev pub turn_of : App → State → Option Event → Applied → Forest → Turn
turn_of app s e a new =
    let after = number s.numbers new in
    record {
      text = head_line s.turn e ++ (missing_lines a.missing ++ (tree_lines after [] new ++ log app s.rendering new a.sets s.numbers after));
      work = work s.rendering new a.sets;
      asked = asked s.rendering new a.sets;
      state = record { store = settle app (lay a.sets s.store) new; rendering = new; numbers = after; turn = suc s.turn };
    }

-- The next turn: the event is applied, and the cells as they then stand are rendered. None where a component would stand too deep.
abbrev pub step : App → State → Option Event → Option Turn
step app s e =
    let a = applied app s e in
    let new = draw app (lay a.sets s.store) in
    if fits new then Some (turn_of app s e a new) else None

-- the turns, and the number of the one that cannot be rendered, at which the session ends
pub record Session : Type 0 where
  pub turns : List Turn
  pub stopped : Option ℕ

abbrev pub after_turn : Turn → Session → Session
after_turn t s = record { turns = t ∷ s.turns; stopped = s.stopped }

abbrev pub go_on : State → Option Turn → (State → Session) → Session
go_on s None rest = record { turns = []; stopped = Some s.turn }
go_on s (Some t) rest = after_turn t (rest t.state)

abbrev pub session_from : App → List Event → State → Session
session_from app [] s = record { turns = []; stopped = None }
session_from app (e ∷ es) s = go_on s (step app s (Some e)) (session_from app es)

-- Turn 0, and then a turn for each event.
abbrev pub session : App → List Event → Session
session app es = go_on first_state (step app first_state None) (session_from app es)

-- what is written of a session
abbrev pub run_text : Session → Text
run_text s = flat_map (λ t. t.text) s.turns

abbrev pub work_line : Work → Text
work_line w = line (codes "work " ++ (decimal w.evaluated ++ (codes " made " ++ (decimal w.made ++ (codes " moved " ++ decimal w.moved)))))

-- the same with the line of its work after each turn
abbrev pub work_text : Session → Text
work_text s = flat_map (λ t. t.text ++ work_line t.work) s.turns
