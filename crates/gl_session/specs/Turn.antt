-- What a turn tells, and the work of some turns.
use Rattle.std.specs.Prelude.{◌≡◌, ℕ, ◌+◌, List, [], ◌∷◌}
use Rattle.gl_meaning.specs.Session as session
use Rattle.gl_meaning.specs.Work as m
use Rattle.gl_session.specs.declared.turn.Turn.{Turn}
use Rattle.gl_session.specs.declared.turn.Work.{Work}

-- the work as the meaning has it
abbrev pub work_view : Work → m.Work
work_view w = record { evaluated = w.evaluated; made = w.made; moved = w.moved }

-- the turn tells the text and the work of the meaning's turn
pub record TellsTurn (made : Turn) (t : session.Turn) : Type 0 where
  pub text : made.text ≡ t.text
  pub work : work_view made.work ≡ t.work

abbrev pub no_work : m.Work
no_work = record { evaluated = 0; made = 0; moved = 0 }

abbrev pub added : m.Work → m.Work → m.Work
added v w = record { evaluated = v.evaluated + w.evaluated; made = v.made + w.made; moved = v.moved + w.moved }

-- the work of these turns together
abbrev pub work_of : List session.Turn → m.Work
work_of [] = no_work
work_of (t ∷ ts) = added t.work (work_of ts)

-- how many questions these turns may ask together
abbrev pub asked_of : List session.Turn → ℕ
asked_of [] = 0
asked_of (t ∷ ts) = t.asked + asked_of ts
