-- The beginning of a machine, and of a turn.
use Rattle.std.specs.Prelude.{[], false, None}
use Rattle.gl_plain.specs.State.{State}

-- a machine that keeps nothing
abbrev pub blank : State
blank = record { look = λ q. None; next = λ k. 0; touched = λ x. false; evaluated = []; installs = []; updates = [] }

-- At the beginning of a turn nothing is touched, and the lists of what was done are empty.
abbrev pub begin : State → State
begin st = record { look = st.look; next = st.next; touched = λ x. false; evaluated = []; installs = []; updates = [] }
