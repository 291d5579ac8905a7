-- How the logic tells two events apart: an event is written as marks, which a stack reads back.
use Rattle.std.specs.Prelude.{◌≡◌, ℕ, zero, suc, List, [], ◌∷◌, refl}
use Rattle.std.proofs.Common.{ap, ◌∙◌}
use Rattle.std.specs.Coded.{Coded, code_by, coded×, coded_ℕ, coded_list}
use Rattle.gl_base.specs.Texts.{Text}
use Rattle.gl_value.specs.Value as v
use Rattle.gl_ast.specs.Template.{Plain}
use Rattle.gl_ast.specs.ExprCode.{plain_code}
use Rattle.gl_ast.specs.PartCode.{text_code}
use Rattle.gl_meaning.specs.App.{Event, set_event, fire, batch, Events, no_events, event}

-- a constructor's number, with the fields that hold no event
abbrev pub Mark : Type 0
Mark = (ℕ × ℕ) × (Text × Plain)

abbrev pub mark : ℕ → ℕ → Text → Plain → Mark
mark c n s p = ((c, n), (s, p))

abbrev mutual
  pub written : Event → List Mark → List Mark
  written (set_event f p) k = mark 0 0 f p ∷ k
  written (fire n x p) k = mark 1 n x p ∷ k
  written (batch es) k = written_events es (mark 2 0 [] v.undefined ∷ k)

  pub written_events : Events → List Mark → List Mark
  written_events no_events k = mark 3 0 [] v.undefined ∷ k
  written_events (event e es) k = written e (written_events es (mark 4 0 [] v.undefined ∷ k))

pub data Cell : Type 0 where
  one : Event → Cell
  some : Events → Cell

abbrev pub as_batch : List Cell → List Cell
as_batch (some es ∷ cells) = one (batch es) ∷ cells
as_batch cells = cells

abbrev pub as_event : List Cell → List Cell
as_event (some es ∷ one e ∷ cells) = some (event e es) ∷ cells
as_event cells = cells

abbrev pub read_mark : ℕ → ℕ → Text → Plain → List Cell → List Cell
read_mark zero n s p cells = one (set_event s p) ∷ cells
read_mark (suc zero) n s p cells = one (fire n s p) ∷ cells
read_mark (suc (suc zero)) n s p cells = as_batch cells
read_mark (suc (suc (suc zero))) n s p cells = some no_events ∷ cells
read_mark (suc (suc (suc (suc k)))) n s p cells = as_event cells

abbrev pub read_marks : List Mark → List Cell → List Cell
read_marks [] cells = cells
read_marks (m ∷ ms) cells = read_marks ms (read_mark m.0.0 m.0.1 m.1.0 m.1.1 cells)

mutual
  read-written : (e : Event) (k : List Mark) (cells : List Cell) → read_marks (written e k) cells ≡ read_marks k (one e ∷ cells)
  read-written (set_event f p) k cells = refl
  read-written (fire n x p) k cells = refl
  read-written (batch es) k cells = read-written_events es _ cells

  read-written_events : (es : Events) (k : List Mark) (cells : List Cell) → read_marks (written_events es k) cells ≡ read_marks k (some es ∷ cells)
  read-written_events no_events k cells = refl
  read-written_events (event e es) k cells = read-written e _ cells ∙ read-written_events es _ (one e ∷ cells)

abbrev pub first_event : List Cell → Event
first_event (one e ∷ cells) = e
first_event _ = batch no_events

pub first_event-written : (e : Event) → first_event (read_marks (written e []) []) ≡ e
first_event-written e = ap first_event (read-written e [] [])

abbrev pub event_code : Coded Event
event_code = code_by (List Mark) (coded_list (coded× (coded× coded_ℕ coded_ℕ) (coded× text_code plain_code))) (λ e. written e []) (λ ms. first_event (read_marks ms [])) first_event-written
