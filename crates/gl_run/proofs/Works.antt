-- What is told of turns, and their work and questions together.
use Rattle.std.proofs.Common.{◌≡◌, ◌≤◌, ◌+◌, List, [], ◌∷◌, ◌++◌, sym, ap, ap₂, ◌∙◌, arith}
use Rattle.gl_base.specs.Texts.{Text}
use Rattle.gl_meaning.specs.Session.{Turn, work_line}
use Rattle.gl_meaning.specs.Work.{Work}
use Rattle.gl_session.specs.Standing.{Counts, AsksAtMost}
use Rattle.gl_session.specs.Turn.{TellsTurn, work_view, no_work, added, work_of, asked_of}
use Rattle.gl_session.specs.declared.session.Session.{Session}
use Rattle.gl_session.specs.declared.turn.Turn as code
use Rattle.gl_commands.specs.Told.{told_text}
use Rattle.gl_run.specs.Told.{seen_text}
use Rattle.gl_commands.specs.declared.told.Told.{Told}
use Rattle.gl_commands.specs.declared.told.Told.TheVariants as v

-- what is written of the code's turn is what is told of the meaning's
pub told_is : (told : Told) (made : code.Turn) (t : Turn) → TellsTurn made t → seen_text told made ≡ told_text told t
told_is v.Alone made t h = h.text
told_is v.WithWork made t h = ap₂ (λ (x : Text) (w : Work). x ++ work_line w) h.text h.work

-- Sums

same_work : (v w : Work) → v.evaluated ≡ w.evaluated → v.made ≡ w.made → v.moved ≡ w.moved → v ≡ w
same_work v w e m k = λ i. record { evaluated = e i; made = m i; moved = k i }

added_none : (w : Work) → added w no_work ≡ w
added_none w = same_work (added w no_work) w (omega arith) (omega arith) (omega arith)

none_added : (w : Work) → added no_work w ≡ w
none_added w = same_work (added no_work w) w (omega arith) (omega arith) (omega arith)

added_more : (u v w : Work) → added u (added v w) ≡ added (added u v) w
added_more u v w = same_work (added u (added v w)) (added (added u v) w) (omega arith) (omega arith) (omega arith)

-- one turn more
work_more : (done : List Turn) (t : Turn) → work_of (done ++ t ∷ []) ≡ added (work_of done) t.work
work_more [] t = added_none t.work ∙ sym (none_added t.work)
work_more (d ∷ done) t = ap (added d.work) (work_more done t) ∙ added_more d.work (work_of done) t.work

-- the counts after turn 0, and after each further turn
pub counts_first : (held : Session) (made : code.Turn) (t : Turn) → held.counts ≡ made.work → TellsTurn made t → Counts held (t ∷ [])
counts_first held made t e h = ap work_view e ∙ (h.work ∙ sym (added_none t.work))

pub counts_more : (old new : Session) (made : code.Turn) (done : List Turn) (t : Turn) → Counts old done → work_view new.counts ≡ added (work_view old.counts) (work_view made.work) → TellsTurn made t → Counts new (done ++ t ∷ [])
counts_more old new made done t c e h = e ∙ (ap₂ added c h.work ∙ sym (work_more done t))

-- Questions

-- one turn more
asked_more : (done : List Turn) (t : Turn) → asked_of (done ++ t ∷ []) ≡ asked_of done + t.asked
asked_more [] t = omega arith
asked_more (d ∷ done) t = let more = asked_more done t in omega (arith, more)

-- the questions after turn 0, and after each further turn
pub asks_first : (held : Session) (t : Turn) → held.asks ≡ 0 → AsksAtMost held (t ∷ [])
asks_first held t e = omega (arith, e)

pub asks_more : (old new : Session) (done : List Turn) (t : Turn) → AsksAtMost old done → new.asks ≤ old.asks + t.asked → AsksAtMost new (done ++ t ∷ [])
asks_more old new done t a b = let all = asked_more done t in omega (arith, a, b, all)
