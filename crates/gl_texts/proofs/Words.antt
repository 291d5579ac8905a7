-- The text of a turn through the words.
use Rattle.std.proofs.Common.{◌≡◌, [], Some, sym, ap, ◌∙◌, subst}
use Rattle.gl_base.specs.Texts.{Text}
use Rattle.gl_meaning.specs.App.{Event}
use Rattle.gl_meaning.specs.Session as session
use Rattle.gl_meaning.specs.Session.{Turn, applied}
use Rattle.gl_plain.specs.State.{State}
use Rattle.gl_plain.specs.Live.{Live, is_deep}
use Rattle.gl_plain.specs.Naming.{by_number}
use Rattle.gl_plain.specs.Renew.{renew_app_as}
use Rattle.gl_plain.specs.Turns.{begin}
use Rattle.gl_machine.specs.Code.{Code, live_of}
use Rattle.gl_machine.specs.Outcome.{Outcome, ok}
use Rattle.gl_machine.specs.Env.{Env}
use Rattle.gl_machine.specs.Placed.{Follows}
use Rattle.gl_machine.specs.Root.{PlacedRoot, renew_root_code_as}
use Rattle.gl_machine.specs.Step.{run_for_as}
use Rattle.gl_machine.proofs.Pages.{page_is_renewed}
use Rattle.gl_follows.specs.Sets.{set_all_by, AreThere, put_all}
use Rattle.gl_follows.proofs.Owners.{puts_by}
use Rattle.gl_texts.specs.Lines.{destroyed_lines}
use Rattle.gl_texts.specs.Laws.{text_of_turn, PutsText}
use Rattle.gl_texts.proofs.Texts.{next_text}

-- what the words left is what the tree left
same_text : (env : Env) (s : session.State) (e : Event) (before : State) (l : Live) (o : Outcome (Code × State)) (r : Live × State) (x : Code × State) (text : Text) → Follows (PlacedRoot env) live_of is_deep o r → o ≡ ok x
    → text_of_turn env.app s (Some e) r.1 r.0 (destroyed_lines env.app before l r.1) ≡ text
    → text_of_turn env.app s (Some e) x.1 (live_of x.0) (destroyed_lines env.app before l x.1) ≡ text
same_text env s e before l o r x text f is h =
    let y = subst (λ (z : Outcome (Code × State)). Follows (PlacedRoot env) live_of is_deep z r) is f in
    subst (λ (w : Live × State). text_of_turn env.app s (Some e) w.1 w.0 (destroyed_lines env.app before l w.1) ≡ text) (sym y.0) h

pub puts_text : PutsText
puts_text env lowered differ s e reached t h k st placed follows xs own same n x is =
    let l = live_of k in
    let y = puts_by env.app s st l follows xs own in
    let there : AreThere env.app l (applied env.app s (Some e)).sets = subst (AreThere env.app l) (sym same) y.0 in
    let now = set_all_by env.app l (applied env.app s (Some e)).sets (begin st) in
    let put : now ≡ put_all xs (begin st) = ap (λ hs. set_all_by env.app l hs (begin st)) same ∙ y.1 in
    let run : State → Outcome (Code × State) = renew_root_code_as by_number env.app.limit (run_for_as by_number env [] n) k in
    same_text env s e st l (run now) (renew_app_as by_number env.app [] l now) x t.text (page_is_renewed by_number env [] lowered n k now placed) (ap run put ∙ is) (next_text env.app differ s e reached t h st l follows there)
