-- The page over words stands for the rendering: the laws of the page with those of the machine over trees.
use Rattle.std.proofs.Common.{not, sym, ◌∙◌, ap, subst}
use Rattle.gl_meaning.specs.Eval.{Store}
use Rattle.gl_plain.specs.State.{State}
use Rattle.gl_plain.specs.Naming.{by_path}
use Rattle.gl_plain.specs.Live.{Live, is_deep}
use Rattle.gl_plain.specs.Grow.{grow_app}
use Rattle.gl_plain.specs.Renew.{renew_app}
use Rattle.gl_plain.specs.Machine.{StandsFor}
use Rattle.gl_plain.proofs.Roots.{appended_stands, updated_stands, deep_is_deep}
use Rattle.gl_machine.specs.Code.{Code, live_of}
use Rattle.gl_machine.specs.Env.{Env}
use Rattle.gl_machine.specs.Laws.{PageAnswers, PageStands, PageUpdates}
use Rattle.gl_machine.specs.Outcome.{Outcome, ok, deep, lost}
use Rattle.gl_machine.specs.Placed.{Follows}
use Rattle.gl_machine.specs.Root.{PlacedRoot}
use Rattle.gl_machine.proofs.Pages.{page_appends, page_is_renewed}

answers : (env : Env) (store : Store) (o : Outcome (Code × State)) (r : Live × State) → StandsFor env.app store store r.1 r.0 → Follows (PlacedRoot env) live_of is_deep o r → PageAnswers env store o
answers env store lost r h f = record {}
answers env store deep r h f = deep_is_deep env.app store r.1 r.0 h ∙ ap not f
answers env store (ok x) r h (is, fine, placed) =
    let P : Live × State → Type 0 = λ y. StandsFor env.app store store y.1 y.0 in
    (placed, subst P (sym is) h, deep_is_deep env.app store r.1 r.0 h ∙ ap not fine)

pub page_stands : PageStands
page_stands env store lowered n q number st = answers env store _ (grow_app env.app store st) (appended_stands env.app store st) (page_appends by_path env store lowered n q number st)

pub page_updates : PageUpdates
page_updates env σ τ lowered n k st placed stands touched =
    answers env τ _ (renew_app env.app τ (live_of k) st) (updated_stands env.app σ τ st (live_of k) stands touched) (page_is_renewed by_path env τ lowered n k st placed)
