-- The page stands for the rendering.
use Rattle.std.proofs.Common.{◌≡◌, [], Bool, false, not, refl, sym, ◌∙◌, ap, subst}
use Rattle.gl_meaning.specs.Eval.{Store}
use Rattle.gl_meaning.specs.Path.{Path}
use Rattle.gl_meaning.specs.Render.{draw, fits}
use Rattle.gl_meaning.specs.Scope.{Source}
use Rattle.gl_meaning.specs.View.{manifest_view}
use Rattle.gl_plain.specs.State.{State}
use Rattle.gl_plain.specs.Naming.{by_number}
use Rattle.gl_plain.specs.Grow.{grow_app_as}
use Rattle.gl_plain.specs.Live.{Live, is_deep}
use Rattle.gl_plain.specs.Drawn.{drawn_app}
use Rattle.gl_plain.specs.Machine.{StandsFor}
use Rattle.gl_naming.specs.Exist.{FieldsDiffer, store_with}
use Rattle.gl_naming.specs.Laws.{IsOneToOne, AreApart}
use Rattle.gl_naming.specs.Renamed.{state_with, Right}
use Rattle.gl_naming.proofs.Exist.{grown_stands}
use Rattle.gl_naming.proofs.Rules.{rules_differ}
use Rattle.gl_machine.specs.Code.{live_of}
use Rattle.gl_machine.specs.Env.{Env}
use Rattle.gl_machine.specs.Laws.{AllLowered}
use Rattle.gl_machine.specs.Outcome.{ok, deep}
use Rattle.gl_machine.specs.Placed.{Follows as FollowsTree}
use Rattle.gl_machine.specs.Root.{PlacedRoot}
use Rattle.gl_machine.proofs.Pages.{page_appends}
use Rattle.gl_vm.specs.Steps.{empty}
use Rattle.gl_vm.specs.declared.vm.Vm.{Vm}
use Rattle.gl_code.specs.CodeView.{seen_code}
use Rattle.gl_code.specs.Cells.{store_of}
use Rattle.gl_code.specs.Tables.{tables_of, env_of}
use Rattle.gl_append.specs.Page.{Appended, Overflows}
use Rattle.gl_code.specs.declared.code.Code.{Code}
use Rattle.gl_pages.specs.Laws.{Drawn, PageIsDrawn, PageIsTooDeep}

-- what a tree with its state stands for
abbrev Stands : Env → Store → Live → State → Type 0
Stands env store l st =
    (f : Path → Path) × (g : Source → Source) × IsOneToOne f × AreApart g × Right f g [] l
    × ((touched : Source → Bool) → let τ = store_with f store in let now = state_with f g touched st in
    StandsFor env.app τ τ now l × (drawn_app env.app now.look l ≡ draw env.app τ) × (fits (draw env.app τ) ≡ not (is_deep l)))

abbrev untouched : Source → Bool
untouched x = false

module _ (env : Env) (store : Store) (lowered : AllLowered env) (differ : FieldsDiffer env.app) where
  grown : Stands env store (grow_app_as by_number env.app store empty).0 (grow_app_as by_number env.app store empty).1
  grown = grown_stands env.app differ store empty

  pub is_drawn : (new : Vm) (code : Code) → Appended env store new code → Drawn env store new code
  is_drawn new code x =
      let l : Live = live_of (seen_code (tables_of env.manifest) code) in
      let y : FollowsTree (PlacedRoot env) live_of is_deep (ok (seen_code (tables_of env.manifest) code, x.state)) (grow_app_as by_number env.app store empty)
      = subst (λ o. FollowsTree (PlacedRoot env) live_of is_deep o (grow_app_as by_number env.app store empty)) x.is (page_appends by_number env store lowered x.steps x.root x.numbered empty) in
      let s : Stands env store l x.state = subst (λ (r : Live × State). Stands env store r.0 r.1) (sym y.0) grown in
      let shallow : is_deep l ≡ false = ap (λ (r : Live × State). is_deep r.0) y.0 ∙ y.1 in
      record {
        state = x.state;
        follows = x.follows;
        owners = s.0;
        sources = s.1;
        once = s.2;
        apart = s.3;
        right = s.4;
        placed = y.2;
        stands = λ t. (s.5 t).0;
        shows = λ t. (s.5 t).1;
        fine = (s.5 untouched).2 ∙ ap not shallow;
      }

  pub is_too_deep : Overflows env store → (f : Path → Path) × IsOneToOne f × (fits (draw env.app (store_with f store)) ≡ false)
  is_too_deep x =
      let y : FollowsTree (PlacedRoot env) live_of is_deep deep (grow_app_as by_number env.app store empty)
      = subst (λ o. FollowsTree (PlacedRoot env) live_of is_deep o (grow_app_as by_number env.app store empty)) x.is (page_appends by_number env store lowered x.steps x.root x.numbered empty) in
      (grown.0, grown.2, (grown.5 untouched).2 ∙ ap not y)

pub page_is_drawn : PageIsDrawn
page_is_drawn a cells new code x rules ts lowered =
    let env = env_of a ts in is_drawn env (store_of env.app cells) (ts, refl, lowered) (rules_differ (manifest_view a.manifest) ts rules) new code (x ts rules.order)

pub page_is_too_deep : PageIsTooDeep
page_is_too_deep a cells x rules ts lowered =
    let env = env_of a ts in is_too_deep env (store_of env.app cells) (ts, refl, lowered) (rules_differ (manifest_view a.manifest) ts rules) (x ts rules.order)
