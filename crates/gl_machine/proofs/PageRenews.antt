-- The whole page, updated by the recorded program.
use Rattle.std.proofs.Common.{ℕ, zero, suc, [], None, refl}
use Rattle.gl_meaning.specs.Eval.{Store, class_at}
use Rattle.gl_plain.specs.State.{mscope, mnothing, State}
use Rattle.gl_plain.specs.Naming.{Naming}
use Rattle.gl_plain.specs.Live.{component_live, is_deep, are_deep}
use Rattle.gl_plain.specs.Renew.{renew_body_as, renew_root_as}
use Rattle.gl_machine.specs.Sight.{not_passed}
use Rattle.gl_machine.specs.Code.{Code, component_code, live_of, lives_of}
use Rattle.gl_machine.specs.Outcome.{ok}
use Rattle.gl_machine.specs.RenewCode.{Runs, renew_codes_as}
use Rattle.gl_machine.specs.Env.{Env}
use Rattle.gl_machine.specs.Placed.{PlacedIn, Follows, RunsRight_as, RenewsRight}
use Rattle.gl_machine.specs.Root.{PlacedRoot, renew_root_code_as}
use Rattle.gl_machine.specs.UpdateLaws.{PageFollows}
use Rattle.gl_machine.proofs.Following.{follow_on}
use Rattle.gl_machine.proofs.RenewsCode.{renews_code, renews_codes}

pub renews_right : RenewsRight
renews_right naming env store run runs m c ms w p x k st h = renews_code naming env store run runs m c ms w p x k st h

module _ (naming : Naming) (env : Env) (store : Store) (run : Runs) (runs : RunsRight_as naming env store run) where
  pub page_renews : (m : ℕ) (k : Code) (st : State) → PlacedRoot env k
      → Follows (PlacedRoot env) live_of is_deep (renew_root_code_as naming m run k st) (renew_root_as naming m env.app store (live_of k) st)
  page_renews zero k st h = record {}
  page_renews (suc m) (component_code i made gm args None cs) st (q, h) =
      follow_on (PlacedIn env q (mscope i args [] mnothing) not_passed [] 0 (class_at env.app []).template) lives_of are_deep (PlacedRoot env) live_of is_deep
      (renew_codes_as naming run m [] 0 cs st) (renew_body_as naming env.app store m (mscope i args [] mnothing) [] 0 (class_at env.app []).template (lives_of cs) st)
      (λ r. ok (component_code i made gm args None r.0, r.1)) (λ r. (component_live i made gm args None r.0, r.1))
      (renews_codes naming env store run runs m q (mscope i args [] mnothing) not_passed [] 0 (class_at env.app []).template cs st h) (λ r d. d)
      (λ r fine placed. (refl, fine, (q, placed)))
  page_renews (suc m) _ st h = absurd h

pub page_follows : PageFollows
page_follows naming env store run runs k st h = page_renews naming env store run runs env.app.limit k st h
