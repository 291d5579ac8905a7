-- The turns of a machine by numbers through the words.
use Rattle.std.proofs.Common.{◌≡◌, [], Bool, true, false, true≢false, Option, Some, None, refl, sym, ap, ◌∙◌, subst}
use Rattle.std.specs.Prelude.{if◌then◌else◌, not}
use Rattle.gl_meaning.specs.App.{App, Event}
use Rattle.gl_meaning.specs.Laws.{Reached}
use Rattle.gl_meaning.specs.Render.{draw, fits}
use Rattle.gl_meaning.proofs.Pieces.{none_some}
use Rattle.gl_meaning.proofs.Sessions.{state_is_rendered}
use Rattle.gl_plain.proofs.Roots.{deep_is_deep}
use Rattle.gl_naming.specs.Renamed.{state_with}
use Rattle.gl_meaning.specs.Session as session
use Rattle.gl_meaning.specs.Session.{Turn, first_state, applied, step}
use Rattle.gl_plain.specs.State.{State}
use Rattle.gl_plain.specs.Naming.{by_number}
use Rattle.gl_plain.specs.Live.{Live, is_deep}
use Rattle.gl_plain.specs.Turns.{begin}
use Rattle.gl_plain.specs.Grow.{grow_app_as}
use Rattle.gl_plain.specs.Renew.{renew_app_as}
use Rattle.gl_machine.specs.Code.{Code, live_of}
use Rattle.gl_machine.specs.Outcome.{Outcome, ok, deep, lost}
use Rattle.gl_machine.specs.Env.{Env}
use Rattle.gl_machine.specs.Placed.{Follows}
use Rattle.gl_machine.specs.Root.{PlacedRoot, append_page_as, renew_root_code_as}
use Rattle.gl_machine.specs.Step.{run_for_as}
use Rattle.gl_machine.proofs.Pages.{page_appends, page_is_renewed, page_renewal_ends}
use Rattle.gl_machine.proofs.Nesting.{standing_nests}
use Rattle.gl_follows.specs.Sets.{set_all_by, AreThere, put_all}
use Rattle.gl_follows.specs.Turns.{rooted, TurnBy, StepsBy}
use Rattle.gl_follows.specs.Laws.{WordsBy, FirstWords, NextWords, PutsWords, NextEnds}
use Rattle.gl_follows.proofs.Owners.{puts_by}
use Rattle.gl_follows.proofs.Turning.{first_by, next_by}

-- what the words did is what the tree did
by_words : (env : Env) (s : session.State) (e : Option Event) (o : Outcome (Code × State)) (r : Live × State) → Follows (PlacedRoot env) live_of is_deep o r → StepsBy env.app s e r.1 r.0 → WordsBy env s e o
by_words env s e (ok x) r y h = by (step env.app s e) refl where
  by : (o : Option Turn) → step env.app s e ≡ o → WordsBy env s e (ok x)
  by (Some t) k = (t, k, subst (λ (w : Live × State). TurnBy env.app s e t w.1 w.0) (sym y.0) (h.turned t k), y.2)
  by None k = absurd (true≢false (sym (h.stopped k) ∙ y.1))
by_words env s e deep r y h = by (step env.app s e) refl where
  by : (o : Option Turn) → step env.app s e ≡ o → step env.app s e ≡ None
  by None k = k
  by (Some t) k = absurd (true≢false (sym y ∙ (h.turned t k).shallow))
by_words env s e lost r y h = tt

pub first_words : FirstWords
first_words env lowered differ n q c =
    by_words env first_state None (append_page_as by_number env.app.limit env [] (run_for_as by_number env [] n) q rooted) (grow_app_as by_number env.app [] rooted)
    (page_appends by_number env [] lowered n q c rooted) (first_by env.app differ)

pub next_words : NextWords
next_words env lowered differ s e reached k st placed follows there n =
    let st' = set_all_by env.app (live_of k) (applied env.app s (Some e)).sets (begin st) in
    by_words env s (Some e) (renew_root_code_as by_number env.app.limit (run_for_as by_number env [] n) k st') (renew_app_as by_number env.app [] (live_of k) st')
    (page_is_renewed by_number env [] lowered n k st' placed) (next_by env.app differ s e reached st (live_of k) follows there)

pub puts_words : PutsWords
puts_words env lowered differ s e reached k st placed follows xs own same n =
    let l = live_of k in
    let y = puts_by env.app s st l follows xs own in
    let there : AreThere env.app l (applied env.app s (Some e)).sets = subst (AreThere env.app l) (sym same) y.0 in
    let put : set_all_by env.app l (applied env.app s (Some e)).sets (begin st) ≡ put_all xs (begin st) = ap (λ hs. set_all_by env.app l hs (begin st)) same ∙ y.1 in
    subst (λ now. WordsBy env s (Some e) (renew_root_code_as by_number env.app.limit (run_for_as by_number env [] n) k now)) put
    (next_words env lowered differ s e reached k st placed follows there n)

-- where a reached state is rendered, no component stands too deep
reached_fits : (app : App) (s : session.State) → Reached app s → fits (draw app s.store) ≡ true
reached_fits app s r = by (fits (draw app s.store)) (state_is_rendered app s r) where
  by : (b : Bool) → (if b then Some (draw app s.store) else None) ≡ Some s.rendering → b ≡ true
  by true e = refl
  by false e = absurd (none_some s.rendering e)

not_deep : (b : Bool) → not b ≡ true → b ≡ false
not_deep false e = refl
not_deep true e = absurd (true≢false (sym e))

pub next_ends : NextEnds
next_ends env lowered s reached k st placed follows now =
    let l = live_of k in
    let st1 = state_with follows.named.owner follows.named.source st.touched st in
    let stands = follows.named.stands st.touched in
    page_renewal_ends by_number env [] lowered k placed
    (standing_nests env.app s.store s.store st1 l stands (not_deep (is_deep l) (sym (deep_is_deep env.app s.store st1 l stands) ∙ reached_fits env.app s reached))) now
