-- The log of a session's turns.
use Rattle.std.proofs.Common.{◌≡◌, ℕ, List, [], ◌∷◌, ◌++◌, map, Option, Some, None, refl, sym, ap, ◌∙◌, subst}
use Rattle.std.specs.Prelude.{filter, filter_map, not}
use Rattle.gl_meaning.specs.App.{App, Event}
use Rattle.gl_meaning.specs.Path.{Path, has_path}
use Rattle.gl_meaning.specs.Eval.{Held, Member, field_member, getter_member, action_member}
use Rattle.gl_meaning.specs.Render.{draw}
use Rattle.gl_meaning.specs.Changes.{Sets, stale}
use Rattle.gl_meaning.specs.Print.{modifier_paths}
use Rattle.gl_meaning.specs.Actions.{lay}
use Rattle.gl_meaning.specs.Session.{Turn, applied}
use Rattle.gl_meaning.proofs.Sessions.{state_holds_no_action}
use Rattle.gl_plain.specs.State.{Inst, State, mnothing}
use Rattle.gl_plain.specs.Live.{Live}
use Rattle.gl_plain.specs.Turns.{begin}
use Rattle.gl_plain.specs.Grow.{grow_app}
use Rattle.gl_plain.specs.Renew.{renew_app}
use Rattle.gl_turns.specs.Places.{modifier_in, places}
use Rattle.gl_turns.specs.Sets.{set_at, set_one, set_all}
use Rattle.gl_turns.specs.Laws.{FirstLog, NextLog}
use Rattle.gl_turns.proofs.LogGrows.{components_grown}
use Rattle.gl_turns.proofs.LogRenews.{tag_ids, tags_ids}
use Rattle.gl_turns.proofs.Tagged.{tagged, tagged_plain, modifiers_meet}
use Rattle.gl_turns.proofs.Logged.{ids_found, installs_new, updates_stale}
use Rattle.gl_turns.proofs.Setting.{sets_are_laid}
use Rattle.gl_turns.proofs.Turning.{turn_after, step_is, rendered}

modifiers_listed : (l : Live) → Rattle.gl_turns.specs.Modifiers.modifiers_of l ≡ map (λ z. z.1) (filter_map modifier_in (places [] l))
modifiers_listed l = sym (tags_ids l) ∙ (ap tag_ids (sym (tagged_plain [] l)) ∙ (ids_found (tagged [] l) ∙ ap (map (λ y. y.1)) (modifiers_meet [] l)))

pub first_log : FirstLog
first_log app τ st =
    let r = grow_app app τ st in
    let g = components_grown app.limit app τ [] [] [] None mnothing st in
    (g.installs ∙ ap (λ xs. st.installs ++ xs) (modifiers_listed r.0), g.updates)

-- sets leave the log alone

set_logs : (o : Option Inst) (k : Member) (h : Held) (st : State) → ((set_at o k h st).installs ≡ st.installs) × ((set_at o k h st).updates ≡ st.updates)
set_logs None k h st = (refl, refl)
set_logs (Some i) field_member h st = (refl, refl)
set_logs (Some i) (getter_member g) h st = (refl, refl)
set_logs (Some i) action_member h st = (refl, refl)

sets_log : (app : App) (l : Live) (sets : Sets) (st : State) → ((set_all app l sets st).installs ≡ st.installs) × ((set_all app l sets st).updates ≡ st.updates)
sets_log app l [] st = (refl, refl)
sets_log app l (h ∷ hs) st =
    let a = sets_log app l hs (set_one app l h st) in
    let b = set_logs (Rattle.gl_meaning.specs.Path.at_path h.instance (filter_map Rattle.gl_turns.specs.Places.instance_in (places [] l))) (Rattle.gl_meaning.specs.Eval.member_of (Rattle.gl_meaning.specs.Eval.class_at app h.instance) h.field) h st in
    (a.0 ∙ b.0, a.1 ∙ b.1)

pub next_log : NextLog
next_log app s e t st l reached h follows =
    let sets = (applied app s (Some e)).sets in
    let τ = lay sets s.store in
    let st' = set_all app l sets (begin st) in
    let r = renew_app app τ l st' in
    let ms = filter_map modifier_in (places [] r.0) in
    let laid = sets_are_laid app s.store sets st l follows.stands in
    let plain = state_holds_no_action app s reached in
    let before = sets_log app l sets (begin st) in
    let old = rendered app s reached in
    let new : draw app τ ≡ t.state.rendering = ap (λ (u : Turn). u.state.rendering) (step_is app s (Some e) t h) in (
      installs_new app s.store τ sets st' l laid.0 laid.1 laid.2 plain
          ∙ (ap (λ xs. xs ++ map (λ z. z.1) (filter (λ z. not (has_path z.0 (modifier_paths (draw app s.store)))) ms)) before.0 ∙ ap (λ f. map (λ z. z.1) (filter (λ z. not (has_path z.0 (modifier_paths f))) ms)) old),
      updates_stale app s.store τ sets st' l laid.0 laid.1 laid.2 plain
          ∙ (ap (λ xs. xs ++ map (λ z. z.1) (filter (λ z. stale (draw app s.store) (draw app τ) sets z.0) ms)) before.1
          ∙ (ap (λ f. map (λ z. z.1) (filter (λ z. stale f (draw app τ) sets z.0) ms)) old ∙ ap (λ f. map (λ z. z.1) (filter (λ z. stale s.rendering f sets z.0) ms)) new)),
    )
