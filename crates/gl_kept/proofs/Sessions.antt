-- What is kept, in each turn of a session.
use Rattle.std.proofs.Common.{◌≡◌, Bool, true, false, true≢false, [], Option, Some, None, refl, sym, ◌∙◌, ◌≤◌, ap, subst, map}
use Rattle.std.specs.Prelude.{if◌then◌else◌, not, sum}
use Rattle.gl_meaning.specs.App.{App, Event}
use Rattle.gl_meaning.specs.Path.{has_path}
use Rattle.gl_meaning.specs.Render.{draw, fits}
use Rattle.gl_meaning.specs.Work.{work, asked}
use Rattle.gl_meaning.specs.Actions.{lay}
use Rattle.gl_meaning.specs.Session as session
use Rattle.gl_meaning.specs.Session.{Turn, first_state, applied, step}
use Rattle.gl_meaning.proofs.Pieces.{none_some}
use Rattle.gl_plain.specs.Live.{is_deep}
use Rattle.gl_plain.specs.Turns.{blank, begin}
use Rattle.gl_plain.specs.Grow.{grow_app}
use Rattle.gl_plain.specs.Renew.{renew_app}
use Rattle.gl_plain.proofs.Roots.{appended_stands, updated_stands, deep_is_deep}
use Rattle.gl_turns.specs.Sets.{set_all}
use Rattle.gl_turns.proofs.Setting.{sets_are_laid}
use Rattle.gl_turns.proofs.Turning.{turn_after, step_is, rendered}
use Rattle.gl_each.specs.Moved.{moves}
use Rattle.gl_kept.specs.Asked.{regions_of, asks}
use Rattle.gl_kept.specs.Listed.{tree_lists, ArePlans}
use Rattle.gl_kept.specs.Between.{moved_between}
use Rattle.gl_kept.specs.Laws.{FirstKeeps, NextKeeps, NextMoves, NextMovesBetween, NextAsks}
use Rattle.gl_kept.proofs.TreeLists.{updated_moves}
use Rattle.gl_kept.proofs.Trees.{updated_moves_between}
use Rattle.gl_kept.proofs.Questions.{asked_at_most}
use Rattle.gl_kept.proofs.Roots.{appended_keeps, sets_keep, updated_keeps}

-- a turn that is there fits
step_fits : (app : App) (s : session.State) (e : Option Event) (t : Turn) → step app s e ≡ Some t → fits (draw app (lay (applied app s e).sets s.store)) ≡ true
step_fits app s e t h = by (fits (draw app (lay (applied app s e).sets s.store))) h where
  by : (b : Bool) → (if b then Some (turn_after app s e) else None) ≡ Some t → b ≡ true
  by true g = refl
  by false g = absurd (none_some t g)

not_deep : (b d : Bool) → b ≡ true → b ≡ not d → d ≡ false
not_deep b false e f = refl
not_deep b true e f = absurd (true≢false (sym e ∙ f))

pub first_keeps : FirstKeeps
first_keeps app t h =
    let r = grow_app app [] blank in
    appended_keeps app [] blank (λ q. refl) (not_deep (fits (draw app [])) (is_deep r.0) (step_fits app first_state None t h) (deep_is_deep app [] r.1 r.0 (appended_stands app [] blank)))

pub next_keeps : NextKeeps
next_keeps app s e t st l reached h follows k =
    let sets = (applied app s (Some e)).sets in
    let τ = lay sets s.store in
    let st' = set_all app l sets (begin st) in
    let r = renew_app app τ l st' in
    let laid = sets_are_laid app s.store sets st l follows.stands in
    let now = updated_stands app s.store τ st' l laid.0 laid.1 in
    updated_keeps app s.store τ st' l laid.0 (sets_keep app s.store s.store sets st l follows.stands k)
    (not_deep (fits (draw app τ)) (is_deep r.0) (step_fits app s (Some e) t h) (deep_is_deep app τ r.1 r.0 now))

pub next_moves : NextMoves
next_moves app s e t st l plans reached h follows = subst (λ (u : Turn). Goal u) (step_is app s (Some e) t h) done where
  Goal : Turn → Type 0
  Goal u =
      let sets = (applied app s (Some e)).sets in let r = renew_app app (lay sets s.store) l (set_all app l sets (begin st)) in
      ArePlans (tree_lists [] l) (tree_lists [] r.0) plans → u.work.moved ≡ sum (map moves plans)

  done : Goal (turn_after app s (Some e))
  done h =
      let sets = (applied app s (Some e)).sets in
      let τ = lay sets s.store in
      let laid = sets_are_laid app s.store sets st l follows.stands in
      ap (λ f. (work f (draw app τ) sets).moved) (sym (rendered app s reached)) ∙ updated_moves app s.store τ sets (set_all app l sets (begin st)) l plans laid.0 laid.1 h

pub next_moves_between : NextMovesBetween
next_moves_between app s e t st l reached h follows = subst (λ (u : Turn). Goal u) (step_is app s (Some e) t h) done where
  Goal : Turn → Type 0
  Goal u = let sets = (applied app s (Some e)).sets in u.work.moved ≡ moved_between l (renew_app app (lay sets s.store) l (set_all app l sets (begin st))).0

  done : Goal (turn_after app s (Some e))
  done =
      let sets = (applied app s (Some e)).sets in
      let τ = lay sets s.store in
      let laid = sets_are_laid app s.store sets st l follows.stands in
      ap (λ f. (work f (draw app τ) sets).moved) (sym (rendered app s reached)) ∙ updated_moves_between app s.store τ sets (set_all app l sets (begin st)) l laid.0 laid.1

pub next_asks : NextAsks
next_asks app s e t st l reached h follows = subst (λ (u : Turn). Goal u) (step_is app s (Some e) t h) done where
  Goal : Turn → Type 0
  Goal u =
      let sets = (applied app s (Some e)).sets in let st' = set_all app l sets (begin st) in let r = renew_app app (lay sets s.store) l st' in
      asks st'.look r.1.touched (λ q. has_path q (regions_of [] r.0)) [] l ≤ u.asked

  done : Goal (turn_after app s (Some e))
  done =
      let sets = (applied app s (Some e)).sets in
      let τ = lay sets s.store in
      let st' = set_all app l sets (begin st) in
      let r = renew_app app τ l st' in
      let laid = sets_are_laid app s.store sets st l follows.stands in
      subst (λ f. asks st'.look r.1.touched (λ q. has_path q (regions_of [] r.0)) [] l ≤ asked f (draw app τ) sets) (rendered app s reached)
      (asked_at_most app s.store τ sets st' l laid.0 laid.1 laid.2)
