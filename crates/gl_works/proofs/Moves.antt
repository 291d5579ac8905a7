-- How many items a turn moves.
use Rattle.std.proofs.Common.{◌≡◌, List, [], ◌∷◌, Option, Some, None, refl, sym, ap, ◌∙◌, subst}
use Rattle.std.specs.Prelude.{filter, filter_map, length}
use Rattle.gl_meaning.specs.Actions.{lay}
use Rattle.gl_meaning.specs.Changes.{Item, rendered_items}
use Rattle.gl_meaning.specs.Render.{draw}
use Rattle.gl_meaning.specs.Session.{Turn, first_state, applied}
use Rattle.gl_meaning.specs.Work.{Kept, is_passed, work}
use Rattle.gl_plain.specs.Live.{Live}
use Rattle.gl_plain.specs.Naming.{by_number}
use Rattle.gl_plain.specs.Renew.{renew_app_as}
use Rattle.gl_plain.specs.State.{State}
use Rattle.gl_plain.specs.Turns.{begin}
use Rattle.gl_turns.proofs.Turning.{turn_after, step_is, rendered}
use Rattle.gl_follows.specs.Sets.{set_all_by}
use Rattle.gl_follows.proofs.Turning.{next_paths}
use Rattle.gl_kept.specs.Between.{moved_between}
use Rattle.gl_kept.proofs.Trees.{updated_moves_between}
use Rattle.gl_works.specs.Laws.{FirstMovesNone, NextMovesBy}

-- no item has stood before
abbrev no_kept : Item → Option Kept
no_kept i = None

none_kept : (xs : List Item) → filter_map no_kept xs ≡ []
none_kept [] = refl
none_kept (x ∷ xs) = none_kept xs

pub first_moves_none : FirstMovesNone
first_moves_none app t h = subst (λ (u : Turn). u.work.moved ≡ 0) (step_is app first_state None t h) done where
  done : (turn_after app first_state None).work.moved ≡ 0
  done = ap (λ ks. length (filter (is_passed ks) ks)) (none_kept (rendered_items (draw app [])))

pub next_moves_by : NextMovesBy
next_moves_by app differ s e t reached h st l follows there = subst (λ (u : Turn). Goal u) (step_is app s (Some e) t h) done where
  Goal : Turn → Type 0
  Goal u = u.work.moved ≡ moved_between l (renew_app_as by_number app [] l (set_all_by app l (applied app s (Some e)).sets (begin st))).0

  done : Goal (turn_after app s (Some e))
  done =
      let sets = (applied app s (Some e)).sets in
      let τ = lay sets s.store in
      let paths = next_paths app differ s e reached st l follows there in
      ap (λ f. (work f (draw app τ) sets).moved) (sym (rendered app s reached))
      ∙ (updated_moves_between app s.store τ sets _ l paths.stood paths.only ∙ ap (λ (z : Live × State). moved_between l z.0) paths.is)
