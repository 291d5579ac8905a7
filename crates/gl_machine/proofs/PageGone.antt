-- What an update of the page frees, and its lines.
use Rattle.std.proofs.Common.{◌≡◌, ◌≤◌, ℕ, List, [], ◌∷◌, ◌++◌, Bool, true, false, true≢false, None, refl, sym, ap, ◌∙◌, subst, arith, inl, inr}
use Rattle.std.specs.Prelude.{◌||◌, flat_map}
use Rattle.gl_meaning.specs.App.{App}
use Rattle.gl_meaning.specs.Path.{Path, path_eq, has_path}
use Rattle.gl_meaning.specs.Eval.{Store}
use Rattle.gl_meaning.specs.Render.{draw}
use Rattle.gl_meaning.specs.Changes.{instances}
use Rattle.gl_meaning.specs.Print.{children_first, destroy_lines, modifier_paths}
use Rattle.gl_meaning.specs.Known.{Among}
use Rattle.gl_meaning.proofs.Equal.{path_means, path_itself}
use Rattle.gl_plain.specs.Ids.{Kind, Id}
use Rattle.gl_plain.specs.State.{Inst, State}
use Rattle.gl_plain.specs.Live.{Live, times}
use Rattle.gl_plain.specs.Keeps.{Keeps}
use Rattle.gl_plain.specs.Renew.{renew_app}
use Rattle.gl_plain.specs.Machine.{StandsFor, OnlyTouched}
use Rattle.gl_plain.proofs.Moves.{is_old}
use Rattle.gl_plain.proofs.Roots.{ids_are_kept, updated_stands, standing_shows}
use Rattle.gl_machine.specs.Rows.{Role, an_instance, a_modifier, Row, rows, rows_in, instance_rows, page_rows, row_ids}
use Rattle.gl_machine.specs.Gone.{has_id, gone, freed, gone_line}
use Rattle.gl_machine.specs.UpdateLaws.{FreedIsGone, FreedIsLogged}
use Rattle.gl_machine.proofs.Sits.{SitsIn, RootSits, page_sits}
use Rattle.gl_machine.proofs.RowsOf.{among_ids, page_ids}
use Rattle.gl_machine.proofs.ByPath.{Known, ids_by_path}
use Rattle.gl_machine.proofs.NestShown.{rows_are_drawn, ids_stand_once}
use Rattle.gl_machine.proofs.PlacesOnce.{of_role, row_paths, modifiers_at, instances_at, there, back, places_stand_once}
use Rattle.gl_machine.proofs.GoneLines.{Tells, root_logged}
use Rattle.gl_machine.proofs.Freed.{has_row, row_with, Lives_in, inst_freed, body_freed}

-- a path stands in a list
path_among : (p : Path) (ps : List Path) → Among p ps → has_path p ps ≡ true
path_among p [] m = absurd m
path_among p (q ∷ ps) (inl e) = ap (λ b. b || has_path p ps) (subst (λ z. path_eq p z ≡ true) e (path_itself p))
path_among p (q ∷ ps) (inr m) = ap (λ b. path_eq p q || b) (path_among p ps m) ∙ or_true (path_eq p q) where
  or_true : (b : Bool) → (b || true) ≡ true
  or_true true = refl
  or_true false = refl

among_path : (p : Path) (ps : List Path) → has_path p ps ≡ true → Among p ps
among_path p [] e = absurd (true≢false (sym e))
among_path p (q ∷ ps) e = by (path_eq p q) refl e (among_path p ps) where
  by : (b : Bool) → path_eq p q ≡ b → (b || has_path p ps) ≡ true → (has_path p ps ≡ true → Among p ps) → Among p (q ∷ ps)
  by true a h f = inl (path_means p q a)
  by false a h f = inr (f h)

root_freed : (lives_on : Id → Bool) (next : Kind → ℕ) (l l' : Live) → RootSits l → RootSits l' → Keeps next l l' → Lives_in lives_on (rows [] l) (rows [] l') → freed l l' ≡ gone lives_on l
root_freed lives_on next (Live.component_live i made gm args None ls) (Live.component_live i' made' gm' args' None ls') s s' h g =
    let t = subst (λ (j : Inst). SitsIn j.path 0 ls') h.0 s'.2 in
    let g' = subst (λ (j : Inst). Lives_in lives_on (instance_rows i ++ rows_in i.path 0 ls) (instance_rows j ++ rows_in j.path 0 ls')) h.0 g in
    inst_freed lives_on next i ls ls' s.2 t g' (body_freed lives_on next i.path 0 ls ls' s.2 t h.4)
root_freed lives_on next (Live.deep_live q) (Live.deep_live q') s s' h g = refl
root_freed lives_on next (Live.component_live i made gm args None ls) (Live.deep_live q) s s' h g = absurd h
root_freed lives_on next (Live.deep_live q) (Live.component_live i' made' gm' args' None ls') s s' h g = absurd h
root_freed lives_on next (Live.component_live i made gm args None ls) _ s s' h g = absurd s'
root_freed lives_on next (Live.deep_live q) _ s s' h g = absurd s'
root_freed lives_on next _ _ s s' h g = absurd s

module _ (app : App) (σ τ : Store) (st : State) (l : Live) (h : StandsFor app σ τ st l) (cells : OnlyTouched app σ τ st) where
  abbrev new : Live
  new = (renew_app app τ l st).0

  abbrev lives_on : Id → Bool
  lives_on q = has_id q (row_ids (page_rows new))

  -- an old row's id isn't new
  not_new : (x : Row) → Among x (page_rows l) → st.next x.id.kind ≤ x.id.num → ⊥
  not_new x m le =
      let a = among_ids x (page_rows l) m in let b = page_ids x.id l (page_sits app σ τ st l h) in
      let c = is_old st (λ q. times q l) h.owned x.id (omega (arith, a, b)) in absurd (omega (arith, le, c))

  -- a new row with an old row's id is that row
  same_ids : (x y : Row) → Among x (page_rows l) → Among y (page_rows new) → x.id ≡ y.id → y ≡ x
  same_ids x y m n e = by (ids_by_path app σ τ st l h cells y n) where
    by : Known st.next (page_rows l) y → y ≡ x
    by (inl k) = ids_stand_once app σ τ st l h y x k m (sym e)
    by (inr k) = absurd (not_new x m (subst (λ (q : Id). st.next q.kind ≤ q.num) (sym e) k.0))

  page_lives : Lives_in lives_on (page_rows l) (page_rows new)
  page_lives = record { place = λ x y m n e. ap (λ z. z.path) (same_ids x y m n e); lives = λ x m. refl }

  pub page_freed : freed l new ≡ gone lives_on l
  page_freed = root_freed lives_on st.next l new (page_sits app σ τ st l h) (page_sits app τ τ _ new (updated_stands app σ τ st l h cells)) (ids_are_kept app σ τ st l h cells) page_lives

  -- A row of a role lives on just where its path is still there.
  module _ (st0 : State) (h0 : StandsFor app σ σ st0 l) (r : Role) where
    still_there : (x : Row) → Among x (page_rows l) → x.role ≡ r → lives_on x.id ≡ true → Among x.path (row_paths r (page_rows new))
    still_there x m e a =
        let y = row_with x.id (page_rows new) a in
        there r x (page_rows new) e (subst (λ z. Among z (page_rows new)) (same_ids x y.0 m y.1 (sym y.2)) y.1)

    lives_there : (x : Row) → Among x (page_rows l) → x.role ≡ r → Among x.path (row_paths r (page_rows new)) → lives_on x.id ≡ true
    lives_there x m e a = let y = back r x.path (page_rows new) a in by y.0 y.1 y.2 y.3 (ids_by_path app σ τ st l h cells y.0 y.1) where
      by : (y : Row) → Among y (page_rows new) → y.role ≡ r → y.path ≡ x.path → Known st.next (page_rows l) y → lives_on x.id ≡ true
      by y n f g (inl k) = subst (λ (z : Row). lives_on z.id ≡ true) (places_stand_once app σ st0 l h0 y x k m (f ∙ sym e) g) (has_row y (page_rows new) n)
      by y n f g (inr k) = absurd (k.1 x m (e ∙ sym f) (sym g))

    pub lives_by_path : (ps : List Path) → row_paths r (page_rows new) ≡ ps → (x : Row) → Among x (page_rows l) → x.role ≡ r → lives_on x.id ≡ has_path x.path ps
    lives_by_path ps f x m e = by (lives_on x.id) refl (has_path x.path ps) refl where
      by : (a : Bool) → lives_on x.id ≡ a → (b : Bool) → has_path x.path ps ≡ b → lives_on x.id ≡ has_path x.path ps
      by true g true k = g ∙ sym k
      by false g false k = g ∙ sym k
      by true g false k = absurd (true≢false (sym (path_among x.path ps (subst (Among x.path) f (still_there x m e g))) ∙ k))
      by false g true k = absurd (true≢false (sym (lives_there x m e (subst (Among x.path) (sym f) (among_path x.path ps k))) ∙ g))

pub freed_is_gone : FreedIsGone
freed_is_gone app σ τ st l h cells = page_freed app σ τ st l h cells

pub freed_is_logged : FreedIsLogged
freed_is_logged app σ τ st0 st l h0 h cells sets before after num look numbers looks =
    let l' = (renew_app app τ l st).0 in
    let stands = updated_stands app σ τ st l h cells in
    let drawn = rows_are_drawn app τ (renew_app app τ l st).1 l' stands in
    let alive : Id → Bool = λ q. has_id q (row_ids (page_rows l')) in
    let tells : Tells app (draw app σ) (draw app τ) sets before after num st0.look look alive (page_rows l) = record {
      modifiers = λ x m e. (lives_by_path app σ τ st l h cells st0 h0 a_modifier (modifier_paths (draw app τ)) (ap (of_role a_modifier) drawn ∙ modifiers_at (draw app τ)) x m e, looks x m e);
      instances_on = λ x m e. lives_by_path app σ τ st l h cells st0 h0 an_instance (instances (draw app τ)) (ap (of_role an_instance) drawn ∙ instances_at (draw app τ)) x m e;
      numbers = numbers;
    } in
    ap (flat_map (gone_line app look num)) (page_freed app σ τ st l h cells)
    ∙ (sym (root_logged app (draw app σ) (draw app τ) sets before after num st0.look look alive σ σ app.limit l h0.stands tells)
    ∙ ap (λ f. flat_map (destroy_lines app (draw app σ) (draw app τ) sets before after) (children_first f)) (standing_shows app σ st0 l h0))
