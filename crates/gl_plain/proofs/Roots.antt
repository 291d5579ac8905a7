-- The laws of the machine.
use Rattle.gl_plain.specs.Reads.{RowsReadLower, ReadsLower}
use Rattle.std.proofs.Common.{Some, ◌<◌, ◌≡◌, ℕ, zero, suc, max, ◌+◌, List, [], Option, None, refl, sym, ◌∙◌, ap, ap₂, subst, arith, Bool, true, false}
use Rattle.std.specs.Prelude.{not, if◌then◌else◌}
use Rattle.gl_meaning.specs.App.{App}
use Rattle.gl_meaning.specs.Path.{Path, V}
use Rattle.gl_meaning.specs.Scope.{scope, nothing_passed, Source}
use Rattle.gl_meaning.specs.Eval.{Store, class_at}
use Rattle.gl_meaning.specs.Render as r
use Rattle.gl_meaning.specs.Render.{draw, components_at, fits}
use Rattle.gl_plain.specs.Ids.{Id, instance_id, occurs, id_eq, ref}
use Rattle.gl_plain.specs.State.{Names, names_by, Inst, mscope, mnothing, State, pair_of, Thing, touch, any_of, source_form, row}
use Rattle.gl_plain.specs.Live.{Live, Lives, times, times_in, is_deep, are_deep}
use Rattle.gl_plain.specs.Grow.{grow_components}
use Rattle.gl_plain.specs.Renew.{renew_root, renew_body}
use Rattle.gl_plain.specs.Drawn.{drawn_app, drawn_in}
use Rattle.gl_plain.specs.Stands.{top, Owned, StandIn}
use Rattle.gl_plain.specs.Machine.{no_place, RootStands, OnlyTouched}
use Rattle.gl_plain.specs.Laws.{StandingShows, DeepIsDeep, AppendedStands, UpdatedStands, UpdateLeavesOthers, RowsStayLower, IdsAreKept, LaidStands, FreshIsIdle, QuietIsIdle}
use Rattle.gl_plain.proofs.Moves.{Moves, owned_after, left_owned, right_owned, recount, no_move, is_old, hit_self}
use Rattle.gl_plain.proofs.Binding.{in_top}
use Rattle.gl_plain.proofs.Stay.{cells_stay, left_above, right_above}
use Rattle.gl_plain.specs.Laid.{rest, CellsHold}
use Rattle.gl_plain.proofs.Laid.{laid_in}
use Rattle.gl_plain.specs.Guards.{NoneStale}
use Rattle.gl_plain.proofs.Idle.{body_idle}
use Rattle.gl_plain.proofs.Cells.{cells_at}
use Rattle.gl_plain.proofs.Layers.{app_grows}
use Rattle.gl_plain.proofs.Rereads.{Cold}
use Rattle.gl_plain.proofs.Renewing.{Ready, made_old, from_after, idle_before, idle_same}
use Rattle.gl_plain.proofs.Renews.{body_renews}
use Rattle.gl_plain.proofs.ElementRenews.{element_is}
use Rattle.gl_plain.proofs.Deep.{and_true, all_fit}
use Rattle.gl_plain.specs.Turns.{begin}
use Rattle.gl_plain.proofs.Quiet.{quiet_in}
use Rattle.gl_plain.proofs.Shown.{scope_itself, shows_in}

-- the root's scope
root_ready : (app : App) (σ τ : Store) (st : State) (i : Inst) (made : List Id) (args : Names) → Owned st (λ q. occurs q made) → i.path ≡ [] → args ≡ []
    → Rattle.gl_plain.specs.Stands.CellsStand app σ τ st.look i made → OnlyTouched app σ τ st → Ready app σ τ (max 0 (top made)) st (mscope i args [] mnothing) no_place no_place
root_ready app σ τ st i made args o path none held cells = record {
  low = made_old app σ τ 0 st made (omega arith) o;
  scope = record {
    low = ((λ x e. let h = in_top _ made (held x e).0 in omega (arith, h)), subst (λ y. Rattle.gl_plain.specs.Stands.NamesBelow (max 0 (top made)) y) (sym none) tt, tt, tt);
    is = ap₂ (λ x y. scope x (names_by (pair_of st.look) y) [] nothing_passed) path none;
    cells = (cells_at app σ τ st.look i made held, tt);
  };
  keeps = scope_itself (Cold st) no_place;
  cells = cells;
}

root_appended : (app : App) (τ : Store) (m : ℕ) (st : State) → let y = grow_components m app τ [] [] [] None mnothing st in
    Moves st y.1 (λ q. 0) (λ q. times q y.0) × RootStands app τ τ y.1.look m y.0
root_appended app τ zero st = (no_move st, refl)
root_appended app τ (suc m) st =
    let g = app_grows app τ m st in
    let y = grow_components (suc m) app τ [] [] [] None mnothing st in (
      recount st y.1 (λ q. 0) (λ q. 0) (λ q. times q y.0) (λ q. occurs q g.all + times_in q g.lives) (λ q. refl) (λ q. ap (times q) g.is) g.moves,
      subst (RootStands app τ τ y.1.look (suc m)) (sym g.is) ((g.own, g.row), g.path, refl, g.cells, g.from, g.stands),
    )

pub appended_stands : AppendedStands
appended_stands app τ st =
    let h = root_appended app τ app.limit st in
    let y = grow_components app.limit app τ [] [] [] None mnothing st in
    record { owned = owned_after st y.1 (λ q. 0) (λ q. times q y.0) h.0; stands = h.1 }

root_updated : (app : App) (σ τ : Store) (m : ℕ) (st : State) (l : Live) → Owned st (λ q. times q l) → RootStands app σ τ st.look m l → OnlyTouched app σ τ st
    → let y = renew_root m app τ l st in Moves st y.1 (λ q. times q l) (λ q. times q y.0) × RootStands app τ τ y.1.look m y.0
root_updated app σ τ (suc m) st (Live.component_live i made gm args None ls) o h cells =
    let ca : Id → ℕ = λ q. occurs q made in
    let cb : Id → ℕ = λ q. times_in q ls in
    let ready = root_ready app σ τ st i made args (left_owned st ca cb o) h.1 h.2 h.3 cells in
    let b = max 0 (top made) in
    let ms = mscope i args [] mnothing in
    let c = (class_at app []).template in
    let g = body_renews app σ τ (element_is app σ τ) m c ls b no_place no_place ms [] 0 st (right_owned st ca cb o) h.4 h.5 ready in
    let y = renew_body app τ m ms [] 0 c ls st in
    let cz : Id → ℕ = λ q. times_in q y.0 in
    let kept = idle_same app σ τ st y.1 ca cb cz o g.moves in (
      idle_before app σ τ st y.1 ca cb cz o g.moves,
      ((h.0.0, kept (instance_id i.id) h.0.0 ∙ h.0.1), h.1, h.2, cells_stay app st.look y.1.look τ τ i made kept h.3, from_after app σ τ b st y.1 cb cz ready.low h.4 g.moves, g.stands),
    )
root_updated app σ τ zero st (Live.deep_live q) o h cells = (Rattle.gl_plain.proofs.Rereads.same_moves st (λ q'. 0) o, h)
root_updated app σ τ _ st _ o h cells = absurd h

pub updated_stands : UpdatedStands
updated_stands app σ τ st l h cells =
    let g = root_updated app σ τ app.limit st l h.owned h.stands cells in
    let y = renew_root app.limit app τ l st in
    record { owned = owned_after st y.1 (λ q. times q l) (λ q. times q y.0) g.0; stands = g.1 }

pub update_leaves_others : UpdateLeavesOthers
update_leaves_others app σ τ st l h cells = let g = root_updated app σ τ app.limit st l h.owned h.stands cells in (g.0.kept, g.0.more, g.0.fewer, λ q w z. g.0.gone q (is_old st (λ i. times i l) h.owned q w) w z)

touch_lower : (st : State) (r : ℕ) (x : Source) (v : V) → RowsReadLower st.look → RowsReadLower (touch r x v st).look
touch_lower st r x v low n = by (low n) (id_eq (ref n) (ref r)) where
  by : ReadsLower n (st.look (ref n)) → (b : Bool) → ReadsLower n (if b then Some (row (record { form = source_form x v; last = any_of [] })) else st.look (ref n))
  by l true = tt
  by l false = l

pub rows_stay_lower : RowsStayLower
rows_stay_lower = (
  λ n. tt,
  touch_lower,
  λ app τ st low. (root_appended app τ app.limit st).0.lower low,
  λ app σ τ st l h cells low. (root_updated app σ τ app.limit st l h.owned h.stands cells).0.lower low,
)

root_shows : (app : App) (τ : Store) (m : ℕ) (st : State) (l : Live) → Owned st (λ q. times q l) → RootStands app τ τ st.look m l → drawn_app app st.look l ≡ components_at m app τ [] [] nothing_passed
root_shows app τ (suc m) st (Live.component_live i made gm args None ls) o h =
    let ca : Id → ℕ = λ q. occurs q made in
    let cb : Id → ℕ = λ q. times_in q ls in
    let ready = root_ready app τ τ st i made args (left_owned st ca cb o) h.1 h.2 h.3 (λ j x e. refl) in
    let g = shows_in app τ st m (max 0 (top made)) no_place (mscope i args [] mnothing) nothing_passed [] 0 (class_at app []).template ls refl (right_owned st ca cb o) h.5 ready in
    ap (λ (j : Path). r.single (r.component j (scope j (names_by (pair_of st.look) args) [] nothing_passed) (drawn_in app st.look (mscope i args [] mnothing) j 0 (class_at app j).template ls))) h.1
    ∙ (ap (λ y. r.single (r.component [] (scope [] (names_by (pair_of st.look) y) [] nothing_passed) (drawn_in app st.look (mscope i args [] mnothing) [] 0 (class_at app []).template ls))) h.2
    ∙ ap (λ f. r.single (r.component [] no_place f)) g.is)
root_shows app τ zero st (Live.deep_live q) o h = ap (λ j. r.single (r.too_deep j)) h
root_shows app τ _ st _ o h = absurd h

pub standing_shows : StandingShows
standing_shows app τ st l h = root_shows app τ app.limit st l h.owned h.stands

root_laid : (app : App) (σ τ τ' : Store) (m : ℕ) (st st' : State) (l : Live) → RootStands app σ τ st.look m l → ((q : Id) → 0 < rest q l → st'.look q ≡ st.look q) → CellsHold app τ' st'.look l
    → RootStands app σ τ' st'.look m l
root_laid app σ τ τ' (suc m) st st' (Live.component_live i made gm args None ls) h same cs = (
  (h.0.0, same (instance_id i.id) (left_above _ _ (left_above _ _ (hit_self _))) ∙ h.0.1),
  h.1,
  h.2,
  cs.0,
  h.4,
  laid_in app st.look st'.look σ τ τ' m _ _ _ [] 0 (class_at app []).template ls (λ q w. same q (right_above _ _ w)) cs.1 h.5,
)
root_laid app σ τ τ' zero st st' (Live.deep_live q) h same cs = h
root_laid app σ τ τ' _ st st' _ h same cs = absurd h

pub laid_stands : LaidStands
laid_stands app σ τ τ' st st' l h same next cs = record {
  owned = record { once = h.owned.once; old = λ q le. h.owned.old q (let e = next q.kind in omega (arith, le, e)) };
  stands = root_laid app σ τ τ' app.limit st st' l h.stands same cs;
}

root_keeps : (app : App) (σ τ : Store) (m : ℕ) (st : State) (l : Live) → Owned st (λ q. times q l) → RootStands app σ τ st.look m l → OnlyTouched app σ τ st
    → Rattle.gl_plain.specs.Keeps.Keeps st.next l (renew_root m app τ l st).0
root_keeps app σ τ (suc m) st (Live.component_live i made gm args None ls) o h cells =
    let ca : Id → ℕ = λ q. occurs q made in
    let cb : Id → ℕ = λ q. times_in q ls in
    let ready = root_ready app σ τ st i made args (left_owned st ca cb o) h.1 h.2 h.3 cells in
    let g = body_renews app σ τ (element_is app σ τ) m (class_at app []).template ls (max 0 (top made)) no_place no_place (mscope i args [] mnothing) [] 0 st (right_owned st ca cb o) h.4 h.5 ready in
    (refl, refl, refl, refl, g.keeps)
root_keeps app σ τ zero st (Live.deep_live q) o h cells = refl
root_keeps app σ τ _ st _ o h cells = absurd h

pub ids_are_kept : IdsAreKept
ids_are_kept app σ τ st l h cells = root_keeps app σ τ app.limit st l h.owned h.stands cells

root_idle : (app : App) (σ τ : Store) (m : ℕ) (st : State) (l : Live) → Owned st (λ q. times q l) → RootStands app σ τ st.look m l → OnlyTouched app σ τ st → NoneStale st l
    → renew_root m app τ l st ≡ (l, st)
root_idle app σ τ (suc m) st (Live.component_live i made gm args None ls) o h cells f =
    let ca : Id → ℕ = λ q. occurs q made in
    let cb : Id → ℕ = λ q. times_in q ls in
    let ready = root_ready app σ τ st i made args (left_owned st ca cb o) h.1 h.2 h.3 cells in
    ap (λ (y : Lives × State). (Live.component_live i made gm args None y.0, y.1))
    (body_idle app σ τ st m (class_at app []).template ls (max 0 (top made)) no_place no_place (mscope i args [] mnothing) [] 0 (right_owned st ca cb o) h.5 ready f)
root_idle app σ τ zero st (Live.deep_live q) o h cells f = refl
root_idle app σ τ _ st _ o h cells f = absurd h

pub fresh_is_idle : FreshIsIdle
fresh_is_idle app σ τ st l h cells f = root_idle app σ τ app.limit st l h.owned h.stands cells f

-- At the beginning of a turn

root_quiet : (app : App) (τ : Store) (m : ℕ) (st : State) (l : Live) → RootStands app τ τ st.look m l → NoneStale (begin st) l
root_quiet app τ (suc m) st (Live.component_live i made gm args None ls) h = quiet_in app τ τ st m _ _ _ [] 0 (class_at app []).template ls h.5
root_quiet app τ zero st (Live.deep_live q) h = tt
root_quiet app τ _ st _ h = absurd h

pub quiet_is_idle : QuietIsIdle
quiet_is_idle app τ st l h =
    fresh_is_idle app τ τ (begin st) l (record { owned = record { once = h.owned.once; old = h.owned.old }; stands = h.stands }) (λ i x e. refl) (root_quiet app τ app.limit st l h.stands)

-- Where a component would stand too deep

root_fits : (app : App) (τ : Store) (look : Id → Option Thing) (m : ℕ) (l : Live) → RootStands app τ τ look m l → fits (drawn_app app look l) ≡ not (is_deep l)
root_fits app τ look (suc m) (Live.component_live i made gm args None ls) h =
    and_true _
    ∙ subst (λ j. fits (drawn_in app look (mscope i args [] mnothing) j 0 (class_at app j).template ls) ≡ not (are_deep ls)) (sym h.1)
    (all_fit look app τ m (max 0 (top made)) no_place (mscope i args [] mnothing) [] [] 0 (class_at app []).template ls h.5)
root_fits app τ look zero (Live.deep_live q) h = refl
root_fits app τ look _ _ h = absurd h

pub deep_is_deep : DeepIsDeep
deep_is_deep app τ st l h = sym (ap fits (standing_shows app τ st l h)) ∙ root_fits app τ st.look app.limit l h.stands
