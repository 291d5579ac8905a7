-- The whole tree: appended, set and updated.
use Rattle.std.proofs.Common.{◌≡◌, ◌<◌, ℕ, zero, suc, max, List, [], ◌∷◌, false, Option, Some, None, refl, sym, subst, arith}
use Rattle.std.specs.Prelude.{filter_map}
use Rattle.gl_base.specs.Texts.{Text}
use Rattle.gl_meaning.specs.App.{App}
use Rattle.gl_meaning.specs.Path.{Path, at_path}
use Rattle.gl_meaning.specs.Eval.{Held, Store, class_at, Member, field_member, getter_member, action_member, member_of}
use Rattle.gl_meaning.specs.Known.{Among}
use Rattle.gl_meaning.specs.Changes.{Sets}
use Rattle.gl_meaning.specs.Scope.{cell}
use Rattle.gl_plain.specs.Ids.{Id, ref, occurs}
use Rattle.gl_plain.specs.State.{Inst, cell_ref, mscope, mnothing, State}
use Rattle.gl_plain.specs.Live.{Live, times, times_in, are_deep}
use Rattle.gl_plain.specs.Laid.{rest_in, CellsHoldIn}
use Rattle.gl_plain.specs.Reads.{reads}
use Rattle.gl_plain.specs.Turns.{begin}
use Rattle.gl_plain.specs.Grow.{grow_app}
use Rattle.gl_plain.specs.Renew.{renew_body, renew_root, renew_app}
use Rattle.gl_plain.specs.Stands.{top, Owned}
use Rattle.gl_plain.specs.Machine.{no_place, RootStands}
use Rattle.gl_plain.proofs.Moves.{right_owned}
use Rattle.gl_turns.specs.Places.{instance_in, places, places_in}
use Rattle.gl_turns.specs.Sets.{touch_none, set_at, set_one, set_all}
use Rattle.gl_turns.proofs.Found.{at_gives}
use Rattle.gl_turns.proofs.Held.{Cells, component_cells, cells_in}
use Rattle.gl_kept.specs.Around.{with_made, There}
use Rattle.gl_kept.specs.Kept.{Kept}
use Rattle.gl_kept.specs.Laws.{AppendedKeeps, SetsKeep, UpdatedKeeps, FreedIsUnread}
use Rattle.gl_kept.proofs.Stays.{same_eases, all_stay, stay}
use Rattle.gl_kept.proofs.Binds.{none_made}
use Rattle.gl_kept.proofs.Grows.{Grown, components_new}
use Rattle.gl_kept.proofs.Calms.{Old, Calm, no_calm, then_calm, touch_calm}
use Rattle.gl_kept.proofs.Renews.{beside_idle, beside_stays, Renewed, idle_renewed}
use Rattle.gl_kept.proofs.Updates.{body_done}
use Rattle.gl_kept.proofs.Names.{row_counted, uncounted}

-- What is appended

pub appended_there : (app : App) (τ : Store) (st : State) → Grown app (λ q. 0) st (grow_app app τ st)
appended_there app τ st = components_new app.limit app τ (λ q. 0) [] [] [] None mnothing st st (none_made (λ q. 0) st) tt tt

pub appended_keeps : AppendedKeeps
appended_keeps app τ st none fits =
    let g = appended_there app τ st in
    record { there = g.there; nothing = λ q z. g.frame.clean fits q z (λ e. none q) }

-- What is updated

root_done : (app : App) (τ : Store) (m : ℕ) (l : Live) (st : State) → There app st.look (λ q. 0) l → Owned st (λ q. times q l) → Renewed app τ (λ q. 0) st l (renew_root m app τ l st)
root_done app τ (suc m) (Live.component_live i made gm args k ls) st h o =
    let none : Id → ℕ = λ q. 0 in
    let inside = with_made made none in
    let inner = mscope i args [] mnothing in
    let c = (class_at app []).template in
    let r = renew_body app τ m inner [] 0 c ls st in
    let cm : Id → ℕ = λ q. occurs q made in
    let cl : Id → ℕ = λ q. times_in q ls in
    let g = body_done app τ m inside inner [] 0 c ls st ((λ x e. let w = h.1 x e in omega (arith, w)), h.2, tt, tt) h.3 (right_owned st cm cl o) in
    let G = are_deep r.0 ≡ false in
    let cr : Id → ℕ = λ q. times_in q r.0 in
    record {
      frame = beside_idle G st r.1 cm cl cr o g.frame;
      there = (all_stay st.look r.1.look none made (same_eases st.look r.1.look cm (beside_stays G st r.1 cm cl cr o g.frame)) h.0, h.1, h.2, g.there);
    }
root_done app τ _ l st h o = idle_renewed app τ (λ q. 0) st l o h

pub updated_there : (app : App) (τ : Store) (st : State) (l : Live) → There app st.look (λ q. 0) l → Owned st (λ q. times q l) → Renewed app τ (λ q. 0) st l (renew_app app τ l st)
updated_there app τ st l h o = root_done app τ app.limit l st h o

pub updated_keeps : UpdatedKeeps
updated_keeps app σ τ st l s k fits =
    let g = updated_there app τ st l k.there s.owned in
    record { there = g.there; nothing = λ q z. g.frame.clean fits q z (λ e. k.nothing q e) }

pub freed_is_unread : FreedIsUnread
freed_is_unread app σ τ st l s k fits q z n x e =
    let r = renew_app app τ l st in
    uncounted (λ j. times j r.0) q z (reads x.form) (row_counted app r.1 r.0 (updated_keeps app σ τ st l s k fits) n x e)

-- Sets

pub calm_kept : (app : App) (st st' : State) (l : Live) → Calm st st' (λ q. times q l) → Kept app st l → Kept app st' l
calm_kept app st st' l m k = record {
  there = stay app st.look st'.look (λ q. 0) l (λ q w c h. m.softer q c h) k.there;
  nothing = λ q z. m.frame.clean tt q z (λ e. k.nothing q e);
}

-- the cells of the tree's instances are its own
abbrev pub CellsCounted : App → Live → Type 0
CellsCounted app l =
    (z : Path × Inst) → Among z (filter_map instance_in (places [] l)) → (x : Text) → member_of (class_at app z.0) x ≡ field_member → 0 < times (ref (cell_ref z.1 x)) l

pub cells_counted : (app : App) (σ τ : Store) (m : ℕ) (st : State) (l : Live) → Owned st (λ q. times q l) → RootStands app σ τ st.look m l → CellsCounted app l
cells_counted app σ τ (suc m) st (Live.component_live i made gm args None ls) o s =
    let c = (class_at app []).template in
    let inside = cells_in app σ τ st.look m (max 0 (top made)) no_place (mscope i args [] mnothing) [] 0 c ls s.5 in
    let inside' = subst (λ q. Cells app σ τ st.look (λ r. times_in r ls) (λ r. rest_in r ls) (filter_map instance_in (places_in q 0 ls)) (λ ρ k. CellsHoldIn app ρ k ls)) (sym s.1) inside in
    let cs = component_cells app σ τ st.look i made [] (λ q. times_in q ls) (λ q. rest_in q ls) (filter_map instance_in (places_in i.path 0 ls)) (λ ρ k. CellsHoldIn app ρ k ls) s.0.0 (λ q w. absurd (omega (arith, w))) (λ x f. refl) s.3 inside' in
    λ z m' x f. (cs.alone z m' x (subst (λ q. member_of (class_at app q) x ≡ field_member) (cs.rows z m').0 f) (o.once (ref (cell_ref z.1 x)))).1
cells_counted app σ τ zero st (Live.deep_live q) o s = λ z m. absurd m
cells_counted app σ τ _ st _ o s = absurd s

set_calm : (app : App) (l : Live) → CellsCounted app l → (h : Held) (st : State) → Old st (λ q. times q l) → Calm st (set_one app l h st) (λ q. times q l)
set_calm app l cs h st o = by (at_path h.instance is) refl (member_of (class_at app h.instance) h.field) refl where
  is : List (Path × Inst)
  is = filter_map instance_in (places [] l)

  none : Calm st (touch_none (cell h.instance h.field) st) (λ q. times q l)
  none = let m = no_calm st (λ q. times q l) o in record { frame = record { more = m.frame.more; kept = m.frame.kept; fresh = m.frame.fresh; old = m.frame.old; clean = m.frame.clean }; softer = m.softer }

  by : (i : Option Inst) → at_path h.instance (filter_map instance_in (places [] l)) ≡ i → (k : Member) → member_of (class_at app h.instance) h.field ≡ k → Calm st (set_at i k h st) (λ q. times q l)
  by None e k f = none
  by (Some i) e field_member f = touch_calm st (λ q. times q l) (cell_ref i h.field) (cell h.instance h.field) h.value o (cs (h.instance, i) (at_gives h.instance (filter_map instance_in (places [] l)) i e) h.field f)
  by (Some i) e (getter_member g) f = none
  by (Some i) e action_member f = none

sets_calm : (app : App) (l : Live) → CellsCounted app l → (sets : Sets) (st : State) → Old st (λ q. times q l) → Calm st (set_all app l sets st) (λ q. times q l)
sets_calm app l cs [] st o = no_calm st (λ q. times q l) o
sets_calm app l cs (h ∷ hs) st o =
    let m = set_calm app l cs h st o in
    let st1 = set_one app l h st in
    then_calm st st1 (set_all app l hs st1) (λ q. times q l) m (sets_calm app l cs hs st1 m.frame.old)

pub sets_keep : SetsKeep
sets_keep app σ τ sets st l s k =
    calm_kept app (begin st) (set_all app l sets (begin st)) l (sets_calm app l (cells_counted app σ τ app.limit st l s.owned s.stands) sets (begin st) s.owned.old)
    (record { there = k.there; nothing = k.nothing })
