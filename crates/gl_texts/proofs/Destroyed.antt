-- The lines of what is kept no more are those that the log has of what was destroyed.
use Rattle.std.proofs.Common.{◌≡◌, ◌<◌, ℕ, List, [], ◌∷◌, ◌++◌, Bool, true, false, Option, Some, None, refl, sym, ap, ap₂, ◌∙◌, subst, arith}
use Rattle.std.specs.Prelude.{flat_map, is_some, nat_eq, not, unwrap_or}
use Rattle.std.proofs.lemmas.Bool.{eqb-true}
use Rattle.gl_meaning.specs.App.{App, Event}
use Rattle.gl_meaning.specs.Path.{Path, at_path, has_path}
use Rattle.gl_meaning.specs.Scope.{Source}
use Rattle.gl_meaning.specs.Eval.{Store}
use Rattle.gl_meaning.specs.Known.{Among}
use Rattle.gl_meaning.specs.Laws.{Reached}
use Rattle.gl_meaning.specs.Render.{Forest, draw}
use Rattle.gl_meaning.specs.Changes.{Numbers, Sets, instances}
use Rattle.gl_meaning.specs.Actions.{lay}
use Rattle.gl_meaning.specs.Print.{children_first, modifier_paths, destroy_lines}
use Rattle.gl_meaning.specs.Session as session
use Rattle.gl_meaning.specs.Session.{Turn, applied, step}
use Rattle.gl_plain.specs.Ids.{Id, node, modifier_id}
use Rattle.gl_plain.specs.State.{Thing, row, content, instance_row, block_row, modifier_row, State}
use Rattle.gl_plain.specs.Live.{Live, times}
use Rattle.gl_plain.specs.Turns.{begin}
use Rattle.gl_plain.specs.Drawn.{drawn_app}
use Rattle.gl_plain.specs.Naming.{by_number}
use Rattle.gl_plain.specs.Renew.{renew_app, renew_app_as}
use Rattle.gl_plain.specs.Machine.{StandsFor, OnlyTouched}
use Rattle.gl_plain.proofs.Roots.{updated_stands, update_leaves_others, standing_shows}
use Rattle.gl_naming.specs.Exist.{FieldsDiffer}
use Rattle.gl_naming.specs.Renamed.{there_with, state_with}
use Rattle.gl_machine.specs.Rows.{a_node, an_instance, a_modifier, Row, row_of, page_rows, row_ids}
use Rattle.gl_machine.specs.Gone.{Gone, gone_modifier, gone_instance, has_id, gone, modifier_gone as modifier_line, gone_line}
use Rattle.gl_machine.proofs.Sits.{page_sits}
use Rattle.gl_machine.proofs.RowsOf.{among_ids, page_ids}
use Rattle.gl_machine.proofs.NestShown.{rows_are_drawn}
use Rattle.gl_machine.proofs.PlacesOnce.{of_role, modifiers_at, instances_at}
use Rattle.gl_machine.proofs.PageGone.{lives_by_path}
use Rattle.gl_machine.proofs.Freed.{row_with}
use Rattle.gl_machine.proofs.GoneLines.{Tells, root_logged}
use Rattle.gl_turns.specs.Places.{node_place, instance_place, modifier_place, instance_in, modifier_in, places}
use Rattle.gl_turns.specs.Evaluated.{is_named}
use Rattle.gl_turns.proofs.Found.{found_in}
use Rattle.gl_turns.proofs.Destroyed.{modifier_gone, instance_gone}
use Rattle.gl_turns.proofs.Turning.{step_is}
use Rattle.gl_follows.specs.Sets.{set_all_by, AreThere}
use Rattle.gl_follows.specs.Turns.{FollowsBy}
use Rattle.gl_follows.specs.Laws.{PathsBy}
use Rattle.gl_follows.proofs.Turning.{next_paths}
use Rattle.gl_texts.specs.Laws.{DestroyLines}
use Rattle.gl_texts.proofs.Nested.{place_numbered}
use Rattle.gl_texts.proofs.Placed.{PlacedAt, rows_placed, is_placed, root_kept}

-- A thing of the old tree is kept after an update just where a row of the new tree has its id.
module _ (app : App) (σ τ : Store) (st : State) (l : Live) (h : StandsFor app σ τ st l) (cells : OnlyTouched app σ τ st) where
  abbrev new : Live
  new = (renew_app app τ l st).0

  abbrev after : State
  after = (renew_app app τ l st).1

  abbrev kept : Id → Bool
  kept q = is_some ((renew_app app τ l st).1.look q)

  abbrev lives : Id → Bool
  lives q = has_id q (row_ids (page_rows (renew_app app τ l st).0))

  stands : StandsFor app τ τ (renew_app app τ l st).1 (renew_app app τ l st).0
  stands = updated_stands app σ τ st l h cells

  counted : (x : Row) → Among x (page_rows l) → 0 < times x.id l
  counted x m = let a = among_ids x (page_rows l) m in let b = page_ids x.id l (page_sits app σ τ st l h) in omega (arith, a, b)

  -- what isn't counted in the new tree is gone
  gone_there : (x : Row) → Among x (page_rows l) → nat_eq (times x.id new) 0 ≡ true → kept x.id ≡ false
  gone_there x m e = ap is_some ((update_leaves_others app σ τ st l h cells).3 x.id (counted x m) (eqb-true (times x.id new) 0 e))

  -- and what has a row there is kept
  there_kept : (x : Row) → lives x.id ≡ true → kept x.id ≡ true
  there_kept x e =
      let y = row_with x.id (page_rows new) e in
      subst (λ q. kept q ≡ true) y.2 (root_kept app τ τ after.look app.limit new stands.stands y.0 y.1)

  kept_is : (x : Row) → Among x (page_rows l) → (b : Bool) → lives x.id ≡ b → nat_eq (times x.id new) 0 ≡ not b → kept x.id ≡ b
  kept_is x m true e f = there_kept x e
  kept_is x m false e f = gone_there x m f

  module _ (st0 : State) (h0 : StandsFor app σ σ st0 l) where
    pub modifier_kept : (x : Row) → Among x (page_rows l) → x.role ≡ a_modifier → kept x.id ≡ has_path x.path (modifier_paths (draw app τ))
    modifier_kept x m e =
        let b = has_path x.path (modifier_paths (draw app τ)) in
        let drawn = rows_are_drawn app τ after new stands in
        let f : lives x.id ≡ b = lives_by_path app σ τ st l h cells st0 h0 a_modifier (modifier_paths (draw app τ)) (ap (of_role a_modifier) drawn ∙ modifiers_at (draw app τ)) x m e in
        let p : PlacedAt a_modifier x.path x.id (places [] l) = subst (λ r. PlacedAt r x.path x.id (places [] l)) e (is_placed x (page_rows l) (places [] l) (rows_placed [] l) m) in
        let g = modifier_gone app σ τ st l h cells (x.path, p.0) (found_in modifier_in (x.path, p.0) (modifier_place x.path p.0) (places [] l) refl p.2) in
        kept_is x m b f (ap (λ q. nat_eq (times q new) 0) p.1 ∙ g)

    pub instance_kept : (x : Row) → Among x (page_rows l) → x.role ≡ an_instance → kept x.id ≡ has_path x.path (instances (draw app τ))
    instance_kept x m e =
        let b = has_path x.path (instances (draw app τ)) in
        let drawn = rows_are_drawn app τ after new stands in
        let f : lives x.id ≡ b = lives_by_path app σ τ st l h cells st0 h0 an_instance (instances (draw app τ)) (ap (of_role an_instance) drawn ∙ instances_at (draw app τ)) x m e in
        let p : PlacedAt an_instance x.path x.id (places [] l) = subst (λ r. PlacedAt r x.path x.id (places [] l)) e (is_placed x (page_rows l) (places [] l) (rows_placed [] l) m) in
        let g = instance_gone app σ τ st l h cells (x.path, p.0) (found_in instance_in (x.path, p.0) (instance_place x.path p.0) (places [] l) refl p.2) in
        kept_is x m b f (ap (λ q. nat_eq (times q new) 0) p.1 ∙ g)

    -- so the lines of what is kept no more are those of the log
    pub logged : (sets : Sets) (before later : Numbers) → ((p : Path) (n : ℕ) → Among (node_place p n) (places [] l) → unwrap_or (at_path p before.of) 0 ≡ n)
        → flat_map (gone_line app st0.look (λ n. n)) (gone kept l) ≡ flat_map (destroy_lines app (draw app σ) (draw app τ) sets before later) (children_first (drawn_app app st0.look l))
    logged sets before later numbers = sym (root_logged app (draw app σ) (draw app τ) sets before later (λ n. n) st0.look st0.look kept σ σ app.limit l h0.stands tells) where
      numbered : (p : Path) (n : ℕ) → Among (row_of a_node p (node n)) (page_rows l) → n ≡ unwrap_or (at_path p before.of) 0
      numbered p n m =
          let y = is_placed (row_of a_node p (node n)) (page_rows l) (places [] l) (rows_placed [] l) m in
          sym (numbers p n (subst (λ k. Among (node_place p k) (places [] l)) (ap (λ (q : Id). q.num) (sym y.1)) y.2))

      tells : Tells app (draw app σ) (draw app τ) sets before later (λ n. n) st0.look st0.look kept (page_rows l)
      tells = record { modifiers = λ x m e. (modifier_kept x m e, refl); instances_on = instance_kept; numbers = numbered }

    -- the same of what has a row in the new tree
    pub logged_rows : (sets : Sets) (before later : Numbers) → ((p : Path) (n : ℕ) → Among (node_place p n) (places [] l) → unwrap_or (at_path p before.of) 0 ≡ n)
        → flat_map (gone_line app st0.look (λ n. n)) (gone lives l) ≡ flat_map (destroy_lines app (draw app σ) (draw app τ) sets before later) (children_first (drawn_app app st0.look l))
    logged_rows sets before later numbers = sym (root_logged app (draw app σ) (draw app τ) sets before later (λ n. n) st0.look st0.look lives σ σ app.limit l h0.stands tells) where
      numbered : (p : Path) (n : ℕ) → Among (row_of a_node p (node n)) (page_rows l) → n ≡ unwrap_or (at_path p before.of) 0
      numbered p n m =
          let y = is_placed (row_of a_node p (node n)) (page_rows l) (places [] l) (rows_placed [] l) m in
          sym (numbers p n (subst (λ k. Among (node_place p k) (places [] l)) (ap (λ (q : Id). q.num) (sym y.1)) y.2))

      tells : Tells app (draw app σ) (draw app τ) sets before later (λ n. n) st0.look st0.look lives (page_rows l)
      tells = record {
        modifiers = λ x m e. (lives_by_path app σ τ st l h cells st0 h0 a_modifier (modifier_paths (draw app τ)) (ap (of_role a_modifier) (rows_are_drawn app τ after new stands) ∙ modifiers_at (draw app τ)) x m e, refl);
        instances_on = λ x m e. lives_by_path app σ τ st l h cells st0 h0 an_instance (instances (draw app τ)) (ap (of_role an_instance) (rows_are_drawn app τ after new stands) ∙ instances_at (draw app τ)) x m e;
        numbers = numbered;
      }

-- Names don't matter

same_gone : (f : Path → Path) (g : Source → Source) (o : Option Thing) → modifier_line (λ n. n) (there_with f g o) ≡ modifier_line (λ n. n) o
same_gone f g None = refl
same_gone f g (Some (row x)) = refl
same_gone f g (Some (content c)) = refl
same_gone f g (Some (instance_row x)) = refl
same_gone f g (Some block_row) = refl
same_gone f g (Some (modifier_row x)) = refl

same_lines : (app : App) (f : Path → Path) (g : Source → Source) (look : Id → Option Thing) (gs : List Gone) → flat_map (gone_line app (λ q. there_with f g (look q)) (λ n. n)) gs ≡ flat_map (gone_line app look (λ n. n)) gs
same_lines app f g look [] = refl
same_lines app f g look (gone_modifier m ∷ gs) = ap₂ (λ a b. a ++ b) (same_gone f g (look (modifier_id m))) (same_lines app f g look gs)
same_lines app f g look (gone_instance i ∷ gs) = ap (λ b. gone_line app look (λ n. n) (gone_instance i) ++ b) (same_lines app f g look gs)

kept_named : (f : Path → Path) (g : Source → Source) (o : Option Thing) → is_some (there_with f g o) ≡ is_some o
kept_named f g None = refl
kept_named f g (Some x) = refl

module _ (app : App) (differ : FieldsDiffer app) (s : session.State) (e : Event) (reached : Reached app s) (st : State) (l : Live) (fo : FollowsBy app s st l) (there : AreThere app l (applied app s (Some e)).sets) where
  abbrev sets : Sets
  sets = (applied app s (Some e)).sets

  abbrev τ : Store
  τ = lay (applied app s (Some e)).sets s.store

  abbrev now : State
  now = set_all_by app l (applied app s (Some e)).sets (begin st)

  abbrev r : Live × State
  r = renew_app_as by_number app [] l (set_all_by app l (applied app s (Some e)).sets (begin st))

  by : PathsBy app s.store sets now l r
  by = next_paths app differ s e reached st l fo there

  -- by paths, where just the sets are touched
  abbrev y : State
  y = state_with by.now.owner by.now.source (is_named sets) now

  -- before the turn
  abbrev st0 : State
  st0 = state_with fo.named.owner fo.named.source (λ x. false) st

  stands0 : StandsFor app s.store s.store st0 l
  stands0 = fo.named.stands (λ x. false)

  numbers : (p : Path) (n : ℕ) → Among (node_place p n) (places [] l) → unwrap_or (at_path p s.numbers.of) 0 ≡ n
  numbers p n m = ap (λ (ns : Numbers). unwrap_or (at_path p ns.of) 0) (sym fo.numbers) ∙ ap (λ o. unwrap_or o 0) (place_numbered app s.store s.store st0 l stands0 p n m)

  -- what is kept after it is kept by paths
  same_kept : (q : Id) → is_some (r.1.look q) ≡ kept app s.store τ y l by.stood by.only q
  same_kept q = sym (kept_named by.now.owner by.now.source (r.1.look q)) ∙ ap (λ (x : Live × State). is_some (x.1.look q)) (sym by.is)

  all_kept : (λ q. is_some (r.1.look q)) ≡ kept app s.store τ y l by.stood by.only
  all_kept = λ i q. same_kept q i

  destroyed_told : (later : Numbers) → flat_map (gone_line app st.look (λ n. n)) (gone (λ q. is_some (r.1.look q)) l) ≡ flat_map (destroy_lines app s.rendering (draw app τ) sets s.numbers later) (children_first s.rendering)
  destroyed_told later =
      ap (λ k. flat_map (gone_line app st.look (λ n. n)) (gone k l)) all_kept
      ∙ (sym (same_lines app fo.named.owner fo.named.source st.look (gone (kept app s.store τ y l by.stood by.only) l))
      ∙ (logged app s.store τ y l by.stood by.only st0 stands0 sets s.numbers later numbers
      ∙ ap₂ (λ (f g : Forest). flat_map (destroy_lines app f (draw app τ) sets s.numbers later) (children_first g)) (sym (standing_shows app s.store st0 l stands0) ∙ fo.rendering) fo.rendering))

  -- what has a row in the new tree has it by paths
  all_live : (λ q. has_id q (row_ids (page_rows r.0))) ≡ lives app s.store τ y l by.stood by.only
  all_live = ap {B = Id → Bool} (λ (x : Live × State). λ q. has_id q (row_ids (page_rows x.0))) (sym by.is)

  rows_told : (later : Numbers) → flat_map (gone_line app st.look (λ n. n)) (gone (λ q. has_id q (row_ids (page_rows r.0))) l) ≡ flat_map (destroy_lines app s.rendering (draw app τ) sets s.numbers later) (children_first s.rendering)
  rows_told later =
      ap (λ k. flat_map (gone_line app st.look (λ n. n)) (gone k l)) all_live
      ∙ (sym (same_lines app fo.named.owner fo.named.source st.look (gone (lives app s.store τ y l by.stood by.only) l))
      ∙ (logged_rows app s.store τ y l by.stood by.only st0 stands0 sets s.numbers later numbers
      ∙ ap₂ (λ (f g : Forest). flat_map (destroy_lines app f (draw app τ) sets s.numbers later) (children_first g)) (sym (standing_shows app s.store st0 l stands0) ∙ fo.rendering) fo.rendering))

  -- so it doesn't matter whether what was destroyed is told by what is kept or by what stands in the new tree
  pub rows_tell : flat_map (gone_line app st.look (λ n. n)) (gone (λ q. has_id q (row_ids (page_rows r.0))) l) ≡ flat_map (gone_line app st.look (λ n. n)) (gone (λ q. is_some (r.1.look q)) l)
  rows_tell = rows_told s.numbers ∙ sym (destroyed_told s.numbers)

pub destroyed_is : DestroyLines
destroyed_is app differ s e reached t h st l fo there =
    destroyed_told app differ s e reached st l fo there t.state.numbers
    ∙ ap (λ (f : Forest). flat_map (destroy_lines app s.rendering f (applied app s (Some e)).sets s.numbers t.state.numbers) (children_first s.rendering)) (ap (λ (u : Turn). u.state.rendering) (step_is app s (Some e) t h))
