-- What a machine by numbers keeps, turn by turn: with other names of owners and sources the same things are there.
use Rattle.std.proofs.Common.{◌≡◌, ℕ, ◌<◌, List, [], ◌∷◌, map, Bool, true, false, Option, Some, None, refl, sym, ap, ◌∙◌, subst}
use Rattle.std.specs.Prelude.{filter_map}
use Rattle.gl_meaning.specs.App.{App}
use Rattle.gl_meaning.specs.Path.{Path, at_path}
use Rattle.gl_meaning.specs.Scope.{Source}
use Rattle.gl_meaning.specs.Eval.{Held, Store, class_at, Member, field_member, getter_member, action_member, member_of}
use Rattle.gl_meaning.specs.Changes.{Sets}
use Rattle.gl_plain.specs.Ids.{Kind, a_ref, a_node, an_instance, a_block, a_modifier, Id}
use Rattle.gl_plain.specs.State.{Inst, cell_ref, Form, constant_form, source_form, property_form, call_form, joined_form, all_form, Thing, row, content, instance_row, block_row, modifier_row, State}
use Rattle.gl_plain.specs.Live.{Live, times}
use Rattle.gl_plain.specs.Reads.{reads}
use Rattle.gl_plain.specs.Turns.{begin}
use Rattle.gl_plain.specs.Machine.{StandsFor}
use Rattle.gl_naming.specs.Numbered.{number}
use Rattle.gl_naming.specs.Renamed.{form_with, there_with, state_with}
use Rattle.gl_turns.specs.Places.{instance_in, places}
use Rattle.gl_turns.proofs.Found.{at_gives}
use Rattle.gl_kept.specs.Around.{AllIn, IsThing}
use Rattle.gl_kept.specs.Kept.{Kept}
use Rattle.gl_kept.proofs.Names.{names_are_there}
use Rattle.gl_kept.proofs.Stays.{stay}
use Rattle.gl_kept.proofs.Calms.{Old, Calm, no_calm, then_calm, touch_calm}
use Rattle.gl_kept.proofs.Roots.{calm_kept, CellsCounted, cells_counted}
use Rattle.gl_follows.specs.Sets.{set_at_by, set_one_by, set_all_by}
use Rattle.gl_follows.specs.Laws.{KeepsBy}

-- Other names

module _ (f : Path → Path) (g : Source → Source) where
  -- a form reads the same references
  reads_with : (x : Form) → reads (form_with f g x) ≡ reads x
  reads_with (constant_form v) = refl
  reads_with (source_form y v) = refl
  reads_with (property_form r k) = refl
  reads_with (call_form n rs ns) = refl
  reads_with (joined_form rs) = refl
  reads_with (all_form rs) = refl

  thing_named : (c : Id → ℕ) (k : Kind) (o : Option Thing) → IsThing c k o → IsThing c k (there_with f g o)
  thing_named c a_ref (Some (row x)) h = subst (AllIn c) (sym (reads_with x.form)) h
  thing_named c a_node (Some (content x)) h = tt
  thing_named c an_instance (Some (instance_row i)) h = tt
  thing_named c a_block (Some block_row) h = tt
  thing_named c a_modifier (Some (modifier_row x)) h = tt
  thing_named c _ _ h = absurd h

  thing_unnamed : (c : Id → ℕ) (k : Kind) (o : Option Thing) → IsThing c k (there_with f g o) → IsThing c k o
  thing_unnamed c a_ref (Some (row x)) h = subst (AllIn c) (reads_with x.form) h
  thing_unnamed c a_node (Some (content x)) h = tt
  thing_unnamed c an_instance (Some (instance_row i)) h = tt
  thing_unnamed c a_block (Some block_row) h = tt
  thing_unnamed c a_modifier (Some (modifier_row x)) h = tt
  thing_unnamed c k None h = h
  thing_unnamed c _ (Some _) h = absurd h

  nothing_unnamed : (o : Option Thing) → there_with f g o ≡ None → o ≡ None
  nothing_unnamed None e = refl
  nothing_unnamed (Some x) e = absurd (Rattle.gl_meaning.proofs.Pieces.none_some _ (sym e))

  module _ (touched : Source → Bool) (app : App) (st : State) (l : Live) where
    pub kept_with : Kept app st l → Kept app (state_with f g touched st) l
    kept_with k = record {
      there = stay app st.look (state_with f g touched st).look (λ q. 0) l (λ q w c h. thing_named c q.kind (st.look q) h) k.there;
      nothing = λ q z. ap (there_with f g) (k.nothing q z);
    }

    pub kept_without : Kept app (state_with f g touched st) l → Kept app st l
    kept_without k = record {
      there = stay app (state_with f g touched st).look st.look (λ q. 0) l (λ q w c h. thing_unnamed c q.kind (st.look q) h) k.there;
      nothing = λ q z. nothing_unnamed (st.look q) (k.nothing q z);
    }

-- Sets

set_calm_by : (app : App) (l : Live) → CellsCounted app l → (h : Held) (st : State) → Old st (λ q. times q l) → Calm st (set_one_by app l h st) (λ q. times q l)
set_calm_by app l cs h st o = by (at_path h.instance (filter_map instance_in (places [] l))) refl (member_of (class_at app h.instance) h.field) refl where
  none : Calm st st (λ q. times q l)
  none = no_calm st (λ q. times q l) o

  by : (i : Option Inst) → at_path h.instance (filter_map instance_in (places [] l)) ≡ i → (k : Member) → member_of (class_at app h.instance) h.field ≡ k → Calm st (set_at_by i k h st) (λ q. times q l)
  by None e k m = none
  by (Some i) e field_member m =
      touch_calm st (λ q. times q l) (cell_ref i h.field) (number (cell_ref i h.field)) h.value o (cs (h.instance, i) (at_gives h.instance (filter_map instance_in (places [] l)) i e) h.field m)
  by (Some i) e (getter_member x) m = none
  by (Some i) e action_member m = none

sets_calm_by : (app : App) (l : Live) → CellsCounted app l → (sets : Sets) (st : State) → Old st (λ q. times q l) → Calm st (set_all_by app l sets st) (λ q. times q l)
sets_calm_by app l cs [] st o = no_calm st (λ q. times q l) o
sets_calm_by app l cs (h ∷ hs) st o =
    let m = set_calm_by app l cs h st o in
    let st1 = set_one_by app l h st in
    then_calm st st1 (set_all_by app l hs st1) (λ q. times q l) m (sets_calm_by app l cs hs st1 m.frame.old)

-- the beginning of a turn and the sets of an event leave what is kept
pub sets_keep_by : (app : App) (σ τ : Store) (f : Path → Path) (g : Source → Source) (touched : Source → Bool) (sets : Sets) (st : State) (l : Live)
    → StandsFor app σ τ (state_with f g touched st) l → Kept app st l → Kept app (set_all_by app l sets (begin st)) l
sets_keep_by app σ τ f g touched sets st l s k =
    calm_kept app (begin st) (set_all_by app l sets (begin st)) l
    (sets_calm_by app l (cells_counted app σ τ app.limit (state_with f g touched st) l s.owned s.stands) sets (begin st) s.owned.old) (record { there = k.there; nothing = k.nothing })

pub keeps_by : KeepsBy
keeps_by app s st l f q = names_are_there app st l f.kept q
