-- The cell of a field that is set.
use Rattle.std.proofs.Common.{◌≡◌, ℕ, zero, suc, slice_get, Bool, true, false, List, [], ◌∷◌, map, Option, Some, unwrap_or, refl, sym, ap, ap₂, ◌∙◌}
use Rattle.std.specs.Prelude.{if◌then◌else◌}
use Rattle.std.specs.Str.{bytes_eq}
use Rattle.gl_base.specs.Texts.{Text}
use Rattle.gl_base.specs.Names.{named, at_place}
use Rattle.gl_value.specs.Value as v
use Rattle.gl_value.specs.Plain.{plain_pair}
use Rattle.gl_value.specs.View.{seen_entries}
use Rattle.gl_value.specs.declared.value.Value.{Value}
use Rattle.gl_meaning.specs.Eval.{Member, field_member, field_or, getter_or_action, member_of}
use Rattle.gl_meaning.specs.Order.{names_of}
use Rattle.gl_meaning.specs.Path.{Path}
use Rattle.gl_meaning.proofs.Equal.{text_itself}
use Rattle.gl_plain.specs.State.{cell_ref, named_as}
use Rattle.gl_machine.specs.Code.{live_of}
use Rattle.gl_arena.specs.Id.{Id}
use Rattle.gl_vm.specs.View.{stamps, name_stamps}
use Rattle.gl_code.specs.CodeView.{seen_code}
use Rattle.gl_code.specs.declared.page.Page.{Page}
use Rattle.gl_actions.specs.Cells.{CellFor, target_in, target_name}
use Rattle.gl_actions.specs.Found.{instance_in}
use Rattle.gl_actions.specs.Frames.{Fits, IsField, inst_in, this_in}
use Rattle.gl_actions.specs.LastSet.{field_names}
use Rattle.gl_actions.specs.Sets as s
use Rattle.gl_actions.specs.World.{World, owner_in, class_in, field_in, tables_in}
use Rattle.gl_actions.specs.declared.frame.Frame.{Frame}
use Rattle.gl_actions.proofs.FieldLaws.{names_are, names_alike}
use Rattle.gl_actions.proofs.Values.{some_same, no_none}

abbrev plain_fields : List (Text × Value) → List (Text × v.Value ⊥)
plain_fields fs = map (λ e. let p : Text × v.Value ⊥ = plain_pair e in p) (seen_entries fs)

-- what has the name of a field is a field
field_there : (fs : List (Text × Value)) (q : ℕ) (x : Text × Value) (m : Member) → Some x ≡ slice_get fs q → field_or (named x.0 (plain_fields fs)) m ≡ field_member
field_there [] q x m e = absurd (no_none e)
field_there (f ∷ fs) zero x m e =
    let same : bytes_eq x.0 f.0 ≡ true = ap (λ (y : Text × Value). bytes_eq x.0 y.0) (sym (some_same e)) ∙ text_itself x.0 in
    ap (λ b. field_or (if b then Some (plain_pair (f.0, Rattle.gl_value.specs.View.view f.1)).1 else named x.0 (plain_fields fs)) m) same
field_there (f ∷ fs) (suc q) x m e = by (bytes_eq x.0 f.0) (field_there fs q x m e) where
  by : (b : Bool) → field_or (named x.0 (plain_fields fs)) m ≡ field_member → field_or (if b then Some (plain_pair (f.0, Rattle.gl_value.specs.View.view f.1)).1 else named x.0 (plain_fields fs)) m ≡ field_member
  by true h = refl
  by false h = h

-- the name at its place
name_there : (fs : List (Text × Value)) (q : ℕ) (x : Text × Value) → Some x ≡ slice_get fs q → at_place [] q (field_names fs) ≡ x.0
name_there [] q x e = absurd (no_none e)
name_there (f ∷ fs) zero x e = ap (λ (y : Text × Value). y.0) (sym (some_same e))
name_there (f ∷ fs) (suc q) x e = name_there fs q x e

module _ (w : World) (f : Frame) (fits : Fits w f) where
  -- the name at a place, by the class with the path of the instance
  pub name_is : (q : ℕ) (x : Text × Value) (fs : List (Text × Value)) → seen_entries fs ≡ f.class.now.fields → Some x ≡ slice_get fs q → (field_in w (this_in f) q ≡ x.0) × IsField w f x.0
  name_is q x fs these there = (
    ap (at_place [] q) (names_are w f fits x.0 fs these) ∙ name_there fs q x there,
    ap (λ es. field_or (named x.0 es) (getter_or_action (named x.0 (class_in w (this_in f)).getters))) (fits.fields ∙ ap (λ es. map (λ e. let p : Text × v.Value ⊥ = plain_pair e in p) es) (sym these))
        ∙ field_there fs q x (getter_or_action (named x.0 (class_in w (this_in f)).getters)) there,
  )

  -- the cell of a name, by the class with the number of the instance
  pub cell_same : (x : Text) (fs : List (Text × Value)) (ids : List Id) (r : Id) → seen_entries fs ≡ f.numbered.now.fields → ids ≡ f.owner.now.cells
      → Some r.1 ≡ named x (named_as (field_names fs) (stamps ids)) → r.1 ≡ cell_ref (inst_in w f) x
  cell_same x fs ids r these cells is =
      ap (λ (o : Option ℕ). unwrap_or o 0)
      (is
      ∙ ap₂ (λ ns cs. named x (named_as ns (stamps cs)))
      (sym (names_alike fs) ∙ (ap (λ es. names_of (map (λ e. let p : Text × v.Value ⊥ = plain_pair e in p) es)) these ∙ sym fits.names)) cells)

  module _ (page : Page) (t : s.Set) (k : ℕ) (is : f.number ≡ k) (same : k ≡ t.owner.1) (x : Text) (name : field_in w (this_in f) t.field ≡ x) where
    target : target_in w t ≡ this_in f
    target = ap (owner_in w) (sym (is ∙ same) ∙ fits.number) ∙ fits.instance.owner

    named_so : target_name w t ≡ x
    named_so = ap (λ (p : Path). field_in w p t.field) target ∙ name

    pub cell_for_is : (r : Id) → instance_in k (live_of (seen_code (tables_in w) page.code)) ≡ Some (inst_in w f, name_stamps f.args.now) → IsField w f x
        → r.1 ≡ cell_ref (inst_in w f) x → CellFor w page t r
    cell_for_is r found field cell = record {
      inst = inst_in w f;
      args = name_stamps f.args.now;
      found = ap (λ n. instance_in n (live_of (seen_code (tables_in w) page.code))) (sym same) ∙ found;
      field = ap₂ (λ (p : Path) n. member_of (class_in w p) n) target named_so ∙ field;
      cell = cell ∙ ap (cell_ref (inst_in w f)) (sym named_so);
    }
