-- Fields, as they were set last.
use Rattle.std.proofs.Common.{◌≡◌, ℕ, zero, suc, slice_get, Bool, true, false, List, [], ◌∷◌, map, Option, Some, None, option_map, unwrap_or, refl, sym, ap, ap₂, ◌∙◌}
use Rattle.std.specs.Prelude.{◌&&◌, nat_eq, if◌then◌else◌}
use Rattle.std.specs.Str.{bytes_eq}
use Rattle.gl_base.specs.Texts.{Text}
use Rattle.gl_base.specs.Names.{named, at_place, or_else}
use Rattle.gl_value.specs.Value as v
use Rattle.gl_value.specs.Plain.{plain_pair}
use Rattle.gl_value.specs.View.{view, seen_entries}
use Rattle.gl_value.specs.declared.value.Value.{Value}
use Rattle.gl_meaning.specs.App.{App}
use Rattle.gl_meaning.specs.Path.{Path, V, path_eq}
use Rattle.gl_meaning.specs.Eval.{Held, Store, held_at, cell_value}
use Rattle.gl_meaning.specs.Actions.{lay}
use Rattle.gl_meaning.specs.Order.{names_of}
use Rattle.gl_meaning.proofs.Equal.{path_means, path_itself}
use Rattle.gl_plain.specs.State.{cell_ref, named_as}
use Rattle.gl_arena.specs.Id.{Id}
use Rattle.gl_vm.specs.View.{stamps}
use Rattle.std.proofs.lemmas.Bool.{eqb-true, eq-eqb}
use Rattle.gl_actions.specs.View.{seen_set, seen_sets}
use Rattle.gl_actions.specs.World.{World, app_in, owner_in, value_in, read_in, class_in, field_in, set_in, sets_in, store_in}
use Rattle.gl_actions.specs.Frames.{Fits, IsField, inst_in, this_in}
use Rattle.gl_actions.specs.LastSet.{field_names, last_set}
use Rattle.gl_actions.specs.declared.sets.Set.{Set}
use Rattle.gl_actions.specs.declared.frame.Frame.{Frame}
use Rattle.gl_actions.proofs.Renamed.{once_in}

-- The last of several sets

abbrev is_of : Path → Text → Held → Bool
is_of t x h = path_eq t h.instance && bytes_eq x h.field

abbrev last_held : Path → Text → List Held → Option V
last_held t x [] = None
last_held t x (h ∷ hs) = or_else (last_held t x hs) (if is_of t x h then Some h.value else None)

one_more : (b : Bool) (v d : V) (o : Option V) → unwrap_or (if b then Some v else o) d ≡ unwrap_or (if b then Some v else None) (unwrap_or o d)
one_more true v d o = refl
one_more false v d o = refl

joined : (a b : Option V) (d : V) → unwrap_or a (unwrap_or b d) ≡ unwrap_or (or_else a b) d
joined (Some v) b d = refl
joined None b d = refl

laid : (app : App) (σ : Store) (t : Path) (x : Text) (hs : List Held) → cell_value app (lay hs σ) t x ≡ unwrap_or (last_held t x hs) (cell_value app σ t x)
laid app σ t x [] = refl
laid app σ t x (h ∷ hs) =
    let b = is_of t x h in
    laid app (h ∷ σ) t x hs
    ∙ (ap (unwrap_or (last_held t x hs)) (one_more b h.value _ (held_at t x σ)) ∙ joined (last_held t x hs) (if b then Some h.value else None) (cell_value app σ t x))

both_maps : {A B : Type 0} (f : A → B) (a b : Option A) → or_else (option_map f a) (option_map f b) ≡ option_map f (or_else a b)
both_maps f (Some x) b = refl
both_maps f None b = refl

cond_maps : {A B : Type 0} (f : A → B) (b : Bool) (x : A) → (if b then Some (f x) else None) ≡ option_map f (if b then Some x else None)
cond_maps f true x = refl
cond_maps f false x = refl

-- By numbers

module _ (w : World) (k : ℕ) (t : Path) (is : owner_in w k ≡ t) (names : List Text) (fields : names_of (class_in w t).fields ≡ names) (x : Text) where
  abbrev tells : Set → Bool
  tells s = nat_eq k s.owner.1 && bytes_eq x (at_place [] s.field names)

  same_set : (s : Set) → is_of t x (set_in w (seen_set s)) ≡ tells s
  same_set s = by (nat_eq k s.owner.1) refl where
    by : (b : Bool) → nat_eq k s.owner.1 ≡ b → is_of t x (set_in w (seen_set s)) ≡ (b && bytes_eq x (at_place [] s.field names))
    by true e =
        let here : owner_in w s.owner.1 ≡ t = ap (owner_in w) (sym (eqb-true k s.owner.1 e)) ∙ is in
        ap₂ (λ a c. a && c) (ap (path_eq t) here ∙ path_itself t) (ap (λ p. bytes_eq x (field_in w p s.field)) here ∙ ap (λ ns. bytes_eq x (at_place [] s.field ns)) fields)
    by false e = ap (λ a. a && bytes_eq x (field_in w (owner_in w s.owner.1) s.field)) (other (path_eq t (owner_in w s.owner.1)) refl) where
      other : (b : Bool) → path_eq t (owner_in w s.owner.1) ≡ b → b ≡ false
      other false _ = refl
      other true q =
          let same : k ≡ s.owner.1 = once_in w k s.owner.1 (is ∙ path_means t (owner_in w s.owner.1) q) in
          absurd (let n : true ≡ false = sym (eq-eqb k s.owner.1 same) ∙ e in cc)

  last_is : (ss : List Set) → last_held t x (sets_in w (seen_sets ss)) ≡ option_map (value_in w) (last_set k names x ss)
  last_is [] = refl
  last_is (s ∷ ss) =
      ap₂ or_else (last_is ss) (ap (λ b. if b then Some (value_in w (view s.to)) else None) (same_set s) ∙ cond_maps (value_in w) (tells s) (view s.to))
      ∙ both_maps (value_in w) (last_set k names x ss) (if tells s then Some (view s.to) else None)

pub names_alike : (fs : List (Text × Value)) → names_of (map (λ f. let p : Text × v.Value ⊥ = plain_pair f in p) (seen_entries fs)) ≡ field_names fs
names_alike [] = refl
names_alike (f ∷ fs) = ap (λ ns. f.0 ∷ ns) (names_alike fs)

-- A field

module _ (w : World) (f : Frame) (fits : Fits w f) (x : Text) (fs : List (Text × Value)) (these : seen_entries fs ≡ f.class.now.fields) where
  number_is : owner_in w f.number ≡ this_in f
  number_is = ap (owner_in w) fits.number ∙ fits.instance.owner

  pub names_are : names_of (class_in w (this_in f)).fields ≡ field_names fs
  names_are = ap names_of fits.fields ∙ (ap (λ es. names_of (map (λ e. let p : Text × v.Value ⊥ = plain_pair e in p) es)) (sym these) ∙ names_alike fs)

  pub field_is : (ss : List Set) (sets : _) → seen_sets ss ≡ sets → IsField w f x
      → cell_value (app_in w) (store_in w sets) (this_in f) x ≡ unwrap_or (option_map (value_in w) (last_set f.number (field_names fs) x ss)) (read_in w f.vm.now (cell_ref (inst_in w f) x))
  field_is ss sets e field =
      ap (λ xs. cell_value (app_in w) (store_in w xs) (this_in f) x) (sym e)
      ∙ (laid (app_in w) w.store (this_in f) x (sets_in w (seen_sets ss))
      ∙ ap₂ unwrap_or (last_is w f.number (this_in f) number_is (field_names fs) names_are x ss) (sym (fits.instance.cells x field)))

-- whether a set is that of a field
pub tells_is : (k q ow : ℕ) (b : Bool) (fs : List (Text × Value)) (x : Text) (f : Text × Value) → k ≡ ow → Some f ≡ slice_get fs q → b ≡ bytes_eq x f.0 → b ≡ (nat_eq k ow && bytes_eq x (at_place [] q (field_names fs)))
tells_is k q ow b fs x f same is e = e ∙ sym (ap₂ (λ a n. a && bytes_eq x n) (eq-eqb k ow same) (name_is fs q is)) where
  name_is : (gs : List (Text × Value)) (i : ℕ) → Some f ≡ slice_get gs i → at_place [] i (field_names gs) ≡ f.0
  name_is [] i e = absurd (let n : Some f ≡ None = e in cc)
  name_is (g ∷ gs) zero e = ap (λ (o : Option (Text × Value)). (unwrap_or o f).0) (sym e)
  name_is (g ∷ gs) (suc i) e = name_is gs i e

-- the cell of a field, by the class with the instance's number
pub cell_is : (w : World) (f : Frame) → Fits w f → (x : Text) (fs : List (Text × Value)) (ids : List Id) (id : Id) → seen_entries fs ≡ f.numbered.now.fields → ids ≡ f.owner.now.cells
    → Some id.1 ≡ named x (named_as (field_names fs) (stamps ids)) → read_in w f.vm.now id.1 ≡ read_in w f.vm.now (cell_ref (inst_in w f) x)
cell_is w f fits x fs ids id these cells is =
    ap (λ (o : Option ℕ). read_in w f.vm.now (unwrap_or o 0))
    (is
    ∙ ap₂ (λ ns cs. named x (named_as ns (stamps cs)))
    (sym (names_alike fs) ∙ (ap (λ es. names_of (map (λ e. let p : Text × v.Value ⊥ = plain_pair e in p) es)) these ∙ sym fits.names)) cells)
