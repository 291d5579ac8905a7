-- The instance with a number, as the rendering has it.
use Rattle.std.proofs.Common.{◌≡◌, ℕ, Bool, true, false, Option, Some, None, slice_get, refl, sym, ap, subst, ◌∙◌}
use Rattle.std.specs.Prelude.{nat_eq, if◌then◌else◌}
use Rattle.std.proofs.lemmas.Bool.{eqb-true}
use Rattle.gl_base.specs.Names.{or_else}
use Rattle.gl_meaning.specs.Manifest.{Manifest}
use Rattle.gl_meaning.specs.Order.{names_of}
use Rattle.gl_meaning.specs.View.{class_view, manifest_view}
use Rattle.gl_opc.specs.declared.app.App.{App}
use Rattle.gl_plain.specs.State.{Names, Inst}
use Rattle.gl_plain.specs.Live.{Live, still, put_live, element_live, branch_live, listed, unlisted, let_live, component_live, yield_live, deep_live, Items, no_items, item_live, Lives, no_lives, live_and}
use Rattle.gl_machine.specs.Code.{live_of}
use Rattle.gl_machine.specs.Env.{class_or}
use Rattle.gl_vm.specs.View.{name_stamps}
use Rattle.gl_code.specs.View.{seen_owner}
use Rattle.gl_code.specs.CodeView.{seen_code}
use Rattle.gl_code.specs.declared.page.Page.{Page}
use Rattle.gl_actions.specs.World.{World, tables_in}
use Rattle.gl_actions.specs.Frames.{Fits, InstanceRead, inst_in, this_in}
use Rattle.gl_actions.specs.Found.{instance_in, instance_of_items, instance_among}
use Rattle.gl_actions.specs.Reads.{Reads}
use Rattle.gl_actions.specs.Own.{names_in, shown_in, IsOnPage}
use Rattle.gl_actions.specs.Classes.{IsClassOf}
use Rattle.gl_actions.specs.declared.frame.Frame.{Frame}
use Rattle.gl_actions.proofs.ClassLaws.{class_same}
use Rattle.gl_actions.proofs.Values.{no_some, some_same}

abbrev HasId : ℕ → Option (Inst × Names) → Type 0
HasId k o = (z : Inst × Names) → o ≡ Some z → k ≡ z.0.id

either_has : (k : ℕ) (a b : Option (Inst × Names)) → HasId k a → HasId k b → HasId k (or_else a b)
either_has k (Some x) b f g = f
either_has k None b f g = g

this_has : (k : ℕ) (i : Inst) (args : Names) (b : Bool) (o : Option (Inst × Names)) → nat_eq k i.id ≡ b → HasId k o → HasId k (if b then Some (i, args) else o)
this_has k i args true o e f = λ z is. eqb-true k i.id e ∙ ap (λ (y : Inst × Names). y.0.id) (some_same is)
this_has k i args false o e f = f

none_has : (k : ℕ) → HasId k None
none_has k = λ z e. absurd (no_some e)

mutual
  id_in : (k : ℕ) (l : Live) → HasId k (instance_in k l)
  id_in k (still n) = none_has k
  id_in k (put_live n s) = none_has k
  id_in k (element_live n made xs zs ls) = id_among k ls
  id_in k (branch_live s u c ls) = id_among k ls
  id_in k (listed s is) = id_of_items k is
  id_in k (unlisted s c ls) = id_among k ls
  id_in k (let_live made rs ls) = id_among k ls
  id_in k (component_live i made gm args b ls) = this_has k i args (nat_eq k i.id) (instance_among k ls) refl (id_among k ls)
  id_in k (yield_live n made rs ls) = id_among k ls
  id_in k (deep_live p) = none_has k

  id_of_items : (k : ℕ) (is : Items) → HasId k (instance_of_items k is)
  id_of_items k no_items = none_has k
  id_of_items k (item_live s c ls is) = either_has k (instance_among k ls) (instance_of_items k is) (id_among k ls) (id_of_items k is)

  id_among : (k : ℕ) (ls : Lives) → HasId k (instance_among k ls)
  id_among k no_lives = none_has k
  id_among k (live_and l ls) = either_has k (instance_in k l) (instance_among k ls) (id_in k l) (id_among k ls)

pub frame_fits : (a : App) (page : Page) (w : World) → Reads a page w → (f : Frame) → f.vm.now ≡ page.vm
    → Some (inst_in w f, name_stamps f.args.now) ≡ instance_in f.number (live_of (seen_code (tables_in w) page.code))
    → IsClassOf (manifest_view a.manifest) (this_in f) (class_view f.class.now) → slice_get (manifest_view a.manifest).classes f.owner.now.class ≡ Some (class_view f.numbered.now) → Fits w f
frame_fits a page w reads f vm found class numbered =
    let same = class_same w (manifest_view a.manifest) (this_in f) (class_view f.class.now) reads.manifest class in
    record {
      instance = subst (λ x. InstanceRead w x (inst_in w f) (name_stamps f.args.now)) (sym vm) (reads.instances f.number (inst_in w f) (name_stamps f.args.now) (sym found));
      number = id_in f.number (live_of (seen_code (tables_in w) page.code)) (inst_in w f, name_stamps f.args.now) (sym found);
      names = ap (λ (m : Manifest). names_of (class_or (slice_get m.classes f.owner.now.class)).fields) reads.manifest ∙ ap (λ o. names_of (class_or o).fields) numbered;
      fields = same.fields;
      getters = same.getters;
      actions = same.actions;
    }

pub frame_stands : (a : App) (page : Page) (f : Frame) → Some (seen_owner (names_in a) f.owner.now, name_stamps f.args.now) ≡ instance_in f.number (shown_in a page)
    → IsClassOf (manifest_view a.manifest) (this_in f) (class_view f.class.now) → IsOnPage a page f
frame_stands a page f found class = record {
  stands = ap (λ k. instance_in k (shown_in a page)) (sym (id_in f.number (shown_in a page) (seen_owner (names_in a) f.owner.now, name_stamps f.args.now) (sym found))) ∙ sym found;
  class = class;
}
