-- What actions set is the page's own.
use Rattle.std.proofs.Common.{◌≡◌, ◌<◌, ◌+◌, ℕ, zero, suc, List, [], ◌∷◌, map, length, Bool, true, false, Option, Some, None, refl, sym, ap, ap₂, ◌∙◌, subst, arith}
use Rattle.std.specs.Prelude.{if◌then◌else◌}
use Rattle.std.specs.Str.{bytes_eq}
use Rattle.gl_base.specs.Texts.{Text}
use Rattle.gl_base.specs.Names.{named, at_place}
use Rattle.gl_value.specs.Value.{plain}
use Rattle.gl_value.specs.Owners.{with_owners}
use Rattle.gl_ast.specs.Template.{Body}
use Rattle.gl_meaning.specs.App.{Class}
use Rattle.gl_meaning.specs.Path.{Path, V}
use Rattle.gl_meaning.specs.Eval.{Held, class_at, field_member, field_or, getter_or_action, member_of}
use Rattle.gl_meaning.specs.Known.{Among}
use Rattle.gl_meaning.specs.Order.{names_of}
use Rattle.gl_meaning.specs.Session as session
use Rattle.gl_meaning.specs.View.{manifest_view}
use Rattle.gl_meaning.proofs.Equal.{text_itself}
use Rattle.gl_opc.specs.declared.app.App.{App}
use Rattle.gl_naming.specs.Ties.{numbers, owner_key, owners_in}
use Rattle.gl_follows.specs.Sets.{held_of, AreOwn}
use Rattle.gl_vm.specs.Labels.{owner_path, labelled}
use Rattle.gl_code.specs.Tables.{env_of}
use Rattle.gl_code.specs.declared.page.Page.{Page}
use Rattle.gl_actions.specs.Sets.{Set}
use Rattle.gl_actions.specs.World.{World, app_in, owner_in, value_in, field_in, class_in, set_in, sets_in}
use Rattle.gl_actions.specs.Own.{shown_in, IsOwnSet, AreOwnSets}
use Rattle.gl_actions.proofs.ClassLaws.{class_same}
use Rattle.gl_actions.proofs.Renamed.{plain-to}
use Rattle.gl_standing.specs.Standing.{StandsIn}
use Rattle.gl_fires.specs.Worlds.{world_of, put_of, puts_of}
use Rattle.gl_fires.specs.Laws.{SetsAreOwn}
use Rattle.gl_fires.proofs.Standing.{instance_is}

-- the name at a place of the fields is a field
field_there : {A : Type 0} (c : Class) (fs : List (Text × A)) (q : ℕ) → q < length fs → (m : _) → field_or (named (at_place [] q (names_of fs)) fs) m ≡ field_member
field_there c [] q lt m = absurd (omega (arith, lt))
field_there c (f ∷ fs) zero lt m = ap (λ b. field_or (if b then Some f.1 else named f.0 fs) m) (text_itself f.0)
field_there c (f ∷ fs) (suc q) lt m = by (bytes_eq (at_place [] q (names_of fs)) f.0) (field_there c fs q (omega (arith, lt)) m) where
  by : (b : Bool) → field_or (named (at_place [] q (names_of fs)) fs) m ≡ field_member → field_or (if b then Some f.1 else named (at_place [] q (names_of fs)) fs) m ≡ field_member
  by true e = refl
  by false e = e

module _ (a : App) (templates : List Body) (page : Page) (s : session.State) (x : StandsIn a templates page s) where
  abbrev w : World
  w = world_of a templates page s x

  among_own : (z : Set) → IsOwnSet a page z → Among z.owner.1 (numbers (owners_in (shown_in a page)))
  among_own z own = let h = instance_is a templates page s x z.owner.1 own.inst own.args own.stands in subst (λ k. Among k (numbers (owners_in (shown_in a page)))) h.id h.among

  path_own : (z : Set) (own : IsOwnSet a page z) → owner_in w z.owner.1 ≡ own.inst.path
  path_own z own = let h = instance_is a templates page s x z.owner.1 own.inst own.args own.stands in ap (owner_in w) (sym h.id) ∙ h.named

  member_own : (z : Set) → IsOwnSet a page z → member_of (class_in w (owner_in w z.owner.1)) (field_in w (owner_in w z.owner.1) z.field) ≡ field_member
  member_own z own =
      let same = class_same w (manifest_view a.manifest) own.inst.path own.class refl own.is in
      let c = class_in w own.inst.path in
      ap (λ (p : Path). member_of (class_in w p) (field_in w p z.field)) (path_own z own)
      ∙ field_there c c.fields z.field (subst (λ n. z.field < n) (sym (ap length same.fields)) own.field) (getter_or_action (named (field_in w own.inst.path z.field) c.getters))

  set_same : (z : Set) → IsOwnSet a page z → held_of x.follows.named.owner (put_of w z) ≡ set_in w z
  set_same z own =
      let e : labelled z.to ≡ value_in w z.to = ap labelled own.plainly ∙ (plain-to owner_path own.given ∙ sym (ap (value_in w) own.plainly ∙ plain-to (owner_in w) own.given)) in
      ap (λ (v : V). let h : Held = record { instance = owner_in w z.owner.1; field = field_in w (owner_in w z.owner.1) z.field; value = v } in h) e

  sets_own : (sets : List Set) → AreOwnSets a page sets → AreOwn (env_of a templates).app x.follows.named.owner (shown_in a page) (puts_of w sets) × (map (held_of x.follows.named.owner) (puts_of w sets) ≡ sets_in w sets)
  sets_own [] own = (tt, refl)
  sets_own (z ∷ sets) own = let rest = sets_own sets own.1 in ((among_own z own.0, member_own z own.0, rest.0), ap₂ (λ h hs. h ∷ hs) (set_same z own.0) rest.1)

pub sets_are_own : SetsAreOwn
sets_are_own a templates page s x sets own = sets_own a templates page s x sets own
