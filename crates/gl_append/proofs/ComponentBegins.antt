-- The registers of a component that begins.
use Rattle.std.proofs.Common.{◌≡◌, ℕ, suc, List, [], ◌∷◌, ◌++◌, None, sym, ◌∙◌, ap, subst}
use Rattle.std.specs.declared.rc.Rc.{Rc}
use Rattle.std.specs.declared.alloc.Global.{Global}
use Rattle.gl_base.specs.Texts.{Text}
use Rattle.gl_arena.specs.Id.{Id}
use Rattle.gl_meaning.specs.View.{path_view}
use Rattle.gl_meaning.specs.declared.path.Path.{Path as CodePath}
use Rattle.gl_plain.specs.State.{Names}
use Rattle.gl_machine.specs.Mach.{Back as PlainBack, Making as PlainMaking, Mach, mach, fresh, idle}
use Rattle.gl_machine.specs.Sight.{Sight as PlainSight, sight, Passing, passing}
use Rattle.gl_vm.specs.View.{Tables, stamps, name_stamps}
use Rattle.gl_code.specs.View.{refs_made, seen_owner, seen_level, seen_links, seen_sight, seen_slots, shared}
use Rattle.gl_append.specs.MachineView.{seen_back, seen_making, mach_by}
use Rattle.gl_append.specs.Steps.{Changes, Begins, LeavesFor}
use Rattle.gl_append.specs.Components.{component_kind, program_entered, component_entered}
use Rattle.gl_code.specs.declared.sight.Owner.{Owner}
use Rattle.gl_code.specs.declared.sight.Sight.{Sight}
use Rattle.gl_append.specs.declared.machine.Back.{Back}
use Rattle.gl_append.specs.declared.machine.Making.{Making}
use Rattle.gl_append.specs.declared.machine.Kind.TheVariants as kind
use Rattle.gl_append.specs.declared.machine.Machine.{Machine}

module _ (old : Machine) (back : Back) (w : Sight) (owner : Rc Owner Global) (args : Rc (List (Text × Id)) Global) (block : Id) (path : CodePath) (new : Machine) (none pending made : List Id) (left : ℕ) where
  begun : ((n : Tables) → seen_back n back ≡ record { getter = old.getter; pc = suc old.pc; sight = seen_sight n old.sight; pending = stamps old.pending }) → none ≡ [] → pending ≡ [] → made ≡ old.made
      → Begins (record old { pc = 0; getter = None; sight = w; pending = pending; left = left; made = none }) new path (kind.Component back owner block made args)
      → Changes (λ n. program_entered (seen_sight n w) (path_view path) (seen_owner n owner.value) block.1 (refs_made owner.value.cells) (name_stamps args.value) left) old new
  begun l e1 e2 e3 b n st =
      let m = mach_by n st old in
      let way : PlainBack = record { getter = old.getter; pc = suc old.pc; sight = seen_sight n old.sight; pending = stamps old.pending } in
      let g : List Id → List Id → PlainBack → List Id → Mach
      = λ x p y z. mach m.state m.stack (refs_made x) 0 (record m.rest {
        getter = None;
        sight = seen_sight n w;
        pending = stamps p;
        here = fresh (path_view path);
        left = left;
        frames = m.rest.frames ++ record { here = m.rest.here; kind = component_kind y (seen_owner n owner.value) block.1 (refs_made z) (refs_made owner.value.cells) (name_stamps args.value) } ∷ [];
      }) in
      sym (b n st ∙ (ap (λ x. g x pending (seen_back n back) made) e1 ∙ (ap (λ p. g [] p (seen_back n back) made) e2 ∙ (ap (λ y. g [] [] y made) (l n) ∙ ap (λ z. g [] [] way z) e3))))

  one_fewer : (k : ℕ) → old.left ≡ suc left → old.left ≡ suc k → left ≡ k
  one_fewer k e f = let g : suc left ≡ suc k = sym e ∙ f in cc

  pub program_begun : (adv : Machine) → LeavesFor old adv back w → none ≡ [] → pending ≡ [] → made ≡ adv.made → adv.left ≡ suc left
      → Begins (record adv { pc = 0; getter = None; pending = pending; left = left; made = none }) new path (kind.Component back owner block made args)
      → (k : ℕ) → old.left ≡ suc k → Changes (λ n. program_entered (seen_sight n w) (path_view path) (seen_owner n owner.value) block.1 (refs_made owner.value.cells) (name_stamps args.value) k) old new
  program_begun adv l e1 e2 =
      subst (λ (a : Machine). made ≡ a.made → a.left ≡ suc left → Begins (record a { pc = 0; getter = None; pending = pending; left = left; made = none }) new path (kind.Component back owner block made args)
      → (k : ℕ) → old.left ≡ suc k → Changes (λ n. program_entered (seen_sight n w) (path_view path) (seen_owner n owner.value) block.1 (refs_made owner.value.cells) (name_stamps args.value) k) old new) (sym l.is)
      (λ e3 e4 b k e5. subst (λ j. Changes (λ n. program_entered (seen_sight n w) (path_view path) (seen_owner n owner.value) block.1 (refs_made owner.value.cells) (name_stamps args.value) j) old new) (one_fewer k e4 e5)
      (begun l.goes_back e1 e2 e3 b))

-- with a tag that is taken
pub tag_taken : (old new : Machine) (making ended : Making) (w : Sight) (owner : Owner) (block : Id) (args : List (Text × Id)) (path : CodePath) (left : ℕ) → ended ≡ old.making → ((n : Tables) → seen_making n making ≡ idle)
    → args ≡ ended.args → ((n : Tables) (p : Passing) → seen_level n w.level p ≡ sight owner.class (seen_owner n owner) (name_stamps args) [] p)
    → ((n : Tables) → seen_links n (shared w.chain.items) ≡ passing block.1 ended.start (seen_slots ended.slots.items) (seen_sight n old.sight))
    → Changes (λ n. program_entered (seen_sight n w) (path_view path) (seen_owner n owner) block.1 (refs_made owner.cells) (name_stamps args) left) (record old { making = making }) new
    → Changes (λ n. component_entered (path_view path) owner.class (seen_owner n owner) block.1 (refs_made owner.cells) left) old new
tag_taken old new making ended w owner block args path left e0 e1 e2 e3 e4 x n st =
    let m = mach_by n st old in
    let g : PlainSight → Names → PlainMaking → Mach
    = λ v xs k. program_entered v (path_view path) (seen_owner n owner) block.1 (refs_made owner.cells) xs left (record m { rest = record m.rest { making = k } }) in
    let h : Names → Passing → PlainSight = λ xs p. sight owner.class (seen_owner n owner) xs [] p in
    let there : Passing = passing block.1 ended.start (seen_slots ended.slots.items) (seen_sight n old.sight) in
    let args_are : name_stamps old.making.args ≡ name_stamps args = ap name_stamps (sym (e2 ∙ ap (λ (k : Making). k.args) e0)) in
    let seen : h (name_stamps args) there ≡ seen_sight n w = ap (h (name_stamps args)) (sym (e4 n)) ∙ sym (e3 n (seen_links n (shared w.chain.items))) in
    ap (λ (k : Making). g (h (name_stamps old.making.args) (passing block.1 k.start (seen_slots k.slots.items) (seen_sight n old.sight))) (name_stamps old.making.args) idle) (sym e0)
    ∙ (ap (λ xs. g (h xs there) xs idle) args_are
    ∙ (ap (λ v. g v (name_stamps args) idle) seen
    ∙ (ap (λ k. g (seen_sight n w) (name_stamps args) k) (sym (e1 n)) ∙ x n st)))
