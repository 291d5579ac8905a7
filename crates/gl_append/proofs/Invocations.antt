-- Components that begin.
use Rattle.std.proofs.Common.{◌≡◌, ℕ, suc, List, [], ◌∷◌, map, Bool, length, Some, refl, sym, ◌∙◌, ap, ap₂, subst}
use Rattle.std.specs.Prelude.{slice_get}
use Rattle.gl_base.specs.Texts.{Text}
use Rattle.gl_ast.specs.Template.{Plain}
use Rattle.gl_arena.specs.Id.{Id}
use Rattle.gl_meaning.specs.App.{App}
use Rattle.gl_meaning.specs.Eval.{Store, class_at, class_named, cell_value}
use Rattle.gl_meaning.specs.Manifest.{ClassEntry}
use Rattle.gl_meaning.specs.Order.{names_of, ClassRises}
use Rattle.gl_meaning.specs.Path.{into, Path, V}
use Rattle.gl_meaning.specs.Scope.{Source}
use Rattle.gl_meaning.specs.View.{path_view, class_view}
use Rattle.gl_meaning.specs.declared.manifest.Class.{Class}
use Rattle.gl_meaning.specs.declared.path.Path.{Path as CodePath}
use Rattle.gl_plain.specs.Ids.{a_ref, an_instance, a_block, ref, Id as PlainId}
use Rattle.gl_plain.specs.State.{Names, named_as, Inst, instance_row, block_row, State, make}
use Rattle.gl_plain.specs.Naming.{by_number, made_source}
use Rattle.gl_plain.specs.Grow.{grow_cells_as}
use Rattle.gl_machine.specs.Env.{Env, class_no, class_or}
use Rattle.gl_machine.specs.Mach.{Run, going, next_at}
use Rattle.gl_machine.specs.Step as s
use Rattle.gl_vm.specs.Labels.{label, all_labelled}
use Rattle.gl_vm.specs.View.{Tables, Agrees, stamps, state_of}
use Rattle.gl_vm.specs.Steps.{Follows, Does, Numbers}
use Rattle.gl_vm.specs.declared.vm.Vm.{Vm}
use Rattle.gl_code.specs.View.{refs_made, seen_owner}
use Rattle.gl_append.specs.MachineView.{seen_here, mach_by, mach_of}
use Rattle.gl_append.specs.Steps.{Changes}
use Rattle.gl_code.specs.Tables.{tables_of}
use Rattle.gl_code.specs.Cells.{CellList, cells_at, store_of, initial_values}
use Rattle.gl_code.specs.Instances.{cells_laid, numbers_from, Laid, Lays, Suits}
use Rattle.gl_append.specs.Components.{component_entered, Invokes}
use Rattle.gl_code.specs.declared.sight.Owner.{Owner}
use Rattle.gl_append.specs.declared.machine.Machine.{Machine}
use Rattle.gl_append.proofs.FieldValues.{class_fields, each_class, fields_begin}

-- The cells of a new instance, as cells that are laid in turn

module _ (app : App) (store : Store) (q : Path) where
  abbrev pub values : List (Text × Plain) → List V
  values fs = map (λ f. cell_value app store q f.0) fs

  pub state_grown : (fs : List (Text × Plain)) (st : State) → (grow_cells_as by_number app store q fs st).state ≡ cells_laid (values fs) st
  state_grown [] st = refl
  state_grown (f ∷ fs) st = state_grown fs (made_source by_number (label (st.next a_ref)) (cell_value app store q f.0) st)

  pub names_grown : (fs : List (Text × Plain)) (st : State) → (grow_cells_as by_number app store q fs st).names ≡ named_as (names_of fs) (numbers_from (st.next a_ref) (length (values fs)))
  names_grown [] st = refl
  names_grown (f ∷ fs) st = ap (λ ns. (f.0, st.next a_ref) ∷ ns) (names_grown fs (made_source by_number (label (st.next a_ref)) (cell_value app store q f.0) st))

  pub made_grown : (fs : List (Text × Plain)) (st : State) → (grow_cells_as by_number app store q fs st).made ≡ map ref (numbers_from (st.next a_ref) (length (values fs)))
  made_grown [] st = refl
  made_grown (f ∷ fs) st = ap (λ ns. ref (st.next a_ref) ∷ ns) (made_grown fs (made_source by_number (label (st.next a_ref)) (cell_value app store q f.0) st))

pub refs_stamped : (ids : List Id) → map ref (stamps ids) ≡ refs_made ids
refs_stamped [] = refl
refs_stamped (i ∷ ids) = ap (λ rs. ref i.1 ∷ rs) (refs_stamped ids)

-- one step after another, from the state before
pub follows_then : (n : Tables) (f : State → State) (st : State) (vm vm' : Vm) → Follows n st vm → ((touched : Source → Bool) → Agrees touched vm → Follows n (f (state_of n vm touched)) vm') → Follows n (f st) vm'
follows_then n f st vm vm' x d = subst (λ r. Follows n (f r) vm') x.state (d st.touched x.agrees)

pub laid_then : (n : Tables) (vs : List V) (ids : List Id) (st : State) (vm vm' : Vm) → Follows n st vm → Lays vs ids vm vm' → Laid n vs ids st vm'
laid_then n vs ids st vm vm' x d = subst (λ r. Laid n vs ids r vm') x.state (d n st.touched x.agrees)

module _ (vm vm1 vm2 vm3 : Vm) (old new : Machine) (class : Class) (cells : CellList) (path : CodePath) (block : Id) (ids : List Id) (owner : Owner)
    (at_path : (n : Tables) → path_view path ≡ into class.name ∷ next_at (seen_here n old.here))
    (passed : Does (λ n. make a_block block_row) vm vm1) (block_is : Numbers vm.scopes vm1.scopes block)
    (lays : Lays (all_labelled (initial_values (cells_at (path_view path) cells) 0 class.fields)) ids vm1 vm2)
    (instance : Does (λ n. make an_instance (instance_row (record { id = vm2.instances.made; path = path_view path; cells = named_as (n.fields old.making.class) (stamps ids) }))) vm2 vm3)
    (seen : (n : Tables) → seen_owner n owner ≡ record { id = vm2.instances.made; path = path_view path; cells = named_as (n.fields old.making.class) (stamps ids) })
    (of_class : owner.class ≡ old.making.class) (has_cells : owner.cells ≡ ids)
    (enters : (left : ℕ) → old.left ≡ suc left → Changes (λ n. component_entered (path_view path) owner.class (seen_owner n owner) block.1 (refs_made owner.cells) left) old new) where
  module _ (env : Env) (suits : Suits env) (there : slice_get env.manifest.classes old.making.class ≡ Some (class_view class)) (left : ℕ) (deep : old.left ≡ suc left) (touched : Source → Bool) (agrees : Agrees touched vm) where
    abbrev n : Tables
    n = tables_of env.manifest

    is : class_no env old.making.class ≡ class_view class
    is = ap class_or there

    abbrev q : Path
    q = path_view path

    abbrev vs : List V
    vs = all_labelled (initial_values (cells_at q cells) 0 class.fields)

    abbrev fs : List (Text × Plain)
    fs = (class_view class).fields

    abbrev st : State
    st = state_of n vm touched

    abbrev st1 : State
    st1 = make a_block block_row st

    abbrev st2 : State
    st2 = cells_laid vs st1

    abbrev st3 : State
    st3 = make an_instance (instance_row (seen_owner n owner)) st2

    abbrev store : Store
    store = store_of env.app cells

    held : values env.app store q fs ≡ vs
    held =
        fields_begin env.app q cells class.fields
        (ap (λ p. (class_at env.app p).fields) (at_path n)
        ∙ (ap (λ (a : App). (class_named class.name a.classes).fields) suits.app ∙ class_fields env.manifest.classes suits.templates suits.rise.classes old.making.class (class_view class) there))
        (each_class ClassRises env.manifest.classes suits.rise.each old.making.class (class_view class) there).fields

    laid : Laid n vs ids st1 vm2
    laid = laid_then n vs ids st1 vm1 vm2 (passed n touched agrees) lays

    follows : Follows n st3 vm3
    follows =
        subst (λ i. Follows n (make an_instance (instance_row i) st2) vm3) (sym (seen n))
        (follows_then n (make an_instance (instance_row (record { id = vm2.instances.made; path = q; cells = named_as (n.fields old.making.class) (stamps ids) }))) st2 vm2 vm3 laid.follows (instance n))

    numbers : stamps ids ≡ numbers_from (st1.next a_ref) (length (values env.app store q fs))
    numbers = laid.numbered ∙ ap (λ ws. numbers_from (st1.next a_ref) (length ws)) (sym held)

    abbrev there_is : Inst
    there_is = record { id = vm2.instances.made; path = q; cells = named_as (n.fields old.making.class) (stamps ids) }

    abbrev to : Path → ℕ → Inst → ℕ → List PlainId → State → Run
    to p c i b cs s = going (component_entered p c i b cs left (mach_by n s old))

    -- with these cells
    abbrev with_cells : Path → State → Names → List PlainId → Run
    with_cells p s ns cs = let i : Inst = record { id = s.next an_instance; path = p; cells = ns } in to p old.making.class i (st.next a_block) cs (make an_instance (instance_row i) s)

    -- at a path, with these fields
    abbrev at_fields : Path → List (Text × Plain) → Run
    at_fields p gs = let c = grow_cells_as by_number env.app store p gs st1 in with_cells p c.state c.names c.made

    state_is : (grow_cells_as by_number env.app store q fs st1).state ≡ st2
    state_is = state_grown env.app store q fs st1 ∙ ap (λ ws. cells_laid ws st1) held

    names_are : (grow_cells_as by_number env.app store q fs st1).names ≡ there_is.cells
    names_are =
        names_grown env.app store q fs st1
        ∙ (ap (λ ks. named_as (names_of fs) ks) (sym numbers) ∙ ap (λ (z : ClassEntry). named_as (names_of z.fields) (stamps ids)) (sym is))

    made_are : (grow_cells_as by_number env.app store q fs st1).made ≡ refs_made owner.cells
    made_are = made_grown env.app store q fs st1 ∙ (ap (map ref) (sym numbers) ∙ (refs_stamped ids ∙ ap refs_made (sym has_cells)))

    next_instance : st2.next an_instance ≡ vm2.instances.made
    next_instance = sym (ap (λ (s : State). s.next an_instance) laid.follows.state)

    goes : s.invoke_below_as by_number env store (mach_of n touched vm old) left ≡ going (mach_by n st3 new)
    goes =
        ap (λ (z : ClassEntry). at_fields (into z.name ∷ next_at (seen_here n old.here)) z.fields) is
        ∙ (ap (λ p. at_fields p fs) (sym (at_path n))
        ∙ (ap (λ s. with_cells q s (grow_cells_as by_number env.app store q fs st1).names (grow_cells_as by_number env.app store q fs st1).made) state_is
        ∙ (ap₂ (λ ns cs. with_cells q st2 ns cs) names_are made_are
        ∙ (ap (λ k. let i : Inst = record { id = k; path = q; cells = there_is.cells } in to q old.making.class i (st.next a_block) (refs_made owner.cells) (make an_instance (instance_row i) st2)) next_instance
        ∙ (ap (λ i. to q old.making.class i (st.next a_block) (refs_made owner.cells) (make an_instance (instance_row i) st2)) (sym (seen n))
        ∙ (ap₂ (λ c b. to q c (seen_owner n owner) b (refs_made owner.cells) st3) (sym of_class) (sym block_is.stamp) ∙ ap going (enters left deep n st3)))))))

  pub invoked : Invokes (class_view class) cells vm old vm3 new
  invoked env suits there left deep touched agrees =
      record { state = st3 env suits there left deep touched agrees; follows = follows env suits there left deep touched agrees; goes = goes env suits there left deep touched agrees }
