-- The root that is made.
use Rattle.std.proofs.Common.{◌≡◌, ℕ, List, [], map, Bool, length, Some, sym, ◌∙◌, ap, subst}
use Rattle.std.specs.Prelude.{slice_get}
use Rattle.gl_base.specs.Texts.{Text}
use Rattle.gl_ast.specs.Template.{Plain}
use Rattle.gl_arena.specs.Id.{Id}
use Rattle.gl_meaning.specs.App.{App}
use Rattle.gl_meaning.specs.Eval.{Store, class_at, class_named}
use Rattle.gl_meaning.specs.Manifest.{ClassEntry}
use Rattle.gl_meaning.specs.Order.{names_of, ClassRises}
use Rattle.gl_meaning.specs.Path.{Path, V}
use Rattle.gl_meaning.specs.Scope.{Source}
use Rattle.gl_meaning.specs.View.{path_view, class_view}
use Rattle.gl_meaning.specs.declared.manifest.Class.{Class}
use Rattle.gl_meaning.specs.declared.path.Path.{Path as CodePath}
use Rattle.gl_plain.specs.Ids.{a_ref, an_instance, ref}
use Rattle.gl_plain.specs.Binding.{BoundNames}
use Rattle.gl_plain.specs.State.{Names, named_as, Inst, instance_row, State, make}
use Rattle.gl_plain.specs.Naming.{by_number}
use Rattle.gl_plain.specs.Grow.{grow_cells_as}
use Rattle.gl_machine.specs.Env.{Env, class_no, class_or}
use Rattle.gl_vm.specs.Labels.{all_labelled}
use Rattle.gl_vm.specs.View.{Tables, Agrees, stamps, state_of}
use Rattle.gl_vm.specs.Steps.{Follows, Does}
use Rattle.gl_vm.specs.declared.vm.Vm.{Vm}
use Rattle.gl_code.specs.View.{refs_made, seen_owner}
use Rattle.gl_code.specs.Tables.{tables_of}
use Rattle.gl_code.specs.Cells.{CellList, cells_at, store_of, initial_values}
use Rattle.gl_code.specs.Instances.{cells_laid, numbers_from, Laid, Lays, Suits}
use Rattle.gl_append.specs.Page.{RootThere, MakesRoot}
use Rattle.gl_code.specs.declared.sight.Owner.{Owner}
use Rattle.gl_append.proofs.FieldValues.{class_fields, each_class, fields_begin}
use Rattle.gl_append.proofs.Invocations.{values, state_grown, names_grown, made_grown, refs_stamped, follows_then}

module _ (vm vm1 vm2 : Vm) (class : Class) (cells : CellList) (path : CodePath) (number : ℕ) (ids : List Id) (owner : Owner)
    (top : path_view path ≡ [])
    (lays : Lays (all_labelled (initial_values (cells_at (path_view path) cells) 0 class.fields)) ids vm vm1)
    (instance : Does (λ n. make an_instance (instance_row (record { id = vm1.instances.made; path = path_view path; cells = named_as (n.fields number) (stamps ids) }))) vm1 vm2)
    (seen : (n : Tables) → seen_owner n owner ≡ record { id = vm1.instances.made; path = path_view path; cells = named_as (n.fields number) (stamps ids) })
    (has_cells : owner.cells ≡ ids) where
  module _ (env : Env) (suits : Suits env) (there : slice_get env.manifest.classes number ≡ Some (class_view class)) (rooted : env.app.root ≡ class.name) (touched : Source → Bool) (agrees : Agrees touched vm) where
    abbrev n : Tables
    n = tables_of env.manifest

    is : class_no env number ≡ class_view class
    is = ap class_or there

    abbrev q : Path
    q = path_view path

    abbrev vs : List V
    vs = all_labelled (initial_values (cells_at q cells) 0 class.fields)

    abbrev fs : List (Text × Plain)
    fs = (class_view class).fields

    abbrev st : State
    st = state_of n vm touched

    abbrev store : Store
    store = store_of env.app cells

    abbrev grown : BoundNames
    grown = grow_cells_as by_number env.app store q fs st

    abbrev here : Inst
    here = record { id = vm1.instances.made; path = q; cells = named_as (n.fields number) (stamps ids) }

    held : values env.app store q fs ≡ vs
    held =
        fields_begin env.app q cells class.fields
        (ap (λ p. (class_at env.app p).fields) top
        ∙ (ap (λ x. (class_named x env.app.classes).fields) rooted
        ∙ (ap (λ (a : App). (class_named class.name a.classes).fields) suits.app ∙ class_fields env.manifest.classes suits.templates suits.rise.classes number (class_view class) there)))
        (each_class ClassRises env.manifest.classes suits.rise.each number (class_view class) there).fields

    laid : Laid n vs ids st vm1
    laid = lays n touched agrees

    numbers : stamps ids ≡ numbers_from (st.next a_ref) (length (values env.app store q fs))
    numbers = laid.numbered ∙ ap (λ ws. numbers_from (st.next a_ref) (length ws)) (sym held)

    state_is : grown.state ≡ cells_laid vs st
    state_is = state_grown env.app store q fs st ∙ ap (λ ws. cells_laid ws st) held

    names_are : grown.names ≡ here.cells
    names_are =
        names_grown env.app store q fs st
        ∙ (ap (λ ks. named_as (names_of fs) ks) (sym numbers) ∙ ap (λ (z : ClassEntry). named_as (names_of z.fields) (stamps ids)) (sym is))

    made_are : grown.made ≡ refs_made owner.cells
    made_are = made_grown env.app store q fs st ∙ (ap (map ref) (sym numbers) ∙ (refs_stamped ids ∙ ap refs_made (sym has_cells)))

    -- the same at the empty path, with the fields of the class of that number
    same : grown ≡ grow_cells_as by_number env.app store [] (class_no env number).fields st
    same = ap (λ p. grow_cells_as by_number env.app store p fs st) top ∙ ap (λ (z : ClassEntry). grow_cells_as by_number env.app store [] z.fields st) (sym is)

    -- what is to be made, from what was grown
    abbrev made_of : BoundNames → Inst
    made_of c = record { id = c.state.next an_instance; path = []; cells = c.names }

    here_is : here ≡ made_of grown
    here_is =
        let f : ℕ → Path → Names → Inst = λ k p ns. record { id = k; path = p; cells = ns } in
        ap (λ k. f k q here.cells) (ap (λ (s : State). s.next an_instance) laid.follows.state ∙ ap (λ (s : State). s.next an_instance) (sym state_is))
        ∙ (ap (λ p. f (grown.state.next an_instance) p here.cells) top ∙ ap (λ ns. f (grown.state.next an_instance) [] ns) (sym names_are))

    follows : Follows n (make an_instance (instance_row (made_of grown)) grown.state) vm2
    follows =
        subst (λ s. Follows n (make an_instance (instance_row (made_of grown)) s) vm2) (sym state_is)
        (subst (λ i. Follows n (make an_instance (instance_row i) (cells_laid vs st)) vm2) here_is (follows_then n (make an_instance (instance_row here)) (cells_laid vs st) vm1 vm2 laid.follows (instance n)))

    there_is : RootThere n env store number st vm2 owner
    there_is =
        record {
          inst = made_of grown;
          is = ap made_of same;
          follows = subst (λ c. Follows n (make an_instance (instance_row (made_of grown)) c.state) vm2) same follows;
          seen = seen n ∙ here_is;
          made = sym made_are ∙ ap (λ (c : BoundNames). c.made) same;
        }

  pub root_made : MakesRoot (class_view class) cells number vm vm2 owner
  root_made env suits there rooted touched agrees = there_is env suits there rooted touched agrees
