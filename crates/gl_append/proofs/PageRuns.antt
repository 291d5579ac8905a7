-- The page, from what was run below its root.
use Rattle.std.proofs.Common.{◌≡◌, ℕ, suc, List, [], ◌∷◌, ◌++◌, Some, None, sym, ◌∙◌, ap, subst}
use Rattle.gl_ast.specs.Template.{Body}
use Rattle.gl_meaning.specs.Eval.{Store}
use Rattle.gl_meaning.specs.Path.{Path}
use Rattle.gl_plain.specs.Ids.{Id, an_instance, instance_id}
use Rattle.gl_plain.specs.Binding.{BoundNames}
use Rattle.gl_plain.specs.Naming.{by_number}
use Rattle.gl_plain.specs.Grow.{grow_cells_as}
use Rattle.gl_plain.specs.State.{Inst, instance_row, State, make}
use Rattle.gl_machine.specs.Code.{Code as PlainCode, Codes as PlainCodes, component_code}
use Rattle.gl_machine.specs.Env.{Env, class_no}
use Rattle.gl_machine.specs.Mach.{Mach, going, finished, too_deep, all_of}
use Rattle.gl_machine.specs.Outcome.{Outcome, ok, deep, on_ok}
use Rattle.gl_machine.specs.RenewCode.{start}
use Rattle.gl_machine.specs.Root.{append_page_as}
use Rattle.gl_machine.specs.Sight.{Sight, sight, not_passed}
use Rattle.gl_meaning.specs.View.{path_view, manifest_view}
use Rattle.gl_meaning.specs.declared.path.Path.{Path as CodePath}
use Rattle.gl_opc.specs.declared.app.App.{App}
use Rattle.gl_vm.specs.View.{Tables, state_of}
use Rattle.gl_vm.specs.Steps.{Follows, empty}
use Rattle.gl_vm.specs.declared.vm.Vm.{Vm}
use Rattle.gl_code.specs.View.{seen_owner, seen_sight}
use Rattle.gl_append.specs.MachineView.{mach_by, mach_of}
use Rattle.gl_code.specs.Cells.{CellList, store_of}
use Rattle.gl_code.specs.Tables.{tables_of, env_of}
use Rattle.gl_append.specs.Stepping.{StopsFor}
use Rattle.gl_append.specs.Page.{RootThere, RootFails, AppendFails}
use Rattle.gl_meaning.specs.Order.{NamesRise}
use Rattle.gl_opc.specs.Numbers.{class_number}
use Rattle.gl_code.specs.declared.fault.VmFault.{VmFault}
use Rattle.gl_code.specs.declared.fault.VmFault.TheVariants as fault
use Rattle.gl_code.specs.declared.sight.Owner.{Owner}
use Rattle.gl_code.specs.declared.sight.Sight.{Sight as CodeSight}
use Rattle.gl_append.specs.declared.machine.Machine.{Machine}
use Rattle.gl_machine.specs.Step.{begun, outcome, after_as, run_for_as}

-- what is run from these registers
pub run_ends : (env : Env) (store : Store) (k : ℕ) (s s' : Sight) (p p' : Path) (left : ℕ) (st : State) (from to : Mach) → begun env store (start s 0 p left) st ≡ going from → s ≡ s' → p ≡ p' → after_as by_number env store k (going from) ≡ finished to
    → run_for_as by_number env store k (start s' 0 p' left) st ≡ ok (all_of to.rest.here.codes, to.state)
run_ends env store k s s' p p' left st from to b e d l =
    sym (ap (λ x. run_for_as by_number env store k (start x 0 p left) st) e ∙ ap (λ y. run_for_as by_number env store k (start s' 0 y left) st) d)
    ∙ (ap (λ r. outcome env store (after_as by_number env store k r)) b ∙ ap (outcome env store) l)

pub run_stops : (env : Env) (store : Store) (k : ℕ) (s s' : Sight) (p p' : Path) (left : ℕ) (st : State) (from : Mach) → begun env store (start s 0 p left) st ≡ going from → s ≡ s' → p ≡ p' → after_as by_number env store k (going from) ≡ too_deep
    → run_for_as by_number env store k (start s' 0 p' left) st ≡ deep
run_stops env store k s s' p p' left st from b e d l =
    sym (ap (λ x. run_for_as by_number env store k (start x 0 p left) st) e ∙ ap (λ y. run_for_as by_number env store k (start s' 0 y left) st) d)
    ∙ (ap (λ r. outcome env store (after_as by_number env store k r)) b ∙ ap (outcome env store) l)

module _ (env : Env) (store : Store) (k q m : ℕ) (st : State) (inst : Inst) where
  abbrev grown : BoundNames
  grown = grow_cells_as by_number env.app store [] (class_no env q).fields st

  abbrev rooted : Inst
  rooted = record { id = grown.state.next an_instance; path = []; cells = grown.names }

  -- what is below an instance
  abbrev below : Inst → Outcome (PlainCodes × State)
  below i = run_for_as by_number env store k (start (sight q i [] [] not_passed) 0 [] m) (make an_instance (instance_row i) grown.state)

  pub page_ends : (codes : PlainCodes) (st' : State) → inst ≡ rooted → below inst ≡ ok (codes, st')
      → append_page_as by_number (suc m) env store (run_for_as by_number env store k) q st ≡ ok (component_code inst (instance_id inst.id ∷ ([] ++ grown.made)) [] [] None codes, st')
  page_ends codes st' e l =
      let whole : Inst → Outcome (PlainCodes × State) → Outcome (PlainCode × State) = λ i o. on_ok o (λ r. ok (component_code i (instance_id i.id ∷ ([] ++ grown.made)) [] [] None r.0, r.1)) in
      ap (λ i. whole i (below i)) (sym e) ∙ ap (whole inst) l

  pub page_stops : inst ≡ rooted → below inst ≡ deep → append_page_as by_number (suc m) env store (run_for_as by_number env store k) q st ≡ deep
  page_stops e l =
      let whole : Inst → Outcome (PlainCodes × State) → Outcome (PlainCode × State) = λ i o. on_ok o (λ r. ok (component_code i (instance_id i.id ∷ ([] ++ grown.made)) [] [] None r.0, r.1)) in
      ap (λ i. whole i (below i)) (sym e) ∙ ap (whole inst) l

-- the page, in terms of the root that is kept
pub page_of : (env : Env) (store : Store) (k q m : ℕ) (st0 st1 : State) (inst own : Inst) (class : ℕ) (made : List Id) (codes : PlainCodes) (st' : State) (c : PlainCode)
    → st0 ≡ empty → inst ≡ rooted env store k q m st0 inst → class ≡ q → own ≡ inst → st1 ≡ make an_instance (instance_row inst) (grown env store k q m st0 inst).state → made ≡ (grown env store k q m st0 inst).made
    → run_for_as by_number env store k (start (sight class own [] [] not_passed) 0 [] m) st1 ≡ ok (codes, st') → c ≡ component_code own (instance_id own.id ∷ ([] ++ made)) [] [] None codes
    → append_page_as by_number (suc m) env store (run_for_as by_number env store k) q empty ≡ ok (c, st')
page_of env store k q m st0 st1 inst own class made codes st' c e1 e2 e3 e4 e5 e6 l r =
    let f : ℕ → Inst → State → Outcome (PlainCodes × State) = λ j i s. run_for_as by_number env store k (start (sight j i [] [] not_passed) 0 [] m) s in
    let g : Inst → List Id → PlainCode = λ i xs. component_code i (instance_id i.id ∷ ([] ++ xs)) [] [] None codes in
    ap (λ s. append_page_as by_number (suc m) env store (run_for_as by_number env store k) q s) (sym e1)
    ∙ (page_ends env store k q m st0 inst codes st' e2
    (sym (ap (λ j. f j own st1) e3 ∙ (ap (λ i. f q i st1) e4 ∙ ap (λ s. f q inst s) e5)) ∙ l)
    ∙ ap (λ x. ok (x, st')) (sym (r ∙ (ap (λ i. g i made) e4 ∙ ap (g inst) e6))))

pub page_fails : (env : Env) (store : Store) (k q m : ℕ) (st0 st1 : State) (inst own : Inst) (class : ℕ)
    → st0 ≡ empty → inst ≡ rooted env store k q m st0 inst → class ≡ q → own ≡ inst → st1 ≡ make an_instance (instance_row inst) (grown env store k q m st0 inst).state
    → run_for_as by_number env store k (start (sight class own [] [] not_passed) 0 [] m) st1 ≡ deep
    → append_page_as by_number (suc m) env store (run_for_as by_number env store k) q empty ≡ deep
page_fails env store k q m st0 st1 inst own class e1 e2 e3 e4 e5 l =
    let f : ℕ → Inst → State → Outcome (PlainCodes × State) = λ j i s. run_for_as by_number env store k (start (sight j i [] [] not_passed) 0 [] m) s in
    ap (λ s. append_page_as by_number (suc m) env store (run_for_as by_number env store k) q s) (sym e1)
    ∙ page_stops env store k q m st0 inst e2 (sym (ap (λ j. f j own st1) e3 ∙ (ap (λ i. f q i st1) e4 ∙ ap (λ s. f q inst s) e5)) ∙ l)

-- A fault below the root
pub root_fails : (a : App) (cells : CellList) (vm : Vm) (from : Machine) (owner : Owner) (seen : CodeSight) (path : CodePath) (left : ℕ)
    → ((env : Env) (store : Store) (n : Tables) (st : State) → begun env store (start (seen_sight n seen) 0 (path_view path) left) st ≡ going (mach_by n st from))
    → ((n : Tables) → seen_sight n seen ≡ sight owner.class (seen_owner n owner) [] [] not_passed) → path_view path ≡ [] → (e : VmFault) → StopsFor a cells vm from e → RootFails a cells owner left vm e
root_fails a cells vm from owner seen path left b e d fault.Memory s = tt
root_fails a cells vm from owner seen path left b e d fault.NestingLimit s = λ ts rise u agrees.
    let env = env_of a ts in
    let store = store_of env.app cells in
    let n = tables_of (manifest_view a.manifest) in
    let x = s ts rise u agrees in
    (x.0, run_stops env store x.0 (seen_sight n seen) (sight owner.class (seen_owner n owner) [] [] not_passed) (path_view path) [] left (state_of n vm u) (mach_of n u vm from) (b env store n (state_of n vm u)) (e n) d x.1)

-- A fault of the page
pub page_stopped : (a : App) (cells : CellList) (owner : Owner) (left : ℕ) (vm0 vm1 : Vm) (number : ℕ) (e : VmFault) → RootFails a cells owner left vm1 e
    → a.manifest.limit ≡ suc left → class_number (manifest_view a.manifest) a.manifest.root ≡ Some number → owner.class ≡ number
    → ((ts : List Body) → NamesRise (manifest_view a.manifest) → let env = env_of a ts in let n = tables_of (manifest_view a.manifest) in Follows n empty vm0 × RootThere n env (store_of env.app cells) number (state_of n vm0 empty.touched) vm1 owner)
    → AppendFails a cells e
page_stopped a cells owner left vm0 vm1 number fault.Memory s l k c r = tt
page_stopped a cells owner left vm0 vm1 number fault.NestingLimit s l k c r = λ ts rise.
    let env = env_of a ts in
    let store = store_of env.app cells in
    let n = tables_of (manifest_view a.manifest) in
    let y = r ts rise in
    let now : State = make an_instance (instance_row y.1.inst) (grow_cells_as by_number env.app store [] (class_no env number).fields (state_of n vm0 empty.touched)).state in
    let x = s ts rise now.touched y.1.follows.agrees in
    record {
      root = number;
      numbered = k;
      steps = x.0;
      is = subst (λ j. append_page_as by_number j env store (run_for_as by_number env store x.0) number empty ≡ deep) (sym l)
          (page_fails env store x.0 number left (state_of n vm0 empty.touched) (state_of n vm1 now.touched) y.1.inst (seen_owner n owner) owner.class y.0.state y.1.is c y.1.seen y.1.follows.state x.1);
    }
