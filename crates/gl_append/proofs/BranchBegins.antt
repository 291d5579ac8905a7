-- A branch that begins.
use Rattle.std.proofs.Common.{◌≡◌, ℕ, suc, Bool, List, [], ◌∷◌, ◌++◌, sym, ◌∙◌, ap}
use Rattle.std.specs.Prelude.{if◌then◌else◌}
use Rattle.gl_arena.specs.Id.{Id}
use Rattle.gl_meaning.specs.Path.{main, otherwise, Path}
use Rattle.gl_meaning.specs.Scope.{Source}
use Rattle.gl_meaning.specs.Eval.{takes_first}
use Rattle.gl_meaning.specs.View.{path_view}
use Rattle.gl_meaning.specs.declared.path.Path.{Path as CodePath}
use Rattle.gl_plain.specs.Ids.{a_ref, ref}
use Rattle.gl_plain.specs.State.{State, pair_of}
use Rattle.gl_machine.specs.Code as c
use Rattle.gl_machine.specs.Mach.{Mach, Run, going, mach, fresh, next_at, in_branch}
use Rattle.gl_machine.specs.Step as s
use Rattle.gl_vm.specs.View.{Tables, state_of}
use Rattle.gl_vm.specs.Steps.{Does, Numbers}
use Rattle.gl_vm.specs.declared.vm.Vm.{Vm}
use Rattle.gl_code.specs.View.{refs_made, seen_sight}
use Rattle.gl_code.specs.CodeView.{seen_choice}
use Rattle.gl_append.specs.MachineView.{seen_pushed, seen_here, mach_by}
use Rattle.gl_append.specs.Steps.{Changes, Takes, Begins, branch_entered}
use Rattle.gl_code.specs.declared.code.Choice.{Choice}
use Rattle.gl_append.specs.declared.machine.Kind.TheVariants as kind
use Rattle.gl_append.specs.declared.machine.Pushed.{Pushed}
use Rattle.gl_append.specs.declared.machine.Machine.{Machine}
use Rattle.gl_parts.proofs.Leading.{placed_in}

pub branched : (old new : Machine) (choice : Choice) (id : Id) (u : Bool) (path : CodePath) (made none : List Id) (pc : ℕ) → none ≡ [] → made ≡ old.made → pc ≡ (if u then choice.first else choice.second)
    → Begins (record old { made = none; pc = pc }) new path (kind.Branch choice (record { id = id; made = made }) u) → Changes (λ n. branch_entered (seen_choice n choice) id.1 u (path_view path)) old new
branched old new choice id u path made none pc e1 e2 e3 b n st =
    let m = mach_by n st old in
    let g : List Id → List Id → ℕ → Mach = λ x y z. mach m.state m.stack (refs_made x) z (record m.rest { here = fresh (path_view path); frames = m.rest.frames ++ record { here = m.rest.here; kind = in_branch (seen_choice n choice) (record { ref = id.1; made = refs_made y ++ ref id.1 ∷ [] }) u } ∷ [] }) in
    sym (ap (λ x. g x made pc) e1 ∙ (ap (λ y. g [] y pc) e2 ∙ ap (λ z. g [] old.made z) e3)) ∙ sym (b n st)

pub if_begun : (unless u : Bool) (other : ℕ) (vm vm' : Vm) (old new : Machine) (top : Pushed) (id : Id) (choice : Choice) (path : CodePath)
    → Does (λ n. placed_in (top.id.1 ∷ [])) vm vm' → Numbers vm.refs.rows vm'.refs.rows id → ((n : Tables) (t : Source → Bool) → takes_first unless (pair_of (state_of n vm t).look top.id.1).value ≡ u)
    → ((n : Tables) → seen_choice n choice ≡ record { unless = unless; first = suc old.pc; second = other; sight = seen_sight n old.sight }) → ((n : Tables) → path_view path ≡ (if u then main else otherwise) ∷ next_at (seen_here n old.here))
    → Changes (λ n. branch_entered (seen_choice n choice) id.1 u (path_view path)) old new → Takes (λ n m. s.do_if unless other m (m.stack, seen_pushed top)) vm old vm' new
if_begun unless u other vm vm' old new top id choice path d i v z p l n t a =
    let st : State = state_of n vm t in
    let st1 : State = placed_in (top.id.1 ∷ []) st in
    let g : Bool → c.Choice → ℕ → Path → Run = λ b x r q. going (branch_entered x r b q (mach_by n st1 old)) in
    let x : c.Choice = record { unless = unless; first = suc old.pc; second = other; sight = seen_sight n old.sight } in
    record {
      state = st1;
      follows = d n t a;
      goes = ap (λ b. g b x (st.next a_ref) ((if b then main else otherwise) ∷ next_at (seen_here n old.here))) (v n t)
          ∙ (ap (λ y. g u y (st.next a_ref) ((if u then main else otherwise) ∷ next_at (seen_here n old.here))) (sym (z n))
          ∙ (ap (λ r. g u (seen_choice n choice) r ((if u then main else otherwise) ∷ next_at (seen_here n old.here))) (sym i.stamp)
          ∙ (ap (λ q. g u (seen_choice n choice) id.1 q) (sym (p n)) ∙ ap going (l n st1))));
    }
