-- Comments where what was rendered has no node, and what is rendered where a body ends.
use Rattle.std.proofs.Common.{◌≡◌, ℕ, Bool, [], Option, sym, ◌∙◌, ap}
use Rattle.gl_arena.specs.Id.{Id}
use Rattle.gl_meaning.specs.Scope.{Source}
use Rattle.gl_plain.specs.State.{State}
use Rattle.gl_machine.specs.Code as c
use Rattle.gl_machine.specs.Mach.{going, Run}
use Rattle.gl_machine.specs.RenewCode.{CodeArm, commented}
use Rattle.gl_machine.specs.Step as s
use Rattle.gl_vm.specs.View.{Tables, state_of, Agrees}
use Rattle.gl_vm.specs.declared.vm.Vm.{Vm}
use Rattle.gl_code.specs.CodeView.{seen_choice, seen_spot, stamp_of, seen_code, seen_codes}
use Rattle.gl_append.specs.MachineView.{seen_here, mach_by, mach_of}
use Rattle.gl_append.specs.Steps.{Moves, Ends, GoesOn, EndsFrame}
use Rattle.gl_code.specs.Comments.{Commented}
use Rattle.gl_code.specs.declared.code.Choice.{Choice}
use Rattle.gl_code.specs.declared.code.Spot.{Spot}
use Rattle.gl_code.specs.declared.code.Code.{Code}
use Rattle.gl_code.specs.declared.code.Codes.{Codes}
use Rattle.gl_append.specs.declared.machine.Here.{Here}
use Rattle.gl_append.specs.declared.machine.Kind.TheVariants as kind
use Rattle.gl_append.specs.declared.machine.Machine.{Machine}

-- What is rendered of a statement of which the body ended.
pub shown_in : (old mid new : Machine) (here : Here) (body : Codes) (code : Code) → old.calls.items ≡ [] → Ends old mid here body → Moves (λ n m. s.show (seen_code n code, m.state) m) mid new
    → (n : Tables) (st : State) → s.leave (mach_by n st old).rest.frames (seen_here n here) (seen_code n code, st) (mach_by n st old) ≡ going (mach_by n st new)
shown_in old mid new here body code none ends shown n st = ap (λ y. s.show (seen_code n code, st) y) (sym (ends.1 none n st)) ∙ shown n st

-- the same of a body that has got its comment
pub arm_shown : (f : Tables → Option ℕ → c.Codes → c.Code) (vm vm' : Vm) (old mid new : Machine) (k : Option Id) (here : Here) (body : Codes) (code : Code) → old.calls.items ≡ [] → Ends old mid here body
    → ((n : Tables) (t : Source → Bool) → Agrees t vm → Commented n (seen_codes n body, state_of n vm t) vm' k) → ((n : Tables) → seen_code n code ≡ f n (stamp_of k) (seen_codes n body))
    → Moves (λ n m. s.show (seen_code n code, m.state) m) mid new → (n : Tables) (t : Source → Bool) → Agrees t vm
    → GoesOn n (let m = mach_of n t vm old in let a = commented (s.made_here m) in s.leave m.rest.frames (seen_here n here) (f n a.comment a.codes, a.state) m) vm' new
arm_shown f vm vm' old mid new k here body code none ends got is shown n t a =
    let m = mach_of n t vm old in
    let w = got n t a in
    let g : CodeArm → Run = λ x. s.leave m.rest.frames (seen_here n here) (f n x.comment x.codes, x.state) m in
    record {
      state = w.state;
      follows = w.follows;
      goes = ap (λ cs. g (commented (cs, m.state))) (sym (ends.0 n)) ∙ (ap g w.is ∙ (ap (λ b. s.leave m.rest.frames (seen_here n here) (b, w.state) m) (sym (is n)) ∙ shown_in old mid new here body code none ends shown n w.state));
    }

pub branch_ended : (vm vm' : Vm) (old mid new : Machine) (choice : Choice) (spot : Spot) (u : Bool) (k : Option Id) (here : Here) (body : Codes) (code : Code) → old.calls.items ≡ [] → Ends old mid here body
    → ((n : Tables) (t : Source → Bool) → Agrees t vm → Commented n (seen_codes n body, state_of n vm t) vm' k)
    → ((n : Tables) → seen_code n code ≡ c.branch_code (seen_choice n choice) (seen_spot spot) u (stamp_of k) (seen_codes n body)) → Moves (λ n m. s.show (seen_code n code, m.state) m) mid new
    → EndsFrame (λ n. s.do_end_if) vm old (record { here = here; kind = kind.Branch choice spot u }) vm' new
branch_ended vm vm' old mid new choice spot u k here body code = arm_shown (λ n x cs. c.branch_code (seen_choice n choice) (seen_spot spot) u x cs) vm vm' old mid new k here body code
