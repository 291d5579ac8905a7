-- The registers before the first word.
use Rattle.std.proofs.Common.{◌≡◌, List, [], ◌++◌, sym, ◌∙◌, ap}
use Rattle.gl_arena.specs.Id.{Id}
use Rattle.gl_meaning.specs.View.{path_view}
use Rattle.gl_plain.specs.State.{State}
use Rattle.gl_machine.specs.Mach.{Here, Making as PlainMaking, idle, Mach}
use Rattle.gl_vm.specs.View.{Tables, stamps}
use Rattle.gl_code.specs.View.{refs_made, seen_sight}
use Rattle.gl_append.specs.MachineView.{mach_by, seen_stack, seen_list, seen_making, seen_frames, seen_calls}
use Rattle.gl_code.specs.declared.code.Code.{Code}
use Rattle.gl_append.specs.declared.machine.Pushed.{Pushed}
use Rattle.gl_append.specs.declared.machine.Frame.{Frame}
use Rattle.gl_append.specs.declared.machine.Call.{Call}
use Rattle.gl_append.specs.declared.machine.Machine.{Machine}

-- with nothing on its lists
pub first_registers : (n : Tables) (st : State) (a : Machine) → a.stack.items ≡ [] → a.made ≡ [] → a.pending ≡ [] → a.here.codes.items ≡ [] → seen_making n a.making ≡ idle → a.frames.items ≡ [] → a.calls.items ≡ []
    → record {
      state = st;
      stack = [];
      made = [];
      pc = a.pc;
      rest = record { getter = a.getter; sight = seen_sight n a.sight; pending = []; here = record { path = path_view a.here.path; index = a.here.index; codes = [] }; making = idle; left = a.left; frames = [] };
    } ≡ mach_by n st a
first_registers n st a e1 e2 e3 e4 e5 e6 e7 =
    let here : List Code → Here = λ xs. record { path = path_view a.here.path; index = a.here.index; codes = seen_list n xs } in
    let f : List Pushed → List Id → List Id → List Code → PlainMaking → List Frame → List Call → Mach = λ x1 x2 x3 x4 x5 x6 x7.
    record {
      state = st;
      stack = seen_stack x1;
      made = refs_made x2;
      pc = a.pc;
      rest = record { getter = a.getter; sight = seen_sight n a.sight; pending = stamps x3; here = here x4; making = x5; left = a.left; frames = seen_frames n x6 ++ seen_calls n (here x4) x7 };
    } in
    sym (ap (λ x. f x a.made a.pending a.here.codes.items (seen_making n a.making) a.frames.items a.calls.items) e1
    ∙ (ap (λ x. f [] x a.pending a.here.codes.items (seen_making n a.making) a.frames.items a.calls.items) e2
    ∙ (ap (λ x. f [] [] x a.here.codes.items (seen_making n a.making) a.frames.items a.calls.items) e3
    ∙ (ap (λ x. f [] [] [] x (seen_making n a.making) a.frames.items a.calls.items) e4
    ∙ (ap (λ x. f [] [] [] [] x a.frames.items a.calls.items) e5
    ∙ (ap (λ x. f [] [] [] [] idle x a.calls.items) e6
    ∙ ap (λ x. f [] [] [] [] idle [] x) e7))))))
