-- What a step of the code does.
use Rattle.std.specs.Prelude.{◌≡◌, if◌then◌else◌, ℕ, suc, List, [], ◌∷◌, ◌++◌, Bool, true, false, Option, Some, None}
use Rattle.gl_meaning.specs.Scope.{Source}
use Rattle.gl_arena.specs.Id.{Id}
use Rattle.gl_plain.specs.Ids.{ref}
use Rattle.gl_plain.specs.State.{State}
use Rattle.gl_machine.specs.Mach.{Frame as PlainFrame, Here as PlainHere, Kind as PlainKind, Mach, Run, going, go, mach, fresh, all_of, in_let, in_branch}
use Rattle.gl_machine.specs.Code.{Choice as PlainChoice}
use Rattle.gl_machine.specs.Sight.{Sight as PlainSight}
use Rattle.gl_meaning.specs.Path.{Path as PlainPath}
use Rattle.gl_machine.specs.Step.{popped, with_made, unless_parts}
use Rattle.gl_vm.specs.View.{Tables, Agrees, stamps}
use Rattle.gl_vm.specs.Steps.{Follows}
use Rattle.gl_vm.specs.declared.vm.Vm.{Vm}
use Rattle.gl_code.specs.View.{seen_sight}
use Rattle.gl_append.specs.MachineView.{mach_by, mach_of, seen_back, seen_here, seen_kind, call_kind, seen_frame}
use Rattle.gl_code.specs.CodeView.{seen_codes}
use Rattle.gl_code.specs.declared.code.Codes.{Codes}
use Rattle.gl_append.specs.declared.machine.Frame.{Frame}
use Rattle.gl_append.specs.declared.machine.Here.{Here}
use Rattle.gl_append.specs.declared.machine.Kind.{Kind}
use Rattle.gl_meaning.specs.View.{path_view}
use Rattle.gl_meaning.specs.declared.path.Path.{Path}
use Rattle.gl_append.specs.declared.machine.Back.{Back}
use Rattle.gl_append.specs.declared.machine.Call.{Call}
use Rattle.gl_code.specs.declared.sight.Sight.{Sight}
use Rattle.gl_append.specs.declared.machine.Machine.{Machine}

-- a reference that was made is pushed, and is the present statement's own
abbrev pub pushed_made : ℕ → Mach → Run
pushed_made r m = go m.state (m.stack ++ (None, r) ∷ []) (m.made ++ ref r ∷ []) (suc m.pc) m.rest

-- only registers change, whatever is kept
abbrev pub Moves : (Tables → Mach → Run) → Machine → Machine → Type 0
Moves f old new = (n : Tables) (st : State) → f n (mach_by n st old) ≡ going (mach_by n st new)

-- registers become these, whatever is kept
abbrev pub Changes : (Tables → Mach → Mach) → Machine → Machine → Type 0
Changes h old new = (n : Tables) (st : State) → h n (mach_by n st old) ≡ mach_by n st new

-- The run goes on with these registers and with what is kept.
pub record GoesOn (n : Tables) (r : Run) (vm : Vm) (new : Machine) : Type 0 where
  pub state : State
  pub follows : Follows n state vm
  pub goes : r ≡ going (mach_by n state new)

-- The code does this step of the machine, whichever sources were touched, and whatever the manifest's names are.
abbrev pub Takes : (Tables → Mach → Run) → Vm → Machine → Vm → Machine → Type 0
Takes f vm old vm' new = (n : Tables) (touched : Source → Bool) → Agrees touched vm → GoesOn n (f n (mach_of n touched vm old)) vm' new

-- The scope is another one, and the way back leads behind the present word.
pub record LeavesFor (old new : Machine) (back : Back) (sight : Sight) : Type 0 where
  pub is : new ≡ record old { pc = suc old.pc; sight = sight }
  pub goes_back : (n : Tables) → seen_back n back ≡ record { getter = old.getter; pc = suc old.pc; sight = seen_sight n old.sight; pending = stamps old.pending }

-- It goes on where the way back leads.
pub record GoesBack (old new : Machine) (back : Back) : Type 0 where
  pub is : new ≡ record old { getter = back.getter; pc = back.pc; sight = back.sight; pending = back.pending }

-- The last call was taken, or there was none.
abbrev pub PopsCall : Machine → Machine → Option Call → Type 0
PopsCall old new None = (new ≡ record old { calls = new.calls }) × (old.calls.items ≡ []) × (new.calls.items ≡ [])
PopsCall old new (Some c) = (new ≡ record old { calls = new.calls }) × (old.calls.items ≡ new.calls.items ++ c ∷ [])

-- It is gone on behind `...attributes`, where the words of its parts were run; else nothing changes, and other words may come.
abbrev pub EndsParts : Machine → Machine → Bool → Type 0
EndsParts old new true = (n : Tables) (st : State) (r : Run) → unless_parts (mach_by n st old) (popped (mach_by n st old).rest.frames) r ≡ going (mach_by n st new)
EndsParts old new false = (new ≡ old) × ((n : Tables) (st : State) (r : Run) → unless_parts (mach_by n st old) (popped (mach_by n st old).rest.frames) r ≡ r)

-- the machine with these frames
abbrev pub mach_back : Tables → State → List PlainFrame → Machine → Mach
mach_back n st fs a = let m = mach_by n st a in record m { rest = record m.rest { frames = fs } }

-- A body begins at a path: the one round it waits in a frame.
abbrev pub Begins : Machine → Machine → Path → Kind → Type 0
Begins old new path kind =
    (n : Tables) (st : State)
    → mach_by n st new ≡ (let m = mach_by n st old in record m { rest = record m.rest { here = fresh (path_view path); frames = m.rest.frames ++ record { here = m.rest.here; kind = seen_kind n kind } ∷ [] } })

-- A body ends where no call is under way: the one round it is gone on with.
abbrev pub Ends : Machine → Machine → Here → Codes → Type 0
Ends old new here codes =
    ((n : Tables) → seen_codes n codes ≡ all_of (seen_here n old.here).codes)
    × (old.calls.items ≡ [] → (n : Tables) (st : State) → mach_by n st new ≡ (let m = mach_by n st old in record m { rest = record m.rest { here = seen_here n here } }))
    × (new.calls ≡ old.calls)

-- The last frame was taken, or there was none; no call is under way.
abbrev pub PopsFrame : Machine → Machine → Option Frame → Type 0
PopsFrame old new None = (old.calls.items ≡ []) × ((n : Tables) (st : State) → popped (mach_by n st old).rest.frames ≡ None) × ((n : Tables) (st : State) → mach_by n st new ≡ mach_by n st old)
PopsFrame old new (Some f) =
    (old.calls.items ≡ []) × (new.calls ≡ old.calls)
    × ((n : Tables) (st : State) → popped (mach_by n st old).rest.frames ≡ Some ((mach_by n st new).rest.frames, seen_frame n f))
    × ((n : Tables) (st : State) → mach_by n st new ≡ (let m = mach_by n st old in record m { rest = record m.rest { frames = (mach_by n st new).rest.frames } }))

-- The first of a list was taken, or there was none.
abbrev pub TakesFirst : List Id → List Id → Option Id → Type 0
TakesFirst old new None = (old ≡ []) × (new ≡ [])
TakesFirst old new (Some i) = old ≡ i ∷ new

-- the body of a `let` is begun at a path, with these references for its parameters
abbrev pub let_entered : List ℕ → PlainSight → PlainPath → Mach → Mach
let_entered pend w p m =
    mach m.state m.stack [] (suc m.pc) (record m.rest { pending = pend; here = fresh p; frames = m.rest.frames ++ record { here = m.rest.here; kind = in_let w m.rest.pending m.made } ∷ [] })

-- What was made for a parameter is kept by the last frame, which is there.
abbrev pub KeepsMade : Machine → Machine → Id → Type 0
KeepsMade old new id =
    (n : Tables) (st : State)
    → (f : List PlainFrame × PlainFrame)
    × (popped (mach_by n st old).rest.frames ≡ Some f)
    × (mach_by n st new ≡ (let m = mach_by n st old in record m { rest = record m.rest { frames = f.0 ++ record { here = f.1.here; kind = with_made (ref id.1) f.1.kind } ∷ [] } }))

-- one of two bodies is begun at a path, with the position of the condition
abbrev pub branch_entered : PlainChoice → ℕ → Bool → PlainPath → Mach → Mach
branch_entered z r u p m =
    mach m.state m.stack [] (if u then z.first else z.second) (record m.rest {
      here = fresh p;
      frames = m.rest.frames ++ record { here = m.rest.here; kind = in_branch z (record { ref = r; made = m.made ++ ref r ∷ [] }) u } ∷ [];
    })

-- The code does this step with a frame that was taken, whichever sources were touched, and whatever the manifest's names are.
abbrev pub EndsFrame : (Tables → Mach → List PlainFrame → PlainHere → PlainKind → Run) → Vm → Machine → Frame → Vm → Machine → Type 0
EndsFrame f vm old frame vm' new =
    (n : Tables) (touched : Source → Bool) → Agrees touched vm
    → GoesOn n (f n (mach_of n touched vm old) (mach_of n touched vm old).rest.frames (seen_here n frame.here) (seen_kind n frame.kind)) vm' new

-- What a frame waits for ends: with the frame popped, only registers change, whatever is kept.
abbrev pub MovesFrame : (Tables → Mach → List PlainFrame → PlainHere → PlainKind → Run) → Machine → Frame → Machine → Type 0
MovesFrame f old frame new =
    (n : Tables) (st : State) → f n (mach_by n st old) (mach_by n st old).rest.frames (seen_here n frame.here) (seen_kind n frame.kind) ≡ going (mach_by n st new)

-- The same with a call that was taken, in which the body is the present one.
abbrev pub EndsCall : (Tables → Mach → List PlainFrame → PlainHere → PlainKind → Run) → Vm → Machine → Call → Vm → Machine → Type 0
EndsCall f vm old call vm' new =
    (n : Tables) (touched : Source → Bool) → Agrees touched vm
    → GoesOn n (f n (mach_of n touched vm old) (mach_of n touched vm old).rest.frames (seen_here n old.here) (call_kind n call)) vm' new
