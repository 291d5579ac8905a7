-- A step of an opcode, from what its operands name and what the code does.
use Rattle.std.proofs.Common.{◌≡◌, ℕ, suc, ℤ, Bool, true, false, List, length, Option, Some, None, option_map, slice_get, refl, subst, sym, ◌∙◌, ap}
use Rattle.std.proofs.lemmas.List.{length-map}
use Rattle.std.specs.declared.vec.Vec.{Vec}
use Rattle.std.specs.declared.alloc.Global.{Global}
use Rattle.gl_base.specs.Texts.{Text}
use Rattle.gl_meaning.specs.Eval.{Store}
use Rattle.gl_meaning.specs.Scope.{Source}
use Rattle.gl_program.specs.Program.{Program, op_at}
use Rattle.gl_value.specs.Value as v
use Rattle.gl_meaning.specs.App.{Action}
use Rattle.gl_meaning.specs.Manifest.{ClassEntry, Manifest}
use Rattle.gl_meaning.specs.Order.{names_of}
use Rattle.gl_meaning.specs.Path.{V}
use Rattle.gl_plain.specs.State.{constant_form, State}
use Rattle.gl_machine.specs.Env.{Env, class_or}
use Rattle.gl_machine.specs.Mach.{Mach, Pushed as PlainPushed, Run}
use Rattle.gl_machine.specs.Step as s
use Rattle.gl_vm.specs.Labels.{labelled}
use Rattle.gl_vm.specs.View.{Tables, state_of}
use Rattle.gl_vm.specs.declared.vm.Vm.{Vm}
use Rattle.gl_append.specs.MachineView.{seen_pushed, seen_stack, mach_by, mach_of}
use Rattle.gl_append.specs.Steps.{Moves, Takes, EndsParts}
use Rattle.gl_code.specs.Cells.{CellList, store_of}
use Rattle.gl_append.specs.ListSteps.{each_at}
use Rattle.gl_code.specs.Tables.{tables_of, env_of}
use Rattle.gl_append.specs.Tables.{TakesIn}
use Rattle.gl_append.specs.Stepping.{RunsIn, MovesIn, Stepped, StepsIn, DoesOp}
use Rattle.gl_append.specs.declared.step.Next.{Next}
use Rattle.gl_append.specs.declared.step.Next.TheVariants as next
use Rattle.gl_ast.specs.Template.{Body}
use Rattle.gl_meaning.specs.View.{manifest_view}
use Rattle.gl_opc.specs.declared.app.App.{App}
use Rattle.gl_ops.specs.declared.op.Op.{Op}
use Rattle.gl_plain.specs.Naming.{by_number}
use Rattle.gl_append.specs.declared.machine.Pushed.{Pushed}
use Rattle.gl_append.specs.declared.machine.Machine.{Machine}

-- the code does the step of an opcode that is this one
pub goes_by : (n : Tables) (f : Mach → Run) (g : Tables → Mach → Run) (vm vm' : Vm) (old new : Machine) → ((touched : Source → Bool) → f (mach_of n touched vm old) ≡ g n (mach_of n touched vm old)) → Takes g vm old vm' new
    → TakesIn n f vm old vm' new
goes_by n f g vm vm' old new e t u a = let x = t n u a in record { state = x.state; follows = x.follows; goes = e u ∙ x.goes }

pub given_by : {A : Type 0} (o : Option A) (x : A) (f : A → Run) → o ≡ Some x → s.given o f ≡ f x
given_by o x f e = ap (λ y. s.given y f) e

-- a text, a name or an integer of the program
pub text_by : (env : Env) (store : Store) (m : Mach) (p : Program) (b : ℕ) (t : Text) (f : Text → Run) → s.program_at env store m ≡ p → slice_get p.texts b ≡ Some t → s.text_at env store m b f ≡ f t
text_by env store m p b t f e h = ap (λ q. s.given (slice_get q.texts b) f) e ∙ given_by (slice_get p.texts b) t f h

pub name_by : (env : Env) (store : Store) (m : Mach) (p : Program) (b : ℕ) (t : Text) (f : Text → Run) → s.program_at env store m ≡ p → slice_get p.names b ≡ Some t → s.name_at env store m b f ≡ f t
name_by env store m p b t f e h = ap (λ q. s.given (slice_get q.names b) f) e ∙ given_by (slice_get p.names b) t f h

-- The top of the stack was taken: what is done with it doesn't look at the stack.
pub after_top : (f : Mach → List PlainPushed × PlainPushed → Run) (vm vm' : Vm) (old new : Machine) (stack : Vec Pushed Global) (top : Pushed) → ((m : Mach) (p : List PlainPushed × PlainPushed) → f (record m { stack = p.0 }) p ≡ f m p)
    → s.popped (seen_stack old.stack.items) ≡ Some (seen_stack stack.items, seen_pushed top) → Takes (λ n m. f m (m.stack, seen_pushed top)) vm (record old { stack = stack }) vm' new
    → Takes (λ n m. s.given (s.popped m.stack) (f m)) vm old vm' new
after_top f vm vm' old new stack top free e t n u a =
    let x = t n u a in
    record {
      state = x.state;
      follows = x.follows;
      goes = given_by (s.popped (seen_stack old.stack.items)) (seen_stack stack.items, seen_pushed top) (f (mach_of n u vm old)) e ∙ (sym (free (mach_of n u vm old) (seen_stack stack.items, seen_pushed top)) ∙ x.goes);
    }

pub top_moves : (f : Mach → List PlainPushed × PlainPushed → Run) (old new : Machine) (stack : Vec Pushed Global) (top : Pushed) → ((m : Mach) (p : List PlainPushed × PlainPushed) → f (record m { stack = p.0 }) p ≡ f m p)
    → s.popped (seen_stack old.stack.items) ≡ Some (seen_stack stack.items, seen_pushed top) → Moves (λ n m. f m (m.stack, seen_pushed top)) (record old { stack = stack }) new
    → Moves (λ n m. s.given (s.popped m.stack) (f m)) old new
top_moves f old new stack top free e t n st =
    given_by (s.popped (seen_stack old.stack.items)) (seen_stack stack.items, seen_pushed top) (f (mach_by n st old)) e ∙ (sym (free (mach_by n st old) (seen_stack stack.items, seen_pushed top)) ∙ t n st)

-- What an opcode does, where it is one that does this.
pub does : (a : App) (cells : CellList) (p : Program) (x y : Op) (g : Tables → Mach → Run) (vm vm' : Vm) (old new : Machine) → x ≡ y
    → (RunsIn a old p → (templates : List Body) (store : Store) (st : State)
    → let n = tables_of (manifest_view a.manifest) in s.do_op_as by_number (env_of a templates) store (mach_by n st old) y ≡ g n (mach_by n st old))
    → Takes g vm old vm' new → DoesOp a cells p x vm old vm' new next.Going
does a cells p x y g vm vm' old new is e t =
    subst (λ z. DoesOp a cells p z vm old vm' new next.Going) (sym is)
    (λ at templates rise. let store = store_of (env_of a templates).app cells in let n = tables_of (manifest_view a.manifest) in
    goes_by n (λ m. s.do_op_as by_number (env_of a templates) store m y) g vm vm' old new (λ u. e at templates store (state_of n vm u)) t)

-- with a text, a name or an integer of the program
pub text_does : (a : App) (p : Program) (b : ℕ) (t : Text) (h : Text → Mach → Run) (old : Machine) → slice_get p.texts b ≡ Some t → RunsIn a old p → (templates : List Body) (store : Store) (st : State)
    → let m = mach_by (tables_of (manifest_view a.manifest)) st old in s.text_at (env_of a templates) store m b (λ x. h x m) ≡ h t m
text_does a p b t h old e at ts store st =
    let n = tables_of (manifest_view a.manifest) in text_by (env_of a ts) store (mach_by n st old) p b t (λ x. h x (mach_by n st old)) (at ts store n st) e

pub name_does : (a : App) (p : Program) (b : ℕ) (t : Text) (h : Text → Mach → Run) (old : Machine) → slice_get p.names b ≡ Some t → RunsIn a old p → (templates : List Body) (store : Store) (st : State)
    → let m = mach_by (tables_of (manifest_view a.manifest)) st old in s.name_at (env_of a templates) store m b (λ x. h x m) ≡ h t m
name_does a p b t h old e at ts store st =
    let n = tables_of (manifest_view a.manifest) in name_by (env_of a ts) store (mach_by n st old) p b t (λ x. h x (mach_by n st old)) (at ts store n st) e

pub both_do : (a : App) (p : Program) (i j : ℕ) (n t : Text) (h : Text → Text → Mach → Run) (old : Machine) → slice_get p.names i ≡ Some n → slice_get p.texts j ≡ Some t → RunsIn a old p → (templates : List Body) (store : Store) (st : State)
    → let m = mach_by (tables_of (manifest_view a.manifest)) st old in s.name_at (env_of a templates) store m i (λ x. s.text_at (env_of a templates) store m j (λ y. h x y m)) ≡ h n t m
both_do a p i j n t h old e d at ts store st =
    name_by (env_of a ts) store (mach_by (tables_of (manifest_view a.manifest)) st old) p i n (λ x. s.text_at (env_of a ts) store (mach_by (tables_of (manifest_view a.manifest)) st old) j (λ y. h x y (mach_by (tables_of (manifest_view a.manifest)) st old))) (at ts store (tables_of (manifest_view a.manifest)) st) e
    ∙ text_does a p j t (h n) old d at ts store st

given_integer : (o : Option ℤ) (w : v.Value ℕ) (f : V → Run) → option_map (λ z. v.integer z) o ≡ Some w → s.given o (λ z. f (v.integer z)) ≡ f (labelled w)
given_integer None w f e = let no : None ≡ Some w = e in absurd (cc)
given_integer (Some z) w f e = let is : v.integer z ≡ w = cc in ap (λ x. f (labelled x)) is

pub integer_does : (a : App) (p : Program) (b : ℕ) (w : v.Value ℕ) (old : Machine) → option_map (λ z. v.integer z) (slice_get p.ints b) ≡ Some w → RunsIn a old p → (templates : List Body) (store : Store) (st : State)
    → let m = mach_by (tables_of (manifest_view a.manifest)) st old in s.given (slice_get (s.program_at (env_of a templates) store m).ints b) (λ z. s.push_new (constant_form (v.integer z)) m) ≡ s.push_new (constant_form (labelled w)) m
integer_does a p b w old e at ts store st =
    let n = tables_of (manifest_view a.manifest) in
    ap (λ q. s.given (slice_get q.ints b) (λ z. s.push_new (constant_form (v.integer z)) (mach_by n st old))) (at ts store n st) ∙ given_integer (slice_get p.ints b) w (λ x. s.push_new (constant_form x) (mach_by n st old)) e

-- registers alone change, in the manifest's tables
pub does_moving : (a : App) (cells : CellList) (p : Program) (x y : Op) (g : Mach → Run) (vm : Vm) (old new : Machine) → x ≡ y
    → (RunsIn a old p → (templates : List Body) (store : Store) (st : State)
    → let n = tables_of (manifest_view a.manifest) in s.do_op_as by_number (env_of a templates) store (mach_by n st old) y ≡ g (mach_by n st old))
    → MovesIn (tables_of (manifest_view a.manifest)) g old new → DoesOp a cells p x vm old vm new next.Going
does_moving a cells p x y g vm old new is e t =
    subst (λ z. DoesOp a cells p z vm old vm new next.Going) (sym is)
    (λ at templates rise touched agrees. let store = store_of (env_of a templates).app cells in let n = tables_of (manifest_view a.manifest) in let st = state_of n vm touched in
    record { state = st; follows = record { state = refl; agrees = agrees }; goes = e at templates store st ∙ t st })

-- A class of the manifest

pub field_count : (m : Manifest) (c : ℕ) (k : ClassEntry) → slice_get m.classes c ≡ Some k → length ((tables_of m).fields c) ≡ length k.fields
field_count m c k e = ap (λ o. length (names_of (class_or o).fields)) e ∙ length-map k.fields (λ x. x.0)

pub action_does : (a : App) (c i : ℕ) (k : ClassEntry) (x : Text × Action) (h : Text → Mach → Run) (m : Mach) → slice_get (manifest_view a.manifest).classes c ≡ Some k → slice_get k.actions i ≡ Some x
    → s.given (slice_get (class_or (slice_get (manifest_view a.manifest).classes c)).actions i) (λ y. h y.0 m) ≡ h x.0 m
action_does a c i k x h m e d = ap (λ o. s.given (slice_get (class_or o).actions i) (λ y. h y.0 m)) e ∙ given_by (slice_get k.actions i) x (λ y. h y.0 m) d

-- The words of parts that ended, or others

pub parts_passed : (f : Tables → Mach → Run) (old mid new : Machine) (b : Bool) → EndsParts old mid b → b ≡ false → Moves f mid new → Moves (λ n m. s.unless_parts m (s.popped m.rest.frames) (f n m)) old new
parts_passed f old mid new true e w t n st = let x : true ≡ false = w in absurd (cc)
parts_passed f old mid new false e w t n st = e.1 n st (f n (mach_by n st old)) ∙ (ap (λ (x : Machine). f n (mach_by n st x)) (sym e.0) ∙ t n st)

pub parts_done : (f : Tables → Mach → Run) (old new : Machine) (b : Bool) → EndsParts old new b → b ≡ true → Moves (λ n m. s.unless_parts m (s.popped m.rest.frames) (f n m)) old new
parts_done f old new false e w n st = let x : false ≡ true = w in absurd (cc)
parts_done f old new true e w n st = e n st (f n (mach_by n st old))

-- One word

stepped_by : (n : Tables) (f g : Mach → Run) (vm vm' : Vm) (old new : Machine) (r : Next) → ((st : State) → f (mach_by n st old) ≡ g (mach_by n st old)) → Stepped n g vm old vm' new r → Stepped n f vm old vm' new r
stepped_by n f g vm vm' old new next.Going e s = λ u a. let x = s u a in record { state = x.state; follows = x.follows; goes = e (state_of n vm u) ∙ x.goes }
stepped_by n f g vm vm' old new next.Finished e s = (s.0, λ st. e st ∙ s.1 st)
stepped_by n f g vm vm' old new next.TooDeep e s = λ st. e st ∙ s st

pub word_does : (a : App) (cells : CellList) (p : Program) (x : Op) (vm vm' : Vm) (old new : Machine) (r : Next) → RunsIn a old p → op_at p old.pc ≡ Some x → DoesOp a cells p x vm old vm' new r
    → StepsIn a cells (λ env store. s.step_as by_number env store) vm old vm' new r
word_does a cells p x vm vm' old new r at e d ts rise =
    let store = store_of (env_of a ts).app cells in
    let n = tables_of (manifest_view a.manifest) in
    stepped_by n (s.step_as by_number (env_of a ts) store) (λ m. s.do_op_as by_number (env_of a ts) store m x) vm vm' old new r
    (λ st. ap (λ q. s.given (op_at q old.pc) (s.do_op_as by_number (env_of a ts) store (mach_by n st old))) (at ts store n st) ∙ given_by (op_at p old.pc) x (s.do_op_as by_number (env_of a ts) store (mach_by n st old)) e)
    (d at ts rise)

-- an `each`, with the operands of the Item behind it
pub each_does : (a : App) (p : Program) (i b : ℕ) (key : Text) (o : ℕ × ℕ) (old : Machine) → slice_get p.names i ≡ Some key → s.operands (op_at p (suc old.pc)) ≡ o → RunsIn a old p → (templates : List Body) (store : Store) (st : State)
    → let m = mach_by (tables_of (manifest_view a.manifest)) st old in
    s.name_at (env_of a templates) store m i (λ x. s.given (s.popped m.stack) (s.do_each (env_of a templates) store x b m)) ≡ s.given (s.popped m.stack) (each_at key b o m)
each_does a p i b key o old e d at ts store st =
    let n = tables_of (manifest_view a.manifest) in
    let m = mach_by n st old in
    name_does a p i key (λ x k. s.given (s.popped k.stack) (s.do_each (env_of a ts) store x b k)) old e at ts store st
    ∙ (ap (λ q. s.given (s.popped m.stack) (each_at key b (s.operands (op_at q (suc old.pc))) m)) (at ts store n st) ∙ ap (λ z. s.given (s.popped m.stack) (each_at key b z m)) d)
