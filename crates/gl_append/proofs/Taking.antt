-- Steps of the code, from what is made and which registers change.
use Rattle.std.proofs.Common.{◌≡◌, ℕ, suc, Bool, List, [], ◌∷◌, ◌++◌, None, refl, sym, ◌∙◌, ap, subst}
use Rattle.gl_arena.specs.Id.{Id}
use Rattle.gl_meaning.specs.Scope.{Source}
use Rattle.gl_value.specs.Value.{text_of}
use Rattle.gl_plain.specs.Ids.{a_ref, a_node, ref}
use Rattle.gl_base.specs.Texts.{Text}
use Rattle.gl_plain.specs.State.{Form, call_form, Names, Content, text_content, pair_of, State}
use Rattle.gl_plain.specs.Binding.{made_row}
use Rattle.gl_plain.specs.Grow.{made_node}
use Rattle.gl_machine.specs.Code.{still_code, put_code, Code as PlainCode}
use Rattle.gl_code.specs.CodeView.{seen_code}
use Rattle.gl_code.specs.declared.code.Code.{Code}
use Rattle.gl_machine.specs.Mach.{Mach, Pushed as PlainPushed, Run, going, go, added}
use Rattle.gl_plain.specs.Tags.{modifier_part}
use Rattle.gl_machine.specs.Step as s
use Rattle.gl_vm.specs.View.{Tables, state_of}
use Rattle.gl_vm.specs.Steps.{Does, Numbers}
use Rattle.gl_vm.specs.declared.vm.Vm.{Vm}
use Rattle.std.specs.declared.vec.Vec.{Vec}
use Rattle.std.specs.declared.alloc.Global.{Global}
use Rattle.gl_append.specs.declared.machine.Pushed.{Pushed}
use Rattle.gl_code.specs.View.{refs_made}
use Rattle.gl_append.specs.MachineView.{seen_pushed, seen_stack, mach_by, mach_of}
use Rattle.gl_append.specs.Steps.{Moves, Changes, GoesOn, Takes, pushed_made}
use Rattle.gl_append.specs.declared.machine.Machine.{Machine}
use Rattle.gl_parts.proofs.Leading.{placed_in}
use Rattle.gl_code.proofs.Doing.{does_then}

-- nothing that is kept changes
pub moved : (f : Tables → Mach → Run) (vm : Vm) (old new : Machine) → Moves f old new → Takes f vm old vm new
moved f vm old new m n t a = record { state = state_of n vm t; follows = record { state = refl; agrees = a }; goes = m n (state_of n vm t) }

-- something is done with what is kept, and then registers change
pub done_then : (f g : Tables → Mach → Run) (d : Tables → State → State) (vm vm' : Vm) (old new : Machine) → Does d vm vm' → Moves g old new
    → ((n : Tables) (t : Source → Bool) → f n (mach_of n t vm old) ≡ g n (mach_by n (d n (state_of n vm t)) old)) → Takes f vm old vm' new
done_then f g d vm vm' old new x m e n t a =
    record { state = d n (state_of n vm t); follows = x n t a; goes = e n t ∙ m n (d n (state_of n vm t)) }

-- registers change first
pub then_takes : (f : Tables → Mach → Run) (h : Tables → Mach → Mach) (vm vm' : Vm) (old mid new : Machine) → Changes h old mid → Takes f vm mid vm' new
    → Takes (λ n m. f n (h n m)) vm old vm' new
then_takes f h vm vm' old mid new c x n t a = subst (λ m. GoesOn n (f n m) vm' new) (sym (c n (state_of n vm t))) (x n t a)

pub then_moves : (f : Tables → Mach → Run) (h : Tables → Mach → Mach) (old mid new : Machine) → Changes h old mid → Moves f mid new → Moves (λ n m. f n (h n m)) old new
then_moves f h old mid new c x n st = subst (λ m. f n m ≡ going (mach_by n st new)) (sym (c n st)) (x n st)

-- a reference is made and pushed
pub made_pushed : (form : Form) (vm vm' : Vm) (old new : Machine) (id : Id) → Does (λ n. made_row form) vm vm' → Numbers vm.refs.rows vm'.refs.rows id
    → Moves (λ n. pushed_made id.1) old new → Takes (λ n. s.push_new form) vm old vm' new
made_pushed form vm vm' old new id d i m =
    done_then (λ n. s.push_new form) (λ n. pushed_made id.1) (λ n. made_row form) vm vm' old new d m
    (λ n t. let st = made_row form (state_of n vm t) in let k = mach_by n st old in
    ap (λ r. go st (k.stack ++ (None, r) ∷ []) (k.made ++ ref r ∷ []) (suc k.pc) k.rest) (sym i.stamp))

-- the last ones of the stack were taken, and a reference over them is pushed
pub after_taking : (count : ℕ) (form : List ℕ → Form) (vm vm' : Vm) (old : Machine) (stack : Vec Pushed Global) (new : Machine) (rs : List ℕ)
    → rs ≡ s.positional (s.upper count (seen_stack old.stack.items)) → seen_stack stack.items ≡ s.lower count (seen_stack old.stack.items)
    → Takes (λ n. s.push_new (form rs)) vm (record old { stack = stack }) vm' new
    → Takes (λ n m. s.push_over count (form (s.positional (s.upper count m.stack))) m) vm old vm' new
after_taking count form vm vm' old stack new rs e l x n t a =
    subst (λ qs. GoesOn n (s.push_new (form qs) (record (mach_of n t vm old) { stack = s.lower count (seen_stack old.stack.items) })) vm' new) e
    (subst (λ y. GoesOn n (s.push_new (form rs) (record (mach_of n t vm old) { stack = y })) vm' new) l (x n t a))

-- the same of a helper's call
pub after_calling : (count : ℕ) (name : Text) (vm vm' : Vm) (old : Machine) (stack : Vec Pushed Global) (new : Machine) (rs : List ℕ) (ns : Names)
    → rs ≡ s.positional (s.upper count (seen_stack old.stack.items)) → ns ≡ s.named_ones (s.upper count (seen_stack old.stack.items)) → seen_stack stack.items ≡ s.lower count (seen_stack old.stack.items)
    → Takes (λ n. s.push_new (call_form name rs ns)) vm (record old { stack = stack }) vm' new → Takes (λ n. s.do_call count name) vm old vm' new
after_calling count name vm vm' old stack new rs ns e d l x n t a =
    subst (λ qs. GoesOn n (s.push_new (call_form name qs (s.named_ones (s.upper count (seen_stack old.stack.items)))) (record (mach_of n t vm old) { stack = s.lower count (seen_stack old.stack.items) })) vm' new) e
    (subst (λ ms. GoesOn n (s.push_new (call_form name rs ms) (record (mach_of n t vm old) { stack = s.lower count (seen_stack old.stack.items) })) vm' new) d
    (subst (λ y. GoesOn n (s.push_new (call_form name rs ns) (record (mach_of n t vm old) { stack = y })) vm' new) l (x n t a)))

-- the same of a modifier
pub after_modifying : (count name : ℕ) (old : Machine) (stack : Vec Pushed Global) (new : Machine) (rs : List ℕ) (ns : Names)
    → rs ≡ s.positional (s.upper count (seen_stack old.stack.items)) → ns ≡ s.named_ones (s.upper count (seen_stack old.stack.items)) → seen_stack stack.items ≡ s.lower count (seen_stack old.stack.items)
    → Moves (λ n. s.add_parts (modifier_part (n.modifier name) rs ns ∷ [])) (record old { stack = stack }) new → Moves (λ n. s.do_mod count (n.modifier name)) old new
after_modifying count name old stack new rs ns e d l x n st =
    let to : Run = going (mach_by n st new) in
    let f : List ℕ → Names → List PlainPushed → Run = λ qs ms y. s.add_parts (modifier_part (n.modifier name) qs ms ∷ []) (record (mach_by n st old) { stack = y }) in
    let up = s.upper count (seen_stack old.stack.items) in
    sym (ap (λ qs. f qs ns (seen_stack stack.items)) e ∙ (ap (λ ms. f (s.positional up) ms (seen_stack stack.items)) d ∙ ap (λ y. f (s.positional up) (s.named_ones up) y) l)) ∙ x n st

-- a node is made and shown
pub node_shown : (x : Content) (vm vm' : Vm) (old new : Machine) (id : Id) (code : Code) → ((n : Tables) → seen_code n code ≡ still_code id.1) → Does (λ n. made_node x) vm vm' → Numbers vm.tree.nodes vm'.tree.nodes id
    → Moves (λ n m. s.show (seen_code n code, m.state) m) old new → Takes (λ n m. s.show (still_code (m.state.next a_node), made_node x m.state) m) vm old vm' new
node_shown x vm vm' old new id code is d i m =
    done_then (λ n k. s.show (still_code (k.state.next a_node), made_node x k.state) k) (λ n k. s.show (seen_code n code, k.state) k) (λ n. made_node x) vm vm' old new d m
    (λ n t. ap (λ k. s.show (k, made_node x (state_of n vm t)) (mach_of n t vm old)) (ap still_code (sym i.stamp) ∙ sym (is n)))

-- a text mustache: a position, and a node with the text of its value
pub put_shown : (vm vm1 vm2 : Vm) (old new : Machine) (top : Pushed) (id node : Id) (t : Text) (code : Code)
    → ((n : Tables) → seen_code n code ≡ put_code node.1 (record { ref = id.1; made = refs_made old.made ++ ref id.1 ∷ [] }))
    → Does (λ n. placed_in (top.id.1 ∷ [])) vm vm1 → Numbers vm.refs.rows vm1.refs.rows id
    → Does (λ n. made_node (text_content t)) vm1 vm2 → Numbers vm1.tree.nodes vm2.tree.nodes node → ((n : Tables) (u : Source → Bool) → text_of (pair_of (state_of n vm u).look top.id.1).value ≡ t)
    → Moves (λ n m. s.show (seen_code n code, m.state) m) old new → Takes (λ n m. s.do_put m (m.stack, seen_pushed top)) vm old vm2 new
put_shown vm vm1 vm2 old new top id node t code is d i e j v m n u a =
    let st : State = state_of n vm u in
    let w = d n u a in
    let k = mach_by n st old in
    let f : Text → PlainCode → Run = λ x b. go (made_node (text_content x) (placed_in (top.id.1 ∷ []) st)) k.stack [] (suc k.pc) (record k.rest { here = added b k.rest.here }) in
    let b : st.next a_node ≡ node.1 = sym (j.stamp ∙ ap (λ (x : State). x.next a_node) w.state) in
    let p : put_code (st.next a_node) (record { ref = st.next a_ref; made = k.made ++ ref (st.next a_ref) ∷ [] }) ≡ seen_code n code
    = ap (λ x. put_code x (record { ref = st.next a_ref; made = k.made ++ ref (st.next a_ref) ∷ [] })) b ∙ (ap (λ x. put_code node.1 (record { ref = x; made = k.made ++ ref x ∷ [] })) (sym i.stamp) ∙ sym (is n)) in
    record {
      state = made_node (text_content t) (placed_in (top.id.1 ∷ []) st);
      follows = does_then (λ n. placed_in (top.id.1 ∷ [])) (λ n. made_node (text_content t)) vm vm1 vm2 d e n u a;
      goes = ap (λ x. f x (put_code (st.next a_node) (record { ref = st.next a_ref; made = k.made ++ ref (st.next a_ref) ∷ [] }))) (v n u) ∙ (ap (λ x. f t x) p ∙ m n (made_node (text_content t) (placed_in (top.id.1 ∷ []) st)));
    }
