-- One step over the words of a program: a function for each opcode.
use Rattle.std.specs.Prelude.{ℕ, zero, suc, ◌-◌, ◌==◌, List, [], ◌∷◌, ◌++◌, length, take, drop, Bool, true, false, Option, Some, None, if◌then◌else◌, slice_get, codes}
use Rattle.gl_base.specs.Texts.{Text}
use Rattle.gl_base.specs.Names.{last_named, named, or_else}
use Rattle.gl_names.specs.Helpers.{helper_rows}
use Rattle.gl_names.specs.Table.{name_of}
use Rattle.gl_value.specs.Value as v
use Rattle.gl_program.specs.Program.{Program, op_at}
use Rattle.gl_ops.specs.declared.op.Op.{Op}
use Rattle.gl_ops.specs.declared.op.Op.TheVariants as op
use Rattle.gl_meaning.specs.Path.{main, otherwise, items, item, into, slot}
use Rattle.gl_meaning.specs.Eval.{Store, takes_first}
use Rattle.gl_meaning.specs.Render.{Entry, entries, values_listed}
use Rattle.gl_plain.specs.Ids.{a_ref, a_node, an_instance, a_block, Id, ref, block_id, instance_id}
use Rattle.gl_plain.specs.State.{Form, constant_form, property_form, call_form, joined_form, Names, Inst, text_content, comment_content, element_content, instance_row, block_row, State, make}
use Rattle.gl_plain.specs.Naming.{Naming, by_path}
use Rattle.gl_plain.specs.Binding.{made_row, Spot, Placed, place, first_value}
use Rattle.gl_plain.specs.Grow.{made_node, grow_cells_as}
use Rattle.gl_plain.specs.Tags.{Waiting, fixed_part, live_part, modifier_part, flush_parts, install_parts}
use Rattle.gl_machine.specs.Sight.{Sight, sight, Passing, not_passed, passing, class_of, inst_in, args_in, locals_in, passing_in, with_locals}
use Rattle.gl_machine.specs.Code.{Choice, Listing, Code, still_code, put_code, element_code, listed_code, let_code, component_code, yield_code, Codes}
use Rattle.gl_machine.specs.RenewCode.{Start, commented, Runs, branch_with, unlisted_with, item_start_as, refs_in}
use Rattle.gl_machine.specs.Outcome.{Outcome, ok, deep, lost}
use Rattle.gl_machine.specs.Env.{Env, class_no, program_no, getter_no}
use Rattle.gl_machine.specs.Mach.{Here, Back, Kind, in_element, in_branch, in_let, in_each, in_item, in_other, in_component, in_block, in_getter, in_parts, Frame, Making, idle, Rest, Pushed, Mach, Run, going, finished, too_deep, stuck, go, fresh, added, next_at, all_of, items_all}

abbrev pub given : {A : Type 0} → Option A → (A → Run) → Run
given None f = stuck
given (Some x) f = f x

-- all but the last, and the last
abbrev pub popped_after : {A : Type 0} → A → List A → List A × A
popped_after x [] = ([], x)
popped_after x (y ∷ ys) = let r = popped_after y ys in (x ∷ r.0, r.1)

abbrev pub popped : {A : Type 0} → List A → Option (List A × A)
popped [] = None
popped (x ∷ xs) = Some (popped_after x xs)

abbrev pub positional : List Pushed → List ℕ
positional [] = []
positional ((None, r) ∷ es) = r ∷ positional es
positional ((Some n, r) ∷ es) = positional es

abbrev pub named_ones : List Pushed → Names
named_ones [] = []
named_ones ((None, r) ∷ es) = named_ones es
named_ones ((Some n, r) ∷ es) = (n, r) ∷ named_ones es

abbrev pub last_symbol : {A : Type 0} → ℕ → List (ℕ × A) → Option A
last_symbol n [] = None
last_symbol n (e ∷ es) = or_else (last_symbol n es) (if n == e.0 then Some e.1 else None)

abbrev pub lower : ℕ → List Pushed → List Pushed
lower n stk = take (length stk - n) stk

abbrev pub upper : ℕ → List Pushed → List Pushed
upper n stk = drop (length stk - n) stk

-- Expressions

-- a new reference is pushed, or an old one
abbrev pub push_new : Form → Mach → Run
push_new f m = go (made_row f m.state) (m.stack ++ (None, m.state.next a_ref) ∷ []) (m.made ++ ref (m.state.next a_ref) ∷ []) (suc m.pc) m.rest

abbrev pub push_old : ℕ → Mach → Run
push_old r m = go m.state (m.stack ++ (None, r) ∷ []) m.made (suc m.pc) m.rest

abbrev pub push_found : Option ℕ → Mach → Run
push_found (Some r) m = push_old r m
push_found None m = push_new (constant_form v.undefined) m

-- the references of the last n of the stack are taken, and a new one is pushed
abbrev pub push_over : ℕ → Form → Mach → Run
push_over n f m = push_new f (record m { stack = lower n m.stack })

abbrev pub do_prop : Text → Mach → List Pushed × Pushed → Run
do_prop t m p = push_new (property_form p.1.1 t) (record m { stack = p.0 })

abbrev pub do_call : ℕ → Text → Mach → Run
do_call n name m = push_over n (call_form name (positional (upper n m.stack)) (named_ones (upper n m.stack))) m

abbrev pub do_cat : ℕ → Mach → Run
do_cat n m = push_over n (joined_form (positional (upper n m.stack))) m

-- the name of the reference on the top
abbrev pub do_named : Text → Mach → List Pushed × Pushed → Run
do_named n m p = go m.state (p.0 ++ (Some n, p.1.1) ∷ []) m.made (suc m.pc) m.rest

-- Statements

-- something was rendered; what was made for it is its own
abbrev pub show : Code × State → Mach → Run
show x m = go x.1 m.stack [] (suc m.pc) (record m.rest { here = added x.0 m.rest.here })

abbrev pub begin_tag : Making → Mach → Run
begin_tag k m = go m.state m.stack m.made (suc m.pc) (record m.rest { making = k })

abbrev pub do_text : Text → Mach → Run
do_text t m = show (still_code (m.state.next a_node), made_node (text_content t) m.state) m

abbrev pub do_comment : Text → Mach → Run
do_comment t m = show (still_code (m.state.next a_node), made_node (comment_content t) m.state) m

-- Tags

abbrev pub do_open : Text → Mach → Run
do_open t m = begin_tag (record m.rest.making { tag = t }) m

abbrev pub do_comp : ℕ → Mach → Run
do_comp c m = begin_tag (record m.rest.making { class = c; start = suc m.pc }) m

abbrev pub add_parts : List Waiting → Mach → Run
add_parts ps m = begin_tag (record m.rest.making { parts = m.rest.making.parts ++ ps }) m

abbrev pub do_attr : Text → Text → Mach → Run
do_attr n t m = add_parts (fixed_part n t ∷ []) m

abbrev pub do_attr_ref : Text → Mach → List Pushed × Pushed → Run
do_attr_ref n m p = add_parts (live_part n p.1.1 ∷ []) (record m { stack = p.0 })

abbrev pub do_mod : ℕ → Text → Mach → Run
do_mod n name m = add_parts (modifier_part name (positional (upper n m.stack)) (named_ones (upper n m.stack)) ∷ []) (record m { stack = lower n m.stack })

-- Positions

-- the position of the reference on the top
abbrev pub placed_top : Mach → List Pushed × Pushed → Placed
placed_top m p = place (record { ids = p.1.1 ∷ []; made = m.made; state = m.state })

abbrev pub do_put : Mach → List Pushed × Pushed → Run
do_put m p =
    let x = placed_top m p in
    go (made_node (text_content (v.text_of (first_value x.pairs))) x.state) p.0 [] (suc m.pc)
    (record m.rest { here = added (put_code (x.state.next a_node) x.spot) m.rest.here })

abbrev pub do_flush : Mach → Run
do_flush m =
    let k = m.rest.making in
    let a = flush_parts k.parts m.state in
    let n = a.state.next a_node in
    go (made_node (element_content k.tag a.attrs) a.state) m.stack [] (suc m.pc) (record m.rest {
      making = idle;
      here = fresh (next_at m.rest.here);
      frames = m.rest.frames ++ record { here = m.rest.here; kind = in_element n m.made a.spots k.parts } ∷ [];
    })

-- One of two bodies is gone to: the words of the first come next.
abbrev pub branch_into : Choice → Spot → Bool → State → List Pushed → Rest → Run
branch_into z x u st stk rest =
    go st stk [] (if u then z.first else z.second) (record rest {
      here = fresh ((if u then main else otherwise) ∷ next_at rest.here);
      frames = rest.frames ++ record { here = rest.here; kind = in_branch z x u } ∷ [];
    })

abbrev pub do_if : Bool → ℕ → Mach → List Pushed × Pushed → Run
do_if unless other m p =
    let x = placed_top m p in
    branch_into (record { unless = unless; first = suc m.pc; second = other; sight = m.rest.sight }) x.spot (takes_first unless (first_value x.pairs)) x.state p.0 m.rest

abbrev pub each_into : Listing → Spot → ℕ → List Entry → State → List Pushed → Rest → Run
each_into z x start [] st stk rest =
    go st stk [] z.other (record rest {
      here = fresh (otherwise ∷ next_at rest.here);
      frames = rest.frames ++ record { here = rest.here; kind = in_other z x } ∷ [];
    })
each_into z x start (e ∷ es) st stk rest =
    go st stk [] start (record rest { frames = rest.frames ++ record { here = rest.here; kind = in_each z x start (e ∷ es) [] } ∷ [] })

-- the operands of the Item that is next
abbrev pub operands : Option Op → ℕ × ℕ
operands (Some (op.Item a b)) = (a, b)
operands _ = (0, 0)

abbrev pub do_let : ℕ → Mach → Run
do_let n m =
    go m.state (lower n m.stack) [] (suc m.pc) (record m.rest {
      pending = positional (upper n m.stack);
      here = fresh (main ∷ next_at m.rest.here);
      frames = m.rest.frames ++ record { here = m.rest.here; kind = in_let m.rest.sight m.rest.pending m.made } ∷ [];
    })

-- what is made for parameters is kept by the frame
abbrev pub with_made : Id → Kind → Kind
with_made x (in_let s rs made) = in_let s rs (made ++ x ∷ [])
with_made x (in_block b n made k) = in_block b n (made ++ x ∷ []) k
with_made x k = k

-- a parameter takes the reference that is next, or a new one
abbrev pub do_bind : ℕ → Mach → List ℕ → Run
do_bind s m [] =
    given (popped m.rest.frames) (λ f.
    let r = m.state.next a_ref in
    go (made_row (constant_form v.undefined) m.state) m.stack m.made (suc m.pc) (record m.rest {
      sight = with_locals ((s, r) ∷ []) m.rest.sight;
      frames = f.0 ++ record { here = f.1.here; kind = with_made (ref r) f.1.kind } ∷ [];
    }))
do_bind s m (r ∷ rs) = go m.state m.stack m.made (suc m.pc) (record m.rest { sight = with_locals ((s, r) ∷ []) m.rest.sight; pending = rs })

abbrev pub do_arg : Text → Mach → List Pushed × Pushed → Run
do_arg n m p = begin_tag (record m.rest.making { args = m.rest.making.args ++ (n, p.1.1) ∷ []; start = suc m.pc }) (record m { stack = p.0 })

abbrev pub do_block : Text → ℕ → Mach → Run
do_block n next m = go m.state m.stack m.made next (record m.rest { making = record m.rest.making { slots = m.rest.making.slots ++ (n, suc m.pc) ∷ [] } })

-- there is no block
abbrev pub do_bare : Mach → Run
do_bare m = go m.state m.stack m.made (suc m.pc) m.rest

-- a block's words are gone to, in what its writer saw
abbrev pub enter : Text → List ℕ → Mach → Sight → ℕ → Run
enter n rs m s start =
    go m.state m.stack [] start (record m.rest {
      getter = None;
      sight = s;
      pending = rs;
      here = fresh (slot n ∷ next_at m.rest.here);
      frames = m.rest.frames
          ++ record { here = m.rest.here; kind = in_block (record { getter = m.rest.getter; pc = suc m.pc; sight = m.rest.sight; pending = m.rest.pending }) n m.made (length (locals_in s)) } ∷ [];
    })

abbrev pub yield_slot : Text → List ℕ → Mach → Sight → Option ℕ → Run
yield_slot n rs m s None = show (yield_code n m.made [] (all_of []), m.state) m
yield_slot n rs m s (Some start) = enter n rs m s start

abbrev pub yield_to : Text → List ℕ → Mach → Passing → Run
yield_to n rs m not_passed = show (yield_code n m.made [] (all_of []), m.state) m
yield_to n rs m (passing k parts slots s) = yield_slot n rs m s (named n slots)

abbrev pub do_yield : ℕ → Text → Mach → Run
do_yield c n m = yield_to n (positional (upper c m.stack)) (record m { stack = lower c m.stack }) (passing_in m.rest.sight)

-- Frames that are closed. The last of the frames is the innermost. Where none is left, a body's end is the end of the run.

abbrev pub leave : List Frame → Here → Code × State → Mach → Run
leave fs h x m = go x.1 m.stack [] (suc m.pc) (record m.rest { here = added x.0 h; frames = fs })

-- the machine goes on where it came from
abbrev pub return : List Frame → Here → Back → ℕ → Code → Mach → Run
return fs h b left k m =
    go m.state m.stack [] b.pc (record { getter = b.getter; sight = b.sight; pending = b.pending; here = added k h; making = m.rest.making; left = left; frames = fs })

abbrev pub with_top : Mach → (Mach → List Frame → Here → Kind → Run) → Run
with_top m f = given (popped m.rest.frames) (λ x. f m x.0 x.1.here x.1.kind)

abbrev pub ended_by : Mach → Option (List Frame × Frame) → (Mach → List Frame → Here → Kind → Run) → Run
ended_by m None f = finished m
ended_by m (Some x) f = f m x.0 x.1.here x.1.kind

abbrev pub with_end : Mach → (Mach → List Frame → Here → Kind → Run) → Run
with_end m f = ended_by m (popped m.rest.frames) f

abbrev pub made_here : Mach → Codes × State
made_here m = (all_of m.rest.here.codes, m.state)

abbrev pub do_close : Mach → List Frame → Here → Kind → Run
do_close m fs h (in_element n made spots parts) =
    let x = install_parts n 0 parts m.state in leave fs h (element_code n made spots x.spots (all_of m.rest.here.codes), x.state) m
do_close m fs h _ = stuck

abbrev pub do_end_if : Mach → List Frame → Here → Kind → Run
do_end_if m fs h (in_branch z x u) = leave fs h (branch_with z x u (commented (made_here m))) m
do_end_if m fs h _ = stuck

abbrev pub do_end_let : Mach → List Frame → Here → Kind → Run
do_end_let m fs h (in_let s rs made) =
    leave fs h (let_code made (refs_in (drop (length (locals_in s)) (locals_in m.rest.sight))) (all_of m.rest.here.codes), m.state)
    (record m { rest = record m.rest { sight = s; pending = rs } })
do_end_let m fs h _ = stuck

abbrev pub do_end_block : Mach → List Frame → Here → Kind → Run
do_end_block m fs h (in_block b n made k) =
    return fs h b m.rest.left (yield_code n made (refs_in (drop k (locals_in m.rest.sight))) (all_of m.rest.here.codes)) m
do_end_block m fs h _ = stuck

-- at the end of a component's program, of a getter's, or of the whole
abbrev pub do_done : Mach → List Frame → Here → Kind → Run
do_done m fs h (in_component b i made gm args k) = return fs h b (suc m.rest.left) (component_code i made gm args k (all_of m.rest.here.codes)) m
do_done m fs h (in_getter b) =
    go m.state m.stack m.made b.pc (record { getter = b.getter; sight = b.sight; pending = b.pending; here = h; making = m.rest.making; left = m.rest.left; frames = fs })
do_done m fs h _ = stuck

abbrev pub else_at : Mach → ℕ → Option (List Frame × Frame) → Run
else_at m b None = finished m
else_at m b (Some f) = go m.state m.stack m.made b m.rest

-- Lists

abbrev pub do_item_as : Naming → Mach → List Frame → Here → Kind → Run
do_item_as naming m fs h (in_each z x start (e ∷ es) done) =
    let q = item e.key e.occurrence ∷ items ∷ next_at h in
    let b = item_start_as naming z q e m.state in
    go b.state m.stack [] z.body (record m.rest {
      sight = with_locals b.locals z.sight;
      here = fresh q;
      frames = fs ++ record { here = h; kind = in_item z x start es done b.spot } ∷ [];
    })
do_item_as naming m fs h _ = stuck

-- the next item, or what stands behind the list's body
abbrev pub next_item : List Entry → ℕ → ℕ → ℕ
next_item [] start next = next
next_item (e ∷ es) start next = start

abbrev pub do_end_item : Mach → List Frame → Here → Kind → Run
do_end_item m fs h (in_item z x start es done b) =
    let a = commented (made_here m) in
    go a.state m.stack [] (next_item es start (suc m.pc)) (record m.rest {
      sight = z.sight;
      here = h;
      frames = fs ++ record { here = h; kind = in_each z x start es (done ++ record { spot = b; comment = a.comment; codes = a.codes } ∷ []) } ∷ [];
    })
do_end_item m fs h _ = stuck

abbrev pub do_end_each : Mach → List Frame → Here → Kind → Run
do_end_each m fs h (in_other z x) = leave fs h (unlisted_with z x (commented (made_here m))) m
do_end_each m fs h (in_each z x start [] done) = leave fs h (listed_code z x (items_all done), m.state) m
do_end_each m fs h _ = stuck

-- Behind the words of a component's parts stands Block or Bare: there `...attributes` ends, where it was begun.
abbrev pub back_from : Mach → List Frame → Here → Back → Run
back_from m fs h b =
    go m.state m.stack m.made b.pc (record { getter = b.getter; sight = b.sight; pending = b.pending; here = h; making = m.rest.making; left = m.rest.left; frames = fs })

abbrev pub kind_parts : Mach → List Frame → Here → Kind → Run → Run
kind_parts m fs h (in_parts b) r = back_from m fs h b
kind_parts m fs h _ r = r

abbrev pub unless_parts : Mach → Option (List Frame × Frame) → Run → Run
unless_parts m None r = r
unless_parts m (Some f) r = kind_parts m f.0 f.1.here f.1.kind r

abbrev pub spread_to : Mach → Passing → Run
spread_to m not_passed = go m.state m.stack m.made (suc m.pc) m.rest
spread_to m (passing k parts slots s) =
    go m.state m.stack m.made parts (record m.rest {
      getter = None;
      sight = s;
      frames = m.rest.frames ++ record { here = m.rest.here; kind = in_parts (record { getter = m.rest.getter; pc = suc m.pc; sight = m.rest.sight; pending = m.rest.pending }) } ∷ [];
    })

module _ (env : Env) (store : Store) where
  abbrev pub program_of : Option ℕ → Sight → Program
  program_of None s = program_no env (class_of s)
  program_of (Some g) s = getter_no env (class_of s) g

  abbrev pub program_at : Mach → Program
  program_at m = program_of m.rest.getter m.rest.sight

  abbrev pub text_at : Mach → ℕ → (Text → Run) → Run
  text_at m b f = given (slice_get (program_at m).texts b) f

  abbrev pub name_at : Mach → ℕ → (Text → Run) → Run
  name_at m a f = given (slice_get (program_at m).names a) f

  abbrev pub do_each : Text → ℕ → Mach → List Pushed × Pushed → Run
  do_each key other m p =
      let x = placed_top m p in
      let o = operands (op_at (program_at m) (suc m.pc)) in
      each_into (record { key = key; value = o.0; index = o.1; body = suc (suc m.pc); other = other; sight = m.rest.sight }) x.spot (suc m.pc)
      (entries key 0 [] (values_listed (first_value x.pairs))) x.state p.0 m.rest

  abbrev pub do_getter : ℕ → Mach → Run
  do_getter g m =
      go m.state m.stack m.made 0 (record m.rest {
        getter = Some g;
        sight = sight (class_of m.rest.sight) (inst_in m.rest.sight) (args_in m.rest.sight) [] not_passed;
        frames = m.rest.frames ++ record { here = m.rest.here; kind = in_getter (record { getter = m.rest.getter; pc = suc m.pc; sight = m.rest.sight; pending = m.rest.pending }) } ∷ [];
      })

  abbrev pub do_local : ℕ → Mach → Run
  do_local a m = given (last_symbol a (locals_in m.rest.sight)) (λ r. push_old r m)

  abbrev pub do_field : ℕ → Mach → Run
  do_field a m = given (slice_get (inst_in m.rest.sight).cells a) (λ c. push_old c.1 m)

  abbrev pub begun : Start → State → Run
  begun s st = go st [] [] s.pc (record { getter = None; sight = s.sight; pending = []; here = fresh s.path; making = idle; left = s.left; frames = [] })

  abbrev pub outcome : Run → Outcome (Codes × State)
  outcome (finished m) = ok (all_of m.rest.here.codes, m.state)
  outcome too_deep = deep
  outcome _ = lost

module _ (naming : Naming) (env : Env) (store : Store) where
  -- the component's block, cells and instance are made, and its program is begun
  abbrev pub invoke_below_as : Mach → ℕ → Run
  invoke_below_as m left =
      let k = m.rest.making in
      let b = m.state.next a_block in
      let q = into (class_no env k.class).name ∷ next_at m.rest.here in
      let c = grow_cells_as naming env.app store q (class_no env k.class).fields (make a_block block_row m.state) in
      let i : Inst = record { id = c.state.next an_instance; path = q; cells = c.names } in
      let gm = block_id b ∷ m.made in
      go (make an_instance (instance_row i) c.state) m.stack [] 0 (record {
        getter = None;
        sight = sight k.class i k.args [] (passing b k.start k.slots m.rest.sight);
        pending = [];
        here = fresh q;
        making = idle;
        left = left;
        frames = m.rest.frames
            ++ record { here = m.rest.here; kind = in_component (record { getter = m.rest.getter; pc = suc m.pc; sight = m.rest.sight; pending = m.rest.pending }) i (instance_id i.id ∷ (gm ++ c.made)) gm k.args (Some b) } ∷ [];
      })

  abbrev pub do_invoke_as : Mach → ℕ → Run
  do_invoke_as m zero = too_deep
  do_invoke_as m (suc left) = invoke_below_as m left

  abbrev pub do_action_as : ℕ → Mach → Run
  do_action_as a m =
      given (slice_get (class_no env (class_of m.rest.sight)).actions a)
      (λ x. push_new (constant_form (v.action (naming.owner (inst_in m.rest.sight)) x.0 v.no_values)) m)

  -- the opcode at the present place
  abbrev pub do_op_as : Mach → Op → Run
  do_op_as m (op.Text b) = text_at env store m b (λ t. do_text t m)
  do_op_as m (op.Comment b) = text_at env store m b (λ t. do_comment t m)
  do_op_as m (op.Open b) = text_at env store m b (λ t. do_open t m)
  do_op_as m (op.Attr a b) = name_at env store m a (λ n. text_at env store m b (λ t. do_attr n t m))
  do_op_as m (op.AttrRef a) = name_at env store m a (λ n. given (popped m.stack) (do_attr_ref n m))
  do_op_as m op.Spread = spread_to m (passing_in m.rest.sight)
  do_op_as m (op.Mod a b) = given (slice_get (codes "on" ∷ env.manifest.modifiers) a) (λ n. do_mod b n m)
  do_op_as m op.Flush = do_flush m
  do_op_as m op.Close = with_top m do_close
  do_op_as m op.Put = given (popped m.stack) (do_put m)
  do_op_as m (op.If b) = given (popped m.stack) (do_if false b m)
  do_op_as m (op.Unless b) = given (popped m.stack) (do_if true b m)
  do_op_as m (op.Else b) = else_at m b (popped m.rest.frames)
  do_op_as m op.EndIf = with_end m do_end_if
  do_op_as m (op.Each a b) = name_at env store m a (λ n. given (popped m.stack) (do_each env store n b m))
  do_op_as m (op.Item a b) = with_top m (do_item_as naming)
  do_op_as m op.EndItem = with_end m do_end_item
  do_op_as m op.EndEach = with_end m do_end_each
  do_op_as m (op.Let a) = do_let a m
  do_op_as m (op.Bind a) = do_bind a m m.rest.pending
  do_op_as m op.EndLet = with_top m do_end_let
  do_op_as m (op.Comp a) = do_comp a m
  do_op_as m (op.Arg a) = name_at env store m a (λ n. given (popped m.stack) (do_arg n m))
  do_op_as m (op.Block a b) = unless_parts m (popped m.rest.frames) (name_at env store m a (λ n. do_block n b m))
  do_op_as m (op.Param a) = do_bind a m m.rest.pending
  do_op_as m op.EndBlock = with_end m do_end_block
  do_op_as m op.Bare = unless_parts m (popped m.rest.frames) (do_bare m)
  do_op_as m op.Invoke = do_invoke_as m m.rest.left
  do_op_as m (op.Yield a b) = name_at env store m b (λ n. do_yield a n m)
  do_op_as m op.Undef = push_new (constant_form v.undefined) m
  do_op_as m op.Null = push_new (constant_form v.null) m
  do_op_as m op.True = push_new (constant_form (v.boolean true)) m
  do_op_as m op.False = push_new (constant_form (v.boolean false)) m
  do_op_as m (op.Int b) = given (slice_get (program_at env store m).ints b) (λ z. push_new (constant_form (v.integer z)) m)
  do_op_as m (op.Str b) = text_at env store m b (λ t. push_new (constant_form (v.text t)) m)
  do_op_as m (op.Local a) = do_local env store a m
  do_op_as m (op.ArgRef a) = name_at env store m a (λ n. push_found (last_named n (args_in m.rest.sight)) m)
  do_op_as m (op.Field a) = do_field env store a m
  do_op_as m (op.Getter a) = do_getter env store a m
  do_op_as m (op.Action a) = do_action_as a m
  do_op_as m (op.Prop b) = text_at env store m b (λ t. given (popped m.stack) (do_prop t m))
  do_op_as m (op.Call a b) = given (name_of a helper_rows) (λ n. do_call b n m)
  do_op_as m (op.Named b) = text_at env store m b (λ t. given (popped m.stack) (do_named t m))
  do_op_as m (op.Cat a) = do_cat a m
  do_op_as m op.Done = with_end m do_done

  abbrev pub step_as : Mach → Run
  step_as m = given (op_at (program_at env store m) m.pc) (do_op_as m)

  -- what is over stays so
  abbrev pub step_run_as : Run → Run
  step_run_as (going m) = step_as m
  step_run_as r = r

  -- some number of steps lead from one to the other
  pub data Comes_as : Run → Run → Type 0 where
    here : {r : Run} → Comes_as r r
    more : {r s : Run} → Comes_as (step_run_as r) s → Comes_as r s

  -- so many steps
  abbrev pub after_as : ℕ → Run → Run
  after_as zero r = r
  after_as (suc n) r = after_as n (step_run_as r)

  -- what is appended from a start, where it ends within n steps
  abbrev pub run_for_as : ℕ → Runs
  run_for_as n s st = outcome env store (after_as n (begun env store s st))

-- By paths.

abbrev pub do_item : Mach → List Frame → Here → Kind → Run
do_item = do_item_as by_path

abbrev pub invoke_below : Env → Store → Mach → ℕ → Run
invoke_below = invoke_below_as by_path

abbrev pub do_invoke : Env → Store → Mach → ℕ → Run
do_invoke = do_invoke_as by_path

abbrev pub do_action : Env → Store → ℕ → Mach → Run
do_action = do_action_as by_path

abbrev pub do_op : Env → Store → Mach → Op → Run
do_op = do_op_as by_path

abbrev pub step : Env → Store → Mach → Run
step = step_as by_path

abbrev pub step_run : Env → Store → Run → Run
step_run = step_run_as by_path

abbrev pub Comes : Env → Store → Run → Run → Type 0
Comes = Comes_as by_path

abbrev pub after : Env → Store → ℕ → Run → Run
after = after_as by_path

abbrev pub run_for : Env → Store → ℕ → Runs
run_for = run_for_as by_path
