-- The words of an expression push the reference that stands for it, where those of the getters that it mentions do.
use Rattle.std.proofs.Common.{◌≡◌, ℕ, suc, List, [], ◌∷◌, ◌++◌, map, length, Bool, true, false, Option, Some, None, refl, sym, ◌∙◌, ap, subst, inl, inr, append_assoc}
use Rattle.std.specs.Prelude.{slice_get}
use Rattle.std.proofs.lemmas.List.{length-append, length-map, append-nil}
use Rattle.gl_base.specs.Texts.{Text}
use Rattle.gl_base.specs.Names.{last_named, named, has_text}
use Rattle.gl_value.specs.Value as va
use Rattle.gl_ast.specs.Template as t
use Rattle.gl_ast.specs.Template.{Plain, Expr, literal, this, argument, bare, Exprs, no_exprs, expr, NamedExprs, no_named, named_expr}
use Rattle.gl_program.specs.Program.{Program, Stands}
use Rattle.gl_ops.specs.declared.op.Op.{Op}
use Rattle.gl_ops.specs.declared.op.Op.TheVariants as op
use Rattle.gl_meaning.specs.Eval.{Store, class_at, member_of}
use Rattle.gl_meaning.specs.Known.{mentions, all_mentions, named_mentions, Among}
use Rattle.gl_meaning.specs.Manifest.{ClassEntry}
use Rattle.gl_wire.specs.Symbols.{place_of}
use Rattle.gl_opc.specs.Spans.{LiteralAt, SegmentsAt, PathAt, HelperAt, NameAt, ExprAt, ExprsAt, NamedAt, count_exprs, count_named, count_both}
use Rattle.gl_plain.specs.Ids.{a_ref, Id, ref}
use Rattle.gl_plain.specs.State.{Form, constant_form, property_form, call_form, joined_form, Names, Inst, MScope, mscope, MPassed, State}
use Rattle.gl_plain.specs.Naming.{Naming}
use Rattle.gl_plain.specs.Binding.{Bound, made_row, old_ref, new_ref, after_made, bind_along, bind_found, bind_bare, bind_member_as, bind_in_as, bind_all_in_as, bind_named_in_as}
use Rattle.gl_machine.specs.Sight.{sight, Passing}
use Rattle.gl_machine.specs.Params.{Known}
use Rattle.gl_machine.specs.Env.{Env, class_no, by_symbol, texts_of}
use Rattle.gl_machine.specs.Placed.{IsOf}
use Rattle.gl_machine.specs.Mach.{Pushed, Here, Making, Frame, Rest, mach, go}
use Rattle.gl_machine.specs.Step.{program_of, push_new, push_old, push_found, do_op_as, do_getter, Comes_as, here}
use Rattle.gl_machine.proofs.Runs.{on, at_op, at_onto}
use Rattle.gl_machine.proofs.Stacks.{popped-last, unnamed, with_name, positional_are, named_are, lower_is, upper_is}
use Rattle.gl_machine.proofs.Symbols.{symbol_is, named_there, none_there}
use Rattle.gl_machine.proofs.Helpers.{helper_named}
use Rattle.gl_machine.proofs.Members.{MemberIs, is_field, is_getter, is_action, member_there, cell_there}

-- where the machine is in a program of a class, of which these are the symbols: that of its template, or of one of its getters
abbrev pub within : Option ℕ → List Text → ℕ → Inst → Names → Names → Passing → List ℕ → Here → Making → ℕ → List Frame → Rest
within g symbols c i a l w pending h k left fs =
    record { getter = g; sight = sight c i a (map (by_symbol symbols) l) w; pending = pending; here = h; making = k; left = left; frames = fs }

abbrev pub pushed : List Pushed → ℕ → List Pushed
pushed stk r = stk ++ (None, r) ∷ []

pub among_left : (x : Text) (xs ys : List Text) → Among x xs → Among x (xs ++ ys)
among_left x [] ys m = absurd m
among_left x (z ∷ xs) ys (inl e) = inl e
among_left x (z ∷ xs) ys (inr m) = inr (among_left x xs ys m)

pub among_right : (x : Text) (xs ys : List Text) → Among x ys → Among x (xs ++ ys)
among_right x [] ys m = m
among_right x (z ∷ xs) ys m = inr (among_right x xs ys m)

module _ (naming : Naming) (env : Env) (getter : Expr → State → Bound) (ms : MScope) where
  pub counted : (es : Exprs) (st : State) → length (bind_all_in_as naming env.app getter ms es st).ids ≡ count_exprs es
  counted no_exprs st = refl
  counted (expr e es) st = ap suc (counted es (bind_in_as naming env.app getter ms e st).state)

  pub counted_named : (ns : NamedExprs) (st : State) → length (bind_named_in_as naming env.app getter ms ns st).names ≡ count_named ns
  counted_named no_named st = refl
  counted_named (named_expr n e ns) st = ap suc (counted_named ns (bind_in_as naming env.app getter ms e st).state)

  pub counted_both : (st : State) (es : Exprs) (ns : NamedExprs)
      → length (map unnamed (bind_all_in_as naming env.app getter ms es st).ids ++ map with_name (bind_named_in_as naming env.app getter ms ns (bind_all_in_as naming env.app getter ms es st).state).names) ≡ count_both es ns
  counted_both st es ns =
      let x = bind_all_in_as naming env.app getter ms es st in
      let y = bind_named_in_as naming env.app getter ms ns x.state in
      rw (length-append (map unnamed x.ids) (map with_name y.names), length-map x.ids unnamed, length-map y.names with_name, counted es st, counted_named ns x.state) refl

module _ (naming : Naming) (env : Env) (store : Store) (getter : Expr → State → Bound) (g : Option ℕ) (symbols : List Text)
    (c : ℕ) (i : Inst) (a l : Names) (v : MPassed) (w : Passing) (known : Known symbols (texts_of l)) (is : IsOf env c i)
    (pending : List ℕ) (h : Here) (k : Making) (left : ℕ) (fs : List Frame) where
  abbrev rest : Rest
  rest = within g symbols c i a l w pending h k left fs

  abbrev ms : MScope
  ms = mscope i a l v

  abbrev program : Program
  program = program_of env store rest.getter rest.sight

  abbrev class : ClassEntry
  class = class_no env c

  -- a reference is pushed
  abbrev Pushes : State → List Pushed → List Id → ℕ → ℕ → Bound → Type 0
  Pushes st stk made from to b = Comes_as naming env store (go st stk made from rest) (go b.state (pushed stk b.id) (made ++ b.made) to rest)

  -- The words of a getter push what it is bound to.
  abbrev pub GetterPushes : ℕ → Expr → Type 0
  GetterPushes q e =
      (st : State) (stk : List Pushed) (made : List Id) (pc : ℕ) → let b = getter e st in
      Comes_as naming env store (do_getter env store q (mach st stk made pc rest)) (go b.state (pushed stk b.id) (made ++ b.made) (suc pc) rest)

  abbrev pub IsGood : Text → Type 0
  IsGood x = (q : ℕ) (y : Text × Expr) → slice_get class.getters q ≡ Some y → named x (class_at env.app i.path).getters ≡ Some y.1 → GetterPushes q y.1

  makes : (st : State) (stk : List Pushed) (made : List Id) (from : ℕ) (op : Op) (to : ℕ) (x : Form) → Stands program from op to
      → do_op_as naming env store (mach st stk made from rest) op ≡ push_new x (mach st stk made from rest) → Pushes st stk made from to (new_ref x st)
  makes st stk made from op to x at e =
      at_op naming env store st stk made from rest op to at (λ n. go (made_row x st) (pushed stk (st.next a_ref)) (made ++ ref (st.next a_ref) ∷ []) n rest) e

  finds : (st : State) (stk : List Pushed) (made : List Id) (from : ℕ) (op : Op) (to : ℕ) (r : ℕ) → Stands program from op to
      → do_op_as naming env store (mach st stk made from rest) op ≡ push_old r (mach st stk made from rest) → Pushes st stk made from to (old_ref r st)
  finds st stk made from op to r at e =
      subst (λ ids. Comes_as naming env store (go st stk made from rest) (go st (pushed stk r) ids to rest)) (sym (append-nil made))
      (at_op naming env store st stk made from rest op to at (λ n. go st (pushed stk r) made n rest) e)

  pub literal_pushes : (st : State) (stk : List Pushed) (made : List Id) (from : ℕ) (x : Plain) (to : ℕ) → LiteralAt program env.manifest class symbols from x to
      → Pushes st stk made from to (new_ref (constant_form (va.plain x)) st)
  literal_pushes st stk made from va.undefined to at = makes st stk made from op.Undef to _ at refl
  literal_pushes st stk made from va.null to at = makes st stk made from op.Null to _ at refl
  literal_pushes st stk made from (va.boolean true) to at = makes st stk made from op.True to _ at refl
  literal_pushes st stk made from (va.boolean false) to at = makes st stk made from op.False to _ at refl
  literal_pushes st stk made from (va.integer z) to (j, has, at) = makes st stk made from (op.Int j) to (constant_form (va.integer z)) at (rw has refl)
  literal_pushes st stk made from (va.text t) to (j, has, at) = makes st stk made from (op.Str j) to (constant_form (va.text t)) at (rw has refl)
  literal_pushes st stk made from (va.list vs) to at = absurd at
  literal_pushes st stk made from (va.pairs xs) to at = absurd at
  literal_pushes st stk made from (va.action o n vs) to at = absurd at

  -- the names that follow: what is made for them comes after what was made before
  segments_push : (b : Bound) (stk : List Pushed) (made : List Id) (from : ℕ) (ns : List Text) (to : ℕ) → SegmentsAt program env.manifest class symbols from ns to
      → Comes_as naming env store (go b.state (pushed stk b.id) (made ++ b.made) from rest)
      (go (bind_along ns b).state (pushed stk (bind_along ns b).id) (made ++ (bind_along ns b).made) to rest)
  segments_push b stk made from [] to at =
      subst (λ n. Comes_as naming env store (go b.state (pushed stk b.id) (made ++ b.made) from rest) (go b.state (pushed stk b.id) (made ++ b.made) n rest)) at here
  segments_push b stk made from (n ∷ ns) to (j, next, has, at, after) =
      let d = after_made b.made (property_form b.id n) b.state in
      on naming env store
      (subst (λ ids. Comes_as naming env store (go b.state (pushed stk b.id) (made ++ b.made) from rest) (go d.state (pushed stk d.id) ids next rest))
      (append_assoc made b.made (ref (b.state.next a_ref) ∷ []))
      (at_op naming env store b.state (pushed stk b.id) (made ++ b.made) from rest (op.Prop j) next at
      (λ m. go d.state (pushed stk d.id) ((made ++ b.made) ++ ref (b.state.next a_ref) ∷ []) m rest)
      (rw (has, popped-last stk (None, b.id)) refl)))
      (segments_push d stk made next ns to after)

  path_pushes : (st : State) (stk : List Pushed) (made : List Id) (from : ℕ) (op : Op) (ns : List Text) (to : ℕ) (b : Bound) → PathAt program env.manifest class symbols from op ns to
      → ((next : ℕ) → Stands program from op next → Pushes st stk made from next b) → Pushes st stk made from to (bind_along ns b)
  path_pushes st stk made from op ns to b (next, at, after) e = on naming env store (e next at) (segments_push b stk made next ns to after)

  helper_pushes : (st : State) (stk : List Pushed) (made : List Id) (rs : List ℕ) (ns : Names) (from : ℕ) (n : Text) (count to : ℕ)
      → HelperAt program env.manifest class symbols from n count to → length (map unnamed rs ++ map with_name ns) ≡ count
      → Comes_as naming env store (go st (stk ++ (map unnamed rs ++ map with_name ns)) made from rest)
      (go (made_row (call_form n rs ns) st) (pushed stk (st.next a_ref)) (made ++ ref (st.next a_ref) ∷ []) to rest)
  helper_pushes st stk made rs ns from n count to (j, number, at) e =
      let es = map unnamed rs ++ map with_name ns in
      at_op naming env store st (stk ++ es) made from rest (op.Call j count) to at (λ m. go (made_row (call_form n rs ns) st) (pushed stk (st.next a_ref)) (made ++ ref (st.next a_ref) ∷ []) m rest)
      (rw (helper_named n j number, lower_is stk es count e, upper_is stk es count e, positional_are rs ns, named_are rs ns) refl)

  -- a name, that of a parameter or of a helper
  name_pushes : (st : State) (stk : List Pushed) (made : List Id) (b whole : Bool) (from : ℕ) (n : Text) (ns : List Text) (to : ℕ) → has_text n (texts_of l) ≡ b
      → NameAt program env.manifest class symbols b whole from n ns to → Pushes st stk made from to (bind_bare n ns (last_named n l) st)
  name_pushes st stk made true whole from n ns to e at =
      let f = named_there n l e in
      rw f.1
      (path_pushes st stk made from (op.Local (place_of symbols n)) ns to (old_ref f.0 st) at
      (λ next at'. finds st stk made from (op.Local (place_of symbols n)) next f.0 at' (rw (symbol_is symbols n l (known n e), f.1) refl)))
  name_pushes st stk made false true from n [] to e at =
      rw (none_there n l e)
      (subst (λ es. Comes_as naming env store (go st es made from rest) (go (made_row (call_form n [] []) st) (pushed stk (st.next a_ref)) (made ++ ref (st.next a_ref) ∷ []) to rest)) (append-nil stk)
      (helper_pushes st stk made [] [] from n 0 to at refl))
  name_pushes st stk made false true from n (m ∷ ns) to e at = absurd at
  name_pushes st stk made false false from n ns to e at = absurd at

  found_pushes : (st : State) (stk : List Pushed) (made : List Id) (from to : ℕ) (o : Option ℕ) (op : Op) → Stands program from op to
      → do_op_as naming env store (mach st stk made from rest) op ≡ push_found o (mach st stk made from rest) → Pushes st stk made from to (bind_found o st)
  found_pushes st stk made from to (Some r) op at e = finds st stk made from op to r at e
  found_pushes st stk made from to None op at e = makes st stk made from op to (constant_form va.undefined) at e

  -- a member of `this`: a field's cell, what a getter pushes, or an action
  member_pushes : (st : State) (stk : List Pushed) (made : List Id) (from to : ℕ) (n : Text) (head : Op) → Stands program from head to → IsGood n
      → MemberIs class (class_at env.app i.path) n head → Pushes st stk made from to (bind_member_as naming env.app getter ms n (member_of (class_at env.app i.path) n) st)
  member_pushes st stk made from to n head at good (is_field f number same member) =
      let (y, there, cell) = cell_there env c i is n f number in
      rw member
      (subst (λ r. Pushes st stk made from to (old_ref r st)) cell
      (finds st stk made from (op.Field f) to y.1 (subst (λ o. Stands program from o to) same at) (rw there refl)))
  member_pushes st stk made from to n head at good (is_getter q y there found same member) =
      let b = getter y.1 st in
      rw member
      (at_onto naming env store st stk made from rest (op.Getter q) to (subst (λ o. Stands program from o to) same at)
      (λ m. go b.state (pushed stk b.id) (made ++ b.made) m rest) (good q y there found st stk made from))
  member_pushes st stk made from to n head at good (is_action q y there named_so same member) =
      rw member
      (makes st stk made from (op.Action q) to (constant_form (va.action (naming.owner i) n va.no_values)) (subst (λ o. Stands program from o to) same at)
      (rw (there, named_so) refl))

  mutual
    pub expr_pushes : (st : State) (stk : List Pushed) (made : List Id) (whole : Bool) (from : ℕ) (e : Expr) (to : ℕ) → ((x : Text) → Among x (mentions e) → IsGood x)
        → ExprAt program env.manifest class symbols whole (texts_of l) from e to → Pushes st stk made from to (bind_in_as naming env.app getter ms e st)
    expr_pushes st stk made whole from (literal x) to good at = literal_pushes st stk made from x to at
    expr_pushes st stk made whole from (this n ns) to good (head, member, at) =
        path_pushes st stk made from head ns to (bind_member_as naming env.app getter ms n (member_of (class_at env.app i.path) n) st) at
        (λ next at'. member_pushes st stk made from next n head at' (good n (inl refl)) (member_there env c i is n head member))
    expr_pushes st stk made whole from (argument n ns) to good (j, has, at) =
        path_pushes st stk made from (op.ArgRef j) ns to (bind_found (last_named n a) st) at
        (λ next at'. found_pushes st stk made from next (last_named n a) (op.ArgRef j) at' (rw has refl))
    expr_pushes st stk made whole from (bare n ns) to good at = name_pushes st stk made (has_text n (texts_of l)) whole from n ns to refl at
    expr_pushes st stk made whole from (t.call n es ns) to good (named, last, first, then, at) =
        let x = bind_all_in_as naming env.app getter ms es st in
        let y = bind_named_in_as naming env.app getter ms ns x.state in
        let q = ref (y.state.next a_ref) in
        on naming env store (exprs_push st stk made false from es named (λ z m. good z (among_left z (all_mentions es) (named_mentions ns) m)) first)
        (on naming env store (named_push x.state (stk ++ map unnamed x.ids) (made ++ x.made) named ns last (λ z m. good z (among_right z (all_mentions es) (named_mentions ns) m)) then)
        (subst (λ ids. Comes_as naming env store (go y.state ((stk ++ map unnamed x.ids) ++ map with_name y.names) ((made ++ x.made) ++ y.made) last rest)
        (go (made_row (call_form n x.ids y.names) y.state) (pushed stk (y.state.next a_ref)) ids to rest))
        (ap (λ ids. ids ++ q ∷ []) (append_assoc made x.made y.made) ∙ append_assoc made (x.made ++ y.made) (q ∷ []))
        (subst (λ z. Comes_as naming env store (go y.state z ((made ++ x.made) ++ y.made) last rest)
        (go (made_row (call_form n x.ids y.names) y.state) (pushed stk (y.state.next a_ref)) (((made ++ x.made) ++ y.made) ++ q ∷ []) to rest))
        (sym (append_assoc stk (map unnamed x.ids) (map with_name y.names)))
        (helper_pushes y.state stk ((made ++ x.made) ++ y.made) x.ids y.names last n (count_both es ns) to at (counted_both naming env getter ms st es ns)))))
    expr_pushes st stk made whole from (t.cat es) to good (last, first, at) =
        let x = bind_all_in_as naming env.app getter ms es st in
        let q = ref (x.state.next a_ref) in
        let e : length (map unnamed x.ids ++ map with_name []) ≡ count_exprs es =
        rw (append-nil (map unnamed x.ids), length-map x.ids unnamed) (counted naming env getter ms es st) in
        on naming env store (exprs_push st stk made true from es last good first)
        (subst (λ ids. Comes_as naming env store (go x.state (stk ++ map unnamed x.ids) (made ++ x.made) last rest) (go (made_row (joined_form x.ids) x.state) (pushed stk (x.state.next a_ref)) ids to rest))
        (append_assoc made x.made (q ∷ []))
        (subst (λ z. Comes_as naming env store (go x.state (stk ++ z) (made ++ x.made) last rest) (go (made_row (joined_form x.ids) x.state) (pushed stk (x.state.next a_ref)) ((made ++ x.made) ++ q ∷ []) to rest)) (append-nil (map unnamed x.ids))
        (at_op naming env store x.state (stk ++ (map unnamed x.ids ++ map with_name [])) (made ++ x.made) last rest (op.Cat (count_exprs es)) to at
        (λ m. go (made_row (joined_form x.ids) x.state) (pushed stk (x.state.next a_ref)) ((made ++ x.made) ++ q ∷ []) m rest)
        (rw (lower_is stk (map unnamed x.ids ++ map with_name []) (count_exprs es) e, upper_is stk (map unnamed x.ids ++ map with_name []) (count_exprs es) e, positional_are x.ids []) refl))))

    pub exprs_push : (st : State) (stk : List Pushed) (made : List Id) (whole : Bool) (from : ℕ) (es : Exprs) (to : ℕ) → ((x : Text) → Among x (all_mentions es) → IsGood x)
        → ExprsAt program env.manifest class symbols whole (texts_of l) from es to
        → (let x = bind_all_in_as naming env.app getter ms es st in Comes_as naming env store (go st stk made from rest) (go x.state (stk ++ map unnamed x.ids) (made ++ x.made) to rest))
    exprs_push st stk made whole from no_exprs to good at =
        subst (λ n. Comes_as naming env store (go st stk made from rest) (go st (stk ++ []) (made ++ []) n rest)) at (rw (append-nil stk, append-nil made) here)
    exprs_push st stk made whole from (expr e es) to good (next, first, then) =
        let x = bind_in_as naming env.app getter ms e st in
        let y = bind_all_in_as naming env.app getter ms es x.state in
        on naming env store (expr_pushes st stk made whole from e next (λ z m. good z (among_left z (mentions e) (all_mentions es) m)) first)
        (rw (← append_assoc stk (unnamed x.id ∷ []) (map unnamed y.ids), ← append_assoc made x.made y.made)
        (exprs_push x.state (pushed stk x.id) (made ++ x.made) whole next es to (λ z m. good z (among_right z (mentions e) (all_mentions es) m)) then))

    pub named_push : (st : State) (stk : List Pushed) (made : List Id) (from : ℕ) (ns : NamedExprs) (to : ℕ) → ((x : Text) → Among x (named_mentions ns) → IsGood x)
        → NamedAt program env.manifest class symbols (texts_of l) from ns to
        → (let x = bind_named_in_as naming env.app getter ms ns st in Comes_as naming env store (go st stk made from rest) (go x.state (stk ++ map with_name x.names) (made ++ x.made) to rest))
    named_push st stk made from no_named to good at =
        subst (λ n. Comes_as naming env store (go st stk made from rest) (go st (stk ++ []) (made ++ []) n rest)) at (rw (append-nil stk, append-nil made) here)
    named_push st stk made from (named_expr n e ns) to good (j, named, next, first, has, at, then) =
        let x = bind_in_as naming env.app getter ms e st in
        let y = bind_named_in_as naming env.app getter ms ns x.state in
        on naming env store (expr_pushes st stk made false from e named (λ z m. good z (among_left z (mentions e) (named_mentions ns) m)) first)
        (on naming env store
        (at_op naming env store x.state (pushed stk x.id) (made ++ x.made) named rest (op.Named j) next at (λ m. go x.state (stk ++ (Some n, x.id) ∷ []) (made ++ x.made) m rest) (rw (has, popped-last stk (None, x.id)) refl))
        (rw (← append_assoc stk (with_name (n, x.id) ∷ []) (map with_name y.names), ← append_assoc made x.made y.made)
        (named_push x.state (stk ++ with_name (n, x.id) ∷ []) (made ++ x.made) next ns to (λ z m. good z (among_right z (mentions e) (named_mentions ns) m)) then)))
