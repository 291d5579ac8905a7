-- Each expression's references give its value.
use Rattle.gl_plain.specs.Reads.{IdsBelow}
use Rattle.std.proofs.Common.{◌≡◌, ℕ, zero, suc, max, ◌≤◌, List, [], ◌∷◌, ◌++◌, map, Option, Some, None, refl, sym, ◌∙◌, ap, ap₂, subst, arith}
use Rattle.std.specs.Prelude.{unwrap_or}
use Rattle.gl_base.specs.Texts.{Text}
use Rattle.gl_base.specs.Names.{last_named}
use Rattle.gl_value.specs.Value.{undefined, text, action, no_values, plain}
use Rattle.gl_ast.specs.Template.{Expr, Exprs, NamedExprs, AttrValue}
use Rattle.gl_ast.specs.Template as t
use Rattle.gl_meaning.specs.App.{App}
use Rattle.gl_meaning.specs.Scope.{Pair, absent, of_value, NamedPairs, bind, cell, own_scope}
use Rattle.gl_meaning.specs.Eval.{Store, class_at, cell_value, Member, field_member, getter_member, action_member, member_of, call_pair, cat_pair, bare_pair, member_pair, eval_in, eval_all_in, eval_named_in, eval_deep, eval, eval_all, eval_named, eval_value, eval_given}
use Rattle.gl_plain.specs.Ids.{a_ref, Id, ref, occurs}
use Rattle.gl_plain.specs.State.{constant_form, call_form, joined_form, Names, names_by, Inst, MScope, mscope, MPassed, scope_by, own, cell_ref, State, refs_of}
use Rattle.gl_plain.specs.Binding.{Bound, BoundAll, BoundNames, old_ref, new_ref, bind_found, bind_bare, bind_member, bind_in, bind_all_in, bind_named_in, bind_deep, getters_in, bind_expr, bind_exprs, bind_pairs, bind_value, bind_args, bind_params}
use Rattle.gl_plain.specs.Stands.{top, NamesBelow, ScopeBelow}
use Rattle.gl_plain.proofs.Moves.{Moves, no_move}
use Rattle.gl_plain.proofs.Pairs.{names_below}
use Rattle.gl_plain.proofs.Binding.{Binds, BindsAll, BindsNames, ids_below, ids_same, names_below_same, obeys_left, obeys_right, both_made, after_is, new_is, old_is, along_is, mapped, last_by, OptionBelow, last_below, top_append, top_ends, ids_append, ids_of_names}

-- lower than all that was made
pub made_below : (b : ℕ) (st st' : State) (made : List Id) → b ≤ st.next a_ref → Moves st st' (λ q. 0) (λ q. occurs q made) → max b (top made) ≤ st'.next a_ref
made_below b st st' made le m = let j = top_ends st st' made m in let w = m.more (ref 0) in omega (arith, j, w, le)

pub left_top : (b : ℕ) (xs ys : List Id) → max b (top xs) ≤ max b (top (xs ++ ys))
left_top b xs ys = let h = top_append xs ys in omega (arith, h)

pub right_top : (b : ℕ) (xs ys : List Id) → max b (top ys) ≤ max b (top (xs ++ ys))
right_top b xs ys = let h = top_append xs ys in omega (arith, h)

module _ (app : App) (b : ℕ) (ms : MScope) where
  -- one after the others
  pub cons_is : (st : State) (x : Bound) (y : BoundAll) (E : Store → (ℕ → Pair) → Pair) (F : Store → (ℕ → Pair) → List Pair)
      → Binds app b ms st x E → BindsAll app b ms x.state y F
      → BindsAll app b ms st (record { ids = x.id ∷ y.ids; made = x.made ++ y.made; state = y.state }) (λ τ f. E τ f ∷ F τ f)
  cons_is st x y E F h k = record {
    moves = both_made st x.state y.state x.made y.made h.moves k.moves;
    gives = λ f τ ob c. ap₂ (λ v vs. v ∷ vs)
        (h.gives f τ (obeys_left st x.state y.state x.made y.made f h.moves k.moves ob) c)
        (k.gives f τ (obeys_right y.state.look x.made y.made f ob) c);
    low = ((let i = h.low in let j = left_top b x.made y.made in omega (arith, i, j)), ids_below _ _ (right_top b x.made y.made) y.ids k.low);
  }

  pub cons_named : (st : State) (n : Text) (x : Bound) (y : BoundNames) (E : Store → (ℕ → Pair) → Pair) (F : Store → (ℕ → Pair) → NamedPairs)
      → Binds app b ms st x E → BindsNames app b ms x.state y F
      → BindsNames app b ms st (record { names = (n, x.id) ∷ y.names; made = x.made ++ y.made; state = y.state }) (λ τ f. (n, E τ f) ∷ F τ f)
  cons_named st n x y E F h k = record {
    moves = both_made st x.state y.state x.made y.made h.moves k.moves;
    gives = λ f τ ob c. ap₂ (λ v vs. (n, v) ∷ vs)
        (h.gives f τ (obeys_left st x.state y.state x.made y.made f h.moves k.moves ob) c)
        (k.gives f τ (obeys_right y.state.look x.made y.made f ob) c);
    low = ((let i = h.low in let j = left_top b x.made y.made in omega (arith, i, j)), names_below _ _ (right_top b x.made y.made) y.names k.low);
  }

  pub none_is : (st : State) → BindsAll app b ms st (record { ids = []; made = []; state = st }) (λ τ f. [])
  none_is st = record { moves = no_move st; gives = λ f τ ob c. refl; low = tt }

  pub none_named : (st : State) → BindsNames app b ms st (record { names = []; made = []; state = st }) (λ τ f. [])
  none_named st = record { moves = no_move st; gives = λ f τ ob c. refl; low = tt }

module _ (app : App) (b : ℕ) (i : Inst) (a l : Names) (w : MPassed) (low : ScopeBelow app b (mscope i a l w)) where
  found_is : (n : Text) (ns : Names) → NamesBelow b ns → (o : Option ℕ) → last_named n ns ≡ o → (st : State)
      → Binds app b (mscope i a l w) st (bind_found o st) (λ τ f. unwrap_or (last_named n (names_by f ns)) absent)
  found_is n ns h (Some r) e st =
      old_is app b (mscope i a l w) st r (λ τ f. unwrap_or (last_named n (names_by f ns)) absent)
      (subst (OptionBelow b) e (last_below b n ns h))
      (λ f τ c. sym (ap (λ o. unwrap_or o absent) (last_by f n ns ∙ ap (mapped f) e)))
  found_is n ns h None e st =
      new_is app b (mscope i a l w) st (constant_form undefined) tt (λ τ f. unwrap_or (last_named n (names_by f ns)) absent)
      (λ f τ c. sym (ap (λ o. unwrap_or o absent) (last_by f n ns ∙ ap (mapped f) e)))

  bare_is : (n : Text) (ks : List Text) (o : Option ℕ) → last_named n l ≡ o → (st : State) → b ≤ st.next a_ref
      → Binds app b (mscope i a l w) st (bind_bare n ks o st) (λ τ f. bare_pair n ks (last_named n (names_by f l)))
  bare_is n ks (Some r) e st le =
      let h = along_is app b (mscope i a l w) ks st (old_ref r st) (λ τ f. f r) le
      (old_is app b (mscope i a l w) st r (λ τ f. f r) (subst (OptionBelow b) e (last_below b n l low.2)) (λ f τ c. refl)) in
      record { moves = h.moves; gives = λ f τ ob c. h.gives f τ ob c ∙ sym (ap (bare_pair n ks) (last_by f n l ∙ ap (mapped f) e)); low = h.low }
  bare_is n ks None e st le =
      new_is app b (mscope i a l w) st (call_form n [] []) tt (λ τ f. bare_pair n ks (last_named n (names_by f l)))
      (λ f τ c. sym (ap (bare_pair n ks) (last_by f n l ∙ ap (mapped f) e)))

  module _ (getter : Expr → State → Bound) (G : Store → (ℕ → Pair) → Expr → Pair)
      (getter_is : (e : Expr) (st : State) → b ≤ st.next a_ref → Binds app b (mscope i a l w) st (getter e st) (λ τ f. G τ f e)) where
    member_is : (x : Text) (m : Member) → member_of (class_at app i.path) x ≡ m → (st : State) → b ≤ st.next a_ref
        → Binds app b (mscope i a l w) st (bind_member app getter (mscope i a l w) x m st) (λ τ f. member_pair app τ (G τ f) (scope_by f (mscope i a l w)) x m)
    member_is x field_member e st le =
        old_is app b (mscope i a l w) st (cell_ref i x) (λ τ f. record { value = cell_value app τ i.path x; sources = cell i.path x ∷ [] }) (low.0 x e) (λ f τ c. c.0 x e)
    member_is x (getter_member g) e st le = getter_is g st le
    member_is x action_member e st le = new_is app b (mscope i a l w) st (constant_form (action i.path x no_values)) tt (λ τ f. of_value (action i.path x no_values)) (λ f τ c. refl)

    mutual
      pub expr_is : (e : Expr) (st : State) → b ≤ st.next a_ref
          → Binds app b (mscope i a l w) st (bind_in app getter (mscope i a l w) e st) (λ τ f. eval_in app τ (G τ f) (scope_by f (mscope i a l w)) e)
      expr_is (t.literal v) st le = new_is app b (mscope i a l w) st (constant_form (plain v)) tt (λ τ f. of_value (plain v)) (λ f τ c. refl)
      expr_is (t.this x ks) st le =
          along_is app b (mscope i a l w) ks st (bind_member app getter (mscope i a l w) x (member_of (class_at app i.path) x) st)
          (λ τ f. member_pair app τ (G τ f) (scope_by f (mscope i a l w)) x (member_of (class_at app i.path) x)) le
          (member_is x (member_of (class_at app i.path) x) refl st le)
      expr_is (t.argument n ks) st le =
          along_is app b (mscope i a l w) ks st (bind_found (last_named n a) st) (λ τ f. unwrap_or (last_named n (names_by f a)) absent) le
          (found_is n a low.1 (last_named n a) refl st)
      expr_is (t.bare n ks) st le = bare_is n ks (last_named n l) refl st le
      expr_is (t.call n es ns) st le =
          let x = bind_all_in app getter (mscope i a l w) es st in
          let h = exprs_are es st le in
          let le1 : b ≤ x.state.next a_ref = (let k = h.moves.more (ref 0) in omega (arith, k, le)) in
          let y = bind_named_in app getter (mscope i a l w) ns x.state in
          let k = named_are ns x.state le1 in
          let m = both_made st x.state y.state x.made y.made h.moves k.moves in
          let j = made_below b st y.state (x.made ++ y.made) le m in
          let lx = left_top b x.made y.made in
          let ly = right_top b x.made y.made in
          after_is app b (mscope i a l w) st y.state (x.made ++ y.made) m (call_form n x.ids y.names)
          (ids_append _ x.ids (refs_of y.names) (ids_below _ _ (omega (arith, lx, j)) x.ids h.low) (ids_of_names _ y.names (names_below _ _ (omega (arith, ly, j)) y.names k.low)))
          (λ τ f. call_pair n (eval_all_in app τ (G τ f) (scope_by f (mscope i a l w)) es) (eval_named_in app τ (G τ f) (scope_by f (mscope i a l w)) ns))
          (λ f τ ob c. ap₂ (call_pair n)
          (ids_same (y.state.next a_ref) f x.ids (ids_below _ _ (omega (arith, lx, j)) x.ids h.low) ∙ h.gives f τ (obeys_left st x.state y.state x.made y.made f h.moves k.moves ob) c)
          (names_below_same (y.state.next a_ref) f y.names (names_below _ _ (omega (arith, ly, j)) y.names k.low) ∙ k.gives f τ (obeys_right y.state.look x.made y.made f ob) c))
      expr_is (t.cat es) st le =
          let x = bind_all_in app getter (mscope i a l w) es st in
          let h = exprs_are es st le in
          let j = made_below b st x.state x.made le h.moves in
          after_is app b (mscope i a l w) st x.state x.made h.moves (joined_form x.ids) (ids_below _ _ j x.ids h.low)
          (λ τ f. cat_pair (eval_all_in app τ (G τ f) (scope_by f (mscope i a l w)) es))
          (λ f τ ob c. ap cat_pair (ids_same (x.state.next a_ref) f x.ids (ids_below _ _ j x.ids h.low) ∙ h.gives f τ ob c))

      pub exprs_are : (es : Exprs) (st : State) → b ≤ st.next a_ref
          → BindsAll app b (mscope i a l w) st (bind_all_in app getter (mscope i a l w) es st) (λ τ f. eval_all_in app τ (G τ f) (scope_by f (mscope i a l w)) es)
      exprs_are t.no_exprs st le = none_is app b (mscope i a l w) st
      exprs_are (t.expr e es) st le =
          let x = bind_in app getter (mscope i a l w) e st in
          let h = expr_is e st le in
          let le1 : b ≤ x.state.next a_ref = (let k = h.moves.more (ref 0) in omega (arith, k, le)) in
          cons_is app b (mscope i a l w) st x (bind_all_in app getter (mscope i a l w) es x.state) _ _ h (exprs_are es x.state le1)

      pub named_are : (ns : NamedExprs) (st : State) → b ≤ st.next a_ref
          → BindsNames app b (mscope i a l w) st (bind_named_in app getter (mscope i a l w) ns st) (λ τ f. eval_named_in app τ (G τ f) (scope_by f (mscope i a l w)) ns)
      named_are t.no_named st le = none_named app b (mscope i a l w) st
      named_are (t.named_expr n e ns) st le =
          let x = bind_in app getter (mscope i a l w) e st in
          let h = expr_is e st le in
          let le1 : b ≤ x.state.next a_ref = (let k = h.moves.more (ref 0) in omega (arith, k, le)) in
          cons_named app b (mscope i a l w) st n x (bind_named_in app getter (mscope i a l w) ns x.state) _ _ h (named_are ns x.state le1)

-- a binding in the scope of a getter is one in the scope round it
own_is : (app : App) (b : ℕ) (ms : MScope) (st : State) (x : Bound) (E : Store → (ℕ → Pair) → Pair) → Binds app b (own ms) st x E → Binds app b ms st x E
own_is app b (mscope i a l w) st x E h = record { moves = h.moves; gives = λ f τ ob c. h.gives f τ ob (c.0, tt); low = h.low }

own_below : (app : App) (b : ℕ) (ms : MScope) → ScopeBelow app b ms → ScopeBelow app b (own ms)
own_below app b (mscope i a l w) h = (h.0, h.1, tt, tt)

module _ (app : App) (b : ℕ) where
  deep_is : (n : ℕ) (ms : MScope) → ScopeBelow app b ms → (e : Expr) (st : State) → b ≤ st.next a_ref
      → Binds app b ms st (bind_deep n app ms e st) (λ τ f. eval_deep n app τ (scope_by f ms) e)
  deep_is zero ms low e st le = new_is app b ms st (constant_form undefined) tt (λ τ f. absent) (λ f τ c. refl)
  deep_is (suc n) (mscope i a l w) low e st le =
      expr_is app b i a l w low (bind_deep n app (own (mscope i a l w))) (λ τ f. eval_deep n app τ (own_scope (scope_by f (mscope i a l w))))
      (λ g st' le'. own_is app b (mscope i a l w) st' _ _ (deep_is n (own (mscope i a l w)) (own_below app b (mscope i a l w) low) g st' le')) e st le

  pub bound_is : (ms : MScope) → ScopeBelow app b ms → (e : Expr) (st : State) → b ≤ st.next a_ref → Binds app b ms st (bind_expr app ms e st) (λ τ f. eval app τ (scope_by f ms) e)
  bound_is (mscope i a l w) low e st le = deep_is (suc (getters_in app (mscope i a l w))) (mscope i a l w) low e st le

  pub bound_are : (ms : MScope) → ScopeBelow app b ms → (es : Exprs) (st : State) → b ≤ st.next a_ref → BindsAll app b ms st (bind_exprs app ms es st) (λ τ f. eval_all app τ (scope_by f ms) es)
  bound_are (mscope i a l w) low es st le =
      exprs_are app b i a l w low (bind_deep (getters_in app (mscope i a l w)) app (own (mscope i a l w)))
      (λ τ f. eval_deep (getters_in app (mscope i a l w)) app τ (own_scope (scope_by f (mscope i a l w))))
      (λ g st' le'. own_is app b (mscope i a l w) st' _ _ (deep_is (getters_in app (mscope i a l w)) (own (mscope i a l w)) (own_below app b (mscope i a l w) low) g st' le')) es st le

  pub bound_names : (ms : MScope) → ScopeBelow app b ms → (ns : NamedExprs) (st : State) → b ≤ st.next a_ref → BindsNames app b ms st (bind_pairs app ms ns st) (λ τ f. eval_named app τ (scope_by f ms) ns)
  bound_names (mscope i a l w) low ns st le =
      named_are app b i a l w low (bind_deep (getters_in app (mscope i a l w)) app (own (mscope i a l w)))
      (λ τ f. eval_deep (getters_in app (mscope i a l w)) app τ (own_scope (scope_by f (mscope i a l w))))
      (λ g st' le'. own_is app b (mscope i a l w) st' _ _ (deep_is (getters_in app (mscope i a l w)) (own (mscope i a l w)) (own_below app b (mscope i a l w) low) g st' le')) ns st le

  pub value_is : (ms : MScope) → ScopeBelow app b ms → (v : AttrValue) (st : State) → b ≤ st.next a_ref → Binds app b ms st (bind_value app ms v st) (λ τ f. eval_value app τ (scope_by f ms) v)
  value_is ms low (t.fixed z) st le = new_is app b ms st (constant_form (text z)) tt (λ τ f. of_value (text z)) (λ f τ c. refl)
  value_is ms low (t.live e) st le = bound_is ms low e st le

  pub args_are : (ms : MScope) → ScopeBelow app b ms → (gs : List (Text × AttrValue)) (st : State) → b ≤ st.next a_ref
      → BindsNames app b ms st (bind_args app ms gs st) (λ τ f. eval_given app τ (scope_by f ms) gs)
  args_are ms low [] st le = none_named app b ms st
  args_are ms low (g ∷ gs) st le =
      let x = bind_value app ms g.1 st in
      let h = value_is ms low g.1 st le in
      let le1 : b ≤ x.state.next a_ref = (let k = h.moves.more (ref 0) in omega (arith, k, le)) in
      cons_named app b ms st g.0 x (bind_args app ms gs x.state) _ _ h (args_are ms low gs x.state le1)

  -- parameters, in terms of the references given
  pub params_are : (ms : MScope) (ns : List Text) (rs : List ℕ) (st : State) → b ≤ st.next a_ref → IdsBelow b rs
      → BindsNames app b ms st (bind_params ns rs st) (λ τ f. bind ns (map f rs))
  params_are ms [] rs st le h = none_named app b ms st
  params_are ms (n ∷ ns) [] st le h =
      let x = new_ref (constant_form undefined) st in
      let k = new_is app b ms st (constant_form undefined) tt (λ τ f. absent) (λ f τ c. refl) in
      let le1 : b ≤ x.state.next a_ref = (let j = k.moves.more (ref 0) in omega (arith, j, le)) in
      cons_named app b ms st n x (bind_params ns [] x.state) _ _ k (params_are ms ns [] x.state le1 tt)
  params_are ms (n ∷ ns) (r ∷ rs) st le h =
      cons_named app b ms st n (old_ref r st) (bind_params ns rs st) _ _ (old_is app b ms st r (λ τ f. f r) h.0 (λ f τ c. refl)) (params_are ms ns rs st le h.1)
