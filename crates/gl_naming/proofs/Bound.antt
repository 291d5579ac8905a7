-- What is bound and placed with other names.
use Rattle.std.proofs.Common.{◌≡◌, ℕ, zero, suc, List, [], ◌∷◌, ◌++◌, map, Bool, true, false, ◌||◌, Option, Some, None, refl, ap, ap₂, sym, ◌∙◌}
use Rattle.std.specs.Prelude.{if◌then◌else◌}
use Rattle.gl_base.specs.Texts.{Text}
use Rattle.gl_base.specs.Names.{last_named}
use Rattle.gl_value.specs.Value.{Value, undefined, null, boolean, integer, text, list, pairs, action, Values, no_values, value, Members, no_members, member, plain, plain_values, plain_members}
use Rattle.gl_value.specs.Owners.{with_owners, values_with, members_with}
use Rattle.gl_ast.specs.Template as t
use Rattle.gl_ast.specs.Template.{Expr, Exprs, NamedExprs, AttrValue}
use Rattle.gl_meaning.specs.App.{App}
use Rattle.gl_meaning.specs.Path.{Path}
use Rattle.gl_meaning.specs.Scope.{Source, sources_of}
use Rattle.gl_meaning.specs.Eval.{class_at, Member, field_member, getter_member, action_member, member_of}
use Rattle.gl_plain.specs.Ids.{a_ref, Kind, Id, id_eq, ref}
use Rattle.gl_plain.specs.State.{Form, constant_form, property_form, call_form, joined_form, all_form, MScope, mscope, inst_of, args_of, locals_in, own, any_of, row, Thing, State, pair_of, make, note_evaluated}
use Rattle.gl_plain.specs.Naming.{by_number}
use Rattle.gl_plain.specs.Binding.{Bound, BoundAll, BoundNames, made_row, old_ref, new_ref, after_made, bind_along, bind_found, bind_bare, bind_member, bind_member_as, bind_in, bind_in_as, bind_all_in, bind_all_in_as, bind_named_in, bind_named_in_as, bind_deep, bind_deep_as, getters_in, bind_expr, bind_expr_as, bind_exprs, bind_exprs_as, bind_pairs, bind_pairs_as, bind_value, bind_value_as, bind_args, bind_args_as, bind_params, Placed, place}
use Rattle.gl_naming.specs.Renamed.{pair_with, form_with, thing_with, there_with, state_with, bound_with, bound_all_with, bound_names_with, placed_with, OwnerRight}
use Rattle.gl_naming.proofs.Pairs.{sources_to, pair_to}

-- a value without actions has no names in it
mutual
  pub plain_on : {O : Type 0} → (f : Path → Path) (v : Value O) → with_owners f (plain v) ≡ plain v
  plain_on f undefined = refl
  plain_on f null = refl
  plain_on f (boolean b) = refl
  plain_on f (integer i) = refl
  plain_on f (text s) = refl
  plain_on f (list vs) = ap list (plain_values_on f vs)
  plain_on f (pairs ms) = ap pairs (plain_members_on f ms)
  plain_on f (action o n vs) = refl

  plain_values_on : {O : Type 0} → (f : Path → Path) (vs : Values O) → values_with f (plain_values vs) ≡ plain_values vs
  plain_values_on f no_values = refl
  plain_values_on f (value v vs) = ap₂ value (plain_on f v) (plain_values_on f vs)

  plain_members_on : {O : Type 0} → (f : Path → Path) (ms : Members O) → members_with f (plain_members ms) ≡ plain_members ms
  plain_members_on f no_members = refl
  plain_members_on f (member k v ms) = ap₂ (λ w ns. member k w ns) (plain_on f v) (plain_members_on f ms)

-- one of the sources passes the test with its other name
pub any_map : (g : Source → Source) (xs : List Source) (u : Source → Bool) → any_of (map g xs) u ≡ any_of xs (λ y. u (g y))
any_map g [] u = refl
any_map g (x ∷ xs) u = ap (λ b. u (g x) || b) (any_map g xs u)

module _ (f : Path → Path) (g : Source → Source) (hot : Source → Bool) where
  abbrev im : State → State
  im st = state_with f g hot st

  pub make_im : (k : Kind) (x : Thing) (st : State) → make k (thing_with f g x) (im st) ≡ im (make k x st)
  make_im k x st = λ i. record {
    look = λ q. by q (id_eq q (record { kind = k; num = st.next k })) i;
    next = (make k x st).next;
    touched = hot;
    evaluated = st.evaluated;
    installs = st.installs;
    updates = st.updates;
  } where
    by : (q : Id) (b : Bool) → (if b then Some (thing_with f g x) else there_with f g (st.look q)) ≡ there_with f g (if b then Some x else st.look q)
    by q true = refl
    by q false = refl

  pub row_im : (x : Form) (st : State) → made_row (form_with f g x) (im st) ≡ im (made_row x st)
  row_im x st = make_im a_ref (row (record { form = x; last = any_of [] })) st

  abbrev bi : Bound → Bound
  bi b = bound_with f g hot b

  abbrev ai : BoundAll → BoundAll
  ai b = bound_all_with f g hot b

  abbrev ni : BoundNames → BoundNames
  ni b = bound_names_with f g hot b

  pub new_im : (x : Form) (st : State) → new_ref (form_with f g x) (im st) ≡ bi (new_ref x st)
  new_im x st = ap (λ s. record { id = st.next a_ref; made = ref (st.next a_ref) ∷ []; state = s }) (row_im x st)

  after_im : (made : List Id) (x : Form) (st : State) → after_made made (form_with f g x) (im st) ≡ bi (after_made made x st)
  after_im made x st = ap (λ s. record { id = st.next a_ref; made = made ++ ref (st.next a_ref) ∷ []; state = s }) (row_im x st)

  along_im : (ks : List Text) (b : Bound) → bind_along ks (bi b) ≡ bi (bind_along ks b)
  along_im [] b = refl
  along_im (k ∷ ks) b = ap (bind_along ks) (after_im b.made (property_form b.id k) b.state) ∙ along_im ks (after_made b.made (property_form b.id k) b.state)

  found_im : (o : Option ℕ) (st : State) → bind_found o (im st) ≡ bi (bind_found o st)
  found_im (Some r) st = refl
  found_im None st = new_im (constant_form undefined) st

  bare_im : (n : Text) (ks : List Text) (o : Option ℕ) (st : State) → bind_bare n ks o (im st) ≡ bi (bind_bare n ks o st)
  bare_im n ks (Some r) st = along_im ks (old_ref r st)
  bare_im n ks None st = new_im (call_form n [] []) st

  module _ (app : App) (gn gp : Expr → State → Bound) (ms : MScope) (right : OwnerRight f g (inst_of ms)) (getters : (e : Expr) (st : State) → gp e (im st) ≡ bi (gn e st)) where
    member_im : (x : Text) (m : Member) (st : State) → bind_member app gp ms x m (im st) ≡ bi (bind_member_as by_number app gn ms x m st)
    member_im x field_member st = refl
    member_im x (getter_member e) st = getters e st
    member_im x action_member st = ap (λ o. new_ref (constant_form (action o x no_values)) (im st)) (sym right) ∙ new_im (constant_form (action (by_number.owner (inst_of ms)) x no_values)) st

    mutual
      expr_im : (e : Expr) (st : State) → bind_in app gp ms e (im st) ≡ bi (bind_in_as by_number app gn ms e st)
      expr_im (t.literal v) st = ap (λ w. new_ref (constant_form w) (im st)) (sym (plain_on f v)) ∙ new_im (constant_form (plain v)) st
      expr_im (t.this x ks) st =
          let m = member_of (class_at app (inst_of ms).path) x in
          ap (bind_along ks) (member_im x m st) ∙ along_im ks (bind_member_as by_number app gn ms x m st)
      expr_im (t.argument n ks) st = ap (bind_along ks) (found_im (last_named n (args_of ms)) st) ∙ along_im ks (bind_found (last_named n (args_of ms)) st)
      expr_im (t.bare n ks) st = bare_im n ks (last_named n (locals_in ms)) st
      expr_im (t.call n es ns) st =
          let b = bind_all_in_as by_number app gn ms es st in
          let c = bind_named_in_as by_number app gn ms ns b.state in
          ap (λ y. let z = bind_named_in app gp ms ns y.state in after_made (y.made ++ z.made) (call_form n y.ids z.names) z.state) (all_im es st)
          ∙ (ap (λ z. after_made (b.made ++ z.made) (call_form n b.ids z.names) z.state) (named_im ns b.state) ∙ after_im (b.made ++ c.made) (call_form n b.ids c.names) c.state)
      expr_im (t.cat es) st =
          let b = bind_all_in_as by_number app gn ms es st in
          ap (λ y. after_made y.made (joined_form y.ids) y.state) (all_im es st) ∙ after_im b.made (joined_form b.ids) b.state

      all_im : (es : Exprs) (st : State) → bind_all_in app gp ms es (im st) ≡ ai (bind_all_in_as by_number app gn ms es st)
      all_im t.no_exprs st = refl
      all_im (t.expr e es) st =
          let b = bind_in_as by_number app gn ms e st in
          ap (λ y. let z = bind_all_in app gp ms es y.state in record { ids = y.id ∷ z.ids; made = y.made ++ z.made; state = z.state }) (expr_im e st)
          ∙ ap (λ z. record { ids = b.id ∷ z.ids; made = b.made ++ z.made; state = z.state }) (all_im es b.state)

      named_im : (ns : NamedExprs) (st : State) → bind_named_in app gp ms ns (im st) ≡ ni (bind_named_in_as by_number app gn ms ns st)
      named_im t.no_named st = refl
      named_im (t.named_expr n e ns) st =
          let b = bind_in_as by_number app gn ms e st in
          ap (λ y. let z = bind_named_in app gp ms ns y.state in record { names = (n, y.id) ∷ z.names; made = y.made ++ z.made; state = z.state }) (expr_im e st)
          ∙ ap (λ z. record { names = (n, b.id) ∷ z.names; made = b.made ++ z.made; state = z.state }) (named_im ns b.state)

  module _ (app : App) where
    deep_im : (n : ℕ) (ms : MScope) → OwnerRight f g (inst_of ms) → (e : Expr) (st : State) → bind_deep n app ms e (im st) ≡ bi (bind_deep_as by_number n app ms e st)
    deep_im zero ms right e st = new_im (constant_form undefined) st
    deep_im (suc n) (mscope i a l w) right e st =
        let ms = mscope i a l w in expr_im app (bind_deep_as by_number n app (own ms)) (bind_deep n app (own ms)) ms right (λ d st'. deep_im n (own ms) right d st') e st

    expr_bound : (ms : MScope) → OwnerRight f g (inst_of ms) → (e : Expr) (st : State) → bind_expr app ms e (im st) ≡ bi (bind_expr_as by_number app ms e st)
    expr_bound ms right e st = deep_im (suc (getters_in app ms)) ms right e st

    pub exprs_bound : (ms : MScope) → OwnerRight f g (inst_of ms) → (es : Exprs) (st : State) → bind_exprs app ms es (im st) ≡ ai (bind_exprs_as by_number app ms es st)
    exprs_bound (mscope i a l w) right es st =
        let ms = mscope i a l w in let n = getters_in app ms in
        all_im app (bind_deep_as by_number n app (own ms)) (bind_deep n app (own ms)) ms right (λ d st'. deep_im n (own ms) right d st') es st

    pub pairs_bound : (ms : MScope) → OwnerRight f g (inst_of ms) → (ns : NamedExprs) (st : State) → bind_pairs app ms ns (im st) ≡ ni (bind_pairs_as by_number app ms ns st)
    pairs_bound (mscope i a l w) right ns st =
        let ms = mscope i a l w in let n = getters_in app ms in
        named_im app (bind_deep_as by_number n app (own ms)) (bind_deep n app (own ms)) ms right (λ d st'. deep_im n (own ms) right d st') ns st

    value_bound : (ms : MScope) → OwnerRight f g (inst_of ms) → (v : AttrValue) (st : State) → bind_value app ms v (im st) ≡ bi (bind_value_as by_number app ms v st)
    value_bound ms right (t.fixed z) st = new_im (constant_form (text z)) st
    value_bound ms right (t.live e) st = expr_bound ms right e st

    pub args_bound : (ms : MScope) → OwnerRight f g (inst_of ms) → (gs : List (Text × AttrValue)) (st : State) → bind_args app ms gs (im st) ≡ ni (bind_args_as by_number app ms gs st)
    args_bound ms right [] st = refl
    args_bound ms right (x ∷ gs) st =
        let b = bind_value_as by_number app ms x.1 st in
        ap (λ y. let z = bind_args app ms gs y.state in record { names = (x.0, y.id) ∷ z.names; made = y.made ++ z.made; state = z.state }) (value_bound ms right x.1 st)
        ∙ ap (λ z. record { names = (x.0, b.id) ∷ z.names; made = b.made ++ z.made; state = z.state }) (args_bound ms right gs b.state)

    pub live_bound : (ms : MScope) → OwnerRight f g (inst_of ms) → (e : Expr) (st : State) → bind_expr app ms e (im st) ≡ bi (bind_expr_as by_number app ms e st)
    live_bound ms right e st = expr_bound ms right e st

  pub params_im : (ns : List Text) (rs : List ℕ) (st : State) → bind_params ns rs (im st) ≡ ni (bind_params ns rs st)
  params_im [] rs st = refl
  params_im (n ∷ ns) [] st =
      let b = new_ref (constant_form undefined) st in
      ap (λ y. let z = bind_params ns [] y.state in record { names = (n, y.id) ∷ z.names; made = y.made ++ z.made; state = z.state }) (new_im (constant_form undefined) st)
      ∙ ap (λ z. record { names = (n, b.id) ∷ z.names; made = b.made ++ z.made; state = z.state }) (params_im ns [] b.state)
  params_im (n ∷ ns) (r ∷ rs) st = ap (λ z. record { names = (n, r) ∷ z.names; made = z.made; state = z.state }) (params_im ns rs st)

  -- Positions

  module _ (once : (o p : Path) → f o ≡ f p → o ≡ p) where
    pub pairs_im : (st : State) (rs : List ℕ) → map (pair_of (im st).look) rs ≡ map (pair_with f g) (map (pair_of st.look) rs)
    pairs_im st [] = refl
    pairs_im st (r ∷ rs) = ap₂ (λ p ps. p ∷ ps) (pair_to f g once st.look r) (pairs_im st rs)

    pub place_im : (b : BoundAll) → place (ai b) ≡ placed_with f g hot (place b)
    place_im b =
        let r = b.state.next a_ref in
        let ps = map (pair_of b.state.look) b.ids in
        let spot : Rattle.gl_plain.specs.Binding.Spot = record { ref = r; made = b.made ++ ref r ∷ [] } in
        ap (λ qs. record { spot = spot; pairs = qs; state = note_evaluated r (make a_ref (row (record { form = all_form b.ids; last = any_of (sources_of qs) })) (im b.state)) }) (pairs_im b.state b.ids)
        ∙ (ap (λ u. record { spot = spot; pairs = map (pair_with f g) ps; state = note_evaluated r (make a_ref (row (record { form = all_form b.ids; last = u })) (im b.state)) })
        (λ i u. (ap (λ xs. any_of xs u) (sources_to f g ps) ∙ any_map g (sources_of ps) u) i)
        ∙ ap (λ s. record { spot = spot; pairs = map (pair_with f g) ps; state = note_evaluated r s }) (make_im a_ref (row (record { form = all_form b.ids; last = any_of (sources_of ps) })) b.state))
