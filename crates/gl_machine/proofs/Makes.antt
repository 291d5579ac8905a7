-- Binding makes references and nothing else: what holds of making one, and of one after another, holds of it.
use Rattle.std.proofs.Common.{ℕ, zero, suc, List, [], ◌∷◌, Option, Some, None}
use Rattle.gl_base.specs.Texts.{Text}
use Rattle.gl_base.specs.Names.{last_named}
use Rattle.gl_value.specs.Value.{undefined, text, action, no_values, plain, count_value}
use Rattle.gl_ast.specs.Template.{Expr, Exprs, NamedExprs, AttrValue, Part, Plain}
use Rattle.gl_ast.specs.Template as t
use Rattle.gl_meaning.specs.App.{App}
use Rattle.gl_meaning.specs.Path.{Path}
use Rattle.gl_meaning.specs.Scope.{cell, item_value, item_index}
use Rattle.gl_meaning.specs.Eval.{Store, class_at, cell_value, Member, field_member, getter_member, action_member, member_of}
use Rattle.gl_meaning.specs.Parts.{Written}
use Rattle.gl_meaning.specs.Render.{Entry}
use Rattle.gl_plain.specs.Ids.{a_ref}
use Rattle.gl_plain.specs.State.{Form, constant_form, source_form, property_form, call_form, joined_form, MScope, inst_of, args_of, locals_in, own, State}
use Rattle.gl_plain.specs.Binding.{Bound, made_row, old_ref, after_made, bind_along, bind_found, bind_bare, bind_member, bind_in, bind_all_in, bind_named_in, bind_deep, getters_in, bind_expr, bind_exprs, bind_pairs, bind_value, bind_args, bind_params}
use Rattle.gl_plain.specs.Tags.{bind_part, bind_written, Given, fixed_given, live_given, given_ref, given_refs}
use Rattle.gl_plain.specs.Grow.{grow_cells, item_spot}

module _ (R : State → State → Type 0) (none : (st : State) → R st st) (both : (st st1 st2 : State) → R st st1 → R st1 st2 → R st st2) (one : (x : Form) (st : State) → R st (made_row x st)) where
  more : (x : Form) (st st' : State) → R st st' → R st (made_row x st')
  more x st st' h = both st st' (made_row x st') h (one x st')

  along_makes : (ks : List Text) (st : State) (b : Bound) → R st b.state → R st (bind_along ks b).state
  along_makes [] st b h = h
  along_makes (k ∷ ks) st b h = along_makes ks st (after_made b.made (property_form b.id k) b.state) (more (property_form b.id k) st b.state h)

  found_makes : (o : Option ℕ) (st : State) → R st (bind_found o st).state
  found_makes (Some r) st = none st
  found_makes None st = one (constant_form undefined) st

  bare_makes : (n : Text) (ks : List Text) (o : Option ℕ) (st : State) → R st (bind_bare n ks o st).state
  bare_makes n ks (Some r) st = along_makes ks st (old_ref r st) (none st)
  bare_makes n ks None st = one (call_form n [] []) st

  module _ (app : App) (getter : Expr → State → Bound) (ms : MScope) (getters : (e : Expr) (st : State) → R st (getter e st).state) where
    member_makes : (x : Text) (m : Member) (st : State) → R st (bind_member app getter ms x m st).state
    member_makes x field_member st = none st
    member_makes x (getter_member g) st = getters g st
    member_makes x action_member st = one (constant_form (action (inst_of ms).path x no_values)) st

    mutual
      expr_makes : (e : Expr) (st : State) → R st (bind_in app getter ms e st).state
      expr_makes (t.literal v) st = one (constant_form (plain v)) st
      expr_makes (t.this x ks) st = let m = member_of (class_at app (inst_of ms).path) x in along_makes ks st (bind_member app getter ms x m st) (member_makes x m st)
      expr_makes (t.argument n ks) st = along_makes ks st (bind_found (last_named n (args_of ms)) st) (found_makes (last_named n (args_of ms)) st)
      expr_makes (t.bare n ks) st = bare_makes n ks (last_named n (locals_in ms)) st
      expr_makes (t.call n es ns) st =
          let b = bind_all_in app getter ms es st in let c = bind_named_in app getter ms ns b.state in
          more (call_form n b.ids c.names) st c.state (both st b.state c.state (all_make es st) (named_make ns b.state))
      expr_makes (t.cat es) st = let b = bind_all_in app getter ms es st in more (joined_form b.ids) st b.state (all_make es st)

      all_make : (es : Exprs) (st : State) → R st (bind_all_in app getter ms es st).state
      all_make t.no_exprs st = none st
      all_make (t.expr e es) st = let b = bind_in app getter ms e st in let c = bind_all_in app getter ms es b.state in both st b.state c.state (expr_makes e st) (all_make es b.state)

      named_make : (ns : NamedExprs) (st : State) → R st (bind_named_in app getter ms ns st).state
      named_make t.no_named st = none st
      named_make (t.named_expr n e ns) st = let b = bind_in app getter ms e st in let c = bind_named_in app getter ms ns b.state in both st b.state c.state (expr_makes e st) (named_make ns b.state)

  module _ (app : App) where
    deep_makes : (n : ℕ) (ms : MScope) (e : Expr) (st : State) → R st (bind_deep n app ms e st).state
    deep_makes zero ms e st = one (constant_form undefined) st
    deep_makes (suc n) ms e st = expr_makes app (bind_deep n app (own ms)) ms (λ g st'. deep_makes n (own ms) g st') e st

    bound_makes : (ms : MScope) (e : Expr) (st : State) → R st (bind_expr app ms e st).state
    bound_makes ms e st = deep_makes (suc (getters_in app ms)) ms e st

    pub exprs_make : (ms : MScope) (es : Exprs) (st : State) → R st (bind_exprs app ms es st).state
    exprs_make ms es st = all_make app (bind_deep (getters_in app ms) app (own ms)) ms (λ g st'. deep_makes (getters_in app ms) (own ms) g st') es st

    pairs_make : (ms : MScope) (ns : NamedExprs) (st : State) → R st (bind_pairs app ms ns st).state
    pairs_make ms ns st = named_make app (bind_deep (getters_in app ms) app (own ms)) ms (λ g st'. deep_makes (getters_in app ms) (own ms) g st') ns st

    value_makes : (ms : MScope) (v : AttrValue) (st : State) → R st (bind_value app ms v st).state
    value_makes ms (t.fixed z) st = one (constant_form (text z)) st
    value_makes ms (t.live e) st = bound_makes ms e st

    pub args_make : (ms : MScope) (gs : List (Text × AttrValue)) (st : State) → R st (bind_args app ms gs st).state
    args_make ms [] st = none st
    args_make ms (g ∷ gs) st = let b = bind_value app ms g.1 st in let c = bind_args app ms gs b.state in both st b.state c.state (value_makes ms g.1 st) (args_make ms gs b.state)

    part_makes : (ms : MScope) (p : Part) (st : State) → R st (bind_part app ms p st).state
    part_makes ms (t.attribute n (t.fixed z)) st = none st
    part_makes ms (t.attribute n (t.live e)) st = bound_makes ms e st
    part_makes ms (t.modifier n es ns) st =
        let b = bind_exprs app ms es st in let c = bind_pairs app ms ns b.state in both st b.state c.state (exprs_make ms es st) (pairs_make ms ns b.state)
    part_makes ms t.spread st = none st

    pub written_make : (ws : List (Written MScope)) (st : State) → R st (bind_written app ws st).state
    written_make [] st = none st
    written_make (w ∷ ws) st = let b = bind_part app w.by w.part st in let c = bind_written app ws b.state in both st b.state c.state (part_makes w.by w.part st) (written_make ws b.state)

    pub cells_make : (τ : Store) (q : Path) (fs : List (Text × Plain)) (st : State) → R st (grow_cells app τ q fs st).state
    cells_make τ q [] st = none st
    cells_make τ q (f ∷ fs) st =
        let x = source_form (cell q f.0) (cell_value app τ q f.0) in
        let c = grow_cells app τ q fs (made_row x st) in both st (made_row x st) c.state (one x st) (cells_make τ q fs (made_row x st))

  pub params_make : (ns : List Text) (rs : List ℕ) (st : State) → R st (bind_params ns rs st).state
  params_make [] rs st = none st
  params_make (n ∷ ns) [] st =
      let st1 = made_row (constant_form undefined) st in let c = bind_params ns [] st1 in both st st1 c.state (one (constant_form undefined) st) (params_make ns [] st1)
  params_make (n ∷ ns) (r ∷ rs) st = params_make ns rs st

  given_makes : (g : Given) (st : State) → R st (given_ref g st).state
  given_makes (fixed_given z) st = one (constant_form (text z)) st
  given_makes (live_given r) st = none st

  pub givens_make : (gs : List (Text × Given)) (st : State) → R st (given_refs gs st).state
  givens_make [] st = none st
  givens_make (g ∷ gs) st = let b = given_ref g.1 st in let c = given_refs gs b.state in both st b.state c.state (given_makes g.1 st) (givens_make gs b.state)

  pub spot_makes : (ns : List Text) (q : Path) (x : Entry) (st : State) → R st (item_spot ns q x st).1
  spot_makes ns q x st =
      let v = source_form (item_value q) x.value in
      let i = source_form (item_index q) (count_value x.index) in
      let st1 = made_row v st in
      let st2 = made_row i st1 in
      let rs : List ℕ = st.next a_ref ∷ st1.next a_ref ∷ [] in
      both st st2 (bind_params ns rs st2).state (both st st1 st2 (one v st) (one i st1)) (params_make ns rs st2)
