-- What is bound is there, and reads what was made for it or stands around it.
use Rattle.std.proofs.Common.{◌≡◌, ℕ, zero, suc, ◌+◌, ◌<◌, true, false, Bool, List, [], ◌∷◌, ◌++◌, Option, Some, None, refl, subst, sym, arith}
use Rattle.std.specs.Prelude.{if◌then◌else◌}
use Rattle.std.specs.Str.{bytes_eq}
use Rattle.gl_base.specs.Texts.{Text}
use Rattle.gl_base.specs.Names.{last_named, or_else}
use Rattle.gl_value.specs.Value.{undefined, text, action, no_values, plain}
use Rattle.gl_ast.specs.Template.{Expr, Exprs, NamedExprs, AttrValue}
use Rattle.gl_ast.specs.Template as t
use Rattle.gl_meaning.specs.App.{App}
use Rattle.gl_meaning.specs.Eval.{class_at, Member, field_member, getter_member, action_member, member_of}
use Rattle.gl_plain.specs.Ids.{Kind, a_ref, Id, ref, hit, occurs}
use Rattle.gl_plain.specs.State.{any_of, Form, Row, Thing, constant_form, property_form, call_form, joined_form, Names, refs_of, Inst, MScope, mscope, MPassed, mnothing, mpassed, own, cell_ref, row, State, make}
use Rattle.gl_plain.specs.Binding.{Bound, BoundAll, BoundNames, made_row, old_ref, new_ref, after_made, bind_along, bind_found, bind_bare, bind_member, bind_in, bind_all_in, bind_named_in, bind_deep, getters_in, bind_expr, bind_exprs, bind_pairs, bind_value, bind_args, bind_params}
use Rattle.gl_plain.specs.Reads.{reads}
use Rattle.gl_plain.proofs.Moves.{make_at, occurs_append, hit_self, hit_means}
use Rattle.gl_kept.specs.Around.{AllIn, IsThing, with_made, AllThere}
use Rattle.gl_kept.proofs.Frames.{New, new_both, recount, no_step, new_stays, make_new}
use Rattle.gl_kept.proofs.Stays.{Wider, all_more, thing_more, thing_same}

-- what was made from one state to another
pub record Makes (around : Id → ℕ) (st st' : State) (made : List Id) : Type 0 where
  pub frame : New (Unit {0}) st st' (λ q. occurs q made)
  pub there : AllThere st'.look around made

pub wider_makes : (c d : Id → ℕ) → Wider c d → (st st' : State) (made : List Id) → Makes c st st' made → Makes d st st' made
wider_makes c d f st st' made m = record {
  frame = m.frame;
  there = λ q w. thing_more (with_made made c) (with_made made d) (λ r. let k = f r in omega (arith, k)) q.kind (st'.look q) (m.there q w);
}

pub made_wider : (around : Id → ℕ) (made : List Id) → Wider around (with_made made around)
made_wider around made q = omega arith

pub none_made : (around : Id → ℕ) (st : State) → Makes around st st []
none_made around st = record { frame = no_step (Unit {0}) st; there = λ q w. absurd (omega (arith, w)) }

-- one after the other, which may read the first
pub both_made : (around : Id → ℕ) (st st1 st2 : State) (xs ys : List Id) → Makes around st st1 xs → Makes (with_made xs around) st1 st2 ys → Makes around st st2 (xs ++ ys)
both_made around st st1 st2 xs ys m n = record {
  frame = recount (Unit {0}) st st2 (λ q. 0) (λ q. 0) (λ q. occurs q (xs ++ ys)) (λ q. occurs q xs + occurs q ys) (λ q. refl) (λ q. occurs_append q xs ys)
      (new_both (Unit {0}) st st1 st2 (λ q. occurs q xs) (λ q. occurs q ys) m.frame n.frame);
  there = λ q w. by q w (occurs q xs) refl;
} where
  by : (q : Id) → 0 < occurs q (xs ++ ys) → (k : ℕ) → occurs q xs ≡ k → IsThing (with_made (xs ++ ys) around) q.kind (st2.look q)
  by q w zero e =
      thing_more (with_made ys (with_made xs around)) (with_made (xs ++ ys) around) (λ r. let k = occurs_append r xs ys in omega (arith, k)) q.kind (st2.look q)
      (n.there q (let k = occurs_append q xs ys in omega (arith, k, e, w)))
  by q w (suc k) e =
      let u : 0 < occurs q xs = omega (arith, e) in
      thing_more (with_made xs around) (with_made (xs ++ ys) around) (λ r. let k = occurs_append r xs ys in omega (arith, k)) q.kind (st2.look q)
      (thing_same (with_made xs around) q.kind (st1.look q) (st2.look q) (new_stays (Unit {0}) st st1 st2 (λ r. occurs r xs) (λ r. occurs r ys) m.frame n.frame q u) (m.there q u))

pub beside_made : (around : Id → ℕ) (st st1 st2 : State) (xs ys : List Id) → Makes around st st1 xs → Makes around st1 st2 ys → Makes around st st2 (xs ++ ys)
beside_made around st st1 st2 xs ys m n = both_made around st st1 st2 xs ys m (wider_makes around (with_made xs around) (made_wider around xs) st1 st2 ys n)

-- a reference that reads what is counted
pub row_makes : (around : Id → ℕ) (x : Row) (st : State) → AllIn around (reads x.form) → Makes around st (make a_ref (row x) st) (ref (st.next a_ref) ∷ [])
row_makes around x st all =
    let r = ref (st.next a_ref) in
    let st' = make a_ref (row x) st in
    record {
      frame = recount (Unit {0}) st st' (λ q. 0) (λ q. 0) (λ q. occurs q (r ∷ [])) (λ q. hit q r) (λ q. refl) (λ q. omega arith) (make_new a_ref (row x) st);
      there = λ q w. subst (λ j. IsThing (with_made (r ∷ []) around) j.kind (st'.look j)) (sym (hit_means q r (omega (arith, w))))
          (thing_same (with_made (r ∷ []) around) a_ref (Some (row x)) (st'.look r) (make_at a_ref (row x) st) (all_more around (with_made (r ∷ []) around) (made_wider around (r ∷ [])) (reads x.form) all));
    }

-- another thing after what was made
pub more_made : (around : Id → ℕ) (st st1 : State) (xs : List Id) (k : Kind) (x : Thing) → Makes around st st1 xs → IsThing (λ q. 0) k (Some x) → Makes around st (make k x st1) (record { kind = k; num = st1.next k } ∷ xs)
more_made around st st1 xs k x m is =
    let r : Id = record { kind = k; num = st1.next k } in
    let n = make_new k x st1 in
    record {
      frame = recount (Unit {0}) st (make k x st1) (λ q. 0) (λ q. 0) (λ q. occurs q (r ∷ xs)) (λ q. occurs q xs + hit q r) (λ q. refl) (λ q. omega arith)
          (new_both (Unit {0}) st st1 (make k x st1) (λ q. occurs q xs) (λ q. hit q r) m.frame n);
      there = λ q w. by q w (hit q r) refl;
    } where
      by : (q : Id) → 0 < occurs q (record { kind = k; num = st1.next k } ∷ xs) → (n : ℕ) → hit q (record { kind = k; num = st1.next k }) ≡ n → IsThing (with_made (record { kind = k; num = st1.next k } ∷ xs) around) q.kind ((make k x st1).look q)
      by q w (suc n) e =
          let r : Id = record { kind = k; num = st1.next k } in
          subst (λ j. IsThing (with_made (r ∷ xs) around) j.kind ((make k x st1).look j)) (sym (hit_means q r (omega (arith, e))))
          (thing_same (with_made (r ∷ xs) around) k (Some x) ((make k x st1).look r) (make_at k x st1) (thing_more (λ q. 0) (with_made (r ∷ xs) around) (λ j. omega arith) k (Some x) is))
      by q w zero e =
          let r : Id = record { kind = k; num = st1.next k } in
          let u : 0 < occurs q xs = omega (arith, e, w) in
          thing_more (with_made xs around) (with_made (r ∷ xs) around) (λ j. omega arith) q.kind ((make k x st1).look q)
          (thing_same (with_made xs around) q.kind (st1.look q) ((make k x st1).look q) (new_stays (Unit {0}) st st1 (make k x st1) (λ j. occurs j xs) (λ j. hit j r) m.frame (make_new k x st1) q u) (m.there q u))

-- What a binding gives

pub record Binds (around : Id → ℕ) (st : State) (x : Bound) : Type 0 where
  pub makes : Makes around st x.state x.made
  pub is : 0 < with_made x.made around (ref x.id)

pub record BindsAll (around : Id → ℕ) (st : State) (x : BoundAll) : Type 0 where
  pub makes : Makes around st x.state x.made
  pub are : AllIn (with_made x.made around) x.ids

pub record BindsNames (around : Id → ℕ) (st : State) (x : BoundNames) : Type 0 where
  pub makes : Makes around st x.state x.made
  pub are : AllIn (with_made x.made around) (refs_of x.names)

pub all_append : (c : Id → ℕ) (xs ys : List ℕ) → AllIn c xs → AllIn c ys → AllIn c (xs ++ ys)
all_append c [] ys h k = k
all_append c (x ∷ xs) ys h k = (h.0, all_append c xs ys h.1 k)

pub left_wider : (around : Id → ℕ) (xs ys : List Id) → Wider (with_made xs around) (with_made (xs ++ ys) around)
left_wider around xs ys q = let k = occurs_append q xs ys in omega (arith, k)

pub right_wider : (around : Id → ℕ) (xs ys : List Id) → Wider (with_made ys around) (with_made (xs ++ ys) around)
right_wider around xs ys q = let k = occurs_append q xs ys in omega (arith, k)

pub nested_wider : (around : Id → ℕ) (xs ys : List Id) → Wider (with_made ys (with_made xs around)) (with_made (xs ++ ys) around)
nested_wider around xs ys q = let k = occurs_append q xs ys in omega (arith, k)

module _ (around : Id → ℕ) where
  pub after_is : (st0 st : State) (made : List Id) → Makes around st0 st made → (form : Form) → AllIn (with_made made around) (reads form) → Binds around st0 (after_made made form st)
  after_is st0 st made m form all =
      let r = ref (st.next a_ref) in
      record {
        makes = both_made around st0 st (made_row form st) made (r ∷ []) m (row_makes (with_made made around) (record { form = form; last = any_of [] }) st all);
        is = let k = occurs_append r made (r ∷ []) in let h = hit_self r in omega (arith, k, h);
      }

  pub new_is : (st : State) (form : Form) → AllIn around (reads form) → Binds around st (new_ref form st)
  new_is st form all = let r = ref (st.next a_ref) in record { makes = row_makes around (record { form = form; last = any_of [] }) st all; is = let h = hit_self r in omega (arith, h) }

  pub old_is : (st : State) (r : ℕ) → 0 < around (ref r) → Binds around st (old_ref r st)
  old_is st r w = record { makes = none_made around st; is = omega (arith, w) }

  pub along_is : (ks : List Text) (st : State) (x : Bound) → Binds around st x → Binds around st (bind_along ks x)
  along_is [] st x h = h
  along_is (k ∷ ks) st x h =
      along_is ks st (after_made x.made (property_form x.id k) x.state) (after_is st x.state x.made h.makes (property_form x.id k) (h.is, tt))

  pub cons_is : (st : State) (x : Bound) (y : BoundAll) → Binds around st x → BindsAll around x.state y
      → BindsAll around st (record { ids = x.id ∷ y.ids; made = x.made ++ y.made; state = y.state })
  cons_is st x y h k = record {
    makes = beside_made around st x.state y.state x.made y.made h.makes k.makes;
    are = ((let w = h.is in let l = left_wider around x.made y.made (ref x.id) in omega (arith, w, l)), all_more _ _ (right_wider around x.made y.made) y.ids k.are);
  }

  pub cons_named : (st : State) (n : Text) (x : Bound) (y : BoundNames) → Binds around st x → BindsNames around x.state y
      → BindsNames around st (record { names = (n, x.id) ∷ y.names; made = x.made ++ y.made; state = y.state })
  cons_named st n x y h k = record {
    makes = beside_made around st x.state y.state x.made y.made h.makes k.makes;
    are = ((let w = h.is in let l = left_wider around x.made y.made (ref x.id) in omega (arith, w, l)), all_more _ _ (right_wider around x.made y.made) (refs_of y.names) k.are);
  }

  pub none_is : (st : State) → BindsAll around st (record { ids = []; made = []; state = st })
  none_is st = record { makes = none_made around st; are = tt }

  pub none_named : (st : State) → BindsNames around st (record { names = []; made = []; state = st })
  none_named st = record { makes = none_made around st; are = tt }

-- Scopes of which all references are counted

module _ (app : App) (around : Id → ℕ) where
  abbrev mutual
    pub ScopeIn : MScope → Type 0
    ScopeIn (mscope i a l w) = ((x : Text) → member_of (class_at app i.path) x ≡ field_member → 0 < around (ref (cell_ref i x))) × AllIn around (refs_of a) × AllIn around (refs_of l) × PassedIn w

    pub PassedIn : MPassed → Type 0
    PassedIn mnothing = Unit {0}
    PassedIn (mpassed k ps bs s) = ScopeIn s

mutual
  pub scope_more : (app : App) (c d : Id → ℕ) → Wider c d → (s : MScope) → ScopeIn app c s → ScopeIn app d s
  scope_more app c d f (mscope i a l w) h =
      ((λ x e. let k = h.0 x e in let u = f (ref (cell_ref i x)) in omega (arith, k, u)), all_more c d f (refs_of a) h.1, all_more c d f (refs_of l) h.2, passed_more app c d f w h.3)

  pub passed_more : (app : App) (c d : Id → ℕ) → Wider c d → (w : MPassed) → PassedIn app c w → PassedIn app d w
  passed_more app c d f mnothing h = tt
  passed_more app c d f (mpassed k ps bs s) h = scope_more app c d f s h

refs_append : (c : Id → ℕ) (xs ys : Names) → AllIn c (refs_of xs) → AllIn c (refs_of ys) → AllIn c (refs_of (xs ++ ys))
refs_append c [] ys h k = k
refs_append c (x ∷ xs) ys h k = (h.0, refs_append c xs ys h.1 k)

-- further parameters
pub local_in : (app : App) (c d : Id → ℕ) → Wider c d → (i : Inst) (a l names : Names) (w : MPassed) → ScopeIn app c (mscope i a l w) → AllIn d (refs_of names) → ScopeIn app d (mscope i a (l ++ names) w)
local_in app c d f i a l names w h k = let up = scope_more app c d f (mscope i a l w) h in (up.0, up.1, refs_append d l names up.2 k, up.3)

abbrev OptionIn : (Id → ℕ) → Option ℕ → Type 0
OptionIn c None = Unit {0}
OptionIn c (Some r) = 0 < c (ref r)

last_in : (c : Id → ℕ) (n : Text) (ns : Names) → AllIn c (refs_of ns) → OptionIn c (last_named n ns)
last_in c n [] h = tt
last_in c n (x ∷ ns) h = by (last_named n ns) (bytes_eq n x.0) (last_in c n ns h.1) where
  by : (o : Option ℕ) (u : Bool) → OptionIn c o → OptionIn c (or_else o (if u then Some x.1 else None))
  by (Some r) u k = k
  by None true k = h.0
  by None false k = tt

module _ (app : App) (around : Id → ℕ) (i : Inst) (a l : Names) (w : MPassed) (s : ScopeIn app around (mscope i a l w)) where
  found_is : (o : Option ℕ) → OptionIn around o → (st : State) → Binds around st (bind_found o st)
  found_is (Some r) h st = old_is around st r h
  found_is None h st = new_is around st (constant_form undefined) tt

  bare_is : (n : Text) (ks : List Text) (o : Option ℕ) → OptionIn around o → (st : State) → Binds around st (bind_bare n ks o st)
  bare_is n ks (Some r) h st = along_is around ks st (old_ref r st) (old_is around st r h)
  bare_is n ks None h st = new_is around st (call_form n [] []) tt

  module _ (getter : Expr → State → Bound) (getter_is : (e : Expr) (st : State) → Binds around st (getter e st)) where
    member_is : (x : Text) (m : Member) → member_of (class_at app i.path) x ≡ m → (st : State) → Binds around st (bind_member app getter (mscope i a l w) x m st)
    member_is x field_member e st = old_is around st (cell_ref i x) (s.0 x e)
    member_is x (getter_member g) e st = getter_is g st
    member_is x action_member e st = new_is around st (constant_form (action i.path x no_values)) tt

    mutual
      pub expr_is : (e : Expr) (st : State) → Binds around st (bind_in app getter (mscope i a l w) e st)
      expr_is (t.literal v) st = new_is around st (constant_form (plain v)) tt
      expr_is (t.this x ks) st =
          along_is around ks st (bind_member app getter (mscope i a l w) x (member_of (class_at app i.path) x) st) (member_is x (member_of (class_at app i.path) x) refl st)
      expr_is (t.argument n ks) st = along_is around ks st (bind_found (last_named n a) st) (found_is (last_named n a) (last_in around n a s.1) st)
      expr_is (t.bare n ks) st = bare_is n ks (last_named n l) (last_in around n l s.2) st
      expr_is (t.call n es ns) st =
          let x = bind_all_in app getter (mscope i a l w) es st in
          let h = exprs_are es st in
          let y = bind_named_in app getter (mscope i a l w) ns x.state in
          let k = named_are ns x.state in
          after_is around st y.state (x.made ++ y.made) (beside_made around st x.state y.state x.made y.made h.makes k.makes) (call_form n x.ids y.names)
          (all_append (with_made (x.made ++ y.made) around) x.ids (refs_of y.names) (all_more _ _ (left_wider around x.made y.made) x.ids h.are) (all_more _ _ (right_wider around x.made y.made) (refs_of y.names) k.are))
      expr_is (t.cat es) st = let x = bind_all_in app getter (mscope i a l w) es st in let h = exprs_are es st in after_is around st x.state x.made h.makes (joined_form x.ids) h.are

      pub exprs_are : (es : Exprs) (st : State) → BindsAll around st (bind_all_in app getter (mscope i a l w) es st)
      exprs_are t.no_exprs st = none_is around st
      exprs_are (t.expr e es) st =
          let x = bind_in app getter (mscope i a l w) e st in cons_is around st x (bind_all_in app getter (mscope i a l w) es x.state) (expr_is e st) (exprs_are es x.state)

      pub named_are : (ns : NamedExprs) (st : State) → BindsNames around st (bind_named_in app getter (mscope i a l w) ns st)
      named_are t.no_named st = none_named around st
      named_are (t.named_expr n e ns) st =
          let x = bind_in app getter (mscope i a l w) e st in cons_named around st n x (bind_named_in app getter (mscope i a l w) ns x.state) (expr_is e st) (named_are ns x.state)

own_in : (app : App) (around : Id → ℕ) (ms : MScope) → ScopeIn app around ms → ScopeIn app around (own ms)
own_in app around (mscope i a l w) h = (h.0, h.1, tt, tt)

module _ (app : App) (around : Id → ℕ) where
  deep_is : (n : ℕ) (ms : MScope) → ScopeIn app around ms → (e : Expr) (st : State) → Binds around st (bind_deep n app ms e st)
  deep_is zero ms s e st = new_is around st (constant_form undefined) tt
  deep_is (suc n) (mscope i a l w) s e st =
      expr_is app around i a l w s (bind_deep n app (own (mscope i a l w))) (λ g st'. deep_is n (own (mscope i a l w)) (own_in app around (mscope i a l w) s) g st') e st

  pub bound_is : (ms : MScope) → ScopeIn app around ms → (e : Expr) (st : State) → Binds around st (bind_expr app ms e st)
  bound_is ms s e st = deep_is (suc (getters_in app ms)) ms s e st

  pub bound_are : (ms : MScope) → ScopeIn app around ms → (es : Exprs) (st : State) → BindsAll around st (bind_exprs app ms es st)
  bound_are (mscope i a l w) s es st =
      exprs_are app around i a l w s (bind_deep (getters_in app (mscope i a l w)) app (own (mscope i a l w)))
      (λ g st'. deep_is (getters_in app (mscope i a l w)) (own (mscope i a l w)) (own_in app around (mscope i a l w) s) g st') es st

  pub bound_names : (ms : MScope) → ScopeIn app around ms → (ns : NamedExprs) (st : State) → BindsNames around st (bind_pairs app ms ns st)
  bound_names (mscope i a l w) s ns st =
      named_are app around i a l w s (bind_deep (getters_in app (mscope i a l w)) app (own (mscope i a l w)))
      (λ g st'. deep_is (getters_in app (mscope i a l w)) (own (mscope i a l w)) (own_in app around (mscope i a l w) s) g st') ns st

  pub value_is : (ms : MScope) → ScopeIn app around ms → (v : AttrValue) (st : State) → Binds around st (bind_value app ms v st)
  value_is ms s (t.fixed z) st = new_is around st (constant_form (text z)) tt
  value_is ms s (t.live e) st = bound_is ms s e st

  pub args_are : (ms : MScope) → ScopeIn app around ms → (gs : List (Text × AttrValue)) (st : State) → BindsNames around st (bind_args app ms gs st)
  args_are ms s [] st = none_named around st
  args_are ms s (g ∷ gs) st = let x = bind_value app ms g.1 st in cons_named around st g.0 x (bind_args app ms gs x.state) (value_is ms s g.1 st) (args_are ms s gs x.state)

-- parameters for references that are counted
pub params_are : (around : Id → ℕ) (ns : List Text) (rs : List ℕ) (st : State) → AllIn around rs → BindsNames around st (bind_params ns rs st)
params_are around [] rs st h = none_named around st
params_are around (n ∷ ns) [] st h =
    let x = new_ref (constant_form undefined) st in cons_named around st n x (bind_params ns [] x.state) (new_is around st (constant_form undefined) tt) (params_are around ns [] x.state tt)
params_are around (n ∷ ns) (r ∷ rs) st h =
    let k = params_are around ns rs st h.1 in
    record { makes = k.makes; are = (let w = h.0 in omega (arith, w), k.are) }

-- what was bound, and then its parameters
pub params_bound : (around : Id → ℕ) (ns : List Text) (rs : List ℕ) (st0 st : State) (made : List Id) → Makes around st0 st made → AllIn (with_made made around) rs
    → let y = bind_params ns rs st in BindsNames around st0 (record { names = y.names; made = made ++ y.made; state = y.state })
params_bound around ns rs st0 st made m h =
    let y = bind_params ns rs st in
    let k = params_are (with_made made around) ns rs st h in
    record {
      makes = both_made around st0 st y.state made y.made m k.makes;
      are = all_more _ _ (nested_wider around made y.made) (refs_of y.names) k.are;
    }
