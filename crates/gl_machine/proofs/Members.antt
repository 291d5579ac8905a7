-- What a member of `this` is, by the opcode that it has.
use Rattle.std.proofs.Common.{◌≡◌, ℕ, Option, Some, None, refl, sym, ◌∙◌, ap, subst}
use Rattle.std.specs.Prelude.{slice_get, option_map, unwrap_or}
use Rattle.gl_base.specs.Texts.{Text}
use Rattle.gl_base.specs.Names.{named, or_else}
use Rattle.gl_ast.specs.Template.{Expr, Body}
use Rattle.gl_ops.specs.declared.op.Op.{Op}
use Rattle.gl_ops.specs.declared.op.Op.TheVariants as op
use Rattle.gl_meaning.specs.App.{Action, Class}
use Rattle.gl_meaning.specs.Eval.{class_at, field_member, getter_member, action_member, field_or, getter_or_action, member_of}
use Rattle.gl_meaning.specs.Manifest.{ClassEntry, class_of}
use Rattle.gl_opc.specs.Numbers.{number_in, keys, member_op}
use Rattle.gl_plain.specs.State.{Inst, cell_ref}
use Rattle.gl_machine.specs.Env.{Env, class_no}
use Rattle.gl_machine.specs.Placed.{IsOf}
use Rattle.gl_machine.proofs.Numbered.{some_is, none_some, row_at, row_none}

pub data MemberIs (e : ClassEntry) (c : Class) (x : Text) (head : Op) : Type 0 where
  is_field : (f : ℕ) → number_in (keys e.fields) x ≡ Some f → head ≡ op.Field f → member_of c x ≡ field_member → MemberIs e c x head
  is_getter : (g : ℕ) (y : Text × Expr) → slice_get e.getters g ≡ Some y → named x c.getters ≡ Some y.1 → head ≡ op.Getter g → member_of c x ≡ getter_member y.1 → MemberIs e c x head
  is_action : (a : ℕ) (y : Text × Action) → slice_get e.actions a ≡ Some y → y.0 ≡ x → head ≡ op.Action a → member_of c x ≡ action_member → MemberIs e c x head

mapped : {A B : Type 0} (f : A → B) (o : Option A) (y : B) → option_map f o ≡ Some y → (x : A) × (o ≡ Some x) × (y ≡ f x)
mapped f None y e = absurd (none_some y e)
mapped f (Some x) y e = (x, refl, sym (some_is (f x) y e))

pub member_is : (e : ClassEntry) (b : Body) (x : Text) (head : Op) → member_op e x ≡ Some head → MemberIs e (class_of e b) x head
member_is e b x head is = of_field (number_in (keys e.fields) x) refl is
  where
    of_action : number_in (keys e.fields) x ≡ None → number_in (keys e.getters) x ≡ None → option_map op.Action (number_in (keys e.actions) x) ≡ Some head → MemberIs e (class_of e b) x head
    of_action no_field no_getter is =
        let (a, number, same) = mapped op.Action (number_in (keys e.actions) x) head is in
        let (y, there, named_so, found) = row_at e.actions x a number in
        is_action a y there named_so same
        (ap (λ o. field_or o (getter_or_action (named x e.getters))) (row_none e.fields x no_field) ∙ ap getter_or_action (row_none e.getters x no_getter))

    of_getter : number_in (keys e.fields) x ≡ None → (o : Option ℕ) → number_in (keys e.getters) x ≡ o
        → or_else (option_map op.Getter o) (option_map op.Action (number_in (keys e.actions) x)) ≡ Some head → MemberIs e (class_of e b) x head
    of_getter no_field None number is = of_action no_field number is
    of_getter no_field (Some g) number is =
        let (y, there, named_so, found) = row_at e.getters x g number in
        is_getter g y there found (sym (some_is (op.Getter g) head is))
        (ap (λ o. field_or o (getter_or_action (named x e.getters))) (row_none e.fields x no_field) ∙ ap getter_or_action found)

    of_field : (o : Option ℕ) → number_in (keys e.fields) x ≡ o
        → or_else (option_map op.Field o) (or_else (option_map op.Getter (number_in (keys e.getters) x)) (option_map op.Action (number_in (keys e.actions) x))) ≡ Some head
        → MemberIs e (class_of e b) x head
    of_field None number is = of_getter number (number_in (keys e.getters) x) refl is
    of_field (Some f) number is =
        let (y, there, named_so, found) = row_at e.fields x f number in
        is_field f number (sym (some_is (op.Field f) head is)) (ap (λ o. field_or o (getter_or_action (named x e.getters))) found)

-- the same of an instance of the class
pub member_there : (env : Env) (c : ℕ) (i : Inst) → IsOf env c i → (x : Text) (head : Op) → member_op (class_no env c) x ≡ Some head
    → MemberIs (class_no env c) (class_at env.app i.path) x head
member_there env c i is x head e =
    subst (λ k. MemberIs (class_no env c) k x head) (sym is.class) (member_is (class_no env c) (class_at env.app i.path).template x head e)

-- an instance's cell, by the number of its field
pub cell_there : (env : Env) (c : ℕ) (i : Inst) → IsOf env c i → (x : Text) (f : ℕ) → number_in (keys (class_no env c).fields) x ≡ Some f
    → (y : Text × ℕ) × (slice_get i.cells f ≡ Some y) × (y.1 ≡ cell_ref i x)
cell_there env c i is x f number =
    let (y, there, named_so, found) = row_at i.cells x f (subst (λ ks. number_in ks x ≡ Some f) (sym is.cells) number) in
    (y, there, sym (ap (λ o. unwrap_or o 0) found))
