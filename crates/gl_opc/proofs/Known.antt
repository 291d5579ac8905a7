-- In what a program lowers every name is known.
use Rattle.std.proofs.Common.{◌≡◌, ◌<◌, ℕ, zero, suc, List, [], ◌∷◌, ◌++◌, Bool, true, false, ◌||◌, ◌&&◌, if◌then◌else◌, Option, Some, None, length, get_or, map, is_some, refl, sym, ap, ◌∙◌, arith}
use Rattle.std.specs.Prelude.{codes, flat_map, option_map}
use Rattle.std.specs.Str.{bytes_eq}
use Rattle.std.proofs.lemmas.List.Quantifiers.{position-Some}
use Rattle.gl_base.specs.Names.{named, has_text, or_else}
use Rattle.gl_base.specs.Texts.{Text}
use Rattle.gl_value.specs.Helpers.{helper_table}
use Rattle.gl_value.specs.Value.{is_empty}
use Rattle.gl_ast.specs.Template.{Expr, literal, this, argument, bare, call, cat, Exprs, no_exprs, expr, NamedExprs, no_named, named_expr, AttrValue, fixed, live, Part, attribute, modifier, spread, Stmt, text_stmt, comment_stmt, put, element, component_stmt, if_stmt, each, let_stmt, yield, Body, end, stmt, Slots, no_slots, block}
use Rattle.gl_names.specs.Helpers.{helper_rows}
use Rattle.gl_ops.specs.declared.op.Op.{Op}
use Rattle.gl_ops.specs.declared.op.Op.TheVariants.{Field, Getter, Action}
use Rattle.gl_meaning.specs.Known.{Kind, Unknown, local_kind, unless_known, helper_unknown, has_member, has_class, expr_unknowns, exprs_unknowns, named_unknowns, value_unknowns, part_unknowns, stmt_unknowns, body_unknowns, slots_unknowns}
use Rattle.gl_meaning.specs.Manifest.{Manifest, ClassEntry, app_of, class_of, classes_of}
use Rattle.gl_program.specs.Program.{Program}
use Rattle.gl_opc.specs.TreeFaults.{Fault, template_faults, expr_faults, at_stmt}
use Rattle.gl_opc.specs.Lowers.{Lowers, LowersExpr}
use Rattle.gl_opc.specs.Numbers.{number_in, keys, helper_number, member_op}
use Rattle.gl_opc.specs.Spans.{NameAt, ExprAt, ExprsAt, NamedAt, ValueAt, PartAt, PartsAt, ArgumentsAt, StmtAt, BodyAt, BlocksAt}
use Rattle.gl_opc.proofs.TreeFaults.{unknowns_of, body_faults-unknowns}

or_right : (a b : Bool) → b ≡ true → (a || b) ≡ true
or_right true b e = refl
or_right false b e = e

-- Numbers

has_at : (n : Text) (xs : List Text) (i : ℕ) (d : Text) → i < length xs → bytes_eq n (get_or xs i d) ≡ true → has_text n xs ≡ true
has_at n [] i d l e = absurd (omega arith)
has_at n (x ∷ xs) zero d l e = rw e refl
has_at n (x ∷ xs) (suc i) d l e = or_right (bytes_eq n x) (has_text n xs) (has_at n xs i d (omega arith) e)

-- a name with a number stands in the list
numbered : (n : Text) (xs : List Text) (i : ℕ) → number_in xs n ≡ Some i → has_text n xs ≡ true
numbered n xs i e = let f = position-Some (λ m. bytes_eq n m) xs i [] e in has_at n xs i [] f.0 f.1

one_of : {A : Type 0} (b t : Bool) (x : A) (o : Option A) → t ≡ is_some o → (b || t) ≡ is_some (if b then Some x else o)
one_of true t x o e = refl
one_of false t x o e = e

has_key : {A : Type 0} (n : Text) (rows : List (Text × A)) → has_text n (keys rows) ≡ is_some (named n rows)
has_key n [] = refl
has_key n (r ∷ rs) = one_of (bytes_eq n r.0) (has_text n (keys rs)) r.1 (named n rs) (has_key n rs)

numbered_key : {A : Type 0} (n : Text) (rows : List (Text × A)) (i : ℕ) → number_in (keys rows) n ≡ Some i → is_some (named n rows) ≡ true
numbered_key n rows i e = sym (has_key n rows) ∙ numbered n (keys rows) i e

-- the two tables of helpers have the same names
same_helpers : keys helper_table ≡ keys helper_rows
unfolding helper_rows
same_helpers = refl

known : (b : Bool) (k : Kind) (n : Text) → b ≡ true → unless_known b k n ≡ []
known b k n e = rw e refl

helper_known : (n : Text) (h : ℕ) → helper_number n ≡ Some h → helper_unknown n ≡ []
helper_known n h e =
    known _ _ n (sym (has_key n helper_table) ∙ (ap (λ ns. has_text n ns) same_helpers ∙ (has_key n helper_rows ∙ ap is_some e)))

some_of : (head : Op) (x y z : Option ℕ) (a b c : Bool) → ((i : ℕ) → x ≡ Some i → a ≡ true) → ((i : ℕ) → y ≡ Some i → b ≡ true) → ((i : ℕ) → z ≡ Some i → c ≡ true) → or_else (option_map Field x) (or_else (option_map Getter y) (option_map Action z)) ≡ Some head → (a || (b || c)) ≡ true
some_of head (Some i) y z a b c f g h e = rw (f i refl) refl
some_of head None (Some i) z a b c f g h e = or_right a (b || c) (rw (g i refl) refl)
some_of head None None (Some i) a b c f g h e = or_right a (b || c) (or_right b c (h i refl))
some_of head None None None a b c f g h e = cc

member_known : (c : ClassEntry) (n : Text) (head : Op) → member_op c n ≡ Some head → has_member (class_of c end) n ≡ true
member_known c n head e =
    some_of head _ _ _ _ _ _ (numbered_key n c.fields) (numbered_key n c.getters) (numbered_key n c.actions) e

class_named : (n : Text) (cs : List ClassEntry) → has_text n (map (λ c. c.name) cs) ≡ has_class n (classes_of cs [])
class_named n [] = refl
class_named n (c ∷ cs) = ap (λ b. bytes_eq n c.name || b) (class_named n cs)

-- Spans

both : (us vs : List Unknown) → us ≡ [] → vs ≡ [] → us ++ vs ≡ []
both us vs e f = rw (e, f) refl

module _ (p : Program) (m : Manifest) (c : ClassEntry) (symbols : List Text) where
  name_known : (here whole : Bool) (from : ℕ) (n : Text) (ns : List Text) (to : ℕ) → NameAt p m c symbols here whole from n ns to → (if here then [] else (if whole && is_empty ns then helper_unknown n else record { kind = local_kind; name = n } ∷ [])) ≡ []
  name_known true whole from n ns to h = refl
  name_known false true from n [] to h = helper_known n h.0 h.1
  name_known false true from n (k ∷ ks) to h = absurd h
  name_known false false from n ns to h = absurd h

  mutual
    expr_known : (whole : Bool) (scope : List Text) (from : ℕ) (e : Expr) (to : ℕ) → ExprAt p m c symbols whole scope from e to → expr_unknowns (app_of m []) (class_of c end) whole scope e ≡ []
    expr_known whole scope from (literal x) to h = refl
    expr_known whole scope from (this n ns) to h = known _ _ n (member_known c n h.0 h.1)
    expr_known whole scope from (argument n ns) to h = refl
    expr_known whole scope from (bare n ns) to h = name_known (has_text n scope) whole from n ns to h
    expr_known whole scope from (call n es ns) to h =
        both _ _ (helper_known n h.4.0 h.4.1) (both _ _ (exprs_known false scope from es h.0 h.2) (named_known scope h.0 ns h.1 h.3))
    expr_known whole scope from (cat es) to h = exprs_known true scope from es h.0 h.1

    exprs_known : (whole : Bool) (scope : List Text) (from : ℕ) (es : Exprs) (to : ℕ) → ExprsAt p m c symbols whole scope from es to → exprs_unknowns (app_of m []) (class_of c end) whole scope es ≡ []
    exprs_known whole scope from no_exprs to h = refl
    exprs_known whole scope from (expr e es) to h = both _ _ (expr_known whole scope from e h.0 h.1) (exprs_known whole scope h.0 es to h.2)

    named_known : (scope : List Text) (from : ℕ) (ns : NamedExprs) (to : ℕ) → NamedAt p m c symbols scope from ns to → named_unknowns (app_of m []) (class_of c end) scope ns ≡ []
    named_known scope from no_named to h = refl
    named_known scope from (named_expr n e ns) to h = both _ _ (expr_known false scope from e h.1 h.3) (named_known scope h.2 ns to h.6)

  value_known : (scope : List Text) (from : ℕ) (x : AttrValue) (to : ℕ) → ValueAt p m c symbols scope from x to → value_unknowns (app_of m []) (class_of c end) scope x ≡ []
  value_known scope from (fixed s) to h = refl
  value_known scope from (live e) to h = expr_known true scope from e to h

  part_known : (scope : List Text) (from : ℕ) (x : Part) (to : ℕ) → PartAt p m c symbols scope from x to → part_unknowns (app_of m []) (class_of c end) scope x ≡ []
  part_known scope from (attribute n (fixed s)) to h = refl
  part_known scope from (attribute n (live e)) to h = expr_known true scope from e h.1 h.2
  part_known scope from (modifier n es ns) to h =
      both _ _ (known _ _ n (numbered n (codes "on" ∷ m.modifiers) h.0 h.5)) (both _ _ (exprs_known false scope from es h.1 h.3) (named_known scope h.1 ns h.2 h.4))
  part_known scope from spread to h = refl

  parts_known : (scope : List Text) (from : ℕ) (ps : List Part) (to : ℕ) → PartsAt p m c symbols scope from ps to → flat_map (part_unknowns (app_of m []) (class_of c end) scope) ps ≡ []
  parts_known scope from [] to h = refl
  parts_known scope from (x ∷ xs) to h = both _ _ (part_known scope from x h.0 h.1) (parts_known scope h.0 xs to h.2)

  arguments_known : (scope : List Text) (from : ℕ) (given : List (Text × AttrValue)) (to : ℕ) → ArgumentsAt p m c symbols scope from given to → flat_map (λ g. value_unknowns (app_of m []) (class_of c end) scope g.1) given ≡ []
  arguments_known scope from [] to h = refl
  arguments_known scope from (g ∷ gs) to h = both _ _ (value_known scope from g.1 h.1 h.3) (arguments_known scope h.2 gs to h.6)

  mutual
    stmt_known : (scope : List Text) (from : ℕ) (s : Stmt) (to : ℕ) → StmtAt p m c symbols scope from s to → stmt_unknowns (app_of m []) (class_of c end) scope s ≡ []
    stmt_known scope from (text_stmt s) to h = refl
    stmt_known scope from (comment_stmt s) to h = refl
    stmt_known scope from (put e) to h = expr_known true scope from e h.0 h.1
    stmt_known scope from (element tag ps b) to h = both _ _ (parts_known scope h.1 ps h.2 h.7) (body_known scope h.3 b h.4 h.9)
    stmt_known scope from (component_stmt n ps given ss) to h =
        both _ _ (known _ _ n (sym (class_named n m.classes) ∙ numbered n (map (λ c. c.name) m.classes) h.0 h.6))
        (both _ _ (arguments_known scope h.1 given h.2 h.8) (both _ _ (parts_known scope h.2 ps h.3 h.9) (slots_known scope h.3 ss h.4 h.10)))
    stmt_known scope from (if_stmt e unless b o) to h =
        both _ _ (expr_known false scope from e h.0 h.5) (both _ _ (body_known scope h.1 b h.2 h.7) (body_known scope h.3 o h.4 h.9))
    stmt_known scope from (each e key ns b o) to h =
        both _ _ (expr_known false scope from e h.1 h.8) (both _ _ (body_known (scope ++ ns) h.3 b h.4 h.12) (body_known scope h.6 o h.7 h.15))
    stmt_known scope from (let_stmt es ns b) to h = both _ _ (exprs_known false scope from es h.0 h.4) (body_known (scope ++ ns) h.2 b h.3 h.7)
    stmt_known scope from (yield es name) to h = exprs_known false scope from es h.1 h.2

    body_known : (scope : List Text) (from : ℕ) (b : Body) (to : ℕ) → BodyAt p m c symbols scope from b to → body_unknowns (app_of m []) (class_of c end) scope b ≡ []
    body_known scope from end to h = refl
    body_known scope from (stmt s b) to h = both _ _ (stmt_known scope from s h.0 h.1) (body_known scope h.0 b to h.2)

    slots_known : (scope : List Text) (from : ℕ) (ss : Slots) (to : ℕ) → BlocksAt p m c symbols scope from ss to → slots_unknowns (app_of m []) (class_of c end) scope ss ≡ []
    slots_known scope from no_slots to h = refl
    slots_known scope from (block name ns b ss) to h = both _ _ (body_known (scope ++ ns) h.2 b h.3 h.8) (slots_known scope h.4 ss to h.10)

-- Programs

no_fault : (fs : List Fault) → unknowns_of fs ≡ [] → fs ≡ []
no_fault [] e = refl
no_fault (f ∷ fs) e = cc

pub template_known : (p : Program) (b : Body) (m : Manifest) (c : ClassEntry) → Lowers p b m c → template_faults m c b ≡ []
template_known p b m c h =
    no_fault _ (body_faults-unknowns (app_of m []) (class_of c end) [] 0 b ∙ body_known p m c _ [] 0 b h.0 h.1)

pub expression_known : (p : Program) (e : Expr) (params : List Text) (m : Manifest) (c : ClassEntry) → LowersExpr p e params m c → expr_faults m c params e ≡ []
expression_known p e params m c h = ap (λ us. map (at_stmt 0) us) (expr_known p m c _ false params 0 e h.0 h.1)
