-- The unknown names of a wire are those of the tree that it is the wire of, at the same places.
use Rattle.std.proofs.Common.{◌≡◌, ℕ, suc, ◌+◌, List, [], ◌∷◌, ◌++◌, Bool, true, false, ◌||◌, ◌&&◌, Option, Some, None, map, is_some, refl, sym, ap, ◌∙◌, arith, append_assoc, append-nil}
use Rattle.std.specs.Prelude.{codes, flat_map, option_map, nat_lt, length, not, if◌then◌else◌}
use Rattle.std.specs.List.{position_or_len}
use Rattle.std.proofs.lemmas.Bool.Decides.{nat_tests}
use Rattle.std.specs.Str.{bytes_eq}
use Rattle.std.proofs.lemmas.List.{map-append}
use Rattle.gl_base.specs.Names.{named, has_text, or_else}
use Rattle.gl_base.specs.Texts.{Text}
use Rattle.gl_value.specs.Helpers.{helper_table}
use Rattle.gl_value.specs.Value.{is_empty}
use Rattle.gl_ast.specs.Template as t
use Rattle.gl_names.specs.Helpers.{helper_rows}
use Rattle.gl_ops.specs.declared.op.Op.TheVariants.{Field, Getter, Action}
use Rattle.gl_meaning.specs.Known as k
use Rattle.gl_meaning.specs.Manifest.{Manifest, ClassEntry, app_of, class_of, classes_of}
use Rattle.gl_wire.specs.Wire as w
use Rattle.gl_wire.specs.WireOf.{followed, path_of, expr_wire, exprs_wire, named_wire, part_wire, parts_wire, value_wire, arguments_wire, stmt_wire, body_wire, slots_wire, wire_of, expr_wire_of}
use Rattle.gl_wire.specs.Symbols.{with_names, place_of, symbols_of, expr_symbols_of}
use Rattle.gl_opc.specs.Numbers.{number_in, keys, class_number, modifier_number, helper_number, member_op}
use Rattle.gl_opc.specs.TreeFaults as tree
use Rattle.gl_opc.specs.WireFaults as wire
use Rattle.gl_opc.proofs.SameNames.{SameNames, same_more}

-- Numbers: a name has one where it stands in the list

some_mapped : {A B : Type 0} (f : A → B) (o : Option A) → is_some (option_map f o) ≡ is_some o
some_mapped f None = refl
some_mapped f (Some x) = refl

some_either : {A : Type 0} (x y : Option A) (a b : Bool) → is_some x ≡ a → is_some y ≡ b → is_some (or_else x y) ≡ (a || b)
some_either None y a b e f = f ∙ ap (λ z. z || b) e
some_either (Some x) y a b e f = ap (λ z. z || b) e

some_where : {A : Type 0} (b : Bool) (x : A) → is_some (if b then Some x else None) ≡ b
some_where true x = refl
some_where false x = refl

below_next : (i j : ℕ) → nat_lt (1 + i) (suc j) ≡ nat_lt i j
below_next i j = grind (arith, nat_tests)

below_first : (j : ℕ) → nat_lt 0 (suc j) ≡ true
below_first j = grind (arith, nat_tests)

below_more : (b : Bool) (i j : ℕ) (c : Bool) → nat_lt i j ≡ c → nat_lt (if not b then 1 + i else 0) (suc j) ≡ (b || c)
below_more true i j c e = below_first j
below_more false i j c e = below_next i j ∙ e

below_length : (n : Text) (names : List Text) → nat_lt (position_or_len (λ m. bytes_eq n m) names) (length names) ≡ has_text n names
below_length n [] = refl
below_length n (m ∷ ms) = below_more (bytes_eq n m) _ _ _ (below_length n ms)

pub number_known : (n : Text) (names : List Text) → is_some (number_in names n) ≡ has_text n names
number_known n names = some_where _ (position_or_len (λ m. bytes_eq n m) names) ∙ below_length n names

key_or : {A : Type 0} (b t : Bool) (x : A) (o : Option A) → t ≡ is_some o → (b || t) ≡ is_some (if b then Some x else o)
key_or true t x o e = refl
key_or false t x o e = e

key_known : {A : Type 0} (n : Text) (rows : List (Text × A)) → has_text n (keys rows) ≡ is_some (named n rows)
key_known n [] = refl
key_known n (r ∷ rs) = key_or (bytes_eq n r.0) (has_text n (keys rs)) r.1 (named n rs) (key_known n rs)

one_table : keys helper_rows ≡ keys helper_table
unfolding helper_rows
one_table = refl

pub helper_alike : (n : Text) → is_some (helper_number n) ≡ is_some (named n helper_table)
helper_alike n = sym (key_known n helper_rows) ∙ (ap (λ ns. has_text n ns) one_table ∙ key_known n helper_table)

-- the number among the keys of a table, as an opcode
keyed : {A B : Type 0} (f : ℕ → B) (rows : List (Text × A)) (n : Text) → is_some (option_map f (number_in (keys rows) n)) ≡ is_some (named n rows)
keyed f rows n = some_mapped f (number_in (keys rows) n) ∙ (number_known n (keys rows) ∙ key_known n rows)

pub member_alike : (c : ClassEntry) (n : Text) → is_some (member_op c n) ≡ k.has_member (class_of c t.end) n
member_alike c n = some_either _ _ _ _ (keyed Field c.fields n) (some_either _ _ _ _ (keyed Getter c.getters n) (keyed Action c.actions n))

class_named : (n : Text) (cs : List ClassEntry) → has_text n (map (λ c. c.name) cs) ≡ k.has_class n (classes_of cs [])
class_named n [] = refl
class_named n (c ∷ cs) = ap (λ b. bytes_eq n c.name || b) (class_named n cs)

pub class_alike : (m : Manifest) (n : Text) → is_some (class_number m n) ≡ k.has_class n (app_of m []).classes
class_alike m n = number_known n (map (λ c. c.name) m.classes) ∙ class_named n m.classes

pub modifier_alike : (m : Manifest) (n : Text) → is_some (modifier_number m n) ≡ has_text n (codes "on" ∷ m.modifiers)
modifier_alike m n = number_known n (codes "on" ∷ m.modifiers)

-- Lists in two parts

pub joined : {A : Type 0} (xs ys us vs : List A) → xs ≡ us → ys ≡ vs → xs ++ ys ≡ us ++ vs
joined xs ys us vs e f = ap (λ zs. zs ++ ys) e ∙ ap (λ zs. us ++ zs) f

-- Statements are counted alike

mutual
  stmt_count : (symbols scope : List Text) (s : t.Stmt) → wire.count_stmt (stmt_wire symbols scope s) ≡ tree.count_stmt s
  stmt_count symbols scope (t.text_stmt s) = refl
  stmt_count symbols scope (t.comment_stmt s) = refl
  stmt_count symbols scope (t.put e) = refl
  stmt_count symbols scope (t.element tag ps b) = ap suc (body_count symbols scope b)
  stmt_count symbols scope (t.component_stmt n ps given ss) = ap suc (slots_count symbols scope ss)
  stmt_count symbols scope (t.if_stmt e unless b o) = rw (body_count symbols scope b, body_count symbols scope o) refl
  stmt_count symbols scope (t.each e key ns b o) = rw (body_count symbols (with_names scope ns) b, body_count symbols scope o) refl
  stmt_count symbols scope (t.let_stmt es ns b) = ap suc (body_count symbols (with_names scope ns) b)
  stmt_count symbols scope (t.yield es to) = refl

  pub body_count : (symbols scope : List Text) (b : t.Body) → wire.count_body (body_wire symbols scope b) ≡ tree.count_body b
  body_count symbols scope t.end = refl
  body_count symbols scope (t.stmt s b) = rw (stmt_count symbols scope s, body_count symbols scope b) refl

  slots_count : (symbols scope : List Text) (ss : t.Slots) → wire.count_slots (slots_wire symbols scope ss) ≡ tree.count_slots ss
  slots_count symbols scope t.no_slots = refl
  slots_count symbols scope (t.block name ns b ss) = rw (body_count symbols (with_names scope ns) b, slots_count symbols scope ss) refl

module _ (m : Manifest) (c : ClassEntry) where
  -- Expressions

  followed_unknowns : (e : w.Expr) (ns : List Text) → wire.expr_unknowns m c (followed e ns) ≡ wire.expr_unknowns m c e
  followed_unknowns e [] = refl
  followed_unknowns e (n ∷ ns) = refl

  call_unknowns : (n : Text) → (k.unless_known (is_some (helper_number n)) k.helper_kind n ++ []) ≡ k.helper_unknown n
  call_unknowns n = append-nil _ ∙ ap (λ b. k.unless_known b k.helper_kind n) (helper_alike n)

  name_unknowns : (here whole : Bool) (place : ℕ) (n : Text) (ns : List Text)
      → wire.expr_unknowns m c (path_of here whole place n ns) ≡ (if here then [] else (if whole && is_empty ns then k.helper_unknown n else record { kind = k.local_kind; name = n } ∷ []))
  name_unknowns true whole place n ns = followed_unknowns (w.symbol place) ns
  name_unknowns false true place n [] = call_unknowns n
  name_unknowns false true place n (o ∷ os) = refl
  name_unknowns false false place n ns = followed_unknowns (w.free n) ns

  mutual
    pub expr_wire_unknowns : (symbols scope params : List Text) → SameNames scope params → (whole : Bool) (e : t.Expr)
        → wire.expr_unknowns m c (expr_wire symbols scope whole e) ≡ k.expr_unknowns (app_of m []) (class_of c t.end) whole params e
    expr_wire_unknowns symbols scope params same whole (t.literal x) = refl
    expr_wire_unknowns symbols scope params same whole (t.this n ns) =
        followed_unknowns (w.this n) ns ∙ ap (λ b. k.unless_known b k.member_kind n) (member_alike c n)
    expr_wire_unknowns symbols scope params same whole (t.argument n ns) = followed_unknowns (w.symbol (place_of symbols (64 ∷ n))) ns
    expr_wire_unknowns symbols scope params same whole (t.bare n ns) =
        name_unknowns (has_text n scope) whole (place_of symbols n) n ns
        ∙ ap (λ b. if b then [] else (if whole && is_empty ns then k.helper_unknown n else record { kind = k.local_kind; name = n } ∷ [])) (same n)
    expr_wire_unknowns symbols scope params same whole (t.call n es ns) =
        joined _ _ _ _ (ap (λ b. k.unless_known b k.helper_kind n) (helper_alike n))
        (joined _ _ _ _ (exprs_wire_unknowns symbols scope params same false es) (named_wire_unknowns symbols scope params same ns))
    expr_wire_unknowns symbols scope params same whole (t.cat es) = exprs_wire_unknowns symbols scope params same true es

    exprs_wire_unknowns : (symbols scope params : List Text) → SameNames scope params → (whole : Bool) (es : t.Exprs)
        → wire.exprs_unknowns m c (exprs_wire symbols scope whole es) ≡ k.exprs_unknowns (app_of m []) (class_of c t.end) whole params es
    exprs_wire_unknowns symbols scope params same whole t.no_exprs = refl
    exprs_wire_unknowns symbols scope params same whole (t.expr e es) =
        joined _ _ _ _ (expr_wire_unknowns symbols scope params same whole e) (exprs_wire_unknowns symbols scope params same whole es)

    named_wire_unknowns : (symbols scope params : List Text) → SameNames scope params → (ns : t.NamedExprs)
        → wire.named_unknowns m c (named_wire symbols scope ns) ≡ k.named_unknowns (app_of m []) (class_of c t.end) params ns
    named_wire_unknowns symbols scope params same t.no_named = refl
    named_wire_unknowns symbols scope params same (t.named_expr n e ns) =
        joined _ _ _ _ (expr_wire_unknowns symbols scope params same false e) (named_wire_unknowns symbols scope params same ns)

  -- Tags

  value_wire_unknowns : (symbols scope params : List Text) → SameNames scope params → (x : t.AttrValue)
      → wire.expr_unknowns m c (value_wire symbols scope x) ≡ k.value_unknowns (app_of m []) (class_of c t.end) params x
  value_wire_unknowns symbols scope params same (t.fixed s) = refl
  value_wire_unknowns symbols scope params same (t.live e) = expr_wire_unknowns symbols scope params same true e

  part_wire_unknowns : (symbols scope params : List Text) → SameNames scope params → (p : t.Part)
      → wire.part_unknowns m c (part_wire symbols scope p) ≡ k.part_unknowns (app_of m []) (class_of c t.end) params p
  part_wire_unknowns symbols scope params same (t.attribute n (t.fixed s)) = refl
  part_wire_unknowns symbols scope params same (t.attribute n (t.live e)) = expr_wire_unknowns symbols scope params same true e
  part_wire_unknowns symbols scope params same (t.modifier n es ns) =
      joined _ _ _ _ (ap (λ b. k.unless_known b k.modifier_kind n) (modifier_alike m n))
      (joined _ _ _ _ (exprs_wire_unknowns symbols scope params same false es) (named_wire_unknowns symbols scope params same ns))
  part_wire_unknowns symbols scope params same t.spread = refl

  parts_wire_unknowns : (symbols scope params : List Text) → SameNames scope params → (ps : List t.Part)
      → wire.parts_unknowns m c (parts_wire symbols scope ps) ≡ flat_map (k.part_unknowns (app_of m []) (class_of c t.end) params) ps
  parts_wire_unknowns symbols scope params same [] = refl
  parts_wire_unknowns symbols scope params same (p ∷ ps) =
      joined _ _ _ _ (part_wire_unknowns symbols scope params same p) (parts_wire_unknowns symbols scope params same ps)

  arguments_wire_unknowns : (symbols scope params : List Text) → SameNames scope params → (given : List (Text × t.AttrValue))
      → wire.named_unknowns m c (arguments_wire symbols scope given) ≡ flat_map (λ g. k.value_unknowns (app_of m []) (class_of c t.end) params g.1) given
  arguments_wire_unknowns symbols scope params same [] = refl
  arguments_wire_unknowns symbols scope params same (g ∷ given) =
      joined _ _ _ _ (value_wire_unknowns symbols scope params same g.1) (arguments_wire_unknowns symbols scope params same given)

  -- Statements

  -- those of a statement itself are written piece by piece
  placed : (i : ℕ) (us vs : List k.Unknown) → us ≡ vs → map (tree.at_stmt i) us ≡ map (tree.at_stmt i) vs
  placed i us vs e = ap (λ xs. map (tree.at_stmt i) xs) e

  -- what stands behind so many statements
  counted : (faults : ℕ → List tree.Fault) (j l : ℕ) (fs : List tree.Fault) → j ≡ l → faults l ≡ fs → faults j ≡ fs
  counted faults j l fs e f = ap faults e ∙ f

  in_pieces : (i : ℕ) (us vs ws us' vs' ws' : List k.Unknown) (fs fs' : List tree.Fault) → us ≡ us' → vs ≡ vs' → ws ≡ ws' → fs ≡ fs'
      → map (tree.at_stmt i) us ++ (map (tree.at_stmt i) vs ++ (map (tree.at_stmt i) ws ++ fs)) ≡ map (tree.at_stmt i) (us' ++ (vs' ++ ws')) ++ fs'
  in_pieces i us vs ws us' vs' ws' fs fs' a b c d =
      rw (a, b, c, d) (rw (map-append (tree.at_stmt i) us' (vs' ++ ws'), map-append (tree.at_stmt i) vs' ws', append_assoc, append_assoc) refl)

  mutual
    stmt_wire_faults : (symbols scope params : List Text) → SameNames scope params → (i : ℕ) (s : t.Stmt)
        → wire.stmt_faults m c i (stmt_wire symbols scope s) ≡ tree.stmt_faults (app_of m []) (class_of c t.end) params i s
    stmt_wire_faults symbols scope params same i (t.text_stmt s) = refl
    stmt_wire_faults symbols scope params same i (t.comment_stmt s) = refl
    stmt_wire_faults symbols scope params same i (t.put e) = placed i _ _ (expr_wire_unknowns symbols scope params same true e)
    stmt_wire_faults symbols scope params same i (t.element tag ps b) =
        joined _ _ _ _ (placed i _ _ (parts_wire_unknowns symbols scope params same ps)) (body_wire_faults symbols scope params same (suc i) b)
    stmt_wire_faults symbols scope params same i (t.component_stmt n ps given ss) =
        in_pieces i _ _ _ _ _ _ _ _ (ap (λ b. k.unless_known b k.component_kind n) (class_alike m n)) (arguments_wire_unknowns symbols scope params same given)
        (parts_wire_unknowns symbols scope params same ps) (slots_wire_faults symbols scope params same (suc i) ss)
    stmt_wire_faults symbols scope params same i (t.if_stmt e unless b o) =
        joined _ _ _ _ (placed i _ _ (expr_wire_unknowns symbols scope params same false e))
        (joined _ _ _ _ (body_wire_faults symbols scope params same (suc i) b) (counted (λ h. wire.body_faults m c (suc i + h) (body_wire symbols scope o)) _ _ _ (body_count symbols scope b) (body_wire_faults symbols scope params same _ o)))
    stmt_wire_faults symbols scope params same i (t.each e key ns b o) =
        joined _ _ _ _ (placed i _ _ (expr_wire_unknowns symbols scope params same false e))
        (joined _ _ _ _ (body_wire_faults symbols (with_names scope ns) (params ++ ns) (same_more scope params ns same) (suc i) b)
        (counted (λ h. wire.body_faults m c (suc i + h) (body_wire symbols scope o)) _ _ _ (body_count symbols (with_names scope ns) b) (body_wire_faults symbols scope params same _ o)))
    stmt_wire_faults symbols scope params same i (t.let_stmt es ns b) =
        joined _ _ _ _ (placed i _ _ (exprs_wire_unknowns symbols scope params same false es))
        (body_wire_faults symbols (with_names scope ns) (params ++ ns) (same_more scope params ns same) (suc i) b)
    stmt_wire_faults symbols scope params same i (t.yield es to) = placed i _ _ (exprs_wire_unknowns symbols scope params same false es)

    pub body_wire_faults : (symbols scope params : List Text) → SameNames scope params → (i : ℕ) (b : t.Body)
        → wire.body_faults m c i (body_wire symbols scope b) ≡ tree.body_faults (app_of m []) (class_of c t.end) params i b
    body_wire_faults symbols scope params same i t.end = refl
    body_wire_faults symbols scope params same i (t.stmt s b) =
        joined _ _ _ _ (stmt_wire_faults symbols scope params same i s)
        (counted (λ h. wire.body_faults m c (i + h) (body_wire symbols scope b)) _ _ _ (stmt_count symbols scope s) (body_wire_faults symbols scope params same _ b))

    slots_wire_faults : (symbols scope params : List Text) → SameNames scope params → (i : ℕ) (ss : t.Slots)
        → wire.slots_faults m c i (slots_wire symbols scope ss) ≡ tree.slots_faults (app_of m []) (class_of c t.end) params i ss
    slots_wire_faults symbols scope params same i t.no_slots = refl
    slots_wire_faults symbols scope params same i (t.block name ns b ss) =
        joined _ _ _ _ (body_wire_faults symbols (with_names scope ns) (params ++ ns) (same_more scope params ns same) i b)
        (counted (λ h. wire.slots_faults m c (i + h) (slots_wire symbols scope ss)) _ _ _ (body_count symbols (with_names scope ns) b) (slots_wire_faults symbols scope params same _ ss))

  -- Whole wires

  pub template_faults_wire : (b : t.Body) (v : w.Wire) → wire_of b ≡ v → wire.body_faults m c 0 v.body ≡ tree.template_faults m c b
  unfolding wire_of
  template_faults_wire b v e = ap (λ (x : w.Wire). wire.body_faults m c 0 x.body) (sym e) ∙ body_wire_faults (symbols_of b) [] [] (λ n. refl) 0 b

  pub expr_faults_wire : (e : t.Expr) (params : List Text) (v : w.ExprWire) → expr_wire_of params e ≡ v
      → map (tree.at_stmt 0) (wire.expr_unknowns m c v.value) ≡ tree.expr_faults m c params e
  unfolding expr_wire_of
  expr_faults_wire e params v f =
      ap (λ (x : w.ExprWire). map (tree.at_stmt 0) (wire.expr_unknowns m c x.value)) (sym f)
      ∙ placed 0 _ _ (expr_wire_unknowns (expr_symbols_of params e) params params (λ n. refl) false e)
