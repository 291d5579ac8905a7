-- Values, parts and arguments of a tag are read again from their JSON.
use Rattle.std.proofs.Common.{◌≡◌, ℕ, List, [], ◌∷◌, Bool, true, false, Some, map, refl, ap, ◌∙◌, codes}
use Rattle.serde_json.specs.Data as json
use Rattle.gl_base.specs.Answers.{◌>>=◌}
use Rattle.gl_base.specs.Names.{has_text}
use Rattle.gl_base.specs.Reading.{read_all}
use Rattle.gl_base.specs.Texts.{Text}
use Rattle.gl_value.specs.Value as v
use Rattle.gl_ast.specs.Grammar.{deepest_calls}
use Rattle.gl_ast.specs.Template.{Plain, Expr, literal, this, argument, bare, call, cat, Exprs, no_exprs, expr, NamedExprs, exprs_of, named_of, AttrValue, fixed, live, Part, attribute, modifier, spread}
use Rattle.gl_show.specs.Spellable.{CanQuotedPart, needs_text, CanQuoted, CanCat, CanValue, CanPart, CanParts, CanArguments}
use Rattle.gl_wire.specs.Json.{array_of, row, text_json, literal_json, expr_json, exprs_json, named_json, part_json, parts_json}
use Rattle.gl_wire.specs.Symbols.{place_of, expr_mentions, exprs_mentions, named_mentions, value_mentions, part_mentions, parts_mentions, arguments_mentions}
use Rattle.gl_wire.specs.Wire as w
use Rattle.gl_wire.specs.WireOf.{followed, path_of, expr_wire, exprs_wire, named_wire, part_wire, parts_wire, value_wire, arguments_wire}
use Rattle.gl_wirein.specs.Normal.{normal_expr, normal_exprs, normal_live, normal_part, normal_parts, normal_value, normal_arguments}
use Rattle.gl_wirein.specs.Pieces.{text_in, list_in}
use Rattle.gl_wirein.specs.ReadExpr.{exprs_in, pair_in, pairs_in}
use Rattle.gl_wirein.specs.ReadTag.{inner_in, whole_in, value_in, part_in, parts_in, given, argument_in, arguments_in}
use Rattle.gl_wirein.proofs.Expressions.{goes_on, exprs_list, named_list, exprs_of-list, named_of-list, exprs_array, pairs_array, exprs_read, named_read, inner_quoted, whole_read}
use Rattle.gl_wirein.proofs.Placing.{AllIn, in_front, in_back, rounded}
use Rattle.gl_wirein.proofs.Texts.{Returns, textual_returns, name_returns, attribute_returns, list_read, text_read}

-- each can be a part of a joined text
abbrev AreQuoted : Exprs → Type 0
AreQuoted no_exprs = Unit {0}
AreQuoted (expr e es) = CanQuotedPart e × AreQuoted es

quoted_parts : (before : Bool) (es : Exprs) → CanQuoted before es → AreQuoted es
quoted_parts before no_exprs h = tt
quoted_parts before (expr e es) h = (h.0, quoted_parts (needs_text e) es h.2)

cat_parts : (es : Exprs) → CanCat es → AreQuoted es
cat_parts no_exprs h = tt
cat_parts (expr e no_exprs) h = (h.0, tt)
cat_parts (expr e (expr f es)) h = quoted_parts false (expr e (expr f es)) h

wholes_read : (ss scope : List Text) (es : Exprs) → AreQuoted es → AllIn ss scope → AllIn ss (exprs_mentions [] es)
    → read_all (λ e. whole_in (rounded ss) e) (exprs_json (exprs_wire ss scope true es)) ≡ Some (exprs_list (normal_exprs scope es))
wholes_read ss scope no_exprs can s a = refl
wholes_read ss scope (expr e es) can s a =
    rw (whole_read ss scope e can.0 s (in_front ss (expr_mentions [] e) (exprs_mentions [] es) a), wholes_read ss scope es can.1 s (in_back ss (expr_mentions [] e) (exprs_mentions [] es) a)) refl

-- what is no joined text is read as it is
abbrev is_cat : w.Expr → Bool
is_cat (w.cat es) = true
is_cat _ = false

literal_value : (ss : List Text) (x : Plain) → value_in ss (literal_json x) ≡ whole_in ss (literal_json x)
literal_value ss v.undefined = refl
literal_value ss v.null = refl
literal_value ss (v.boolean b) = refl
literal_value ss (v.integer z) = refl
literal_value ss (v.text s) = refl
literal_value ss _ = refl

other_value : (ss : List Text) (e : w.Expr) → is_cat e ≡ false → value_in ss (expr_json e) ≡ whole_in ss (expr_json e)
other_value ss (w.literal x) h = literal_value ss x
other_value ss (w.symbol i) h = refl
other_value ss (w.this n) h = refl
other_value ss (w.get e ns) h = refl
other_value ss (w.free n) h = refl
other_value ss (w.call n es ns) h = refl
other_value ss (w.cat es) h = cc

followed_not : (e : w.Expr) (ns : List Text) → is_cat e ≡ false → is_cat (followed e ns) ≡ false
followed_not e [] h = h
followed_not e (n ∷ ns) h = refl

path_not : (known : Bool) (i : ℕ) (n : Text) (ns : List Text) → is_cat (path_of known true i n ns) ≡ false
path_not true i n ns = followed_not (w.symbol i) ns refl
path_not false i n [] = refl
path_not false i n (m ∷ ms) = refl

one_value : (ss scope : List Text) (e : Expr) → is_cat (expr_wire ss scope true e) ≡ false → CanQuotedPart e → AllIn ss scope → AllIn ss (expr_mentions [] e)
    → value_in (rounded ss) (expr_json (expr_wire ss scope true e)) ≡ Some (normal_expr scope e)
one_value ss scope e h can s a = other_value (rounded ss) (expr_wire ss scope true e) h ∙ whole_read ss scope e can s a

value_read : (ss scope : List Text) (e : Expr) → CanValue (live e) → AllIn ss scope → AllIn ss (expr_mentions [] e) → value_in (rounded ss) (expr_json (expr_wire ss scope true e)) ≡ Some (normal_live scope e)
value_read ss scope (literal x) can s a = one_value ss scope (literal x) refl (inner_quoted (literal x) can) s a
value_read ss scope (this n ns) can s a = one_value ss scope (this n ns) (followed_not (w.this n) ns refl) can s a
value_read ss scope (argument n ns) can s a = one_value ss scope (argument n ns) (followed_not (w.symbol (place_of ss (64 ∷ n))) ns refl) can s a
value_read ss scope (bare n ns) can s a = one_value ss scope (bare n ns) (path_not (has_text n scope) (place_of ss n) n ns) can s a
value_read ss scope (call n es ns) can s a = one_value ss scope (call n es ns) refl can s a
value_read ss scope (cat es) can s a =
    goes_on (exprs_in (λ e. whole_in (rounded ss) e) (array_of (exprs_json (exprs_wire ss scope true es)))) (exprs_list (normal_exprs scope es)) (λ fs. Some (cat (exprs_of fs))) (Some (cat (normal_exprs scope es)))
    (exprs_array (λ e. whole_in (rounded ss) e) (exprs_json (exprs_wire ss scope true es)) (normal_exprs scope es) (wholes_read ss scope es (cat_parts es can) s a))
    (ap (λ fs. Some (cat fs)) (exprs_of-list (normal_exprs scope es)))

-- parts
modifier_is : (ss : List Text) (n : Text) (es : Exprs) (ns : NamedExprs) (xs ys : List json.Data) → Returns n → read_all (λ e. inner_in ss e) xs ≡ Some (exprs_list es) → read_all (pair_in (λ e. inner_in ss e)) ys ≡ Some (named_list ns)
    → part_in ss (row (codes "mod") (text_json n ∷ array_of xs ∷ array_of ys ∷ [])) ≡ Some (modifier n es ns)
modifier_is ss n es ns xs ys r e f =
    goes_on (text_in (text_json n)) n (λ m. exprs_in (λ e. inner_in ss e) (array_of xs) >>= λ es. (pairs_in (λ e. inner_in ss e) (array_of ys) >>= λ ns. Some (modifier m (exprs_of es) (named_of ns)))) (Some (modifier n es ns)) (text_read n r)
    (goes_on (exprs_in (λ e. inner_in ss e) (array_of xs)) (exprs_list es) (λ es. pairs_in (λ e. inner_in ss e) (array_of ys) >>= λ ns. Some (modifier n (exprs_of es) (named_of ns))) (Some (modifier n es ns)) (exprs_array (λ e. inner_in ss e) xs es e)
    (goes_on (pairs_in (λ e. inner_in ss e) (array_of ys)) (named_list ns) (λ ns. Some (modifier n (exprs_of (exprs_list es)) (named_of ns))) (Some (modifier n es ns)) (pairs_array (λ e. inner_in ss e) ys ns f)
    (rw (exprs_of-list es, named_of-list ns) refl)))

part_read : (ss scope : List Text) (p : Part) → CanPart p → AllIn ss scope → AllIn ss (part_mentions p) → part_in (rounded ss) (part_json (part_wire ss scope p)) ≡ Some (normal_part scope p)
part_read ss scope (attribute n (fixed x)) can s a = rw (attribute_returns n can.0, textual_returns x can.1) refl
part_read ss scope (attribute n (live e)) can s a =
    goes_on (text_in (text_json n)) n (λ m. value_in (rounded ss) (expr_json (expr_wire ss scope true e)) >>= λ e. Some (attribute m (live e))) (Some (attribute n (live (normal_live scope e)))) (text_read n (attribute_returns n can.0))
    (goes_on (value_in (rounded ss) (expr_json (expr_wire ss scope true e))) (normal_live scope e) (λ e. Some (attribute n (live e))) (Some (attribute n (live (normal_live scope e)))) (value_read ss scope e can.1 s a) refl)
part_read ss scope (modifier n es ns) can s a =
    modifier_is (rounded ss) n es ns (exprs_json (exprs_wire ss scope false es)) (named_json (named_wire ss scope ns)) (name_returns n can.0.0)
    (exprs_read ss scope deepest_calls es can.1 s (in_front ss (exprs_mentions [] es) (named_mentions [] ns) a))
    (named_read ss scope deepest_calls ns can.2 s (in_back ss (exprs_mentions [] es) (named_mentions [] ns) a))
part_read ss scope spread can s a = refl

each_part_read : (ss scope : List Text) (ps : List Part) → CanParts ps → AllIn ss scope → AllIn ss (parts_mentions ps) → read_all (λ p. part_in (rounded ss) p) (map part_json (parts_wire ss scope ps)) ≡ Some (normal_parts scope ps)
each_part_read ss scope [] can s a = refl
each_part_read ss scope (p ∷ ps) can s a =
    rw (part_read ss scope p can.0 s (in_front ss (part_mentions p) (parts_mentions ps) a), each_part_read ss scope ps can.1 s (in_back ss (part_mentions p) (parts_mentions ps) a)) refl

pub parts_read : (ss scope : List Text) (ps : List Part) → CanParts ps → AllIn ss scope → AllIn ss (parts_mentions ps) → parts_in (rounded ss) (parts_json (parts_wire ss scope ps)) ≡ Some (normal_parts scope ps)
parts_read ss scope ps can s a =
    goes_on (list_in (parts_json (parts_wire ss scope ps))) (map part_json (parts_wire ss scope ps)) (λ ds. read_all (λ p. part_in (rounded ss) p) ds) (Some (normal_parts scope ps)) (list_read (map part_json (parts_wire ss scope ps))) (each_part_read ss scope ps can s a)

-- arguments
abbrev with_value : Text → AttrValue → Text × AttrValue
with_value n x = (n, x)

given_read : (ss scope : List Text) (n : Text) (x : AttrValue) → CanValue x → AllIn ss scope → AllIn ss (value_mentions x)
    → (value_in (rounded ss) (expr_json (value_wire ss scope x)) >>= λ e. Some (with_value n (given e))) ≡ Some (with_value n (normal_value scope x))
given_read ss scope n (fixed t) can s a = ap (λ (u : Text). Some (with_value n (fixed u))) (textual_returns t can)
given_read ss scope n (live e) can s a =
    goes_on (value_in (rounded ss) (expr_json (expr_wire ss scope true e))) (normal_live scope e) (λ e. Some (with_value n (given e))) (Some (with_value n (given (normal_live scope e)))) (value_read ss scope e can s a) refl

argument_read : (ss scope : List Text) (n : Text) (x : AttrValue) → Returns n → CanValue x → AllIn ss scope → AllIn ss (value_mentions x)
    → argument_in (rounded ss) (array_of (text_json n ∷ expr_json (value_wire ss scope x) ∷ [])) ≡ Some (with_value n (normal_value scope x))
argument_read ss scope n x r can s a =
    goes_on (text_in (text_json n)) n (λ m. value_in (rounded ss) (expr_json (value_wire ss scope x)) >>= λ e. Some (with_value m (given e))) (Some (with_value n (normal_value scope x))) (text_read n r) (given_read ss scope n x can s a)

each_argument_read : (ss scope : List Text) (args : List (Text × AttrValue)) → CanArguments args → AllIn ss scope → AllIn ss (arguments_mentions args)
    → read_all (λ p. argument_in (rounded ss) p) (named_json (arguments_wire ss scope args)) ≡ Some (normal_arguments scope args)
each_argument_read ss scope [] can s a = refl
each_argument_read ss scope (x ∷ args) can s a =
    rw (argument_read ss scope x.0 x.1 (name_returns x.0 can.0) can.1 s (in_front ss (value_mentions x.1) (arguments_mentions args) a), each_argument_read ss scope args can.2 s (in_back ss (value_mentions x.1) (arguments_mentions args) a)) refl

pub arguments_read : (ss scope : List Text) (args : List (Text × AttrValue)) → CanArguments args → AllIn ss scope → AllIn ss (arguments_mentions args)
    → arguments_in (rounded ss) (array_of (named_json (arguments_wire ss scope args))) ≡ Some (normal_arguments scope args)
arguments_read ss scope args can s a =
    goes_on (list_in (array_of (named_json (arguments_wire ss scope args)))) (named_json (arguments_wire ss scope args)) (λ ds. read_all (λ p. argument_in (rounded ss) p) ds) (Some (normal_arguments scope args)) (list_read (named_json (arguments_wire ss scope args)))
    (each_argument_read ss scope args can s a)
