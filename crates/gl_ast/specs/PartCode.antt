-- How the logic tells two parts of a tag apart: each is one of several fields.
use Rattle.std.specs.Prelude.{◌≡◌, ◌⊎◌, refl}
use Rattle.std.specs.Coded.{Coded, code_by, coded×, coded⊎, coded_ℕ, coded_list}
use Rattle.std.proofs.Common.{inl, inr}
use Rattle.gl_base.specs.Texts.{Text}
use Rattle.gl_ast.specs.Template.{Expr, call, cat, no_exprs, AttrValue, fixed, live, Part, attribute, modifier, spread}
use Rattle.gl_ast.specs.ExprCode.{expr_code}

abbrev pub text_code : Coded Text
text_code = coded_list coded_ℕ

abbrev pub attr_split : AttrValue → Text ⊎ Expr
attr_split (fixed s) = inl s
attr_split (live e) = inr e

abbrev pub attr_join : Text ⊎ Expr → AttrValue
attr_join (inl s) = fixed s
attr_join (inr e) = live e

pub attr_join-split : (a : AttrValue) → attr_join (attr_split a) ≡ a
attr_join-split (fixed s) = refl
attr_join-split (live e) = refl

abbrev pub attr_code : Coded AttrValue
attr_code = code_by (Text ⊎ Expr) (coded⊎ text_code expr_code) attr_split attr_join attr_join-split

-- an attribute has a name and a value; a modifier is the call of its name, and the place of the attributes a cat
abbrev pub part_split : Part → (Text × AttrValue) ⊎ Expr
part_split (attribute n a) = inl (n, a)
part_split (modifier n es ns) = inr (call n es ns)
part_split spread = inr (cat no_exprs)

abbrev pub called : Expr → Part
called (call n es ns) = modifier n es ns
called _ = spread

abbrev pub part_join : (Text × AttrValue) ⊎ Expr → Part
part_join (inl p) = attribute p.0 p.1
part_join (inr e) = called e

pub part_join-split : (p : Part) → part_join (part_split p) ≡ p
part_join-split (attribute n a) = refl
part_join-split (modifier n es ns) = refl
part_join-split spread = refl

abbrev pub part_code : Coded Part
part_code = code_by ((Text × AttrValue) ⊎ Expr) (coded⊎ (coded× text_code attr_code) expr_code) part_split part_join part_join-split
