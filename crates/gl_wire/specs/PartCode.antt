-- How the logic tells two parts of a wire apart: each is one of several fields.
use Rattle.std.specs.Prelude.{◌≡◌, ◌⊎◌, refl}
use Rattle.std.specs.Coded.{Coded, code_by, coded×, coded⊎, coded_ℕ, coded_list}
use Rattle.std.proofs.Common.{inl, inr}
use Rattle.gl_base.specs.Texts.{Text}
use Rattle.gl_wire.specs.Wire.{Expr, call, cat, no_exprs, Part, attribute, live, modifier, spread}
use Rattle.gl_wire.specs.ExprCode.{expr_code}

abbrev pub text_code : Coded Text
text_code = coded_list coded_ℕ

-- an attribute has two texts or a name and an expression; a modifier is the call of its name, and the place of the attributes a cat
abbrev pub part_split : Part → (Text × Text) ⊎ ((Text × Expr) ⊎ Expr)
part_split (attribute n s) = inl (n, s)
part_split (live n e) = inr (inl (n, e))
part_split (modifier n es ns) = inr (inr (call n es ns))
part_split spread = inr (inr (cat no_exprs))

abbrev pub called : Expr → Part
called (call n es ns) = modifier n es ns
called _ = spread

abbrev pub rest_join : (Text × Expr) ⊎ Expr → Part
rest_join (inl p) = live p.0 p.1
rest_join (inr e) = called e

abbrev pub part_join : (Text × Text) ⊎ ((Text × Expr) ⊎ Expr) → Part
part_join (inl p) = attribute p.0 p.1
part_join (inr r) = rest_join r

pub part_join-split : (p : Part) → part_join (part_split p) ≡ p
part_join-split (attribute n s) = refl
part_join-split (live n e) = refl
part_join-split (modifier n es ns) = refl
part_join-split spread = refl

abbrev pub part_code : Coded Part
part_code = code_by ((Text × Text) ⊎ ((Text × Expr) ⊎ Expr)) (coded⊎ (coded× text_code text_code) (coded⊎ (coded× text_code expr_code) expr_code)) part_split part_join part_join-split
