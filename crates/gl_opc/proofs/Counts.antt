-- How many expressions a list makes.
use Rattle.std.proofs.Common.{◌≡◌, suc, List, [], ◌∷◌, length, refl, ap}
use Rattle.gl_base.specs.Texts.{Text}
use Rattle.gl_wire.specs.Wire.{Expr, exprs_of, named_of}
use Rattle.gl_opc.specs.Coding.{count_exprs, count_named}

pub counted_exprs : (es : List Expr) → count_exprs (exprs_of es) ≡ length es
counted_exprs [] = refl
counted_exprs (e ∷ es) = ap suc (counted_exprs es)

pub counted_named : (ns : List (Text × Expr)) → count_named (named_of ns) ≡ length ns
counted_named [] = refl
counted_named (n ∷ ns) = ap suc (counted_named ns)

pub ruleset count_laws = (counted_exprs, counted_named)
