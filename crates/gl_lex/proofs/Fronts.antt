-- Tests of the front of a list of bytes.
use Rattle.std.proofs.Common.{◌≡◌, ℕ, List, [], ◌∷◌, true, false, Option, Some, None, cond, ◌&&◌, length, take, drop, refl, sym, ap, ◌∙◌, arith, eqb, option_map}
use Rattle.std.specs.Prelude.{◌+◌, is_some}
use Rattle.std.specs.Borrow.{Bor}
use Rattle.std.specs.Option.{MatchOption}
use Rattle.std.specs.List.{starts_with}
use Rattle.std.specs.Cmp.Lexicographic.{pointwise}
use Rattle.std.proofs.lemmas.Bool.Decides.{nat_tests}
use Rattle.gl_ast.specs.Scans.{after, begins}

eqb_turn : (m n : ℕ) → eqb m n ≡ eqb n m
eqb_turn m n = grind (arith, nat_tests)

-- what is left after a front is what follows its length, where the front stands there
pub after_is : (front bs : List ℕ) → after front bs ≡ cond (pointwise eqb (take (length front) bs) front) (Some (drop (length front) bs)) None
after_is [] bs = refl
after_is (c ∷ cs) [] = refl
after_is (c ∷ cs) (b ∷ bs) =
    rw (eqb_turn c b)
    (elim (eqb b c) as (λ t. cond t (after cs bs) None ≡ cond (t && pointwise eqb (take (length cs) bs) cs) (Some (drop (length cs) bs)) None)
    [ true ↦ after_is cs bs | false ↦ refl ])

pub begins_is : (front bs : List ℕ) → starts_with eqb bs front ≡ begins front bs
begins_is [] bs = refl
begins_is (c ∷ cs) [] = refl
begins_is (c ∷ cs) (b ∷ bs) =
    elim (eqb c b) as (λ t. (t && starts_with eqb bs cs) ≡ is_some (cond t (after cs bs) None))
    [ true ↦ begins_is cs bs | false ↦ refl ]

pub stripped : (r : Option (Bor (List ℕ))) (front bs : List ℕ)
    → MatchOption r (pointwise eqb (take (length front) bs) front ≡ false) (λ x. (pointwise eqb (take (length front) bs) front ≡ true) × (x.now ≡ drop (length front) bs) × (length x.now + length front ≡ length bs))
    → option_map (λ x. x.now) r ≡ after front bs
stripped None front bs e = sym (after_is front bs ∙ ap (λ t. cond t (Some (drop (length front) bs)) None) e)
stripped (Some x) front bs e = ap Some e.1 ∙ sym (after_is front bs ∙ ap (λ t. cond t (Some (drop (length front) bs)) None) e.0)
