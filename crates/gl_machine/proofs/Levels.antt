-- Where no getter reaches itself, getters nest no deeper than there are getters.
use Rattle.std.proofs.Common.{◌≡◌, ℕ, zero, suc, List, [], ◌∷◌, length, Bool, true, false, ◌||◌, cond, Some, refl, sym, ◌∙◌, ap, subst, inl, inr, arith}
use Rattle.std.specs.Prelude.{◌⊎◌, if◌then◌else◌}
use Rattle.std.specs.Str.{bytes_eq}
use Rattle.std.proofs.lemmas.List.{length-map}
use Rattle.std.proofs.lemmas.Bool.{both_ways}
use Rattle.std.proofs.lemmas.Slice.Eq.{bytes_eq-Decides}
use Rattle.gl_base.specs.Texts.{Text}
use Rattle.gl_base.specs.Names.{named, has_text}
use Rattle.gl_ast.specs.Template.{Expr}
use Rattle.gl_meaning.specs.App.{Class}
use Rattle.gl_meaning.specs.Known.{mentions, Among, Leads, mention, onward, Acyclic}
use Rattle.gl_opc.specs.Numbers.{keys}
use Rattle.gl_machine.proofs.Numbered.{none_some}

-- the getters that an expression mentions, with those that these mention and so on, nest at most so deep
abbrev pub Settles : List (Text × Expr) → ℕ → Expr → Type 0
Settles gs zero e = (x : Text) (d : Expr) → Among x (mentions e) → named x gs ≡ Some d → ⊥
Settles gs (suc n) e = (x : Text) (d : Expr) → Among x (mentions e) → named x gs ≡ Some d → Settles gs n d

-- a member that an expression mentions, or that a getter which it mentions leads to
abbrev Leaves : Class → Expr → Text → Type 0
Leaves c e y = Among y (mentions e) ⊎ ((x : Text) × Among x (mentions e) × Leads c x y)

-- all but the first that is this name
abbrev without : Text → List Text → List Text
without x [] = []
without x (r ∷ rs) = if bytes_eq x r then rs else r ∷ without x rs

shorter : (x : Text) (rs : List Text) → has_text x rs ≡ true → length rs ≡ suc (length (without x rs))
shorter x [] h = absurd (both_ways _ refl h)
shorter x (r ∷ rs) h = by_test x r rs (bytes_eq x r) h (shorter x rs)
  where
    by_test : (x r : Text) (rs : List Text) (b : Bool) → (b || has_text x rs) ≡ true → (has_text x rs ≡ true → length rs ≡ suc (length (without x rs)))
        → suc (length rs) ≡ suc (length (cond b rs (r ∷ without x rs)))
    by_test x r rs true h f = refl
    by_test x r rs false h f = ap suc (f h)

still_there : (x y : Text) → (x ≡ y → ⊥) → (rs : List Text) → has_text y rs ≡ true → has_text y (without x rs) ≡ true
still_there x y differ [] h = h
still_there x y differ (r ∷ rs) h = by_test (bytes_eq x r) refl (bytes_eq y r) refl h (still_there x y differ rs)
  where
    by_test : (b : Bool) → bytes_eq x r ≡ b → (d : Bool) → bytes_eq y r ≡ d → (d || has_text y rs) ≡ true → (has_text y rs ≡ true → has_text y (without x rs) ≡ true)
        → has_text y (cond b rs (r ∷ without x rs)) ≡ true
    by_test true e true f h g = absurd (differ ((bytes_eq-Decides x r).0 e ∙ sym ((bytes_eq-Decides y r).0 f)))
    by_test true e false f h g = h
    by_test false e true f h g = ap (λ t. t || has_text y (without x rs)) f
    by_test false e false f h g = ap (λ t. t || has_text y (without x rs)) f ∙ g h

among_keys : (gs : List (Text × Expr)) (y : Text) (d : Expr) → named y gs ≡ Some d → has_text y (keys gs) ≡ true
among_keys [] y d e = absurd (none_some d e)
among_keys (g ∷ gs) y d e = by_test (bytes_eq y g.0) e (among_keys gs y d)
  where
    by_test : (b : Bool) → cond b (Some g.1) (named y gs) ≡ Some d → (named y gs ≡ Some d → has_text y (keys gs) ≡ true) → (b || has_text y (keys gs)) ≡ true
    by_test true e f = refl
    by_test false e f = f e

module _ (c : Class) (calm : Acyclic c) where
  -- each getter that is reached is still among these
  abbrev Left : Expr → List Text → Type 0
  Left e rs = (y : Text) (d : Expr) → Leaves c e y → named y c.getters ≡ Some d → has_text y rs ≡ true

  leads_on : (x : Text) (d : Expr) → named x c.getters ≡ Some d → (y : Text) → Leaves c d y → Leads c x y
  leads_on x d named_so y (inl m) = mention named_so m
  leads_on x d named_so y (inr (z, m, l)) = onward (mention named_so m) l

  left_next : (e : Expr) (rs : List Text) → Left e rs → (x : Text) (d : Expr) → Among x (mentions e) → named x c.getters ≡ Some d → Left d (without x rs)
  left_next e rs left x d m named_so y f leaves there =
      let l = leads_on x d named_so y leaves in
      still_there x y (λ same. calm x (subst (λ z. Leads c x z) (sym same) l)) rs (left y f (inr (x, m, l)) there)

  settles_by : (n : ℕ) (e : Expr) (rs : List Text) → length rs ≡ n → Left e rs → Settles c.getters n e
  settles_by zero e rs len left =
      λ x d m there. let s = shorter x rs (left x d (inl m) there) in omega (arith, len, s)
  settles_by (suc n) e rs len left =
      λ x d m there.
      let s = shorter x rs (left x d (inl m) there) in settles_by n d (without x rs) (omega (arith, len, s)) (left_next e rs left x d m there)

  pub settles : (e : Expr) → Settles c.getters (length c.getters) e
  settles e = settles_by (length c.getters) e (keys c.getters) (length-map c.getters (λ r. r.0)) (λ y d l there. among_keys c.getters y d there)
