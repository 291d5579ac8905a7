-- No modifier of an application's manifest is `on`.
use Rattle.std.proofs.Common.{◌≡◌, List, [], ◌∷◌, Bool, true, false, refl, ap, ◌∙◌}
use Rattle.std.proofs.Math.Bool.{Bool-set}
use Rattle.std.proofs.Math.Logic.{∥∥₁_elim}
use Rattle.std.specs.Prelude.{codes, ◌||◌}
use Rattle.std.specs.List.{list_any}
use Rattle.std.specs.Str.{bytes_eq}
use Rattle.std.proofs.lemmas.Slice.Eq.{bytes_eq-Decides}
use Rattle.gl_base.specs.Texts.{Text}
use Rattle.gl_meaning.specs.Manifest.{Manifest}
use Rattle.gl_meaning.specs.ManifestNames.{ModifierName, KeepsRules}
use Rattle.gl_meaning.specs.ManifestRules.{Each}
use Rattle.gl_actions.specs.Reads.{OnlyOn}

other_text : (x y : Text) → (x ≡ y → ⊥) → bytes_eq x y ≡ false
other_text x y other = by (bytes_eq x y) refl where
  by : (b : Bool) → bytes_eq x y ≡ b → bytes_eq x y ≡ false
  by false e = e
  by true e = absurd (other ((bytes_eq-Decides x y).0 e))

none_is : (xs : List Text) → Each ModifierName xs → list_any (λ t. bytes_eq t (codes "on")) xs ≡ false
none_is [] names = refl
none_is (x ∷ xs) names = ap (λ b. b || list_any (λ t. bytes_eq t (codes "on")) xs) (other_text x (codes "on") names.0.other) ∙ none_is xs names.1

pub only_on : (m : Manifest) → ∥ KeepsRules m ∥₁ → OnlyOn m
only_on m kept = ∥∥₁_elim kept (Bool-set (list_any (λ t. bytes_eq t (codes "on")) m.modifiers) false) (λ r. none_is m.modifiers r.modifiers)
