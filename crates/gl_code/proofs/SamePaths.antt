-- Paths that are compared from their outermost steps.
use Rattle.std.proofs.Common.{◌≡◌, ℕ, List, reverse, length, true, false, true≢false, refl, sym, ◌∙◌, ap, ap₂, subst}
use Rattle.std.specs.Prelude.{nat_eq}
use Rattle.std.proofs.lemmas.List.{reverse-reverse, length-map}
use Rattle.std.proofs.lemmas.Bool.Decides.{Decides-eqb}
use Rattle.gl_value.specs.Value.{Value, undefined, null, boolean, integer, text, list, pairs, action, Values, no_values, value, Members, no_members, member, same, plain, plain_values, plain_members}
use Rattle.gl_meaning.specs.Path.{no_owners, Path, path_eq}
use Rattle.gl_meaning.specs.View.{path_step_view, seen_path_steps}
use Rattle.gl_meaning.specs.declared.path.PathStep.{PathStep}
use Rattle.gl_meaning.proofs.Equal.{same_means, same_itself, no_owners-Decides, path_means, path_itself}
use Rattle.gl_machine.proofs.Numbered.{same_if}

pub reversed_eq : (p q : Path) → path_eq p q ≡ path_eq (reverse p) (reverse q)
reversed_eq p q =
    same_if (path_eq p q) (path_eq (reverse p) (reverse q)) (λ e. subst (λ x. path_eq (reverse p) (reverse x) ≡ true) (path_means p q e) (path_itself (reverse p)))
    (λ e. let r : reverse p ≡ reverse q = path_means (reverse p) (reverse q) e in let s : p ≡ q = sym (reverse-reverse p) ∙ (ap reverse r ∙ reverse-reverse q) in subst (λ x. path_eq p x ≡ true) s (path_itself p))

pub differ_steps : (p q : List PathStep) → (length p ≡ length q → ⊥) → false ≡ path_eq (seen_path_steps p) (seen_path_steps q)
differ_steps p q d =
    sym (same_if (path_eq (seen_path_steps p) (seen_path_steps q)) false
    (λ e. absurd (d (sym (length-map p path_step_view) ∙ (ap length (path_means (seen_path_steps p) (seen_path_steps q) e) ∙ length-map q path_step_view)))) (λ e. absurd (true≢false (sym e))))

-- A plain form is its own.
module _ (P Q : Type 0) where
  mutual
    plain_again : (v : Value ℕ) → plain {P = Q} (plain {P = P} v) ≡ plain {P = Q} v
    plain_again undefined = refl
    plain_again null = refl
    plain_again (boolean b) = refl
    plain_again (integer z) = refl
    plain_again (text t) = refl
    plain_again (list vs) = ap list (plain_values_again vs)
    plain_again (pairs ms) = ap pairs (plain_members_again ms)
    plain_again (action o n vs) = refl

    plain_values_again : (vs : Values ℕ) → plain_values {P = Q} (plain_values {P = P} vs) ≡ plain_values {P = Q} vs
    plain_values_again no_values = refl
    plain_values_again (value v vs) = ap₂ value (plain_again v) (plain_values_again vs)

    plain_members_again : (ms : Members ℕ) → plain_members {P = Q} (plain_members {P = P} ms) ≡ plain_members {P = Q} ms
    plain_members_again no_members = refl
    plain_members_again (member k v ms) = ap₂ (member k) (plain_again v) (plain_members_again ms)

pub same_plain : (v w x y : Value ℕ) → x ≡ plain v → y ≡ plain w → same nat_eq x y ≡ same no_owners (plain v) (plain w)
same_plain v w x y e f =
    same_if (same nat_eq x y) (same no_owners (plain v) (plain w))
    (λ t. let g : plain {P = ℕ} v ≡ plain {P = ℕ} w = sym e ∙ (same_means ℕ nat_eq Decides-eqb x y t ∙ f) in
    let h : plain {P = ⊥} v ≡ plain {P = ⊥} w = sym (plain_again ℕ ⊥ v) ∙ (ap (λ (z : Value ℕ). plain {P = ⊥} z) g ∙ plain_again ℕ ⊥ w) in
    subst (λ z. same no_owners (plain v) z ≡ true) h (same_itself ⊥ no_owners no_owners-Decides (plain v)))
    (λ t. let g : plain {P = ⊥} v ≡ plain {P = ⊥} w = same_means ⊥ no_owners no_owners-Decides (plain v) (plain w) t in
    let h : x ≡ y = e ∙ (sym (plain_again ⊥ ℕ v) ∙ (ap (λ (z : Value ⊥). plain {P = ℕ} z) g ∙ (plain_again ⊥ ℕ w ∙ sym f))) in
    subst (λ z. same nat_eq x z ≡ true) h (same_itself ℕ nat_eq Decides-eqb x))
