-- Look-ups in a scope, as what it stands for.
use Rattle.std.proofs.Common.{◌≡◌, ℕ, Bool, true, false, List, [], ◌∷◌, Option, Some, None, option_map, refl, sym, ◌∙◌, ap, ap₂, cond}
use Rattle.std.specs.Prelude.{nat_eq}
use Rattle.std.specs.Str.{bytes_eq}
use Rattle.std.proofs.lemmas.Bool.{eqb-true, eq-eqb}
use Rattle.gl_base.specs.Texts.{Text}
use Rattle.gl_base.specs.Names.{last_named, or_else}
use Rattle.gl_arena.specs.Id.{Id}
use Rattle.gl_scope.specs.Scope.{last_at}
use Rattle.gl_machine.specs.Step.{last_symbol}
use Rattle.gl_vm.specs.View.{name_stamps}
use Rattle.gl_code.specs.View.{seen_locals}

no_both : (b : Bool) → (b ≡ true → ⊥) → b ≡ false
no_both true n = absurd (n refl)
no_both false n = refl

eq_flip : (i j : ℕ) → nat_eq i j ≡ nat_eq j i
eq_flip i j = chosen (nat_eq i j) refl where
  chosen : (b : Bool) → nat_eq i j ≡ b → nat_eq i j ≡ nat_eq j i
  chosen true e = e ∙ sym (eq-eqb j i (sym (eqb-true i j e)))
  chosen false e = e ∙ sym (no_both (nat_eq j i) (λ t. let u : nat_eq i j ≡ true = eq-eqb i j (sym (eqb-true j i t)) in absurd (false_not (sym e ∙ u)))) where
    false_not : false ≡ true → ⊥
    false_not x = let y : false ≡ true = x in absurd (cc)

pub or_else-map : {A B : Type 0} (f : A → B) (x y : Option A) → or_else (option_map f x) (option_map f y) ≡ option_map f (or_else x y)
or_else-map f (Some x) y = refl
or_else-map f None y = refl

found-map : (b c : Bool) (i : Id) → b ≡ c → cond b (Some i.1) None ≡ option_map (λ j. j.1) (cond c (Some i) None)
found-map true c i e = ap (λ d. option_map (λ (j : Id). j.1) (cond d (Some i) None)) e
found-map false c i e = ap (λ d. option_map (λ (j : Id). j.1) (cond d (Some i) None)) e

pub symbol_of : (n : ℕ) (ls : List (ℕ × Id)) → last_symbol n (seen_locals ls) ≡ option_map (λ i. i.1) (last_at n ls)
symbol_of n [] = refl
symbol_of n (e ∷ es) = ap₂ (λ a b. or_else a b) (symbol_of n es) (found-map (nat_eq n e.0) (nat_eq e.0 n) e.1 (eq_flip n e.0)) ∙ or_else-map (λ i. i.1) (last_at n es) (cond (nat_eq e.0 n) (Some e.1) None)

pub named_of : (n : Text) (ns : List (Text × Id)) → last_named n (name_stamps ns) ≡ option_map (λ i. i.1) (last_named n ns)
named_of n [] = refl
named_of n (e ∷ es) = ap₂ (λ a b. or_else a b) (named_of n es) (found-map (bytes_eq n e.0) (bytes_eq n e.0) e.1 refl) ∙ or_else-map (λ i. i.1) (last_named n es) (cond (bytes_eq n e.0) (Some e.1) None)
