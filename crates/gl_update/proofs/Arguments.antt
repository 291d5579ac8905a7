-- The values of a modifier's arguments, by the references of its position.
use Rattle.std.proofs.Common.{◌≡◌, ℕ, zero, suc, ◌+◌, ◌<◌, ◌≤◌, List, [], ◌∷◌, map, take, drop, length, get_or, refl, ◌∙◌, ap, ap₂}
use Rattle.std.proofs.lemmas.List.{drop_all}
use Rattle.gl_base.specs.Texts.{Text}
use Rattle.gl_base.proofs.Lists.{drop_item}
use Rattle.gl_arena.specs.Id.{Id}
use Rattle.gl_meaning.specs.Path.{V}
use Rattle.gl_meaning.specs.Scope.{Pair}
use Rattle.gl_meaning.specs.Eval.{values_in}
use Rattle.gl_plain.specs.Tags.{first_values, named_with, values_from}
use Rattle.gl_vm.specs.View.{stamps}

module _ (g : ℕ → Pair) where
  abbrev pub given : List Id → List V
  given is = map (λ r. (g r).value) (stamps is)

  pub firsts : (k : ℕ) (is : List Id) → first_values k (values_in (map g (stamps is))) ≡ given (take k is)
  firsts zero is = refl
  firsts (suc k) [] = refl
  firsts (suc k) (i ∷ is) = ap (λ vs. (g i.1).value ∷ vs) (firsts k is)

  pub lasts : (k : ℕ) (is : List Id) → values_from k (values_in (map g (stamps is))) ≡ given (drop k is)
  lasts zero [] = refl
  lasts zero (i ∷ is) = ap (λ vs. (g i.1).value ∷ vs) (lasts zero is)
  lasts (suc k) [] = refl
  lasts (suc k) (i ∷ is) = lasts k is

  -- a name more
  pub pair_next : (ns : List Text) (is : List Id) (k : ℕ) (n : Text) (i : Id) → k < length ns → n ≡ get_or ns k n → k < length is → i ≡ get_or is k i
      → named_with (drop k ns) (given (drop k is)) ≡ (n, (g i.1).value) ∷ named_with (drop (k + 1) ns) (given (drop (k + 1) is))
  pair_next ns is k n i l e m d = ap₂ (λ xs ys. named_with xs (given ys)) (drop_item ns k n l e) (drop_item is k i m d)

  none_named : (ns : List Text) → named_with ns [] ≡ []
  none_named [] = refl
  none_named (n ∷ ns) = refl

  -- no name is left, or no reference
  pub names_end : (ns : List Text) (is : List Id) (k : ℕ) → length ns ≤ k → named_with (drop k ns) (given (drop k is)) ≡ []
  names_end ns is k l = ap (λ xs. named_with xs (given (drop k is))) (drop_all k ns l)

  pub ids_end : (ns : List Text) (is : List Id) (k : ℕ) → length is ≤ k → named_with (drop k ns) (given (drop k is)) ≡ []
  ids_end ns is k l = ap (λ ys. named_with (drop k ns) (given ys)) (drop_all k is l) ∙ none_named (drop k ns)
