-- The stack, as what it stands for.
use Rattle.std.proofs.Common.{◌≡◌, ℕ, ◌-◌, List, [], ◌∷◌, ◌++◌, map, take, drop, length, Some, sym, ◌∙◌, ap}
use Rattle.std.proofs.lemmas.List.{map-append, take-map, drop-map, length-map}
use Rattle.gl_machine.specs.Step.{popped, lower, upper}
use Rattle.gl_machine.proofs.Stacks.{popped-last}
use Rattle.gl_append.specs.MachineView.{seen_pushed, seen_stack}
use Rattle.gl_append.specs.declared.machine.Pushed.{Pushed}

pub popped_from : {A B : Type 0} (f : A → B) (xs ys : List A) (x : A) → xs ≡ ys ++ x ∷ [] → popped (map f xs) ≡ Some (map f ys, f x)
popped_from f xs ys x e = ap (λ zs. popped (map f zs)) e ∙ (ap popped (map-append f ys (x ∷ [])) ∙ popped-last (map f ys) (f x))

pub lower_of : (n : ℕ) (xs ys : List Pushed) (k : ℕ) → k ≡ length xs - n → ys ≡ take k xs → seen_stack ys ≡ lower n (seen_stack xs)
lower_of n xs ys k h e = ap seen_stack (e ∙ ap (λ j. take j xs) h) ∙ (sym (take-map seen_pushed (length xs - n) xs) ∙ ap (λ j. take (j - n) (seen_stack xs)) (sym (length-map xs seen_pushed)))

pub upper_of : (n : ℕ) (xs ys : List Pushed) (k : ℕ) → k ≡ length xs - n → ys ≡ drop k xs → seen_stack ys ≡ upper n (seen_stack xs)
upper_of n xs ys k h e = ap seen_stack (e ∙ ap (λ j. drop j xs) h) ∙ (sym (drop-map seen_pushed (length xs - n) xs) ∙ ap (λ j. drop (j - n) (seen_stack xs)) (sym (length-map xs seen_pushed)))
