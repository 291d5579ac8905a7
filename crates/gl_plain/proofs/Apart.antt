-- Places that stand below one place at different steps are apart.
use Rattle.std.proofs.Common.{◌≡◌, ◌≤◌, ℕ, suc, List, [], ◌∷◌, true, true≢false, refl, sym, ◌∙◌, ap, subst, arith, inl, inr, ◌⊎◌}
use Rattle.gl_value.specs.Value.{undefined}
use Rattle.gl_ast.specs.Template.{Plain}
use Rattle.gl_meaning.specs.Path.{PathStep, at, item, Path}
use Rattle.gl_meaning.specs.Scope.{Source, cell, item_value, item_index}
use Rattle.gl_meaning.specs.Render.{Entry}
use Rattle.gl_meaning.specs.Laws.{Within, source_path}
use Rattle.gl_meaning.proofs.Equal.{both_left}
use Rattle.gl_meaning.proofs.Once.{Later}
use Rattle.gl_meaning.proofs.Under.{within_itself, within_outer, steps_apart, not_below}
use Rattle.gl_plain.specs.State.{source_eq}
use Rattle.gl_plain.proofs.Syncs.{path-Decides}

-- the place stands at a step below p that is one of these, or below it
abbrev pub Into : Path → (PathStep → Type 0) → Path → Type 0
Into p S j = (l : PathStep) × S l × Within (l ∷ p) j

-- the place stands so, or at or above p
abbrev pub Near : Path → (PathStep → Type 0) → Path → Type 0
Near p S j = Within j p ⊎ Into p S j

abbrev pub AnyStep : PathStep → Type 0
AnyStep l = Unit {0}

abbrev pub NoStep : PathStep → Type 0
NoStep l = ⊥

abbrev pub Only : PathStep → PathStep → Type 0
Only k l = l ≡ k

abbrev pub FromStep : ℕ → PathStep → Type 0
FromStep n l = (k : ℕ) × (n ≤ k) × (l ≡ at k)

abbrev pub StepsOf : List Entry → PathStep → Type 0
StepsOf [] l = ⊥
StepsOf (x ∷ xs) l = (l ≡ item x.key x.occurrence) ⊎ StepsOf xs l

within_through : (i j k : Path) → Within i j → Within j k → Within i k
within_through i j [] a b = subst (λ z. Within i z) b a
within_through i j (l ∷ k) a (inl q) = subst (λ z. Within i z) q a
within_through i j (l ∷ k) a (inr b) = inr (within_through i j k a b)

pub into_more : (p : Path) (S S' : PathStep → Type 0) → ((l : PathStep) → S l → S' l) → (j : Path) → Into p S j → Into p S' j
into_more p S S' i j w = (w.0, i w.0 w.1, w.2)

pub near_more : (p : Path) (S S' : PathStep → Type 0) → ((l : PathStep) → S l → S' l) → (j : Path) → Near p S j → Near p S' j
near_more p S S' i j (inl w) = inl w
near_more p S S' i j (inr w) = inr (w.0, i w.0 w.1, w.2)

-- a place is not near by some steps and below others
pub far : (p : Path) (S S' : PathStep → Type 0) → ((l : PathStep) → S l → S' l → ⊥) → (j : Path) → Near p S j → Into p S' j → ⊥
far p S S' apart j (inl w) v = not_below v.0 p (within_through (v.0 ∷ p) j p v.2 w)
far p S S' apart j (inr w) v = apart w.0 w.1 (subst S' (steps_apart v.0 w.0 p j v.2 w.2) v.1)

pub child_into : (l : PathStep) (p : Path) (S : PathStep → Type 0) (j : Path) → Into (l ∷ p) S j → Into p (Only l) j
child_into l p S j w = (l, refl, within_outer w.0 (l ∷ p) j w.2)

pub child_near : (l : PathStep) (p : Path) (S : PathStep → Type 0) (j : Path) → Near (l ∷ p) S j → Near p (Only l) j
child_near l p S j (inl (inl e)) = inr (l, refl, subst (λ z. Within (l ∷ p) z) (sym e) (within_itself (l ∷ p)))
child_near l p S j (inl (inr w)) = inl w
child_near l p S j (inr w) = inr (child_into l p S j w)

abbrev at_number : PathStep → ℕ
at_number (at n) = n
at_number _ = 0

abbrev item_key : PathStep → Plain
item_key (item k n) = k
item_key _ = undefined

abbrev item_number : PathStep → ℕ
item_number (item k n) = n
item_number _ = 0

pub later_apart : (k : Plain) (n : ℕ) (xs : List Entry) → Later k (suc n) xs → (l : PathStep) → l ≡ item k n → StepsOf xs l → ⊥
later_apart k n [] h l e w = w
later_apart k n (y ∷ ys) h l e (inl f) =
    let a : k ≡ y.key = ap item_key (sym e ∙ f) in
    let b : n ≡ y.occurrence = ap item_number (sym e ∙ f) in
    let c = h.0 (sym a) in absurd (omega (arith, b, c))
later_apart k n (y ∷ ys) h l e (inr w) = later_apart k n ys h.1 l e w

pub from_apart : (i : ℕ) (l : PathStep) → l ≡ at i → FromStep (suc i) l → ⊥
from_apart i l e w = let a : i ≡ w.0 = ap at_number (sym e ∙ w.2) in let b = w.1 in omega (arith, a, b)

-- the root is above each place
pub root_above : (p : Path) → Within [] p
root_above [] = refl
root_above (l ∷ p) = inr (root_above p)

-- equal sources stand at one place
pub source_means : (y x : Source) → source_eq y x ≡ true → source_path y ≡ source_path x
source_means (cell p a) (cell q b) e = (path-Decides p q).0 (both_left _ _ e)
source_means (item_value p) (item_value q) e = (path-Decides p q).0 e
source_means (item_index p) (item_index q) e = (path-Decides p q).0 e
source_means _ _ e = absurd (true≢false (sym e))
