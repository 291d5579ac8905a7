-- The places of names among getters.
use Rattle.std.proofs.Common.{◌≡◌, ℕ, zero, suc, ◌+◌, ◌<◌, ◌≤◌, Bool, true, false, cond, List, [], ◌∷◌, length, refl, ap, sym, ◌∙◌, subst, arith, Option, Some, None, option_map, slice_get}
use Rattle.std.specs.List.{position, position_from}
use Rattle.std.specs.Str.{bytes_eq}
use Rattle.std.proofs.lemmas.Iterator.Adapters.{position_from-zero}
use Rattle.std.proofs.lemmas.Bool.{false≢true}
use Rattle.std.proofs.lemmas.Option.{slice_get_within}
use Rattle.std.proofs.lemmas.Slice.Eq.{bytes_eq-Decides}
use Rattle.gl_base.specs.Texts.{Text}
use Rattle.gl_base.specs.Names.{named}
use Rattle.gl_ast.specs.Template.{Expr}
use Rattle.gl_ast.specs.View.{seen_pairs}
use Rattle.gl_ast.specs.declared.expr.NamedExpr.{NamedExpr}
use Rattle.gl_cycles.specs.Marks.{Getters, place}

from_step : (b : Bool) (k : ℕ) (found : Option ℕ) (rest : Option ℕ) → found ≡ option_map (λ j. (k + 1) + j) rest → cond b (Some k) found ≡ option_map (λ j. k + j) (cond b (Some 0) (option_map (λ j. suc j) rest))
from_step true k found rest h = ap (λ (n : ℕ). Some n) (omega arith)
from_step false k found None h = h
from_step false k found (Some j) h = h ∙ ap (λ (n : ℕ). Some n) (omega arith)

from_place : (n : Text) (k : ℕ) (gs : List NamedExpr) → position_from (λ (g : NamedExpr). bytes_eq n g.name) k gs ≡ option_map (λ j. k + j) (place n (seen_pairs gs))
from_place n k [] = refl
from_place n k (g ∷ gs) = from_step (bytes_eq n g.name) k _ _ (from_place n (k + 1) gs)

none_added : (o : Option ℕ) → option_map (λ j. 0 + j) o ≡ o
none_added None = refl
none_added (Some j) = ap (λ (n : ℕ). Some n) (omega arith)

pub position-place : (n : Text) (gs : List NamedExpr) → position (λ (g : NamedExpr). bytes_eq n g.name) gs ≡ place n (seen_pairs gs)
position-place n gs = position_from-zero (λ (g : NamedExpr). bytes_eq n g.name) gs ∙ (from_place n 0 gs ∙ none_added _)

after_step : (n : Text) (g : Text × Expr) (gs : Getters) (o : Option ℕ) → ((j : ℕ) → place n gs ≡ Some j → (e : Expr) × (slice_get gs j ≡ Some (n, e)) × (named n gs ≡ Some e))
    → place n gs ≡ o → (j : ℕ) → option_map (λ k. suc k) o ≡ Some j → (e : Expr) × (slice_get (g ∷ gs) j ≡ Some (n, e)) × (named n gs ≡ Some e)
after_step n g gs None rest is j h = absurd cc
after_step n g gs (Some k) rest is j h =
    let same : suc k ≡ j = cc in
    subst (λ (i : ℕ). (e : Expr) × (slice_get (g ∷ gs) i ≡ Some (n, e)) × (named n gs ≡ Some e)) same (rest k is)

-- The getter at the place of a name is the one of that name.
place_step : (b : Bool) (n : Text) (g : Text × Expr) (gs : Getters) → (b ≡ true → n ≡ g.0) → ((j : ℕ) → place n gs ≡ Some j → (e : Expr) × (slice_get gs j ≡ Some (n, e)) × (named n gs ≡ Some e))
    → (j : ℕ) → cond b (Some 0) (option_map (λ k. suc k) (place n gs)) ≡ Some j → (e : Expr) × (slice_get (g ∷ gs) j ≡ Some (n, e)) × (cond b (Some g.1) (named n gs) ≡ Some e)
place_step true n g gs same rest zero h = (g.1, ap (λ (x : Text). Some (x, g.1)) (sym (same refl)), refl)
place_step true n g gs same rest (suc j) h = let no : 0 ≡ suc j = cc in absurd (omega (arith, no))
place_step false n g gs same rest j h = after_step n g gs (place n gs) rest refl j h

pub placed : (n : Text) (gs : Getters) (j : ℕ) → place n gs ≡ Some j → (e : Expr) × (slice_get gs j ≡ Some (n, e)) × (named n gs ≡ Some e)
placed n [] j h = absurd cc
placed n (g ∷ gs) j h = place_step (bytes_eq n g.0) n g gs (bytes_eq-Decides n g.0).0 (λ k q. placed n gs k q) j h

-- A name that has a getter has a place.
named_step : (b : Bool) (e1 e : Expr) (o : Option Expr) (p : Option ℕ) → (o ≡ Some e → (j : ℕ) × (p ≡ Some j)) → cond b (Some e1) o ≡ Some e → (j : ℕ) × (cond b (Some 0) (option_map (λ k. suc k) p) ≡ Some j)
named_step true e1 e o p rest h = (0, refl)
named_step false e1 e o p rest h = let r = rest h in (suc r.0, ap (λ (q : Option ℕ). option_map (λ k. suc k) q) r.1)

pub named_placed : (n : Text) (gs : Getters) (e : Expr) → named n gs ≡ Some e → (j : ℕ) × (place n gs ≡ Some j)
named_placed n [] e h = absurd cc
named_placed n (g ∷ gs) e h = named_step (bytes_eq n g.0) g.1 e (named n gs) (place n gs) (λ q. named_placed n gs e q) h

-- The place of a getter's name is at the getter or before it.
before_step : (b : Bool) (p : Option ℕ) (i : ℕ) → (j : ℕ) × (p ≡ Some j) × (j ≤ i) → (j : ℕ) × (cond b (Some 0) (option_map (λ k. suc k) p) ≡ Some j) × (j ≤ suc i)
before_step true p i r = (0, refl, omega arith)
before_step false p i r = (suc r.0, ap (λ (q : Option ℕ). option_map (λ k. suc k) q) r.1, omega (arith, r.2))

first_step : (b : Bool) (p : Option ℕ) → b ≡ true → (j : ℕ) × (cond b (Some 0) (option_map (λ k. suc k) p) ≡ Some j) × (j ≤ 0)
first_step true p e = (0, refl, omega arith)
first_step false p e = absurd (false≢true e)

bytes_eq-same : (n m : Text) → m ≡ n → bytes_eq n m ≡ true
bytes_eq-same n m e = (bytes_eq-Decides n m).1 (sym e)

some_same : {A : Type 0} {x y : A} → Some x ≡ Some y → x ≡ y
some_same h = cc

pub place_before : (n : Text) (e : Expr) (gs : Getters) (i : ℕ) → slice_get gs i ≡ Some (n, e) → (j : ℕ) × (place n gs ≡ Some j) × (j ≤ i)
place_before n e [] i h = absurd cc
place_before n e (g ∷ gs) zero h = first_step (bytes_eq n g.0) (place n gs) (bytes_eq-same n g.0 (ap (λ (x : Text × Expr). x.0) (some_same h)))
place_before n e (g ∷ gs) (suc i) h = before_step (bytes_eq n g.0) (place n gs) i (place_before n e gs i h)

pub place_below : (n : Text) (gs : Getters) (j : ℕ) → place n gs ≡ Some j → j < length gs
place_below n gs j h = let p = placed n gs j h in slice_get_within gs j (n, p.0) p.1
