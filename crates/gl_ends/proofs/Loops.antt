-- Loops that end one thing after another.
use Rattle.std.proofs.Common.{◌≡◌, ℕ, ◌+◌, ◌<◌, ◌≤◌, List, [], ◌∷◌, ◌++◌, drop, length, get_or, refl, sym, ap, ◌∙◌, arith}
use Rattle.std.proofs.lemmas.List.{drop_all, map-append}
use Rattle.gl_base.proofs.Lists.{drop_item}
use Rattle.gl_arena.specs.Id.{Id}
use Rattle.gl_plain.specs.Ids.{Id as Name, ref, hit, occurs}
use Rattle.gl_plain.proofs.Moves.{occurs_append}
use Rattle.gl_vm.specs.Led.{Led}
use Rattle.gl_vm.specs.View.{Tables}
use Rattle.gl_vm.specs.declared.vm.Vm.{Vm}
use Rattle.gl_code.specs.View.{refs_made}
use Rattle.gl_ends.specs.Ending.{Ends}
use Rattle.gl_ends.proofs.Joins.{ends_nothing, ends_as, ends_then}

-- the sum over a list
abbrev pub total : {T : Type 0} → (Name → T → ℕ) → Name → List T → ℕ
total one q [] = 0
total one q (x ∷ xs) = one q x + total one q xs

-- where what is left from a place on ends, all ends
abbrev pub Left : {T : Type 0} → (Tables → Name → T → ℕ) → List T → ℕ → Vm → Vm → Type 0
Left one xs i first now = (n : Tables) (v : Vm) → Ends n (λ q. total (one n) q (drop i xs)) now v → Ends n (λ q. total (one n) q xs) first v

module _ {T : Type 0} (one : Tables → Name → T → ℕ) (xs : List T) (i : ℕ) (first now : Vm) (left : Left one xs i first now) where
  pub left_step : (x : T) (new : Vm) → i < length xs → x ≡ get_or xs i x → (Led now.refs → Led new.refs) → ((n : Tables) → Ends n (λ q. one n q x) now new) → Left one xs (i + 1) first new
  left_step x new lt is stays e n v h =
      left n v (ends_then n now new v (λ q. one n q x) (λ q. total (one n) q (drop (i + 1) xs)) (λ q. total (one n) q (drop i xs))
      (λ q. let w = ap (total (one n) q) (drop_item xs i x lt is) in omega (arith, w)) stays (e n) h)

  pub left_done : length xs ≤ i → (n : Tables) → Ends n (λ q. total (one n) q xs) first now
  left_done le n = left n now (ends_as n now now (λ q. 0) (λ q. total (one n) q (drop i xs)) (λ q. sym (ap (total (one n) q) (drop_all i xs le))) (ends_nothing n now))

-- References, from the last to the first.

-- where those that are left end, all end
abbrev pub LeftBefore : List Id → List Id → Vm → Vm → Type 0
LeftBefore all left first now = (n : Tables) (v : Vm) → Ends n (λ q. occurs q (refs_made left)) now v → Ends n (λ q. occurs q (refs_made all)) first v

module _ (all left : List Id) (first now : Vm) (h : LeftBefore all left first now) where
  pub before_step : (x : Id) (rest : List Id) (new : Vm) → left ≡ rest ++ x ∷ [] → (Led now.refs → Led new.refs) → ((n : Tables) → Ends n (λ q. hit q (ref x.1)) now new) → LeftBefore all rest first new
  before_step x rest new is stays e n v r =
      h n v (ends_then n now new v (λ q. hit q (ref x.1)) (λ q. occurs q (refs_made rest)) (λ q. occurs q (refs_made left))
      (λ q. let w = ap (λ l. occurs q (refs_made l)) is ∙ (ap (occurs q) (map-append (λ (i : Id). ref i.1) rest (x ∷ [])) ∙ occurs_append q (refs_made rest) (ref x.1 ∷ [])) in omega (arith, w)) stays (e n) r)

  pub before_done : length left ≡ 0 → (n : Tables) → Ends n (λ q. occurs q (refs_made all)) first now
  before_done e n = h n now (ends_as n now now (λ q. 0) (λ q. occurs q (refs_made left)) (λ q. sym (none left e q)) (ends_nothing n now)) where
    none : (l : List Id) → length l ≡ 0 → (q : Name) → occurs q (refs_made l) ≡ 0
    none [] e q = refl
    none (x ∷ xs) e q = absurd (omega (arith, e))
