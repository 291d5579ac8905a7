-- Laws of what tokens leave due.
use Rattle.std.proofs.Common.{◌≡◌, List, [], ◌∷◌, ◌++◌, Bool, true, false, Some, None, Result, Ok, Err, length, map, refl, sym, ap, ◌∙◌, append_assoc, arith}
use Rattle.std.specs.Prelude.{IfOk, if◌then◌else◌, reverse, option_map}
use Rattle.std.proofs.lemmas.List.{map-append, reverse-append}
use Rattle.gl_parse.specs.Due as d
use Rattle.gl_parse.specs.Dues.{due_view, seen, Meets, IsStep}
use Rattle.gl_parse.specs.declared.due.Due.{Due}
use Rattle.gl_ast.specs.declared.token.Token.{Token}

pub seen_push : (xs : List Due) (x : Due) → seen (xs ++ x ∷ []) ≡ due_view x ∷ seen xs
seen_push xs x = ap reverse (map-append due_view xs (x ∷ [])) ∙ reverse-append (map due_view xs) (due_view x ∷ [])

pub seen_none : (xs : List Due) → length xs ≡ 0 → seen xs ≡ []
seen_none [] e = refl
seen_none (x ∷ xs) e = absurd (omega (arith, e))

-- and then one more
pub meets_then : {E : Type 0} (r : Result Bool E) (o : d.Dues) (x : d.Due) (old mid new : List d.Due) → mid ≡ x ∷ old → Meets r o mid new → Meets r (d.and_then x o) old new
meets_then (Ok true) (Some l) x old mid new e m = m ∙ ap (λ y. l ++ y) e ∙ sym (append_assoc l (x ∷ []) old)
meets_then (Ok true) None x old mid new e m = absurd m
meets_then (Ok false) (Some l) x old mid new e m = absurd m
meets_then (Ok false) None x old mid new e m = tt
meets_then (Err f) o x old mid new e m = tt

-- a test that leaves nothing due
pub meets_test : {E : Type 0} (r : Result Bool E) (t : Bool) (old new : List d.Due) → new ≡ old → IfOk r (λ b. b ≡ t) → Meets r (if t then Some [] else None) old new
meets_test (Ok true) true old new e h = e
meets_test (Ok true) false old new e h = let r : ⊥ = cc in absurd r
meets_test (Ok false) true old new e h = let r : ⊥ = cc in absurd r
meets_test (Ok false) false old new e h = tt
meets_test (Err f) t old new e h = tt

step_cases : {E : Type 0} (r : Result Bool E) (o : d.Dues) (rest new : List d.Due) → Meets r o rest new → IsStep r (option_map (λ l. l ++ rest) o) new
step_cases (Ok true) (Some l) rest new m = m
step_cases (Ok true) None rest new m = absurd m
step_cases (Ok false) (Some l) rest new m = absurd m
step_cases (Ok false) None rest new m = tt
step_cases (Err f) o rest new m = tt

pub meets_step : {E : Type 0} (r : Result Bool E) (x : d.Due) (t : Token) (rest new : List d.Due) → Meets r (d.due_after x t) rest new → IsStep r (d.step (x ∷ rest) t) new
meets_step r x t rest new m = step_cases r (d.due_after x t) rest new m

pub ruleset meeting = (meets_then, meets_test)

pub ruleset stacks = (seen_push, seen_none)
