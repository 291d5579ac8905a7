-- Reading as many as stand there, and one after another in a relation.
use Rattle.std.proofs.Common.{◌≡◌, ◌≤◌, ◌<◌, ℕ, zero, suc, List, [], ◌∷◌, Bool, true, false, length, Some, None, refl, sym, ap, ◌∙◌, subst, arith}
use Rattle.std.specs.Prelude.{if◌then◌else◌}
use Rattle.std.proofs.lemmas.Option.{option_and_then_some, same_Some}
use Rattle.gl_base.specs.Answers.{◌>>=◌}
use Rattle.gl_ast.specs.declared.token.Token.{Token}
use Rattle.gl_exprs.specs.Take.{Taken, read_many}
use Rattle.gl_exprs.proofs.Many.{many_stop}

-- each stands in front of what the next ones leave
abbrev pub Chain : {A : Type 0} → (List Token → A → List Token → Type 0) → List Token → List A → List Token → Type 0
Chain One ts [] us = ts ≡ us
Chain One ts (x ∷ xs) us = (vs : List Token) × One ts x vs × Chain One vs xs us

none_chain : {A : Type 0} (One : List Token → A → List Token → Type 0) (ts : List Token) (x : List A × List Token) → ◌≡◌ {A = Taken (List A)} (Some ([], ts)) (Some x) → Chain One ts x.0 x.1
none_chain {A} One ts x e = subst (λ (y : List A × List Token). Chain One ts y.0 y.1) (same_Some {A = List A × List Token} ([], ts) x e) refl

more_chain : {A : Type 0} (One : List Token → A → List Token → Type 0) (ts : List Token) (y : A × List Token) (ys x : List A × List Token) → One ts y.0 y.1 → Chain One y.1 ys.0 ys.1 → ◌≡◌ {A = Taken (List A)} (Some (y.0 ∷ ys.0, ys.1)) (Some x) → Chain One ts x.0 x.1
more_chain {A} One ts y ys x one more e = subst (λ (z : List A × List Token). Chain One ts z.0 z.1) (same_Some {A = List A × List Token} (y.0 ∷ ys.0, ys.1) x e) (y.1, one, more)

-- what is read stands there
pub many_started : {A : Type 0} (starts : List Token → Bool) (one : List Token → Taken A) (One : List Token → A → List Token → Type 0) (n : ℕ) (ts : List Token) (x : List A × List Token) → ((us : List Token) (y : A × List Token) → starts us ≡ true → one us ≡ Some y → One us y.0 y.1) → read_many starts one n ts ≡ Some x → Chain One ts x.0 x.1
unfolding read_many
many_started {A} starts one One zero ts x h e = elim (starts ts) as (λ b. ◌≡◌ {A = Taken (List A)} (if b then None else Some ([], ts)) (Some x) → Chain One ts x.0 x.1) [
  | true ↦ λ f. absurd cc
  | false ↦ λ f. none_chain One ts x f
] e
many_started {A} starts one One (suc n) ts x h e = by_start (starts ts) refl (λ us y. many_started starts one One n us y h) e where
  by_start : (b : Bool) → starts ts ≡ b → ((us : List Token) (y : List A × List Token) → read_many starts one n us ≡ Some y → Chain One us y.0 y.1) → (if b then (one ts >>= λ y. (read_many starts one n y.1 >>= λ more. Some (y.0 ∷ more.0, more.1))) else Some ([], ts)) ≡ Some x → Chain One ts x.0 x.1
  by_start true g rest f = option_and_then_some _ _ x f (λ y p later. option_and_then_some _ _ x later (λ ys q last. more_chain One ts y ys x (h ts y g p) (rest y.1 ys q) last))
  by_start false g rest f = none_chain One ts x f

pub many_chain : {A : Type 0} (starts : List Token → Bool) (one : List Token → Taken A) (One : List Token → A → List Token → Type 0) (n : ℕ) (ts : List Token) (x : List A × List Token) → ((us : List Token) (y : A × List Token) → one us ≡ Some y → One us y.0 y.1) → read_many starts one n ts ≡ Some x → Chain One ts x.0 x.1
many_chain starts one One n ts x h e = many_started starts one One n ts x (λ us y g p. h us y p) e

-- what one in a chain has to do with its reading
pub record IsRead {A : Type 0} (starts : List Token → Bool) (one : List Token → Taken A) (Follow : List Token → Type 0) (ts : List Token) (x : A) (vs : List Token) : Type 0 where
  pub going : starts ts ≡ true
  pub reads : one ts ≡ Some (x, vs)
  pub less : length vs < length ts
  pub follows : Follow ts

pub chain_follows : {A : Type 0} (starts : List Token → Bool) (one : List Token → Taken A) (One : List Token → A → List Token → Type 0) (Follow : List Token → Type 0) → ((ts : List Token) (x : A) (vs : List Token) → One ts x vs → Follow vs → IsRead starts one Follow ts x vs) → (ts : List Token) (xs : List A) (us : List Token) → Chain One ts xs us → Follow us → Follow ts
chain_follows starts one One Follow h ts [] us e f = subst Follow (sym e) f
chain_follows starts one One Follow h ts (x ∷ xs) us c f = (h ts x c.0 c.1 (chain_follows starts one One Follow h c.0 xs us c.2 f)).follows

more_read : {A : Type 0} (starts : List Token → Bool) (one : List Token → Taken A) (n : ℕ) (ts vs us : List Token) (x : A) (xs : List A) → starts ts ≡ true → one ts ≡ Some (x, vs) → read_many starts one n vs ≡ Some (xs, us) → read_many starts one (suc n) ts ≡ Some (x ∷ xs, us)
unfolding read_many
more_read starts one n ts vs us x xs e f g = rw (e, f, g) refl

-- what stands there is read, where no more comes
pub chain_many : {A : Type 0} (starts : List Token → Bool) (one : List Token → Taken A) (One : List Token → A → List Token → Type 0) (Follow : List Token → Type 0) → ((ts : List Token) (x : A) (vs : List Token) → One ts x vs → Follow vs → IsRead starts one Follow ts x vs) → (n : ℕ) (ts : List Token) (xs : List A) (us : List Token) → Chain One ts xs us → starts us ≡ false → Follow us → length ts ≤ n → read_many starts one n ts ≡ Some (xs, us)
chain_many starts one One Follow h n ts [] us e ends f fits = ap (read_many starts one n) e ∙ many_stop starts one n us ends
chain_many starts one One Follow h zero ts (x ∷ xs) us c ends f fits =
    let r = h ts x c.0 c.1 (chain_follows starts one One Follow h c.0 xs us c.2 f) in
    let less = r.less in
    absurd (omega arith)
chain_many starts one One Follow h (suc n) ts (x ∷ xs) us c ends f fits =
    let r = h ts x c.0 c.1 (chain_follows starts one One Follow h c.0 xs us c.2 f) in
    let less = r.less in
    more_read starts one n ts c.0 us x xs r.going r.reads (chain_many starts one One Follow h n c.0 xs us c.2 ends f (omega arith))
