-- Laws of reading as many as stand there.
use Rattle.std.proofs.Common.{◌≡◌, ◌≤◌, ◌<◌, ℕ, zero, suc, List, [], ◌∷◌, ◌++◌, Bool, true, false, length, Option, Some, None, refl, sym, ap, ◌∙◌, append_assoc, append-nil, arith}
use Rattle.gl_base.specs.Answers.{◌>>=◌}
use Rattle.gl_ast.specs.declared.token.Token.{Token}
use Rattle.gl_exprs.specs.Fault.{Fails}
use Rattle.gl_exprs.specs.Take.{Taken, read_many, with_front}
use Rattle.gl_exprs.specs.declared.fault.Misread.{Misread}
use Rattle.gl_exprs.specs.declared.fault.Misread.TheVariants as f

-- where nothing can be read, more can't be read either
pub fails_on : {A B : Type 0} (e : Misread) (read : Option A) (all : Option B) → (read ≡ None → all ≡ None) → Fails e read → Fails e all
fails_on f.NotSpelled read all h g = h g
fails_on f.Memory read all h g = tt

pub with_front_nil : {A B : Type 0} (read : Option (List A × B)) → with_front [] read ≡ read
with_front_nil None = refl
with_front_nil (Some x) = refl

with_front_more : {A B : Type 0} (done : List A) (s : A) (read : Option (List A × B)) → with_front (done ++ s ∷ []) read ≡ with_front done (read >>= λ more. Some (s ∷ more.0, more.1))
with_front_more done s None = refl
with_front_more done s (Some x) = ap (λ l. Some (l, x.1)) (append_assoc done (s ∷ []) x.0)

-- these were read, and what is left to read gives all with them
abbrev pub IsLeft : {A : Type 0} → (List Token → Bool) → (List Token → Taken A) → List A → List Token → Taken (List A) → Type 0
IsLeft starts one done ts all = (n : ℕ) × (length ts ≤ n) × (with_front done (read_many starts one n ts) ≡ all)

pub many_start : {A : Type 0} (starts : List Token → Bool) (one : List Token → Taken A) (ts : List Token) → IsLeft starts one [] ts (read_many starts one (length ts) ts)
many_start starts one ts = (length ts, omega arith, with_front_nil (read_many starts one (length ts) ts))

pub many_after : {A : Type 0} (starts : List Token → Bool) (one : List Token → Taken A) (done : List A) (ts : List Token) → IsLeft starts one done ts (with_front done (read_many starts one (length ts) ts))
many_after starts one done ts = (length ts, omega arith, refl)

step : {A : Type 0} (starts : List Token → Bool) (one : List Token → Taken A) (done : List A) (n : ℕ) (ts : List Token) (x : A × List Token) (all : Taken (List A)) → starts ts ≡ true → one ts ≡ Some x → with_front done (read_many starts one (suc n) ts) ≡ all → with_front (done ++ x.0 ∷ []) (read_many starts one n x.1) ≡ all
unfolding read_many
step starts one done n ts x all going is e = with_front_more done x.0 (read_many starts one n x.1) ∙ rw (going, is) at e

go : {A : Type 0} (starts : List Token → Bool) (one : List Token → Taken A) (done : List A) (n : ℕ) (ts : List Token) (x : A × List Token) (all : Taken (List A)) → starts ts ≡ true → one ts ≡ Some x → length x.1 < length ts → length ts ≤ n → with_front done (read_many starts one n ts) ≡ all → IsLeft starts one (done ++ x.0 ∷ []) x.1 all
go starts one done zero ts x all going is less fits e = absurd (omega arith)
go starts one done (suc n) ts x all going is less fits e = (n, omega arith, step starts one done n ts x all going is e)

-- one more was read
pub many_go : {A : Type 0} (starts : List Token → Bool) (one : List Token → Taken A) (done : List A) (ts : List Token) (x : A × List Token) (all : Taken (List A)) → starts ts ≡ true → one ts ≡ Some x → length x.1 < length ts → IsLeft starts one done ts all → IsLeft starts one (done ++ x.0 ∷ []) x.1 all
many_go starts one done ts x all going is less left = go starts one done left.0 ts x all going is less left.1 left.2

fail : {A : Type 0} (starts : List Token → Bool) (one : List Token → Taken A) (n : ℕ) (done : List A) (ts : List Token) (all : Taken (List A)) → starts ts ≡ true → one ts ≡ None → with_front done (read_many starts one n ts) ≡ all → all ≡ None
unfolding read_many
fail starts one zero done ts all going is e = sym (rw going at e)
fail starts one (suc n) done ts all going is e = sym (rw (going, is) at e)

-- one more can't be read
pub many_fail : {A : Type 0} (starts : List Token → Bool) (one : List Token → Taken A) (done : List A) (ts : List Token) (all : Taken (List A)) → starts ts ≡ true → IsLeft starts one done ts all → one ts ≡ None → all ≡ None
many_fail starts one done ts all going left is = fail starts one left.0 done ts all going is left.2

pub many_stop : {A : Type 0} (starts : List Token → Bool) (one : List Token → Taken A) (n : ℕ) (ts : List Token) → starts ts ≡ false → read_many starts one n ts ≡ Some ([], ts)
unfolding read_many
many_stop starts one zero ts e = rw e refl
many_stop starts one (suc n) ts e = rw e refl

-- no more comes
pub many_end : {A : Type 0} (starts : List Token → Bool) (one : List Token → Taken A) (done : List A) (ts : List Token) (all : Taken (List A)) → starts ts ≡ false → IsLeft starts one done ts all → all ≡ Some (done, ts)
many_end starts one done ts all ends left = sym left.2 ∙ ap (with_front done) (many_stop starts one left.0 ts ends) ∙ ap (λ l. Some (l, ts)) (append-nil done)
