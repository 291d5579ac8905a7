-- What a reading that gave something went through.
use Rattle.std.proofs.Common.{◌≡◌, Bool, true, false, Option, Some, None, cond, option_map, ◌⊎◌, inl, inr, refl}
use Rattle.gl_base.specs.Answers.{◌>>=◌}

-- the first reading gave something, and the second went on with that
pub first_gave : {A B : Type 0} (o : Option A) (f : A → Option B) (y : B) → (o >>= f) ≡ Some y → (x : A) × (o ≡ Some x) × (f x ≡ Some y)
first_gave None f y e = let h : ⊥ = cc in absurd h
first_gave (Some x) f y e = (x, refl, e)

-- the reading under a change gave something
pub under_gave : {A B : Type 0} (f : A → B) (o : Option A) (y : B) → option_map f o ≡ Some y → (x : A) × (o ≡ Some x) × (f x ≡ y)
under_gave f None y e = let h : ⊥ = cc in absurd h
under_gave f (Some x) y e = (x, refl, cc)

-- one of two readings gave it, as a test says
pub one_gave : {A : Type 0} (b : Bool) (x y : Option A) (z : A) → cond b x y ≡ Some z → ((b ≡ true) × (x ≡ Some z)) ⊎ ((b ≡ false) × (y ≡ Some z))
one_gave true x y z e = inl (refl, e)
one_gave false x y z e = inr (refl, e)

pub some_is : {A : Type 0} (x y : A) → Some x ≡ Some y → x ≡ y
some_is x y e = cc
