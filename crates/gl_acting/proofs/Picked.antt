-- Where a look-up among several gives something, one of them gives it.
use Rattle.std.proofs.Common.{◌≡◌, Bool, true, false, Option, Some, None, refl, inl, inr, ◌⊎◌}
use Rattle.std.specs.Prelude.{if◌then◌else◌}
use Rattle.gl_base.specs.Names.{or_else}
use Rattle.gl_meaning.proofs.Pieces.{some_same}

pub picked_either : {A : Type 0} (a b : Option A) (y : A) → or_else a b ≡ Some y → (a ≡ Some y) ⊎ (b ≡ Some y)
picked_either None b y e = inr e
picked_either (Some x) b y e = inl e

pub picked_own : {A : Type 0} (b : Bool) (x y : A) (o : Option A) → (if b then Some x else o) ≡ Some y → ((b ≡ true) × (x ≡ y)) ⊎ (o ≡ Some y)
picked_own true x y o e = inl (refl, some_same x y e)
picked_own false x y o e = inr e
