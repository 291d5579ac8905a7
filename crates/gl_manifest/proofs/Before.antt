-- Whether a text stands before a place.
use Rattle.std.proofs.Common.{◌≡◌, ◌≤◌, ◌<◌, ◌+◌, ◌-◌, ℕ, suc, List, false, refl, arith}
use Rattle.std.specs.Prelude.{◌||◌}
use Rattle.serde_json.specs.Data as json
use Rattle.gl_meaning.specs.ManifestShape.{is_text, is_before}

-- from the place on none counts
pub before_none : (n at : ℕ) (s : List ℕ) (ds : json.Items) → n ≤ at → is_before (n - at) s ds ≡ false
before_none n at s json.no_items h = refl
before_none n at s (json.item d ds) h = let none : n - at ≡ 0 = omega arith in rw none refl

-- before it each does
pub before_some : (n at : ℕ) (s : List ℕ) (d : json.Data) (ds : json.Items) → at < n → is_before (n - at) s (json.item d ds) ≡ (is_text s d || is_before (n - (at + 1)) s ds)
before_some n at s d ds h = let more : n - at ≡ suc (n - (at + 1)) = omega arith in rw more refl

pub ruleset before = (before_none, before_some)
