-- What is kept, step by step.
use Rattle.std.proofs.Common.{◌≡◌, Bool, List, [], ◌∷◌, refl, ◌∙◌, ap, subst, ℕ}
use Rattle.gl_meaning.specs.Scope.{Source}
use Rattle.gl_plain.specs.State.{State}
use Rattle.gl_vm.specs.View.{Tables, state_of}
use Rattle.gl_vm.specs.Steps.{Does}
use Rattle.gl_vm.specs.declared.vm.Vm.{Vm}
use Rattle.gl_parts.specs.Parts.{Comes, Leads}
use Rattle.gl_plain.specs.Binding.{place}

pub leads_then : (P Q R : Tables → State → State → Type 0) (a b c : Vm) → Leads P a b → Leads Q b c → ((n : Tables) (x y z : State) → P n x y → Q n y z → R n x z) → Leads R a c
leads_then P Q R a b c p q f n t g =
    let x : Comes n b (P n (state_of n a t)) = p n t g in
    let y : Comes n c (Q n x.state) = subst (λ st. Comes n c (Q n st)) x.follows.state (q n x.state.touched x.follows.agrees) in
    record { state = y.state; follows = y.follows; is = f n (state_of n a t) x.state y.state x.is y.is }

-- what is done is known
pub does_leads : (d : Tables → State → State) (a b : Vm) → Does d a b → Leads (λ n x y. d n x ≡ y) a b
does_leads d a b e n t g = record { state = d n (state_of n a t); follows = e n t g; is = refl }

-- nothing is done
pub leads_still : (P : Tables → State → State → Type 0) (a : Vm) → ((n : Tables) (t : Source → Bool) → P n (state_of n a t) (state_of n a t)) → Leads P a a
leads_still P a p n t g = record { state = state_of n a t; follows = record { state = refl; agrees = g }; is = p n t }

-- with what is so of the state before
pub leads_so : (P R : Tables → State → State → Type 0) (a b : Vm) → Leads P a b → ((n : Tables) (t : Source → Bool) (y : State) → P n (state_of n a t) y → R n (state_of n a t) y) → Leads R a b
leads_so P R a b p f n t g = let x = p n t g in record { state = x.state; follows = x.follows; is = f n t x.state x.is }

-- A walk over a list: the whole is what was gathered, before what the rest gives.
module _ {W V : Type 0} (whole : Tables → State → V) where
  pub walk_goes : (f g : Tables → List W → State → V) (rest more : Tables → List W) (w : Tables → W) (a b c : Vm) → ((n : Tables) → rest n ≡ w n ∷ more n)
      → Leads (λ n x y. whole n x ≡ f n (rest n) y) a b → Leads (λ n x y. (ws : List W) → f n (w n ∷ ws) x ≡ g n ws y) b c → Leads (λ n x y. whole n x ≡ g n (more n) y) a c
  walk_goes f g rest more w a b c e p q =
      leads_then (λ n x y. whole n x ≡ f n (rest n) y) (λ n x y. (ws : List W) → f n (w n ∷ ws) x ≡ g n ws y) (λ n x y. whole n x ≡ g n (more n) y) a b c p q
      (λ n x y z i j. i ∙ (ap (λ ws. f n ws y) (e n) ∙ j (more n)))

  pub walk_ends : (f : Tables → List W → State → V) (g : State → V) (rest : Tables → List W) (a b : Vm) → ((n : Tables) → rest n ≡ []) → ((n : Tables) (y : State) → f n [] y ≡ g y)
      → Leads (λ n x y. whole n x ≡ f n (rest n) y) a b → Leads (λ n x y. whole n x ≡ g y) a b
  walk_ends f g rest a b e h p =
      leads_so (λ n x y. whole n x ≡ f n (rest n) y) (λ n x y. whole n x ≡ g y) a b p (λ n t y i. i ∙ (ap (λ ws. f n ws y) (e n) ∙ h n y))

abbrev pub placed_in : List ℕ → State → State
placed_in rs st = (place (record { ids = rs; made = []; state = st })).state
