-- Updates, one after another.
use Rattle.std.proofs.Common.{◌≡◌, ℕ, max, Bool, refl, sym, ◌∙◌, ap, arith}
use Rattle.gl_meaning.specs.Scope.{Source}
use Rattle.gl_meaning.specs.View.{manifest_view}
use Rattle.gl_opc.specs.declared.app.App.{App}
use Rattle.gl_plain.specs.Naming.{by_number}
use Rattle.gl_plain.specs.State.{State}
use Rattle.gl_machine.specs.Outcome.{Outcome, ok, on_ok}
use Rattle.gl_machine.specs.RenewCode.{Runs}
use Rattle.gl_machine.specs.Step.{run_for_as}
use Rattle.gl_vm.specs.View.{Tables, state_of}
use Rattle.gl_vm.specs.Steps.{Follows, Does}
use Rattle.gl_vm.specs.declared.vm.Vm.{Vm}
use Rattle.gl_code.specs.Cells.{CellList, store_of}
use Rattle.gl_code.specs.Tables.{tables_of, env_of}
use Rattle.gl_code.specs.declared.fault.VmFault.{VmFault}
use Rattle.gl_code.specs.declared.fault.VmFault.TheVariants as fault
use Rattle.gl_code.specs.Renewing.{Renewal, Renews, RenewFails}

module _ (a : App) (cells : CellList) where
  -- What is done needs no body.
  pub renews_by : {A : Type 0} (d : Tables → State → State) (x : Tables → A) (old new : Vm) → Does d old new → Renews a cells (λ n run st. ok (x n, d n st)) old x new
  renews_by d x old new e ts rise u agrees =
      let n = tables_of (manifest_view a.manifest) in record { steps = 0; state = d n (state_of n old u); follows = e n u agrees; is = λ k less. refl }

  -- the same function of what is kept
  pub renews_same : {A : Type 0} (f g : Renewal A) (x : Tables → A) (old new : Vm) → ((n : Tables) (run : Runs) (u : Source → Bool) → f n run (state_of n old u) ≡ g n run (state_of n old u))
      → Renews a cells f old x new → Renews a cells g old x new
  renews_same f g x old new e r ts rise u agrees =
      let env = env_of a ts in
      let n = tables_of (manifest_view a.manifest) in
      let y = r ts rise u agrees in
      record { steps = y.steps; state = y.state; follows = y.follows; is = λ k less. sym (e n (run_for_as by_number env (store_of env.app cells) k) u) ∙ y.is k less }

  -- the same answer
  pub renews_as : {A : Type 0} (f : Renewal A) (x y : Tables → A) (old new : Vm) → ((n : Tables) → x n ≡ y n) → Renews a cells f old x new → Renews a cells f old y new
  renews_as f x y old new e r ts rise u agrees =
      let n = tables_of (manifest_view a.manifest) in
      let z = r ts rise u agrees in record { steps = z.steps; state = z.state; follows = z.follows; is = λ k less. z.is k less ∙ ap (λ w. ok (w, z.state)) (e n) }

  -- one after another
  pub renews_then : {A B : Type 0} (f : Renewal A) (g : Tables → A → Runs → State → Outcome (B × State)) (x : Tables → A) (y : Tables → B) (old mid new : Vm)
      → Renews a cells f old x mid → Renews a cells (λ n run st. g n (x n) run st) mid y new
      → Renews a cells (λ n run st. on_ok (f n run st) (λ r. g n r.0 run r.1)) old y new
  renews_then {A} {B} f g x y old mid new p q ts rise u agrees =
      let env = env_of a ts in
      let n = tables_of (manifest_view a.manifest) in
      let run : ℕ → Runs = λ k. run_for_as by_number env (store_of env.app cells) k in
      let v = p ts rise u agrees in
      let w = q ts rise v.state.touched v.follows.agrees in
      record {
        steps = max v.steps w.steps;
        state = w.state;
        follows = w.follows;
        is = λ k less. ap (λ (o : Outcome (A × State)). on_ok o (λ r. g n r.0 (run k) r.1)) (v.is k (omega (arith, less)))
            ∙ (ap (g n (x n) (run k)) (sym v.follows.state) ∙ w.is k (omega (arith, less)));
      }

  -- something is done first
  pub does_renews : {A : Type 0} (d : Tables → State → State) (f : Renewal A) (x : Tables → A) (old mid new : Vm) → Does d old mid → Renews a cells f mid x new → Renews a cells (λ n run st. f n run (d n st)) old x new
  does_renews d f x old mid new e r ts rise u agrees =
      let env = env_of a ts in
      let n = tables_of (manifest_view a.manifest) in
      let v : Follows n (d n (state_of n old u)) mid = e n u agrees in
      let w = r ts rise (d n (state_of n old u)).touched v.agrees in
      record {
        steps = w.steps;
        state = w.state;
        follows = w.follows;
        is = λ k less. ap (f n (run_for_as by_number env (store_of env.app cells) k)) (sym v.state) ∙ w.is k less;
      }

  -- nothing is done
  pub renews_still : {A : Type 0} (x : Tables → A) (vm : Vm) → Renews a cells (λ n run st. ok (x n, st)) vm x vm
  renews_still x vm ts rise u agrees =
      let n = tables_of (manifest_view a.manifest) in record { steps = 0; state = state_of n vm u; follows = record { state = refl; agrees = agrees }; is = λ k less. refl }

  -- and then something is done, and the answer stands in another
  pub renews_does : {A B : Type 0} (f : Renewal A) (h : Tables → A → B) (d : Tables → State → State) (x : Tables → A) (old mid new : Vm) → Renews a cells f old x mid → Does d mid new
      → Renews a cells (λ n run st. on_ok (f n run st) (λ r. ok (h n r.0, d n r.1))) old (λ n. h n (x n)) new
  renews_does f h d x old mid new p e = renews_then f (λ n v run st. ok (h n v, d n st)) x (λ n. h n (x n)) old mid new p (renews_by d (λ n. h n (x n)) mid new e)

  -- the answer stands in another
  pub renews_in : {A B : Type 0} (f : Renewal A) (h : Tables → A → B) (x : Tables → A) (old new : Vm) → Renews a cells f old x new
      → Renews a cells (λ n run st. on_ok (f n run st) (λ r. ok (h n r.0, r.1))) old (λ n. h n (x n)) new
  renews_in f h x old new p = renews_then f (λ n v run st. ok (h n v, st)) x (λ n. h n (x n)) old new new p (renews_still (λ n. h n (x n)) new)

  -- what is so for the manifest's names is so
  pub renews_at : {A : Type 0} (f : Tables → Renewal A) (x : Tables → Tables → A) (old new : Vm) → ((m : Tables) → Renews a cells (f m) old (x m) new) → Renews a cells (λ n. f n n) old (λ n. x n n) new
  renews_at f x old new r ts rise u agrees = r (tables_of (manifest_view a.manifest)) ts rise u agrees

  pub fails_at : {A : Type 0} (f : Tables → Renewal A) (old : Vm) (e : VmFault) → ((m : Tables) → RenewFails a cells (f m) old e) → RenewFails a cells (λ n. f n n) old e
  fails_at f old fault.Memory r = tt
  fails_at f old fault.NestingLimit r = λ ts rise u agrees. r (tables_of (manifest_view a.manifest)) ts rise u agrees

  -- Faults

  pub fails_same : {A : Type 0} (f g : Renewal A) (old : Vm) (e : VmFault) → ((n : Tables) (run : Runs) (u : Source → Bool) → f n run (state_of n old u) ≡ g n run (state_of n old u))
      → RenewFails a cells f old e → RenewFails a cells g old e
  fails_same f g old fault.Memory e r = tt
  fails_same f g old fault.NestingLimit e r = λ ts rise u agrees.
      let env = env_of a ts in
      let n = tables_of (manifest_view a.manifest) in
      let y = r ts rise u agrees in (y.0, λ k less. sym (e n (run_for_as by_number env (store_of env.app cells) k) u) ∙ y.1 k less)

  -- the first of two fails
  pub fails_first : {A B : Type 0} (f : Renewal A) (g : Tables → A → Runs → State → Outcome (B × State)) (old : Vm) (e : VmFault) → RenewFails a cells f old e
      → RenewFails a cells (λ n run st. on_ok (f n run st) (λ r. g n r.0 run r.1)) old e
  fails_first f g old fault.Memory r = tt
  fails_first {A} f g old fault.NestingLimit r = λ ts rise u agrees.
      let env = env_of a ts in
      let n = tables_of (manifest_view a.manifest) in
      let run : ℕ → Runs = λ k. run_for_as by_number env (store_of env.app cells) k in
      let y = r ts rise u agrees in (y.0, λ k less. ap (λ (o : Outcome (A × State)). on_ok o (λ r. g n r.0 (run k) r.1)) (y.1 k less))

  -- what comes after it does not matter
  pub fails_in : {A B : Type 0} (f : Renewal A) (h : Tables → A → B) (d : Tables → State → State) (old : Vm) (e : VmFault) → RenewFails a cells f old e
      → RenewFails a cells (λ n run st. on_ok (f n run st) (λ r. ok (h n r.0, d n r.1))) old e
  fails_in f h d old e r = fails_first f (λ n v run st. ok (h n v, d n st)) old e r

  -- the second fails
  pub fails_then : {A B : Type 0} (f : Renewal A) (g : Tables → A → Runs → State → Outcome (B × State)) (x : Tables → A) (old mid : Vm) (e : VmFault)
      → Renews a cells f old x mid → RenewFails a cells (λ n run st. g n (x n) run st) mid e
      → RenewFails a cells (λ n run st. on_ok (f n run st) (λ r. g n r.0 run r.1)) old e
  fails_then f g x old mid fault.Memory p q = tt
  fails_then {A} f g x old mid fault.NestingLimit p q = λ ts rise u agrees.
      let env = env_of a ts in
      let n = tables_of (manifest_view a.manifest) in
      let run : ℕ → Runs = λ k. run_for_as by_number env (store_of env.app cells) k in
      let v = p ts rise u agrees in
      let w = q ts rise v.state.touched v.follows.agrees in (
        max v.steps w.0,
        λ k less. ap (λ (o : Outcome (A × State)). on_ok o (λ r. g n r.0 (run k) r.1)) (v.is k (omega (arith, less)))
            ∙ (ap (g n (x n) (run k)) (sym v.follows.state) ∙ w.1 k (omega (arith, less))),
      )

  -- something was done first
  pub does_fails : {A : Type 0} (d : Tables → State → State) (f : Renewal A) (old mid : Vm) (e : VmFault) → Does d old mid → RenewFails a cells f mid e → RenewFails a cells (λ n run st. f n run (d n st)) old e
  does_fails d f old mid fault.Memory p q = tt
  does_fails d f old mid fault.NestingLimit p q = λ ts rise u agrees.
      let env = env_of a ts in
      let n = tables_of (manifest_view a.manifest) in
      let v : Follows n (d n (state_of n old u)) mid = p n u agrees in
      let w = q ts rise (d n (state_of n old u)).touched v.agrees in
      (w.0, λ k less. ap (f n (run_for_as by_number env (store_of env.app cells) k)) (sym v.state) ∙ w.1 k less)
